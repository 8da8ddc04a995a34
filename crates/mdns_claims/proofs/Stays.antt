-- Which records stay own behind a plan: those of groups that it doesn't touch do.
use Rattle.std.proofs.Common.{◌≡◌, ℕ, zero, suc, ◌+◌, ◌<◌, ◌≤◌, Bool, true, false, true≢false, cond, not, ◌&&◌, ◌||◌, List, [], ◌∷◌, ◌++◌, length, get_or, drop, Option, Some, None, refl, ap, sym, subst, ◌∙◌, append-nil, arith}
use Rattle.std.specs.List.{list_all, list_any}
use Rattle.std.specs.Option.{option_map, option_map_or}
use Rattle.std.proofs.lemmas.Bool.{and_parts}
use Rattle.std.proofs.lemmas.List.{drop_all}
use Rattle.std.proofs.lemmas.List.Elements.{filter-append}
use Rattle.std.proofs.lemmas.List.Folds.{list_all-append, list_any-append}
use Rattle.dns_name.specs.Names.{folded_eq}
use Rattle.dns_record.specs.declared.record.Rr.{Rr}
use Rattle.dns_record.specs.Records.{same}
use Rattle.mdns_probe.specs.declared.claim.Claim.{Claim}
use Rattle.mdns_probe.specs.Kept.{Kept}
use Rattle.mdns_probe.proofs.Sames.{same_itself}
use Rattle.mdns_claimants.specs.Owned.{claimed, of_name, own_in}
use Rattle.mdns_claimants.proofs.Asked.{own_first}
use Rattle.mdns_claimants.proofs.Had.{any_of_name, none_same}
use Rattle.mdns_claimants.proofs.Places.{element, back_to}
use Rattle.mdns_claims.specs.declared.plan.Deed.{Deed}
use Rattle.mdns_claims.specs.Later.{Shown, shown_all, shown_own, shown_of, later_of, later_from, begun_by, TouchesNone}
use Rattle.mdns_claims.specs.Moved.{is_kept, is_moved}
use Rattle.mdns_claims.specs.Planned.{Means, kept_by}
use Rattle.mdns_claims.proofs.Ahead.{next_first, split}
use Rattle.mdns_claims.proofs.Asked.{own_option, own_begun}
use Rattle.mdns_claims.proofs.Made.{later_all, untouched}

-- to look at the records of a name alone, or at all but for those of other names, is one
kept_of : (name : List (List ℕ)) (some others : List Rr) → list_all (λ rr. list_any (same rr) (of_name name others)) (of_name name some) ≡ list_all (is_kept name others) some
kept_of name [] others = refl
kept_of name (rr ∷ some) others = of (folded_eq rr.owner name) refl (kept_of name some others)
  where
    of : (b : Bool) → folded_eq rr.owner name ≡ b → list_all (λ rr. list_any (same rr) (of_name name others)) (of_name name some) ≡ list_all (is_kept name others) some →
        list_all (λ rr. list_any (same rr) (of_name name others)) (cond b (rr ∷ of_name name some) (of_name name some)) ≡ ((not b || list_any (same rr) others) && list_all (is_kept name others) some)
    of true e rest = λ i. any_of_name name rr others e i && rest i
    of false e rest = rest

moved_kept : (name : List (List ℕ)) (own behind : List Rr) → is_moved name own behind ≡ not (list_all (is_kept name behind) own && list_all (is_kept name own) behind)
moved_kept name own behind = λ i. not (kept_of name own behind i && kept_of name behind own i)

all_more : {X : Type 0} (f g : X → Bool) → ((x : X) → f x ≡ true → g x ≡ true) → (xs : List X) → list_all f xs ≡ true → list_all g xs ≡ true
all_more f g h [] e = refl
all_more f g h (x ∷ xs) e =
    let parts = and_parts (f x) (list_all f xs) e in
    λ i. h x parts.0 i && all_more f g h xs parts.1 i

kept_if : (a b c : Bool) → b ≡ true → (not a || (b || c)) ≡ true
kept_if a true c e = of a
  where
    of : (a : Bool) → (not a || true) ≡ true
    of true = refl
    of false = refl
kept_if a false c e = absurd (cc)

-- records are among themselves and others
in_whole : (name : List (List ℕ)) (rrs more : List Rr) → list_all (is_kept name (rrs ++ more)) rrs ≡ true
in_whole name rrs more =
    all_more (λ rr. list_any (same rr) rrs) (is_kept name (rrs ++ more))
    (λ rr e. ap (λ (b : Bool). not (folded_eq rr.owner name) || b) (list_any-append (same rr) rrs more) ∙ kept_if (folded_eq rr.owner name) (list_any (same rr) rrs) (list_any (same rr) more) e)
    rrs (and_parts (list_all (λ rr. list_any (same rr) rrs) rrs) (list_all (λ rr. list_any (same rr) rrs) rrs) (same_itself rrs)).0

-- what is found of the records of a claim, if it is sure
pub any_claimed : (p : Rr → Bool) (sure : Bool) (claim : Claim) → list_any p (claimed sure claim) ≡ (sure && list_any p (claim.unique ++ claim.shared))
any_claimed p true claim = refl
any_claimed p false claim = refl

-- none is the same as a record where none that is seen has its name
pub none_shown : (rr : Rr) (o : Option Shown) → option_map_or (shown_own rr.owner) o [] ≡ [] → list_any (same rr) (option_map_or shown_all o []) ≡ false
none_shown rr None e = refl
none_shown rr (Some shown) e = of shown.sure e
  where
    of : (b : Bool) → cond b (of_name rr.owner shown.unique ++ of_name rr.owner shown.shared) [] ≡ [] → list_any (same rr) (cond b (shown.unique ++ shown.shared) []) ≡ false
    of true e = none_same rr (shown.unique ++ shown.shared) (filter-append (λ one. folded_eq one.owner rr.owner) shown.unique shown.shared ∙ e)
    of false e = refl

-- what holds of all own records holds of those of a group
of_group : (p : Rr → Bool) (kept : List Kept) (k : ℕ) (one : Kept) → k < length kept → one ≡ get_or kept k one → list_all p (own_in kept) ≡ true → list_all p (claimed one.claim.sure one.claim) ≡ true
of_group p [] k one within is e = absurd (omega (arith, within))
of_group p (first ∷ kept) zero one within is e =
    ap (λ (o : Kept). list_all p (claimed o.claim.sure o.claim)) is
    ∙ (and_parts (list_all p (claimed first.claim.sure first.claim)) (list_all p (own_in kept))
    (sym (ap (list_all p) (own_first first kept) ∙ list_all-append p (claimed first.claim.sure first.claim) (own_in kept)) ∙ e)).0
of_group p (first ∷ kept) (suc k) one within is e =
    of_group p kept k one (omega (arith, within)) is
    (and_parts (list_all p (claimed first.claim.sure first.claim)) (list_all p (own_in kept))
    (sym (ap (list_all p) (own_first first kept) ∙ list_all-append p (claimed first.claim.sure first.claim) (own_in kept)) ∙ e)).1

module _ (means : Means) (deed : Deed) where
  -- the records of a group that are seen behind a deed
  abbrev pub seen_of : ℕ → Kept → List Rr
  seen_of place one = option_map_or shown_all (option_map shown_of (later_of means deed place one)) []

  of_later : (p : Rr → Bool) (kept : List Kept) (place k at : ℕ) (one : Kept) → at ≡ k + place → k < length kept → one ≡ get_or kept k one →
      list_all p (own_in (later_from means deed place kept)) ≡ true → list_all p (seen_of at one) ≡ true
  of_later p [] place k at one there within is e = absurd (omega (arith, within))
  of_later p (first ∷ kept) place zero at one there within is e =
      let here : at ≡ place = omega (arith, there) in
      (λ i. list_all p (seen_of (here i) (is i)))
      ∙ (and_parts (list_all p (seen_of place first)) (list_all p (own_in (later_from means deed (place + 1) kept)))
      (sym (ap (list_all p) (own_option (later_of means deed place first) (later_from means deed (place + 1) kept)) ∙ list_all-append p (seen_of place first) (own_in (later_from means deed (place + 1) kept))) ∙ e)).0
  of_later p (first ∷ kept) place (suc k) at one there within is e =
      of_later p kept (place + 1) k at one (omega (arith, there)) (omega (arith, within)) is
      (and_parts (list_all p (seen_of place first)) (list_all p (own_in (later_from means deed (place + 1) kept)))
      (sym (ap (list_all p) (own_option (later_of means deed place first) (later_from means deed (place + 1) kept)) ∙ list_all-append p (seen_of place first) (own_in (later_from means deed (place + 1) kept))) ∙ e)).1

  module _ (kept : List Kept) where
    after_is : own_in (kept_by means kept deed) ≡ own_in (later_from means deed 0 kept) ++ option_map_or (λ (one : Kept). claimed one.claim.sure one.claim) (begun_by deed) []
    after_is = ap own_in (later_all means deed kept) ∙ own_begun (later_from means deed 0 kept) (begun_by deed)

    -- what is found behind the deed is so among the groups that are there, or of the one that begins
    pub any_after : (p : Rr → Bool) → list_any p (own_in (kept_by means kept deed)) ≡ (list_any p (own_in (later_from means deed 0 kept)) || list_any p (option_map_or (λ (one : Kept). claimed one.claim.sure one.claim) (begun_by deed) []))
    any_after p = ap (list_any p) after_is ∙ list_any-append p (own_in (later_from means deed 0 kept)) (option_map_or (λ (one : Kept). claimed one.claim.sure one.claim) (begun_by deed) [])

    all_after : (p : Rr → Bool) → list_all p (own_in (kept_by means kept deed)) ≡ (list_all p (own_in (later_from means deed 0 kept)) && list_all p (option_map_or (λ (one : Kept). claimed one.claim.sure one.claim) (begun_by deed) []))
    all_after p = ap (list_all p) after_is ∙ list_all-append p (own_in (later_from means deed 0 kept)) (option_map_or (λ (one : Kept). claimed one.claim.sure one.claim) (begun_by deed) [])

    module _ (place : ℕ) (one : Kept) (within : place < length kept) (is : one ≡ get_or kept place one) where
      first_own : own_in (drop place kept) ≡ claimed one.claim.sure one.claim ++ own_in (drop (place + 1) kept)
      first_own = ap own_in (next_first kept place one within is) ∙ own_first one (drop (place + 1) kept)

      first_later : own_in (later_from means deed place (drop place kept)) ≡ seen_of place one ++ own_in (later_from means deed (place + 1) (drop (place + 1) kept))
      first_later = ap own_in (split means deed kept place one within is) ∙ own_option (later_of means deed place one) (later_from means deed (place + 1) (drop (place + 1) kept))

      -- a group that doesn't have what is sought is passed over
      pub any_more : (p : Rr → Bool) → list_any p (seen_of place one) ≡ false → list_any p (own_in (later_from means deed (place + 1) (drop (place + 1) kept))) ≡ list_any p (own_in (later_from means deed place (drop place kept)))
      any_more p none =
          sym (ap (list_any p) first_later
          ∙ list_any-append p (seen_of place one) (own_in (later_from means deed (place + 1) (drop (place + 1) kept)))
          ∙ (λ i. none i || list_any p (own_in (later_from means deed (place + 1) (drop (place + 1) kept)))))

  module _ (kept : List Kept) (name : List (List ℕ)) where
    -- the records of groups from a place on stay own, and those behind the deed were so
    abbrev pub StaysFrom : ℕ → Type 0
    StaysFrom place =
        (list_all (is_kept name (own_in (kept_by means kept deed))) (own_in (drop place kept)) ≡ true)
        × (list_all (is_kept name (own_in kept)) (own_in (later_from means deed place (drop place kept))) ≡ true)

    module _ (place : ℕ) (one : Kept) (within : place < length kept) (is : one ≡ get_or kept place one) where
      -- one group more whose records stay
      pub stays_more : list_all (is_kept name (own_in (kept_by means kept deed))) (claimed one.claim.sure one.claim) ≡ true → list_all (is_kept name (own_in kept)) (seen_of place one) ≡ true → StaysFrom (place + 1) → StaysFrom place
      stays_more here there rest = (
        ap (list_all (is_kept name (own_in (kept_by means kept deed)))) (first_own kept place one within is)
            ∙ list_all-append (is_kept name (own_in (kept_by means kept deed))) (claimed one.claim.sure one.claim) (own_in (drop (place + 1) kept))
            ∙ (λ i. here i && rest.0 i),
        ap (list_all (is_kept name (own_in kept))) (first_later kept place one within is)
            ∙ list_all-append (is_kept name (own_in kept)) (seen_of place one) (own_in (later_from means deed (place + 1) (drop (place + 1) kept)))
            ∙ (λ i. there i && rest.1 i),
      )

      -- a group that isn't touched
      stays_still : option_map shown_of (later_of means deed place one) ≡ Some (shown_of one) → StaysFrom (place + 1) → StaysFrom place
      stays_still still rest =
          let seen : seen_of place one ≡ claimed one.claim.sure one.claim = ap (λ o. option_map_or shown_all o []) still in
          let later : list_all (is_kept name (own_in (kept_by means kept deed))) (seen_of place one) ≡ true =
          of_later (is_kept name (own_in (kept_by means kept deed))) kept 0 place place one (omega arith) within is
          (ap (λ (l : List Rr). list_all (is_kept name l) (own_in (later_from means deed 0 kept))) (after_is kept)
          ∙ in_whole name (own_in (later_from means deed 0 kept)) (option_map_or (λ (one : Kept). claimed one.claim.sure one.claim) (begun_by deed) [])) in
          let earlier : list_all (is_kept name (own_in kept)) (claimed one.claim.sure one.claim) ≡ true =
          of_group (is_kept name (own_in kept)) kept place one within is
          (ap (λ (l : List Rr). list_all (is_kept name l) (own_in kept)) (sym (append-nil (own_in kept))) ∙ in_whole name (own_in kept) []) in
          stays_more
          (ap (list_all (is_kept name (own_in (kept_by means kept deed)))) (sym seen) ∙ later)
          (ap (list_all (is_kept name (own_in kept))) seen ∙ earlier)
          rest

      -- a group of which a record comes or goes
      pub moved_here : (r : Bool) → r ≡ not (list_all (is_kept name (own_in (kept_by means kept deed))) (claimed one.claim.sure one.claim) && list_all (is_kept name (own_in kept)) (seen_of place one)) → r ≡ true →
          is_moved name (own_in kept) (own_in (kept_by means kept deed)) ≡ true
      moved_here r said e =
          moved_kept name (own_in kept) (own_in (kept_by means kept deed))
          ∙ of (list_all (is_kept name (own_in (kept_by means kept deed))) (own_in kept)) (list_all (is_kept name (own_in kept)) (own_in (kept_by means kept deed))) refl refl
        where
          of : (a b : Bool) → list_all (is_kept name (own_in (kept_by means kept deed))) (own_in kept) ≡ a → list_all (is_kept name (own_in kept)) (own_in (kept_by means kept deed)) ≡ b → not (a && b) ≡ true
          of false b first second = refl
          of true false first second = refl
          of true true first second =
              let earlier = of_group (is_kept name (own_in (kept_by means kept deed))) kept place one within is first in
              let later : list_all (is_kept name (own_in kept)) (own_in (later_from means deed 0 kept)) ≡ true =
              (and_parts (list_all (is_kept name (own_in kept)) (own_in (later_from means deed 0 kept))) (list_all (is_kept name (own_in kept)) (option_map_or (λ (one : Kept). claimed one.claim.sure one.claim) (begun_by deed) []))
              (sym (all_after kept (is_kept name (own_in kept))) ∙ second)).0 in
              absurd (true≢false (sym e ∙ said ∙ (λ i. not (earlier i && of_later (is_kept name (own_in kept)) kept 0 place place one (omega arith) within is later i))))

    -- groups that aren't touched are passed over
    pub stays_passed : (from place : ℕ) → from ≤ place → place ≤ length kept → TouchesNone means deed kept from place → StaysFrom place → StaysFrom from
    stays_passed from place h within none =
        back_to StaysFrom from place h (λ k low high there.
        let inside : k < length kept = omega arith in
        let one = element kept k inside in
        let next : suc k ≡ k + 1 = omega arith in
        stays_still k one.0 inside one.1 (untouched means deed k one.0 (none k one.0 low high one.1)) (subst StaysFrom next there))

    pub stays_end : StaysFrom (length kept)
    stays_end =
        let gone : drop (length kept) kept ≡ [] = drop_all (length kept) kept (omega arith) in (
          ap (λ (l : List Kept). list_all (is_kept name (own_in (kept_by means kept deed))) (own_in l)) gone,
          ap (λ (l : List Kept). list_all (is_kept name (own_in kept)) (own_in (later_from means deed (length kept) l))) gone,
        )

    -- where the records of all groups stay, what comes does so with the group that begins
    pub moved_begun : StaysFrom 0 → is_moved name (own_in kept) (own_in (kept_by means kept deed))
        ≡ not (list_all (is_kept name (own_in kept)) (option_map_or (λ (one : Kept). claimed one.claim.sure one.claim) (begun_by deed) []))
    moved_begun all =
        moved_kept name (own_in kept) (own_in (kept_by means kept deed))
        ∙ (λ i. not (all.0 i && (all_after kept (is_kept name (own_in kept)) ∙ (λ j. all.1 j && list_all (is_kept name (own_in kept)) (option_map_or (λ (one : Kept). claimed one.claim.sure one.claim) (begun_by deed) []))) i))
