-- What an event makes of the records of some names is seen on these, and on what is heard of them.
use Rattle.std.proofs.Common.{◌≡◌, ℕ, ◌+◌, min, Bool, true, false, cond, not, ◌&&◌, ◌||◌, eqb, nat_lt, List, [], ◌∷◌, ◌++◌, map, filter, refl, sym, ap, ◌∙◌, true≢false}
use Rattle.std.proofs.lemmas.Bool.{false_from_ne_true}
use Rattle.std.proofs.lemmas.List.Elements.{filter-append, filter_agree}
use Rattle.dns_name.specs.Names.{folded_eq}
use Rattle.dns_record.specs.declared.record.Rr.{Rr}
use Rattle.dns_record.specs.Records.{same, data_eq, kind_of}
use Rattle.mdns_history.specs.declared.held.Held.{Held}
use Rattle.mdns_history.specs.Hearings.{Hearing}
use Rattle.mdns_history.specs.Lifetimes.{is_live_at, is_other, cuts}
use Rattle.mdns_cache.specs.Lifetimes.{hearing_at, renewed, shortened, after_hearing, after_hearings}
use Rattle.mdns_cache.proofs.ListLemmas.{filter-filter}
use Rattle.mdns_records.specs.After.{held_after}

and_turned : (a b : Bool) → (a && b) ≡ (b && a)
and_turned true true = refl
and_turned true false = refl
and_turned false true = refl
and_turned false false = refl

-- two filters in either order
pub filters_turned : {X : Type 0} (p q : X → Bool) (xs : List X) → filter p (filter q xs) ≡ filter q (filter p xs)
filters_turned p q xs = filter-filter p q xs ∙ filter_agree _ _ (λ x. and_turned (q x) (p x)) xs ∙ sym (filter-filter q p xs)

append_none : (l : List Held) → l ++ [] ≡ l
append_none [] = refl
append_none (x ∷ xs) = ap (λ (ys : List Held). x ∷ ys) (append_none xs)

-- Owners of some names: a test of owners that doesn't see case.
module _ (near : List (List ℕ) → Bool) (alike : (one other : List (List ℕ)) → folded_eq one other ≡ true → near one ≡ near other) where
  abbrev pub is_near : Held → Bool
  is_near one = near one.rr.owner

  abbrev pub is_near_rr : Rr → Bool
  is_near_rr rr = near rr.owner

  -- lives are cut of records that stay of their names
  cut_near : (hearing : Hearing) (held : List Held) → filter is_near (map (shortened hearing) held) ≡ map (shortened hearing) (filter is_near held)
  cut_near hearing [] = refl
  cut_near hearing (one ∷ held) = of (is_near one) (cut_near hearing held)
    where
      of : (b : Bool) → filter is_near (map (shortened hearing) held) ≡ map (shortened hearing) (filter is_near held) →
          cond b (shortened hearing one ∷ filter is_near (map (shortened hearing) held)) (filter is_near (map (shortened hearing) held)) ≡ map (shortened hearing) (cond b (one ∷ filter is_near held) (filter is_near held))
      of true ih = ap (λ (l : List Held). shortened hearing one ∷ l) ih
      of false ih = ih

  -- a hearing of one of the names
  hearing_near : (hearing : Hearing) (held : List Held) → near hearing.rr.owner ≡ true → filter is_near (after_hearing held hearing) ≡ after_hearing (filter is_near held) hearing
  hearing_near hearing held at = of (nat_lt 0 hearing.rr.ttl)
    where
      of : (b : Bool) → filter is_near (cond b (map (shortened hearing) (filter (is_other hearing.rr) held) ++ renewed hearing ∷ []) (map (shortened hearing) held))
          ≡ cond b (map (shortened hearing) (filter (is_other hearing.rr) (filter is_near held)) ++ renewed hearing ∷ []) (map (shortened hearing) (filter is_near held))
      of true =
          filter-append is_near (map (shortened hearing) (filter (is_other hearing.rr) held)) (renewed hearing ∷ [])
          ∙ ap (λ (b : Bool). filter is_near (map (shortened hearing) (filter (is_other hearing.rr) held)) ++ cond b (renewed hearing ∷ []) []) at
          ∙ ap (λ (l : List Held). l ++ renewed hearing ∷ []) (cut_near hearing (filter (is_other hearing.rr) held) ∙ ap (map (shortened hearing)) (filters_turned is_near (is_other hearing.rr) held))
      of false = cut_near hearing held

  -- ---- a hearing of another name

  module _ (hearing : Hearing) (far : near hearing.rr.owner ≡ false) where
    apart : (one : Held) → is_near one ≡ true → folded_eq one.rr.owner hearing.rr.owner ≡ false
    apart one at = false_from_ne_true (folded_eq one.rr.owner hearing.rr.owner) (λ e. true≢false (sym at ∙ alike one.rr.owner hearing.rr.owner e ∙ far))

    -- a record of these names is another than the one that is heard, and keeps its life
    others_stay : (one : Held) → is_near one ≡ true → is_other hearing.rr one ≡ true
    unfolding same
    others_stay one at = ap not (ap (λ (b : Bool). b && data_eq one.rr.rdata hearing.rr.rdata) (apart one at))

    lives_stay : (one : Held) → is_near one ≡ true → shortened hearing one ≡ one
    unfolding same
    lives_stay one at =
        ap (λ (b : Bool). record { rr = one.rr; heard = one.heard; word = one.word; end = cond b (min (hearing.moment + 1000) one.end) one.end }) uncut
      where
        uncut : cuts one.rr one.heard hearing ≡ false
        uncut =
            ap (λ (b : Bool). (b && data_eq one.rr.rdata hearing.rr.rdata && eqb hearing.rr.ttl 0) || (hearing.rr.flush && b && eqb (kind_of one.rr.rdata) (kind_of hearing.rr.rdata) && nat_lt (one.heard + 1000) hearing.moment)) (apart one at)
            ∙ none hearing.rr.flush
          where
            none : (f : Bool) → (f && false && eqb (kind_of one.rr.rdata) (kind_of hearing.rr.rdata) && nat_lt (one.heard + 1000) hearing.moment) ≡ false
            none true = refl
            none false = refl

    cut_far : (held : List Held) → filter is_near (map (shortened hearing) held) ≡ filter is_near held
    cut_far [] = refl
    cut_far (one ∷ held) = of (is_near one) refl (cut_far held)
      where
        of : (b : Bool) → is_near one ≡ b → filter is_near (map (shortened hearing) held) ≡ filter is_near held →
            cond b (shortened hearing one ∷ filter is_near (map (shortened hearing) held)) (filter is_near (map (shortened hearing) held)) ≡ cond b (one ∷ filter is_near held) (filter is_near held)
        of true e ih = λ i. lives_stay one e i ∷ ih i
        of false e ih = ih

    dropped_far : (held : List Held) → filter is_near (filter (is_other hearing.rr) held) ≡ filter is_near held
    dropped_far [] = refl
    dropped_far (one ∷ held) = of (is_near one) refl (dropped_far held)
      where
        off : (c : Bool) → is_near one ≡ false → filter is_near (filter (is_other hearing.rr) held) ≡ filter is_near held →
            filter is_near (cond c (one ∷ filter (is_other hearing.rr) held) (filter (is_other hearing.rr) held)) ≡ filter is_near held
        off true e ih = ap (λ (b : Bool). cond b (one ∷ filter is_near (filter (is_other hearing.rr) held)) (filter is_near (filter (is_other hearing.rr) held))) e ∙ ih
        off false e ih = ih

        of : (b : Bool) → is_near one ≡ b → filter is_near (filter (is_other hearing.rr) held) ≡ filter is_near held →
            filter is_near (filter (is_other hearing.rr) (one ∷ held)) ≡ cond b (one ∷ filter is_near held) (filter is_near held)
        of true e ih =
            ap (λ (c : Bool). filter is_near (cond c (one ∷ filter (is_other hearing.rr) held) (filter (is_other hearing.rr) held))) (others_stay one e)
            ∙ ap (λ (b : Bool). cond b (one ∷ filter is_near (filter (is_other hearing.rr) held)) (filter is_near (filter (is_other hearing.rr) held))) e
            ∙ ap (λ (l : List Held). one ∷ l) ih
        of false e ih = off (is_other hearing.rr one) e ih

    hearing_far : (held : List Held) → filter is_near (after_hearing held hearing) ≡ filter is_near held
    hearing_far held = of (nat_lt 0 hearing.rr.ttl)
      where
        of : (b : Bool) → filter is_near (cond b (map (shortened hearing) (filter (is_other hearing.rr) held) ++ renewed hearing ∷ []) (map (shortened hearing) held)) ≡ filter is_near held
        of true =
            filter-append is_near (map (shortened hearing) (filter (is_other hearing.rr) held)) (renewed hearing ∷ [])
            ∙ ap (λ (b : Bool). filter is_near (map (shortened hearing) (filter (is_other hearing.rr) held)) ++ cond b (renewed hearing ∷ []) []) far
            ∙ append_none (filter is_near (map (shortened hearing) (filter (is_other hearing.rr) held)))
            ∙ cut_far (filter (is_other hearing.rr) held) ∙ dropped_far held
        of false = cut_far held

  -- ---- several hearings

  hearings_of : (moment word : ℕ) (heard : List Rr) (held : List Held) →
      filter is_near (after_hearings held (map (hearing_at moment word) heard)) ≡ after_hearings (filter is_near held) (map (hearing_at moment word) (filter is_near_rr heard))
  hearings_of moment word [] held = refl
  hearings_of moment word (rr ∷ heard) held = hearings_of moment word heard (after_hearing held (hearing_at moment word rr)) ∙ of (near rr.owner) refl
    where
      of : (b : Bool) → near rr.owner ≡ b →
          after_hearings (filter is_near (after_hearing held (hearing_at moment word rr))) (map (hearing_at moment word) (filter is_near_rr heard))
          ≡ after_hearings (filter is_near held) (map (hearing_at moment word) (cond b (rr ∷ filter is_near_rr heard) (filter is_near_rr heard)))
      of true e = ap (λ (l : List Held). after_hearings l (map (hearing_at moment word) (filter is_near_rr heard))) (hearing_near (hearing_at moment word rr) held e)
      of false e = ap (λ (l : List Held). after_hearings l (map (hearing_at moment word) (filter is_near_rr heard))) (hearing_far (hearing_at moment word rr) e held)

  -- What becomes of the records of some names is seen on these, and on what is heard of them.
  pub after_of : (moment word : ℕ) (heard : List Rr) (held : List Held) →
      filter is_near (held_after moment word heard held) ≡ held_after moment word (filter is_near_rr heard) (filter is_near held)
  after_of moment word heard held =
      hearings_of moment word heard (filter (is_live_at moment) held)
      ∙ ap (λ (l : List Held). after_hearings l (map (hearing_at moment word) (filter is_near_rr heard))) (filters_turned is_near (is_live_at moment) held)
