-- Own records and answers behind a deed, group by group.
use Rattle.std.proofs.Common.{◌≡◌, ℕ, ◌==◌, Bool, true, false, cond, ◌&&◌, ◌||◌, List, [], ◌∷◌, ◌++◌, map, filter, refl, ap, sym, ◌∙◌, append-nil, append_assoc, Option, Some, None}
use Rattle.std.specs.List.{cons_option, flat_map}
use Rattle.std.specs.Option.{option_map, option_map_or, option_to_list}
use Rattle.std.proofs.lemmas.List.Elements.{filter-append}
use Rattle.std.proofs.lemmas.List.Folds.{list_any-append}
use Rattle.dns_name.specs.Names.{folded_eq}
use Rattle.dns_record.specs.declared.record.Rr.{Rr}
use Rattle.sd_call.specs.declared.answer.Answer.{Answer}
use Rattle.sd_call.specs.declared.answer.Answer.TheVariants.{Conflict}
use Rattle.mdns_history.specs.Groups.{Group}
use Rattle.mdns_history.specs.Answers.{named_if}
use Rattle.mdns_happened.specs.declared.around.Registered.{Registered}
use Rattle.mdns_happened.specs.Registrations as told
use Rattle.mdns_happened.specs.Registrations.{is_told, IsRegistered, AreRegistered}
use Rattle.mdns_probe.specs.declared.claim.Claim.{Claim}
use Rattle.mdns_probe.specs.Answering.{registered_by}
use Rattle.mdns_probe.specs.Kept.{Kept, name_of}
use Rattle.mdns_claims.specs.declared.plan.Deed.{Deed}
use Rattle.mdns_claims.specs.Later.{Shown, shown_of, shown_own, shown_answer, later_of}
use Rattle.mdns_claimants.specs.Owned.{of_name, own_in, registered_answers}
use Rattle.mdns_claims.specs.Planned.{Means}
use Rattle.mdns_claims.proofs.Made.{later_group}

-- own records

own_first : (name : List (List ℕ)) (one : Kept) (kept : List Kept) → of_name name (own_in (one ∷ kept)) ≡ shown_own name (shown_of one) ++ of_name name (own_in kept)
own_first name one kept = of one.claim.sure
  where
    records : Claim → List Rr
    records claim = claim.unique ++ claim.shared

    sures : List Claim
    sures = filter (λ (claim : Claim). claim.sure) (map (λ (k : Kept). k.claim) kept)

    of : (b : Bool) → of_name name (flat_map (λ (claim : Claim). claim.unique ++ claim.shared) (cond b (one.claim ∷ filter (λ (claim : Claim). claim.sure) (map (λ (k : Kept). k.claim) kept)) (filter (λ (claim : Claim). claim.sure) (map (λ (k : Kept). k.claim) kept))))
        ≡ cond b (of_name name one.claim.unique ++ of_name name one.claim.shared) [] ++ of_name name (own_in kept)
    of true =
        filter-append (λ (rr : Rr). folded_eq rr.owner name) (one.claim.unique ++ one.claim.shared) (own_in kept)
        ∙ ap (λ (l : List Rr). l ++ of_name name (own_in kept)) (filter-append (λ (rr : Rr). folded_eq rr.owner name) one.claim.unique one.claim.shared)
    of false = refl

pub own_later : (name : List (List ℕ)) (o : Option Kept) (kept : List Kept) → of_name name (own_in (cons_option o kept)) ≡ option_map_or (shown_own name) (option_map shown_of o) [] ++ of_name name (own_in kept)
own_later name None kept = refl
own_later name (Some one) kept = own_first name one kept

pub own_same : (name : List (List ℕ)) (o : Option Kept) (one : Kept) (after kept : List Kept) → option_map_or (shown_own name) (option_map shown_of o) [] ≡ shown_own name (shown_of one) →
    of_name name (own_in after) ≡ of_name name (own_in kept) → of_name name (own_in (cons_option o after)) ≡ of_name name (own_in (one ∷ kept))
own_same name o one after kept here rest = own_later name o after ∙ (λ i. here i ++ rest i) ∙ sym (own_first name one kept)

own_append : (name : List (List ℕ)) (kept others : List Kept) → of_name name (own_in (kept ++ others)) ≡ of_name name (own_in kept) ++ of_name name (own_in others)
own_append name [] others = refl
own_append name (one ∷ kept) others =
    own_first name one (kept ++ others)
    ∙ ap (λ (l : List Rr). shown_own name (shown_of one) ++ l) (own_append name kept others)
    ∙ sym (append_assoc (shown_own name (shown_of one)) (of_name name (own_in kept)) (of_name name (own_in others)))
    ∙ ap (λ (l : List Rr). l ++ of_name name (own_in others)) (sym (own_first name one kept))

-- the own records with a group that begins
pub own_begun : (name : List (List ℕ)) (kept : List Kept) (o : Option Kept) → of_name name (own_in (kept ++ option_to_list o)) ≡ of_name name (own_in kept) ++ option_map_or (λ (one : Kept). shown_own name (shown_of one)) o []
own_begun name kept None = ap (λ (l : List Kept). of_name name (own_in l)) (append-nil kept) ∙ sym (append-nil (of_name name (own_in kept)))
own_begun name kept (Some one) =
    own_append name kept (one ∷ []) ∙ ap (λ (l : List Rr). of_name name (own_in kept) ++ l) (own_first name one [] ∙ append-nil (shown_own name (shown_of one)))

-- answers

abbrev is_of : ℕ → ℕ → Kept → Bool
is_of session op one = (one.group.session == session) && (one.group.op == op)

module _ (session op : ℕ) where
  pub skipped : (one : Kept) (kept : List Kept) → is_of session op one ≡ false → registered_answers session op (one ∷ kept) ≡ registered_answers session op kept
  skipped one kept e = ap (λ (b : Bool). option_map_or (λ (k : Kept). named_if k.claim.sure (name_of k)) (cond b (Some one) (registered_by session op kept)) (Conflict ∷ [])) e

  pub found : (one : Kept) (kept : List Kept) → is_of session op one ≡ true → registered_answers session op (one ∷ kept) ≡ shown_answer (shown_of one)
  found one kept e = ap (λ (b : Bool). option_map_or (λ (k : Kept). named_if k.claim.sure (name_of k)) (cond b (Some one) (registered_by session op kept)) (Conflict ∷ [])) e

  -- a group of another operation
  pub later_skipped : (means : Means) (deed : Deed) (place : ℕ) (one : Kept) (after : List Kept) → is_of session op one ≡ false →
      registered_answers session op (cons_option (later_of means deed place one) after) ≡ registered_answers session op after
  later_skipped means deed place one after e = of (later_of means deed place one) refl
    where
      of : (o : Option Kept) → later_of means deed place one ≡ o → registered_answers session op (cons_option o after) ≡ registered_answers session op after
      of None h = refl
      of (Some later) h = skipped later after (ap (λ (g : Group). (g.session == session) && (g.op == op)) (later_group means deed place one later h) ∙ e)

  -- the group of the operation, if it goes on
  pub later_found : (means : Means) (deed : Deed) (place : ℕ) (one : Kept) (shown : Shown) (after : List Kept) → is_of session op one ≡ true →
      option_map shown_of (later_of means deed place one) ≡ Some shown → registered_answers session op (cons_option (later_of means deed place one) after) ≡ shown_answer shown
  later_found means deed place one shown after e seen = of (later_of means deed place one) refl seen
    where
      inside : {X : Type 0} (x y : X) → ◌≡◌ {A = Option X} (Some x) (Some y) → x ≡ y
      inside x y h = cc

      of : (o : Option Kept) → later_of means deed place one ≡ o → option_map shown_of o ≡ Some shown → registered_answers session op (cons_option o after) ≡ shown_answer shown
      of None h k = absurd (cc)
      of (Some later) h k =
          found later after (ap (λ (g : Group). (g.session == session) && (g.op == op)) (later_group means deed place one later h) ∙ e)
          ∙ ap shown_answer (inside (shown_of later) shown k)

  -- a group of which the same is seen, or that is of another operation
  pub answers_same : (means : Means) (deed : Deed) (place : ℕ) (one : Kept) (after kept : List Kept) → (is_of session op one ≡ true → option_map shown_of (later_of means deed place one) ≡ Some (shown_of one)) →
      registered_answers session op after ≡ registered_answers session op kept → registered_answers session op (cons_option (later_of means deed place one) after) ≡ registered_answers session op (one ∷ kept)
  answers_same means deed place one after kept here rest = of (is_of session op one) refl
    where
      of : (b : Bool) → is_of session op one ≡ b → registered_answers session op (cons_option (later_of means deed place one) after) ≡ registered_answers session op (one ∷ kept)
      of true e = later_found means deed place one (shown_of one) after e (here e) ∙ sym (found one kept e)
      of false e = later_skipped means deed place one after e ∙ rest ∙ sym (skipped one kept e)

pub cons_append : {X : Type 0} (o : Option X) (xs ys : List X) → cons_option o xs ++ ys ≡ cons_option o (xs ++ ys)
cons_append None xs ys = refl
cons_append (Some x) xs ys = refl

-- groups behind others that have no answer of an operation
pub nothing_new : (session op : ℕ) (kept new : List Kept) → registered_answers session op new ≡ registered_answers session op [] → registered_answers session op (kept ++ new) ≡ registered_answers session op kept
nothing_new session op [] new none = none
nothing_new session op (one ∷ kept) new none = of (is_of session op one) refl (nothing_new session op kept new none)
  where
    of : (b : Bool) → is_of session op one ≡ b → registered_answers session op (kept ++ new) ≡ registered_answers session op kept → registered_answers session op (one ∷ (kept ++ new)) ≡ registered_answers session op (one ∷ kept)
    of true e ih = found session op one (kept ++ new) e ∙ sym (found session op one kept e)
    of false e ih = skipped session op one (kept ++ new) e ∙ ih ∙ sym (skipped session op one kept e)

-- what is told of registrations, with one line more

pub are_more : (earlier later : ℕ → ℕ → List Answer) (lines : List Registered) (line : Registered) → AreRegistered earlier later lines → IsRegistered earlier later line → AreRegistered earlier later (lines ++ line ∷ [])
are_more earlier later [] line are is = (is, tt)
are_more earlier later (first ∷ lines) line are is = (are.0, are_more earlier later lines line are.1 is)

pub told_more : (lines : List Registered) (line : Registered) (session op : ℕ) → is_told (lines ++ line ∷ []) session op ≡ false → (is_told lines session op ≡ false) × (((line.session == session) && (line.op == op)) ≡ false)
told_more lines line session op e = of (is_told lines session op) ((line.session == session) && (line.op == op)) (sym (list_any-append (told.is_of session op) lines (line ∷ [])) ∙ e)
  where
    of : (a b : Bool) → (a || (b || false)) ≡ false → (a ≡ false) × (b ≡ false)
    of false false h = (refl, refl)
    of true b h = absurd (cc)
    of false true h = absurd (cc)

-- the line of a group
pub line_of : (line : Registered) (naming group : Group) (session op : ℕ) → line.session ≡ naming.session → line.op ≡ naming.op → naming ≡ group → ((line.session == session) && (line.op == op)) ≡ false →
    ((group.session == session) && (group.op == op)) ≡ false
line_of line naming group session op s o same e =
    ap (λ (g : Group). (g.session == session) && (g.op == op)) (sym same)
    ∙ (λ i. (sym s i == session) && (sym o i == op))
    ∙ e
