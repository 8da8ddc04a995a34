-- Loops over groups that say what is behind a deed: one group more.
use Rattle.std.proofs.Common.{◌≡◌, ℕ, ◌+◌, ◌<◌, ◌≤◌, ◌==◌, ◌&&◌, true, false, List, [], ◌∷◌, ◌++◌, length, get_or, drop, refl, ap, sym, ◌∙◌, append-nil, append_assoc, Option, Some, None}
use Rattle.std.specs.List.{cons_option}
use Rattle.std.specs.Option.{option_map, option_map_or}
use Rattle.std.proofs.lemmas.List.{drop_more, drop_all}
use Rattle.dns_record.specs.declared.record.Rr.{Rr}
use Rattle.mdns_probe.specs.Kept.{Kept}
use Rattle.mdns_claims.specs.declared.plan.Deed.{Deed}
use Rattle.mdns_claims.specs.Later.{Shown, shown_of, shown_own, shown_answer, later_of, later_from, begun_by}
use Rattle.mdns_claimants.specs.Owned.{of_name, own_in, registered_answers}
use Rattle.mdns_claims.specs.Planned.{Means, kept_by}
use Rattle.mdns_claims.proofs.Made.{later_all}
use Rattle.mdns_claims.proofs.Changed.{own_later, own_same, own_begun, later_skipped, later_found, answers_same, cons_append}

pub next_first : {X : Type 0} (xs : List X) (place : ℕ) (one : X) → place < length xs → one ≡ get_or xs place one → drop place xs ≡ one ∷ drop (place + 1) xs
next_first xs place one within is = drop_more xs place one within ∙ ap (λ x. x ∷ drop (place + 1) xs) (sym is)

none_seen : (o : Option Kept) → None ≡ option_map shown_of o → o ≡ None
none_seen None e = refl
none_seen (Some one) e = absurd (cc)

module _ (means : Means) (deed : Deed) (kept : List Kept) where
  -- the own records of all groups
  pub all_own : (name : List (List ℕ)) (rrs between after : List Rr) (o : Option Kept) → between ≡ rrs ++ of_name name (own_in (later_from means deed 0 kept)) → o ≡ begun_by deed →
      after ≡ between ++ option_map_or (λ (one : Kept). shown_own name (shown_of one)) o [] → after ≡ rrs ++ of_name name (own_in (kept_by means kept deed))
  all_own name rrs between after o first begins last =
      last
      ∙ (λ i. first i ++ option_map_or (λ (one : Kept). shown_own name (shown_of one)) (begins i) [])
      ∙ append_assoc rrs (of_name name (own_in (later_from means deed 0 kept))) (option_map_or (λ (one : Kept). shown_own name (shown_of one)) (begun_by deed) [])
      ∙ ap (λ (l : List Rr). rrs ++ l) (sym (own_begun name (later_from means deed 0 kept) (begun_by deed)))
      ∙ ap (λ (l : List Kept). rrs ++ of_name name (own_in l)) (sym (later_all means deed kept))

  -- own records that stay as they are, where the group that begins has none
  pub all_same : (name : List (List ℕ)) (o : Option Kept) → of_name name (own_in (later_from means deed 0 kept)) ≡ of_name name (own_in kept) → o ≡ begun_by deed →
      option_map_or (λ (one : Kept). shown_own name (shown_of one)) o [] ≡ [] → of_name name (own_in (kept_by means kept deed)) ≡ of_name name (own_in kept)
  all_same name o first begins none =
      ap (λ (l : List Kept). of_name name (own_in l)) (later_all means deed kept)
      ∙ own_begun name (later_from means deed 0 kept) (begun_by deed)
      ∙ (λ i. first i ++ (ap (λ (x : Option Kept). option_map_or (λ (one : Kept). shown_own name (shown_of one)) x []) (sym begins) ∙ none) i)
      ∙ append-nil (of_name name (own_in kept))

  module _ (place : ℕ) (one : Kept) (within : place < length kept) (is : one ≡ get_or kept place one) where
    pub split : later_from means deed place (drop place kept) ≡ cons_option (later_of means deed place one) (later_from means deed (place + 1) (drop (place + 1) kept))
    split = ap (later_from means deed place) (next_first kept place one within is)

    pub own_more : (name : List (List ℕ)) (rrs after more : List Rr) → after ≡ rrs ++ more → more ≡ option_map_or (shown_own name) (option_map shown_of (later_of means deed place one)) [] →
        after ++ of_name name (own_in (later_from means deed (place + 1) (drop (place + 1) kept))) ≡ rrs ++ of_name name (own_in (later_from means deed place (drop place kept)))
    own_more name rrs after more put e =
        ap (λ (l : List Rr). l ++ of_name name (own_in (later_from means deed (place + 1) (drop (place + 1) kept)))) put
        ∙ append_assoc rrs more (of_name name (own_in (later_from means deed (place + 1) (drop (place + 1) kept))))
        ∙ ap (λ (l : List Rr). rrs ++ l) (
        ap (λ (l : List Rr). l ++ of_name name (own_in (later_from means deed (place + 1) (drop (place + 1) kept)))) e
        ∙ sym (own_later name (later_of means deed place one) (later_from means deed (place + 1) (drop (place + 1) kept)))
        ∙ ap (λ (l : List Kept). of_name name (own_in l)) (sym split))

    pub same_more : (name : List (List ℕ)) → option_map_or (shown_own name) (option_map shown_of (later_of means deed place one)) [] ≡ shown_own name (shown_of one) →
        of_name name (own_in (later_from means deed (place + 1) (drop (place + 1) kept))) ≡ of_name name (own_in (drop (place + 1) kept)) →
        of_name name (own_in (later_from means deed place (drop place kept))) ≡ of_name name (own_in (drop place kept))
    same_more name here there =
        ap (λ (l : List Kept). of_name name (own_in l)) split
        ∙ own_same name (later_of means deed place one) one (later_from means deed (place + 1) (drop (place + 1) kept)) (drop (place + 1) kept) here there
        ∙ ap (λ (l : List Kept). of_name name (own_in l)) (sym (next_first kept place one within is))

    module _ (session op : ℕ) (new : List Kept) where
      split_new : later_from means deed place (drop place kept) ++ new ≡ cons_option (later_of means deed place one) (later_from means deed (place + 1) (drop (place + 1) kept) ++ new)
      split_new = ap (λ (l : List Kept). l ++ new) split ∙ cons_append (later_of means deed place one) (later_from means deed (place + 1) (drop (place + 1) kept)) new

      pub answer_here : (shown : Shown) → ((one.group.session == session) && (one.group.op == op)) ≡ true → Some shown ≡ option_map shown_of (later_of means deed place one) →
          shown_answer shown ≡ registered_answers session op (later_from means deed place (drop place kept) ++ new)
      answer_here shown e seen =
          sym (later_found session op means deed place one shown (later_from means deed (place + 1) (drop (place + 1) kept) ++ new) e (sym seen))
          ∙ ap (registered_answers session op) (sym split_new)

      -- a group of another operation, or one that doesn't go on, has no part in it
      pub answers_skipped : ((one.group.session == session) && (one.group.op == op)) ≡ false →
          registered_answers session op (later_from means deed (place + 1) (drop (place + 1) kept) ++ new) ≡ registered_answers session op (later_from means deed place (drop place kept) ++ new)
      answers_skipped e =
          sym (ap (registered_answers session op) split_new ∙ later_skipped session op means deed place one (later_from means deed (place + 1) (drop (place + 1) kept) ++ new) e)

      pub answers_gone : None ≡ option_map shown_of (later_of means deed place one) →
          registered_answers session op (later_from means deed (place + 1) (drop (place + 1) kept) ++ new) ≡ registered_answers session op (later_from means deed place (drop place kept) ++ new)
      answers_gone e =
          sym (ap (registered_answers session op) split_new
          ∙ ap (λ (o : Option Kept). registered_answers session op (cons_option o (later_from means deed (place + 1) (drop (place + 1) kept) ++ new))) (none_seen (later_of means deed place one) e))

      pub answers_more : (((one.group.session == session) && (one.group.op == op)) ≡ true → option_map shown_of (later_of means deed place one) ≡ Some (shown_of one)) →
          registered_answers session op (later_from means deed (place + 1) (drop (place + 1) kept) ++ new) ≡ registered_answers session op (drop (place + 1) kept) →
          registered_answers session op (later_from means deed place (drop place kept) ++ new) ≡ registered_answers session op (drop place kept)
      answers_more here there =
          ap (registered_answers session op) split_new
          ∙ answers_same session op means deed place one (later_from means deed (place + 1) (drop (place + 1) kept) ++ new) (drop (place + 1) kept) here there
          ∙ ap (registered_answers session op) (sym (next_first kept place one within is))

  -- where there is no group more
  pub answers_end : (session op place : ℕ) (new : List Kept) → length kept ≤ place → registered_answers session op (later_from means deed place (drop place kept) ++ new) ≡ registered_answers session op new
  answers_end session op place new past = ap (λ (l : List Kept). registered_answers session op (later_from means deed place l ++ new)) (drop_all place kept past)
