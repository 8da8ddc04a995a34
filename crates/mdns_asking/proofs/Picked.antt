-- The questions that an event asks, picked at places that are gone over in their order.
use Rattle.std.proofs.Common.{◌≡◌, ◌⊎◌, inl, inr, ℕ, zero, suc, ◌+◌, ◌<◌, ◌≤◌, Bool, true, false, cond, ◌&&◌, ◌||◌, List, [], ◌∷◌, ◌++◌, map, filter, length, get_or, take, drop, Option, Some, None, is_some, refl, sym, ap, subst, ◌∙◌, arith, ⊎_elim, true≢false}
use Rattle.std.specs.Prelude.{◌==◌, nat_le, not}
use Rattle.std.specs.List.{Contains, filter_map, cons_option, list_any}
use Rattle.std.specs.List.Sorted.{IsNonDecreasing}
use Rattle.std.specs.Option.{option_map, option_to_list}
use Rattle.std.proofs.Math.Seq.{take-length}
use Rattle.std.proofs.lemmas.List.Elements.{Contains-append_cases}
use Rattle.std.proofs.lemmas.List.Sorted.{IsNonDecreasingBy-drop}
use Rattle.mdns_base.specs.Hosts.{mdns_port}
use Rattle.dns_record.specs.declared.record.Key.{Key}
use Rattle.mdns_history.specs.declared.mark.Cause.{Cause}
use Rattle.mdns_history.specs.declared.mark.Cause.TheVariants as cause
use Rattle.mdns_history.specs.Hearings.{Heard}
use Rattle.mdns_history.specs.Asking.{asks_openly}
use Rattle.mdns_happened.specs.declared.walk.Walk.{Walk}
use Rattle.mdns_happened.specs.Told.{Told}
use Rattle.mdns_happened.specs.Walks.{is_walked}
use Rattle.mdns_question.specs.declared.tracked.Tracked.{Tracked}
use Rattle.mdns_question.specs.Refreshing.{cause_of}
use Rattle.mdns_question.proofs.Loops.{left, filter_map-next}
use Rattle.mdns_asking.specs.Walked.{may_be_heard, may_stand_for}
use Rattle.mdns_asking.specs.ByWalks.{timed_by, is_heard_by, cause_heard, cause_by, asked_by}
use Rattle.mdns_asking.specs.Places.{ArePut, is_near}
use Rattle.mdns_asking.proofs.Heards.{heard_one, marked}
use Rattle.mdns_asking.proofs.OfNames.{timed_unwalked}
use Rattle.mdns_asking.proofs.PutPlaces.{none_in, place_at}

-- where nothing is given between two places
skipped : {X Y : Type 0} (f : X → Option Y) (xs : List X) (from place : ℕ) → from ≤ place → place ≤ length xs → ((k : ℕ) (d : X) → from ≤ k → k < place → f (get_or xs k d) ≡ None) →
    filter_map f (take place xs) ≡ filter_map f (take from xs)
skipped f xs zero zero h within none = refl
skipped f xs (suc from) zero h within none = absurd (omega arith)
skipped f [] zero (suc place) h within none = absurd (omega arith)
skipped f [] (suc from) (suc place) h within none = absurd (omega arith)
skipped f (x ∷ xs) zero (suc place) h within none =
    ap (λ o. cons_option o (filter_map f (take place xs))) (none 0 x (omega arith) (omega arith)) ∙ skipped f xs zero place (omega arith) (omega arith) (λ k d behind below. none (suc k) d (omega arith) (omega arith))
skipped f (x ∷ xs) (suc from) (suc place) h within none =
    ap (λ l. cons_option (f x) l) (skipped f xs from place (omega arith) (omega arith) (λ k d behind below. none (suc k) d (omega arith) (omega arith)))

as_list : {X : Type 0} (o : Option X) → option_to_list o ≡ cons_option o []
as_list None = refl
as_list (Some x) = refl

first_or : (x : ℕ) (xs : List ℕ) (k : ℕ) → Contains (x ∷ xs) k → (x ≡ k) ⊎ Contains xs k
first_or x xs k h = ⊎_elim (λ one. inl (only one)) (λ more. inr more) (Contains-append_cases (x ∷ []) xs k h)
  where
    only : Contains (x ∷ []) k → x ≡ k
    only (zero, within, e) = e
    only (suc j, within, e) = absurd (omega (arith, within))

-- Of the places from one on those up to a number are left from an index on.
abbrev pub AreLeft : List ℕ → ℕ → ℕ → ℕ → Type 0
AreLeft places n i from = (k : ℕ) → from ≤ k → k < n → Contains places k → Contains (drop i places) k

module _ (places : List ℕ) (n i place : ℕ) (within : i < length places) (is : place ≡ get_or places i place) where
  here : drop i places ≡ place ∷ drop (i + 1) places
  here = left places i place within is

  split : (k : ℕ) → Contains (drop i places) k → (place ≡ k) ⊎ Contains (drop (i + 1) places) k
  split k h = first_or place (drop (i + 1) places) k (subst (λ (l : List ℕ). Contains l k) here h)

  -- a place that isn't looked at
  pub left_else : (from : ℕ) → (from ≤ place → n ≤ place) → AreLeft places n i from → AreLeft places n (i + 1) from
  left_else from out left k behind below there = ⊎_elim (λ same. absurd (omega (arith, out (omega arith)))) (λ h. h) (split k (left k behind below there))

  -- one that is
  pub left_behind : (from : ℕ) → from ≤ place → AreLeft places n i from → AreLeft places n (i + 1) (place + 1)
  left_behind from past left k behind below there = ⊎_elim (λ same. absurd (omega arith)) (λ h. h) (split k (left k (omega arith) below there))

  -- there are none before it
  none_before : (from : ℕ) → IsNonDecreasing places → AreLeft places n i from → (k : ℕ) → from ≤ k → k < place → k < n → Contains places k → ⊥
  none_before from rises left k behind below small there =
      let h = left k behind small there in
      let first : place ≡ get_or (drop i places) 0 k = ap (λ (l : List ℕ). get_or l 0 k) (sym here) in
      let up : get_or (drop i places) 0 k ≤ get_or (drop i places) h.0 k = IsNonDecreasingBy-drop (λ x. x) i places rises 0 h.0 k (omega arith) h.1 in
      omega (arith, first, up, h.2, below)

module _ (told : Told) (moment : ℕ) (walks : List Walk) where
  -- a question with why it is asked, if it is
  abbrev pub asked_with : Tracked → Option (Key × Cause)
  asked_with one = option_map (λ why. (one.key, why)) (cause_by told moment walks one)

  none_of : (o : Option Cause) → is_some o ≡ false → o ≡ None
  none_of None h = refl
  none_of (Some why) h = absurd (true≢false h)

  neither : (a b : Bool) → (a || b) ≡ false → (a ≡ false) × (b ≡ false)
  neither false false h = (refl, refl)
  neither false true h = absurd (true≢false h)
  neither true b h = absurd (true≢false h)

  unheard : (a b c d e k : Bool) → (a && b && c && d && e) ≡ false → (a && b && c && d && e && k) ≡ false
  unheard true true true true true k h = absurd (true≢false h)
  unheard true true true true false k h = refl
  unheard true true true false e k h = refl
  unheard true true false d e k h = refl
  unheard true false c d e k h = refl
  unheard false b c d e k h = refl

  -- a question that isn't near isn't asked
  far : (one : Tracked) → is_near told moment walks one ≡ false → cause_by told moment walks one ≡ None
  far one h = of told.ticks told.heard h
    where
      of : (ticks : Bool) (heard : Option Heard) → (cond ticks (is_some (cause_of moment one)) (may_be_heard heard moment one) || (ticks && is_walked walks one.key.name)) ≡ false →
          cond ticks (cause_of moment (timed_by walks one)) (cause_heard walks moment heard one) ≡ None
      of true heard e =
          let parts = neither (is_some (cause_of moment one)) (is_walked walks one.key.name) e in
          ap (cause_of moment) (timed_unwalked walks one parts.1) ∙ none_of (cause_of moment one) parts.0
      of false None e = refl
      of false (Some heard) e =
          let parts = neither (may_stand_for moment heard one) false e in
          ap (λ (b : Bool). cond b (Some cause.Heard) None) (unheard (not heard.message.response) (heard.from.port == mdns_port) (not heard.message.truncated) (list_any (asks_openly one.key) heard.message.questions) (nat_le one.next (moment + 1000)) _ parts.0)

  -- a question whose place isn't among those that are near isn't asked
  not_asked : (questions : List Tracked) (places : List ℕ) → ArePut (is_near told moment walks) questions [] places → (k : ℕ) (d : Tracked) → k < length questions → (Contains places k → ⊥) →
      asked_with (get_or questions k d) ≡ None
  not_asked questions places put k d within out = of (is_near told moment walks (get_or questions k d)) refl
    where
      of : (b : Bool) → is_near told moment walks (get_or questions k d) ≡ b → asked_with (get_or questions k d) ≡ None
      of true e = absurd (out (put.put k (place_at (is_near told moment walks) questions k d within e)))
      of false e = ap (option_map (λ why. ((get_or questions k d).key, why))) (far (get_or questions k d) e)

  -- one more that is looked at
  pub asked_next : (questions : List Tracked) (places : List ℕ) (i from place : ℕ) (one : Tracked) (before after : List (Key × Cause)) → ArePut (is_near told moment walks) questions [] places → IsNonDecreasing places →
      i < length places → place ≡ get_or places i place → from ≤ place → place < length questions → one ≡ get_or questions place one → AreLeft places (length questions) i from →
      before ≡ filter_map asked_with (take from questions) → after ≡ before ++ option_to_list (asked_with one) → after ≡ filter_map asked_with (take (place + 1) questions)
  asked_next questions places i from place one before after put rises inside is past within there left had more =
      more
      ∙ ap (λ l. l ++ option_to_list (asked_with one)) (had ∙ sym (skipped asked_with questions from place past (omega arith)
      (λ k d behind below. not_asked questions places put k d (omega arith) (none_before places (length questions) i place inside is from rises left k behind below (omega arith)))))
      ∙ ap (λ l. filter_map asked_with (take place questions) ++ l) (as_list (asked_with one))
      ∙ sym (filter_map-next asked_with questions place one within there)

  -- all that are asked were looked at
  all_told : (ticks : Bool) (heard : Option Heard) (questions : List Tracked) →
      filter_map (λ (one : Tracked). option_map (λ why. (one.key, why)) (cond ticks (cause_of moment (timed_by walks one)) (cause_heard walks moment heard one))) questions ≡ asked_by ticks heard questions walks moment
  unfolding asked_by
  all_told true heard questions = refl
  all_told false None [] = refl
  all_told false None (one ∷ questions) = all_told false None questions
  all_told false (Some heard) [] = refl
  all_told false (Some heard) (one ∷ questions) = of (is_heard_by walks moment heard one) (all_told false (Some heard) questions)
    where
      rest : List (Key × Cause)
      rest = filter_map (λ (one : Tracked). option_map (λ why. (one.key, why)) (cause_heard walks moment (Some heard) one)) questions

      of : (b : Bool) → rest ≡ marked (is_heard_by walks moment heard) questions → cons_option (option_map (λ why. (one.key, why)) (cond b (Some cause.Heard) None)) rest
          ≡ map heard_one (cond b (one ∷ filter (is_heard_by walks moment heard) questions) (filter (is_heard_by walks moment heard) questions))
      of true e = ap (λ l. heard_one one ∷ l) e
      of false e = e

  pub all_asked : (questions : List Tracked) (places : List ℕ) (i from : ℕ) (found : List (Key × Cause)) → ArePut (is_near told moment walks) questions [] places → length places ≤ i → from ≤ length questions →
      AreLeft places (length questions) i from → found ≡ filter_map asked_with (take from questions) → found ≡ asked_by told.ticks told.heard questions walks moment
  all_asked questions places i from found put done within left had =
      had
      ∙ sym (skipped asked_with questions from (length questions) within (omega arith)
      (λ k d behind below. not_asked questions places put k d below (λ h. none_in k (subst (λ (l : List ℕ). Contains l k) (drop_all i places done) (left k behind below h)))))
      ∙ ap (filter_map asked_with) (take-length questions)
      ∙ all_told told.ticks told.heard questions
    where
      drop_all : {X : Type 0} (i : ℕ) (xs : List X) → length xs ≤ i → drop i xs ≡ []
      drop_all zero [] h = refl
      drop_all zero (x ∷ xs) h = absurd (omega arith)
      drop_all (suc i) [] h = refl
      drop_all (suc i) (x ∷ xs) h = drop_all i xs (omega arith)
