-- What conflicts with the claim of a group that was probed sets it back or ends it.
use Rattle.std.proofs.Common.{◌≡◌, ℕ, ◌+◌, ◌==◌, ◌⊎◌, inl, inr, Bool, true, false, cond, not, ◌&&◌, ◌||◌, List, [], ◌∷◌, ◌++◌, map, Option, Some, None, refl, ap, subst, ◌∙◌, sym}
use Rattle.std.specs.Prelude.{nat_lt}
use Rattle.std.specs.List.{list_any, cons_option}
use Rattle.mdns_base.specs.Hosts.{mdns_port}
use Rattle.dns_record.specs.Conflicts.{clashes, loses_tie}
use Rattle.mdns_history.specs.declared.event.Event.{Event}
use Rattle.mdns_history.specs.declared.event.Event.TheVariants as event
use Rattle.mdns_history.specs.declared.mark.Mark.{Mark}
use Rattle.mdns_history.specs.declared.mark.Mark.TheVariants as mark
use Rattle.mdns_history.specs.declared.entry.Entry.{Entry}
use Rattle.mdns_history.specs.InForce.{Duties, only_if}
use Rattle.mdns_history.specs.History.{has_mark}
use Rattle.mdns_history.specs.Hearings.{Heard, heard_in, brought, counted_records, is_refusal}
use Rattle.mdns_history.specs.Lifetimes.{is_too_full}
use Rattle.mdns_history.specs.Groups.{Group, groups, group_name, ends_group, is_failure_of, unique_records, number_of, free_number}
use Rattle.mdns_history.specs.Sureness.{registers, sets_back, is_setback_of, is_sure}
use Rattle.mdns_history.specs.Claims.{was_probed, greatest_number, giving_up, claim_mark, Holding, holding_of, held_by_others, holdings_after, marks_in_turn, claim_marks}
use Rattle.mdns_history.specs.Items.{cut_marks}
use Rattle.mdns_history.specs.Fitting.{bare_entry, refusal_marks, admitted, disturbed_marks, event_marks, noted, next_entry}
use Rattle.mdns_asserts.specs.Earned.{conflicts}
use Rattle.mdns_asserts.proofs.Elements.{In, any_in, in_left, in_right, or_one, or_two, or_cases, both_no}
use Rattle.mdns_asserts.proofs.Numbered.{own_id}
use Rattle.mdns_asserts.proofs.Followed.{marks-next}

-- the mark of a group in its turn
turn_mark : (heard : Heard) (h : List Entry) (gs : List Group) (holdings : List Holding) (group : Group) → In group gs →
    (others : List (List (List ℕ))) × ((m : Mark) → claim_mark heard h group others ≡ Some m → In m (marks_in_turn heard h gs holdings))
turn_mark heard h [] holdings group m = absurd m
turn_mark heard h (g ∷ gs) holdings group (inl e) = (held_by_others g.id holdings, λ m c. of m (claim_mark heard h g (held_by_others g.id holdings)) (ap (λ k. claim_mark heard h k (held_by_others g.id holdings)) (sym e) ∙ c))
  where
    of : (m : Mark) (o : Option Mark) → o ≡ Some m → In m (cons_option o (marks_in_turn heard h gs (holdings_after g o holdings)))
    of m None f = cc
    of m (Some n) f = inl (some_same f)
      where
        some_same : Some n ≡ Some m → m ≡ n
        some_same k = cc
turn_mark heard h (g ∷ gs) holdings group (inr n) =
    let verdict : Option Mark = claim_mark heard h g (held_by_others g.id holdings) in
    let found : (others : List (List (List ℕ))) × ((m : Mark) → claim_mark heard h group others ≡ Some m → In m (marks_in_turn heard h gs (holdings_after g verdict holdings))) =
    turn_mark heard h gs (holdings_after g verdict holdings) group n in
    (found.0, λ m c. behind m verdict (found.1 m c))
  where
    behind : (m : Mark) (o : Option Mark) → In m (marks_in_turn heard h gs (holdings_after g (claim_mark heard h g (held_by_others g.id holdings)) holdings)) →
        In m (cons_option o (marks_in_turn heard h gs (holdings_after g (claim_mark heard h g (held_by_others g.id holdings)) holdings)))
    behind m None k = k
    behind m (Some other) k = inr k

-- a mark that sets a group back or ends it
abbrev pub disturbs : ℕ → Mark → Bool
disturbs id m = is_setback_of id m || is_failure_of id m

giving_up_disturbs : (group : Group) (h : List Entry) (others : List (List (List ℕ))) → disturbs group.id (giving_up group h others) ≡ true
giving_up_disturbs group h others = of (group.norename || nat_lt greatest_number (free_number (number_of group h + 1) others group))
  where
    of : (b : Bool) → disturbs group.id (cond b (mark.Failed group.id) (mark.Renamed group.id (free_number (number_of group h + 1) others group))) ≡ true
    of true = own_id group.id
    of false = or_one (group.id == group.id) false (own_id group.id)

-- what conflicts with the claim of a group that was probed disturbs it
conflict_mark : (heard : Heard) (h : List Entry) (group : Group) (others : List (List (List ℕ))) → was_probed group h ≡ true → conflicts group h (Some heard) ≡ true →
    (m : Mark) × (claim_mark heard h group others ≡ Some m) × (disturbs group.id m ≡ true)
conflict_mark heard h group others probed conflicting =
    rw probed (of (is_sure group h) (clashes (group_name group h) (unique_records group h) (counted_records (Some heard))) (not heard.message.response && (heard.from.port == mdns_port) && loses_tie (group_name group h) (unique_records group h) heard.message.authority) conflicting)
  where
    of : (sure clashed tied : Bool) → (clashed || (not sure && tied)) ≡ true →
        (m : Mark) × (cond sure (cond clashed (Some (mark.Contested group.id)) None) (cond clashed (Some (giving_up group h others)) (cond tied (Some (mark.TieLost group.id)) None)) ≡ Some m)
        × (disturbs group.id m ≡ true)
    of true true tied e = (mark.Contested group.id, refl, or_one (group.id == group.id) false (own_id group.id))
    of true false tied e = cc
    of false true tied e = (giving_up group h others, refl, giving_up_disturbs group h others)
    of false false true e = (mark.TieLost group.id, refl, or_one (group.id == group.id) false (own_id group.id))
    of false false false e = cc

-- a packet that would leave too much is refused
full_refused : (entry : Entry) (past : List Entry) (ev : Event) (heard : Heard) → brought ev ≡ Some heard → is_too_full entry past ≡ true → list_any is_refusal (refusal_marks entry past ev) ≡ true
full_refused entry past (event.Hear from bytes) heard b full = rw full refl
full_refused entry past (event.Boot config) heard b full = cc
full_refused entry past event.Attach heard b full = cc
full_refused entry past (event.Detach session) heard b full = cc
full_refused entry past (event.Call session op request) heard b full = cc
full_refused entry past event.Tick heard b full = cc
full_refused entry past (event.Take session max) heard b full = cc

front_refuses : (xs ys zs : List Mark) → list_any is_refusal xs ≡ true → list_any is_refusal ((xs ++ ys) ++ zs) ≡ true
front_refuses [] ys zs h = cc
front_refuses (x ∷ xs) ys zs h = on (is_refusal x) h (front_refuses xs ys zs)
  where
    on : (d : Bool) → (d || list_any is_refusal xs) ≡ true → (list_any is_refusal xs ≡ true → list_any is_refusal ((xs ++ ys) ++ zs) ≡ true) → (d || list_any is_refusal ((xs ++ ys) ++ zs)) ≡ true
    on true g rest = refl
    on false g rest = rest g

module _ (duties : Duties) (entry : Entry) (past : List Entry) (determined : entry ≡ next_entry duties past entry.moment entry.word entry.event) where
  marks_are : entry.marks ≡ event_marks duties (bare_entry entry.moment entry.word entry.event past) past ++ cut_marks (noted duties (bare_entry entry.moment entry.word entry.event past) past) past
  marks_are = ap (λ e. e.marks) determined ∙ marks-next duties past entry.moment entry.word entry.event

  -- the marks of a refusal, and of claims where that is a duty, are marks of the entry
  refusal_in : (m : Mark) → In m (refusal_marks (bare_entry entry.moment entry.word entry.event past) past entry.event) → In m entry.marks
  refusal_in m k = subst (λ ms. In m ms) (sym marks_are) (in_left m _ _ (in_left m _ _ k))

  pub disturbed_in : duties.claiming ≡ true → (m : Mark) → In m (disturbed_marks (bare_entry entry.moment entry.word entry.event past) past) → In m entry.marks
  disturbed_in claiming m k =
      let b : Entry = bare_entry entry.moment entry.word entry.event past in
      subst (λ ms. In m ms) (sym marks_are)
      (in_left m (event_marks duties b past) _ (in_right m (refusal_marks b past entry.event) _ (in_left m (only_if duties.claiming (disturbed_marks b past)) _
      (subst (λ c. In m (only_if c (disturbed_marks b past))) (sym claiming) k))))

  -- what an entry heard it took in
  pub heard_admitted : (heard : Heard) → heard_in entry ≡ Some heard → admitted (bare_entry entry.moment entry.word entry.event past) past (brought entry.event) ≡ Some heard
  unfolding heard_in
  heard_admitted heard e = of (list_any is_refusal entry.marks) refl e
    where
      roomy : list_any is_refusal entry.marks ≡ false → brought entry.event ≡ Some heard → (c : Bool) → is_too_full (bare_entry entry.moment entry.word entry.event past) past ≡ c → cond c None (Some heard) ≡ Some heard
      roomy none is true full = absurd (some_refused (full_refused (bare_entry entry.moment entry.word entry.event past) past entry.event heard is full))
        where
          some_refused : list_any is_refusal (refusal_marks (bare_entry entry.moment entry.word entry.event past) past entry.event) ≡ true → ⊥
          some_refused refused = both_no (list_any is_refusal entry.marks) (ap (list_any is_refusal) marks_are ∙ front_refuses (refusal_marks (bare_entry entry.moment entry.word entry.event past) past entry.event) _ _ refused) none
      roomy none is false full = refl

      of : (r : Bool) → list_any is_refusal entry.marks ≡ r → cond r None (brought entry.event) ≡ Some heard → admitted (bare_entry entry.moment entry.word entry.event past) past (brought entry.event) ≡ Some heard
      of true f g = cc
      of false f g = ap (admitted (bare_entry entry.moment entry.word entry.event past) past) g ∙ roomy f g (is_too_full (bare_entry entry.moment entry.word entry.event past) past) refl

  -- With the claim of a group that is left, was probed, and isn't set back, nothing conflicted.
  pub left_unanswered : duties.claiming ≡ true → (group : Group) → In group (groups past) → ends_group entry group ≡ false → sets_back group.id entry past ≡ false →
      (not (was_probed group past) || not (conflicts group past (heard_in entry))) ≡ true
  unfolding claim_marks
  left_unanswered claiming group m stays kept = of (was_probed group past) (conflicts group past (heard_in entry)) refl refl
    where
      never : was_probed group past ≡ true → (o : Option Heard) → heard_in entry ≡ o → conflicts group past o ≡ true → ⊥
      never probed None e a = cc
      never probed (Some heard) e a =
          let b : Entry = bare_entry entry.moment entry.word entry.event past in
          let holdings : List Holding = map (holding_of past) (groups past) in
          let turn : (others : List (List (List ℕ))) × ((n : Mark) → claim_mark heard past group others ≡ Some n → In n (marks_in_turn heard past (groups past) holdings)) = turn_mark heard past (groups past) holdings group m in
          let given : (n : Mark) × (claim_mark heard past group turn.0 ≡ Some n) × (disturbs group.id n ≡ true) = conflict_mark heard past group turn.0 probed a in
          let noticed : In given.0 (disturbed_marks b past) = subst (λ (h : Option Heard). In given.0 (claim_marks h past)) (sym (heard_admitted heard e)) (turn.1 given.0 given.1) in
          let marked : In given.0 entry.marks = disturbed_in claiming given.0 noticed in
          cases given.0 marked (or_cases (is_setback_of group.id given.0) (is_failure_of group.id given.0) given.2)
        where
          cases : (n : Mark) → In n entry.marks → (is_setback_of group.id n ≡ true) ⊎ (is_failure_of group.id n ≡ true) → ⊥
          cases n k (inl s) = both_no (sets_back group.id entry past) (or_two (registers group.id entry past) (has_mark (is_setback_of group.id) entry) (any_in (is_setback_of group.id) entry.marks n k s)) kept
          cases n k (inr s) = both_no (ends_group entry group) (or_two _ (has_mark (is_failure_of group.id) entry) (any_in (is_failure_of group.id) entry.marks n k s)) stays

      of : (p a : Bool) → was_probed group past ≡ p → conflicts group past (heard_in entry) ≡ a → (not p || not a) ≡ true
      of false a e f = refl
      of true false e f = refl
      of true true e f = absurd (never e (heard_in entry) refl f)
