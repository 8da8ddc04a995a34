-- The marks of claims among those of an entry: no other mark renames, sets back or ends a group, or counts as a conflict.
use Rattle.std.proofs.Common.{◌≡◌, ℕ, suc, Bool, true, false, cond, ◌||◌, List, [], ◌∷◌, ◌++◌, refl, ap, sym, ◌∙◌, append-nil, None}
use Rattle.std.specs.List.{list_any, filter_map, cons_option}
use Rattle.std.proofs.lemmas.List.Folds.{list_any-append}
use Rattle.std.proofs.lemmas.List.Elements.{filter_map-append}
use Rattle.lists.specs.Lists.{count_where}
use Rattle.mdns_history.specs.declared.event.Event.{Event}
use Rattle.mdns_history.specs.declared.event.Event.TheVariants as event
use Rattle.mdns_history.specs.declared.mark.Mark.{Mark}
use Rattle.mdns_history.specs.declared.mark.Mark.TheVariants as mark
use Rattle.mdns_history.specs.declared.entry.Entry.{Entry}
use Rattle.mdns_history.specs.InForce.{Duties, only_if}
use Rattle.mdns_history.specs.Groups.{Group, number_in_mark, is_failure_of}
use Rattle.mdns_history.specs.Sureness.{is_setback_of}
use Rattle.mdns_history.specs.Probing.{is_conflict, is_lost_tie_of}
use Rattle.mdns_history.specs.Announcing.{announced_groups}
use Rattle.mdns_history.specs.Items.{cut_marks}
use Rattle.mdns_history.specs.Fitting.{refusal_marks, disturbed_marks, asked_marks, announced_marks, noted}
use Rattle.mdns_probe.proofs.Legal.{entry_after, bare, marks_is}
use Rattle.mdns_probe.proofs.Quiet.{IsNarrow, quiet_map, quiet_refusal, quiet_asked, quiet_cuts, quiet_if}

-- the marks of claims
abbrev pub is_claimed : Mark → Bool
is_claimed (mark.Renamed group number) = true
is_claimed (mark.Contested group) = true
is_claimed (mark.TieLost group) = true
is_claimed (mark.Failed group) = true
is_claimed _ = false

narrow : IsNarrow is_claimed
narrow = record { bad = λ number. refl; full = refl; asked = λ key why. refl; cut = λ session. refl }

-- a test that no other mark passes
abbrev pub IsOfClaims : (Mark → Bool) → Type 0
IsOfClaims test = (m : Mark) → is_claimed m ≡ false → test m ≡ false

pub failures : (id : ℕ) → IsOfClaims (is_failure_of id)
failures id (mark.Renamed group number) h = cc
failures id (mark.Contested group) h = cc
failures id (mark.TieLost group) h = cc
failures id (mark.Failed group) h = cc
failures id (mark.Bad number) h = refl
failures id mark.Full h = refl
failures id (mark.Asked key why) h = refl
failures id (mark.Announced group) h = refl
failures id (mark.Cut session) h = refl

pub setbacks : (id : ℕ) → IsOfClaims (is_setback_of id)
setbacks id (mark.Renamed group number) h = cc
setbacks id (mark.Contested group) h = cc
setbacks id (mark.TieLost group) h = cc
setbacks id (mark.Failed group) h = cc
setbacks id (mark.Bad number) h = refl
setbacks id mark.Full h = refl
setbacks id (mark.Asked key why) h = refl
setbacks id (mark.Announced group) h = refl
setbacks id (mark.Cut session) h = refl

pub lost_ties : (id : ℕ) → IsOfClaims (is_lost_tie_of id)
lost_ties id (mark.Renamed group number) h = cc
lost_ties id (mark.Contested group) h = cc
lost_ties id (mark.TieLost group) h = cc
lost_ties id (mark.Failed group) h = cc
lost_ties id (mark.Bad number) h = refl
lost_ties id mark.Full h = refl
lost_ties id (mark.Asked key why) h = refl
lost_ties id (mark.Announced group) h = refl
lost_ties id (mark.Cut session) h = refl

either_false : (a b : Bool) → (a || b) ≡ false → (a ≡ false) × (b ≡ false)
either_false false false h = (refl, refl)
either_false true b h = absurd (cc)
either_false false true h = absurd (cc)

none_pass : (test : Mark → Bool) → IsOfClaims test → (ms : List Mark) → list_any is_claimed ms ≡ false → list_any test ms ≡ false
none_pass test claims [] h = refl
none_pass test claims (m ∷ ms) h =
    let parts = either_false (is_claimed m) (list_any is_claimed ms) h in
    λ i. claims m parts.0 i || none_pass test claims ms parts.1 i

no_number : (id : ℕ) (m : Mark) → is_claimed m ≡ false → number_in_mark id m ≡ None
no_number id (mark.Renamed group number) h = cc
no_number id (mark.Contested group) h = cc
no_number id (mark.TieLost group) h = cc
no_number id (mark.Failed group) h = cc
no_number id (mark.Bad number) h = refl
no_number id mark.Full h = refl
no_number id (mark.Asked key why) h = refl
no_number id (mark.Announced group) h = refl
no_number id (mark.Cut session) h = refl

no_numbers : (id : ℕ) (ms : List Mark) → list_any is_claimed ms ≡ false → filter_map (number_in_mark id) ms ≡ []
no_numbers id [] h = refl
no_numbers id (m ∷ ms) h =
    let parts = either_false (is_claimed m) (list_any is_claimed ms) h in
    (λ i. cons_option (no_number id m parts.0 i) (filter_map (number_in_mark id) ms)) ∙ no_numbers id ms parts.1

no_conflict : IsOfClaims is_conflict
no_conflict (mark.Renamed group number) h = cc
no_conflict (mark.Contested group) h = cc
no_conflict (mark.TieLost group) h = cc
no_conflict (mark.Failed group) h = cc
no_conflict (mark.Bad number) h = refl
no_conflict mark.Full h = refl
no_conflict (mark.Asked key why) h = refl
no_conflict (mark.Announced group) h = refl
no_conflict (mark.Cut session) h = refl

none_count : (ms more : List Mark) → list_any is_claimed ms ≡ false → count_where is_conflict (ms ++ more) ≡ count_where is_conflict more
none_count [] more h = refl
none_count (m ∷ ms) more h =
    let parts = either_false (is_claimed m) (list_any is_claimed ms) h in
    ap (λ b. cond b (suc (count_where is_conflict (ms ++ more))) (count_where is_conflict (ms ++ more))) (no_conflict m parts.0) ∙ none_count ms more parts.1

none_behind : (more ms : List Mark) → list_any is_claimed ms ≡ false → count_where is_conflict (more ++ ms) ≡ count_where is_conflict more
none_behind [] ms h = ap (count_where is_conflict) (sym (append-nil ms)) ∙ none_count ms [] h
none_behind (m ∷ more) ms h = of (is_conflict m) (none_behind more ms h)
  where
    of : (b : Bool) → count_where is_conflict (more ++ ms) ≡ count_where is_conflict more →
        cond b (suc (count_where is_conflict (more ++ ms))) (count_where is_conflict (more ++ ms)) ≡ cond b (suc (count_where is_conflict more)) (count_where is_conflict more)
    of true e = ap suc e
    of false e = e

module _ (duties : Duties) (claiming : duties.claiming ≡ true) (past : List Entry) (moment word : ℕ) (ev : Event) where
  abbrev entry : Entry
  entry = entry_after duties past moment word ev

  abbrev start : Entry
  start = bare duties past moment word ev

  -- the marks of claims
  abbrev pub disturbed : List Mark
  disturbed = disturbed_marks start past

  abbrev before : List Mark
  before = refusal_marks start past ev

  abbrev rest : List Mark
  rest = (only_if duties.asking (asked_marks start past ev) ++ only_if duties.announcing (announced_marks start past ev)) ++ cut_marks (noted duties start past) past

  parts_are : entry.marks ≡ before ++ (disturbed ++ rest)
  parts_are = marks_is duties past moment word ev ∙ ap (λ b. before ++ (only_if b disturbed ++ rest)) claiming

  quiet_before : list_any is_claimed before ≡ false
  quiet_before = quiet_refusal is_claimed narrow start past ev

  quiet_announced : (e : Event) → list_any is_claimed (announced_marks start past e) ≡ false
  quiet_announced event.Tick = quiet_map is_claimed narrow (λ (group : Group). mark.Announced group.id) (λ group. refl) (announced_groups (start ∷ past) start.moment)
  quiet_announced (event.Boot config) = refl
  quiet_announced event.Attach = refl
  quiet_announced (event.Detach session) = refl
  quiet_announced (event.Call session op request) = refl
  quiet_announced (event.Hear from bytes) = refl
  quiet_announced (event.Take session max) = refl

  quiet_rest : list_any is_claimed rest ≡ false
  quiet_rest =
      list_any-append is_claimed (only_if duties.asking (asked_marks start past ev) ++ only_if duties.announcing (announced_marks start past ev)) (cut_marks (noted duties start past) past)
      ∙ (λ i. list_any-append is_claimed (only_if duties.asking (asked_marks start past ev)) (only_if duties.announcing (announced_marks start past ev)) i || quiet_cuts is_claimed narrow (noted duties start past) past i)
      ∙ (λ i. (quiet_if is_claimed narrow duties.asking (asked_marks start past ev) (quiet_asked is_claimed narrow start past ev) i
      || quiet_if is_claimed narrow duties.announcing (announced_marks start past ev) (quiet_announced ev) i) || false)

  -- what a test of marks of claims says of the entry
  pub any_claimed : (test : Mark → Bool) → IsOfClaims test → list_any test entry.marks ≡ list_any test disturbed
  any_claimed test claims =
      ap (list_any test) parts_are
      ∙ list_any-append test before (disturbed ++ rest)
      ∙ (λ i. none_pass test claims before quiet_before i || list_any-append test disturbed rest i)
      ∙ (λ i. list_any test disturbed || none_pass test claims rest quiet_rest i)
      ∙ or_false (list_any test disturbed)
    where
      or_false : (b : Bool) → (b || false) ≡ b
      or_false true = refl
      or_false false = refl

  -- the numbers that the entry gives to a group
  pub numbers_claimed : (id : ℕ) → filter_map (number_in_mark id) entry.marks ≡ filter_map (number_in_mark id) disturbed
  numbers_claimed id =
      ap (filter_map (number_in_mark id)) parts_are
      ∙ filter_map-append (number_in_mark id) before (disturbed ++ rest)
      ∙ (λ i. no_numbers id before quiet_before i ++ filter_map-append (number_in_mark id) disturbed rest i)
      ∙ ap (λ l. filter_map (number_in_mark id) disturbed ++ l) (no_numbers id rest quiet_rest)
      ∙ append-nil (filter_map (number_in_mark id) disturbed)

  -- how many conflicts it counts
  pub conflicts_claimed : count_where is_conflict entry.marks ≡ count_where is_conflict disturbed
  conflicts_claimed = ap (count_where is_conflict) parts_are ∙ none_count before (disturbed ++ rest) quiet_before ∙ none_behind disturbed rest quiet_rest
