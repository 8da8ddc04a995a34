-- Entries of legal histories may stand in one.
use Rattle.std.proofs.Common.{◌≡◌, ℕ, ◌+◌, ◌==◌, ◌≤◌, Bool, true, false, cond, not, ◌&&◌, ◌||◌, List, [], ◌∷◌, ◌++◌, map, Option, Some, None, refl, ap, ◌∙◌, arith}
use Rattle.std.specs.Prelude.{filter, nat_lt, nat_le}
use Rattle.std.specs.List.{list_all, filter_map, cons_option}
use Rattle.std.specs.Option.{is_some, option_map_or}
use Rattle.std.specs.Ordering.{int_eq}
use Rattle.mdns_base.specs.Hosts.{mdns_port}
use Rattle.dns_record.specs.Conflicts.{clashes, loses_tie}
use Rattle.dns_message.specs.Reading.{fault}
use Rattle.sd_call.specs.declared.request.Request.{Request}
use Rattle.sd_call.specs.Requests.{no_error, bad_param, bad_reference, unsupported, name_conflict, invalid, refused, well_formed, is_start}
use Rattle.mdns_history.specs.declared.event.Event.{Event}
use Rattle.mdns_history.specs.declared.event.Event.TheVariants as event
use Rattle.mdns_history.specs.declared.mark.Mark.{Mark}
use Rattle.mdns_history.specs.declared.mark.Mark.TheVariants as mark
use Rattle.mdns_history.specs.declared.mark.Cause.{Cause}
use Rattle.mdns_history.specs.declared.mark.Cause.TheVariants as cause
use Rattle.mdns_history.specs.declared.entry.Outcome.TheVariants as outcome
use Rattle.mdns_history.specs.declared.entry.Entry.{Entry}
use Rattle.mdns_history.specs.InForce.{Duties, only_if}
use Rattle.mdns_history.specs.Hearings.{Heard, brought, counted_records}
use Rattle.mdns_history.specs.Lifetimes.{is_too_full}
use Rattle.mdns_history.specs.Sessions.{accepted_call, accepted_in, operation_request, is_attached, is_cut}
use Rattle.mdns_history.specs.Questions.{Active, active_questions}
use Rattle.mdns_history.specs.Asking.{asked_mark, tick_cause, tick_askings, is_asked_by, heard_askings}
use Rattle.mdns_history.specs.Groups.{Group, groups, group_name, unique_records, number_of, free_number}
use Rattle.mdns_history.specs.Sureness.{is_sure}
use Rattle.mdns_history.specs.Claims.{was_probed, greatest_number, giving_up, claim_mark, Holding, holding_of, held_by_others, holdings_after, marks_in_turn, claim_marks}
use Rattle.mdns_history.specs.Items.{cut_marks, served_sessions, would_pass}
use Rattle.mdns_history.specs.Outcomes.{call_code, is_bad_reference, is_unsupported, is_refused, is_name_conflict, early_outcome, late_outcome}
use Rattle.mdns_history.specs.Fitting.{bare_entry, refusal_marks, admitted, disturbed_marks, asked_marks, announced_marks, event_marks, noted, with_cuts, with_items, next_entry, boot_entry, last_moment, IsLegalFrom}
use Rattle.mdns_history.specs.Announcing.{announced_groups}
use Rattle.plain_history.specs.Last.{are_by}
use Rattle.plain_history.specs.Standing.{is_sound_call, is_small, may_stand}
use Rattle.mdns_asserts.proofs.Elements.{and_both, and_first, and_second}
use Rattle.mdns_asserts.proofs.Followed.{marks-next}

-- ---- a call that is answered with code 0 is well formed

formed : (a b c d e f : Bool) → int_eq (cond a invalid (cond b bad_reference (cond (not c) bad_param (cond d unsupported (cond e refused (cond f name_conflict no_error)))))) no_error ≡ true → c ≡ true
formed true b c d e f h = cc
formed false true c d e f h = cc
formed false false true d e f h = refl
formed false false false d e f h = cc

call_formed : (session op : ℕ) (request : Request) (past : List Entry) → int_eq (call_code session op request past) no_error ≡ true → well_formed request ≡ true
unfolding call_code
call_formed session op request past =
    formed (is_start request && is_some (operation_request session op past)) (is_bad_reference session op request past) (well_formed request) (is_unsupported request past)
    (is_refused session request past) (is_name_conflict request past)

early_sound : (ev : Event) (past : List Entry) → is_sound_call (accepted_call ev (early_outcome ev past)) ≡ true
unfolding early_outcome
early_sound (event.Boot config) past = refl
early_sound event.Attach past = refl
early_sound (event.Detach session) past = refl
early_sound (event.Call session op request) past = of (is_attached session past) (is_cut session past)
  where
    coded : (b : Bool) → int_eq (call_code session op request past) no_error ≡ b →
        is_sound_call (cond b (Some (record { session = session; op = op; request = request })) None) ≡ true
    coded true e = call_formed session op request past e
    coded false e = refl

    of : (a c : Bool) → is_sound_call (accepted_call (event.Call session op request) (cond (not a) outcome.Closed (cond c outcome.Cut (outcome.Code (call_code session op request past))))) ≡ true
    of false c = refl
    of true true = refl
    of true false = coded (int_eq (call_code session op request past) no_error) refl
early_sound (event.Hear from bytes) past = refl
early_sound event.Tick past = refl
early_sound (event.Take session max) past = refl

sound : (ev : Event) (past later : List Entry) → is_sound_call (accepted_call ev (late_outcome ev (early_outcome ev past) later)) ≡ true
sound (event.Boot config) past later = refl
sound event.Attach past later = refl
sound (event.Detach session) past later = refl
sound (event.Call session op request) past later = early_sound (event.Call session op request) past
sound (event.Hear from bytes) past later = refl
sound event.Tick past later = refl
sound (event.Take session max) past later = refl

-- ---- the numbers that marks give are small

small_append : (xs ys : List Mark) → list_all is_small xs ≡ true → list_all is_small ys ≡ true → list_all is_small (xs ++ ys) ≡ true
small_append [] ys h g = g
small_append (x ∷ xs) ys h g =
    and_both (is_small x) (list_all is_small (xs ++ ys)) (and_first (is_small x) (list_all is_small xs) h) (small_append xs ys (and_second (is_small x) (list_all is_small xs) h) g)

small_map : {X : Type 0} (f : X → Mark) (xs : List X) → ((x : X) → is_small (f x) ≡ true) → list_all is_small (map f xs) ≡ true
small_map f [] h = refl
small_map f (x ∷ xs) h = and_both (is_small (f x)) (list_all is_small (map f xs)) (h x) (small_map f xs h)

small_only : (b : Bool) (xs : List Mark) → list_all is_small xs ≡ true → list_all is_small (only_if b xs) ≡ true
small_only true xs h = h
small_only false xs h = refl

-- a mark that may be there
abbrev is_small_if : Option Mark → Bool
is_small_if None = true
is_small_if (Some m) = is_small m

small_cons : (o : Option Mark) (xs : List Mark) → is_small_if o ≡ true → list_all is_small xs ≡ true → list_all is_small (cons_option o xs) ≡ true
small_cons None xs h g = g
small_cons (Some m) xs h g = and_both (is_small m) (list_all is_small xs) h g

small_filter : {X : Type 0} (f : X → Option Mark) (xs : List X) → ((x : X) → is_small_if (f x) ≡ true) → list_all is_small (filter_map f xs) ≡ true
small_filter f [] h = refl
small_filter f (x ∷ xs) h = small_cons (f x) (filter_map f xs) (h x) (small_filter f xs h)

within : (most n : ℕ) → nat_lt most n ≡ false → nat_le n most ≡ true
within most n h = grind arith

claim_small : (heard : Heard) (past : List Entry) (group : Group) (others : List (List (List ℕ))) → is_small_if (claim_mark heard past group others) ≡ true
claim_small heard past group others =
    of (is_sure group past) (was_probed group past) (clashes (group_name group past) (unique_records group past) (counted_records (Some heard)))
    (not heard.message.response && (heard.from.port == mdns_port) && loses_tie (group_name group past) (unique_records group past) heard.message.authority)
  where
    n : ℕ
    n = free_number (number_of group past + 1) others group

    giving : (a b : Bool) → nat_lt greatest_number (free_number (number_of group past + 1) others group) ≡ b →
        is_small (cond (a || b) (mark.Failed group.id) (mark.Renamed group.id (free_number (number_of group past + 1) others group))) ≡ true
    giving true b e = refl
    giving false true e = refl
    giving false false e = within greatest_number (free_number (number_of group past + 1) others group) e

    of : (s p c t : Bool) →
        is_small_if (cond s (cond c (Some (mark.Contested group.id)) None) (cond (not p) None (cond c (Some (giving_up group past others)) (cond t (Some (mark.TieLost group.id)) None)))) ≡ true
    of true p true t = refl
    of true p false t = refl
    of false false c t = refl
    of false true true t = giving group.norename (nat_lt greatest_number (free_number (number_of group past + 1) others group)) refl
    of false true false true = refl
    of false true false false = refl

turns_small : (heard : Heard) (past : List Entry) (gs : List Group) (hs : List Holding) → list_all is_small (marks_in_turn heard past gs hs) ≡ true
turns_small heard past [] hs = refl
turns_small heard past (group ∷ gs) hs =
    let verdict : Option Mark = claim_mark heard past group (held_by_others group.id hs) in
    small_cons verdict (marks_in_turn heard past gs (holdings_after group verdict hs)) (claim_small heard past group (held_by_others group.id hs))
    (turns_small heard past gs (holdings_after group verdict hs))

claims_small : (heard : Option Heard) (past : List Entry) → list_all is_small (claim_marks heard past) ≡ true
unfolding claim_marks
claims_small None past = refl
claims_small (Some heard) past = turns_small heard past (groups past) (map (holding_of past) (groups past))

heard_small : (past : List Entry) (moment : ℕ) (heard : Option Heard) → list_all is_small (heard_askings past moment heard) ≡ true
unfolding heard_askings
heard_small past moment None = refl
heard_small past moment (Some heard) = small_map (λ (active : Active). mark.Asked active.key cause.Heard) (filter (is_asked_by past moment heard) (active_questions past)) (λ active. refl)

tick_small : (past : List Entry) (moment : ℕ) → list_all is_small (tick_askings past moment) ≡ true
unfolding tick_askings
tick_small past moment = small_filter (λ active. asked_mark active (tick_cause past moment active)) (active_questions past) (λ active. of active (tick_cause past moment active))
  where
    of : (active : Active) (cause : Option Cause) → is_small_if (asked_mark active cause) ≡ true
    of active None = refl
    of active (Some cause) = refl

asked_small : (entry : Entry) (past : List Entry) (ev : Event) → list_all is_small (asked_marks entry past ev) ≡ true
asked_small entry past (event.Boot config) = heard_small past entry.moment (admitted entry past (brought (event.Boot config)))
asked_small entry past event.Attach = heard_small past entry.moment (admitted entry past (brought event.Attach))
asked_small entry past (event.Detach session) = heard_small past entry.moment (admitted entry past (brought (event.Detach session)))
asked_small entry past (event.Call session op request) = heard_small past entry.moment (admitted entry past (brought (event.Call session op request)))
asked_small entry past (event.Hear from bytes) = heard_small past entry.moment (admitted entry past (brought (event.Hear from bytes)))
asked_small entry past event.Tick = tick_small past entry.moment
asked_small entry past (event.Take session max) = heard_small past entry.moment (admitted entry past (brought (event.Take session max)))

announced_small : (entry : Entry) (past : List Entry) (ev : Event) → list_all is_small (announced_marks entry past ev) ≡ true
announced_small entry past (event.Boot config) = refl
announced_small entry past event.Attach = refl
announced_small entry past (event.Detach session) = refl
announced_small entry past (event.Call session op request) = refl
announced_small entry past (event.Hear from bytes) = refl
announced_small entry past event.Tick = small_map (λ (group : Group). mark.Announced group.id) (announced_groups (entry ∷ past) entry.moment) (λ group. refl)
announced_small entry past (event.Take session max) = refl

refused_small : (entry : Entry) (past : List Entry) (ev : Event) → list_all is_small (refusal_marks entry past ev) ≡ true
refused_small entry past (event.Boot config) = refl
refused_small entry past event.Attach = refl
refused_small entry past (event.Detach session) = refl
refused_small entry past (event.Call session op request) = refl
refused_small entry past (event.Hear from bytes) = of (is_too_full entry past) (fault bytes)
  where
    of : (full : Bool) (found : Option ℕ) → list_all is_small (cond full (mark.Full ∷ []) (option_map_or (λ (number : ℕ). mark.Bad number ∷ []) found [])) ≡ true
    of true found = refl
    of false None = refl
    of false (Some number) = refl
refused_small entry past event.Tick = refl
refused_small entry past (event.Take session max) = refl

cuts_small : (entry : Entry) (past : List Entry) → list_all is_small (cut_marks entry past) ≡ true
unfolding cut_marks
cuts_small entry past = small_map (λ (session : ℕ). mark.Cut session) (filter (would_pass entry past) (served_sessions entry past)) (λ session. refl)

marks_small : (duties : Duties) (entry : Entry) (past : List Entry) → list_all is_small (event_marks duties entry past) ≡ true
marks_small duties entry past =
    let disturbed : List Mark = disturbed_marks entry past in
    let asked : List Mark = asked_marks entry past entry.event in
    let announced : List Mark = announced_marks entry past entry.event in
    small_append (refusal_marks entry past entry.event) (only_if duties.claiming disturbed ++ (only_if duties.asking asked ++ only_if duties.announcing announced))
    (refused_small entry past entry.event)
    (small_append (only_if duties.claiming disturbed) (only_if duties.asking asked ++ only_if duties.announcing announced)
    (small_only duties.claiming disturbed (claims_small (admitted entry past (brought entry.event)) past))
    (small_append (only_if duties.asking asked) (only_if duties.announcing announced)
    (small_only duties.asking asked (asked_small entry past entry.event))
    (small_only duties.announcing announced (announced_small entry past entry.event))))

-- ---- the entry that fits

next_small : (duties : Duties) (past : List Entry) (moment word : ℕ) (ev : Event) → list_all is_small (next_entry duties past moment word ev).marks ≡ true
next_small duties past moment word ev =
    ap (list_all is_small) (marks-next duties past moment word ev)
    ∙ small_append (event_marks duties (bare_entry moment word ev past) past) (cut_marks (noted duties (bare_entry moment word ev past) past) past)
    (marks_small duties (bare_entry moment word ev past) past) (cuts_small (noted duties (bare_entry moment word ev past) past) past)

next_sound : (duties : Duties) (past : List Entry) (moment word : ℕ) (ev : Event) → is_sound_call (accepted_in (next_entry duties past moment word ev)) ≡ true
unfolding next_entry
next_sound duties past moment word ev = sound ev past _

-- ---- the stages in which it is made

in_time : (moment most : ℕ) → moment ≤ most → nat_le moment most ≡ true
in_time moment most h = grind arith

stands_if : (entry : Entry) → entry.moment ≤ last_moment → is_sound_call (accepted_in entry) ≡ true → list_all is_small entry.marks ≡ true → may_stand entry ≡ true
stands_if entry early call marks =
    and_both (nat_le entry.moment last_moment && is_sound_call (accepted_in entry)) (list_all is_small entry.marks)
    (and_both (nat_le entry.moment last_moment) (is_sound_call (accepted_in entry)) (in_time entry.moment last_moment early) call) marks

module _ (duties : Duties) (past : List Entry) (moment word : ℕ) (ev : Event) (early : moment ≤ last_moment) where
  -- the entry with its marks and what it sends
  abbrev marked : Entry
  marked = noted duties (bare_entry moment word ev past) past

  marked_small : list_all is_small marked.marks ≡ true
  marked_small = marks_small duties (bare_entry moment word ev past) past

  cut_small : list_all is_small (with_cuts marked past).marks ≡ true
  cut_small = small_append marked.marks (cut_marks marked past) marked_small (cuts_small marked past)

  pub bare_stands : may_stand (bare_entry moment word ev past) ≡ true
  bare_stands = stands_if (bare_entry moment word ev past) early (early_sound ev past) refl

  pub noted_stands : may_stand (noted duties (bare_entry moment word ev past) past) ≡ true
  noted_stands = stands_if marked early (early_sound ev past) marked_small

  pub cutting_stands : may_stand (with_cuts (noted duties (bare_entry moment word ev past) past) past) ≡ true
  cutting_stands = stands_if (with_cuts marked past) early (early_sound ev past) cut_small

  pub giving_stands : may_stand (with_items (with_cuts (noted duties (bare_entry moment word ev past) past) past) past) ≡ true
  giving_stands = stands_if (with_items (with_cuts marked past) past) early (early_sound ev past) cut_small

-- an entry that is this one may stand
same_stands : (entry e : Entry) → entry ≡ e → entry.moment ≤ last_moment → is_sound_call (accepted_in e) ≡ true → list_all is_small e.marks ≡ true → may_stand entry ≡ true
same_stands entry e same early call marks =
    and_both (nat_le entry.moment last_moment && is_sound_call (accepted_in entry)) (list_all is_small entry.marks)
    (and_both (nat_le entry.moment last_moment) (is_sound_call (accepted_in entry)) (in_time entry.moment last_moment early) (ap (λ (x : Entry). is_sound_call (accepted_in x)) same ∙ call))
    (ap (λ (x : Entry). list_all is_small x.marks) same ∙ marks)

pub stands : (duties : Duties) (entry : Entry) (past : List Entry) → IsLegalFrom duties entry past → may_stand entry ≡ true
stands duties entry [] legal = same_stands entry (boot_entry entry.moment entry.word legal.0) legal.3 legal.1 refl refl
stands duties entry (before ∷ past) legal =
    same_stands entry (next_entry duties (before ∷ past) entry.moment entry.word entry.event) legal.0.determined legal.0.in_time
    (next_sound duties (before ∷ past) entry.moment entry.word entry.event) (next_small duties (before ∷ past) entry.moment entry.word entry.event)

-- ---- no entry of a legal history is later than its last one

pub legal_by : (duties : Duties) (entry : Entry) (past : List Entry) (limit : ℕ) → IsLegalFrom duties entry past → entry.moment ≤ limit → are_by limit (entry ∷ past) ≡ true
legal_by duties entry [] limit legal early = and_both (nat_le entry.moment limit) true (in_time entry.moment limit early) refl
legal_by duties entry (before ∷ past) limit legal early =
    and_both (nat_le entry.moment limit) (are_by limit (before ∷ past)) (in_time entry.moment limit early)
    (legal_by duties before past limit legal.1 (let later : before.moment ≤ entry.moment = legal.0.later in omega (arith, later, early)))

-- the entry that follows may stand
next_moment : (duties : Duties) (past : List Entry) (moment word : ℕ) (ev : Event) → moment ≤ last_moment → (next_entry duties past moment word ev).moment ≤ last_moment
unfolding next_entry
next_moment duties past moment word ev early = early

pub next_stands : (duties : Duties) (past : List Entry) (moment word : ℕ) (ev : Event) (next : Entry) → moment ≤ last_moment → next ≡ next_entry duties past moment word ev → may_stand next ≡ true
next_stands duties past moment word ev next early is =
    ap may_stand is
    ∙ stands_if (next_entry duties past moment word ev) (next_moment duties past moment word ev early) (next_sound duties past moment word ev) (next_small duties past moment word ev)
