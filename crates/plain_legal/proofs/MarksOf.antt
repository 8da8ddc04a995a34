-- The marks of an entry, put together of their parts.
use Rattle.std.proofs.Common.{◌≡◌, ℕ, Bool, List, [], ◌∷◌, ◌++◌, length, Option, Some, None, refl, ap, ◌∙◌, sym, append_assoc}
use Rattle.std.specs.Prelude.{nat_lt}
use Rattle.mdns_history.specs.declared.event.Event.{Event}
use Rattle.mdns_history.specs.declared.event.Event.TheVariants as event
use Rattle.mdns_history.specs.declared.mark.Mark.{Mark}
use Rattle.mdns_history.specs.declared.entry.Entry.{Entry}
use Rattle.mdns_history.specs.InForce.{all_duties}
use Rattle.mdns_history.specs.Hearings.{Heard, brought}
use Rattle.mdns_history.specs.Lifetimes.{live_records, room_for_records, is_too_full}
use Rattle.mdns_history.specs.Claims.{claim_marks}
use Rattle.mdns_history.specs.Fitting.{refusal_marks, admitted, asked_marks, announced_marks, event_marks}
use Rattle.plain_legal.specs.Trial.{of_last, admitted_unless, refusal_of, asked_at, announced_told}

full_is : (entry : Entry) (past : List Entry) → nat_lt room_for_records (length (live_records (entry ∷ past) entry.moment)) ≡ is_too_full entry past
unfolding is_too_full
full_is entry past = refl

admitted_is : (entry : Entry) (past : List Entry) (heard : Option Heard) → admitted_unless (is_too_full entry past) heard ≡ admitted entry past heard
admitted_is entry past None = refl
admitted_is entry past (Some heard) = refl

refusal_is : (entry : Entry) (past : List Entry) (ev : Event) → refusal_of (is_too_full entry past) ev ≡ refusal_marks entry past ev
refusal_is entry past (event.Boot config) = refl
refusal_is entry past event.Attach = refl
refusal_is entry past (event.Detach session) = refl
refusal_is entry past (event.Call session op request) = refl
refusal_is entry past (event.Hear from bytes) = refl
refusal_is entry past event.Tick = refl
refusal_is entry past (event.Take session max) = refl

asked_is : (entry : Entry) (past : List Entry) (ev : Event) → asked_at entry.moment ev (admitted entry past (brought ev)) past ≡ asked_marks entry past ev
asked_is entry past (event.Boot config) = refl
asked_is entry past event.Attach = refl
asked_is entry past (event.Detach session) = refl
asked_is entry past (event.Call session op request) = refl
asked_is entry past (event.Hear from bytes) = refl
asked_is entry past event.Tick = refl
asked_is entry past (event.Take session max) = refl

announced_is : (entry : Entry) (past : List Entry) (ev : Event) → announced_told entry.moment ev (entry ∷ past) ≡ announced_marks entry past ev
announced_is entry past (event.Boot config) = refl
announced_is entry past event.Attach = refl
announced_is entry past (event.Detach session) = refl
announced_is entry past (event.Call session op request) = refl
announced_is entry past (event.Hear from bytes) = refl
announced_is entry past event.Tick = refl
announced_is entry past (event.Take session max) = refl

marks_of : (entry : Entry) (past : List Entry) (full : Bool) (heard : Option Heard) (refused disturbed asked announced : List Mark)
    → full ≡ nat_lt room_for_records (length (live_records (entry ∷ past) entry.moment)) → heard ≡ admitted_unless full (brought entry.event)
    → refused ≡ refusal_of full entry.event → disturbed ≡ claim_marks heard past → asked ≡ asked_at entry.moment entry.event heard past
    → announced ≡ announced_told entry.moment entry.event (entry ∷ past) → ((refused ++ disturbed) ++ asked) ++ announced ≡ event_marks all_duties entry past
unfolding all_duties
marks_of entry past full heard refused disturbed asked announced f h r d a n =
    let is_full : full ≡ is_too_full entry past = f ∙ full_is entry past in
    let is_heard : heard ≡ admitted entry past (brought entry.event) = h ∙ ap (λ b. admitted_unless b (brought entry.event)) is_full ∙ admitted_is entry past (brought entry.event) in
    let is_refused : refused ≡ refusal_marks entry past entry.event = r ∙ ap (λ b. refusal_of b entry.event) is_full ∙ refusal_is entry past entry.event in
    let is_disturbed : disturbed ≡ claim_marks (admitted entry past (brought entry.event)) past = d ∙ ap (λ o. claim_marks o past) is_heard in
    let is_asked : asked ≡ asked_marks entry past entry.event = a ∙ ap (λ o. asked_at entry.moment entry.event o past) is_heard ∙ asked_is entry past entry.event in
    let is_announced : announced ≡ announced_marks entry past entry.event = n ∙ announced_is entry past entry.event in
    append_assoc (refused ++ disturbed) asked announced
    ∙ append_assoc refused disturbed (asked ++ announced)
    ∙ (λ i. is_refused i ++ (is_disturbed i ++ (is_asked i ++ is_announced i)))

-- the same, where the parts were computed of a history
pub marks_from : (history past : List Entry) (entry read : Entry) (moment : ℕ) (full : Bool) (heard : Option Heard) (refused disturbed asked announced : List Mark)
    → history ≡ entry ∷ past → read ≡ entry → moment ≡ entry.moment
    → full ≡ nat_lt room_for_records (length (live_records history moment)) → heard ≡ admitted_unless full (brought read.event)
    → refused ≡ refusal_of full read.event → disturbed ≡ claim_marks heard past → asked ≡ asked_at moment read.event heard past
    → announced ≡ announced_told moment read.event history → ((refused ++ disturbed) ++ asked) ++ announced ≡ of_last [] (event_marks all_duties) history
marks_from history past entry read moment full heard refused disturbed asked announced is same at f h r d a n =
    marks_of entry past full heard refused disturbed asked announced
    (f ∙ (λ i. nat_lt room_for_records (length (live_records (is i) (at i)))))
    (h ∙ ap (λ (e : Entry). admitted_unless full (brought e.event)) same)
    (r ∙ ap (λ (e : Entry). refusal_of full e.event) same) d
    (a ∙ (λ i. asked_at (at i) ((same i).event) heard past))
    (n ∙ (λ i. announced_told (at i) ((same i).event) (is i)))
    ∙ ap (of_last [] (event_marks all_duties)) (sym is)
