-- What an entry sends, by whether it is a tick.
use Rattle.std.proofs.Common.{◌≡◌, true, false, List, [], ◌∷◌, refl, ap, ◌∙◌, sym}
use Rattle.std.proofs.lemmas.Bool.{false≢true}
use Rattle.mdns_history.specs.declared.event.Event.{Event}
use Rattle.mdns_history.specs.declared.event.Event.TheVariants as event
use Rattle.mdns_history.specs.declared.entry.Sent.{Sent}
use Rattle.mdns_history.specs.declared.entry.Entry.{Entry}
use Rattle.mdns_history.specs.InForce.{all_duties}
use Rattle.mdns_history.specs.History.{is_tick}
use Rattle.mdns_history.specs.Sending.{tick_sends, sent_goodbyes}
use Rattle.mdns_history.specs.Fitting.{event_sends}
use Rattle.plain_sending.specs.Ticked as sending
use Rattle.plain_legal.specs.Trial.{of_last}

tick_one : (entry : Entry) (past : List Entry) (ev : Event) → is_tick ev ≡ true → tick_sends all_duties entry past ≡ event_sends all_duties entry past ev
tick_one entry past event.Tick h = refl
tick_one entry past (event.Boot config) h = absurd (false≢true h)
tick_one entry past event.Attach h = absurd (false≢true h)
tick_one entry past (event.Detach session) h = absurd (false≢true h)
tick_one entry past (event.Call session op request) h = absurd (false≢true h)
tick_one entry past (event.Hear from bytes) h = absurd (false≢true h)
tick_one entry past (event.Take session max) h = absurd (false≢true h)

goodbyes_one : (entry : Entry) (past : List Entry) (ev : Event) → is_tick ev ≡ false → sent_goodbyes entry past ≡ event_sends all_duties entry past ev
unfolding all_duties
goodbyes_one entry past event.Tick h = absurd (false≢true (sym h))
goodbyes_one entry past (event.Boot config) h = refl
goodbyes_one entry past event.Attach h = refl
goodbyes_one entry past (event.Detach session) h = refl
goodbyes_one entry past (event.Call session op request) h = refl
goodbyes_one entry past (event.Hear from bytes) h = refl
goodbyes_one entry past (event.Take session max) h = refl

-- what the last entry of a history sends
abbrev sent_last : List Entry → List Sent
sent_last = of_last [] (λ entry past. event_sends all_duties entry past entry.event)

pub ticks : (history past : List Entry) (entry read : Entry) → history ≡ entry ∷ past → read ≡ entry → is_tick read.event ≡ true
    → sending.of_last (tick_sends all_duties) history ≡ of_last [] (λ entry past. event_sends all_duties entry past entry.event) history
ticks history past entry read is same h =
    ap (sending.of_last (tick_sends all_duties)) is ∙ tick_one entry past entry.event (sym (ap (λ (e : Entry). is_tick e.event) same) ∙ h) ∙ sym (ap sent_last is)

pub goodbyes : (history past : List Entry) (entry read : Entry) → history ≡ entry ∷ past → read ≡ entry → is_tick read.event ≡ false
    → sending.of_last sent_goodbyes history ≡ of_last [] (λ entry past. event_sends all_duties entry past entry.event) history
goodbyes history past entry read is same h =
    ap (sending.of_last sent_goodbyes) is ∙ goodbyes_one entry past entry.event (sym (ap (λ (e : Entry). is_tick e.event) same) ∙ h) ∙ sym (ap sent_last is)
