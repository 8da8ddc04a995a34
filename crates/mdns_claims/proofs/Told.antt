-- What is told of the event that follows a history: the message that counts, the call that it accepts and the session that it ends are those of its entry.
use Rattle.std.proofs.Common.{◌≡◌, ℕ, Bool, true, false, cond, List, [], ◌∷◌, refl, ap, sym, ◌∙◌, Option, Some, None, Result, Ok, Err}
use Rattle.std.specs.Option.{option_map_or}
use Rattle.mdns_base.specs.declared.host.Host.{Host}
use Rattle.dns_message.specs.declared.message.Message.{Message}
use Rattle.dns_message.specs.declared.message.MessageError.{MessageError}
use Rattle.dns_message.specs.Reading.{spelled, fault_of}
use Rattle.mdns_history.specs.declared.event.Event.{Event}
use Rattle.mdns_history.specs.declared.event.Event.TheVariants as event
use Rattle.mdns_history.specs.declared.mark.Mark.{Mark}
use Rattle.mdns_history.specs.declared.mark.Mark.TheVariants as mark
use Rattle.mdns_history.specs.declared.entry.Entry.{Entry}
use Rattle.mdns_history.specs.declared.entry.Outcome.{Outcome}
use Rattle.mdns_history.specs.InForce.{Duties}
use Rattle.mdns_history.specs.Hearings.{Heard, brought, counted}
use Rattle.mdns_history.specs.Lifetimes.{is_too_full}
use Rattle.mdns_history.specs.Sessions.{detached}
use Rattle.mdns_history.specs.Outcomes.{early_outcome, late_outcome}
use Rattle.mdns_history.specs.Fitting.{refusal_marks, bad_mark, admitted, disturbed_marks, next_entry}
use Rattle.mdns_happened.specs.Told.{heard_of, unless}
use Rattle.mdns_probe.specs.Kept.{all_kept, disturbed_for}
use Rattle.mdns_probe.proofs.Reading.{disturbances_are}
use Rattle.mdns_probe.proofs.Legal.{entry_after, bare}

-- a message that was counted is one
good : (from : Host) (r : Result Message MessageError) (heard : Heard) → counted from r ≡ Some heard → ◌≡◌ {A = List Mark} (option_map_or (λ number. mark.Bad number ∷ []) (fault_of r) []) []
good from (Ok message) heard e = refl
good from (Err error) heard e = cc

unless_none : (ms : List Mark) → ◌≡◌ {A = Option Heard} (unless ms None) None
unless_none [] = refl
unless_none (m ∷ ms) = refl

-- the message that is heard is the one that is admitted
heard_told : (entry : Entry) (past : List Entry) (ev : Event) → heard_of (refusal_marks entry past ev) ev ≡ admitted entry past (brought ev)
heard_told entry past (event.Boot config) = refl
heard_told entry past event.Attach = refl
heard_told entry past (event.Detach session) = refl
heard_told entry past (event.Call session op request) = refl
heard_told entry past event.Tick = refl
heard_told entry past (event.Take session max) = refl
heard_told entry past (event.Hear from bytes) = of (brought (event.Hear from bytes)) refl
  where
    refusal : Bool → List Mark
    refusal full = cond full (mark.Full ∷ []) (bad_mark bytes)

    of : (o : Option Heard) → brought (event.Hear from bytes) ≡ o → unless (refusal (is_too_full entry past)) o ≡ admitted entry past o
    of None e = unless_none (refusal (is_too_full entry past))
    of (Some heard) e = room (is_too_full entry past)
      where
        room : (b : Bool) → unless (refusal b) (Some heard) ≡ cond b None (Some heard)
        room true = refl
        room false = ap (λ ms. unless ms (Some heard)) (good from (spelled bytes) heard e)

-- the marks that it gives to claims are those of the entry that follows
pub disturbed_told : (duties : Duties) (past : List Entry) (moment word : ℕ) (ev : Event) →
    disturbed_for (heard_of (refusal_marks (bare duties past moment word ev) past ev) ev) (all_kept past) ≡ disturbed_marks (bare duties past moment word ev) past
disturbed_told duties past moment word ev =
    ap (λ o. disturbed_for o (all_kept past)) (heard_told (bare duties past moment word ev) past ev)
    ∙ sym (disturbances_are (admitted (bare duties past moment word ev) past (brought ev)) past)

detached-late : (ev : Event) (early : Outcome) (history : List Entry) → detached ev (late_outcome ev early history) ≡ detached ev early
detached-late (event.Boot config) early history = refl
detached-late event.Attach early history = refl
detached-late (event.Detach session) early history = refl
detached-late (event.Call session op r) early history = refl
detached-late (event.Hear from bytes) early history = refl
detached-late event.Tick early history = refl
detached-late (event.Take session max) early history = refl

-- the session that it ends
pub detached-next : (duties : Duties) (past : List Entry) (moment word : ℕ) (ev : Event) →
    detached (entry_after duties past moment word ev).event (entry_after duties past moment word ev).outcome ≡ detached ev (early_outcome ev past)
unfolding next_entry
detached-next duties past moment word ev = detached-late ev (early_outcome ev past) _
