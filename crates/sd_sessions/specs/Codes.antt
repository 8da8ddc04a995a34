-- How calls and other events go, told of what is kept of sessions and of what is known of registrations.
use Rattle.std.specs.Prelude.{ℕ, ◌+◌, ◌==◌, nat_le, Bool, ◌||◌, List, length, Option, Some, None, if◌then◌else◌}
use Rattle.std.specs.List.{find}
use Rattle.std.specs.Option.{is_some}
use Rattle.sd_call.specs.declared.request.Request.{Request}
use Rattle.mdns_history.specs.declared.event.Event.{Event}
use Rattle.mdns_history.specs.declared.event.Event.TheVariants as event
use Rattle.mdns_history.specs.declared.entry.Outcome.{Outcome}
use Rattle.mdns_history.specs.declared.entry.Outcome.TheVariants as outcome
use Rattle.mdns_history.specs.Outcomes.{most_sessions, most_over_life}
use Rattle.sd_operations.specs.declared.codes.Registering.{Registering}
use Rattle.sd_operations.specs.Codes.{kept_code}
use Rattle.sd_sessions.specs.Sessions.{Session}

-- whether a session has a number
abbrev pub has_number : ℕ → Session → Bool
has_number number session = session.number == number

-- the outcome of a call to a session that may be there
abbrev pub call_outcome_of : Registering → Option Session → ℕ → Request → Outcome
call_outcome_of known None op request = outcome.Closed
call_outcome_of known (Some session) op request = if session.cut then outcome.Cut else outcome.Code (kept_code known session.operations op request)

-- what is known of registrations for each call
abbrev pub Knowing : Type 0
Knowing = ℕ → ℕ → Request → Registering

-- the outcome of an event but a take, which is known last
unfoldable pub kept_outcome : Knowing → ℕ → List Session → Event → Outcome
kept_outcome knowing opened sessions event.Attach =
    if nat_le most_sessions (length sessions) || nat_le most_over_life opened then outcome.Full else outcome.Opened (opened + 1)
kept_outcome knowing opened sessions (event.Detach session) = if is_some (find (has_number session) sessions) then outcome.Ended else outcome.Closed
kept_outcome knowing opened sessions (event.Call session op request) = call_outcome_of (knowing session op request) (find (has_number session) sessions) op request
kept_outcome knowing opened sessions _ = outcome.Done
