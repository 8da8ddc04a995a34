-- What becomes of a call that is as it should be: it succeeds unless a stated limit or conflict stands.
use Rattle.std.specs.Prelude.{◌≡◌, ℕ, ℤ, Bool, true, not, ◌&&◌, List, if◌then◌else◌}
use Rattle.std.specs.Option.{is_some}
use Rattle.sd_call.specs.declared.request.Request.{Request}
use Rattle.sd_call.specs.Requests.{no_error, name_conflict, refused, well_formed, is_start}
use Rattle.mdns_history.specs.declared.event.Event.TheVariants as event
use Rattle.mdns_history.specs.declared.entry.Outcome.{Outcome}
use Rattle.mdns_history.specs.declared.entry.Outcome.TheVariants as outcome
use Rattle.mdns_history.specs.declared.entry.Entry.{Entry}
use Rattle.mdns_history.specs.InForce.{Duties}
use Rattle.mdns_history.specs.Sessions.{operation_request, is_attached, is_cut}
use Rattle.mdns_history.specs.Outcomes.{is_bad_reference, is_unsupported, is_refused, is_name_conflict}
use Rattle.mdns_history.specs.Fitting.{Fits}

-- A call is as it should be: on an attached session, well formed, with a free number for a start and that of a fitting operation for a stop or
-- an update, with a name under `local`, and a registration on a daemon with a host.
abbrev pub is_good_call : ℕ → ℕ → Request → List Entry → Bool
is_good_call session op request history =
    is_attached session history && well_formed request && not (is_start request && is_some (operation_request session op history))
    && not (is_bad_reference session op request history) && not (is_unsupported request history)

-- its code: at a limit or at a name that is held, that of these, and else 0
abbrev pub good_code : ℕ → Request → List Entry → ℤ
good_code session request history = if is_refused session request history then refused else if is_name_conflict request history then name_conflict else no_error

-- its outcome: that the session was cut, or the code
abbrev pub good_outcome : ℕ → Request → List Entry → Outcome
good_outcome session request history = if is_cut session history then outcome.Cut else outcome.Code (good_code session request history)

-- Each good call succeeds, but exactly where its session was cut, a limit is reached, or the name is held.
abbrev pub GoodCallsSucceed : Type 0
GoodCallsSucceed = (duties : Duties) (entry : Entry) (past : List Entry) (session op : ℕ) (request : Request) → Fits duties entry past →
    entry.event ≡ event.Call session op request → is_good_call session op request past ≡ true → entry.outcome ≡ good_outcome session request past
