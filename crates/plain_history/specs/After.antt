-- One step of the operations of a session.
use Rattle.std.specs.Prelude.{ℕ, List, [], if◌then◌else◌}
use Rattle.mdns_history.specs.declared.entry.Entry.{Entry}
use Rattle.mdns_history.specs.declared.operation.Operation.{Operation}
use Rattle.mdns_history.specs.Sessions.{is_number, detached, after_call, accepted_in}

-- the operations of a session after an entry: none where it was detached, and else those after the call that was accepted
abbrev pub operations_after : ℕ → Entry → List Operation → List Operation
operations_after session entry before = if is_number session (detached entry.event entry.outcome) then [] else after_call session (accepted_in entry) before
