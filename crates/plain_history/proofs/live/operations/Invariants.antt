use Rattle.std.proofs.Common.{◌≡◌, ◌++◌, drop}
use Rattle.std.specs.List.{flat_map}
use Rattle.mdns_history.specs.Sessions.{operations, operations_of}
use Rattle.plain_history.proofs.live.operations.Given as goal

abbrev pub invariant-loop-session : goal.invariant-loop-session
invariant-loop-session l = l.all.items ++ flat_map (λ session. operations_of session l.history) (drop l.session-index l.session-items) ≡ operations l.history
