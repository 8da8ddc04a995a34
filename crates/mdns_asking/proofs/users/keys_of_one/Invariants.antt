use Rattle.std.proofs.Common.{◌≡◌, take, drop}
use Rattle.std.specs.List.{filter, flat_map}
use Rattle.mdns_history.specs.Sessions.{has_op}
use Rattle.mdns_history.specs.Questions.{keys_of}
use Rattle.sd_sessions.specs.Kept.{AreWellFormed}
use Rattle.mdns_asking.proofs.users.keys_of_one.Given as goal

abbrev pub invariant-loop-operation : goal.invariant-loop-operation
invariant-loop-operation l = record {
  keys : l.keys.items ≡ flat_map (λ operation. keys_of operation.request) (filter (has_op l.op) (take l.operation-index l.operations));
  formed : AreWellFormed (drop l.operation-index l.operations);
}
