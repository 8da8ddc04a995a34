use Rattle.std.proofs.Common.{◌≡◌, ◌+◌, drop}
use Rattle.sd_operations.specs.Operations.{count_below}
use Rattle.sd_operations.proofs.running.count_below.Given as goal

abbrev pub invariant-loop-operation : goal.invariant-loop-operation
invariant-loop-operation l = record { at : l.count ≡ l.operation-index; counted : count_below l.op l.operations ≡ l.count + count_below l.op (drop l.operation-index l.operations) }
