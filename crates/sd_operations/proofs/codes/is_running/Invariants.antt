use Rattle.std.proofs.Common.{◌≡◌, drop}
use Rattle.sd_operations.specs.Codes.{is_running}
use Rattle.sd_operations.proofs.codes.is_running.Given as goal

abbrev pub invariant-loop-operation : goal.invariant-loop-operation
invariant-loop-operation l = is_running l.op l.operations ≡ is_running l.op (drop l.operation-index l.operations)
