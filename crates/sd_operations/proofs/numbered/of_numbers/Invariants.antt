use Rattle.std.proofs.Common.{◌≡◌, take}
use Rattle.sd_operations.specs.Operations.{of_numbers}
use Rattle.sd_operations.proofs.numbered.of_numbers.Given as goal

abbrev pub invariant-loop-operation : goal.invariant-loop-operation
invariant-loop-operation l = l.some.items ≡ of_numbers l.numbers (take l.operation-index l.operations)
