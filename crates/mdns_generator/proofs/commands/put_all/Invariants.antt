use Rattle.std.proofs.Common.{◌≡◌, ◌+◌, ◌++◌}
use Rattle.mdns_generator.specs.Generated.{command_of}
use Rattle.mdns_generator.proofs.Counting.{coming}
use Rattle.mdns_generator.proofs.commands.put_all.Given as goal

abbrev pub invariant-loop-number : goal.invariant-loop-number
invariant-loop-number l = l.out.items ++ coming (command_of l.kind) l.number (l.first + l.count) ≡ l.initial.out.items ++ coming (command_of l.kind) l.first (l.first + l.count)
