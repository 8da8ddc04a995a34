use Rattle.std.proofs.Common.{◌≡◌, ◌++◌, map, take}
use Rattle.mdns_turn.specs.History.{StartsWith}
use Rattle.mdns_turn.specs.Models.{IsSameSeat}
use Rattle.mdns_turn_numbers.specs.declared.Change.TheVariants.{Added}
use Rattle.mdns_turn_numbers.proofs.threads.append_all.Given as goal

abbrev pub invariant-loop-n : goal.invariant-loop-n
invariant-loop-n g l = IsSameSeat l.initial.seat l.seat × StartsWith l.seat.seen l.initial.seat.seen × (l.seat.mine ≡ l.initial.seat.mine ++ map Added (take l.n-index l.numbers)) × (l.seat.joined ≡ l.initial.seat.joined)
