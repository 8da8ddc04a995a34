use Rattle.std.proofs.Common.{◌≡◌, drop}
use Rattle.std.specs.Prelude.{filter}
use Rattle.lists.specs.Lists.{least_of}
use Rattle.mdns_question.specs.Next.{is_open}
use Rattle.mdns_question.proofs.next.next_among.Given as goal

abbrev pub invariant-loop-point : goal.invariant-loop-point
invariant-loop-point l = least_of l.next (filter (is_open l.one l.told) (drop l.point-index l.point-items)) ≡ least_of l.earliest (filter (is_open l.one l.told) l.point-items)
