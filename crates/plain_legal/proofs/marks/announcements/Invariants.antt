use Rattle.std.proofs.Common.{◌≡◌, map, take}
use Rattle.mdns_history.specs.declared.mark.Mark.TheVariants.{Announced}
use Rattle.mdns_history.specs.Groups.{Group}
use Rattle.plain_legal.proofs.marks.announcements.Given as goal

abbrev pub invariant-loop-group : goal.invariant-loop-group
invariant-loop-group l = l.marks.items ≡ map (λ (group : Group). Announced group.id) (take l.group-index l.groups)
