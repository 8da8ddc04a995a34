use Rattle.std.proofs.Common.{◌≡◌, ◌≤◌}
use Rattle.sd_name.specs.Renaming.{cut_to}
use Rattle.sd_name.proofs.renaming.front.Given as goal

abbrev pub invariant-loop-end : goal.invariant-loop-end
invariant-loop-end l = (cut_to l.end l.label ≡ cut_to l.room l.label) × (l.end ≤ l.room)

abbrev pub decreases-loop-end : goal.decreases-loop-end
decreases-loop-end l = l.end
