use Rattle.std.proofs.Common.{◌≡◌, drop}
use Rattle.mdns_renewals.specs.Occasions.{renaming_in}
use Rattle.mdns_renewals.proofs.renew.renaming_in.Given as goal

abbrev pub invariant-loop-mark : goal.invariant-loop-mark
invariant-loop-mark l = renaming_in l.id (drop l.mark-index l.marks) ≡ renaming_in l.id l.marks
