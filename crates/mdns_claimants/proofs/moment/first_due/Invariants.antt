use Rattle.std.proofs.Common.{◌≡◌, take}
use Rattle.std.specs.List.{flat_map}
use Rattle.lists.specs.Lists.{least}
use Rattle.mdns_claimants.specs.Due.{next_in}
use Rattle.mdns_claimants.proofs.moment.first_due.Given as goal

abbrev pub invariant-loop-one : goal.invariant-loop-one
invariant-loop-one l = l.first ≡ least (flat_map (next_in l.announces) (take l.one-index l.groups))
