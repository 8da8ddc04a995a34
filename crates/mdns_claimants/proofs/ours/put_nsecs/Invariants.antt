use Rattle.std.proofs.Common.{◌≡◌, ◌++◌, drop, filter}
use Rattle.dns_name.specs.Names.{folded_eq}
use Rattle.mdns_claimants.specs.Owned.{nsecs_in}
use Rattle.mdns_claimants.proofs.ours.put_nsecs.Given as goal

abbrev pub invariant-loop-one : goal.invariant-loop-one
invariant-loop-one l = l.rrs ++ filter (λ rr. folded_eq rr.owner l.name) (nsecs_in (drop l.one-index l.groups)) ≡ l.initial.rrs ++ filter (λ rr. folded_eq rr.owner l.name) (nsecs_in l.groups)
