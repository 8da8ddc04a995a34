use Rattle.std.proofs.Common.{◌≡◌, ◌≤◌, length, map, vec_len}
use Rattle.mdns_claimants.specs.Due.{moment_of}
use Rattle.mdns_claimants.specs.Named.{with_renewals, AreNamed}
use Rattle.mdns_claimants.proofs.due.renew_all.Given as goal

abbrev pub invariant-loop-renewal : goal.invariant-loop-renewal
invariant-loop-renewal l = record {
  done : with_renewals l.renewals.items l.groups ≡ with_renewals l.initial.renewals.items l.initial.groups;
  named : AreNamed l.renewals.items l.groups;
  within : vec_len l.renewals ≤ length l.groups;
  timed : l.deadlines.moments ≡ map moment_of l.groups;
  spare : l.deadlines.spare ≡ l.initial.deadlines.spare;
}

abbrev pub decreases-loop-renewal : goal.decreases-loop-renewal
decreases-loop-renewal l = vec_len l.renewals
