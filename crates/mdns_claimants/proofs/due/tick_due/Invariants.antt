use Rattle.std.proofs.Common.{◌≡◌, ◌-◌, ◌≤◌, length, map}
use Rattle.mdns_claimants.specs.Due.{moment_of, ticked_at}
use Rattle.mdns_claimants.proofs.Ticking.{changed_from}
use Rattle.mdns_claimants.proofs.due.tick_due.Given as goal

abbrev pub invariant-loop-place : goal.invariant-loop-place
invariant-loop-place l = record {
  within : l.from ≤ length l.groups;
  ticked : changed_from (ticked_at l.now l.announces) l.groups l.from ≡ map (ticked_at l.now l.announces) l.initial.groups;
  timed : l.deadlines.moments ≡ map moment_of l.groups;
  spare : l.deadlines.spare ≡ l.initial.deadlines.spare;
}

abbrev pub decreases-loop-place : goal.decreases-loop-place
decreases-loop-place l = length l.groups - l.from
