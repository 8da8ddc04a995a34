use Rattle.std.proofs.Common.{◌≡◌, ◌++◌, ◌-◌, ◌≤◌, drop, length}
use Rattle.mdns_probe.specs.Kept.{probes_for}
use Rattle.mdns_claimants.proofs.probes.due_probes.Given as goal

abbrev pub invariant-loop-place : goal.invariant-loop-place
invariant-loop-place l = record {
  within : l.from ≤ length l.groups.kept;
  put : l.sent ++ probes_for (drop l.from l.groups.kept) l.now ≡ probes_for l.groups.kept l.now;
}

abbrev pub decreases-loop-place : goal.decreases-loop-place
decreases-loop-place l = length l.groups.kept - l.from
