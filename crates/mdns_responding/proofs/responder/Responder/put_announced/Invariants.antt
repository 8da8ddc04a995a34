use Rattle.std.proofs.Common.{◌≡◌, ◌++◌, ◌-◌, ◌≤◌, drop, length, map}
use Rattle.mdns_probe.specs.Kept.{announced_for}
use Rattle.mdns_responding.proofs.responder.Responder.put_announced.Given as goal

abbrev pub invariant-loop-place : goal.invariant-loop-place
invariant-loop-place l = record {
  within : l.from ≤ length l.self.behind.now.groups.now;
  put : l.marks ++ announced_for (map (λ one. one.claim) (drop l.from l.self.behind.now.groups.now)) l.self.behind.now.means.moment
      ≡ l.initial.marks ++ announced_for (map (λ one. one.claim) l.self.behind.now.groups.now) l.self.behind.now.means.moment;
}

abbrev pub decreases-loop-place : goal.decreases-loop-place
decreases-loop-place l = length l.self.behind.now.groups.now - l.from
