use Rattle.std.proofs.Common.{◌≡◌, ◌++◌, ◌-◌, ◌≤◌, drop, length}
use Rattle.std.specs.Prelude.{filter}
use Rattle.mdns_responding.specs.Announced.{announced_in, records_in}
use Rattle.mdns_responding.specs.Told.{is_free_by}
use Rattle.mdns_responding.proofs.responder.Responder.put_announced_records.Given as goal

abbrev pub invariant-loop-place : goal.invariant-loop-place
invariant-loop-place l = record {
  within : l.from ≤ length l.self.behind.now.groups.now;
  put : l.answers.items ++ filter (is_free_by l.self.lasts.now.lasts l.self.behind.now.means.moment) (records_in (announced_in l.self.behind.now.means.moment (drop l.from l.self.behind.now.groups.now)))
      ≡ l.initial.answers.items ++ filter (is_free_by l.self.lasts.now.lasts l.self.behind.now.means.moment) (records_in (announced_in l.self.behind.now.means.moment l.self.behind.now.groups.now));
}

abbrev pub decreases-loop-place : goal.decreases-loop-place
decreases-loop-place l = length l.self.behind.now.groups.now - l.from
