use Rattle.std.proofs.Common.{◌≡◌, ◌++◌, drop}
use Rattle.mdns_history.specs.declared.entry.Entry.{Entry}
use Rattle.mdns_history.specs.History.{since, moment_if, is_tick}
use Rattle.mdns_history.specs.Sureness.{probes, sets_back}
use Rattle.plain_groups.proofs.probing.probe_moments.Given as goal

abbrev pub invariant-loop-place : goal.invariant-loop-place
invariant-loop-place l = l.moments.items ++ since (sets_back l.group.id) (λ (entry : Entry). moment_if (probes l.name entry) entry.moment) (drop l.place l.history) ≡ since (sets_back l.group.id) (λ (entry : Entry). moment_if (probes l.name entry) entry.moment) l.history
