use Rattle.std.proofs.Common.{◌≡◌, ◌≤◌, ◌-◌, length, take}
use Rattle.mdns_debts.specs.Following.{next_reply}
use Rattle.mdns_owing.specs.Owing.{last_in}
use Rattle.mdns_owing.proofs.first.first_due.Given as goal

abbrev pub invariant-loop-place : goal.invariant-loop-place
invariant-loop-place l = record {
  within : l.from ≤ length l.queries;
  first : l.first ≡ next_reply (last_in l.lasts.lasts) (take l.from l.queries);
}

abbrev pub decreases-loop-place : goal.decreases-loop-place
decreases-loop-place l = length l.queries - l.from
