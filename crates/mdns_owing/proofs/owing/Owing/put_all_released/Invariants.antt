use Rattle.std.proofs.Common.{◌≡◌, ◌≤◌, ◌-◌, ◌++◌, length, take}
use Rattle.std.specs.List.{flat_map}
use Rattle.mdns_owing.specs.Owing.{last_in, released_of}
use Rattle.mdns_owing.proofs.owing.Owing.put_all_released.Given as goal

abbrev pub invariant-loop-place : goal.invariant-loop-place
invariant-loop-place l = record {
  within : l.from ≤ length l.self.queries;
  released : l.released.items ≡ l.initial.released.items ++ flat_map (released_of (last_in l.lasts.lasts) l.now l.self.queries) (take l.from l.self.queries);
}

abbrev pub decreases-loop-place : goal.decreases-loop-place
decreases-loop-place l = length l.self.queries - l.from
