use Rattle.std.proofs.Common.{◌≡◌, ◌-◌, ◌≤◌, ℕ, false, List, length}
use Rattle.mdns_claimants.specs.Owned.{AreWithin, is_among}
use Rattle.mdns_claims.specs.Seen.{means_in}
use Rattle.mdns_claims.proofs.Touched.{SameOwn}
use Rattle.mdns_claims.proofs.behind.Behind.put_touched_names.Given as goal

abbrev pub invariant-loop-place : goal.invariant-loop-place
invariant-loop-place l = record {
  within : l.from ≤ length l.self.groups.now;
  kept : AreWithin l.initial.names.items l.names.items;
  changed : (name : List (List ℕ)) → is_among l.names.items name ≡ false → SameOwn (means_in l.self.means) l.self.deed.now l.self.groups.now name l.from
      → SameOwn (means_in l.self.means) l.self.deed.now l.self.groups.now name 0;
}

abbrev pub decreases-loop-place : goal.decreases-loop-place
decreases-loop-place l = length l.self.groups.now - l.from
