use Rattle.std.proofs.Common.{◌≡◌, ℕ, true, false, List, take}
use Rattle.mdns_claims.specs.Later.{groups_behind}
use Rattle.mdns_claims.specs.Moved.{is_moved}
use Rattle.mdns_claimants.specs.Owned.{AreWithin, is_among, own_in}
use Rattle.mdns_claims.proofs.behind.Behind.put_moved_of.Given as goal

abbrev pub invariant-loop-name : goal.invariant-loop-name
invariant-loop-name l = record {
  kept : AreWithin l.initial.names.items l.names.items;
  moved : (name : List (List ℕ)) → is_among (take l.name-index l.concerned) name ≡ true → is_moved name (own_in l.self.groups.now) (own_in (groups_behind l.self)) ≡ true →
      is_among l.names.items name ≡ true;
  only : (name : List (List ℕ)) → is_among l.names.items name ≡ true → is_among l.initial.names.items name ≡ false → is_moved name (own_in l.self.groups.now) (own_in (groups_behind l.self)) ≡ true;
}
