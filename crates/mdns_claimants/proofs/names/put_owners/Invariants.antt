use Rattle.std.proofs.Common.{◌≡◌, ℕ, false, List, drop}
use Rattle.mdns_claimants.specs.Owned.{AreWithin, is_among, of_name}
use Rattle.mdns_claimants.proofs.names.put_owners.Given as goal

abbrev pub invariant-loop-rr : goal.invariant-loop-rr
invariant-loop-rr l = record {
  kept : AreWithin l.initial.names.items l.names.items;
  named : (name : List (List ℕ)) → is_among l.names.items name ≡ false → of_name name (drop l.rr-index l.rrs) ≡ of_name name l.rrs;
}
