use Rattle.std.proofs.Common.{◌≡◌, map, take, true}
use Rattle.mdns_renewals.specs.Seen.{occasion_in}
use Rattle.mdns_claimants.specs.Named.{AreNamed}
use Rattle.std.specs.List.{list_all}
use Rattle.mdns_claimants.specs.Typed.{is_typed, is_mapped}
use Rattle.mdns_renewals.specs.Occasions.{renewal_told}
use Rattle.mdns_renewals.proofs.renew.Seen.renewals.Given as goal

abbrev pub invariant-loop-one : goal.invariant-loop-one
invariant-loop-one l = record {
  value : l.renewals.items ≡ map (renewal_told (occasion_in l.self)) (take l.one-index l.groups);
  named : AreNamed l.renewals.items (take l.one-index l.groups);
  typed : list_all is_typed l.renewals.items ≡ true;
  mapped : list_all is_mapped l.renewals.items ≡ true;
}
