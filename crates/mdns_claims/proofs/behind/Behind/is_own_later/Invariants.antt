use Rattle.std.proofs.Common.{◌≡◌, drop}
use Rattle.std.specs.List.{list_any}
use Rattle.dns_record.specs.Records.{same}
use Rattle.mdns_claims.specs.Later.{later_from}
use Rattle.mdns_claims.specs.Seen.{means_in}
use Rattle.mdns_claimants.specs.Owned.{own_in}
use Rattle.mdns_claims.proofs.behind.Behind.is_own_later.Given as goal

abbrev pub invariant-loop-place : goal.invariant-loop-place
invariant-loop-place l =
    list_any (same l.rr) (own_in (later_from (means_in l.self.means) l.self.deed.now l.place (drop l.place l.groups)))
    ≡ list_any (same l.rr) (own_in (later_from (means_in l.self.means) l.self.deed.now 0 l.groups))
