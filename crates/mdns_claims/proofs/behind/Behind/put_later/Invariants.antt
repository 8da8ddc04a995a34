use Rattle.std.proofs.Common.{◌≡◌, ◌++◌, drop}
use Rattle.mdns_claims.specs.Later.{later_from}
use Rattle.mdns_claimants.specs.Owned.{of_name, own_in}
use Rattle.mdns_claims.specs.Seen.{means_in}
use Rattle.mdns_claims.proofs.behind.Behind.put_later.Given as goal

abbrev pub invariant-loop-place : goal.invariant-loop-place
invariant-loop-place l =
    l.rrs ++ of_name l.name (own_in (later_from (means_in l.self.means) l.self.deed.now l.place (drop l.place l.groups)))
    ≡ l.initial.rrs ++ of_name l.name (own_in (later_from (means_in l.self.means) l.self.deed.now 0 l.groups))
