use Rattle.std.proofs.Common.{◌≡◌, ◌++◌, drop}
use Rattle.std.specs.List.{flat_map}
use Rattle.mdns_history.specs.Sending.{srv_addresses}
use Rattle.plain_sending.proofs.wanted.addresses_of_all.Given as goal

abbrev pub invariant-loop-rr : goal.invariant-loop-rr
invariant-loop-rr l = l.all.items ++ flat_map (λ rr. srv_addresses l.own rr.rdata) (drop l.rr-index l.srvs) ≡ flat_map (λ rr. srv_addresses l.own rr.rdata) l.srvs
