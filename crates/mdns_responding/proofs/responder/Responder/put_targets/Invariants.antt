use Rattle.std.proofs.Common.{◌≡◌, ◌++◌, drop}
use Rattle.std.specs.Prelude.{filter}
use Rattle.std.specs.List.{flat_map}
use Rattle.mdns_history.specs.Sending.{srv_addresses}
use Rattle.mdns_claims.specs.Later.{groups_behind}
use Rattle.mdns_claims.specs.Owned.{own_in}
use Rattle.mdns_responding.specs.Told.{is_free_by}
use Rattle.mdns_responding.proofs.responder.Responder.put_targets.Given as goal

abbrev pub invariant-loop-rr : goal.invariant-loop-rr
invariant-loop-rr l =
    l.wanted ++ filter (is_free_by l.self.lasts.now.lasts l.self.behind.now.means.moment) (flat_map (λ rr. srv_addresses (own_in (groups_behind l.self.behind.now)) rr.rdata) (drop l.rr-index l.own))
    ≡ l.initial.wanted ++ filter (is_free_by l.self.lasts.now.lasts l.self.behind.now.means.moment) (flat_map (λ rr. srv_addresses (own_in (groups_behind l.self.behind.now)) rr.rdata) l.own)
