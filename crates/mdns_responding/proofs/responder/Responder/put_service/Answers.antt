use Rattle.std.proofs.Common.{◌≡◌, ◌∙◌, ◌++◌, List, filter}
use Rattle.std.specs.List.{flat_map}
use Rattle.dns_record.specs.declared.record.Rr.{Rr}
use Rattle.mdns_history.specs.Sending.{srv_addresses}
use Rattle.mdns_claims.specs.Later.{groups_behind}
use Rattle.mdns_claims.specs.Owned.{of_name, own_in}
use Rattle.mdns_responding.specs.Told.{is_free_by}
use Rattle.mdns_responding.proofs.Wanted.{of_kind, service_put}
use Rattle.mdns_responding.proofs.responder.Responder.put_service.Goals as goal

pub returns : goal.returns
returns c =
    let free = is_free_by c.args.self.now.lasts.now.lasts c.args.self.now.behind.now.means.moment in
    let own : List Rr = own_in (groups_behind c.args.self.now.behind.now) in
    let here : List Rr = of_name c.args.name.now own in
    let first : c.as_slice.result.now ≡ here = c.as_slice.ensures ∙ c.in_ok-own.ensures in
    let second : c.as_slice-2.result.now ≡ here = c.as_slice-2.ensures ∙ c.in_ok-own.ensures in
    let third : c.as_slice-3.result.now ≡ here = c.as_slice-3.ensures ∙ c.in_ok-own.ensures in
    c.in_ok-put_targets.ensures
    ∙ (λ i. c.in_ok-put_kind-2.ensures i ++ filter free (flat_map (λ rr. srv_addresses own rr.rdata) (third i)))
    ∙ (λ i. (c.in_ok-put_kind.ensures i ++ filter free (of_kind 16 (second i))) ++ filter free (flat_map (λ rr. srv_addresses own rr.rdata) here))
    ∙ (λ i. ((c.args.wanted.now ++ filter free (of_kind 33 (first i))) ++ filter free (of_kind 16 here)) ++ filter free (flat_map (λ rr. srv_addresses own rr.rdata) here))
    ∙ service_put free own c.args.wanted.now c.args.name.now
