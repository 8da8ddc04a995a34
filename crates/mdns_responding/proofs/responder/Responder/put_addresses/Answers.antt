use Rattle.std.proofs.Common.{◌≡◌, ◌∙◌, ◌++◌, List, filter}
use Rattle.dns_record.specs.declared.record.Rr.{Rr}
use Rattle.mdns_claims.specs.Later.{groups_behind}
use Rattle.mdns_claims.specs.Owned.{of_name, own_in}
use Rattle.mdns_responding.specs.Told.{is_free_by}
use Rattle.mdns_responding.proofs.Wanted.{of_kind, addresses_put}
use Rattle.mdns_responding.proofs.responder.Responder.put_addresses.Goals as goal

pub returns : goal.returns
returns c =
    let free = is_free_by c.args.self.now.lasts.now.lasts c.args.self.now.behind.now.means.moment in
    let own : List Rr = own_in (groups_behind c.args.self.now.behind.now) in
    let first : c.as_slice.result.now ≡ of_name c.args.name.now own = c.as_slice.ensures ∙ c.in_ok-own.ensures in
    let second : c.as_slice-2.result.now ≡ of_name c.args.name.now own = c.as_slice-2.ensures ∙ c.in_ok-own.ensures in
    c.in_ok-put_kind-2.ensures
    ∙ (λ i. c.in_ok-put_kind.ensures i ++ filter free (of_kind 28 (second i)))
    ∙ (λ i. (c.args.wanted.now ++ filter free (of_kind 1 (first i))) ++ filter free (of_kind 28 (of_name c.args.name.now own)))
    ∙ addresses_put free own c.args.wanted.now c.args.name.now
