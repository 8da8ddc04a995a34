use Rattle.std.proofs.Common.{Some, None, subst}
use Rattle.mdns_asked.specs.Asked.{IsPut}
use Rattle.mdns_asked.proofs.Asking.{none_put}
use Rattle.mdns_claimants.specs.Owned.{claimed}
use Rattle.mdns_claims.specs.Seen.{means_in}
use Rattle.mdns_claims.proofs.Asked.{all_asked}
use Rattle.mdns_claims.proofs.behind.Behind.put_asked.Goals as goal

pub returns-in_ok-put_claim : goal.returns-in_ok-put_claim
returns-in_ok-put_claim c =
    all_asked (means_in c.args.self.now.means) c.args.self.now.deed.now c.args.self.now.groups.now c.args.asked.now c.put_later_asked.new.asked c.put_claim.new.asked (Some c.in-Some.one.now)
    c.in_ok-put_later_asked.ensures c.in-Some.ensures
    (subst (λ rrs. IsPut rrs c.put_later_asked.new.asked c.put_claim.new.asked) (λ i. claimed (c.claim-in-Some.ensures.claim i).sure (c.claim.ensures.claim i)) c.in_ok-put_claim.ensures)

pub returns-in_default : goal.returns-in_default
returns-in_default c =
    all_asked (means_in c.args.self.now.means) c.args.self.now.deed.now c.args.self.now.groups.now c.args.asked.now c.put_later_asked.new.asked c.put_later_asked.new.asked None
    c.in_ok-put_later_asked.ensures c.in_default.ensures (none_put c.put_later_asked.new.asked)
