use Rattle.std.proofs.Common.{◌≡◌, ◌∙◌, [], sym, refl, Some, None}
use Rattle.mdns_claimants.specs.Owned.{claimed_of}
use Rattle.mdns_claims.specs.Seen.{means_in}
use Rattle.mdns_claims.proofs.Ahead.{all_same}
use Rattle.mdns_claimants.proofs.Naming.{not_within}
use Rattle.mdns_claims.proofs.behind.Behind.put_names.Goals as goal

pub returns-in_default-clause-changed : goal.returns-in_default-clause-changed
returns-in_default-clause-changed c = λ name e.
    all_same (means_in c.args.self.now.means) c.args.self.now.deed.now c.args.self.now.groups.now name None (c.in_ok-put_touched_names.ensures.changed name e) c.in_default.ensures refl

pub returns-in_ok-put_claim_names-clause-changed : goal.returns-in_ok-put_claim_names-clause-changed
returns-in_ok-put_claim_names-clause-changed c = λ name e.
    let none : claimed_of name c.in-Some.one.now.claim.sure c.in-Some.one.now.claim ≡ [] =
    (λ i. claimed_of name (sym c.claim-in-Some.ensures.claim i).sure (sym c.claim.ensures.claim i)) ∙ c.in_ok-put_claim_names.ensures.named name e in
    all_same (means_in c.args.self.now.means) c.args.self.now.deed.now c.args.self.now.groups.now name (Some c.in-Some.one.now)
    (c.in_ok-put_touched_names.ensures.changed name (not_within c.put_touched_names.new.names.items c.put_claim_names.new.names.items c.in_ok-put_claim_names.ensures.kept name e))
    c.in-Some.ensures none
