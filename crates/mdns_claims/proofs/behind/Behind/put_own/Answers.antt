use Rattle.std.proofs.Common.{◌∙◌, ◌++◌, sym, append-nil, Some, None}
use Rattle.mdns_claimants.specs.Owned.{claimed_of}
use Rattle.mdns_claims.specs.Seen.{means_in}
use Rattle.mdns_claims.proofs.Ahead.{all_own}
use Rattle.mdns_claims.proofs.behind.Behind.put_own.Goals as goal

pub returns-in_ok-put_claimed : goal.returns-in_ok-put_claimed
returns-in_ok-put_claimed c =
    all_own (means_in c.args.self.now.means) c.args.self.now.deed.now c.args.self.now.groups.now c.args.name.now c.args.rrs.now c.put_later.new.rrs c.put_claimed.new.rrs (Some c.in-Some.one.now)
    c.in_ok-put_later.ensures c.in-Some.ensures
    (c.in_ok-put_claimed.ensures ∙ (λ i. c.put_later.new.rrs ++ claimed_of c.args.name.now (c.claim-in-Some.ensures.claim i).sure (c.claim.ensures.claim i)))

pub returns-in_default : goal.returns-in_default
returns-in_default c =
    all_own (means_in c.args.self.now.means) c.args.self.now.deed.now c.args.self.now.groups.now c.args.name.now c.args.rrs.now c.put_later.new.rrs c.put_later.new.rrs None
    c.in_ok-put_later.ensures c.in_default.ensures (sym (append-nil c.put_later.new.rrs))
