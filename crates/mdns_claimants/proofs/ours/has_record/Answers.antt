use Rattle.std.proofs.Common.{◌≡◌, ◌∙◌, ◌++◌, ◌&&◌, Bool, true, false, refl, sym}
use Rattle.std.specs.List.{list_any}
use Rattle.dns_record.specs.Records.{same}
use Rattle.mdns_claimants.proofs.Had.{none_same}
use Rattle.mdns_claimants.proofs.ours.has_record.Goals as goal

both_false : (a b : Bool) → b ≡ false → (a && b) ≡ false
both_false true b e = e
both_false false b e = refl

pub returns-else-may_have : goal.returns-else-may_have
returns-else-may_have c =
    c.if-may_have.false
    ∙ sym (both_false c.args.one.now.claim.sure (list_any (same c.args.rr.now) (c.args.one.now.claim.unique ++ c.args.one.now.claim.shared))
    (none_same c.args.rr.now (c.args.one.now.claim.unique ++ c.args.one.now.claim.shared) (c.may_have.ensures c.if-may_have.false c.args.rr.now.owner c.requires)))
