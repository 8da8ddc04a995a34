use Rattle.std.proofs.Common.{Some, ap, ◌∙◌, arith}
use Rattle.mdns_timer.proofs.LeastOf.{root_least, not_empty}
use Rattle.mdns_timer.proofs.tree.least_in.Goals as goal

pub returns : goal.returns
returns c =
    ap (λ n. Some n) c.least_at.ensures
    ∙ root_least c.args.moments.now c.args.nodes.now c.requires (not_empty c.args.moments.now c.if-is_empty.ensures) (omega (arith, c.type_inv.moments 0))
