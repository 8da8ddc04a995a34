use Rattle.std.proofs.Common.{◌≡◌, refl}
use Rattle.std.specs.Ordering.{nat_cmp}
use Rattle.std.proofs.lemmas.Iterator.{YieldsList-from_slice}
use Rattle.std.proofs.lemmas.Iterator.Consumers.{YieldsList-from_chain, YieldsList-at}
use Rattle.std.proofs.lemmas.Iterator.Search.{cmp_from_yields_List}
use Rattle.dns_record.proofs.compare.order_of.Goals as goal

-- The bytes of either side are the parts, chained.
pub returns : goal.returns
returns c =
    cmp_from_yields_List (λ x y. y ≡ x) c.chain-right.result nat_cmp c.cmp.result c.cmp.ensures.ran
    (YieldsList-from_chain
    (YieldsList-at c.chain-left.ensures.first (YieldsList-from_chain (YieldsList-from_slice c.args.left.now.fixed.items cc) (YieldsList-from_slice c.args.left.now.name.now cc) c.chain.ensures.first_done c.chain.ensures.second_done))
    (YieldsList-from_slice c.args.left.now.rest.now cc) c.chain-left.ensures.first_done c.chain-left.ensures.second_done)
    (λ it e. YieldsList-at e (YieldsList-from_chain
    (YieldsList-at c.chain-right.ensures.first (YieldsList-from_chain (YieldsList-from_slice c.args.right.now.fixed.items cc) (YieldsList-from_slice c.args.right.now.name.now cc) c.chain-2.ensures.first_done c.chain-2.ensures.second_done))
    (YieldsList-from_slice c.args.right.now.rest.now cc) c.chain-right.ensures.first_done c.chain-right.ensures.second_done))
    (λ x y. refl)
