use Rattle.std.proofs.Common.{◌≡◌, refl}
use Rattle.std.specs.Ordering.{nat_cmp}
use Rattle.std.proofs.lemmas.Iterator.{YieldsList-from_slice}
use Rattle.std.proofs.lemmas.Iterator.Consumers.{YieldsList-from_chain, YieldsList-at}
use Rattle.std.proofs.lemmas.Iterator.Search.{cmp_from_yields_List}
use Rattle.dns_name.specs.Names.{wire_of}
use Rattle.sd_call.proofs.order.joined_cmp.Goals as goal

pub returns : goal.returns
returns c =
    let left = YieldsList-from_chain (YieldsList-from_slice (wire_of c.args.name.now) cc) (YieldsList-from_slice c.args.txt.now cc) c.chain-ours.ensures.first_done c.chain-ours.ensures.second_done in
    let right = YieldsList-from_chain (YieldsList-from_slice (wire_of c.args.their_name.now) cc) (YieldsList-from_slice c.args.their_txt.now cc) c.chain-theirs.ensures.first_done c.chain-theirs.ensures.second_done in
    cmp_from_yields_List (λ x y. y ≡ x) c.chain-theirs.result nat_cmp c.cmp.result c.cmp.ensures.ran left (λ it e. YieldsList-at e right) (λ x y. refl)
