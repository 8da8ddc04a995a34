use Rattle.std.proofs.Common.{◌/◌, ◌<◌, length, ◌∙◌, refl, arith}
use Rattle.std.proofs.lemmas.List.{length-set}
use Rattle.mdns_timer.proofs.Paths.{half_some, half_below}
use Rattle.mdns_timer.proofs.Trees.{tree_below, tree_to_root, tree_up}
use Rattle.mdns_timer.proofs.tree.mend.Goals as goal

pub loop-node-init : goal.loop-node-init
loop-node-init c =
    let within = c.requires.place in
    record {
      size = refl;
      some = omega arith;
      below = omega arith;
      tree = tree_below c.args.moments.now c.args.nodes.now c.args.place within c.requires.others;
    }

pub loop-node-preserved : goal.loop-node-preserved
loop-node-preserved c =
    let more : 1 < c.loop-node.node = c.loop-node-test.true in
    let below = half_below c.loop-node.node (length c.loop-node.nodes) c.loop-node.invariant.below in
    let some = half_some c.loop-node.node more in
    let len = length-set c.loop-node.nodes (c.loop-node.node / 2) c.least_below.result in
    record {
      size = len ∙ c.loop-node.invariant.size;
      some = some;
      below = omega arith;
      tree = tree_up c.args.moments.now c.loop-node.nodes c.loop-node.node (c.loop-node.node / 2) c.least_below.result refl some below c.least_below.ensures c.loop-node.invariant.tree;
    }

pub returns : goal.returns
returns c = tree_to_root c.args.moments.now c.loop-node.nodes c.loop-node.node c.loop-node-test.false c.loop-node.invariant.tree
