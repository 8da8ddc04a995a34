use Rattle.std.proofs.Common.{◌≡◌, ℕ, ◌+◌, ◌-◌, ◌<◌, ◌≤◌, length, subst, ◌∙◌, refl, arith}
use Rattle.std.proofs.lemmas.List.{length-set}
use Rattle.mdns_timer.proofs.Trees.{IsTreeFrom, tree_down}
use Rattle.mdns_timer.proofs.tree.build.Goals as goal

pub loop-node-init : goal.loop-node-init
loop-node-init c = record {
  size = refl;
  most = omega arith;
  tree = record { at = λ j some from below. absurd (omega arith) };
}

pub loop-node-preserved : goal.loop-node-preserved
loop-node-preserved c =
    let more : 1 < c.loop-node.node = c.loop-node-test.true in
    let most : c.loop-node.node ≤ length c.loop-node.nodes = c.loop-node.invariant.most in
    let node : ℕ = c.loop-node.node - 1 in
    let next : c.loop-node.node ≡ node + 1 = omega arith in
    let len = length-set c.loop-node.nodes node c.least_below.result in
    record {
      size = len ∙ c.loop-node.invariant.size;
      most = omega arith;
      tree = tree_down c.args.moments.now c.loop-node.nodes node c.least_below.result (omega arith) (omega arith) c.least_below.ensures
          (subst (λ (n : ℕ). IsTreeFrom n c.args.moments.now c.loop-node.nodes) next c.loop-node.invariant.tree);
    }

pub returns : goal.returns
returns c =
    let low : c.loop-node.node ≤ 1 = c.loop-node-test.false in
    record { at = λ j some below. c.loop-node.invariant.tree.at j some (omega arith) below }
