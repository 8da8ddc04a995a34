use Rattle.std.proofs.Common.{◌≡◌, ℕ, ◌+◌, ◌-◌, ◌*◌, ◌<◌, ◌≤◌, List, length, ap, subst, sym, ◌∙◌, arith}
use Rattle.std.specs.Prelude.{slice_set}
use Rattle.std.proofs.lemmas.List.{length-set}
use Rattle.mdns_cache.specs.Ends.{winner, sooner}
use Rattle.mdns_cache.proofs.Mending.{IsPlayedFrom, played_down}
use Rattle.mdns_cache.proofs.ends.played.Goals as goal

pub loop-node-preserved : goal.loop-node-preserved
loop-node-preserved c =
    let nodes : List ℕ = c.loop-node.nodes.items in
    let node : ℕ = c.loop-node.node - 1 in
    let more : 1 < c.loop-node.node = c.loop-node-test.true in
    let most : c.loop-node.node ≤ c.args.size = c.loop-node.invariant.most in
    let size : length nodes ≡ c.args.size = c.loop-node.invariant.size in
    let next : node + 1 ≡ c.loop-node.node = omega arith in
    let old : IsPlayedFrom c.args.held.now (node + 1) nodes = subst (λ (n : ℕ). IsPlayedFrom c.args.held.now n nodes) (sym next) (record { home = c.loop-node.invariant.home; won = c.loop-node.invariant.won }) in
    let is : c.sooner.result ≡ sooner c.args.held.now (winner nodes (2 * node)) (winner nodes (2 * node + 1)) =
    c.sooner.ensures ∙ (λ i. sooner c.args.held.now
    ((c.winner-left.ensures ∙ ap (λ (l : List ℕ). winner l (2 * node)) c.deref.ensures.value) i)
    ((c.winner-right.ensures ∙ ap (λ (l : List ℕ). winner l (2 * node + 1)) c.deref-in-loop-node.ensures.value) i)) in
    let new : IsPlayedFrom c.args.held.now node (slice_set nodes node c.sooner.result) =
    subst (λ (w : ℕ). IsPlayedFrom c.args.held.now node (slice_set nodes node w)) (sym is) (played_down c.args.held.now node nodes (omega arith) (omega arith) old) in
    record {
      size = length-set nodes node c.sooner.result ∙ size;
      most = omega arith;
      home = new.home;
      won = new.won;
    }
