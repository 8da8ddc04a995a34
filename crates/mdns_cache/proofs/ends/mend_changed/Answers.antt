use Rattle.std.proofs.Common.{◌≡◌, ℕ, ◌+◌, ◌*◌, ◌/◌, ◌<◌, [], length, subst, sym, ◌∙◌, refl, arith}
use Rattle.std.specs.Prelude.{slice_set}
use Rattle.std.proofs.lemmas.List.{length-set}
use Rattle.mdns_cache.specs.Ends.{winner, sooner, IsOn}
use Rattle.mdns_cache.proofs.Paths.{half_some, half_below, on_itself, on_further}
use Rattle.mdns_cache.proofs.Mending.{played_to_root}
use Rattle.mdns_cache.proofs.Replaying.{IsReplayed, replayed_from, replayed_up, replayed_stop}
use Rattle.mdns_cache.proofs.ends.mend_changed.Goals as goal

pub loop-node-init : goal.loop-node-init
loop-node-init c =
    let within = c.requires.place in
    record {
      size = refl;
      some = omega arith;
      below = omega arith;
      on = on_itself (length c.args.nodes.now + c.args.place);
      played = λ before agree played. replayed_from before c.args.held.now c.args.place c.args.nodes.now c.requires.place agree played;
    }

pub returns-then-nodes-node : goal.returns-then-nodes-node
returns-then-nodes-node c = λ before agree played.
    let up : ℕ = c.loop-node.node / 2 in
    let more : 1 < c.loop-node.node = c.loop-node-test.true in
    let is : c.sooner-first.result ≡ sooner c.args.held.now (winner c.loop-node.nodes (2 * up)) (winner c.loop-node.nodes (2 * up + 1)) =
    c.sooner-first.ensures ∙ (λ i. sooner c.args.held.now (c.winner-left.ensures i) (c.winner-right.ensures i)) in
    replayed_stop before c.args.held.now c.args.place c.loop-node.node up c.loop-node.nodes agree refl (half_some c.loop-node.node more)
    (half_below c.loop-node.node (length c.loop-node.nodes) c.loop-node.invariant.below) (on_further (length c.loop-node.nodes + c.args.place) c.loop-node.node c.loop-node.invariant.on)
    (c.loop-node.invariant.played before agree played) (c.if-nodes-node.true ∙ is) (λ e. c.if-first-place.true (sym c.if-nodes-node.true ∙ e))

pub loop-node-preserved : goal.loop-node-preserved
loop-node-preserved c =
    let up : ℕ = c.loop-node.node / 2 in
    let more : 1 < c.loop-node.node = c.loop-node-test.true in
    let below = half_below c.loop-node.node (length c.loop-node.nodes) c.loop-node.invariant.below in
    let some = half_some c.loop-node.node more in
    let len : length (slice_set c.loop-node.nodes up c.sooner-first.result) ≡ length c.loop-node.nodes = length-set c.loop-node.nodes up c.sooner-first.result in
    record {
      size = len ∙ c.loop-node.invariant.size;
      some = some;
      below = omega arith;
      on = subst (λ (n : ℕ). IsOn (n + c.args.place) up) (sym len) (on_further (length c.loop-node.nodes + c.args.place) c.loop-node.node c.loop-node.invariant.on);
      played = λ before agree played.
          subst (λ (w : ℕ). IsReplayed before c.args.held.now up (slice_set c.loop-node.nodes up w))
          (sym (c.sooner-first.ensures ∙ (λ i. sooner c.args.held.now (c.winner-left.ensures i) (c.winner-right.ensures i))))
          (replayed_up before c.args.held.now c.loop-node.node up c.loop-node.nodes refl some below (c.loop-node.invariant.played before agree played));
    }

pub returns : goal.returns
returns c = λ before agree played.
    played_to_root c.args.held.now [] c.args.place c.loop-node.nodes c.loop-node.node c.loop-node-test.false (c.loop-node.invariant.played before agree played).played
