use Rattle.std.proofs.Common.{◌≡◌, ℕ, ◌/◌, ◌<◌, length, subst, sym, ◌∙◌, refl, arith}
use Rattle.std.specs.Prelude.{slice_set}
use Rattle.std.proofs.lemmas.List.{length-set}
use Rattle.mdns_cache.proofs.Paths.{half_some, half_below}
use Rattle.mdns_cache.proofs.Mending.{IsPlayedTo, played_below, played_to_root, played_up}
use Rattle.mdns_cache.proofs.ends.mend.Goals as goal

pub loop-node-init : goal.loop-node-init
loop-node-init c =
    let within = c.requires.place in
    record {
      size = refl;
      some = omega arith;
      below = omega arith;
      played = λ dirty played. played_below c.args.held.now dirty c.args.place c.args.nodes.now c.requires.place played;
    }

pub loop-node-preserved : goal.loop-node-preserved
loop-node-preserved c =
    let more : 1 < c.loop-node.node = c.loop-node-test.true in
    let below = half_below c.loop-node.node (length c.loop-node.nodes) c.loop-node.invariant.below in
    let some = half_some c.loop-node.node more in
    let len : length (slice_set c.loop-node.nodes (c.loop-node.node / 2) c.sooner.result) ≡ length c.loop-node.nodes = length-set c.loop-node.nodes (c.loop-node.node / 2) c.sooner.result in
    record {
      size = len ∙ c.loop-node.invariant.size;
      some = some;
      below = omega arith;
      played = λ dirty played.
          subst (λ (w : ℕ). IsPlayedTo c.args.held.now (c.loop-node.node / 2) dirty (slice_set c.loop-node.nodes (c.loop-node.node / 2) w))
          (sym (c.sooner.ensures ∙ (λ i. Rattle.mdns_cache.specs.Ends.sooner c.args.held.now (c.winner-left.ensures i) (c.winner-right.ensures i))))
          (played_up c.args.held.now dirty c.loop-node.node (c.loop-node.node / 2) c.loop-node.nodes refl some below (c.loop-node.invariant.played dirty played));
    }

pub returns : goal.returns
returns c = λ dirty played.
    played_to_root c.args.held.now dirty c.args.place c.loop-node.nodes c.loop-node.node c.loop-node-test.false (c.loop-node.invariant.played dirty played)
