use Rattle.std.proofs.Common.{◌≡◌, ◌+◌, ◌∙◌, List, ℕ, length, sym, subst, arith}
use Rattle.std.specs.List.{remove}
use Rattle.mdns_timer.specs.Tree.{IsTreeBut}
use Rattle.mdns_timer.proofs.Trees.{tree_popped}
use Rattle.mdns_timer.proofs.deadlines.Deadlines.remove.Goals as goal

pub mend-requires-clause-others : goal.mend-requires-clause-others
mend-requires-clause-others c =
    let moments = c.self.inside.moments.items in
    let last : c.args.place + 1 ≡ length moments = omega (arith, c.if-place-len.true, c.len.ensures, c.remove.ensures.len, c.self.inside.moments.ok.0) in
    subst (λ (list : List ℕ). IsTreeBut c.args.place list c.deref_mut.result.now) (sym (c.deref.ensures.value ∙ c.remove.ensures.items))
    (subst (λ (nodes : List ℕ). IsTreeBut c.args.place (remove moments c.args.place) nodes) (sym c.deref_mut.ensures.value)
    (tree_popped moments c.self.inside.nodes.items c.args.place last c.self.invariant.tree))
