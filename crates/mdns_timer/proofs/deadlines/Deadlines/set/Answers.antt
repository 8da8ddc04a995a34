use Rattle.std.proofs.Common.{List, ℕ, sym, subst, set}
use Rattle.mdns_timer.specs.Tree.{IsTreeBut}
use Rattle.mdns_timer.proofs.Trees.{tree_changed}
use Rattle.mdns_timer.proofs.deadlines.Deadlines.set.Goals as goal

pub mend-requires-clause-others : goal.mend-requires-clause-others
mend-requires-clause-others c =
    subst (λ (moments : List ℕ). IsTreeBut c.args.place moments c.deref_mut.result.now) (sym c.deref.ensures.value)
    (subst (λ (nodes : List ℕ). IsTreeBut c.args.place (set c.self.inside.moments.items c.args.place c.args.moment) nodes) (sym c.deref_mut.ensures.value)
    (tree_changed c.self.inside.moments.items c.self.inside.nodes.items c.args.place c.args.moment c.self.invariant.tree))
