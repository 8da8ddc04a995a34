use Rattle.std.proofs.Common.{◌≡◌, ◌++◌, ◌∷◌, [], List, ℕ, length, ◌∙◌, sym, subst, arith}
use Rattle.mdns_timer.specs.Tree.{IsTreeBut}
use Rattle.mdns_timer.proofs.Trees.{tree_pushed}
use Rattle.mdns_timer.proofs.deadlines.Deadlines.push.Goals as goal

pub mend-requires-clause-others : goal.mend-requires-clause-others
mend-requires-clause-others c =
    let items : c.push.new.self.items ≡ c.self.inside.moments.items ++ c.args.moment ∷ [] = grind arith in
    let last : length c.self.inside.moments.items ≡ c.len-last.result = omega (arith, c.len-last.ensures, c.self.inside.moments.ok.0) in
    subst (λ (place : ℕ). IsTreeBut place c.deref.result.now c.deref_mut.result.now) last
    (subst (λ (moments : List ℕ). IsTreeBut (length c.self.inside.moments.items) moments c.deref_mut.result.now) (sym (c.deref.ensures.value ∙ items))
    (subst (λ (nodes : List ℕ). IsTreeBut (length c.self.inside.moments.items) (c.self.inside.moments.items ++ c.args.moment ∷ []) nodes) (sym c.deref_mut.ensures.value)
    (tree_pushed c.self.inside.moments.items c.self.inside.nodes.items c.args.moment c.self.invariant.tree)))
