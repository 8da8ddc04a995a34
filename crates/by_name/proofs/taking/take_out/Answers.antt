use Rattle.std.proofs.Common.{◌≡◌, true, ℕ, ◌+◌, cond, List, [], ◌∷◌, length, Some, None, IsPermutation, slice_get, subst, sym, ap, ◌∙◌, arith}
use Rattle.std.specs.Map.{values_of, lookup}
use Rattle.indexmap.specs.Layout.{set_value_at}
use Rattle.by_name.specs.At.{At, at, at_eq}
use Rattle.by_name.specs.Filed.{AreFiled, IsWithout, AgreeBut}
use Rattle.by_name.proofs.Changes.{agree-set, agree-then}
use Rattle.by_name.proofs.Removed.{without_last, without_other, filed_without, filed_put, entry_at, length-put, owned_after, owned_put}
use Rattle.by_name.proofs.taking.take_out.Given as given
use Rattle.by_name.proofs.taking.take_out.Goals as goal

pub returns-then-number-clause-without : goal.returns-then-number-clause-without
returns-then-number-clause-without g c =
    let owner : List ℕ = c.args.place.now.owner in
    let same : c.other.result ≡ at owner c.args.place.now.number = c.other.ensures ∙ ap (at owner) (c.if-number.true ∙ c.number.ensures) in
    without_last owner c.args.place.now.number c.in_ok-hole.last c.args.values.now.entries c.take_last.new.values.entries
    (subst (λ (k : At). IsPermutation c.args.values.now.entries ((k, c.in_ok-hole.last) ∷ c.take_last.new.values.entries)) same c.in_ok-hole.ensures.moved)

-- where the value stands after the last one of its name is gone
there : (g : given.Over) (c : goal.After-values-1 g) → slice_get c.take_last.new.values.entries c.in_ok-filled.filled ≡ Some (c.args.place.now, c.replace-one.result)
there g c =
    entry_at c.take_last.new.values.entries c.args.place.now c.in_ok-filled.filled c.replace-one.result c.in_ok-filled.ensures.index
    (ap Some c.replace-one.ensures.value ∙ sym c.index_mut.ensures.value ∙ c.in_ok-filled.ensures.value)

filed : (g : given.Over) (c : goal.After-values-1 g) → AreFiled c.take_last.new.values.entries
filed g c =
    filed_without c.args.place.now.owner c.last_of-number.result c.args.values.now.entries c.take_last.new.values.entries c.requires.filed c.last_of-number.ensures.last
    (subst (λ (k : At). (place : At) → lookup (at_eq place) c.take_last.new.values.entries ≡ cond (at_eq k place) None (lookup (at_eq place) c.args.values.now.entries)) c.other.ensures c.in_ok-hole.ensures.left)
    c.in_ok-hole.ensures.distinct

pub returns-clause-without : goal.returns-clause-without
returns-clause-without g c =
    let owner : List ℕ = c.args.place.now.owner in
    let before : List (At × g.row.T.Denot) = c.args.values.now.entries in
    let middle : List (At × g.row.T.Denot) = c.take_last.new.values.entries in
    subst (λ (x : g.row.T.Denot). IsWithout owner c.args.place.now.number c.replace-one.result before (set_value_at middle c.in_ok-filled.filled x)) (sym c.replace-one.ensures.after)
    (without_other owner c.args.place.now.number c.last_of-number.result c.replace-one.result c.in_ok-hole.last before middle c.in_ok-filled.filled c.last_of-number.ensures.least
    (subst (λ (k : At). IsPermutation before ((k, c.in_ok-hole.last) ∷ middle)) c.other.ensures c.in_ok-hole.ensures.moved) (there g c))

pub returns-clause-filed : goal.returns-clause-filed
returns-clause-filed g c = filed_put c.take_last.new.values.entries c.in_ok-filled.filled c.replace-one.new.dest (filed g c)

len : (g : given.Over) (c : goal.After-values-1 g) → length (set_value_at c.take_last.new.values.entries c.in_ok-filled.filled c.replace-one.new.dest) ≡ length c.take_last.new.values.entries
len g c = length-put c.take_last.new.values.entries c.in_ok-filled.filled c.replace-one.new.dest

pub returns-clause-len : goal.returns-clause-len
returns-clause-len g c = ap (λ (n : ℕ). n + 1) (len g c) ∙ c.in_ok-hole.ensures.len

pub returns-clause-agree : goal.returns-clause-agree
returns-clause-agree g c =
    let before : List (At × g.row.T.Denot) = c.args.values.now.entries in
    let middle : List (At × g.row.T.Denot) = c.take_last.new.values.entries in
    let after : List (At × g.row.T.Denot) = set_value_at middle c.in_ok-filled.filled c.replace-one.new.dest in
    subst (λ (n : ℕ). AgreeBut (c.in_ok-filled.filled ∷ c.in_ok-hole.hole ∷ n ∷ []) (values_of before) (values_of after)) (sym (len g c))
    (agree-then (c.in_ok-filled.filled ∷ []) (c.in_ok-hole.hole ∷ length middle ∷ []) (values_of before) (values_of middle) (values_of after)
    (agree-set middle c.in_ok-filled.filled c.replace-one.new.dest) c.in_ok-hole.ensures.agree)

pub returns-then-number-clause-owned : goal.returns-then-number-clause-owned
returns-then-number-clause-owned g c = λ test owned. (owned_after test c.args.values.now.entries c.take_last.new.values.entries (c.other.result, c.in_ok-hole.last) c.in_ok-hole.ensures.moved owned).1

pub returns-clause-owned : goal.returns-clause-owned
returns-clause-owned g c = λ test owned.
    let middle : List (At × g.row.T.Denot) = c.take_last.new.values.entries in
    let both = owned_after test c.args.values.now.entries middle (c.other.result, c.in_ok-hole.last) c.in_ok-hole.ensures.moved owned in
    owned_put test middle c.in_ok-filled.filled (c.args.place.now, c.replace-one.result) c.replace-one.new.dest (there g c)
    (subst (λ (x : g.row.T.Denot). test c.args.place.now.owner x ≡ true) (sym c.replace-one.ensures.after)
    (subst (λ (k : At). test k.owner c.in_ok-hole.last ≡ true) c.other.ensures both.0)) both.1

pub returns-clause-within : goal.returns-clause-within
returns-clause-within g c =
    let same = len g c in
    let hole = c.in_ok-hole.ensures.within in
    let filled = c.in_ok-filled.ensures.within in
    (omega (arith, same, hole), omega (arith, same, filled))
