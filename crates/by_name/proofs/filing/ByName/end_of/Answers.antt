use Rattle.std.proofs.Common.{◌≡◌, ◌∙◌, ◌+◌, ℕ, suc, None, sym, ap, subst, arith}
use Rattle.std.specs.Prelude.{IsSome}
use Rattle.by_name.specs.At.{At}
use Rattle.by_name.specs.Filed.{Filing, found}
use Rattle.by_name.proofs.Finding.{found_within}
use Rattle.by_name.proofs.filing.ByName.end_of.Goals as goal

pub overflow_add-last_of : goal.overflow_add-last_of
overflow_add-last_of g c =
    let within = found_within c.self.inside.values.entries c.self.invariant.0.gapless c.new-place.result.owner c.last_of.result c.last_of.ensures.there in
    let small = c.len-len.ensures.small in
    let len = c.len-len.ensures.len in
    grind arith

pub returns-then-contains_key-clause-absent : goal.returns-then-contains_key-clause-absent
returns-then-contains_key-clause-absent g c =
    subst (λ (k : At). found k.owner k.number c.args.self.now.entries ≡ None) (sym c.go.ensures)
    (subst (λ (v : Filing g.row.T.Denot). found c.new-place.result.owner (c.last_of.result + 1) v.entries ≡ None) c.self.view_is
    (subst (λ (n : ℕ). found c.new-place.result.owner n c.self.inside.values.entries ≡ None) (let e : suc c.last_of.result ≡ c.last_of.result + 1 = omega arith in e) c.last_of.ensures.last))

pub returns-then-contains_key-clause-next : goal.returns-then-contains_key-clause-next
returns-then-contains_key-clause-next g c = λ number e.
    let numbers : suc number ≡ c.last_of.result + 1 = e ∙ ap (λ (k : At). k.number) c.go.ensures in
    let is : c.last_of.result ≡ number = omega (arith, numbers) in
    subst (λ (k : At). IsSome (found k.owner number c.args.self.now.entries)) (sym c.go.ensures)
    (subst (λ (v : Filing g.row.T.Denot). IsSome (found c.new-place.result.owner number v.entries)) c.self.view_is
    (subst (λ (n : ℕ). IsSome (found c.new-place.result.owner n c.self.inside.values.entries)) is c.last_of.ensures.there))
