use Rattle.std.proofs.Common.{◌∙◌, ◌∷◌, drop, sym, ap, subst, ℕ, List}
use Rattle.std.specs.Prelude.{IsTrue}
use Rattle.dns_name.specs.Names.{labels_of, is_label, IsNameInWire}
use Rattle.dns_name.proofs.Wire.{first_in_wire}
use Rattle.dns_name.proofs.name.Labels.next_label.Goals as goal

pub split_at-requires : goal.split_at-requires
split_at-requires c =
    (first_in_wire c.self.inside.wire.now c.in_ok-size.rest.now c.args.self.now c.in_ok-size.size.now c.from.result
    c.self.invariant c.self.view_is c.in_ok-size.ensures.cases.0 c.if-size-eq0.false c.from.ensures).within

pub invariant_of-self : goal.invariant_of-self
invariant_of-self c =
    subst IsNameInWire (sym c.split_at.ensures.back)
    (first_in_wire c.self.inside.wire.now c.in_ok-size.rest.now c.args.self.now c.in_ok-size.size.now c.from.result
    c.self.invariant c.self.view_is c.in_ok-size.ensures.cases.0 c.if-size-eq0.false c.from.ensures).later

pub returns : goal.returns
returns c =
    let first = first_in_wire c.self.inside.wire.now c.in_ok-size.rest.now c.args.self.now c.in_ok-size.size.now c.from.result
    c.self.invariant c.self.view_is c.in_ok-size.ensures.cases.0 c.if-size-eq0.false c.from.ensures in (
      first.parts ∙ ap (λ (l : List ℕ). l ∷ labels_of (drop c.from.result c.in_ok-size.rest.now)) (sym c.split_at.ensures.front)
          ∙ ap (λ (l : List ℕ). c.split_at.result.0.now ∷ labels_of l) (sym c.split_at.ensures.back),
      subst (λ (l : List ℕ). IsTrue (is_label l)) (sym c.split_at.ensures.front) first.label,
    )
