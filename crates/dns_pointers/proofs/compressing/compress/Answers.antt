use Rattle.std.proofs.Common.{◌≡◌, ◌-◌, length, arith, ap, sym, ◌∙◌, append-nil, length-append}
use Rattle.dns_pointers.specs.Writing.{Piece}
use Rattle.dns_pointers.proofs.NameParts.{begins, found, pushed_on, ended}
use Rattle.dns_pointers.proofs.Searching.{told_found, told_none, none_told}
use Rattle.dns_pointers.proofs.compressing.compress.Goals as goal

pub labels-init : goal.labels-init
labels-init c =
    let wire = c.as_wire-wire.result.now in
    let none : length wire - length wire ≡ 0 = omega arith in
    record {
      wire = c.as_wire-wire.ensures.value;
      within = omega arith;
      under_way = rw none (begins _ _ _ wire c.as_wire-wire.ensures.name c.as_wire-wire.ensures.value);
    }

pub returns-in-Some-clause-bytes : goal.returns-in-Some-clause-bytes
returns-in-Some-clause-bytes c =
    ap (λ (p : Piece). p.bytes) (found _ _ _ c.in-Some.offset _ _ _ c.labels.invariant.under_way c.labels-test.true (sym c.in-Some.is ∙ c.in_ok-offset.ensures.found))

pub returns-in-Some-clause-names : goal.returns-in-Some-clause-names
returns-in-Some-clause-names c =
    told_found _ _ _ _ c.in-Some.is c.in_ok-offset.ensures.names
    ∙ ap (λ (p : Piece). p.names) (found _ _ _ c.in-Some.offset _ _ _ c.labels.invariant.under_way c.labels-test.true (sym c.in-Some.is ∙ c.in_ok-offset.ensures.found))

pub labels-preserved : goal.labels-preserved
labels-preserved c =
    let cut = c.behind_label-rest.ensures in
    let none = told_none c.in_ok-offset.field-0 c.in_default.not-Some in
    record {
      wire = c.labels.invariant.wire;
      within = omega (arith, ap length cut.bytes, length-append cut.label c.behind_label-rest.result.now, c.labels.invariant.within);
      under_way = pushed_on _ _ _ _ _ _ _ _ c.labels.invariant.wire c.labels.invariant.within c.labels.invariant.under_way cut
          (sym none ∙ c.in_ok-offset.ensures.found) (none_told _ _ _ none c.in_ok-offset.ensures.names);
    }

pub returns-clause-bytes : goal.returns-clause-bytes
returns-clause-bytes c =
    append-nil c.as_wire-wire.result.now ∙ c.as_wire-wire.ensures.value ∙ ap (λ (p : Piece). p.bytes) (ended _ _ _ _ _ _ c.labels.invariant.under_way c.labels-test.false)

pub returns-clause-names : goal.returns-clause-names
returns-clause-names c = ap (λ (p : Piece). p.names) (ended _ _ _ _ _ _ c.labels.invariant.under_way c.labels-test.false)
