use Rattle.std.proofs.Common.{sym, ◌∙◌}
use Rattle.dns_pointers.proofs.NameParts.{offset_found, offset_passed, offset_none}
use Rattle.dns_pointers.proofs.written_names.find.Goals as goal

pub returns-then-is-clause-value : goal.returns-then-is-clause-value
returns-then-is-clause-value c =
    rw c.offset.ensures.value
    (offset_found _ _ c.loop-suffix.suffix-index c.suffix-item.result c.loop-suffix-test.true c.suffix-item.is c.loop-suffix.invariant (sym c.if-is.true ∙ c.is.ensures))

pub loop-suffix-preserved : goal.loop-suffix-preserved
loop-suffix-preserved c =
    offset_passed _ _ c.loop-suffix.suffix-index c.suffix-item.result c.loop-suffix-test.true c.suffix-item.is c.loop-suffix.invariant (sym c.if-is.false ∙ c.is.ensures)

pub returns-clause-value : goal.returns-clause-value
returns-clause-value c = offset_none _ _ c.loop-suffix.suffix-index c.loop-suffix-test.false c.loop-suffix.invariant
