use Rattle.std.proofs.Common.{refl}
use Rattle.dns_record.proofs.Same.{same_by_data, same_told}
use Rattle.dns_record.proofs.record.Rr.same.Goals as goal

pub returns-then-data_eq-clause-value : goal.returns-then-data_eq-clause-value
returns-then-data_eq-clause-value c = rw (same_by_data, ← c.data_eq.ensures, c.if-data_eq.true) c.folded_eq.ensures.value

pub returns-then-data_eq-clause-tells : goal.returns-then-data_eq-clause-tells
returns-then-data_eq-clause-tells c = same_told _ _ _ (returns-then-data_eq-clause-value c)

pub returns-else-data_eq-clause-value : goal.returns-else-data_eq-clause-value
returns-else-data_eq-clause-value c = rw (same_by_data, ← c.data_eq.ensures, c.if-data_eq.false) refl

pub returns-else-data_eq-clause-tells : goal.returns-else-data_eq-clause-tells
returns-else-data_eq-clause-tells c = same_told _ _ _ (returns-else-data_eq-clause-value c)
