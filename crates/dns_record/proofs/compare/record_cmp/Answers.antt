use Rattle.std.proofs.Common.{sym, ◌∙◌}
use Rattle.dns_record.proofs.Same.{owners_decide, data_decide, record_cmp_told}
use Rattle.dns_record.proofs.compare.record_cmp.Goals as goal

pub returns-in-Equal-clause-value : goal.returns-in-Equal-clause-value
returns-in-Equal-clause-value c = data_decide _ _ _ (sym c.in-Equal.is ∙ c.folded_cmp.ensures.value) c.rdata_cmp.ensures

pub returns-in-Equal-clause-equal : goal.returns-in-Equal-clause-equal
returns-in-Equal-clause-equal c = record_cmp_told _ _ _ (returns-in-Equal-clause-value c)

pub returns-in_default : goal.returns-in_default
returns-in_default c =
    let value = owners_decide _ _ _ c.folded_cmp.ensures.value c.in_default.not-Equal in
    record { value = value; equal = record_cmp_told _ _ _ value }
