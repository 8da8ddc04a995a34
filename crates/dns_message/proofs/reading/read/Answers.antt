use Rattle.std.proofs.Common.{arith}
use Rattle.dns_message.proofs.Bounded.{is_other_read}
use Rattle.dns_message.proofs.Valid.{valid_read}
use Rattle.dns_message.proofs.reading.read.Goals as goal

pub returns-clause-bounded : goal.returns-clause-bounded
returns-clause-bounded c = (λ e. absurd (is_other_read _ _ (omega arith) c.read_short.ensures.read e), λ h. absurd (omega arith))

pub returns-clause-valid : goal.returns-clause-valid
returns-clause-valid c = valid_read _ _ c.read_short.ensures.bytes c.read_short.ensures.read
