use Rattle.plain_check.proofs.Legality.{begin_legally}
use Rattle.plain_check.proofs.law.legal_rows_begin_legally.Goals as goal

pub returns : goal.returns
returns c = begin_legally
