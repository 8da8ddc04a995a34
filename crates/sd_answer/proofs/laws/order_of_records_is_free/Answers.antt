use Rattle.sd_answer.proofs.Members.{order_free, count_free}
use Rattle.sd_answer.proofs.laws.order_of_records_is_free.Goals as goal

pub returns-clause-order : goal.returns-clause-order
returns-clause-order c = order_free

pub returns-clause-count : goal.returns-clause-count
returns-clause-count c = count_free
