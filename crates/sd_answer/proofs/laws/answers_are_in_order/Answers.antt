use Rattle.sd_answer.proofs.Puts.{answers-sorted}
use Rattle.sd_answer.proofs.laws.answers_are_in_order.Goals as goal

pub returns : goal.returns
returns c = answers-sorted
