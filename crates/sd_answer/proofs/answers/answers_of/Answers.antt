use Rattle.std.proofs.Common.{sym, subst}
use Rattle.std.specs.List.Sorted.{IsSorted}
use Rattle.sd_call.specs.Answers.{answer_cmp}
use Rattle.lists.proofs.SortedOnce.{sorted-ordered}
use Rattle.sd_answer.proofs.Puts.{answer_cmp-total}
use Rattle.sd_answer.proofs.answers.answers_of.Goals as goal

pub returns-clause-sorted : goal.returns-clause-sorted
returns-clause-sorted c = subst (IsSorted answer_cmp) (sym c.in_ok-ordered.ensures) (sorted-ordered answer_cmp answer_cmp-total _)
