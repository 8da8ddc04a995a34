use Rattle.std.proofs.Common.{◌≡◌, take, map}
use Rattle.lists.specs.Lists.{without}
use Rattle.sd_call.specs.Answers.{answer_eq}
use Rattle.sd_call.specs.declared.item.Item.TheVariants.{Add}
use Rattle.plain_items.proofs.change.adds_of.Given as goal

abbrev pub invariant-loop-answer : goal.invariant-loop-answer
invariant-loop-answer l = l.items.items ≡ map (λ answer. Add l.op answer) (without answer_eq (take l.answer-index l.after) l.before)
