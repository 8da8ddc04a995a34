use Rattle.std.proofs.Common.{◌≡◌, take, map}
use Rattle.lists.specs.Lists.{without}
use Rattle.sd_call.specs.Answers.{answer_eq}
use Rattle.sd_call.specs.declared.item.Item.TheVariants.{Remove}
use Rattle.plain_items.proofs.change.removes_of.Given as goal

abbrev pub invariant-loop-answer : goal.invariant-loop-answer
invariant-loop-answer l = l.items.items ≡ map (λ answer. Remove l.op answer) (without answer_eq (take l.answer-index l.before) l.after)
