use Rattle.std.proofs.Common.{◌≡◌, ◌++◌, take, map}
use Rattle.lists.specs.Lists.{without}
use Rattle.sd_call.specs.declared.item.Item.TheVariants as item
use Rattle.sd_call.specs.Answers.{answer_eq}
use Rattle.sd_operations.proofs.items.put_adds.Given as goal

abbrev pub invariant-loop-answer : goal.invariant-loop-answer
invariant-loop-answer l = l.items ≡ l.initial.items ++ map (λ answer. item.Add l.op answer) (without answer_eq (take l.answer-index l.has) l.had)
