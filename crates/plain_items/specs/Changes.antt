-- What becomes of the answers of an operation between two histories.
use Rattle.std.specs.Prelude.{ℕ, List, map}
use Rattle.lists.specs.Lists.{without}
use Rattle.sd_call.specs.Answers.{answer_eq}
use Rattle.sd_call.specs.declared.item.Item.{Item}
use Rattle.sd_call.specs.declared.item.Item.TheVariants.{Add, Remove}
use Rattle.mdns_history.specs.declared.entry.Entry.{Entry}
use Rattle.mdns_history.specs.declared.operation.Operation.{Operation}
use Rattle.mdns_history.specs.Answers.{answers}
use Rattle.mdns_history.specs.Items.{earlier_answers}

-- what it had in the first and hasn't in the second
abbrev pub removes_between : ℕ → List Entry → List Entry → Operation → List Item
removes_between session past history operation =
    map (λ answer. Remove operation.op answer) (without answer_eq (earlier_answers session past operation) (answers operation history))

-- what it has in the second and hadn't in the first
abbrev pub adds_between : ℕ → List Entry → List Entry → Operation → List Item
adds_between session past history operation =
    map (λ answer. Add operation.op answer) (without answer_eq (answers operation history) (earlier_answers session past operation))
