-- What an event changes, told of the answers that operations have before it and after it.
use Rattle.std.specs.Prelude.{ℕ, nat_lt, Bool, List, [], ◌++◌, map, Option}
use Rattle.std.specs.List.{flat_map, find}
use Rattle.std.specs.Option.{option_map_or, option_to_list}
use Rattle.lists.specs.Lists.{without}
use Rattle.sd_call.specs.declared.answer.Answer.{Answer}
use Rattle.sd_call.specs.declared.item.Item.{Item}
use Rattle.sd_call.specs.declared.item.Item.TheVariants.{Add, Remove}
use Rattle.sd_call.specs.Answers.{answer_eq, frames_len, queue_limit}
use Rattle.mdns_history.specs.declared.operation.Operation.{Operation}
use Rattle.mdns_history.specs.Sessions.{has_op}
use Rattle.sd_sessions.specs.Answered.{Answering}

-- what the operation of a number had, where it was there
abbrev pub had : Answering → List Operation → ℕ → List Answer
had earlier before op = option_map_or earlier (find (has_op op) before) []

-- the removes of an operation: what it had before, and hasn't after
abbrev pub lost : Answering → Answering → List Operation → Operation → List Item
lost earlier later before operation =
    map (λ answer. Remove operation.op answer) (without answer_eq (had earlier before operation.op) (later operation))

-- the adds of an operation: what it has after, and hadn't before
abbrev pub gained : Answering → Answering → List Operation → Operation → List Item
gained earlier later before operation =
    map (λ answer. Add operation.op answer) (without answer_eq (later operation) (had earlier before operation.op))

-- what a session is brought: the reply to its call, then the removes, then the adds
unfoldable pub items_between : Answering → Answering → Option Item → List Operation → List Operation → List Item
items_between earlier later reply before after =
    option_to_list reply ++ flat_map (lost earlier later before) after ++ flat_map (gained earlier later before) after

-- whether items would pass the limit of a queue
abbrev pub passes : List Item → List Item → Bool
passes queued items = nat_lt queue_limit (frames_len (queued ++ items))
