-- What a client holds that replays its items: for each operation the set of its answers, each known by the bytes of its frame.
use Rattle.std.specs.Prelude.{ℕ, Bool, true, false, ◌&&◌, List, [], ◌∷◌, Option, Some, None, if◌then◌else◌}
use Rattle.std.specs.Option.{option_and_then}
use Rattle.std.specs.Ordering.{int_eq, nat_cmp}
use Rattle.std.specs.Cmp.Lexicographic.{slice_cmp}
use Rattle.std.specs.FinMap as map
use Rattle.std.specs.FinSet as set
use Rattle.sd_call.specs.Answers.{answer_bytes}
use Rattle.sd_call.specs.Requests.{no_error}
use Rattle.sd_call.specs.declared.request.Verb.{Verb}
use Rattle.sd_call.specs.declared.request.Verb.TheVariants as verb
use Rattle.sd_call.specs.declared.item.Item.{Item}
use Rattle.sd_call.specs.declared.item.Item.TheVariants.{Reply, Add, Remove}

-- a set of answers
abbrev pub AnswerSet : Type 0
AnswerSet = set.FinSet (slice_cmp nat_cmp)

-- the sets of all operations that were started and not stopped
abbrev pub AnswerSets : Type 0
AnswerSets = map.FinMap nat_cmp AnswerSet

-- an answer put into a set that lacks it
abbrev pub put_answer : List ℕ → AnswerSet → Option AnswerSet
put_answer answer answers = if set.contains answers answer then None else Some (set.insert answers answer)

-- an answer taken out of a set that has it
abbrev pub take_answer : List ℕ → AnswerSet → Option AnswerSet
take_answer answer answers = if set.contains answers answer then Some (set.remove answers answer) else None

-- the sets with that of one operation changed, if it has one and the change can be made
abbrev pub set_at : ℕ → AnswerSets → Option AnswerSet → Option AnswerSets
set_at op sets None = None
set_at op sets (Some answers) = Some (map.insert sets op answers)

-- the sets with a change of that of one operation, if it has one and the change can be made
abbrev pub change_at : ℕ → (AnswerSet → Option AnswerSet) → AnswerSets → Option AnswerSets
change_at op change sets = set_at op sets (option_and_then change (map.get sets op))

-- Only a start and a stop that were answered with code 0 change what is held.
abbrev pub replay_reply : ℕ → Verb → Bool → AnswerSets → AnswerSets
replay_reply op verb.Start true sets = map.insert sets op set.empty
replay_reply op verb.Stop true sets = map.remove sets op
replay_reply op _ _ sets = sets

-- one item: an answer that is there already can't be added, one that isn't there can't be removed
abbrev pub replay_item : Item → AnswerSets → Option AnswerSets
replay_item (Reply op verb code) sets = Some (replay_reply op verb (int_eq code no_error) sets)
replay_item (Add op answer) sets = change_at op (put_answer (answer_bytes answer)) sets
replay_item (Remove op answer) sets = change_at op (take_answer (answer_bytes answer)) sets

-- whether an operation begins with it
abbrev pub begins : Verb → Bool
begins verb.Start = true
begins _ = false

-- whether an item may take room: a start that was answered with code 0, and an answer that is added
abbrev pub takes_room : Item → Bool
takes_room (Reply op verb code) = begins verb && int_eq code no_error
takes_room (Add op answer) = true
takes_room (Remove op answer) = false

-- items replayed one by one from what is held
abbrev pub replay_from : Option AnswerSets → List Item → Option AnswerSets
replay_from held [] = held
replay_from held (item ∷ items) = replay_from (option_and_then (replay_item item) held) items

-- items replayed from no operations at all
abbrev pub replay : List Item → Option AnswerSets
replay items = replay_from (Some map.empty) items
