-- What a session's items replay to.
use Rattle.std.specs.Prelude.{◌≡◌, ℕ, true, false, List, ◌++◌, map, Some}
use Rattle.std.specs.FinMap as map
use Rattle.std.specs.FinSet as set
use Rattle.sd_call.specs.declared.answer.Answer.{Answer}
use Rattle.sd_call.specs.Answers.{answer_bytes}
use Rattle.sd_call.specs.Replay.{AnswerSet, AnswerSets, replay}
use Rattle.mdns_history.specs.declared.entry.Entry.{Entry}
use Rattle.mdns_history.specs.Sessions.{Operation, operations_of, is_attached, is_cut}
use Rattle.mdns_history.specs.Answers.{answers}
use Rattle.mdns_history.specs.Items.{session_items, taken_items, queue}
use Rattle.mdns_history.specs.InForce.{Duties}
use Rattle.mdns_history.specs.Fitting.{IsLegal}

-- answers as a set
abbrev pub set_of : List Answer → AnswerSet
set_of answers = set.from_list (map answer_bytes answers)

-- an operation with the set of its answers
abbrev pub entry_of : List Entry → Operation → ℕ × AnswerSet
entry_of history operation = (operation.op, set_of (answers operation history))

-- from each live operation of a session to its answers
unfoldable pub answer_sets : ℕ → List Entry → AnswerSets
answer_sets session history = map.from_entries (map (entry_of history) (operations_of session history))

-- Replaying a session's items gives exactly the answers that its operations have, whatever the daemon's duties are.
abbrev pub IsReplayed : Type 0
IsReplayed = (duties : Duties) (history : List Entry) (session : ℕ) → IsLegal duties history → is_attached session history ≡ true → is_cut session history ≡ false →
    replay (session_items session history) ≡ Some (answer_sets session history)

-- The items of a session that isn't cut are those that it took and then those that are queued for it.
abbrev pub IsQueued : Type 0
IsQueued = (duties : Duties) (history : List Entry) (session : ℕ) → IsLegal duties history → is_cut session history ≡ false →
    session_items session history ≡ taken_items session history ++ queue session history
