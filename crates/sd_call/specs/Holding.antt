-- What a client holds that replays its items, as lists: the operations that were started and not stopped, and their answers.
use Rattle.std.specs.Prelude.{ℕ, ◌==◌, ◌&&◌, Bool, true, not, List, [], ◌∷◌, map, filter, slice_get, Option, None, if◌then◌else◌}
use Rattle.std.specs.List.{list_any}
use Rattle.std.specs.FinMap as fin
use Rattle.std.specs.FinSet as set
use Rattle.sd_call.specs.declared.answer.Answer.{Answer}
use Rattle.sd_call.specs.declared.replayed.Kept.{Kept}
use Rattle.sd_call.specs.Answers.{answer_bytes, answer_eq}
use Rattle.sd_call.specs.Replay.{AnswerSets}

-- the operations, their answers, and for how many more there is room
pub record Holding : Type 0 where
  pub operations : List ℕ
  pub kept : List Kept
  pub spare : ℕ

-- whether an operation was started and not stopped
abbrev pub has : ℕ → List ℕ → Bool
has op operations = list_any (λ other. other == op) operations

-- the answers of an operation
abbrev pub answers_of : ℕ → List Kept → List Answer
answers_of op kept = map (λ one. one.answer) (filter (λ one. one.op == op) kept)

-- whether this is the answer of the operation
abbrev pub is_it : ℕ → Answer → Kept → Bool
is_it op answer one = (one.op == op) && answer_eq answer one.answer

-- No operation has an answer twice.
abbrev pub are_once : List Kept → Bool
are_once [] = true
are_once (one ∷ more) = not (list_any (is_it one.op one.answer) more) && are_once more

-- the sets that lists of operations and of answers stand for
unfoldable pub sets_in : List ℕ → List Kept → AnswerSets
sets_in operations kept = fin.from_entries (map (λ op. (op, set.from_list (map answer_bytes (answers_of op kept)))) operations)

-- the sets that are held
abbrev pub held_sets : Holding → AnswerSets
held_sets holding = sets_in holding.operations holding.kept

-- the answer of an operation at a place, where it has a set and so many answers
abbrev pub answer_at : ℕ → ℕ → Holding → Option Answer
answer_at op place holding = if has op holding.operations then slice_get (answers_of op holding.kept) place else None
