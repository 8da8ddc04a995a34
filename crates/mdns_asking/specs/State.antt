-- What contracts see of the questions that a daemon asks.
use Rattle.std.specs.Prelude.{ℕ, List}
use Rattle.mdns_history.specs.declared.held.Held.{Held}
use Rattle.mdns_question.specs.declared.tracked.Tracked.{Tracked}
use Rattle.mdns_question.specs.Contents.{Contents}

-- the questions that have users, by folded name and then by type, and how many more there is room for
pub record State : Type 0 where
  pub questions : List Tracked
  pub spare : ℕ

-- what an asker keeps that has these questions, where these records are held
abbrev pub asker_of : List Tracked → List Held → Contents
asker_of questions held = record { questions = questions; held = held }
