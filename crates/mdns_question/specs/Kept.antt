-- What contracts see of an asker.
use Rattle.std.specs.Prelude.{ℕ, List}
use Rattle.mdns_question.specs.declared.tracked.Tracked.{Tracked}

-- the questions that have users, by folded name and then by type, and how many more there is room for
pub record Kept : Type 0 where
  pub questions : List Tracked
  pub spare : ℕ
