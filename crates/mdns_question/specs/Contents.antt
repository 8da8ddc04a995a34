-- Questions and the records over which they are due.
use Rattle.std.specs.Prelude.{List}
use Rattle.mdns_history.specs.declared.held.Held.{Held}
use Rattle.mdns_question.specs.declared.tracked.Tracked.{Tracked}

-- the questions that have users, by folded name and then by type; and the records that are held, in no promised order
pub record Contents : Type 0 where
  pub questions : List Tracked
  pub held : List Held
