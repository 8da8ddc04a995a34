-- What contracts see of the records that are held.
use Rattle.std.specs.Prelude.{ℕ, List}
use Rattle.mdns_history.specs.declared.held.Held.{Held}

-- the held records, and how many more there is room for
pub record State : Type 0 where
  pub held : List Held
  pub spare : ℕ
