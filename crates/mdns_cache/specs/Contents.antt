-- What contracts see of a cache.
use Rattle.std.specs.Prelude.{ℕ, List}
use Rattle.mdns_history.specs.declared.held.Held.{Held}

-- the held records, how many may be live, and how many more there is room for
pub record Contents : Type 0 where
  pub held : List Held
  pub limit : ℕ
  pub spare : ℕ
