-- What contracts see of the live groups.
use Rattle.std.specs.Prelude.{ℕ, List}
use Rattle.mdns_probe.specs.Kept.{Kept}

-- the groups, and for how many more there is room
pub record Live : Type 0 where
  pub kept : List Kept
  pub spare : ℕ
