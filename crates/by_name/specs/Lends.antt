-- What values by name end as, once a `&mut` into them has ended.
use Rattle.std.specs.Prelude.{ℕ}
use Rattle.std.specs.Borrow.{Fml, RattleType, MutBor, Lends}
use Rattle.indexmap.specs.Layout.{set_value_at}
use Rattle.by_name.specs.Filed.{Filing}
use Rattle.by_name.specs.contracts.filing.ByName.{the_row}

-- values by name, with another value at an index
abbrev pub with_value_at : {T : Type 0} → Filing T → ℕ → T → Filing T
with_value_at b index one = record b { entries = set_value_at b.entries index one }

-- the index has the last value that was written
abbrev pub lends_value : (T : RattleType) → MutBor (Filing T.Denot) → ℕ → MutBor T.Denot → Fml
lends_value T b index r = Lends (the_row T) T b r (with_value_at b.now index)
