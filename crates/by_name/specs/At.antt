-- Where a value stands: the name of its owner in lower case, in wire form, and its number among the values of that name.
use Rattle.std.specs.Prelude.{ℕ, ◌==◌, Bool, ◌&&◌, List}
use Rattle.std.specs.Str.{bytes_eq}
use Rattle.dns_name.specs.Names.{wire_of, folded}

pub record At : Type 0 where
  pub owner : List ℕ
  pub number : ℕ

abbrev pub at_eq : At → At → Bool
at_eq one other = bytes_eq one.owner other.owner && (one.number == other.number)

-- a name as places have it
abbrev pub owner_of : List (List ℕ) → List ℕ
owner_of name = wire_of (folded name)

abbrev pub at : List ℕ → ℕ → At
at owner number = record { owner = owner; number = number }
