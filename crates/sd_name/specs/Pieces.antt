-- Texts that are cut at each of some byte.
use Rattle.std.specs.Prelude.{ℕ, ◌==◌, List, [], Option, Some, None}
use Rattle.std.specs.List.{slice_split}

-- the pieces of what is left of a text, if any of it is
abbrev pub pieces_of : ℕ → Option (List ℕ) → List (List ℕ)
pieces_of byte None = []
pieces_of byte (Some text) = slice_split (λ b. b == byte) text
