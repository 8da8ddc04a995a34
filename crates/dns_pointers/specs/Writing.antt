-- The bytes that a name is written as in a message, where some names stand before it. (RFC 1035 4.1.4, RFC 6762 18.14)
use Rattle.std.specs.Prelude.{ℕ, ◌+◌, ◌*◌, List, [], ◌∷◌, ◌++◌, length, Option, Some, None, if◌then◌else◌}
use Rattle.std.specs.Int.{to_be_bytes, w16}
use Rattle.dns_name.specs.Names.{exact_eq}

-- names that were written, each with the offset of its first label, the least first
abbrev pub Offsets : Type 0
Offsets = List (List (List ℕ) × ℕ)

-- a piece of a message, and the names that were written up to its end
pub record Piece : Type 0 where
  pub bytes : List ℕ
  pub names : Offsets

-- the least offset at which a name was written
unfoldable pub offset_of : List (List ℕ) → Offsets → Option ℕ
offset_of name [] = None
offset_of name (written ∷ more) = if exact_eq name written.0 then Some written.1 else offset_of name more

-- bytes put before a piece
abbrev pub onto : List ℕ → Piece → Piece
onto bytes piece = record { bytes = bytes ++ piece.bytes; names = piece.names }

-- a pointer to an offset
abbrev pub pointer_to : ℕ → List ℕ
pointer_to offset = to_be_bytes w16 (192 * 256 + offset)

-- a pointer to where the name was written, or the given piece
abbrev pub pointer_or : Option ℕ → Offsets → Piece → Piece
pointer_or (Some offset) names piece = record { bytes = pointer_to offset; names = names }
pointer_or None names piece = piece

-- a name at an offset, behind names that were written
unfoldable pub written_name : Offsets → ℕ → List (List ℕ) → Piece
written_name names at [] = record { bytes = 0 ∷ []; names = names }
written_name names at (label ∷ rest) =
    let tail = written_name (names ++ (label ∷ rest, at) ∷ []) (at + 1 + length label) rest in
    pointer_or (offset_of (label ∷ rest) names) names (onto (length label ∷ label) tail)
