-- How a name is put together and sought, as the code of the writer speaks of it. (RFC 1035 4.1.4)
use Rattle.std.specs.Prelude.{◌≡◌, ℕ, ◌+◌, ◌*◌, ◌%◌, List, [], ◌∷◌, ◌++◌, length, take, get_or, Option, Some, None}
use Rattle.dns_name.specs.Names.{wire_of, labels_of, IsNameInWire}
use Rattle.dns_pointers.specs.Writing.{Offsets, offset_of, pointer_to}

-- a pointer to where the rest of a name was written, if it was
abbrev pub pointer_bytes : Option ℕ → List ℕ
pointer_bytes None = []
pointer_bytes (Some offset) = pointer_to offset

-- A name in wire form is a label and the rest.
pub record IsCut (wire rest : List ℕ) : Type 0 where
  pub label : List ℕ
  pub labels : labels_of wire ≡ label ∷ labels_of rest
  pub bytes : wire ≡ length label ∷ label ++ rest
  pub in_wire : IsNameInWire rest

-- a number below 1024, mixed of a start and of bytes
unfoldable pub mixed : ℕ → List ℕ → ℕ
mixed slot [] = slot
mixed slot (byte ∷ bytes) = mixed ((slot * 33 + byte) % 1024) bytes

-- the slot of a name in wire form: by its length and its first label
abbrev pub slot_of : List ℕ → ℕ
slot_of wire = mixed (length wire % 1024) (take (1 + get_or wire 0 0) wire)

-- For each slot it is known before which place no name of it stands.
pub record AreFirsts (names : Offsets) (firsts : List ℕ) : Type 0 where
  pub none : (name : List (List ℕ)) → offset_of name (take (get_or firsts (slot_of (wire_of name)) 0) names) ≡ None
