-- Domain names, as lists of labels from the left. (RFC 1035 2.3.4 and 3.1, RFC 4343, RFC 6762 16)
use Rattle.std.specs.Prelude.{◌≡◌, ℕ, zero, suc, ◌==◌, nat_le, Bool, ◌&&◌, List, [], ◌∷◌, ◌++◌, length, drop, map, IsTrue, if◌then◌else◌}
use Rattle.std.specs.List.{list_all, ends_with, onto_first}
use Rattle.std.specs.Ordering.{nat_cmp}
use Rattle.std.specs.Cmp.Lexicographic.{slice_cmp}
use Rattle.std.specs.Str.{str_to_ascii_lowercase, bytes_eq}
use Rattle.std.specs.declared.cmp.Ordering.{Ordering}

-- the wire form: each label behind its length, and a zero byte at the end
abbrev pub wire_of : List (List ℕ) → List ℕ
wire_of [] = 0 ∷ []
wire_of (label ∷ rest) = length label ∷ label ++ wire_of rest

-- what is left of the label under way, of which so many bytes are still to come, and the labels behind it
abbrev pub labels_from : ℕ → List ℕ → List (List ℕ)
labels_from left [] = [] ∷ []
labels_from zero (size ∷ bytes) = [] ∷ (if size == 0 then [] else labels_from size bytes)
labels_from (suc left) (byte ∷ bytes) = onto_first byte (labels_from left bytes)

-- the labels of a name in wire form
abbrev pub labels_of : List ℕ → List (List ℕ)
labels_of wire = drop 1 (labels_from 0 wire)

-- a label has 1 to 63 bytes
abbrev pub is_label : List ℕ → Bool
is_label label = nat_le 1 (length label) && nat_le (length label) 63

-- a name is a list of labels of at most 255 bytes in wire form
abbrev pub is_name : List (List ℕ) → Bool
is_name name = list_all is_label name && nat_le (length (wire_of name)) 255

-- the bytes are the wire form of a name
abbrev pub IsNameInWire : List ℕ → Type 0
IsNameInWire wire = IsTrue (is_name (labels_of wire)) × (wire_of (labels_of wire) ≡ wire)

-- a label with ASCII letters in lower case: no other bytes have two cases
abbrev pub folded_label : List ℕ → List ℕ
folded_label label = str_to_ascii_lowercase label

-- a name with its labels so
abbrev pub folded : List (List ℕ) → List (List ℕ)
folded name = map folded_label name

-- the order of names: that of the bytes of their wire forms in lower case, so shorter labels come first
unfoldable pub name_cmp : List (List ℕ) → List (List ℕ) → Ordering
name_cmp left right = slice_cmp nat_cmp (wire_of (folded left)) (wire_of (folded right))

-- whether two names are one, case aside
unfoldable pub folded_eq : List (List ℕ) → List (List ℕ) → Bool
folded_eq left right = bytes_eq (wire_of (folded left)) (wire_of (folded right))

-- whether two names agree byte for byte
unfoldable pub exact_eq : List (List ℕ) → List (List ℕ) → Bool
exact_eq left right = bytes_eq (wire_of left) (wire_of right)

-- whether a name ends with all labels of another, case aside; each name is under itself and under the root
unfoldable pub is_under : List (List ℕ) → List (List ℕ) → Bool
is_under name top = ends_with bytes_eq (folded name) (folded top)
