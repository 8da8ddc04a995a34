-- The text of a name, as it is written.
use Rattle.std.proofs.Common.{◌≡◌, ℕ, ◌+◌, ◌*◌, ◌≤◌, ◌++◌, ◌==◌, ◌||◌, List, [], ◌∷◌, ◌∙◌, Bool, true, false, length, refl, arith, ap, sym, length-append, append_assoc, leb}
use Rattle.std.specs.Prelude.{if◌then◌else◌}
use Rattle.std.specs.List.{flat_map}
use Rattle.dns_name.specs.Names.{wire_of}
use Rattle.dns_name.proofs.Wire.{wire_some}
use Rattle.dns_name.specs.NameText.{three_digits, byte_text, label_text, name_text}

-- each label and a dot behind it
abbrev pub labels_text : List (List ℕ) → List ℕ
labels_text labels = flat_map (λ l. label_text l ++ 46 ∷ []) labels

-- a byte is written as at most four
pub byte_text-short : (byte : ℕ) → length (byte_text byte) ≤ 4
byte_text-short byte = go (byte == 46 || byte == 92) (leb byte 32 || leb 127 byte)
  where
    go : (c d : Bool) → length (if c then 92 ∷ byte ∷ [] else if d then 92 ∷ three_digits byte else byte ∷ []) ≤ 4
    go true d = omega arith
    go false true = omega arith
    go false false = omega arith

pub label_text-short : (label : List ℕ) → length (label_text label) ≤ 4 * length label
label_text-short [] = omega arith
label_text-short (byte ∷ label) =
    omega (arith, byte_text-short byte, label_text-short label, length-append (byte_text byte) (label_text label))

-- there is room for a label and a dot
pub room_next : (out label : List ℕ) (left labels : List (List ℕ)) → left ≡ label ∷ labels → length out + 4 * length (wire_of left) ≤ 1024 → length out + 4 * length label + 1 ≤ 1020
room_next out label left labels is room =
    omega (arith, ap (λ l. length (wire_of l)) is, length-append label (wire_of labels), wire_some labels)

-- one turn of writing
pub told_next : (out after label all : List ℕ) (left labels : List (List ℕ)) → left ≡ label ∷ labels → out ++ labels_text left ≡ all → after ≡ out ++ (label_text label ++ 46 ∷ []) → after ++ labels_text labels ≡ all
told_next out after label all left labels is told e =
    rw e (append_assoc out (label_text label ++ 46 ∷ []) (labels_text labels)) ∙ ap (λ l. out ++ labels_text l) (sym is) ∙ told

pub room_after : (out after label : List ℕ) (left labels : List (List ℕ)) → left ≡ label ∷ labels → length out + 4 * length (wire_of left) ≤ 1024 → after ≡ out ++ (label_text label ++ 46 ∷ []) → length after + 4 * length (wire_of labels) ≤ 1024
room_after out after label left labels is room e =
    omega (arith, ap length e, length-append out (label_text label ++ 46 ∷ []), length-append (label_text label) (46 ∷ []), label_text-short label, ap (λ l. length (wire_of l)) is, length-append label (wire_of labels))

-- the root is the name of one byte in wire form
pub root_of : (name : List (List ℕ)) → length (wire_of name) ≡ 1 → name ≡ []
root_of [] e = refl
root_of (label ∷ name) e = absurd (omega (arith, e, wire_some name, length-append label (wire_of name), is_some label name e))
  where
    is_some : (label : List ℕ) (name : List (List ℕ)) → length (wire_of (label ∷ name)) ≡ 1 → length label ≡ 0
    is_some label name e = omega (arith, e, length-append label (wire_of name))

-- any other name's text is that of its labels
pub text_of_labels : (name : List (List ℕ)) → (length (wire_of name) ≡ 1 → ⊥) → labels_text name ≡ name_text name
text_of_labels [] some = absurd (some refl)
text_of_labels (label ∷ name) some = refl
