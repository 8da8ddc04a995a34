-- Labels and names as text: a dot and a backslash are escaped, and so are the bytes that can't be seen. (RFC 1035 5.1)
use Rattle.std.specs.Prelude.{ℕ, ◌+◌, ◌/◌, ◌%◌, ◌==◌, nat_le, ◌||◌, List, [], ◌∷◌, ◌++◌, if◌then◌else◌}
use Rattle.std.specs.List.{flat_map}

-- a byte as three decimal digits
abbrev pub three_digits : ℕ → List ℕ
three_digits byte = (48 + byte / 100) ∷ (48 + byte / 10 % 10) ∷ (48 + byte % 10) ∷ []

-- a byte of a label: a dot as `\.`, a backslash as `\\`, from 0 to 32 and from 127 on `\DDD`, else itself
abbrev pub byte_text : ℕ → List ℕ
byte_text byte =
    if byte == 46 || byte == 92 then 92 ∷ byte ∷ []
    else if nat_le byte 32 || nat_le 127 byte then 92 ∷ three_digits byte
    else byte ∷ []

-- a label as text
abbrev pub label_text : List ℕ → List ℕ
label_text label = flat_map byte_text label

-- each label and a dot behind it; the root is a dot
abbrev pub name_text : List (List ℕ) → List ℕ
name_text [] = 46 ∷ []
name_text (label ∷ labels) = flat_map (λ l. label_text l ++ 46 ∷ []) (label ∷ labels)
