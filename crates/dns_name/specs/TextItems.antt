-- The items of a text of labels: a dot, an escape, or any other byte as itself. (RFC 1035 5.1)
use Rattle.std.specs.Prelude.{ℕ, zero, suc, ◌+◌, ◌-◌, ◌*◌, ◌==◌, nat_le, ◌&&◌, ◌||◌, List, [], ◌∷◌, length, take, Option, Some, None, option_and_then, if◌then◌else◌}
use Rattle.std.specs.List.{list_all}
use Rattle.std.specs.Option.{option_map, option_map_or}
use Rattle.std.specs.Char.{is_ascii_digit}
use Rattle.dns_name.specs.declared.items.TextItem.{TextItem}
use Rattle.dns_name.specs.declared.items.TextItem.TheVariants.{Dot, Byte, Bad}

-- the byte that three decimal digits spell: at most 255
abbrev pub decimal_byte : List ℕ → Option ℕ
decimal_byte (a ∷ b ∷ c ∷ []) =
    let value = 100 * (a - 48) + 10 * (b - 48) + (c - 48) in
    if list_all is_ascii_digit (a ∷ b ∷ c ∷ []) && nat_le value 255 then Some value else None
decimal_byte _ = None

-- the item of a backslash, by the bytes behind it, and how many of these belong to it
abbrev pub escaped : List ℕ → TextItem × ℕ
escaped [] = (Bad, 0)
escaped (byte ∷ text) =
    if byte == 46 || byte == 92 then (Byte byte, 1)
    else option_map_or (λ value. (Byte value, 3)) (decimal_byte (take 3 (byte ∷ text))) (Bad, 0)

-- the item that a byte begins, and how many of the bytes behind it belong to it
abbrev pub item_at : ℕ → List ℕ → TextItem × ℕ
item_at byte text = if byte == 46 then (Dot, 0) else if byte == 92 then escaped text else (Byte byte, 0)

-- the items of a text, of whose bytes so many belong to an item before
unfoldable pub items_past : ℕ → List ℕ → List TextItem
items_past passed [] = []
items_past (suc passed) (byte ∷ text) = items_past passed text
items_past zero (byte ∷ text) = let item = item_at byte text in item.0 ∷ items_past item.1 text

-- the items of a text
abbrev pub items_of : List ℕ → List TextItem
items_of text = items_past 0 text

-- the bytes of items that are all bytes
abbrev pub bytes_spelled : List TextItem → Option (List ℕ)
bytes_spelled [] = Some []
bytes_spelled (Byte byte ∷ items) = option_map (λ bytes. byte ∷ bytes) (bytes_spelled items)
bytes_spelled (Dot ∷ items) = None
bytes_spelled (Bad ∷ items) = None

-- the bytes that a text of one label or string spells, where they are at most so many
abbrev pub label_read : ℕ → List ℕ → Option (List ℕ)
label_read most text =
    option_and_then (λ bytes. if nat_le (length bytes) most then Some bytes else None) (bytes_spelled (items_of text))
