-- Names read from text: the labels between the dots, and the first fault from the left. (RFC 1035 3.1, 5.1)
use Rattle.std.specs.Prelude.{◌≡◌, ◌⊎◌, ℕ, ◌==◌, nat_lt, map, IsTrue, List, [], ◌∷◌, ◌++◌, length, filter, Option, Some, None, Result, Ok, Err, if◌then◌else◌}
use Rattle.std.specs.List.{onto_first, flat_map}
use Rattle.std.specs.Option.{option_or, option_map_or}
use Rattle.std.specs.Str.{bytes_eq}
use Rattle.dns_name.specs.Names.{wire_of, is_name}
use Rattle.dns_name.specs.TextItems.{items_of}
use Rattle.dns_name.specs.declared.items.TextItem.{TextItem}
use Rattle.dns_name.specs.declared.items.TextItem.TheVariants.{Dot, Byte, Bad}
use Rattle.dns_name.specs.declared.error.NameError.{NameError}
use Rattle.dns_name.specs.declared.error.NameError.TheVariants.{EmptyLabel, LongLabel, LongName, BadEscape}

-- the labels between the dots, the last one being under way
abbrev pub labels_spelled : List TextItem → List (List ℕ)
labels_spelled [] = [] ∷ []
labels_spelled (Dot ∷ items) = [] ∷ labels_spelled items
labels_spelled (Byte byte ∷ items) = onto_first byte (labels_spelled items)
labels_spelled (Bad ∷ items) = labels_spelled items

-- the label under way
abbrev pub last_label : List (List ℕ) → List ℕ
last_label [] = []
last_label (label ∷ []) = label
last_label (label ∷ next ∷ labels) = last_label (next ∷ labels)

-- a label's 64th byte is too much, and so is a wire form's 256th
abbrev pub too_long : List (List ℕ) → Option NameError
too_long labels =
    if nat_lt 63 (length (last_label labels)) then Some LongLabel
    else if nat_lt 255 (length (wire_of labels)) then Some LongName
    else None

-- what is wrong with an item that stands behind others
abbrev pub fault_of : List TextItem → TextItem → Option NameError
fault_of before Dot = if length (last_label (labels_spelled before)) == 0 then Some EmptyLabel else None
fault_of before (Byte byte) = too_long (labels_spelled (before ++ Byte byte ∷ []))
fault_of before Bad = Some BadEscape

-- an item behind any that spell these labels has no fault, and leads to those
abbrev pub Takes : List (List ℕ) → TextItem → List (List ℕ) → Type 0
Takes labels item more =
    (before : List TextItem) → labels_spelled before ≡ labels
    → (fault_of before item ≡ None) × (labels_spelled (before ++ item ∷ []) ≡ more)

-- an item behind any that spell these labels has this fault
abbrev pub Refuses : List (List ℕ) → TextItem → NameError → Type 0
Refuses labels item fault = (before : List TextItem) → labels_spelled before ≡ labels → fault_of before item ≡ Some fault

-- the first fault of items that stand behind others
unfoldable pub first_fault : List TextItem → List TextItem → Option NameError
first_fault before [] = None
first_fault before (item ∷ items) = option_or (fault_of before item) (first_fault (before ++ item ∷ []) items)

-- the labels that have bytes: behind a final dot none is under way
abbrev pub name_spelled : List TextItem → List (List ℕ)
name_spelled items = filter (λ label. nat_lt 0 (length label)) (labels_spelled items)

-- the name that a text spells, or its first fault; a dot alone is the root, and no text at all is an empty label
unfoldable pub read_name : List ℕ → Result (List (List ℕ)) NameError
read_name text =
    if bytes_eq text (46 ∷ []) then Ok []
    else if length text == 0 then Err EmptyLabel
    else option_map_or Err (first_fault [] (items_of text)) (Ok (name_spelled (items_of text)))

-- the items of a name: the bytes of each label, and a dot behind it
abbrev pub label_items : List ℕ → List TextItem
label_items label = map (λ byte. Byte byte) label ++ Dot ∷ []

-- the items of a name
abbrev pub name_items : List (List ℕ) → List TextItem
name_items name = flat_map label_items name

-- the items are the name's, of which the last dot may be missing
abbrev pub HasItemsOf : List TextItem → List (List ℕ) → Type 0
HasItemsOf items name = (items ≡ name_items name) ⊎ (items ++ Dot ∷ [] ≡ name_items name)

-- a text spells a name: it has the name's items, and the root is a dot alone
abbrev pub IsSpelling : List ℕ → List (List ℕ) → Type 0
IsSpelling text [] = text ≡ 46 ∷ []
IsSpelling text (label ∷ rest) = IsTrue (is_name (label ∷ rest)) × HasItemsOf (items_of text) (label ∷ rest)
