-- What is written is read again.
use Rattle.std.proofs.Common.{◌≡◌, ℕ, ◌+◌, ◌-◌, ◌*◌, ◌/◌, ◌%◌, ◌<◌, ◌≤◌, ◌++◌, ◌==◌, ◌||◌, ◌&&◌, List, [], ◌∷◌, ◌∙◌, Bool, true, false, Some, None, Ok, Err, length, eqb, leb, ltb, refl, ap, sym, arith, length-append, append_assoc, append-nil, filter, subst}
use Rattle.std.specs.Prelude.{if◌then◌else◌, IsTrue}
use Rattle.std.specs.List.{list_all, onto_first, All}
use Rattle.std.specs.Str.{bytes_eq}
use Rattle.std.specs.Char.{is_ascii_digit}
use Rattle.std.proofs.lemmas.Slice.Eq.{bytes_eq-Decides}
use Rattle.std.specs.Option.{option_map_or}
use Rattle.std.proofs.lemmas.List.Folds.{list_all-append}
use Rattle.std.proofs.lemmas.List.Sums.{list_all-from_AllPass}
use Rattle.std.proofs.lemmas.Bool.{le-leb, ne_eqb, ltb-true, lt-ltb, and_from, and_parts, or_parts}
use Rattle.dns_name.specs.Names.{wire_of, is_label, is_name}
use Rattle.dns_name.specs.NameText.{three_digits, byte_text, label_text, name_text}
use Rattle.dns_name.specs.TextItems.{items_of, decimal_byte}
use Rattle.dns_name.specs.declared.items.TextItem.{TextItem}
use Rattle.dns_name.specs.declared.items.TextItem.TheVariants.{Dot, Byte}
use Rattle.dns_name.specs.ReadName.{labels_spelled, too_long, fault_of, first_fault, name_spelled, read_name, label_items, name_items}
use Rattle.dns_name.proofs.Wire.{label_some, label_most, name_each, name_short, wire_least}
use Rattle.dns_name.proofs.Spelling.{items_of-next, items_of-none}
use Rattle.dns_name.proofs.Spelled.{spelled-dot, spelled_byte, dot_ends, too_long-none, finished_dot}
use Rattle.dns_name.proofs.ReadItems.{first_fault-none, first_fault-passes, items_read, reads_root, reads_labels}
use Rattle.dns_name.proofs.WrittenText.{labels_text}

digit-is : (d : ℕ) → d ≤ 9 → is_ascii_digit (48 + d) ≡ true
digit-is d h = and_from _ _ (le-leb 48 (48 + d) (omega arith)) (le-leb (48 + d) 57 (omega arith))

-- three digits spell their byte
pub decimal_byte-three : (byte : ℕ) → byte < 256 → decimal_byte (three_digits byte) ≡ Some byte
decimal_byte-three byte h =
    let hundreds : byte / 100 ≤ 9 = omega arith in
    let value : 100 * (48 + byte / 100 - 48) + 10 * (48 + byte / 10 % 10 - 48) + (48 + byte % 10 - 48) ≡ byte = omega arith in
    rw (value, digit-is (byte / 100) hundreds, digit-is (byte / 10 % 10) (omega arith), digit-is (byte % 10) (omega arith), le-leb byte 255 (omega arith)) refl

-- a byte's text is read as that byte
pub items_of-byte : (byte : ℕ) (rest : List ℕ) → byte < 256 → items_of (byte_text byte ++ rest) ≡ Byte byte ∷ items_of rest
items_of-byte byte rest h = go (byte == 46 || byte == 92) (leb byte 32 || leb 127 byte) refl refl
  where
    escape-self : (byte == 46 || byte == 92) ≡ true → items_of (92 ∷ byte ∷ rest) ≡ Byte byte ∷ items_of rest
    escape-self e = items_of-next 92 (byte ∷ rest) rest (Byte byte) (rw e refl) (rw e refl)

    plain : (byte == 46 || byte == 92) ≡ false → items_of (byte ∷ rest) ≡ Byte byte ∷ items_of rest
    plain e =
        let apart = or_parts (byte == 46) (byte == 92) e in
        items_of-next byte rest rest (Byte byte) (rw (apart.0, apart.1) refl) (rw (apart.0, apart.1) refl)

    digits : (byte == 46 || byte == 92) ≡ false → items_of (92 ∷ three_digits byte ++ rest) ≡ Byte byte ∷ items_of rest
    digits e =
        let dot : eqb (48 + byte / 100) 46 ≡ false = ne_eqb (48 + byte / 100) 46 (λ z. absurd (omega arith)) in
        let slash : eqb (48 + byte / 100) 92 ≡ false = ne_eqb (48 + byte / 100) 92 (λ z. absurd (omega arith)) in
        items_of-next 92 (three_digits byte ++ rest) rest (Byte byte) (rw (dot, slash, decimal_byte-three byte h) refl) (rw (dot, slash, decimal_byte-three byte h) refl)

    go : (c d : Bool) → c ≡ (byte == 46 || byte == 92) → d ≡ (leb byte 32 || leb 127 byte) → items_of ((if c then 92 ∷ byte ∷ [] else if d then 92 ∷ three_digits byte else byte ∷ []) ++ rest) ≡ Byte byte ∷ items_of rest
    go true d e f = escape-self (sym e)
    go false true e f = digits (sym e)
    go false false e f = plain (sym e)

-- each number is a byte
abbrev pub are_bytes : List ℕ → Bool
are_bytes bytes = list_all (λ b. ltb b 256) bytes

items_of-label : (label rest : List ℕ) → are_bytes label ≡ true → items_of (label_text label ++ 46 ∷ rest) ≡ label_items label ++ items_of rest
items_of-label [] rest h = items_of-next 46 rest rest Dot refl refl
items_of-label (byte ∷ label) rest h =
    let parts = and_parts (ltb byte 256) (are_bytes label) h in
    ap items_of (append_assoc (byte_text byte) (label_text label) (46 ∷ rest))
    ∙ items_of-byte byte (label_text label ++ 46 ∷ rest) (ltb-true byte 256 parts.0)
    ∙ ap (λ l. Byte byte ∷ l) (items_of-label label rest parts.1)

items_of-labels : (name : List (List ℕ)) → list_all are_bytes name ≡ true → items_of (labels_text name) ≡ name_items name
items_of-labels [] h = items_of-none [] refl
items_of-labels (label ∷ name) h =
    let parts = and_parts (are_bytes label) (list_all are_bytes name) h in
    ap items_of (append_assoc (label_text label) (46 ∷ []) (labels_text name))
    ∙ items_of-label label (labels_text name) parts.0
    ∙ ap (λ l. label_items label ++ l) (items_of-labels name parts.1)

-- these items spell the labels
spelled_label : (label : List ℕ) (items : List TextItem) → labels_spelled (label_items label ++ items) ≡ label ∷ labels_spelled items
spelled_label [] items = refl
spelled_label (byte ∷ label) items = ap (onto_first byte) (spelled_label label items)

pub spelled_name : (name : List (List ℕ)) → labels_spelled (name_items name) ≡ name ++ [] ∷ []
spelled_name [] = refl
spelled_name (label ∷ name) = spelled_label label (name_items name) ∙ ap (λ l. label ∷ l) (spelled_name name)

-- without a fault
no_fault-label : (before : List TextItem) (done : List (List ℕ)) (part label : List ℕ) (items : List TextItem) → labels_spelled before ≡ done ++ part ∷ [] → 1 ≤ length part + length label → length part + length label ≤ 63 → length (wire_of done) + length part + length label + 1 ≤ 255 → ((after : List TextItem) → labels_spelled after ≡ (done ++ (part ++ label) ∷ []) ++ [] ∷ [] → first_fault after items ≡ None) → first_fault before (label_items label ++ items) ≡ None
no_fault-label before done part [] items e some short room later =
    first_fault-passes before items Dot (dot_ends before done part e (omega arith))
    ∙ later (before ++ Dot ∷ []) (spelled-dot before ∙ ap (λ (l : List (List ℕ)). l ++ [] ∷ []) (e ∙ ap (λ (l : List ℕ). done ++ l ∷ []) (sym (append-nil part))))
no_fault-label before done part (byte ∷ label) items e some short room later =
    let more : length (part ++ byte ∷ []) ≡ length part + 1 = length-append part (byte ∷ []) in
    let spelled : labels_spelled (before ++ Byte byte ∷ []) ≡ done ++ (part ++ byte ∷ []) ∷ [] = spelled_byte before byte done part e in
    let fits : fault_of before (Byte byte) ≡ None = ap too_long spelled ∙ too_long-none done (part ++ byte ∷ []) (omega arith) (omega arith) in
    first_fault-passes before (label_items label ++ items) (Byte byte) fits
    ∙ no_fault-label (before ++ Byte byte ∷ []) done (part ++ byte ∷ []) label items spelled (omega arith) (omega arith) (omega arith)
    (λ after f. later after (f ∙ ap (λ (l : List ℕ). (done ++ l ∷ []) ++ [] ∷ []) (append_assoc part (byte ∷ []) label)))

pub no_fault-name : (before : List TextItem) (done name : List (List ℕ)) → labels_spelled before ≡ done ++ [] ∷ [] → IsTrue (is_name (done ++ name)) → first_fault before (name_items name) ≡ None
no_fault-name before done [] e h = first_fault-none before
no_fault-name before done (label ∷ name) e h =
    let each : (list_all is_label done && list_all is_label (label ∷ name)) ≡ true = sym (list_all-append is_label done (label ∷ name)) ∙ name_each (done ++ label ∷ name) h in
    let good : is_label label ≡ true = (and_parts (is_label label) (list_all is_label name) (and_parts (list_all is_label done) (list_all is_label (label ∷ name)) each).1).0 in
    let room : length (wire_of done) + length label + 1 ≤ 255 = omega (arith, wire_least done name label, name_short (done ++ label ∷ name) h) in
    no_fault-label before done [] label (name_items name) e (omega (arith, label_some label good)) (omega (arith, label_most label good)) (omega arith)
    (λ after f. no_fault-name after (done ++ label ∷ []) name f (subst (λ n. IsTrue (is_name n)) (sym (append_assoc done (label ∷ []) name)) h))

-- the text of a name isn't a dot alone, but for the root
text_some : (byte : ℕ) → 1 ≤ length (byte_text byte)
text_some byte = go (byte == 46 || byte == 92) (leb byte 32 || leb 127 byte)
  where
    go : (c d : Bool) → 1 ≤ length (if c then 92 ∷ byte ∷ [] else if d then 92 ∷ three_digits byte else byte ∷ [])
    go true d = omega arith
    go false true = omega arith
    go false false = omega arith

text_long : (label : List ℕ) (name : List (List ℕ)) → is_label label ≡ true → 2 ≤ length (name_text (label ∷ name))
text_long [] name h = absurd (omega (arith, label_some [] h))
text_long (byte ∷ label) name h =
    omega (arith, text_some byte, length-append (byte_text byte) (label_text label), length-append (label_text (byte ∷ label)) (46 ∷ []), length-append (label_text (byte ∷ label) ++ 46 ∷ []) (labels_text name))

not_a_dot : (text : List ℕ) → 2 ≤ length text → bytes_eq text (46 ∷ []) ≡ false
not_a_dot text h = go (bytes_eq text (46 ∷ [])) refl
  where
    go : (b : Bool) → bytes_eq text (46 ∷ []) ≡ b → b ≡ false
    go true e = absurd (omega (arith, ap length ((bytes_eq-Decides text (46 ∷ [])).0 e)))
    go false e = refl

-- the items of a whole name spell it
pub items_read-name : (name : List (List ℕ)) → IsTrue (is_name name) → items_read (name_items name) ≡ Ok name
items_read-name name h =
    let fault : first_fault [] (name_items name) ≡ None = no_fault-name [] [] name refl h in
    let spelled : name_spelled (name_items name) ≡ name = ap (filter (λ l. ltb 0 (length l))) (spelled_name name) ∙ sym (finished_dot name [] (name_each name h) refl) in
    ap (λ o. option_map_or Err o (Ok (name_spelled (name_items name)))) fault ∙ ap Ok spelled

-- what is written of a name of bytes is read as that name
pub read_name-name_text : (name : List (List ℕ)) → IsTrue (is_name name) → list_all are_bytes name ≡ true → read_name (name_text name) ≡ Ok name
read_name-name_text [] h k = sym (reads_root (46 ∷ []) refl)
read_name-name_text (label ∷ name) h k =
    let long : 2 ≤ length (name_text (label ∷ name)) = text_long label name (and_parts (is_label label) (list_all is_label name) (name_each (label ∷ name) h)).0 in
    sym (reads_labels (name_text (label ∷ name)) (not_a_dot (name_text (label ∷ name)) long) (ne_eqb (length (name_text (label ∷ name))) 0 (λ z. absurd (omega arith))))
    ∙ ap items_read (items_of-labels (label ∷ name) k) ∙ items_read-name (label ∷ name) h

-- the labels of a wire form of bytes are of bytes
labels_of_bytes : (name : List (List ℕ)) → are_bytes (wire_of name) ≡ true → list_all are_bytes name ≡ true
labels_of_bytes [] h = refl
labels_of_bytes (label ∷ rest) h =
    let whole = and_parts (ltb (length label) 256) (are_bytes (label ++ wire_of rest)) h in
    let parts = and_parts (are_bytes label) (are_bytes (wire_of rest)) (sym (list_all-append (λ b. ltb b 256) label (wire_of rest)) ∙ whole.1) in
    and_from (are_bytes label) (list_all are_bytes rest) parts.0 (labels_of_bytes rest parts.1)

-- so what is written of a name in wire form is read as that name
pub reads_back : (name : List (List ℕ)) (wire : List ℕ) → IsTrue (is_name name) → wire ≡ wire_of name → All (λ b. b < 256) wire → read_name (name_text name) ≡ Ok name
reads_back name wire h e small =
    read_name-name_text name h
    (labels_of_bytes name (ap are_bytes (sym e) ∙ list_all-from_AllPass (λ b. ltb b 256) wire (λ k d within. lt-ltb _ _ (small k d within))))

-- a label and the labels behind it
pub bytes_next : (label : List ℕ) (left labels : List (List ℕ)) (P : Type 0) → left ≡ label ∷ labels → All (λ b. b < 256) label → (list_all are_bytes left ≡ true → P) → list_all are_bytes labels ≡ true → P
bytes_next label left labels P is small then_whole h =
    let first : are_bytes label ≡ true = list_all-from_AllPass (λ b. ltb b 256) label (λ k d within. lt-ltb _ _ (small k d within)) in
    then_whole (ap (list_all are_bytes) is ∙ and_from (are_bytes label) (list_all are_bytes labels) first h)
