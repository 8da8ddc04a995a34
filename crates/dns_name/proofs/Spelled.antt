-- The labels that items spell, item by item from the left.
use Rattle.std.proofs.Common.{◌≡◌, ℕ, ◌+◌, ◌<◌, ◌≤◌, ◌++◌, List, [], ◌∷◌, ◌∙◌, true, false, Some, None, length, filter, eqb, ltb, refl, ap, sym, arith, append-nil}
use Rattle.std.proofs.lemmas.Bool.{lt-ltb, le-ltb, eq-eqb, ne_eqb, eqb-true, false≢true, and_parts}
use Rattle.std.specs.List.{list_all, onto_first}
use Rattle.dns_name.specs.Names.{wire_of, is_label}
use Rattle.dns_name.specs.declared.items.TextItem.{TextItem}
use Rattle.dns_name.specs.declared.items.TextItem.TheVariants.{Dot, Byte, Bad}
use Rattle.dns_name.specs.declared.error.NameError.TheVariants.{EmptyLabel, LongLabel, LongName}
use Rattle.dns_name.specs.ReadName.{labels_spelled, last_label, too_long, fault_of}
use Rattle.dns_name.proofs.Wire.{label_some, length-wire_of-push}

-- a byte put at the end of the last label
abbrev onto_last : ℕ → List (List ℕ) → List (List ℕ)
onto_last byte [] = (byte ∷ []) ∷ []
onto_last byte (label ∷ []) = (label ++ byte ∷ []) ∷ []
onto_last byte (label ∷ next ∷ labels) = label ∷ onto_last byte (next ∷ labels)

onto_last-push : (byte : ℕ) (name : List (List ℕ)) (label : List ℕ) → onto_last byte (name ++ label ∷ []) ≡ name ++ (label ++ byte ∷ []) ∷ []
onto_last-push byte [] label = refl
onto_last-push byte (first ∷ []) label = refl
onto_last-push byte (first ∷ next ∷ rest) label = ap (λ l. first ∷ l) (onto_last-push byte (next ∷ rest) label)

pub spelled_some : (items : List TextItem) → 1 ≤ length (labels_spelled items)
spelled_some [] = omega arith
spelled_some (Dot ∷ items) = omega arith
spelled_some (Byte byte ∷ items) = first_some (labels_spelled items)
  where
    first_some : (labels : List (List ℕ)) → 1 ≤ length (onto_first byte labels)
    first_some [] = omega arith
    first_some (label ∷ labels) = omega arith
spelled_some (Bad ∷ items) = spelled_some items

onto_last-cons : (byte : ℕ) (label : List ℕ) (labels : List (List ℕ)) → 1 ≤ length labels → label ∷ onto_last byte labels ≡ onto_last byte (label ∷ labels)
onto_last-cons byte label [] h = absurd (omega arith)
onto_last-cons byte label (next ∷ labels) h = refl

onto_both : (byte first : ℕ) (labels : List (List ℕ)) → 1 ≤ length labels → onto_first first (onto_last byte labels) ≡ onto_last byte (onto_first first labels)
onto_both byte first [] h = absurd (omega arith)
onto_both byte first (label ∷ []) h = refl
onto_both byte first (label ∷ next ∷ labels) h = refl

spelled-byte : (before : List TextItem) (byte : ℕ) → labels_spelled (before ++ Byte byte ∷ []) ≡ onto_last byte (labels_spelled before)
spelled-byte [] byte = refl
spelled-byte (Dot ∷ before) byte = ap (λ l. [] ∷ l) (spelled-byte before byte) ∙ onto_last-cons byte [] (labels_spelled before) (spelled_some before)
spelled-byte (Byte first ∷ before) byte = ap (onto_first first) (spelled-byte before byte) ∙ onto_both byte first (labels_spelled before) (spelled_some before)
spelled-byte (Bad ∷ before) byte = spelled-byte before byte

onto_first-append : (first : ℕ) (labels more : List (List ℕ)) → 1 ≤ length labels → onto_first first (labels ++ more) ≡ onto_first first labels ++ more
onto_first-append first [] more h = absurd (omega arith)
onto_first-append first (label ∷ labels) more h = refl

pub spelled-dot : (before : List TextItem) → labels_spelled (before ++ Dot ∷ []) ≡ labels_spelled before ++ [] ∷ []
spelled-dot [] = refl
spelled-dot (Dot ∷ before) = ap (λ l. [] ∷ l) (spelled-dot before)
spelled-dot (Byte first ∷ before) = ap (onto_first first) (spelled-dot before) ∙ onto_first-append first (labels_spelled before) ([] ∷ []) (spelled_some before)
spelled-dot (Bad ∷ before) = spelled-dot before

-- one more byte of the label under way
pub spelled_byte : (before : List TextItem) (byte : ℕ) (name : List (List ℕ)) (label : List ℕ) → labels_spelled before ≡ name ++ label ∷ [] → labels_spelled (before ++ Byte byte ∷ []) ≡ name ++ (label ++ byte ∷ []) ∷ []
spelled_byte before byte name label e = spelled-byte before byte ∙ ap (onto_last byte) e ∙ onto_last-push byte name label

pub last_label-push : (name : List (List ℕ)) (label : List ℕ) → last_label (name ++ label ∷ []) ≡ label
last_label-push [] label = refl
last_label-push (first ∷ []) label = refl
last_label-push (first ∷ next ∷ rest) label = last_label-push (next ∷ rest) label

-- the tests of a byte
pub too_long-label : (name : List (List ℕ)) (label : List ℕ) → 63 < length label → too_long (name ++ label ∷ []) ≡ Some LongLabel
too_long-label name label h = rw (last_label-push name label, lt-ltb 63 (length label) h) refl

pub too_long-name : (name : List (List ℕ)) (label : List ℕ) → length label ≤ 63 → 255 < length (wire_of name) + length label + 1 → too_long (name ++ label ∷ []) ≡ Some LongName
too_long-name name label h k =
    let long : 255 < length (wire_of (name ++ label ∷ [])) = omega (arith, length-wire_of-push name label) in
    rw (last_label-push name label, le-ltb 63 (length label) h, lt-ltb 255 (length (wire_of (name ++ label ∷ []))) long) refl

pub too_long-none : (name : List (List ℕ)) (label : List ℕ) → length label ≤ 63 → length (wire_of name) + length label + 1 ≤ 255 → too_long (name ++ label ∷ []) ≡ None
too_long-none name label h k =
    let short : length (wire_of (name ++ label ∷ [])) ≤ 255 = omega (arith, length-wire_of-push name label) in
    rw (last_label-push name label, le-ltb 63 (length label) h, le-ltb 255 (length (wire_of (name ++ label ∷ []))) short) refl

-- the tests of a dot
pub dot_empty : (before : List TextItem) (name : List (List ℕ)) (label : List ℕ) → labels_spelled before ≡ name ++ label ∷ [] → length label ≡ 0 → fault_of before Dot ≡ Some EmptyLabel
dot_empty before name label e h = rw (e, last_label-push name label, eq-eqb (length label) 0 h) refl

pub dot_ends : (before : List TextItem) (name : List (List ℕ)) (label : List ℕ) → labels_spelled before ≡ name ++ label ∷ [] → 0 < length label → fault_of before Dot ≡ None
dot_ends before name label e h = rw (e, last_label-push name label, ne_eqb (length label) 0 (λ z. absurd (omega arith))) refl

-- labels have bytes
pub filter_labels : (name more : List (List ℕ)) → list_all is_label name ≡ true → filter (λ l. ltb 0 (length l)) (name ++ more) ≡ name ++ filter (λ l. ltb 0 (length l)) more
filter_labels [] more h = refl
filter_labels (label ∷ name) more h =
    let parts = and_parts (is_label label) (list_all is_label name) h in
    rw (lt-ltb 0 (length label) (label_some label parts.0), filter_labels name more parts.1) refl

-- the name behind whose end no label is under way
pub finished : (name : List (List ℕ)) (label : List ℕ) → list_all is_label name ≡ true → 0 < length label → name ++ label ∷ [] ≡ filter (λ l. ltb 0 (length l)) (name ++ label ∷ [])
finished name label h some = sym (filter_labels name (label ∷ []) h ∙ rw (lt-ltb 0 (length label) some) refl)

pub finished_dot : (name : List (List ℕ)) (label : List ℕ) → list_all is_label name ≡ true → length label ≡ 0 → name ≡ filter (λ l. ltb 0 (length l)) (name ++ label ∷ [])
finished_dot name label h none = sym (filter_labels name (label ∷ []) h ∙ rw (le-ltb 0 (length label) (omega arith)) (append-nil name))

pub some_bytes : (label : List ℕ) → false ≡ eqb (length label) 0 → 0 < length label
some_bytes [] h = absurd (false≢true h)
some_bytes (byte ∷ label) h = omega arith

pub no_bytes : (label : List ℕ) → true ≡ eqb (length label) 0 → length label ≡ 0
no_bytes label h = eqb-true (length label) 0 (sym h)

pub no_list : (label : List ℕ) → length label ≡ 0 → label ≡ []
no_list [] h = refl
no_list (byte ∷ label) h = absurd (omega arith)
