-- A text is read as a name exactly where it spells that name.
use Rattle.std.proofs.Common.{◌≡◌, ℕ, ◌≤◌, ◌++◌, ◌⊎◌, inl, inr, List, [], ◌∷◌, ◌∙◌, Bool, true, false, Option, Some, None, Result, Ok, Err, length, filter, eqb, ltb, refl, ap, sym, arith, append-nil, length-append}
use Rattle.std.proofs.lemmas.List.{append_cancel_right}
use Rattle.std.proofs.lemmas.Grind.{flat_map-append}
use Rattle.std.proofs.lemmas.Slice.Eq.{bytes_eq-Decides}
use Rattle.std.proofs.lemmas.Bool.{false≢true, eqb-true, and_parts}
use Rattle.std.specs.Prelude.{IsTrue}
use Rattle.std.specs.List.{onto_first, list_all}
use Rattle.std.specs.Option.{option_or, option_map_or}
use Rattle.std.specs.Str.{bytes_eq}
use Rattle.dns_name.specs.Names.{is_name, is_label}
use Rattle.dns_name.specs.TextItems.{items_of, items_past}
use Rattle.dns_name.specs.declared.items.TextItem.{TextItem}
use Rattle.dns_name.specs.declared.items.TextItem.TheVariants.{Dot, Byte, Bad}
use Rattle.dns_name.specs.declared.error.NameError.{NameError}
use Rattle.dns_name.specs.ReadName.{labels_spelled, fault_of, first_fault, name_spelled, read_name, name_items, label_items, HasItemsOf, IsSpelling}
use Rattle.dns_name.proofs.Wire.{label_some, name_each}
use Rattle.dns_name.proofs.Spelled.{spelled_some, spelled-dot, filter_labels}
use Rattle.dns_name.proofs.Spelling.{items_of-none}
use Rattle.dns_name.proofs.ReadItems.{items_read, reads_root, reads_labels}
use Rattle.dns_name.proofs.ReadBack.{items_read-name, no_fault-name, spelled_name}

none_behind : {X : Type 0} (o p : Option X) → option_or o p ≡ None → p ≡ None
none_behind None p h = h
none_behind (Some x) p h = cc

none_before : {X : Type 0} (o p : Option X) → option_or o p ≡ None → o ≡ None
none_before None p h = refl
none_before (Some x) p h = cc

items-onto : (byte : ℕ) (labels : List (List ℕ)) → 1 ≤ length labels → Byte byte ∷ name_items labels ≡ name_items (onto_first byte labels)
items-onto byte [] h = absurd (omega arith)
items-onto byte (label ∷ labels) h = refl

-- items without a fault are those of their labels, but for the last dot
pub items_back : (before items : List TextItem) → first_fault before items ≡ None → items ++ Dot ∷ [] ≡ name_items (labels_spelled items)
unfolding first_fault
items_back before [] h = refl
items_back before (Dot ∷ items) h = ap (λ l. Dot ∷ l) (items_back (before ++ Dot ∷ []) items (none_behind (fault_of before Dot) (first_fault (before ++ Dot ∷ []) items) h))
items_back before (Byte byte ∷ items) h =
    ap (λ l. Byte byte ∷ l) (items_back (before ++ Byte byte ∷ []) items (none_behind (fault_of before (Byte byte)) (first_fault (before ++ Byte byte ∷ []) items) h))
    ∙ items-onto byte (labels_spelled items) (spelled_some items)
items_back before (Bad ∷ items) h = cc

-- the name that is read has the items
pub has_items : (items : List TextItem) (labels name : List (List ℕ)) → first_fault [] items ≡ None → labels_spelled items ≡ labels → (labels ≡ name ++ [] ∷ []) ⊎ (labels ≡ name) → HasItemsOf items name
has_items items labels name h e (inl f) =
    inl (append_cancel_right items (name_items name) (Dot ∷ [])
    (items_back [] items h ∙ ap name_items (e ∙ f) ∙ flat_map-append label_items name ([] ∷ [])))
has_items items labels name h e (inr f) = inr (items_back [] items h ∙ ap name_items (e ∙ f))

-- a front of items without a fault has none
no_fault-front : (before items more : List TextItem) → first_fault before (items ++ more) ≡ None → first_fault before items ≡ None
unfolding first_fault
no_fault-front before [] more h = refl
no_fault-front before (item ∷ items) more h =
    let here : fault_of before item ≡ None = none_before (fault_of before item) (first_fault (before ++ item ∷ []) (items ++ more)) h in
    let rest : first_fault (before ++ item ∷ []) items ≡ None = no_fault-front (before ++ item ∷ []) items more (none_behind (fault_of before item) (first_fault (before ++ item ∷ []) (items ++ more)) h) in
    ap (λ o. option_or o (first_fault (before ++ item ∷ []) items)) here ∙ rest

-- items that lack the last dot are read alike
items_read-front : (items : List TextItem) (name : List (List ℕ)) → IsTrue (is_name name) → items ++ Dot ∷ [] ≡ name_items name → items_read items ≡ Ok name
items_read-front items name h e =
    let fault : first_fault [] items ≡ None = no_fault-front [] items (Dot ∷ []) (ap (first_fault []) e ∙ no_fault-name [] [] name refl h) in
    let labels : labels_spelled items ≡ name = append_cancel_right (labels_spelled items) name ([] ∷ []) (sym (spelled-dot items) ∙ ap labels_spelled e ∙ spelled_name name) in
    let kept : filter (λ l. ltb 0 (length l)) name ≡ name = ap (filter (λ l. ltb 0 (length l))) (sym (append-nil name)) ∙ filter_labels name [] (name_each name h) ∙ append-nil name in
    ap (λ o. option_map_or Err o (Ok (name_spelled items))) fault ∙ ap Ok (ap (filter (λ l. ltb 0 (length l))) labels ∙ kept)

-- a name's first item is a byte
starts : (items : List TextItem) (label : List ℕ) (rest : List (List ℕ)) → is_label label ≡ true → HasItemsOf items (label ∷ rest) → ((more : List TextItem) → items ≡ Dot ∷ more → ⊥) × (items ≡ [] → ⊥)
starts items [] rest h has = absurd (omega (arith, label_some [] h))
starts items (byte ∷ label) rest h (inl e) = (λ more f. cc, λ f. cc)
starts items (byte ∷ label) rest h (inr e) = (
  λ more f. apart (more ++ Dot ∷ []) (label_items label ++ name_items rest) byte (ap (λ l. l ++ Dot ∷ []) (sym f) ∙ e),
  λ f. apart [] (label_items label ++ name_items rest) byte (ap (λ l. l ++ Dot ∷ []) (sym f) ∙ e),
)
  where
    apart : (xs ys : List TextItem) (b : ℕ) → Dot ∷ xs ≡ Byte b ∷ ys → ⊥
    apart xs ys b g = cc

items-dot : items_of (46 ∷ []) ≡ Dot ∷ []
unfolding items_past
items-dot = refl

other_than_root : (text label : List ℕ) (rest : List (List ℕ)) → is_label label ≡ true → HasItemsOf (items_of text) (label ∷ rest) → bytes_eq text (46 ∷ []) ≡ false
other_than_root text label rest h has = go (bytes_eq text (46 ∷ [])) refl
  where
    go : (b : Bool) → bytes_eq text (46 ∷ []) ≡ b → b ≡ false
    go true e = absurd ((starts (items_of text) label rest h has).0 [] (ap items_of ((bytes_eq-Decides text (46 ∷ [])).0 e) ∙ items-dot))
    go false e = refl

other_than_empty : (text label : List ℕ) (rest : List (List ℕ)) → is_label label ≡ true → HasItemsOf (items_of text) (label ∷ rest) → eqb (length text) 0 ≡ false
other_than_empty text label rest h has = go (eqb (length text) 0) refl
  where
    go : (b : Bool) → eqb (length text) 0 ≡ b → b ≡ false
    go true e = absurd ((starts (items_of text) label rest h has).1 (items_of-none text (eqb-true (length text) 0 e)))
    go false e = refl

items_read-has : (items : List TextItem) (name : List (List ℕ)) → IsTrue (is_name name) → HasItemsOf items name → items_read items ≡ Ok name
items_read-has items name h (inl e) = ap items_read e ∙ items_read-name name h
items_read-has items name h (inr e) = items_read-front items name h e

-- what spells a name is read as it
pub read_if : (text : List ℕ) (name : List (List ℕ)) → IsSpelling text name → read_name text ≡ Ok name
read_if text [] e = sym (reads_root text ((bytes_eq-Decides text (46 ∷ [])).1 e))
read_if text (label ∷ rest) (h, has) =
    let good : is_label label ≡ true = (and_parts (is_label label) (list_all is_label rest) (name_each (label ∷ rest) h)).0 in
    sym (reads_labels text (other_than_root text label rest good has) (other_than_empty text label rest good has))
    ∙ items_read-has (items_of text) (label ∷ rest) h has

some_items : (text : List ℕ) → eqb (length text) 0 ≡ false → items_of text ≡ [] → ⊥
unfolding items_past
some_items [] h e = false≢true (sym h)
some_items (byte ∷ text) h e = cc

-- and what is read of a text that isn't empty is spelled by it
pub spelled_if : (text : List ℕ) (name : List (List ℕ)) → eqb (length text) 0 ≡ false → IsTrue (is_name name) → HasItemsOf (items_of text) name → IsSpelling text name
spelled_if text [] some h (inl e) = absurd (some_items text some e)
spelled_if text [] some h (inr e) = absurd (omega (arith, ap length e, length-append (items_of text) (Dot ∷ [])))
spelled_if text (label ∷ rest) some h has = (h, has)

pub ok_same : (x y : List (List ℕ)) → ◌≡◌ {A = Result (List (List ℕ)) NameError} (Ok x) (Ok y) → x ≡ y
ok_same x y e = cc

pub err_other : (fault : NameError) (y : List (List ℕ)) → ◌≡◌ {A = Result (List (List ℕ)) NameError} (Err fault) (Ok y) → ⊥
err_other fault y e = cc
