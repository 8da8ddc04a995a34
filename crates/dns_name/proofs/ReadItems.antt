-- What a text spells, item by item.
use Rattle.std.proofs.Common.{◌≡◌, ℕ, ◌++◌, List, [], ◌∷◌, ◌∙◌, Some, None, Result, Ok, Err, true, false, length, refl, ap, sym, append_assoc, append-nil, eqb}
use Rattle.std.specs.Option.{option_or, option_map_or}
use Rattle.std.specs.Str.{bytes_eq}
use Rattle.dns_name.specs.TextItems.{items_of}
use Rattle.dns_name.specs.declared.items.TextItem.{TextItem}
use Rattle.dns_name.specs.declared.error.NameError.{NameError}
use Rattle.dns_name.specs.declared.error.NameError.TheVariants.{EmptyLabel}
use Rattle.dns_name.specs.ReadName.{labels_spelled, fault_of, first_fault, name_spelled, read_name}

pub first_fault-none : (before : List TextItem) → first_fault before [] ≡ None
unfolding first_fault
first_fault-none before = refl

-- an item without a fault is passed over
pub first_fault-passes : (before after : List TextItem) (item : TextItem) → fault_of before item ≡ None → first_fault before (item ∷ after) ≡ first_fault (before ++ item ∷ []) after
unfolding first_fault
first_fault-passes before after item h = ap (λ o. option_or o (first_fault (before ++ item ∷ []) after)) h

first_fault-here : (before after : List TextItem) (item : TextItem) (fault : NameError) → fault_of before item ≡ Some fault → first_fault before (item ∷ after) ≡ Some fault
unfolding first_fault
first_fault-here before after item fault h = ap (λ o. option_or o (first_fault (before ++ item ∷ []) after)) h

-- how far a text was read: these items, which spelled these labels, and the first fault is still to come
abbrev pub IsReadSoFar : List TextItem → List TextItem → List (List ℕ) → Type 0
IsReadSoFar all left labels = (before : List TextItem) × (before ++ left ≡ all) × (labels_spelled before ≡ labels) × (first_fault before left ≡ first_fault [] all)

pub read_next : (all left after : List TextItem) (item : TextItem) (labels more : List (List ℕ)) → IsReadSoFar all left labels → left ≡ item ∷ after → ((before : List TextItem) → labels_spelled before ≡ labels → (fault_of before item ≡ None) × (labels_spelled (before ++ item ∷ []) ≡ more)) → IsReadSoFar all after more
read_next all left after item labels more (before, whole, spelled, fault) is step =
    let passed = step before spelled in (
      before ++ item ∷ [],
      append_assoc before (item ∷ []) after ∙ ap (λ l. before ++ l) (sym is) ∙ whole,
      passed.1,
      sym (first_fault-passes before after item passed.0) ∙ ap (first_fault before) (sym is) ∙ fault,
    )

-- what the items of a text spell
abbrev pub items_read : List TextItem → Result (List (List ℕ)) NameError
items_read items = option_map_or Err (first_fault [] items) (Ok (name_spelled items))

pub read_fault : (all left after : List TextItem) (item : TextItem) (labels : List (List ℕ)) (fault : NameError) → IsReadSoFar all left labels → left ≡ item ∷ after → ((before : List TextItem) → labels_spelled before ≡ labels → fault_of before item ≡ Some fault) → Err fault ≡ items_read all
read_fault all left after item labels fault (before, whole, spelled, same) is here =
    let found : first_fault [] all ≡ Some fault = sym same ∙ ap (first_fault before) is ∙ first_fault-here before after item fault (here before spelled) in
    sym (ap (λ o. option_map_or Err o (Ok (name_spelled all))) found)

-- all of it is read, without a fault
pub read_whole : (all left : List TextItem) (labels : List (List ℕ)) → IsReadSoFar all left labels → left ≡ [] → (first_fault [] all ≡ None) × (labels_spelled all ≡ labels)
read_whole all left labels (before, whole, spelled, same) none =
    let read : before ≡ all = sym (append-nil before) ∙ ap (λ l. before ++ l) (sym none) ∙ whole in
    (sym same ∙ ap (first_fault before) none ∙ first_fault-none before, ap labels_spelled (sym read) ∙ spelled)

pub read_all : (all left : List TextItem) (labels name : List (List ℕ)) → IsReadSoFar all left labels → left ≡ [] → ((items : List TextItem) → labels_spelled items ≡ labels → name ≡ name_spelled items) → Ok name ≡ items_read all
read_all all left labels name so_far none is =
    let whole = read_whole all left labels so_far none in
    ap Ok (is all whole.1) ∙ sym (ap (λ o. option_map_or Err o (Ok (name_spelled all))) whole.0)

-- the three kinds of texts
pub reads_root : (text : List ℕ) → bytes_eq text (46 ∷ []) ≡ true → Ok [] ≡ read_name text
unfolding read_name
reads_root text h = rw h refl

pub reads_nothing : (text : List ℕ) → bytes_eq text (46 ∷ []) ≡ false → eqb (length text) 0 ≡ true → Err EmptyLabel ≡ read_name text
unfolding read_name
reads_nothing text h k = rw (h, k) refl

pub reads_labels : (text : List ℕ) → bytes_eq text (46 ∷ []) ≡ false → eqb (length text) 0 ≡ false → items_read (items_of text) ≡ read_name text
unfolding read_name
reads_labels text h k = rw (h, k) refl
