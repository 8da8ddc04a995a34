-- What is read as a name is one: its labels have 1 to 63 bytes, and its wire form at most 255.
use Rattle.std.proofs.Common.{◌≡◌, ℕ, ◌+◌, ◌<◌, ◌≤◌, ◌++◌, Bool, true, false, cond, eqb, ltb, List, [], ◌∷◌, Option, Some, None, Ok, Err, length, refl, ap, sym, ◌∙◌, inl, inr, arith, append-nil, append_assoc, subst}
use Rattle.std.specs.Prelude.{filter, IsTrue}
use Rattle.std.specs.List.{list_all}
use Rattle.std.specs.Option.{option_or, option_map_or}
use Rattle.std.specs.Str.{bytes_eq}
use Rattle.std.proofs.lemmas.Bool.{cases_lt, eqb-true, eqb-false, and_from}
use Rattle.std.proofs.lemmas.List.Folds.{list_all-append}
use Rattle.dns_name.specs.Names.{wire_of, is_label, is_name}
use Rattle.dns_name.specs.TextItems.{items_of}
use Rattle.dns_name.specs.declared.items.TextItem.{TextItem}
use Rattle.dns_name.specs.declared.items.TextItem.TheVariants.{Dot, Byte, Bad}
use Rattle.dns_name.specs.declared.error.NameError.{NameError}
use Rattle.dns_name.specs.declared.error.NameError.TheVariants.{EmptyLabel, LongLabel, LongName}
use Rattle.dns_name.specs.ReadName.{labels_spelled, last_label, too_long, fault_of, first_fault, name_spelled, read_name}
use Rattle.dns_name.proofs.Wire.{label_is, name_is, length-wire_of-push}
use Rattle.dns_name.proofs.Spelled.{spelled-dot, spelled_byte, last_label-push, too_long-label, too_long-name, finished, finished_dot}
use Rattle.dns_name.proofs.Spellings.{ok_same, err_other}
use Rattle.dns_name.proofs.ReadItems.{reads_root, reads_nothing, reads_labels}
use Rattle.dns_message.specs.Writing.{are_bytes, is_spellable_name}
use Rattle.mdns_script.proofs.ReadBytes.{items_good, labels_bytes, kept_bytes}

-- items spelled whole labels and one under way, all of them short enough
record IsUnderWay (before : List TextItem) (done : List (List ℕ)) (part : List ℕ) : Type 0 where
  spelled : labels_spelled before ≡ done ++ part ∷ []
  labels : list_all is_label done ≡ true
  short : length part ≤ 63
  whole : length (wire_of done) ≤ 255
  room : 0 < length part → length (wire_of done) + length part + 1 ≤ 255

none_here : (o p : Option NameError) → option_or o p ≡ None → (o ≡ None) × (p ≡ None)
none_here None p h = (refl, h)
none_here (Some x) p h = absurd (cc)

-- a dot ends a label that has bytes
ended : (before : List TextItem) (done : List (List ℕ)) (part : List ℕ) → IsUnderWay before done part → fault_of before Dot ≡ None → IsUnderWay (before ++ Dot ∷ []) (done ++ part ∷ []) []
ended before done part h e =
    record {
      spelled = spelled-dot before ∙ ap (λ (l : List (List ℕ)). l ++ [] ∷ []) h.spelled;
      labels = list_all-append is_label done (part ∷ []) ∙ and_from _ _ h.labels (and_from _ _ (label_is part some h.short) refl);
      short = omega arith;
      whole = omega (arith, length-wire_of-push done part, h.room some);
      room = λ (k : 0 < 0). absurd (omega arith);
    }
  where
    last : last_label (labels_spelled before) ≡ part
    last = ap last_label h.spelled ∙ last_label-push done part

    some : 1 ≤ length part
    some = go (eqb (length part) 0) refl
      where
        go : (b : Bool) → eqb (length part) 0 ≡ b → 1 ≤ length part
        go true f =
            let fault : ◌≡◌ {A = Option NameError} (Some EmptyLabel) None = sym (ap (λ (b : Bool). cond b (Some EmptyLabel) None) (ap (λ (l : List ℕ). eqb (length l) 0) last ∙ f)) ∙ e in absurd (cc)
        go false f = omega (arith, eqb-false (length part) 0 f)

-- a byte goes on a label
gone_on : (before : List TextItem) (done : List (List ℕ)) (part : List ℕ) (b : ℕ) → IsUnderWay before done part → fault_of before (Byte b) ≡ None → IsUnderWay (before ++ Byte b ∷ []) done (part ++ b ∷ [])
gone_on before done part b h e =
    record { spelled = spelled; labels = h.labels; short = short; whole = h.whole; room = λ (k : 0 < length (part ++ b ∷ [])). room }
  where
    spelled : labels_spelled (before ++ Byte b ∷ []) ≡ done ++ (part ++ b ∷ []) ∷ []
    spelled = spelled_byte before b done part h.spelled

    none : too_long (done ++ (part ++ b ∷ []) ∷ []) ≡ None
    none = sym (ap too_long spelled) ∙ e

    short : length (part ++ b ∷ []) ≤ 63
    short =
        elim (cases_lt 63 (length (part ++ b ∷ []))) [
          | inl long ↦ let fault : ◌≡◌ {A = Option NameError} (Some LongLabel) None = sym (too_long-label done (part ++ b ∷ []) long) ∙ none in absurd (cc)
          | inr within ↦ within
        ]

    room : length (wire_of done) + length (part ++ b ∷ []) + 1 ≤ 255
    room =
        elim (cases_lt 255 (length (wire_of done) + length (part ++ b ∷ []) + 1)) [
          | inl long ↦ let fault : ◌≡◌ {A = Option NameError} (Some LongName) None = sym (too_long-name done (part ++ b ∷ []) short long) ∙ none in absurd (cc)
          | inr within ↦ within
        ]

-- the labels that have bytes are a name
named : (before : List TextItem) (done : List (List ℕ)) (part : List ℕ) → IsUnderWay before done part → IsTrue (is_name (name_spelled before))
named before done part h = go (eqb (length part) 0) refl
  where
    kept : name_spelled before ≡ filter (λ l. ltb 0 (length l)) (done ++ part ∷ [])
    kept = ap (filter (λ l. ltb 0 (length l))) h.spelled

    go : (b : Bool) → eqb (length part) 0 ≡ b → IsTrue (is_name (name_spelled before))
    go true e =
        let same : name_spelled before ≡ done = kept ∙ sym (finished_dot done part h.labels (eqb-true (length part) 0 e)) in
        subst (λ (name : List (List ℕ)). IsTrue (is_name name)) (sym same) (name_is done h.labels h.whole)
    go false e =
        let some : 0 < length part = omega (arith, eqb-false (length part) 0 e) in
        let same : name_spelled before ≡ done ++ part ∷ [] = kept ∙ sym (finished done part h.labels some) in
        subst (λ (name : List (List ℕ)). IsTrue (is_name name)) (sym same)
        (name_is (done ++ part ∷ []) (list_all-append is_label done (part ∷ []) ∙ and_from _ _ h.labels (and_from _ _ (label_is part some h.short) refl))
        (omega (arith, length-wire_of-push done part, h.room some)))

named_on : (items before : List TextItem) (done : List (List ℕ)) (part : List ℕ) → IsUnderWay before done part → first_fault before items ≡ None → IsTrue (is_name (name_spelled (before ++ items)))
unfolding first_fault
named_on [] before done part h e = subst (λ (items : List TextItem). IsTrue (is_name (name_spelled items))) (sym (append-nil before)) (named before done part h)
named_on (item ∷ items) before done part h e =
    let none = none_here (fault_of before item) (first_fault (before ++ item ∷ []) items) e in
    subst (λ (all : List TextItem). IsTrue (is_name (name_spelled all))) (append_assoc before (item ∷ []) items)
    (of item none.0 (λ done' part' g. named_on items (before ++ item ∷ []) done' part' g none.1))
  where
    of : (x : TextItem) → fault_of before x ≡ None →
        ((done' : List (List ℕ)) (part' : List ℕ) → IsUnderWay (before ++ x ∷ []) done' part' → IsTrue (is_name (name_spelled ((before ++ x ∷ []) ++ items)))) →
        IsTrue (is_name (name_spelled ((before ++ x ∷ []) ++ items)))
    of Dot f on = on (done ++ part ∷ []) [] (ended before done part h f)
    of (Byte b) f on = on done (part ++ b ∷ []) (gone_on before done part b h f)
    of Bad f on = absurd (cc)

nothing_yet : IsUnderWay [] [] []
nothing_yet = record { spelled = refl; labels = refl; short = omega arith; whole = omega arith; room = λ (k : 0 < 0). absurd (omega arith) }

-- what is read of a text of bytes is a name of bytes
pub name_good : (text : List ℕ) (name : List (List ℕ)) → are_bytes text ≡ true → read_name text ≡ Ok name → is_spellable_name name ≡ true
name_good text name h e = go (bytes_eq text (46 ∷ [])) refl (eqb (length text) 0) refl
  where
    read : (o : Option NameError) → first_fault [] (items_of text) ≡ o → option_map_or Err o (Ok (name_spelled (items_of text))) ≡ Ok name → is_spellable_name name ≡ true
    read None f g =
        let same : name_spelled (items_of text) ≡ name = ok_same (name_spelled (items_of text)) name g in
        ap is_spellable_name (sym same)
        ∙ and_from _ _ (named_on (items_of text) [] [] [] nothing_yet f) (kept_bytes (λ l. ltb 0 (length l)) (labels_spelled (items_of text)) (labels_bytes (items_of text) (items_good text h)))
    read (Some fault) f g = absurd (err_other fault name g)

    go : (b : Bool) → bytes_eq text (46 ∷ []) ≡ b → (c : Bool) → eqb (length text) 0 ≡ c → is_spellable_name name ≡ true
    go true f c g = ap is_spellable_name (sym (ok_same [] name (reads_root text f ∙ e)))
    go false f true g = absurd (err_other EmptyLabel name (reads_nothing text f g ∙ e))
    go false f false g = read (first_fault [] (items_of text)) refl (reads_labels text f g ∙ e)
