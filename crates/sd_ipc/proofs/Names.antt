-- Names in wire form at the front of bytes, label by label.
use Rattle.std.proofs.Common.{◌≡◌, ℕ, ◌+◌, ◌≤◌, ◌++◌, ◌∙◌, ◌&&◌, true, List, [], ◌∷◌, Some, None, Ok, Err, length, take, drop, refl, sym, ap, subst, arith, length-append, length-take, append_assoc}
use Rattle.std.specs.Prelude.{IsTrue}
use Rattle.std.specs.List.{list_all}
use Rattle.std.proofs.lemmas.List.{append_cancel_right, take-append-drop}
use Rattle.std.proofs.lemmas.List.Folds.{list_all-append}
use Rattle.std.proofs.lemmas.Bool.{and_from}
use Rattle.dns_name.specs.Names.{wire_of, labels_of, is_label, is_name}
use Rattle.dns_name.proofs.Wire.{front_of, wire_of-front, front_of-push, length-wire_of-push, label_is, labels_of-wire_of, name_each, name_is}
use Rattle.dns_record.specs.Records.{after_name}
use Rattle.dns_record.proofs.RawForms.{ReadSoFar, after_name-is, after_name-parts, runs_out, no_label}
use Rattle.sd_ipc.specs.Parts.{name_part, named}
use Rattle.sd_ipc.specs.declared.error.FrameError.TheVariants.{BadBody}

-- whole labels were read, which are these, and the rest is left
pub record IsReadTo (bytes rest : List ℕ) (name : List (List ℕ)) : Type 0 where
  pub each : list_all is_label name ≡ true
  pub parts : bytes ≡ front_of name ++ rest
  pub short : length (wire_of name) ≤ 255

pub none_read : (bytes : List ℕ) → IsReadTo bytes bytes []
none_read bytes = record { each = refl; parts = refl; short = omega arith }

front_short : (name : List (List ℕ)) → length (wire_of name) ≤ 255 → length (front_of name) ≤ 254
front_short name short = omega (arith, ap length (wire_of-front name), length-append (front_of name) (0 ∷ []))

so_far : (bytes rest : List ℕ) (name : List (List ℕ)) → IsReadTo bytes rest name → ReadSoFar bytes rest
so_far bytes rest name r = record { labels = name; each = r.each; parts = r.parts; short = front_short name r.short }

-- a name with bytes behind it
same_name : (name : List (List ℕ)) (bytes more : List ℕ) → IsTrue (is_name name) → bytes ≡ wire_of name ++ more → IsTrue (is_name (labels_of bytes)) × (bytes ≡ wire_of (labels_of bytes) ++ more) → labels_of bytes ≡ name
same_name name bytes more h e p =
    let wires : wire_of (labels_of bytes) ≡ wire_of name = append_cancel_right (wire_of (labels_of bytes)) (wire_of name) more (sym p.1 ∙ e) in
    sym (labels_of-wire_of (labels_of bytes) (name_each (labels_of bytes) p.0)) ∙ ap labels_of wires ∙ labels_of-wire_of name (name_each name h)

pub name_part-is : (name : List (List ℕ)) (more : List ℕ) → IsTrue (is_name name) → name_part (wire_of name ++ more) ≡ Ok (name, more)
unfolding name_part
name_part-is name more h =
    let found : after_name (wire_of name ++ more) ≡ Some more = after_name-is name more h in
    let parts = after_name-parts (wire_of name ++ more) more found in
    ap (named (wire_of name ++ more)) found ∙ ap (λ (n : List (List ℕ)). Ok (n, more)) (same_name name (wire_of name ++ more) more h refl parts)

-- the name ends here
pub ends_here : (bytes after : List ℕ) (name : List (List ℕ)) (size : ℕ) → IsReadTo bytes (size ∷ after) name → size ≡ 0 → name_part bytes ≡ Ok (name, after)
ends_here bytes after name size r end =
    let wire : wire_of name ≡ front_of name ++ 0 ∷ [] = wire_of-front name in
    let whole : bytes ≡ wire_of name ++ after =
    r.parts ∙ ap (λ (n : ℕ). front_of name ++ n ∷ after) end ∙ sym (append_assoc (front_of name) (0 ∷ []) after) ∙ ap (λ (l : List ℕ). l ++ after) (sym wire) in
    ap name_part whole ∙ name_part-is name after (name_is name r.each r.short)

no_part : (bytes : List ℕ) → None ≡ after_name bytes → name_part bytes ≡ Err BadBody
unfolding name_part
no_part bytes e = ap (named bytes) (sym e)

-- bytes that run out begin with no name
pub ran_out : (bytes rest : List ℕ) (name : List (List ℕ)) → IsReadTo bytes rest name → length rest ≡ 0 → name_part bytes ≡ Err BadBody
ran_out bytes rest name r none = no_part bytes (runs_out bytes rest (so_far bytes rest name r) none)

-- a label that is too long, or has no room, belongs to no name
pub no_room : (bytes after : List ℕ) (name : List (List ℕ)) (size : ℕ) → IsReadTo bytes (size ∷ after) name → (size ≡ 0 → ⊥)
    → (size ≤ 63 → size ≤ length after → length (wire_of name) + size ≤ 254 → ⊥) → name_part bytes ≡ Err BadBody
no_room bytes after name size r some bad =
    let whole : length bytes ≡ length (front_of name) + length after + 1 = omega (arith, ap length r.parts, length-append (front_of name) (size ∷ after)) in
    let wire : length (wire_of name) ≡ length (front_of name) + 1 = omega (arith, ap length (wire_of-front name), length-append (front_of name) (0 ∷ [])) in
    no_part bytes (no_label bytes after size (so_far bytes (size ∷ after) name r) some (λ most within room. bad most within (omega arith)))

-- one label more
pub one_more : (bytes after : List ℕ) (name : List (List ℕ)) (size : ℕ) → IsReadTo bytes (size ∷ after) name → (size ≡ 0 → ⊥) → size ≤ 63 → size ≤ length after → length (wire_of name) + size ≤ 254
    → IsReadTo bytes (drop size after) (name ++ take size after ∷ [])
one_more bytes after name size r some most within room =
    let label = take size after in
    let n : length label ≡ size = omega (arith, length-take size after) in
    let pushed : front_of (name ++ label ∷ []) ≡ front_of name ++ length label ∷ label = front_of-push name label in
    record {
      each = list_all-append is_label name (label ∷ []) ∙ and_from (list_all is_label name) (is_label label && true) r.each (and_from (is_label label) true (label_is label (omega arith) (omega arith)) refl);
      parts = r.parts ∙ ap (λ (l : List ℕ). front_of name ++ size ∷ l) (sym (take-append-drop size after)) ∙ regrouped (front_of name) label (drop size after) size n
          ∙ ap (λ (l : List ℕ). l ++ drop size after) (sym pushed);
      short = omega (arith, length-wire_of-push name label);
    }
  where
    regrouped : (front label rest : List ℕ) (size : ℕ) → length label ≡ size → front ++ size ∷ (label ++ rest) ≡ (front ++ length label ∷ label) ++ rest
    regrouped front label rest size n = ap (λ (m : ℕ). front ++ m ∷ (label ++ rest)) (sym n) ∙ sym (append_assoc front (length label ∷ label) rest)

-- the size of the next label
pub at_label : (bytes rest after : List ℕ) (name : List (List ℕ)) (size n : ℕ) → IsReadTo bytes rest name → rest ≡ size ∷ after → n ≡ size → IsReadTo bytes (n ∷ after) name
at_label bytes rest after name size n r e same = subst (λ (l : List ℕ). IsReadTo bytes l name) (e ∙ ap (λ (m : ℕ). m ∷ after) (sym same)) r
