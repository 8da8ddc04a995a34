-- One turn of compressing a name.
use Rattle.std.proofs.Common.{◌≡◌, ℕ, suc, ◌+◌, ◌-◌, ◌<◌, ◌≤◌, ◌++◌, List, [], ◌∷◌, ◌∙◌, true, false, length, take, drop, get_or, refl, arith, ap, sym, subst, append_assoc, length-append, length-take, length-drop, Some, None}
use Rattle.std.proofs.Math.Seq.{take-append_seam, drop-append_seam, drop-cons}
use Rattle.std.proofs.lemmas.List.{nil_from_length}
use Rattle.std.proofs.lemmas.Bool.{and_parts}
use Rattle.std.specs.Prelude.{IsTrue}
use Rattle.dns_name.specs.Names.{wire_of, labels_of, is_label, is_name, exact_eq, IsNameInWire}
use Rattle.dns_name.proofs.Wire.{name_each, name_short, name_is, in_wire, wire_some}
use Rattle.dns_pointers.specs.Writing.{Offsets, Piece, onto, offset_of, written_name}
use Rattle.dns_pointers.specs.Compressing.{IsCut, pointer_bytes}

-- what a name in wire form holds besides its first label
rest_is_name : (label : List ℕ) (name : List (List ℕ)) → IsTrue (is_name (label ∷ name)) → IsTrue (is_name name)
rest_is_name label name h =
    name_is name (and_parts (is_label label) _ (name_each (label ∷ name) h)).1
    (omega (arith, name_short (label ∷ name) h, length-append label (wire_of name)))

-- the first label and the rest
cut_whole : (label : List ℕ) (name : List (List ℕ)) → IsTrue (is_name (label ∷ name))
    → IsCut (wire_of (label ∷ name)) (drop (1 + length label) (wire_of (label ∷ name)))
cut_whole label name h =
    let rest : drop (1 + length label) (wire_of (label ∷ name)) ≡ wire_of name =
    ap (λ (n : ℕ). drop n (wire_of (label ∷ name))) (one_more (length label)) ∙ drop-append_seam label (wire_of name) in
    let kept = in_wire name (drop (1 + length label) (wire_of (label ∷ name))) (rest_is_name label name h) rest in
    record {
      label = label;
      labels = (in_wire (label ∷ name) (wire_of (label ∷ name)) h refl).1 ∙ ap (λ (l : List (List ℕ)). label ∷ l) (sym kept.1);
      bytes = ap (λ (l : List ℕ). length label ∷ label ++ l) (sym rest);
      in_wire = kept.0;
    }
  where
    one_more : (n : ℕ) → 1 + n ≡ suc n
    one_more n = omega arith

pub record IsCutAt (wire : List ℕ) : Type 0 where
  pub within : 1 + get_or wire 0 0 ≤ length wire
  pub cut : IsCut wire (drop (1 + get_or wire 0 0) wire)

cut_of : (name : List (List ℕ)) → IsTrue (is_name name) → 1 < length (wire_of name) → IsCutAt (wire_of name)
cut_of [] h some = absurd (omega arith)
cut_of (label ∷ name) h some = record { within = omega (arith, length-append label (wire_of name)); cut = cut_whole label name h }

pub cut_in : (wire : List ℕ) → IsNameInWire wire → 1 < length wire → IsCutAt wire
cut_in wire kept some = subst (λ (w : List ℕ). IsCutAt w) kept.1 (cut_of (labels_of wire) kept.0 (subst (λ (w : List ℕ). 1 < length w) (sym kept.1) some))

-- a name that is under way: its front is written, and the rest is to come
pub record IsUnderWay (before : Offsets) (at : ℕ) (name : List (List ℕ)) (names : Offsets) (front rest : List ℕ) : Type 0 where
  pub in_wire : IsNameInWire rest
  pub whole : front ++ rest ≡ wire_of name
  pub same : onto front (written_name names (at + length front) (labels_of rest)) ≡ written_name before at name

-- what stands before the rest is known from the whole
pub front_is : (front rest wire : List ℕ) → front ++ rest ≡ wire → take (length wire - length rest) wire ≡ front
front_is front rest wire e = subst (λ (w : List ℕ). take (length w - length rest) w ≡ front) e cut
  where
    cut : take (length (front ++ rest) - length rest) (front ++ rest) ≡ front
    cut = let n : length (front ++ rest) - length rest ≡ length front = omega (arith, length-append front rest) in rw n (take-append_seam front rest)

pub begins : (before : Offsets) (at : ℕ) (name : List (List ℕ)) (wire : List ℕ) → IsTrue (is_name name) → wire ≡ wire_of name
    → IsUnderWay before at name before [] wire
begins before at name wire h e =
    let kept = in_wire name wire h e in
    let labels : labels_of wire ≡ name = kept.1 in
    let place : at + 0 ≡ at = omega arith in
    record { in_wire = kept.0; whole = e; same = rw (place, labels) refl }

pub found : (before names : Offsets) (at offset : ℕ) (name : List (List ℕ)) (front rest : List ℕ) → IsUnderWay before at name names front rest
    → 1 < length rest → Some offset ≡ offset_of (labels_of rest) names
    → record { bytes = front ++ pointer_bytes (Some offset); names = names } ≡ written_name before at name
unfolding written_name
found before names at offset name front rest w some e =
    let cut = (cut_in rest w.in_wire some).cut in
    let h = rw cut.labels at w.same in
    let o = rw cut.labels at e in
    rw (sym o) at h

pub pushed : (before names : Offsets) (at : ℕ) (name : List (List ℕ)) (front rest more : List ℕ) → IsUnderWay before at name names front rest
    → (cut : IsCut rest more) → None ≡ offset_of (labels_of rest) names
    → IsUnderWay before at name (names ++ (labels_of rest, at + length front) ∷ []) (front ++ length cut.label ∷ cut.label) more
unfolding written_name
pushed before names at name front rest more w cut e =
    let h = rw cut.labels at w.same in
    let o = rw cut.labels at e in
    let k = rw (sym o) at h in
    let place : at + length (front ++ length cut.label ∷ cut.label) ≡ at + length front + 1 + length cut.label = omega (arith, length-append front (length cut.label ∷ cut.label)) in
    record {
      in_wire = cut.in_wire;
      whole = append_assoc front (length cut.label ∷ cut.label) more ∙ ap (λ (l : List ℕ). front ++ l) (sym cut.bytes) ∙ w.whole;
      same = rw (cut.labels, place) (moved (written_name (names ++ (cut.label ∷ labels_of more, at + length front) ∷ []) (at + length front + 1 + length cut.label) (labels_of more)) ∙ k);
    }
  where
    moved : (p : Piece) → onto (front ++ length cut.label ∷ cut.label) p ≡ onto front (onto (length cut.label ∷ cut.label) p)
    moved p = ap (λ (l : List ℕ). record { bytes = l; names = p.names }) (append_assoc front (length cut.label ∷ cut.label) p.bytes)

pub ended : (before names : Offsets) (at : ℕ) (name : List (List ℕ)) (front rest : List ℕ) → IsUnderWay before at name names front rest
    → length rest ≤ 1 → record { bytes = wire_of name; names = names } ≡ written_name before at name
unfolding written_name
ended before names at name front rest w short =
    let l = last (labels_of rest) (omega (arith, ap length w.in_wire.1)) in
    let h = rw l at w.same in
    let r : rest ≡ 0 ∷ [] = sym w.in_wire.1 ∙ ap wire_of l in
    ap (λ (b : List ℕ). record { bytes = b; names = names }) (sym w.whole ∙ ap (λ (b : List ℕ). front ++ b) r) ∙ h
  where
    last : (labels : List (List ℕ)) → length (wire_of labels) ≤ 1 → labels ≡ []
    last [] k = refl
    last (label ∷ labels) k = absurd (omega (arith, wire_some labels, length-append label (wire_of labels)))

-- The search for the least offset.
pub offset_here : (name : List (List ℕ)) (first : List (List ℕ) × ℕ) (names : Offsets) → true ≡ exact_eq name first.0 → Some first.1 ≡ offset_of name (first ∷ names)
unfolding offset_of
offset_here name first names e = rw (sym e) refl

pub offset_later : (name : List (List ℕ)) (first : List (List ℕ) × ℕ) (names : Offsets) → false ≡ exact_eq name first.0 → offset_of name names ≡ offset_of name (first ∷ names)
unfolding offset_of
offset_later name first names e = rw (sym e) refl

pub offset_nowhere : (name : List (List ℕ)) → None ≡ offset_of name []
unfolding offset_of
offset_nowhere name = refl

-- the element at an index, and those behind it
drop_at : (names : Offsets) (i : ℕ) (x : List (List ℕ) × ℕ) → i < length names → x ≡ get_or names i x → drop i names ≡ x ∷ drop (i + 1) names
drop_at names i x h e =
    let one : i + 1 ≡ suc i = omega arith in
    rw one (drop-cons names i x h ∙ ap (λ (y : List (List ℕ) × ℕ). y ∷ drop (suc i) names) (sym e))

pub offset_found : (name : List (List ℕ)) (names : Offsets) (i : ℕ) (x : List (List ℕ) × ℕ) → i < length names → x ≡ get_or names i x
    → offset_of name (drop i names) ≡ offset_of name names → true ≡ exact_eq name x.0 → Some x.1 ≡ offset_of name names
offset_found name names i x h e w t = offset_here name x (drop (i + 1) names) t ∙ ap (offset_of name) (sym (drop_at names i x h e)) ∙ w

pub offset_passed : (name : List (List ℕ)) (names : Offsets) (i : ℕ) (x : List (List ℕ) × ℕ) → i < length names → x ≡ get_or names i x
    → offset_of name (drop i names) ≡ offset_of name names → false ≡ exact_eq name x.0 → offset_of name (drop (i + 1) names) ≡ offset_of name names
offset_passed name names i x h e w t = offset_later name x (drop (i + 1) names) t ∙ ap (offset_of name) (sym (drop_at names i x h e)) ∙ w

pub offset_none : (name : List (List ℕ)) (names : Offsets) (i : ℕ) → length names ≤ i
    → offset_of name (drop i names) ≡ offset_of name names → None ≡ offset_of name names
offset_none name names i h w =
    let none : drop i names ≡ [] = nil_from_length (drop i names) (omega (arith, length-drop i names)) in
    offset_nowhere name ∙ ap (offset_of name) (sym none) ∙ w

-- a turn of compressing, with the front as it is known from the whole
pub pushed_on : (before names now : Offsets) (at : ℕ) (name : List (List ℕ)) (wire rest more : List ℕ) → wire ≡ wire_of name
    → length rest ≤ length wire → IsUnderWay before at name names (take (length wire - length rest) wire) rest → IsCut rest more
    → None ≡ offset_of (labels_of rest) names → now ≡ names ++ (labels_of rest, at + (length wire - length rest)) ∷ []
    → IsUnderWay before at name now (take (length wire - length more) wire) more
pushed_on before names now at name wire rest more e short w cut none n =
    let size : length (take (length wire - length rest) wire) ≡ length wire - length rest = omega (arith, length-take (length wire - length rest) wire) in
    let place : at + (length wire - length rest) ≡ at + length (take (length wire - length rest) wire) = omega arith in
    let after = pushed before names at name (take (length wire - length rest) wire) rest more w cut none in
    let front = front_is (take (length wire - length rest) wire ++ length cut.label ∷ cut.label) more wire (after.whole ∙ sym e) in
    rw (front, n, place) after
