-- The wire form of a name, and its labels.
use Rattle.std.proofs.Common.{◌≡◌, ℕ, ◌+◌, ◌-◌, ◌≤◌, ◌++◌, List, [], ◌∷◌, ◌∙◌, true, length, take, drop, refl, arith, ap, sym, subst, length-append, append_assoc, append-nil}
use Rattle.std.proofs.Math.Seq.{take-append_seam, drop-append_seam}
use Rattle.std.proofs.lemmas.Bool.{leb-true, le-leb, ne_eqb, and_from, and_parts}
use Rattle.std.specs.Prelude.{IsTrue}
use Rattle.std.specs.List.{list_all}
use Rattle.dns_name.specs.Names.{wire_of, labels_from, labels_of, is_label, is_name, IsNameInWire}

-- a label has 1 to 63 bytes
pub label_some : (label : List ℕ) → is_label label ≡ true → 1 ≤ length label
label_some label h = leb-true 1 (length label) (and_parts _ _ h).0

pub label_most : (label : List ℕ) → is_label label ≡ true → length label ≤ 63
label_most label h = leb-true (length label) 63 (and_parts _ _ h).1

pub label_is : (label : List ℕ) → 1 ≤ length label → length label ≤ 63 → is_label label ≡ true
label_is label h k = and_from _ _ (le-leb 1 (length label) h) (le-leb (length label) 63 k)

-- a name's labels, and its length
pub name_each : (name : List (List ℕ)) → IsTrue (is_name name) → list_all is_label name ≡ true
name_each name h = (and_parts _ _ h).0

pub name_short : (name : List (List ℕ)) → IsTrue (is_name name) → length (wire_of name) ≤ 255
name_short name h = leb-true (length (wire_of name)) 255 (and_parts _ _ h).1

pub name_is : (name : List (List ℕ)) → list_all is_label name ≡ true → length (wire_of name) ≤ 255 → IsTrue (is_name name)
name_is name h k = and_from _ _ h (le-leb (length (wire_of name)) 255 k)

-- the wire form without the zero byte
abbrev pub front_of : List (List ℕ) → List ℕ
front_of [] = []
front_of (label ∷ rest) = length label ∷ label ++ front_of rest

pub wire_of-front : (name : List (List ℕ)) → wire_of name ≡ front_of name ++ 0 ∷ []
wire_of-front [] = refl
wire_of-front (label ∷ rest) = rw (wire_of-front rest) (ap (λ (l : List ℕ). length label ∷ l) (sym (append_assoc label (front_of rest) (0 ∷ []))))

pub front_of-push : (name : List (List ℕ)) (label : List ℕ) → front_of (name ++ label ∷ []) ≡ front_of name ++ length label ∷ label
front_of-push [] label = ap (λ (l : List ℕ). length label ∷ l) (append-nil label)
front_of-push (first ∷ rest) label = rw (front_of-push rest label) (ap (λ (l : List ℕ). length first ∷ l) (sym (append_assoc first (front_of rest) (length label ∷ label))))

pub take_front : (front : List ℕ) (last : ℕ) → take (length (front ++ last ∷ []) - 1) (front ++ last ∷ []) ≡ front
take_front front last =
    let size : length (front ++ last ∷ []) - 1 ≡ length front = omega (arith, length-append front (last ∷ [])) in
    rw size (take-append_seam front (last ∷ []))

-- the labels come back from the wire form
labels_from-label : (label rest : List ℕ) (more : List (List ℕ)) → labels_from 0 rest ≡ [] ∷ more → labels_from (length label) (label ++ rest) ≡ label ∷ more
labels_from-label [] rest more e = e
labels_from-label (b ∷ label) rest more e = rw (labels_from-label label rest more e) refl

labels_from-wire_of : (name : List (List ℕ)) → list_all is_label name ≡ true → labels_from 0 (wire_of name) ≡ [] ∷ name
labels_from-wire_of [] h = refl
labels_from-wire_of (label ∷ rest) h =
    let some : 1 ≤ length label = label_some label (and_parts _ _ h).0 in
    let inside : labels_from (length label) (label ++ wire_of rest) ≡ label ∷ rest =
    labels_from-label label (wire_of rest) rest (labels_from-wire_of rest (and_parts (is_label label) (list_all is_label rest) h).1) in
    rw (ne_eqb (length label) 0 (λ e. absurd (omega arith)), inside) refl

pub labels_of-wire_of : (name : List (List ℕ)) → list_all is_label name ≡ true → labels_of (wire_of name) ≡ name
labels_of-wire_of name h = ap (drop 1) (labels_from-wire_of name h)

-- bytes that are a name's wire form stand for that name
pub in_wire : (name : List (List ℕ)) (wire : List ℕ) → IsTrue (is_name name) → wire ≡ wire_of name → IsNameInWire wire × (labels_of wire ≡ name)
in_wire name wire h e =
    let same : labels_of wire ≡ name = ap labels_of e ∙ labels_of-wire_of name (name_each name h) in
    ((rw same h, ap wire_of same ∙ sym e), same)

-- a label put at the end
wire_of-push : (name : List (List ℕ)) (label : List ℕ) → wire_of (name ++ label ∷ []) ≡ (front_of name ++ length label ∷ label) ++ 0 ∷ []
wire_of-push name label = wire_of-front (name ++ label ∷ []) ∙ ap (λ (l : List ℕ). l ++ 0 ∷ []) (front_of-push name label)

list_all-push : (name : List (List ℕ)) (label : List ℕ) → list_all is_label name ≡ true → is_label label ≡ true → list_all is_label (name ++ label ∷ []) ≡ true
list_all-push [] label h l = and_from _ _ l refl
list_all-push (first ∷ rest) label h l = and_from _ _ (and_parts _ _ h).0 (list_all-push rest label (and_parts _ _ h).1 l)

pub length-wire_of-push : (name : List (List ℕ)) (label : List ℕ) → length (wire_of (name ++ label ∷ [])) ≡ length (wire_of name) + length label + 1
length-wire_of-push name label =
    omega (
      arith,
      ap length (wire_of-push name label),
      ap length (wire_of-front name),
      length-append (front_of name) (length label ∷ label),
      length-append (front_of name ++ length label ∷ label) (0 ∷ []),
      length-append (front_of name) (0 ∷ []),
    )

pub push_is_name : (name : List (List ℕ)) (label : List ℕ) → IsTrue (is_name name) → is_label label ≡ true → length (wire_of name) + length label + 1 ≤ 255 → IsTrue (is_name (name ++ label ∷ []))
push_is_name name label h l room =
    name_is (name ++ label ∷ []) (list_all-push name label (name_each name h) l) (omega (arith, length-wire_of-push name label))

-- the last byte gives way to the label's length, the label and a zero byte
pub pushed : (wire label popped sized extended after : List ℕ) (name : List (List ℕ)) → IsNameInWire wire → labels_of wire ≡ name → is_label label ≡ true → length (wire_of name) + length label + 1 ≤ 255 → popped ≡ take (length wire - 1) wire → sized ≡ popped ++ length label ∷ [] → extended ≡ sized ++ label → after ≡ extended ++ 0 ∷ [] → IsNameInWire after × (labels_of after ≡ name ++ label ∷ [])
pushed wire label popped sized extended after name kept is l room e f g k =
    let h : IsTrue (is_name name) = subst (λ n. IsTrue (is_name n)) is kept.0 in
    let whole : wire ≡ front_of name ++ 0 ∷ [] = sym kept.1 ∙ ap wire_of is ∙ wire_of-front name in
    let cut : popped ≡ front_of name = e ∙ rw whole (take_front (front_of name) 0) in
    in_wire (name ++ label ∷ []) after (push_is_name name label h l room)
    (rw (k, g, f, cut) (ap (λ (l : List ℕ). l ++ 0 ∷ []) (append_assoc (front_of name) (length label ∷ []) label)) ∙ sym (wire_of-push name label))

pub list_head : (x y : ℕ) (xs ys : List ℕ) → x ∷ xs ≡ y ∷ ys → x ≡ y
list_head x y xs ys e = cc

pub list_tail : (x y : ℕ) (xs ys : List ℕ) → x ∷ xs ≡ y ∷ ys → xs ≡ ys
list_tail x y xs ys e = cc

-- the first label of what is left
pub record IsFirstLabel (name : List (List ℕ)) (size : ℕ) (rest : List ℕ) : Type 0 where
  pub within : size ≤ length rest
  pub label : IsTrue (is_label (take size rest))
  pub later : IsNameInWire (drop size rest)
  pub parts : name ≡ take size rest ∷ labels_of (drop size rest)

later_is_name : (label : List ℕ) (name : List (List ℕ)) → IsTrue (is_name (label ∷ name)) → IsTrue (is_name name)
later_is_name label name h =
    name_is name (and_parts (is_label label) (list_all is_label name) (name_each (label ∷ name) h)).1
    (omega (arith, name_short (label ∷ name) h, length-append label (wire_of name)))

first_label-whole : (label : List ℕ) (name : List (List ℕ)) → IsTrue (is_name (label ∷ name)) → IsFirstLabel (label ∷ name) (length label) (label ++ wire_of name)
first_label-whole label name h =
    let tail : drop (length label) (label ++ wire_of name) ≡ wire_of name = drop-append_seam label (wire_of name) in
    let front : take (length label) (label ++ wire_of name) ≡ label = take-append_seam label (wire_of name) in
    let kept = in_wire name (drop (length label) (label ++ wire_of name)) (later_is_name label name h) tail in
    record {
      within = omega (arith, length-append label (wire_of name));
      label = rw front (and_parts (is_label label) (list_all is_label name) (name_each (label ∷ name) h)).0;
      later = kept.0;
      parts = rw (front, kept.1) refl;
    }

pub first_label : (name : List (List ℕ)) (size : ℕ) (rest : List ℕ) → (size ≡ 0 → ⊥) → IsTrue (is_name name) → wire_of name ≡ size ∷ rest → IsFirstLabel name size rest
first_label [] size rest some h e = absurd (some (sym (list_head 0 size [] rest e)))
first_label (label ∷ name) size rest some h e =
    let n : length label ≡ size = list_head (length label) size (label ++ wire_of name) rest e in
    let r : label ++ wire_of name ≡ rest = list_tail (length label) size (label ++ wire_of name) rest e in
    subst (λ (s : ℕ). IsFirstLabel (label ∷ name) s rest) n (subst (λ (t : List ℕ). IsFirstLabel (label ∷ name) (length label) t) r (first_label-whole label name h))

-- the same, of bytes that are kept
pub first_in_wire : (wire rest : List ℕ) (name : List (List ℕ)) (size n : ℕ) → IsNameInWire wire → labels_of wire ≡ name → wire ≡ size ∷ rest → (size ≡ 0 → ⊥) → n ≡ size → IsFirstLabel name n rest
first_in_wire wire rest name size n kept is e some same =
    subst (λ (m : ℕ). IsFirstLabel name m rest) (sym same)
    (first_label name size rest some (subst (λ l. IsTrue (is_name l)) is kept.0) (ap wire_of (sym is) ∙ kept.1 ∙ e))

-- a name's labels are few
pub name_count : (name : List (List ℕ)) → length name ≤ length (wire_of name)
name_count [] = omega arith
name_count (label ∷ name) = omega (arith, name_count name, length-append label (wire_of name))

-- a label put in front
pub put_in_front : (wire label sized extended after : List ℕ) (name : List (List ℕ)) → IsNameInWire wire → labels_of wire ≡ name → is_label label ≡ true → 1 + length label + length wire ≤ 255 → sized ≡ length label ∷ [] → extended ≡ sized ++ label → after ≡ extended ++ wire → IsNameInWire after × (labels_of after ≡ label ∷ name)
put_in_front wire label sized extended after name kept is l room e f g =
    let h : IsTrue (is_name name) = subst (λ n. IsTrue (is_name n)) is kept.0 in
    let whole : wire_of name ≡ wire = ap wire_of (sym is) ∙ kept.1 in
    let front : after ≡ wire_of (label ∷ name) = rw (g, f, e, whole) refl in
    in_wire (label ∷ name) after
    (name_is (label ∷ name) (and_from (is_label label) (list_all is_label name) l (name_each name h))
    (omega (arith, ap length whole, length-append label (wire_of name)))) front

-- a wire form has its zero byte
pub wire_some : (labels : List (List ℕ)) → 1 ≤ length (wire_of labels)
wire_some [] = omega arith
wire_some (label ∷ labels) = omega arith

-- a name is no shorter than its labels so far and the next
pub wire_least : (front more : List (List ℕ)) (piece : List ℕ) → length (wire_of front) + length piece + 1 ≤ length (wire_of (front ++ piece ∷ more))
wire_least [] more piece = omega (arith, wire_some more, length-append piece (wire_of more))
wire_least (label ∷ front) more piece =
    omega (arith, wire_least front more piece, length-append label (wire_of front), length-append label (wire_of (front ++ piece ∷ more)))
