-- Names in wire form at the front of bytes, and the forms of data that are kept as bytes.
use Rattle.std.proofs.Common.{◌≡◌, ℕ, ◌+◌, ◌-◌, ◌≤◌, ◌++◌, ◌&&◌, ◌∙◌, Bool, true, false, cond, List, [], ◌∷◌, Option, Some, None, length, take, drop, refl, sym, ap, subst, arith, length-append, length-take, append_assoc}
use Rattle.std.specs.Prelude.{IsTrue}
use Rattle.std.specs.List.{list_all}
use Rattle.std.specs.Str.{bytes_eq}
use Rattle.std.proofs.Math.Seq.{take-append_seam, drop-append_seam}
use Rattle.std.proofs.lemmas.Bool.{ne_eqb, and_from, and_parts}
use Rattle.std.proofs.lemmas.List.{append_cancel_left, take-append-drop}
use Rattle.std.proofs.lemmas.Slice.Eq.{bytes_eq-Decides}
use Rattle.dns_name.specs.Names.{wire_of, labels_of, labels_from, is_label, is_name}
use Rattle.dns_name.proofs.Wire.{front_of, wire_of-front, front_of-push, label_some, label_most, label_is, name_each, name_short, name_is, list_head, list_tail}
use Rattle.std.proofs.lemmas.List.Folds.{list_all-append}
use Rattle.dns_record.specs.Records.{after_name}

-- whole labels were read from the front of bytes, and the rest is left
pub record ReadSoFar (bytes rest : List ℕ) : Type 0 where
  pub labels : List (List ℕ)
  pub each : list_all is_label labels ≡ true
  pub parts : bytes ≡ front_of labels ++ rest
  pub short : length (front_of labels) ≤ 254

-- nothing was read yet
pub none_read : (bytes : List ℕ) → ReadSoFar bytes bytes
none_read bytes = record { labels = []; each = refl; parts = refl; short = omega arith }

labels_from-label : (label rest : List ℕ) (more : List (List ℕ)) → labels_from 0 rest ≡ [] ∷ more → labels_from (length label) (label ++ rest) ≡ label ∷ more
labels_from-label [] rest more e = e
labels_from-label (b ∷ label) rest more e = rw (labels_from-label label rest more e) refl

labels_from-front : (name : List (List ℕ)) (more : List ℕ) → list_all is_label name ≡ true → labels_from 0 (wire_of name ++ more) ≡ [] ∷ name
labels_from-front [] more h = refl
labels_from-front (label ∷ rest) more h =
    let some : 1 ≤ length label = label_some label (and_parts _ _ h).0 in
    let inside : labels_from (length label) (label ++ (wire_of rest ++ more)) ≡ label ∷ rest =
    labels_from-label label (wire_of rest ++ more) rest (labels_from-front rest more (and_parts (is_label label) (list_all is_label rest) h).1) in
    rw (append_assoc label (wire_of rest) more, ne_eqb (length label) 0 (λ e. absurd (omega arith)), inside) refl

-- bytes that begin with a name's wire form
pub after_name-is : (name : List (List ℕ)) (more : List ℕ) → IsTrue (is_name name) → after_name (wire_of name ++ more) ≡ Some more
unfolding after_name
after_name-is name more h =
    let same : labels_of (wire_of name ++ more) ≡ name = ap (drop 1) (labels_from-front name more (name_each name h)) in
    let rest : drop (length (wire_of name)) (wire_of name ++ more) ≡ more = drop-append_seam (wire_of name) more in
    let equal : bytes_eq (wire_of name ++ more) (wire_of name ++ more) ≡ true = (bytes_eq-Decides (wire_of name ++ more) (wire_of name ++ more)).1 refl in
    rw (same, rest, h, equal) refl

-- what follows a name, where bytes begin with one
pub after_name-parts : (bytes more : List ℕ) → after_name bytes ≡ Some more → IsTrue (is_name (labels_of bytes)) × (bytes ≡ wire_of (labels_of bytes) ++ more)
unfolding after_name
after_name-parts bytes more e = at_tests (is_name (labels_of bytes)) (bytes_eq (wire_of (labels_of bytes) ++ rest) bytes) refl refl e
  where
    rest : List ℕ
    rest = drop (length (wire_of (labels_of bytes))) bytes

    at_tests : (t u : Bool) → is_name (labels_of bytes) ≡ t → bytes_eq (wire_of (labels_of bytes) ++ rest) bytes ≡ u → cond (t && u) (Some rest) None ≡ Some more
        → IsTrue (is_name (labels_of bytes)) × (bytes ≡ wire_of (labels_of bytes) ++ more)
    at_tests false u et eu e = absurd (cc)
    at_tests true false et eu e = absurd (cc)
    at_tests true true et eu e =
        let same : rest ≡ more = cc in
        (et, sym ((bytes_eq-Decides (wire_of (labels_of bytes) ++ rest) bytes).0 eu) ∙ ap (λ (l : List ℕ). wire_of (labels_of bytes) ++ l) same)

-- one label more
pub one_more : (bytes after : List ℕ) (size : ℕ) → ReadSoFar bytes (size ∷ after) → (size ≡ 0 → ⊥) → size ≤ 63 → size ≤ length after → length bytes - length after + size ≤ 254 → ReadSoFar bytes (drop size after)
one_more bytes after size so_far some most within room =
    let label = take size after in
    let labels = so_far.labels in
    let n : length label ≡ size = omega (arith, length-take size after) in
    let pushed : front_of (labels ++ label ∷ []) ≡ front_of labels ++ length label ∷ label = front_of-push labels label in
    let whole : length bytes ≡ length (front_of labels) + length after + 1 = omega (arith, ap length so_far.parts, length-append (front_of labels) (size ∷ after)) in
    record {
      labels = labels ++ label ∷ [];
      each = list_all-append is_label labels (label ∷ []) ∙ and_from (list_all is_label labels) (is_label label && true) so_far.each (and_from (is_label label) true (label_is label (omega arith) (omega arith)) refl);
      parts = so_far.parts ∙ ap (λ (l : List ℕ). front_of labels ++ size ∷ l) (sym (take-append-drop size after)) ∙ regrouped (front_of labels) label (drop size after) size n
          ∙ ap (λ (l : List ℕ). l ++ drop size after) (sym pushed);
      short = omega (arith, ap length pushed, length-append (front_of labels) (length label ∷ label));
    }
  where
    regrouped : (front label rest : List ℕ) (size : ℕ) → length label ≡ size → front ++ size ∷ (label ++ rest) ≡ (front ++ length label ∷ label) ++ rest
    regrouped front label rest size n = ap (λ (m : ℕ). front ++ m ∷ (label ++ rest)) (sym n) ∙ sym (append_assoc front (length label ∷ label) rest)

-- the size of the next label
pub at_label : (bytes rest after : List ℕ) (size n : ℕ) → ReadSoFar bytes rest → rest ≡ size ∷ after → n ≡ size → ReadSoFar bytes (n ∷ after)
at_label bytes rest after size n so_far e same = subst (λ (l : List ℕ). ReadSoFar bytes l) (e ∙ ap (λ (m : ℕ). m ∷ after) (sym same)) so_far

-- the end of a name
pub name_ends : (bytes after : List ℕ) (size : ℕ) → ReadSoFar bytes (size ∷ after) → size ≡ 0 → Some after ≡ after_name bytes
name_ends bytes after size so_far end =
    let labels = so_far.labels in
    let wire : wire_of labels ≡ front_of labels ++ 0 ∷ [] = wire_of-front labels in
    let whole : bytes ≡ wire_of labels ++ after =
    so_far.parts ∙ ap (λ (n : ℕ). front_of labels ++ n ∷ after) end ∙ sym (append_assoc (front_of labels) (0 ∷ []) after) ∙ ap (λ (l : List ℕ). l ++ after) (sym wire) in
    let small : length (wire_of labels) ≤ 255 = omega (arith, so_far.short, ap length wire, length-append (front_of labels) (0 ∷ [])) in
    sym (ap after_name whole ∙ after_name-is labels after (name_is labels so_far.each small))

split_equal : (xs ys more rest : List ℕ) → length xs ≡ length ys → xs ++ more ≡ ys ++ rest → (xs ≡ ys) × (more ≡ rest)
split_equal xs ys more rest n e =
    let first : xs ≡ ys = sym (take-append_seam xs more) ∙ ap (take (length xs)) e ∙ ap (λ (k : ℕ). take k (ys ++ rest)) n ∙ take-append_seam ys rest in
    (first, append_cancel_left xs more rest (e ∙ ap (λ (l : List ℕ). l ++ rest) (sym first)))

-- labels at the front of a name's bytes are the name's first labels
shared : (labels name : List (List ℕ)) (rest more : List ℕ) → list_all is_label labels ≡ true → front_of labels ++ rest ≡ wire_of name ++ more
    → (later : List (List ℕ)) × (name ≡ labels ++ later) × (rest ≡ wire_of later ++ more)
shared [] name rest more each e = (name, refl, e)
shared (label ∷ labels) [] rest more each e =
    absurd (omega (arith, label_some label (and_parts _ _ each).0, list_head (length label) 0 (label ++ front_of labels ++ rest) more e))
shared (label ∷ labels) (first ∷ name) rest more each e =
    let size : length label ≡ length first = list_head (length label) (length first) (label ++ front_of labels ++ rest) (first ++ wire_of name ++ more) e in
    let tails : label ++ front_of labels ++ rest ≡ first ++ wire_of name ++ more = list_tail (length label) (length first) (label ++ front_of labels ++ rest) (first ++ wire_of name ++ more) e in
    let parts = split_equal label first (front_of labels ++ rest) (wire_of name ++ more) size (sym (append_assoc label (front_of labels) rest) ∙ tails ∙ append_assoc first (wire_of name) more) in
    let ih = shared labels name rest more (and_parts (is_label label) (list_all is_label labels) each).1 parts.1 in
    (ih.0, (λ i. sym parts.0 i ∷ ih.1 i), ih.2)

wire_of-append : (labels later : List (List ℕ)) → wire_of (labels ++ later) ≡ front_of labels ++ wire_of later
wire_of-append [] later = refl
wire_of-append (label ∷ labels) later =
    ap (λ (l : List ℕ). length label ∷ label ++ l) (wire_of-append labels later) ∙ sym (append_assoc (length label ∷ label) (front_of labels) (wire_of later))

-- where the rest goes on with no name, the bytes begin with none
no_name : (bytes rest : List ℕ) (so_far : ReadSoFar bytes rest)
    → ((later : List (List ℕ)) (more : List ℕ) → list_all is_label later ≡ true → rest ≡ wire_of later ++ more → length (front_of so_far.labels) + length (wire_of later) ≤ 255 → ⊥)
    → None ≡ after_name bytes
no_name bytes rest so_far never = at_result (after_name bytes) refl
  where
    at_result : (r : Option (List ℕ)) → after_name bytes ≡ r → None ≡ r
    at_result None e = refl
    at_result (Some more) e =
        let p = after_name-parts bytes more e in
        let name = labels_of bytes in
        let s = shared so_far.labels name rest more so_far.each (sym so_far.parts ∙ p.1) in
        let each : list_all is_label name ≡ true = name_each name p.0 in
        let later_each : list_all is_label s.0 ≡ true = (and_parts (list_all is_label so_far.labels) (list_all is_label s.0) (sym (list_all-append is_label so_far.labels s.0) ∙ ap (list_all is_label) (sym s.1) ∙ each)).1 in
        let size : length (wire_of name) ≡ length (front_of so_far.labels) + length (wire_of s.0) =
        ap (λ l. length (wire_of l)) s.1 ∙ ap length (wire_of-append so_far.labels s.0) ∙ length-append (front_of so_far.labels) (wire_of s.0) in
        absurd (never s.0 more later_each s.2 (omega (arith, name_short name p.0)))

wire_some : (name : List (List ℕ)) → 1 ≤ length (wire_of name)
wire_some [] = omega arith
wire_some (label ∷ name) = omega arith

-- bytes that run out begin with no name
pub runs_out : (bytes rest : List ℕ) → ReadSoFar bytes rest → length rest ≡ 0 → None ≡ after_name bytes
runs_out bytes rest so_far none =
    no_name bytes rest so_far (λ later more each e room. omega (arith, ap length e, length-append (wire_of later) more, wire_some later))

-- a label that is too long, or has no room, belongs to no name
pub no_label : (bytes after : List ℕ) (size : ℕ) → ReadSoFar bytes (size ∷ after) → (size ≡ 0 → ⊥) → (size ≤ 63 → size ≤ length after → length bytes - length after + size ≤ 254 → ⊥) → None ≡ after_name bytes
no_label bytes after size so_far some bad = no_name bytes (size ∷ after) so_far refuse
  where
    whole : length bytes ≡ length (front_of so_far.labels) + length after + 1
    whole = omega (arith, ap length so_far.parts, length-append (front_of so_far.labels) (size ∷ after))

    refuse : (later : List (List ℕ)) (more : List ℕ) → list_all is_label later ≡ true → size ∷ after ≡ wire_of later ++ more → length (front_of so_far.labels) + length (wire_of later) ≤ 255 → ⊥
    refuse [] more each e room = some (list_head size 0 after more e)
    refuse (label ∷ later) more each e room =
        let n : size ≡ length label = list_head size (length label) after (label ++ wire_of later ++ more) e in
        let tail : after ≡ label ++ wire_of later ++ more = list_tail size (length label) after (label ++ wire_of later ++ more) e in
        bad (omega (arith, label_most label (and_parts _ _ each).0))
        (omega (arith, ap length tail, length-append (label ++ wire_of later) more, length-append label (wire_of later)))
        (omega (arith, whole, length-append label (wire_of later), wire_some later))
