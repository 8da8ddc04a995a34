-- Names compared in any case.
use Rattle.std.proofs.Common.{◌≡◌, ℕ, ◌≤◌, ◌++◌, List, [], ◌∷◌, ◌∙◌, Bool, true, false, length, refl, arith, ap, sym, length-append, take}
use Rattle.std.proofs.Math.Seq.{take-append_seam}
use Rattle.std.specs.Prelude.{IsTrue, ◌↔◌}
use Rattle.std.specs.List.{list_all}
use Rattle.std.specs.Char.{to_ascii_lowercase}
use Rattle.std.specs.Str.{bytes_eq, str_to_ascii_lowercase}
use Rattle.std.specs.Cmp.{IsTotalOrder, IsEquivalence, Equal-is}
use Rattle.std.specs.Cmp.Lexicographic.{slice_cmp, on_texts, on_texts_equal}
use Rattle.std.specs.Ordering.{nat_cmp, is_eq}
use Rattle.std.specs.declared.cmp.Ordering.TheVariants.{Equal}
use Rattle.std.proofs.lemmas.Map.Text.{is_eq-slice_cmp}
use Rattle.std.proofs.lemmas.Bool.{lt-ltb, and_parts, false≢true}
use Rattle.std.proofs.lemmas.List.{map-append, length-map, append_cancel_left}
use Rattle.std.proofs.lemmas.Slice.Eq.{bytes_eq-Decides}
use Rattle.dns_name.specs.Names.{wire_of, is_label, is_name, folded, folded_eq, exact_eq, name_cmp}
use Rattle.dns_name.proofs.Wire.{wire_some, name_each, label_most, list_head, list_tail}

-- a length isn't a letter
length_stays : (n : ℕ) → n ≤ 63 → to_ascii_lowercase n ≡ n
length_stays n h = rw (lt-ltb n 65 (omega arith)) refl

folded_wire-each : (name : List (List ℕ)) → list_all is_label name ≡ true → str_to_ascii_lowercase (wire_of name) ≡ wire_of (folded name)
folded_wire-each [] h = refl
folded_wire-each (label ∷ rest) h =
    let parts = and_parts (is_label label) (list_all is_label rest) h in
    rw (map-append to_ascii_lowercase label (wire_of rest), folded_wire-each rest parts.1, length-map label to_ascii_lowercase, length_stays (length label) (label_most label parts.0)) refl

-- so folding the bytes of a wire form folds its labels
pub folded_wire : (name : List (List ℕ)) → IsTrue (is_name name) → str_to_ascii_lowercase (wire_of name) ≡ wire_of (folded name)
folded_wire name h = folded_wire-each name (name_each name h)

split_equal : (xs ys more rest : List ℕ) → length xs ≡ length ys → xs ++ more ≡ ys ++ rest → (xs ≡ ys) × (more ≡ rest)
split_equal xs ys more rest n e =
    let first : xs ≡ ys = sym (take-append_seam xs more) ∙ ap (take (length xs)) e ∙ ap (λ (k : ℕ). take k (ys ++ rest)) n ∙ take-append_seam ys rest in
    (first, append_cancel_left xs more rest (e ∙ ap (λ (l : List ℕ). l ++ rest) (sym first)))

-- a wire form has one list of labels
pub wire_of-injective : (left right : List (List ℕ)) → wire_of left ≡ wire_of right → left ≡ right
wire_of-injective [] [] e = refl
wire_of-injective [] (label ∷ rest) e =
    absurd (omega (arith, ap length (list_tail 0 (length label) [] (label ++ wire_of rest) e), length-append label (wire_of rest), wire_some rest))
wire_of-injective (label ∷ rest) [] e =
    absurd (omega (arith, ap length (list_tail (length label) 0 (label ++ wire_of rest) [] e), length-append label (wire_of rest), wire_some rest))
wire_of-injective (label ∷ rest) (other ∷ more) e =
    let parts = split_equal label other (wire_of rest) (wire_of more) (list_head (length label) (length other) (label ++ wire_of rest) (other ++ wire_of more) e) (list_tail (length label) (length other) (label ++ wire_of rest) (other ++ wire_of more) e) in
    let same : rest ≡ more = wire_of-injective rest more parts.1 in
    let first : label ≡ other = parts.0 in
    cc

-- the test of folded names says whether they are one
pub folded_eq-tells : (left right : List (List ℕ)) → IsTrue (folded_eq left right) ↔ (folded left ≡ folded right)
unfolding folded_eq
folded_eq-tells left right =
    let decides = bytes_eq-Decides (wire_of (folded left)) (wire_of (folded right)) in
    (λ yes. wire_of-injective (folded left) (folded right) (decides.0 yes), λ same. decides.1 (ap wire_of same))

-- being one name, case aside, is an equivalence
pub folded_eq-equivalence : IsEquivalence folded_eq
unfolding folded_eq
folded_eq-equivalence = on_texts_equal (λ name. wire_of (folded name))

-- what the comparison of the bytes of two wire forms, case aside, says of the names
pub same_folded : (left right : List (List ℕ)) (wire other : List ℕ) (r : Bool) → IsTrue (is_name left) → IsTrue (is_name right) → wire ≡ wire_of left → other ≡ wire_of right → IsTrue r ↔ (str_to_ascii_lowercase wire ≡ str_to_ascii_lowercase other) → IsTrue r ↔ (folded left ≡ folded right)
same_folded left right wire other r h k e f test =
    let ours : str_to_ascii_lowercase wire ≡ wire_of (folded left) = ap str_to_ascii_lowercase e ∙ folded_wire left h in
    let theirs : str_to_ascii_lowercase other ≡ wire_of (folded right) = ap str_to_ascii_lowercase f ∙ folded_wire right k in (
      λ yes. wire_of-injective (folded left) (folded right) (sym ours ∙ test.0 yes ∙ theirs),
      λ same. test.1 (ours ∙ ap wire_of same ∙ sym theirs),
    )

-- and what bytes that differ so say
pub differ_folded : (left right : List (List ℕ)) (wire other : List ℕ) → IsTrue (is_name left) → IsTrue (is_name right) → wire ≡ wire_of left → other ≡ wire_of right → (str_to_ascii_lowercase wire ≡ str_to_ascii_lowercase other → ⊥) → IsTrue false ↔ (folded left ≡ folded right)
differ_folded left right wire other h k e f differ =
    same_folded left right wire other false h k e f (λ no. absurd (false≢true no), λ same. absurd (differ same))

pub same_tests : (r s : Bool) → (IsTrue r → IsTrue s) → (IsTrue s → IsTrue r) → r ≡ s
same_tests true s to from = sym (to refl)
same_tests false true to from = from refl
same_tests false false to from = refl

-- a test that says whether two names are one is `folded_eq`
pub is_folded_eq : (left right : List (List ℕ)) (r : Bool) → IsTrue r ↔ (folded left ≡ folded right) → r ≡ folded_eq left right
is_folded_eq left right r tells =
    let decides = folded_eq-tells left right in
    same_tests r (folded_eq left right) (λ yes. decides.1 (tells.0 yes)) (λ yes. tells.1 (decides.0 yes))

-- names are Equal exactly where they are one, case aside
pub name_cmp-equal : (left right : List (List ℕ)) → (name_cmp left right ≡ Equal) ↔ (folded left ≡ folded right)
unfolding name_cmp
name_cmp-equal left right =
    let a = wire_of (folded left) in
    let b = wire_of (folded right) in
    let test : is_eq (slice_cmp nat_cmp a b) ≡ bytes_eq a b = is_eq-slice_cmp a b in
    let equal = Equal-is (slice_cmp nat_cmp a b) in
    let decides = bytes_eq-Decides a b in (
      λ e. wire_of-injective (folded left) (folded right) (decides.0 (sym test ∙ equal.1 e)),
      λ same. equal.0 (test ∙ decides.1 (ap wire_of same)),
    )

-- the order of the bytes of two wire forms in lower case is that of the names
pub is_name_cmp : (left right : List (List ℕ)) (wire other : List ℕ) → IsTrue (is_name left) → IsTrue (is_name right) → wire ≡ wire_of left → other ≡ wire_of right → slice_cmp nat_cmp (str_to_ascii_lowercase wire) (str_to_ascii_lowercase other) ≡ name_cmp left right
unfolding name_cmp
is_name_cmp left right wire other h k e f =
    rw (e, f, folded_wire left h, folded_wire right k) refl

-- the order of names is total: its laws are those of any order
pub name_cmp-total : IsTotalOrder name_cmp
unfolding name_cmp
name_cmp-total = on_texts (λ name. wire_of (folded name))

-- names that agree byte for byte are the same
pub exact_eq-tells : (left right : List (List ℕ)) → IsTrue (exact_eq left right) ↔ (left ≡ right)
unfolding exact_eq
exact_eq-tells left right =
    let decides = bytes_eq-Decides (wire_of left) (wire_of right) in
    (λ yes. wire_of-injective left right (decides.0 yes), λ same. decides.1 (ap wire_of same))

-- a test that says whether two names are the same is `exact_eq`
pub is_exact_eq : (left right : List (List ℕ)) (r : Bool) → IsTrue r ↔ (left ≡ right) → r ≡ exact_eq left right
is_exact_eq left right r tells =
    let decides = exact_eq-tells left right in
    same_tests r (exact_eq left right) (λ yes. decides.1 (tells.0 yes)) (λ yes. tells.1 (decides.0 yes))

-- a test that says whether bytes are the same is `bytes_eq`
pub is_bytes_eq : (left right : List ℕ) (r : Bool) → IsTrue r ↔ (left ≡ right) → r ≡ bytes_eq left right
is_bytes_eq left right r tells =
    let decides = bytes_eq-Decides left right in
    same_tests r (bytes_eq left right) (λ yes. decides.1 (tells.0 yes)) (λ yes. tells.1 (decides.0 yes))
