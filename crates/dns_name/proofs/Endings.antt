-- Names that end with all labels of another.
use Rattle.std.proofs.Common.{◌≡◌, ℕ, ◌-◌, ◌<◌, ◌++◌, List, ◌∙◌, Bool, true, false, length, take, drop, refl, arith, ap, sym, length-append, length-drop}
use Rattle.std.proofs.Math.Seq.{drop-append_seam}
use Rattle.std.proofs.lemmas.List.{length-map, drop-map, take-append-drop}
use Rattle.std.proofs.lemmas.Slice.Eq.{slice_eq-Decides, bytes_eq-Decides}
use Rattle.std.specs.Prelude.{IsTrue, ◌↔◌}
use Rattle.dns_name.specs.Names.{folded, folded_label, is_under}
use Rattle.dns_name.proofs.Folding.{same_tests}

-- the labels at the end, as many as the other name has
abbrev pub end_of : List (List ℕ) → List (List ℕ) → List (List ℕ)
end_of name top = drop (length (folded name) - length (folded top)) (folded name)

pub is_under-tells : (name top : List (List ℕ)) → IsTrue (is_under name top) ↔ (folded top ≡ end_of name top)
unfolding is_under
is_under-tells name top = slice_eq-Decides bytes_eq-Decides (folded top) (end_of name top) (is_under name top) refl

-- some labels and then the other's
pub end_is : (name top : List (List ℕ)) → (folded top ≡ end_of name top) ↔ ((front : List (List ℕ)) × (folded name ≡ front ++ folded top))
end_is name top =
    let k = length (folded name) - length (folded top) in (
      λ e. (take k (folded name), sym (take-append-drop k (folded name)) ∙ ap (λ (l : List (List ℕ)). take k (folded name) ++ l) (sym e)),
      λ (front, e). sym (ap (λ (n : ℕ). drop n (folded name)) (length_front front e) ∙ ap (drop (length front)) e ∙ drop-append_seam front (folded top)),
    )
  where
    length_front : (front : List (List ℕ)) → folded name ≡ front ++ folded top → length (folded name) - length (folded top) ≡ length front
    length_front front e = omega (arith, ap length e, length-append front (folded top))

-- where the walk ends
pub end_reached : (name top left : List (List ℕ)) (k : ℕ) → k ≡ length name - length top → left ≡ drop k name → folded left ≡ end_of name top
end_reached name top left k e f =
    let same : k ≡ length (folded name) - length (folded top) = omega (arith, length-map name folded_label, length-map top folded_label) in
    ap folded f ∙ sym (drop-map folded_label k name) ∙ ap (λ (n : ℕ). drop n (folded name)) same

pub under_value : (name top left : List (List ℕ)) (k : ℕ) (r : Bool) → k ≡ length name - length top → left ≡ drop k name → IsTrue r ↔ (folded left ≡ folded top) → r ≡ is_under name top
under_value name top left k r e f tells =
    let last = end_reached name top left k e f in
    let under = is_under-tells name top in
    same_tests r (is_under name top) (λ yes. under.1 (sym (tells.0 yes) ∙ last)) (λ yes. tells.1 (last ∙ sym (under.0 yes)))

pub under_ends : (name top : List (List ℕ)) → IsTrue (is_under name top) ↔ ((front : List (List ℕ)) × (folded name ≡ front ++ folded top))
under_ends name top =
    let under = is_under-tells name top in
    let ends = end_is name top in
    (λ yes. ends.0 (under.0 yes), λ found. under.1 (ends.1 found))

-- a name of fewer labels isn't under the other
pub too_short : (name top : List (List ℕ)) → length name < length top → false ≡ is_under name top
too_short name top h = go (is_under name top) refl
  where
    go : (b : Bool) → b ≡ is_under name top → false ≡ b
    go true e =
        let last = (is_under-tells name top).0 (sym e) in
        absurd (omega (arith, ap length last, length-drop (length (folded name) - length (folded top)) (folded name), length-map name folded_label, length-map top folded_label))
    go false e = refl
