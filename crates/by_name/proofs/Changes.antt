-- Lists that agree but at some places.
use Rattle.std.proofs.Common.{◌≡◌, ◌≢◌, ℕ, zero, suc, ◌-◌, ◌<◌, ◌≤◌, ⊎_elim, inl, inr, List, [], ◌∷◌, length, get_or, set, take, slice_get, swap_remove, refl, sym, ap, ◌∙◌, arith}
use Rattle.std.specs.Map.{values_of}
use Rattle.std.proofs.lemmas.Bool.{cases_eq}
use Rattle.std.proofs.lemmas.Option.{slice_get_past}
use Rattle.indexmap.specs.Layout.{set_value_at}
use Rattle.by_name.specs.At.{At}
use Rattle.by_name.specs.Filed.{IsOneOf, AgreeBut}

-- ---- lists that agree but at some places

module _ {X : Type 0} where
  pub slice_get-set_other : (xs : List X) (i p : ℕ) (x : X) → p ≢ i → slice_get (set xs i x) p ≡ slice_get xs p
  slice_get-set_other [] i p x apart = refl
  slice_get-set_other (y ∷ xs) zero zero x apart = absurd (apart refl)
  slice_get-set_other (y ∷ xs) zero (suc p) x apart = refl
  slice_get-set_other (y ∷ xs) (suc i) zero x apart = refl
  slice_get-set_other (y ∷ xs) (suc i) (suc p) x apart = slice_get-set_other xs i p x (λ e. apart (ap suc e))

  pub slice_get-take : (n p : ℕ) (xs : List X) → p < n → slice_get (take n xs) p ≡ slice_get xs p
  slice_get-take zero p xs h = absurd (omega arith)
  slice_get-take (suc n) p [] h = refl
  slice_get-take (suc n) zero (x ∷ xs) h = refl
  slice_get-take (suc n) (suc p) (x ∷ xs) h = slice_get-take n p xs (omega arith)

  pub length-take_within : (n : ℕ) (xs : List X) → length (take n xs) ≤ n
  length-take_within zero xs = omega arith
  length-take_within (suc n) [] = omega arith
  length-take_within (suc n) (x ∷ xs) = let h = length-take_within n xs in omega arith

  pub slice_get-swap_remove : (xs : List X) (i p : ℕ) (d : X) → p ≢ i → p ≢ length xs - 1 → slice_get (swap_remove xs i d) p ≡ slice_get xs p
  slice_get-swap_remove xs i p d apart other = ⊎_elim below past (Rattle.std.proofs.lemmas.Bool.cases_lt p (length xs - 1))
    where
      put : List X
      put = set xs i (get_or xs (length xs - 1) d)

      below : p < length xs - 1 → slice_get (take (length xs - 1) put) p ≡ slice_get xs p
      below h = slice_get-take (length xs - 1) p put h ∙ slice_get-set_other xs i p (get_or xs (length xs - 1) d) apart

      past : length xs - 1 ≤ p → slice_get (take (length xs - 1) put) p ≡ slice_get xs p
      past h =
          let short = length-take_within (length xs - 1) put in
          let more : length xs ≤ p = omega (arith, other) in
          slice_get_past (take (length xs - 1) put) p (omega arith) ∙ sym (slice_get_past xs p more)

abbrev pub both : List ℕ → List ℕ → List ℕ
both [] ys = ys
both (x ∷ xs) ys = x ∷ both xs ys

in_first : (xs ys : List ℕ) (p : ℕ) → IsOneOf xs p → IsOneOf (both xs ys) p
in_first [] ys p h = absurd h
in_first (x ∷ xs) ys p h = ⊎_elim inl (λ more. inr (in_first xs ys p more)) h

in_second : (xs ys : List ℕ) (p : ℕ) → IsOneOf ys p → IsOneOf (both xs ys) p
in_second [] ys p h = h
in_second (x ∷ xs) ys p h = inr (in_second xs ys p h)

module _ {T : Type 0} where
  pub values-set_value_at : (es : List (At × T)) (i : ℕ) (one : T) → values_of (set_value_at es i one) ≡ set (values_of es) i one
  values-set_value_at [] i one = refl
  values-set_value_at (e ∷ es) zero one = refl
  values-set_value_at (e ∷ es) (suc i) one = ap (λ (l : List T). e.1 ∷ l) (values-set_value_at es i one)

  pub agree-set : (es : List (At × T)) (i : ℕ) (one : T) → AgreeBut (i ∷ []) (values_of es) (values_of (set_value_at es i one))
  agree-set es i one place =
      ⊎_elim (λ e. inr (inl (sym e))) (λ apart. inl (ap (λ (l : List T). slice_get l place) (values-set_value_at es i one) ∙ slice_get-set_other (values_of es) i place one apart)) (cases_eq place i)

  -- one change after another
  pub agree-then : (xs ys : List ℕ) (one two three : List T) → AgreeBut xs two three → AgreeBut ys one two → AgreeBut (both xs ys) one three
  agree-then xs ys one two three h k place =
      ⊎_elim (λ e. ⊎_elim (λ f. inl (e ∙ f)) (λ m. inr (in_second xs ys place m)) (k place)) (λ m. inr (in_first xs ys place m)) (h place)

  pub agree-swap_remove : (es : List (At × T)) (i : ℕ) (d : At × T) → 0 < length es → AgreeBut (i ∷ (length es - 1) ∷ []) (values_of es) (values_of (swap_remove es i d))
  agree-swap_remove es i d some place =
      ⊎_elim (λ e. inr (inl (sym e)))
      (λ apart. ⊎_elim (λ e. inr (inr (inl (sym e)))) (λ other. inl (slice_get-map (swap_remove es i d) place ∙ ap (Rattle.std.specs.Option.option_map (λ (e : At × T). e.1)) (slice_get-swap_remove es i place d apart other) ∙ sym (slice_get-map es place))) (cases_eq place (length es - 1)))
      (cases_eq place i)
    where
      slice_get-map : (xs : List (At × T)) (p : ℕ) → slice_get (values_of xs) p ≡ Rattle.std.specs.Option.option_map (λ (e : At × T). e.1) (slice_get xs p)
      slice_get-map [] p = refl
      slice_get-map (x ∷ xs) zero = refl
      slice_get-map (x ∷ xs) (suc p) = slice_get-map xs p
