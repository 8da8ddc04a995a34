-- Lists of operations in another order.
use Rattle.std.proofs.Common.{◌≡◌, eqb, Bool, true, false, cond, List, [], ◌∷◌, IsPermutation, refl, sym, ap, subst, ◌∙◌}
use Rattle.std.specs.List.{list_any}
use Rattle.std.proofs.lemmas.Bool.{and_parts, and_from, eqb-true, eq-eqb}
use Rattle.std.proofs.lemmas.List.Sorted.{IsPermutation-refl, IsPermutation-trans, IsPermutation-cons, IsPermutation-append_left, IsPermutation-append_comm}
use Rattle.lists.proofs.Permutations.{along_permutation}
use Rattle.sd_index.specs.declared.asker.Asker.{Asker}
use Rattle.sd_index.specs.Asked.{asker_eq}

pub asker_same : (one other : Asker) → asker_eq one other ≡ true → one ≡ other
asker_same one other e =
    let parts = and_parts (eqb one.session other.session) (eqb one.op other.op) e in
    let session = eqb-true one.session other.session parts.0 in
    let op = eqb-true one.op other.op parts.1 in
    λ i. record { session = session i; op = op i }

pub asker_self : (one : Asker) → asker_eq one one ≡ true
asker_self one = and_from (eqb one.session one.session) (eqb one.op one.op) (eq-eqb one.session one.session refl) (eq-eqb one.op one.op refl)

-- a list without the first that is an operation
less : Asker → List Asker → List Asker
less one [] = []
less one (x ∷ xs) = cond (asker_eq one x) xs (x ∷ less one xs)

abbrev Both : Asker → List Asker → List Asker → Type 0
Both one xs ys = IsPermutation xs ys × IsPermutation (less one xs) (less one ys)

turned : (x y : Asker) (xs : List Asker) → IsPermutation (x ∷ y ∷ xs) (y ∷ x ∷ xs)
turned x y xs = IsPermutation-append_left xs (x ∷ y ∷ []) (y ∷ x ∷ []) (IsPermutation-append_comm (x ∷ []) (y ∷ []))

module _ (one : Asker) where
  skip : (x : Asker) (xs ys : List Asker) → Both one xs ys → Both one (x ∷ xs) (x ∷ ys)
  unfolding less
  skip x xs ys h = (IsPermutation-cons x xs ys h.0, of (asker_eq one x))
    where
      of : (b : Bool) → IsPermutation (cond b xs (x ∷ less one xs)) (cond b ys (x ∷ less one ys))
      of true = h.0
      of false = IsPermutation-cons x _ _ h.1

  turn : (x y : Asker) (xs : List Asker) → Both one (x ∷ y ∷ xs) (y ∷ x ∷ xs)
  unfolding less
  turn x y xs = (turned x y xs, of (asker_eq one x) refl (asker_eq one y) refl)
    where
      of : (b : Bool) → asker_eq one x ≡ b → (c : Bool) → asker_eq one y ≡ c →
          IsPermutation (cond b (y ∷ xs) (x ∷ cond c xs (y ∷ less one xs))) (cond c (x ∷ xs) (y ∷ cond b xs (x ∷ less one xs)))
      of true e true f = subst (λ (z : Asker). IsPermutation (y ∷ xs) (z ∷ xs)) (sym (asker_same one y f) ∙ asker_same one x e) (IsPermutation-refl (y ∷ xs))
      of true e false f = IsPermutation-refl (y ∷ xs)
      of false e true f = IsPermutation-refl (x ∷ xs)
      of false e false f = turned x y (less one xs)

  both : (xs ys : List Asker) → IsPermutation xs ys → Both one xs ys
  both = along_permutation (Both one) (λ xs. (IsPermutation-refl xs, IsPermutation-refl (less one xs))) skip turn
      (λ xs ys zs h k. (IsPermutation-trans xs ys zs h.0 k.0, IsPermutation-trans (less one xs) (less one ys) (less one zs) h.1 k.1))

  less_head : (xs : List Asker) → less one (one ∷ xs) ≡ xs
  unfolding less
  less_head xs = ap (λ (b : Bool). cond b xs (one ∷ less one xs)) (asker_self one)

  -- what is left when the same operation is left out
  pub left_out : (xs ys : List Asker) → IsPermutation (one ∷ xs) (one ∷ ys) → IsPermutation xs ys
  left_out xs ys h =
      subst (λ (l : List Asker). IsPermutation l ys) (less_head xs) (subst (IsPermutation (less one (one ∷ xs))) (less_head ys) (both (one ∷ xs) (one ∷ ys) h).1)

-- whoever is at the head is there
pub head_there : (one : Asker) (xs : List Asker) → list_any (asker_eq one) (one ∷ xs) ≡ true
head_there one xs = Rattle.std.proofs.lemmas.Bool.or_left (asker_eq one one) (list_any (asker_eq one) xs) (asker_self one)
