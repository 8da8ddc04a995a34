-- Groups with different numbers, and lengths of lists.
use Rattle.std.proofs.Common.{◌≡◌, ℕ, suc, ◌==◌, ◌≤◌, ◌≢◌, ◌⊎◌, inl, inr, Bool, true, false, cond, List, [], ◌∷◌, ◌++◌, map, length, Option, Some, refl, ap, ◌∙◌, sym, arith}
use Rattle.std.specs.Prelude.{filter}
use Rattle.std.specs.Option.{option_map_or}
use Rattle.mdns_history.specs.Groups.{Group}
use Rattle.mdns_asserts.proofs.Elements.{In, of_append, of_filter}

-- groups with different numbers
abbrev pub HaveNumbers : List Group → Type 0
HaveNumbers [] = Unit {0}
HaveNumbers (g ∷ gs) = ((other : Group) → In other gs → other.id ≢ g.id) × HaveNumbers gs

same_id : (a b : ℕ) → (a == b) ≡ true → a ≡ b
same_id a b e = grind (arith, e)

pub other_id : (a b : ℕ) → a ≢ b → (a == b) ≡ false
other_id a b n = of (a == b) refl
  where
    of : (c : Bool) → (a == b) ≡ c → c ≡ false
    of true e = absurd (n (same_id a b e))
    of false e = refl

pub own_id : (a : ℕ) → (a == a) ≡ true
own_id a = grind arith

pub some_eq : (a b : ℕ) → Some a ≡ Some b → a ≡ b
some_eq a b e = ap (λ (o : Option ℕ). option_map_or (λ x. x) o 0) e

pub few_filter : {X : Type 0} (p : X → Bool) (xs : List X) → length (filter p xs) ≤ length xs
few_filter p [] = omega arith
few_filter p (x ∷ xs) = of (p x) (few_filter p xs)
  where
    of : (b : Bool) → length (filter p xs) ≤ length xs → length (cond b (x ∷ filter p xs) (filter p xs)) ≤ suc (length xs)
    of true l = omega (arith, l)
    of false l = omega (arith, l)

pub length_map : {X Y : Type 0} (f : X → Y) (xs : List X) → length (map f xs) ≡ length xs
length_map f [] = refl
length_map f (x ∷ xs) = ap suc (length_map f xs)

-- groups with different numbers: fewer of them, and one more
pub numbers_filter : (p : Group → Bool) (gs : List Group) → HaveNumbers gs → HaveNumbers (filter p gs)
numbers_filter p [] h = tt
numbers_filter p (g ∷ gs) h = of (p g) (numbers_filter p gs h.1)
  where
    of : (b : Bool) → HaveNumbers (filter p gs) → HaveNumbers (cond b (g ∷ filter p gs) (filter p gs))
    of true rest = ((λ other m. h.0 other (of_filter p other gs m).0), rest)
    of false rest = rest

pub numbers_last : (gs : List Group) (last : Group) → HaveNumbers gs → ((other : Group) → In other gs → last.id ≢ other.id) → HaveNumbers (gs ++ last ∷ [])
numbers_last [] last h new = ((λ other m. absurd m), tt)
numbers_last (g ∷ gs) last h new = ((λ other m. of other (of_append other gs (last ∷ []) m)), numbers_last gs last h.1 (λ other m. new other (inr m)))
  where
    of : (other : Group) → In other gs ⊎ In other (last ∷ []) → other.id ≢ g.id
    of other (inl m) = h.0 other m
    of other (inr (inl e)) = λ k. absurd (new g (inl refl) (sym (ap (λ (x : Group). x.id) e) ∙ k))
    of other (inr (inr m)) = absurd m

-- groups of one number are one
pub numbers_one : (gs : List Group) → HaveNumbers gs → (a b : Group) → In a gs → In b gs → a.id ≡ b.id → a ≡ b
numbers_one [] h a b m n e = absurd m
numbers_one (g ∷ gs) h a b (inl i) (inl j) e = i ∙ sym j
numbers_one (g ∷ gs) h a b (inl i) (inr n) e = absurd (h.0 b n (sym e ∙ ap (λ (x : Group). x.id) i))
numbers_one (g ∷ gs) h a b (inr m) (inl j) e = absurd (h.0 a m (e ∙ ap (λ (x : Group). x.id) j))
numbers_one (g ∷ gs) h a b (inr m) (inr n) e = numbers_one gs h.1 a b m n e
