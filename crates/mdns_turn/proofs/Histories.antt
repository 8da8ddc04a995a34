-- Lemmas on histories: the turns of one seat, beginnings, and numbers that differ.
use Rattle.std.proofs.Common.{◌≡◌, ℕ, zero, suc, ◌<◌, ◌≤◌, cond, Bool, ◌≢◌, ◌==◌, List, [], ◌∷◌, ◌++◌, map, filter, length, set, sym, refl, ap, ◌∙◌, subst, inl, inr, ◌⊎◌, arith, append_assoc, append-nil, eq-eqb, ne_eqb, lt-ltb, le-ltb, All, AllPairs}
use Rattle.std.proofs.lemmas.List.Elements.{All-nil, All-cons, All-head, All-tail, All-append, filter-append}
use Rattle.std.proofs.lemmas.List.Kept.{AllPairs-cons}
use Rattle.std.proofs.lemmas.List.{map-append}
use mathlib.Core.Logic.{dite}
use mathlib.Core.Option.{some, some-ne-none}
use native.Mathlib.Decide.{dec_le}
use lib.ListN.{get_elem?}
use Rattle.mdns_turn.specs.History.{StartsWith, turns, turns_of, longer, HasTurns}

module _ {E : Type 0} where
  pub turns_of-append : (n : ℕ) (xs ys : List (ℕ × E)) → turns_of n (xs ++ ys) ≡ turns_of n xs ++ turns_of n ys
  turns_of-append n xs ys = let has = λ (p : ℕ × E). p.0 == n in ap turns (filter-append has xs ys) ∙ map-append (λ (p : ℕ × E). p.1) (filter has xs) (filter has ys)

  -- one more turn of the same seat
  pub turns_of-more : (n : ℕ) (xs : List (ℕ × E)) (x : E) → turns_of n (xs ++ (n, x) ∷ []) ≡ turns_of n xs ++ x ∷ []
  turns_of-more n xs x = turns_of-append n xs ((n, x) ∷ []) ∙ ap (λ (b : Bool). turns_of n xs ++ turns (cond b ((n, x) ∷ []) [])) (eq-eqb n n refl)

  -- and of another
  pub turns_of-other : (k n : ℕ) (xs : List (ℕ × E)) (x : E) → n ≢ k → turns_of k (xs ++ (n, x) ∷ []) ≡ turns_of k xs
  turns_of-other k n xs x ne = turns_of-append k xs ((n, x) ∷ []) ∙ (ap (λ (b : Bool). turns_of k xs ++ turns (cond b ((n, x) ∷ []) [])) (ne_eqb n k ne) ∙ append-nil (turns_of k xs))

  nil_left : (xs ys : List E) → xs ++ ys ≡ [] → xs ≡ []
  nil_left [] ys e = refl
  nil_left (x ∷ xs) ys e = cc

  -- a beginning of a history has no turn of a seat that the history has none of
  pub turns_of-none : (n : ℕ) (all seen : List (ℕ × E)) → StartsWith all seen → turns_of n all ≡ [] → turns_of n seen ≡ []
  turns_of-none n all seen s e = nil_left (turns_of n seen) (turns_of n s.0) (sym (turns_of-append n seen s.0) ∙ (ap (turns_of n) (sym s.1) ∙ e))

  squeezed : (xs a b : List E) → (xs ++ a) ++ b ≡ xs → xs ++ a ≡ xs
  squeezed [] a b e = nil_left a b e
  squeezed (x ∷ xs) a b e = let t : (xs ++ a) ++ b ≡ xs = cc in ap (λ (l : List E). x ∷ l) (squeezed xs a b t)

  -- a list between two that have the same turns of a seat has them too
  pub turns_of-between : (n : ℕ) (all mid seen : List (ℕ × E)) (mine : List E) → StartsWith all mid → StartsWith mid seen → turns_of n all ≡ mine → turns_of n seen ≡ mine → turns_of n mid ≡ mine
  turns_of-between n all mid seen mine s t in_all in_seen =
      let a : turns_of n mid ≡ mine ++ turns_of n t.0 = ap (turns_of n) t.1 ∙ (turns_of-append n seen t.0 ∙ ap (λ (l : List E). l ++ turns_of n t.0) in_seen) in
      let b : turns_of n mid ++ turns_of n s.0 ≡ mine = sym (turns_of-append n mid s.0) ∙ (ap (turns_of n) (sym s.1) ∙ in_all) in
      a ∙ squeezed mine (turns_of n t.0) (turns_of n s.0) (ap (λ (l : List E). l ++ turns_of n s.0) (sym a) ∙ b)

module _ {A : Type 0} where
  pub starts_same : (xs : List A) → StartsWith xs xs
  starts_same xs = ([], sym (append-nil xs))

  pub starts_nil : (xs : List A) → StartsWith xs []
  starts_nil xs = (xs, refl)

  pub starts_more : (all seen more : List A) → StartsWith all seen → StartsWith (all ++ more) seen
  starts_more all seen more s = (s.0 ++ more, ap (λ (l : List A). l ++ more) s.1 ∙ append_assoc seen s.0 more)

  -- of two beginnings of one list the shorter begins the longer
  shorter : (xs ys r q : List A) → xs ++ r ≡ ys ++ q → length xs ≤ length ys → StartsWith ys xs
  shorter [] ys r q e le = (ys, refl)
  shorter (x ∷ xs) [] r q e le = absurd (omega arith)
  shorter (x ∷ xs) (y ∷ ys) r q e le = let t : StartsWith ys xs = shorter xs ys r q (cc) (omega arith) in let h : x ≡ y = cc in (t.0, (λ i. sym h i ∷ t.1 i))

  shorter_starts : (all xs ys : List A) → StartsWith all xs → StartsWith all ys → length xs ≤ length ys → StartsWith ys xs
  shorter_starts all xs ys s t le = shorter xs ys s.0 t.0 (sym s.1 ∙ t.1) le

  -- of two beginnings both begin the longer
  pub longer_starts : (all xs ys : List A) → StartsWith all xs → StartsWith all ys
      → StartsWith all (longer xs ys) × StartsWith (longer xs ys) xs × StartsWith (longer xs ys) ys × ((longer xs ys ≡ xs) ⊎ (longer xs ys ≡ ys))
  longer_starts all xs ys s t = let P : List A → Type 0 = λ l. StartsWith all l × StartsWith l xs × StartsWith l ys × ((l ≡ xs) ⊎ (l ≡ ys)) in
      dite (dec_le (length ys) (length xs))
      (λ le. subst P (ap (λ (b : Bool). cond b ys xs) (sym (le-ltb (length xs) (length ys) le))) (s, starts_same xs, shorter_starts all ys xs t s le, inl refl))
      (λ gt. let lt : length xs < length ys = omega arith in subst P (ap (λ (b : Bool). cond b ys xs) (sym (lt-ltb (length xs) (length ys) lt))) (t, shorter_starts all xs ys s t (omega arith), starts_same ys, inr refl))

  pub get_set : (l : List A) (i : ℕ) (a b : A) → get_elem? l i ≡ some a → get_elem? (set l i b) i ≡ some b
  get_set [] i a b e = absurd (some-ne-none a (sym e))
  get_set (x ∷ xs) zero a b e = refl
  get_set (x ∷ xs) (suc i) a b e = get_set xs i a b e

module _ {X : Type 0} (R : X → X → Type 0) where
  pub AllPairs-head : (x : X) (xs : List X) → AllPairs R (x ∷ xs) → All (R x) xs
  AllPairs-head x xs h k d below = h 0 (suc k) d (omega arith) (omega arith)

  pub AllPairs-tail : (x : X) (xs : List X) → AllPairs R (x ∷ xs) → AllPairs R xs
  AllPairs-tail x xs h i j d before below = h (suc i) (suc j) d (omega arith) (omega arith)

  AllPairs-nil : AllPairs R []
  AllPairs-nil i j d before below = absurd (omega arith)

  pub AllPairs-one : (x : X) → AllPairs R (x ∷ [])
  AllPairs-one x = AllPairs-cons R x [] (All-nil (R x)) AllPairs-nil

  pub AllPairs-append : (xs ys : List X) → AllPairs R xs → AllPairs R ys → All (λ x. All (R x) ys) xs → AllPairs R (xs ++ ys)
  AllPairs-append [] ys p q h = q
  AllPairs-append (x ∷ xs) ys p q h =
      AllPairs-cons R x (xs ++ ys) (All-append (R x) xs ys (AllPairs-head x xs p) (All-head (λ z. All (R z) ys) x xs h)) (AllPairs-append xs ys (AllPairs-tail x xs p) q (All-tail (λ z. All (R z) ys) x xs h))

All-unmap : {X Y : Type 0} (P : X → Type 0) (f : Y → X) (ys : List Y) → All P (map f ys) → All (λ y. P (f y)) ys
All-unmap P f [] h = All-nil (λ y. P (f y))
All-unmap P f (y ∷ ys) h = All-cons (λ z. P (f z)) y ys (All-head P (f y) (map f ys) h) (All-unmap P f ys (All-tail P (f y) (map f ys) h))

-- no other member has the number of the first
pub others_differ : {E : Type 0} (n : ℕ) (others : List (ℕ × List E)) → AllPairs (λ k m. k ≢ m) (n ∷ map (λ other. other.0) others) → All (λ other. n ≢ other.0) others
others_differ n others apart = All-unmap (λ m. n ≢ m) (λ other. other.0) others (AllPairs-head (λ k m. k ≢ m) n (map (λ other. other.0) others) apart)

-- one more turn of the seat itself
pub has_more : {E : Type 0} (seen : List (ℕ × E)) (n : ℕ) (own : List E) (others : List (ℕ × List E)) (x : E) → HasTurns seen n own others → HasTurns (seen ++ (n, x) ∷ []) n (own ++ x ∷ []) others
has_more {E} seen n own others x h = record {
  mine = turns_of-more n seen x ∙ ap (λ (l : List E). l ++ x ∷ []) h.mine;
  joined = λ k d below. turns_of-other _ n seen x (others_differ n others h.apart k d below) ∙ h.joined k d below;
  apart = h.apart;
}
