-- The values, number by number: all of them, and those of a name in the order of their numbers.
use Rattle.std.proofs.Common.{◌≡◌, ℕ, zero, suc, ◌+◌, ◌<◌, ◌≤◌, eqb, max, Bool, true, false, cond, ⊎_elim, List, [], ◌∷◌, ◌++◌, map, filter, Option, Some, None, slice_get, refl, sym, ap, subst, ◌∙◌, arith, IsPermutation}
use Rattle.std.specs.Prelude.{IsSome}
use Rattle.std.specs.Option.{option_to_list}
use Rattle.std.specs.List.{flat_map, AllByRecursion, IsDistinct}
use Rattle.std.specs.Str.{bytes_eq}
use Rattle.std.specs.Map.{keys_of, values_of, lookup}
use Rattle.std.proofs.lemmas.Bool.{and_from, and_left, and_right, false≢true, eqb-true, eq-eqb, ne_eqb, cases_eq}
use Rattle.std.proofs.lemmas.List.Elements.{filter-append}
use Rattle.std.proofs.lemmas.List.Sorted.{IsPermutation-refl, IsPermutation-trans, IsPermutation-cons, IsPermutation-middle, IsPermutation-append_right}
use Rattle.lists.specs.Lists.{count_up}
use Rattle.by_name.specs.At.{At, at, at_eq}
use Rattle.by_name.specs.Filed.{found, above, numbered, in_layers, AreFiled}
use Rattle.by_name.proofs.Finding.{at_same}

filter-flat_map : {X Y : Type 0} (p : Y → Bool) (f : X → List Y) (xs : List X) → filter p (flat_map f xs) ≡ flat_map (λ x. filter p (f x)) xs
filter-flat_map p f [] = refl
filter-flat_map p f (x ∷ xs) = filter-append p (f x) (flat_map f xs) ∙ ap (λ l. filter p (f x) ++ l) (filter-flat_map p f xs)

flat_map-ext : {X Y : Type 0} (f g : X → List Y) → ((x : X) → f x ≡ g x) → (xs : List X) → flat_map f xs ≡ flat_map g xs
flat_map-ext f g same [] = refl
flat_map-ext f g same (x ∷ xs) = λ i. same x i ++ flat_map-ext f g same xs i

module _ {T : Type 0} where
  -- ---- all of them

  -- an entry of a lower number is in no layer
  skipped : (e : At × T) (es : List (At × T)) (first n : ℕ) → e.0.number < first → flat_map (numbered (e ∷ es)) (count_up first n) ≡ flat_map (numbered es) (count_up first n)
  skipped e es first zero h = refl
  skipped e es first (suc n) h =
      (λ i. ap (λ (b : Bool). map (λ (x : At × T). x.1) (cond b (e ∷ filter (λ (x : At × T). eqb x.0.number first) es) (filter (λ (x : At × T). eqb x.0.number first) es))) (ne_eqb e.0.number first (λ q. absurd (omega arith))) i
      ++ skipped e es (first + 1) n (omega arith) i)

  one_more : (e : At × T) (es : List (At × T)) (first n : ℕ) → first ≤ e.0.number → e.0.number < first + n →
      IsPermutation (flat_map (numbered (e ∷ es)) (count_up first n)) (e.1 ∷ flat_map (numbered es) (count_up first n))
  one_more e es first zero h k = absurd (omega arith)
  one_more e es first (suc n) h k = ⊎_elim here (λ apart. later apart (one_more e es (first + 1) n (omega (arith, apart)) (omega arith))) (cases_eq e.0.number first)
    where
      Rest : List T
      Rest = flat_map (numbered es) (count_up (first + 1) n)

      layer : Bool → List T
      layer b = map (λ (x : At × T). x.1) (cond b (e ∷ filter (λ (x : At × T). eqb x.0.number first) es) (filter (λ (x : At × T). eqb x.0.number first) es))

      here : e.0.number ≡ first → IsPermutation (numbered (e ∷ es) first ++ flat_map (numbered (e ∷ es)) (count_up (first + 1) n)) (e.1 ∷ (numbered es first ++ Rest))
      here q =
          subst (λ (l : List T). IsPermutation l (e.1 ∷ (numbered es first ++ Rest)))
          (λ i. ap layer (sym (eq-eqb e.0.number first q)) i ++ sym (skipped e es (first + 1) n (omega (arith, q))) i)
          (IsPermutation-refl (e.1 ∷ (numbered es first ++ Rest)))

      later : (e.0.number ≡ first → ⊥) → IsPermutation (flat_map (numbered (e ∷ es)) (count_up (first + 1) n)) (e.1 ∷ Rest) →
          IsPermutation (numbered (e ∷ es) first ++ flat_map (numbered (e ∷ es)) (count_up (first + 1) n)) (e.1 ∷ (numbered es first ++ Rest))
      later apart ih =
          subst (λ (l : List T). IsPermutation (l ++ flat_map (numbered (e ∷ es)) (count_up (first + 1) n)) (e.1 ∷ (numbered es first ++ Rest))) (ap layer (sym (ne_eqb e.0.number first apart)))
          (IsPermutation-trans _ _ _ (IsPermutation-append_right (numbered es first) _ _ ih) (IsPermutation-middle (numbered es first) e.1 Rest))

  nothing : (first n : ℕ) → flat_map (numbered {T = T} []) (count_up first n) ≡ []
  nothing first zero = refl
  nothing first (suc n) = nothing (first + 1) n

  each-weaker : (P Q : At × T → Type 0) → ((e : At × T) → Q e → P e) → (es : List (At × T)) → AllByRecursion Q es → AllByRecursion P es
  each-weaker P Q gives [] h = tt
  each-weaker P Q gives (e ∷ es) h = (gives e h.0, each-weaker P Q gives es h.1)

  abbrev AreBelow : ℕ → List (At × T) → Type 0
  AreBelow n es = AllByRecursion (λ (e : At × T). e.0.number < n) es

  are_below : (es : List (At × T)) → AreBelow (above es) es
  are_below [] = tt
  are_below (e ∷ es) = (omega arith, each-weaker (λ (x : At × T). x.0.number < max (e.0.number + 1) (above es)) (λ (x : At × T). x.0.number < above es) (λ x h. omega arith) es (are_below es))

  layered : (n : ℕ) (es : List (At × T)) → AreBelow n es → IsPermutation (flat_map (numbered es) (count_up 0 n)) (values_of es)
  layered n [] below = subst (λ (l : List T). IsPermutation l []) (sym (nothing 0 n)) (IsPermutation-refl [])
  layered n (e ∷ es) below =
      IsPermutation-trans _ _ _ (one_more e es 0 n (omega arith) (omega (arith, below.0))) (IsPermutation-cons e.1 _ _ (layered n es below.1))

  pub in_layers-permutes : (es : List (At × T)) → IsPermutation (in_layers es) (values_of es)
  in_layers-permutes es = layered (above es) es (are_below es)

  -- ---- those of a name

  -- no key of the rest is this one
  none_found : (k : At) (es : List (At × T)) → AllByRecursion (λ (y : At). at_eq k y ≡ false) (keys_of es) → lookup (at_eq k) es ≡ None
  none_found k [] h = refl
  none_found k (e ∷ es) h = ap (λ (b : Bool). cond b (Some e.1) (lookup (at_eq k) es)) h.0 ∙ none_found k es h.1

  -- a test tells the values of an owner
  abbrev pub AreTold : (T → Bool) → List ℕ → List (At × T) → Type 0
  AreTold test owner es = AllByRecursion (λ (e : At × T). test e.1 ≡ bytes_eq owner e.0.owner) es

  -- a layer has at most one value of an owner
  of_layer : (test : T → Bool) (owner : List ℕ) (number : ℕ) (es : List (At × T)) → AreTold test owner es → IsDistinct at_eq (keys_of es) → filter test (numbered es number) ≡ option_to_list (found owner number es)
  unfolding IsDistinct
  of_layer test owner number [] named distinct = refl
  of_layer test owner number (e ∷ es) named distinct = of (eqb e.0.number number) (bytes_eq owner e.0.owner) refl refl (of_layer test owner number es named.1 distinct.1)
    where
      turned : eqb number e.0.number ≡ eqb e.0.number number
      turned = Rattle.std.specs.Cmp.both_ways (eqb number e.0.number) (eqb e.0.number number) (λ q. eq-eqb e.0.number number (sym (eqb-true number e.0.number q))) (λ q. eq-eqb number e.0.number (sym (eqb-true e.0.number number q)))

      rest : List T
      rest = numbered es number

      of : (b c : Bool) → eqb e.0.number number ≡ b → bytes_eq owner e.0.owner ≡ c → filter test rest ≡ option_to_list (found owner number es) →
          filter test (map (λ (x : At × T). x.1) (cond b (e ∷ filter (λ (x : At × T). eqb x.0.number number) es) (filter (λ (x : At × T). eqb x.0.number number) es)))
          ≡ option_to_list (found owner number (e ∷ es))
      of false c p q ih =
          ih ∙ ap option_to_list (sym (ap (λ (b : Bool). cond b (Some e.1) (found owner number es)) (and_right (bytes_eq owner e.0.owner) (eqb number e.0.number) (turned ∙ p))))
      of true false p q ih =
          ap (λ (b : Bool). cond b (e.1 ∷ filter test rest) (filter test rest)) (named.0 ∙ q)
          ∙ ih ∙ ap option_to_list (sym (ap (λ (b : Bool). cond b (Some e.1) (found owner number es)) (and_left (bytes_eq owner e.0.owner) (eqb number e.0.number) q)))
      of true true p q ih =
          ap (λ (b : Bool). cond b (e.1 ∷ filter test rest) (filter test rest)) (named.0 ∙ q)
          ∙ ap (λ (l : List T). e.1 ∷ l) (ih ∙ ap option_to_list alone)
          ∙ ap option_to_list (sym (ap (λ (b : Bool). cond b (Some e.1) (found owner number es)) hit))
        where
          hit : at_eq (at owner number) e.0 ≡ true
          hit = and_from (bytes_eq owner e.0.owner) (eqb number e.0.number) q (turned ∙ p)

          alone : found owner number es ≡ None
          alone = subst (λ (k : At). lookup (at_eq k) es ≡ None) (sym (at_same (at owner number) e.0 hit)) (none_found e.0 es distinct.0)

  module _ (g : ℕ → Option T) (gapless : (k : ℕ) → IsSome (g (suc k)) → IsSome (g k)) where
    no_some : (o : Option T) → o ≡ None → IsSome o → ⊥
    no_some None e h = false≢true h
    no_some (Some x) e h = cc

    none_or : (o : Option T) → (IsSome o → ⊥) → o ≡ None
    none_or None h = refl
    none_or (Some x) h = absurd (h refl)

    none_behind : (k p : ℕ) → g k ≡ None → g (k + p) ≡ None
    none_behind k zero e = subst (λ (n : ℕ). g n ≡ None) (let q : k ≡ k + 0 = omega arith in q) e
    none_behind k (suc p) e =
        subst (λ (n : ℕ). g n ≡ None) (let q : suc (k + p) ≡ k + suc p = omega arith in q)
        (none_or (g (suc (k + p))) (λ h. no_some (g (k + p)) (none_behind k p e) (gapless (k + p) h)))

    nothing_behind : (first n : ℕ) → g first ≡ None → flat_map (λ k. option_to_list (g k)) (count_up first n) ≡ []
    nothing_behind first zero e = refl
    nothing_behind first (suc n) e =
        (λ i. option_to_list (e i) ++ nothing_behind (first + 1) n (none_behind first 1 e) i)

    run : (first n p : ℕ) → g (first + n) ≡ None → slice_get (flat_map (λ k. option_to_list (g k)) (count_up first n)) p ≡ g (first + p)
    run first zero p e =
        sym (none_behind first p (subst (λ (m : ℕ). g m ≡ None) (let q : first + 0 ≡ first = omega arith in q) e))
    run first (suc n) p e =
        of (g first) refl p (λ q. run (first + 1) n q (subst (λ (m : ℕ). g m ≡ None) (let r : first + suc n ≡ (first + 1) + n = omega arith in r) e))
      where
        Rest : List T
        Rest = flat_map (λ k. option_to_list (g k)) (count_up (first + 1) n)

        of : (o : Option T) → g first ≡ o → (q : ℕ) → ((q : ℕ) → slice_get Rest q ≡ g (first + 1 + q)) → slice_get (option_to_list (g first) ++ Rest) q ≡ g (first + q)
        of None f q ih = ap (λ (l : List T). slice_get l q) (nothing_behind first (suc n) f) ∙ sym (none_behind first q f)
        of (Some x) f zero ih = ap (λ (o : Option T). slice_get (option_to_list o ++ Rest) 0) f ∙ sym f ∙ ap g (let r : first ≡ first + 0 = omega arith in r)
        of (Some x) f (suc q) ih =
            ap (λ (o : Option T). slice_get (option_to_list o ++ Rest) (suc q)) f ∙ ih q ∙ ap g (let r : first + 1 + q ≡ first + suc q = omega arith in r)

  above_none : (owner : List ℕ) (n : ℕ) (es : List (At × T)) → AreBelow n es → found owner n es ≡ None
  above_none owner n [] below = refl
  above_none owner n (e ∷ es) below =
      ap (λ (b : Bool). cond b (Some e.1) (found owner n es)) (and_right (bytes_eq owner e.0.owner) (eqb n e.0.number) (ne_eqb n e.0.number (λ q. absurd (omega (arith, below.0))))) ∙ above_none owner n es below.1

  -- the values of an owner stand in the order of their numbers
  pub visited : (test : T → Bool) (owner : List ℕ) (place : ℕ) (es : List (At × T)) → AreTold test owner es → AreFiled es → slice_get (filter test (in_layers es)) place ≡ found owner place es
  visited test owner place es told filed =
      ap (λ (l : List T). slice_get l place)
      (filter-flat_map (test) (numbered es) (count_up 0 (above es))
      ∙ flat_map-ext (λ k. filter test (numbered es k)) (λ k. option_to_list (found owner k es)) (λ k. of_layer test owner k es told filed.distinct) (count_up 0 (above es)))
      ∙ run (λ k. found owner k es) (λ k. filed.gapless owner k) 0 (above es) place (subst (λ (n : ℕ). found owner n es ≡ None) (let q : above es ≡ 0 + above es = omega arith in q) (above_none owner (above es) es (are_below es)))
      ∙ ap (λ (k : ℕ). found owner k es) (let q : 0 + place ≡ place = omega arith in q)
