-- Lists of numbers: which they have, and what a test or a function makes of them.
use Rattle.std.proofs.Common.{◌≡◌, ℕ, zero, suc, ◌+◌, ◌<◌, ◌≤◌, ◌==◌, Bool, true, false, cond, ◌&&◌, ◌||◌, List, [], ◌∷◌, ◌++◌, map, refl, ap, ◌∙◌, sym, arith}
use Rattle.std.proofs.Math.Bool.{and-false}
use Rattle.std.proofs.lemmas.Bool.{or_left, or_right, and_from, and_parts}
use Rattle.std.proofs.lemmas.List.Folds.{list_all-append}
use Rattle.std.specs.Prelude.{filter, nat_lt}
use Rattle.std.specs.List.{list_any, list_all, flat_map}
use Rattle.lists.specs.Lists.{count_up}
pub use Rattle.sd_sessions.specs.Kept.{IsRising}

-- whether a list has a number
abbrev pub has : ℕ → List ℕ → Bool
has n ns = list_any (λ m. m == n) ns

pub has-first : (n : ℕ) (ns : List ℕ) → has n (n ∷ ns) ≡ true
has-first n ns = or_left (n == n) (has n ns) (grind arith)

pub has-later : (n m : ℕ) (ns : List ℕ) → has n ns ≡ true → has n (m ∷ ns) ≡ true
has-later n m ns h = or_right (m == n) (has n ns) h

-- what is one on the numbers of a list
pub filter-same : (p q : ℕ → Bool) (ns : List ℕ) → ((n : ℕ) → has n ns ≡ true → p n ≡ q n) → filter p ns ≡ filter q ns
filter-same p q [] same = refl
filter-same p q (n ∷ ns) same =
    ap (λ b. cond b (n ∷ filter p ns) (filter p ns)) (same n (has-first n ns))
    ∙ ap (λ zs. cond (q n) (n ∷ zs) zs) (filter-same p q ns (λ m h. same m (has-later m n ns h)))

pub map-same : {Y : Type 0} (f g : ℕ → Y) (ns : List ℕ) → ((n : ℕ) → has n ns ≡ true → f n ≡ g n) → map f ns ≡ map g ns
map-same f g [] same = refl
map-same f g (n ∷ ns) same =
    ap (λ y. y ∷ map f ns) (same n (has-first n ns)) ∙ ap (λ ys. g n ∷ ys) (map-same f g ns (λ m h. same m (has-later m n ns h)))

pub flat_map-same : {Y : Type 0} (f g : ℕ → List Y) (ns : List ℕ) → ((n : ℕ) → has n ns ≡ true → f n ≡ g n) → flat_map f ns ≡ flat_map g ns
flat_map-same f g [] same = refl
flat_map-same f g (n ∷ ns) same =
    ap (λ y. y ++ flat_map f ns) (same n (has-first n ns)) ∙ ap (λ ys. g n ++ ys) (flat_map-same f g ns (λ m h. same m (has-later m n ns h)))

-- a filtered list has what passes
pub has-filter : (n : ℕ) (p : ℕ → Bool) (ns : List ℕ) → has n (filter p ns) ≡ (p n && has n ns)
has-filter n p [] = sym (and-false (p n))
has-filter n p (m ∷ ns) = of (m == n) refl (has-filter n p ns)
  where
    swap : (a b c : Bool) → cond a (b || c) c ≡ ((a && b) || c)
    swap true b c = refl
    swap false b c = refl

    kept : (b : Bool) → has n (cond b (m ∷ filter p ns) (filter p ns)) ≡ cond b ((m == n) || has n (filter p ns)) (has n (filter p ns))
    kept true = refl
    kept false = refl

    here : (a b : Bool) → cond a true (a && b) ≡ (a && true)
    here true b = refl
    here false b = refl

    there : (a b : Bool) → cond a b b ≡ b
    there true b = refl
    there false b = refl

    of : (b : Bool) → (m == n) ≡ b → has n (filter p ns) ≡ (p n && has n ns) → has n (cond (p m) (m ∷ filter p ns) (filter p ns)) ≡ (p n && (b || has n ns))
    of true e rest =
        let one : m ≡ n = grind arith in
        kept (p m) ∙ ap (λ b. cond (p m) (b || has n (filter p ns)) (has n (filter p ns))) e
        ∙ ap (λ z. cond (p m) true z) rest ∙ ap (λ k. cond (p k) true (p n && has n ns)) one ∙ here (p n) (has n ns)
    of false e rest =
        kept (p m) ∙ ap (λ b. cond (p m) (b || has n (filter p ns)) (has n (filter p ns))) e ∙ there (p m) (has n (filter p ns)) ∙ rest

pub filter-filter : (p q : ℕ → Bool) (ns : List ℕ) → filter p (filter q ns) ≡ filter (λ n. q n && p n) ns
filter-filter p q [] = refl
filter-filter p q (n ∷ ns) = of (q n) (filter-filter p q ns)
  where
    of : (b : Bool) → filter p (filter q ns) ≡ filter (λ m. q m && p m) ns →
        filter p (cond b (n ∷ filter q ns) (filter q ns)) ≡ cond (b && p n) (n ∷ filter (λ m. q m && p m) ns) (filter (λ m. q m && p m) ns)
    of true rest = ap (λ zs. cond (p n) (n ∷ zs) zs) rest
    of false rest = rest

pub filter-append : (p : ℕ → Bool) (ms ns : List ℕ) → filter p (ms ++ ns) ≡ filter p ms ++ filter p ns
filter-append p [] ns = refl
filter-append p (m ∷ ms) ns = of (p m) (filter-append p ms ns)
  where
    of : (b : Bool) → filter p (ms ++ ns) ≡ filter p ms ++ filter p ns → cond b (m ∷ filter p (ms ++ ns)) (filter p (ms ++ ns)) ≡ cond b (m ∷ filter p ms) (filter p ms) ++ filter p ns
    of true rest = ap (λ zs. m ∷ zs) rest
    of false rest = rest

-- the numbers that are counted up
pub count_up-last : (first many : ℕ) → count_up first (suc many) ≡ count_up first many ++ (first + many) ∷ []
count_up-last first zero = ap (λ n. n ∷ []) (omega arith)
count_up-last first (suc many) = ap (λ zs. first ∷ zs) (count_up-last (first + 1) many) ∙ ap (λ n. first ∷ (count_up (first + 1) many ++ n ∷ [])) (omega arith)

pub has-count_up : (n first many : ℕ) → first ≤ n → n < first + many → has n (count_up first many) ≡ true
has-count_up n first zero low high = let no : ⊥ = omega arith in absurd no
has-count_up n first (suc many) low high = of (first == n) refl (λ l. has-count_up n (first + 1) many l (omega arith))
  where
    of : (b : Bool) → (first == n) ≡ b → (first + 1 ≤ n → has n (count_up (first + 1) many) ≡ true) → (b || has n (count_up (first + 1) many)) ≡ true
    of true e rest = refl
    of false e rest = rest (grind arith)

pub within-count_up : (n first many : ℕ) → has n (count_up first many) ≡ true → (first ≤ n) × (n < first + many)
within-count_up n first zero h = cc
within-count_up n first (suc many) h = of (first == n) refl h (within-count_up n (first + 1) many)
  where
    of : (b : Bool) → (first == n) ≡ b → (b || has n (count_up (first + 1) many)) ≡ true →
        (has n (count_up (first + 1) many) ≡ true → (first + 1 ≤ n) × (n < first + 1 + many)) → (first ≤ n) × (n < first + suc many)
    of true e g rest = let here : first ≡ n = grind arith in (omega arith, omega arith)
    of false e g rest = let later : (first + 1 ≤ n) × (n < first + 1 + many) = rest g in (omega (arith, later.0), omega (arith, later.1))

-- rising lists
pub all-filter : (p q : ℕ → Bool) (ns : List ℕ) → list_all q ns ≡ true → list_all q (filter p ns) ≡ true
all-filter p q [] h = refl
all-filter p q (n ∷ ns) h = of (p n) (q n) refl h (all-filter p q ns)
  where
    of : (b c : Bool) → q n ≡ c → (c && list_all q ns) ≡ true → (list_all q ns ≡ true → list_all q (filter p ns) ≡ true) → list_all q (cond b (n ∷ filter p ns) (filter p ns)) ≡ true
    of true true e g rest = ap (λ x. x && list_all q (filter p ns)) e ∙ rest g
    of false true e g rest = rest g
    of b false e g rest = cc

pub IsRising-filter : (p : ℕ → Bool) (ns : List ℕ) → IsRising ns → IsRising (filter p ns)
IsRising-filter p [] h = tt
IsRising-filter p (n ∷ ns) h = of (p n) (IsRising-filter p ns h.1)
  where
    of : (b : Bool) → IsRising (filter p ns) → IsRising (cond b (n ∷ filter p ns) (filter p ns))
    of true rest = (all-filter p (nat_lt n) ns h.0, rest)
    of false rest = rest

above-count_up : (n first many : ℕ) → n < first → list_all (nat_lt n) (count_up first many) ≡ true
above-count_up n first zero l = refl
above-count_up n first (suc many) l =
    let less : nat_lt n first ≡ true = grind arith in
    ap (λ b. b && list_all (nat_lt n) (count_up (first + 1) many)) less ∙ above-count_up n (first + 1) many (omega arith)

pub IsRising-count_up : (first many : ℕ) → IsRising (count_up first many)
IsRising-count_up first zero = tt
IsRising-count_up first (suc many) = (above-count_up first (first + 1) many (omega arith), IsRising-count_up (first + 1) many)

-- one number more, above all others
pub IsRising-last : (n : ℕ) (ns : List ℕ) → list_all (λ m. nat_lt m n) ns ≡ true → IsRising ns → IsRising (ns ++ n ∷ [])
IsRising-last n [] below h = (refl, tt)
IsRising-last n (m ∷ ns) below h =
    let parts = and_parts (nat_lt m n) (list_all (λ k. nat_lt k n) ns) below in (
      list_all-append (nat_lt m) ns (n ∷ []) ∙ and_from (list_all (nat_lt m) ns) (nat_lt m n && true) h.0 (and_from (nat_lt m n) true parts.0 refl),
      IsRising-last n ns parts.1 h.1,
    )

-- what a test passes that passes more
pub all-more : (p q : ℕ → Bool) → ((n : ℕ) → p n ≡ true → q n ≡ true) → (ns : List ℕ) → list_all p ns ≡ true → list_all q ns ≡ true
all-more p q more [] h = refl
all-more p q more (n ∷ ns) h =
    let parts = and_parts (p n) (list_all p ns) h in and_from (q n) (list_all q ns) (more n parts.0) (all-more p q more ns parts.1)
