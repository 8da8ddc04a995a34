-- Lists that have each number once are no longer than lists that have all these numbers.
use Rattle.std.proofs.Common.{◌≡◌, ℕ, zero, suc, ◌+◌, ◌<◌, ◌≤◌, ◌==◌, Bool, true, false, cond, not, ◌&&◌, ◌||◌, List, [], ◌∷◌, ◌++◌, length, refl, ap, ◌∙◌, sym, arith}
use Rattle.std.specs.Prelude.{filter}
use Rattle.std.specs.List.{list_any}
use Rattle.std.proofs.Math.Bool.{and-false}
use Rattle.std.proofs.lemmas.Bool.{or_left, or_right}
use Rattle.std.proofs.lemmas.Map.Views.{any-filter_same}
use Rattle.std.proofs.lemmas.List.Filters.{length-filter_both}
use Rattle.lists.specs.Lists.{count_up}

-- whether a list has a number
abbrev pub has : ℕ → List ℕ → Bool
has n ns = list_any (λ m. m == n) ns

-- No number stands twice.
abbrev pub IsOnce : List ℕ → Type 0
IsOnce [] = Unit {0}
IsOnce (n ∷ ns) = (has n ns ≡ false) × IsOnce ns

has-first : (n : ℕ) (ns : List ℕ) → has n (n ∷ ns) ≡ true
has-first n ns = or_left (n == n) (has n ns) (grind arith)

has-later : (n m : ℕ) (ns : List ℕ) → has n ns ≡ true → has n (m ∷ ns) ≡ true
has-later n m ns h = or_right (m == n) (has n ns) h

pub has-filter : (n : ℕ) (p : ℕ → Bool) (ns : List ℕ) → has n (filter p ns) ≡ (p n && has n ns)
has-filter n p ns = any-filter_same (λ m. m == n) p (p n) (λ m e. let one : m ≡ n = grind arith in ap p one) ns

pub IsOnce-filter : (p : ℕ → Bool) (ns : List ℕ) → IsOnce ns → IsOnce (filter p ns)
IsOnce-filter p [] once = tt
IsOnce-filter p (n ∷ ns) once = of (p n) (IsOnce-filter p ns once.1)
  where
    of : (b : Bool) → IsOnce (filter p ns) → IsOnce (cond b (n ∷ filter p ns) (filter p ns))
    of true rest = (has-filter n p ns ∙ ap (λ b. p n && b) once.0 ∙ and-false (p n), rest)
    of false rest = rest

unlike : (n s : ℕ) (ms : List ℕ) → (n == s) ≡ false → has n ms ≡ false → has n (ms ++ s ∷ []) ≡ false
unlike n s [] e h = let other : (s == n) ≡ false = grind arith in ap (λ b. b || false) other
unlike n s (m ∷ ms) e h = of (m == n) refl h (unlike n s ms e)
  where
    of : (b : Bool) → (m == n) ≡ b → (b || has n ms) ≡ false → (has n ms ≡ false → has n (ms ++ s ∷ []) ≡ false) → (b || has n (ms ++ s ∷ [])) ≡ false
    of true f g rest = cc
    of false f g rest = rest g

-- a number that a list doesn't have may be put at its end
pub IsOnce-append : (ns : List ℕ) (s : ℕ) → IsOnce ns → has s ns ≡ false → IsOnce (ns ++ s ∷ [])
IsOnce-append [] s once absent = (refl, tt)
IsOnce-append (n ∷ ns) s once absent = of (n == s) refl absent (IsOnce-append ns s once.1)
  where
    of : (b : Bool) → (n == s) ≡ b → (b || has s ns) ≡ false → (has s ns ≡ false → IsOnce (ns ++ s ∷ [])) → IsOnce ((n ∷ ns) ++ s ∷ [])
    of true e h rest = absurd (cc)
    of false e h rest = (unlike n s ns e once.0, rest h)

-- Taking out a number that a list has makes it shorter.
shorter : (n : ℕ) (ns : List ℕ) → has n ns ≡ true → length (filter (λ m. not (m == n)) ns) < length ns
shorter n [] h = absurd (cc)
shorter n (m ∷ ns) h = of (m == n) refl h (shorter n ns)
  where
    within : length (filter (λ m. not (m == n)) ns) ≤ length ns
    within = let both = length-filter_both (λ m. not (m == n)) (λ m. not (not (m == n))) (λ m. refl) ns in omega (arith, both)

    of : (b : Bool) → (m == n) ≡ b → (b || has n ns) ≡ true → (has n ns ≡ true → length (filter (λ m. not (m == n)) ns) < length ns)
        → length (cond (not b) (m ∷ filter (λ m. not (m == n)) ns) (filter (λ m. not (m == n)) ns)) < length (m ∷ ns)
    of true e g less = omega (arith, within)
    of false e g less = let l = less g in omega (arith, l)

-- A list with each number once, all of which another has, is no longer than that.
pub no_longer : (ns ms : List ℕ) → IsOnce ns → ((n : ℕ) → has n ns ≡ true → has n ms ≡ true) → length ns ≤ length ms
no_longer [] ms once all = omega arith
no_longer (n ∷ ns) ms once all =
    let less = shorter n ms (all n (has-first n ns)) in
    let rest = no_longer ns (filter (λ m. not (m == n)) ms) once.1 others in
    omega (arith, less, rest)
  where
    others : (k : ℕ) → has k ns ≡ true → has k (filter (λ m. not (m == n)) ms) ≡ true
    others k h = has-filter k (λ m. not (m == n)) ms ∙ of (k == n) refl
      where
        of : (b : Bool) → (k == n) ≡ b → (not b && has k ms) ≡ true
        of true e = let one : k ≡ n = grind arith in let no : true ≡ false = sym h ∙ ap (λ j. has j ns) one ∙ once.0 in cc
        of false e = all k (has-later k n ns h)

pub has-count_up : (n first many : ℕ) → first ≤ n → n < first + many → has n (count_up first many) ≡ true
has-count_up n first zero low high = let no : ⊥ = omega arith in absurd no
has-count_up n first (suc many) low high = of (first == n) refl (λ l. has-count_up n (first + 1) many l (omega arith))
  where
    of : (b : Bool) → (first == n) ≡ b → (first + 1 ≤ n → has n (count_up (first + 1) many) ≡ true) → (b || has n (count_up (first + 1) many)) ≡ true
    of true e rest = refl
    of false e rest = rest (grind arith)

pub count_up-last : (first many : ℕ) → count_up first (suc many) ≡ count_up first many ++ (first + many) ∷ []
count_up-last first zero = ap (λ n. n ∷ []) (omega arith)
count_up-last first (suc many) = ap (λ zs. first ∷ zs) (count_up-last (first + 1) many) ∙ ap (λ n. first ∷ (count_up (first + 1) many ++ n ∷ [])) (omega arith)

-- Fewer of the numbers that are counted up pass the stronger test.
pub filter-fewer : (p q : ℕ → Bool) (first many : ℕ) → ((n : ℕ) → n < first + many → p n ≡ true → q n ≡ true) → length (filter p (count_up first many)) ≤ length (filter q (count_up first many))
filter-fewer p q first zero stronger = omega arith
filter-fewer p q first (suc many) stronger = of (p first) refl (q first) refl (filter-fewer p q (first + 1) many (λ n l. stronger n (omega arith)))
  where
    of : (b : Bool) → p first ≡ b → (c : Bool) → q first ≡ c → length (filter p (count_up (first + 1) many)) ≤ length (filter q (count_up (first + 1) many))
        → length (cond b (first ∷ filter p (count_up (first + 1) many)) (filter p (count_up (first + 1) many))) ≤ length (cond c (first ∷ filter q (count_up (first + 1) many)) (filter q (count_up (first + 1) many)))
    of true e true f fewer = omega (arith, fewer)
    of true e false f fewer = let is : q first ≡ true = stronger first (omega arith) e in absurd (cc)
    of false e true f fewer = omega (arith, fewer)
    of false e false f fewer = fewer
