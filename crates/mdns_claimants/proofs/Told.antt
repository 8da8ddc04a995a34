-- The first moment of groups, told by the moments that are kept of them.
use Rattle.std.proofs.Common.{◌≡◌, ℕ, ◌<◌, ◌≤◌, Bool, true, false, cond, min, List, [], ◌∷◌, ◌++◌, length, map, Option, Some, None, refl, ap, sym, ◌∙◌, arith}
use Rattle.std.specs.Prelude.{nat_lt}
use Rattle.std.specs.List.{flat_map}
use Rattle.lists.specs.Lists.{least, least_of}
use Rattle.lists.proofs.Least.{least_of-min}
use Rattle.mdns_probe.specs.Kept.{Kept}
use Rattle.mdns_claimants.specs.Due.{kept_moment, last_moment, moment_of, never, next_in}

-- a moment that may be there, as it is kept
abbrev as_kept : Option ℕ → ℕ
as_kept None = never
as_kept (Some moment) = min moment last_moment

at_most : (o : Option ℕ) → as_kept o ≤ never
at_most None = omega arith
at_most (Some moment) = omega arith

-- one moment at most, and others
kept_with : (xs ys : List ℕ) → length xs ≤ 1 → as_kept (least (xs ++ ys)) ≡ min (kept_moment xs) (as_kept (least ys))
kept_with [] ys few = let most = at_most (least ys) in omega (arith, most)
kept_with (x ∷ []) [] few = omega arith
kept_with (x ∷ []) (y ∷ ys) few = ap (λ (n : ℕ). min n last_moment) turned ∙ each x (least_of y ys)
  where
    swap : (a b : ℕ) → min a b ≡ min b a
    swap a b = omega arith

    turned : min y (least_of x ys) ≡ min x (least_of y ys)
    turned = sym (least_of-min x y ys) ∙ ap (λ (n : ℕ). least_of n ys) (swap x y) ∙ least_of-min y x ys

    each : (a b : ℕ) → min (min a b) last_moment ≡ min (min a last_moment) (min b last_moment)
    each a b = omega arith
kept_with (x ∷ z ∷ xs) ys few = absurd (omega arith)

one_moment : (one : Kept) → length (next_in true one) ≤ 1
one_moment one = of one.claim.sure (nat_lt one.claim.announced 2)
  where
    of : (b c : Bool) → length (cond b (cond c (one.claim.next ∷ []) []) (one.claim.due ∷ [])) ≤ 1
    of true true = omega arith
    of true false = omega arith
    of false c = omega arith

all_kept : (kept : List Kept) → as_kept (least (flat_map (next_in true) kept)) ≡ least_of never (map moment_of kept)
all_kept [] = refl
all_kept (one ∷ kept) =
    kept_with (next_in true one) (flat_map (next_in true) kept) (one_moment one)
    ∙ ap (min (moment_of one)) (all_kept kept)

-- the least of moments that are kept
first_kept : (moments : List ℕ) (l : ℕ) → Some l ≡ least moments → least_of never moments ≡ min never l
first_kept [] l e = absurd (cc)
first_kept (m ∷ moments) l e =
    sym (least_of-min never m moments) ∙ ap (λ (n : ℕ). least_of n moments) (swap never m) ∙ least_of-min m never moments ∙ ap (min never) (sym (inside l (least_of m moments) e))
  where
    swap : (a b : ℕ) → min a b ≡ min b a
    swap a b = omega arith

    inside : (x y : ℕ) → ◌≡◌ {A = Option ℕ} (Some x) (Some y) → x ≡ y
    inside x y h = cc

module _ (kept : List Kept) (l : ℕ) (first : Some l ≡ least (map moment_of kept)) where
  told : as_kept (least (flat_map (next_in true) kept)) ≡ min never l
  told = all_kept kept ∙ first_kept (map moment_of kept) l first

  -- one that is kept as it is
  pub told_least : l < last_moment → Some l ≡ least (flat_map (next_in true) kept)
  told_least low = of (least (flat_map (next_in true) kept)) told
    where
      of : (o : Option ℕ) → as_kept o ≡ min never l → Some l ≡ o
      of None e = absurd (omega arith)
      of (Some m) e = let same : l ≡ m = omega arith in ap Some same

  -- one behind the last: nothing is ever due
  pub told_never : last_moment < l → None ≡ least (flat_map (next_in true) kept)
  told_never high = of (least (flat_map (next_in true) kept)) told
    where
      of : (o : Option ℕ) → as_kept o ≡ min never l → None ≡ o
      of None e = refl
      of (Some m) e = absurd (omega arith)

-- where there are no groups nothing is due
pub told_none : (kept : List Kept) → None ≡ least (map moment_of kept) → None ≡ least (flat_map (next_in true) kept)
told_none [] e = refl
told_none (one ∷ kept) e = absurd (cc)
