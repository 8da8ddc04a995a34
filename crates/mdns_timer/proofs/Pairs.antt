-- The order of pairs, the first of pairs that rise, and what a binary search for a pair says.
use Rattle.std.proofs.Common.{◌≡◌, ℕ, ◌<◌, ◌≤◌, min, Bool, true, false, cond, not, List, [], ◌∷◌, map, length, get_or, Option, Some, None, Less, Equal, Greater, Ordering, Result, Ok, Err, refl, ap, ◌∙◌, sym, subst, arith}
use Rattle.std.specs.List.{insert, remove, AllByRecursion}
use Rattle.std.specs.Option.{OnSome}
use Rattle.std.specs.List.Sorted.{IsBinarySearchResult, IsPartitionPoint}
use Rattle.std.specs.Ordering.{nat_cmp, ordering_then, ordering_reverse, is_eq}
use Rattle.std.specs.Cmp.{IsTotalOrder}
use Rattle.std.proofs.lemmas.Cmp.{on_total, then_total, nat_cmp_total, ranked, by_ranked}
use Rattle.lists.specs.Lists.{insert_by, least, least_of}
use Rattle.mdns_timer.specs.Strict.{IsStrict}
use Rattle.mdns_timer.specs.Timing.{pair_cmp, has_pair, with_pair, without_pair, first_moment}
use Rattle.mdns_timer.proofs.Placed.{found_any, found_filter, searchable, apart, none_any, none_filter, inserted, strict_inserted, strict_filter}

pub pair_cmp_total : IsTotalOrder pair_cmp
pair_cmp_total = then_total (on_total (λ (pair : ℕ × ℕ). pair.0) nat_cmp_total) (on_total (λ (pair : ℕ × ℕ). pair.1) nat_cmp_total)

first_lower : (x y : ℕ × ℕ) → pair_cmp x y ≡ Less → min (y.0) (x.0) ≡ x.0
first_lower x y h = by_ranked (x.0 < y.0) (x.0 ≡ y.0) (y.0 < x.0) (nat_cmp (x.0) (y.0)) (ranked (x.0) (y.0) (nat_cmp (x.0) (y.0)) refl)
    (λ e less. omega arith)
    (λ e same. omega arith)
    (λ e more. let no : Greater ≡ Less = ap (λ (r : Ordering). ordering_then r (nat_cmp (x.1) (y.1))) (sym e) ∙ h in absurd (cc))

least_first : (x : ℕ × ℕ) (xs : List (ℕ × ℕ)) → AllByRecursion (λ y. pair_cmp x y ≡ Less) xs → least_of (x.0) (map (λ pair. pair.0) xs) ≡ x.0
least_first x [] h = refl
least_first x (y ∷ ys) h = ap (λ n. min (y.0) n) (least_first x ys h.1) ∙ first_lower x y h.0

-- the least moment of pairs that rise is that of the first
pub least_moment : (pairs : List (ℕ × ℕ)) → IsStrict pair_cmp pairs → least (map (λ pair. pair.0) pairs) ≡ first_moment pairs
least_moment [] s = refl
least_moment (x ∷ xs) s = ap (λ n. Some n) (least_first x xs s.0)

-- what a binary search says of a pair, where it found the pair at a place and where it found none
abbrev pub Sought : ℕ × ℕ → List (ℕ × ℕ) → Result ℕ ℕ → Type 0
Sought pair pairs r = IsBinarySearchResult (λ one. pair_cmp one pair) pairs r

module _ (pair : ℕ × ℕ) (pairs : List (ℕ × ℕ)) (i : ℕ) where
  found_at : Sought pair pairs (Ok i) → pair_cmp pair (get_or pairs i pair) ≡ Equal
  found_at at = pair_cmp_total.antisymm pair (get_or pairs i pair) ∙ ap ordering_reverse (at pair)

  pub had_found : i < length pairs → Sought pair pairs (Ok i) → true ≡ has_pair pair pairs
  had_found h at = sym (found_any (λ (p : ℕ × ℕ). p) pair_cmp pair_cmp_total pair (λ one. is_eq (pair_cmp pair one)) (λ one. refl) pairs i pair h (found_at at))

  pub stays_once : i < length pairs → Sought pair pairs (Ok i) → pairs ≡ with_pair pair pairs
  stays_once h at = ap (λ (b : Bool). cond b pairs (insert_by pair_cmp pair pairs)) (had_found h at)

  pub removed_found : i < length pairs → Sought pair pairs (Ok i) → IsStrict pair_cmp pairs → remove pairs i ≡ without_pair pair pairs
  removed_found h at s = sym (found_filter (λ (p : ℕ × ℕ). p) pair_cmp pair_cmp_total pair (λ one. is_eq (pair_cmp pair one)) (λ one. refl) pairs i pair h (found_at at) s)

  module _ (s : IsStrict pair_cmp pairs) (at : Sought pair pairs (Err i)) where
    parts : IsPartitionPoint (λ one. pair_cmp one pair ≡ Less) (λ one. pair_cmp one pair ≡ Greater) pairs i
    parts = at (searchable (λ (p : ℕ × ℕ). p) pair_cmp pair_cmp_total pair pairs s)

    none : AllByRecursion (λ one. is_eq (pair_cmp pair one) ≡ false) pairs
    none = apart (λ (p : ℕ × ℕ). p) pair_cmp pair_cmp_total pair (λ one. is_eq (pair_cmp pair one)) (λ one. refl) pairs i (λ k d h. parts.0 k d (omega arith) h) (λ k d h g. parts.1 k d h g)

    pub had_none : false ≡ has_pair pair pairs
    had_none = sym (none_any (λ (p : ℕ × ℕ). p) pair_cmp pair_cmp_total pair (λ one. is_eq (pair_cmp pair one)) (λ one. refl) pairs none)

    pub without_none : pairs ≡ without_pair pair pairs
    without_none = sym (none_filter (λ (p : ℕ × ℕ). p) pair_cmp pair_cmp_total pair (λ one. is_eq (pair_cmp pair one)) (λ one. refl) pairs none)

    pub put_between : i ≤ length pairs → insert pairs i pair ≡ with_pair pair pairs
    put_between h =
        inserted (λ (p : ℕ × ℕ). p) pair_cmp pair_cmp_total pair pairs i h (λ k d g. parts.0 k d (omega arith) g) (λ k d g m. parts.1 k d g m)
        ∙ ap (λ (b : Bool). cond b pairs (insert_by pair_cmp pair pairs)) had_none

    pub strict_between : i ≤ length pairs → IsStrict pair_cmp (insert pairs i pair)
    strict_between h =
        subst (IsStrict pair_cmp) (sym (inserted (λ (p : ℕ × ℕ). p) pair_cmp pair_cmp_total pair pairs i h (λ k d g. parts.0 k d (omega arith) g) (λ k d g m. parts.1 k d g m)))
        (strict_inserted (λ (p : ℕ × ℕ). p) pair_cmp pair_cmp_total pair pairs (sym had_none) s)

  pub strict_removed : i < length pairs → Sought pair pairs (Ok i) → IsStrict pair_cmp pairs → IsStrict pair_cmp (remove pairs i)
  strict_removed h at s = subst (IsStrict pair_cmp) (sym (removed_found h at s)) (strict_filter pair_cmp (λ one. not (is_eq (pair_cmp pair one))) pairs s)

-- what holds where something was taken out holds where it was there
pub on_some : (r : Option (ℕ × ℕ)) (one : ℕ × ℕ) (P : Type 0) → r ≡ Some one → OnSome r P → P
on_some None one P e h = absurd (cc)
on_some (Some other) one P e h = h
