-- The root has the record that ends first.
use Rattle.std.proofs.Common.{◌≡◌, ℕ, zero, suc, ◌+◌, ◌-◌, ◌*◌, ◌/◌, ◌<◌, ◌≤◌, cond, Bool, true, false, ⊎_elim, inl, inr, ◌⊎◌, List, [], ◌∷◌, length, get_or, Option, Some, None, slice_get, refl, sym, ap, subst, ◌∙◌, arith}
use Rattle.std.specs.List.{AllByRecursion, HoldsAt}
use Rattle.std.specs.Ordering.{is_le, is_gt, ordering_reverse}
use Rattle.std.specs.Cmp.{IsTotalOrder}
use Rattle.std.proofs.lemmas.Bool.{cases_eq, lt-ltb, le-ltb, false≢true}
use Rattle.std.proofs.lemmas.Cmp.{on_total, then_total, nat_cmp_total, tied_itself, upto}
use Rattle.std.proofs.lemmas.Option.{slice_get_past, get_or_from_slice_get}
use Rattle.std.specs.declared.cmp.Ordering.{Ordering}
use Rattle.std.specs.declared.cmp.Ordering.TheVariants.{Less, Equal, Greater}
use Rattle.dns_record.proofs.Same.{record_cmp_total}
use Rattle.mdns_history.specs.declared.held.Held.{Held}
use Rattle.mdns_cache.specs.Lifetimes.{ending_cmp}
use Rattle.mdns_cache.specs.Ends.{winner, sooner, sooner_of, IsPlayed, IsFirst}
use Rattle.mdns_cache.proofs.Paths.{half_less, half_some, half_below, one_of_two}

pub ending_cmp-total : IsTotalOrder ending_cmp
unfolding Rattle.dns_record.specs.Records.record_cmp
ending_cmp-total = then_total (on_total (λ (one : Held). one.end) nat_cmp_total) (on_total (λ (one : Held). one.rr) record_cmp_total)

not_gt : (o : Ordering) → is_le o ≡ true → is_gt o ≡ false
not_gt Less h = refl
not_gt Equal h = refl
not_gt Greater h = absurd (false≢true h)

le_not_gt : (o : Ordering) → is_gt o ≡ false → is_le o ≡ true
le_not_gt Less h = refl
le_not_gt Equal h = refl
le_not_gt Greater h = absurd (false≢true (sym h))

le_turned : (o : Ordering) → is_le o ≡ false → is_le (ordering_reverse o) ≡ true
le_turned Less h = absurd (false≢true (sym h))
le_turned Equal h = absurd (false≢true (sym h))
le_turned Greater h = refl

pub le_itself : (one : Held) → is_le (ending_cmp one one) ≡ true
le_itself one = ap is_le (tied_itself ending_cmp-total one)

pub le_through : (a b c : Held) → is_le (ending_cmp a b) ≡ true → is_le (ending_cmp b c) ≡ true → is_le (ending_cmp a c) ≡ true
le_through a b c h k = le_not_gt (ending_cmp a c) (upto ending_cmp-total a b c (not_gt _ h) (not_gt _ k))

le_back : (a b : Held) → is_le (ending_cmp a b) ≡ false → is_le (ending_cmp b a) ≡ true
le_back a b h = ap is_le (ending_cmp-total.antisymm b a) ∙ le_turned (ending_cmp a b) h

-- at a place there is a record that ends no later than one
abbrev pub HasSooner : List Held → ℕ → Held → Type 0
HasSooner held place one = (first : Held) × (slice_get held place ≡ Some first) × (is_le (ending_cmp first one) ≡ true)

-- the winner of two ends no later than each
sooner_than : (held : List Held) (left right : ℕ) (one : Held) → (HasSooner held left one ⊎ HasSooner held right one) → HasSooner held (sooner held left right) one
sooner_than held left right one some = of (slice_get held left) (slice_get held right) refl refl some
  where
    of : (l r : Option Held) → slice_get held left ≡ l → slice_get held right ≡ r → (HasSooner held left one ⊎ HasSooner held right one) → HasSooner held (sooner_of l r left right) one
    of None r e f (inl h) = absurd (some_none h.0 (sym h.1 ∙ e))
      where
        some_none : (x : Held) → ◌≡◌ {A = Option Held} (Some x) None → ⊥
        some_none x q = cc
    of None r e f (inr h) = h
    of (Some a) None e f (inl h) = h
    of (Some a) None e f (inr h) = absurd (some_none h.0 (sym h.1 ∙ f))
      where
        some_none : (x : Held) → ◌≡◌ {A = Option Held} (Some x) None → ⊥
        some_none x q = cc
    of (Some a) (Some b) e f h = by (is_le (ending_cmp a b)) refl h
      where
        inside : (x y : Held) → ◌≡◌ {A = Option Held} (Some x) (Some y) → x ≡ y
        inside x y q = cc

        by : (c : Bool) → is_le (ending_cmp a b) ≡ c → (HasSooner held left one ⊎ HasSooner held right one) → HasSooner held (cond c left right) one
        by true q (inl h) = h
        by true q (inr h) =
            (a, e, le_through a b one q (subst (λ (x : Held). is_le (ending_cmp x one) ≡ true) (inside h.0 b (sym h.1 ∙ f)) h.2))
        by false q (inl h) =
            (b, f, le_through b a one (le_back a b q) (subst (λ (x : Held). is_le (ending_cmp x one) ≡ true) (inside h.0 a (sym h.1 ∙ e)) h.2))
        by false q (inr h) = h

module _ (held : List Held) (nodes : List ℕ) (played : IsPlayed held [] nodes) where
  -- the winner at the node above ends no later
  pub one_up : (k : ℕ) → 1 < k → k < 2 * length nodes → (one : Held) → slice_get held (winner nodes k) ≡ Some one → HasSooner held (winner nodes (k / 2)) one
  one_up k more below one at =
      subst (λ (p : ℕ). HasSooner held p one) (sym is_won)
      (sooner_than held (winner nodes (2 * (k / 2))) (winner nodes (2 * (k / 2) + 1)) one
      (⊎_elim (λ e. inl (one, ap (λ (n : ℕ). slice_get held (winner nodes n)) (sym e) ∙ at, le_itself one)) (λ e. inr (one, ap (λ (n : ℕ). slice_get held (winner nodes n)) (sym e) ∙ at, le_itself one)) (one_of_two k)))
    where
      up_some : 1 ≤ k / 2
      up_some = half_some k more

      up_below : k / 2 < length nodes
      up_below = half_below k (length nodes) below

      is_won : winner nodes (k / 2) ≡ sooner held (winner nodes (2 * (k / 2))) (winner nodes (2 * (k / 2) + 1))
      is_won =
          ap (λ (b : Bool). cond b (get_or nodes (k / 2) 0) (k / 2 - length nodes)) (lt-ltb (k / 2) (length nodes) up_below)
          ∙ ⊎_elim (λ w. w) (λ none. absurd none) (played.won (k / 2) up_some up_below)

  -- the winner at the root ends no later than that at any node
  root_first : (fuel k : ℕ) → k ≤ fuel → 1 ≤ k → k < 2 * length nodes → (one : Held) → slice_get held (winner nodes k) ≡ Some one → HasSooner held (winner nodes 1) one
  root_first zero k most some below one at = absurd (omega arith)
  root_first (suc fuel) k most some below one at =
      ⊎_elim (λ e. (one, ap (λ (n : ℕ). slice_get held (winner nodes n)) (sym e) ∙ at, le_itself one))
      (λ apart.
      let more : 1 < k = omega (arith, apart) in
      let h = one_up k more below one at in
      let less = half_less k more in
      let up_below = half_below k (length nodes) below in
      let higher = root_first fuel (k / 2) (omega (arith, less)) (half_some k more) (omega (arith, up_below)) h.0 h.1 in
      (higher.0, higher.1, le_through higher.0 h.0 one higher.2 h.2))
      (cases_eq k 1)

  -- the winner at the root ends no later than each record
  pub root_before : length held ≤ length nodes → (place : ℕ) (one : Held) → place < length held → slice_get held place ≡ Some one → HasSooner held (winner nodes 1) one
  root_before room place one within at =
      root_first (length nodes + place) (length nodes + place) (omega arith) (omega arith) (omega arith) one (ap (slice_get held) leaf ∙ at)
    where
      leaf : winner nodes (length nodes + place) ≡ place
      leaf =
          ap (λ (b : Bool). cond b (get_or nodes (length nodes + place) 0) (length nodes + place - length nodes)) (le-ltb (length nodes + place) (length nodes) (omega arith))
          ∙ back (length nodes)
        where
          back : (n : ℕ) → n + place - n ≡ place
          back n = omega arith

-- what holds at each place holds of each
pub each_at : (P : Held → Type 0) (held : List Held) → ((place : ℕ) (one : Held) → place < length held → slice_get held place ≡ Some one → P one) → AllByRecursion P held
each_at P [] h = tt
each_at P (one ∷ held) h = (h 0 one (omega arith) refl, each_at P held (λ place other within at. h (suc place) other (omega arith) at))

pub first_found : (held : List Held) (nodes : List ℕ) → IsPlayed held [] nodes → length held ≤ length nodes → winner nodes 1 < length held →
    HoldsAt (IsFirst held) held (winner nodes 1)
first_found held nodes played room within = λ d.
    each_at (λ other. is_le (ending_cmp (get_or held (winner nodes 1) d) other) ≡ true) held
    (λ place other below at.
    let first = root_before held nodes played room place other below at in
    subst (λ (x : Held). is_le (ending_cmp x other) ≡ true) (sym (get_or_from_slice_get held (winner nodes 1) first.0 d first.1)) first.2)

pub none_found : (held : List Held) (nodes : List ℕ) → IsPlayed held [] nodes → length held ≤ length nodes → length held ≤ winner nodes 1 → held ≡ []
none_found [] nodes played room past = refl
none_found (one ∷ held) nodes played room past =
    let first = root_before (one ∷ held) nodes played room 0 one (omega arith) refl in
    absurd (some_none first.0 (sym first.1 ∙ slice_get_past (one ∷ held) (winner nodes 1) past))
  where
    some_none : (x : Held) → ◌≡◌ {A = Option Held} (Some x) None → ⊥
    some_none x q = cc
