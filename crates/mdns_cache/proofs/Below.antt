-- What lies below a node.
use Rattle.std.proofs.Common.{◌≡◌, ℕ, zero, suc, ◌+◌, ◌-◌, ◌*◌, ◌/◌, ◌<◌, ◌≤◌, eqb, Bool, true, false, cond, ◌||◌, ⊎_elim, inl, inr, ◌⊎◌, List, [], ◌∷◌, ◌++◌, length, get_or, Option, Some, None, slice_get, refl, sym, ap, subst, ◌∙◌, arith, nat_le, ◌&&◌, IsPermutation, true≢false}
use Rattle.std.specs.Ordering.{is_le}
use Rattle.std.proofs.lemmas.Bool.{or_cases, or_left, or_right, and_from, eqb-true, le-ltb, le-leb}
use Rattle.dns_name.specs.Names.{folded_eq}
use Rattle.dns_name.proofs.Folding.{folded_eq-equivalence}
use Rattle.mdns_cache.specs.EndedPlaces.{IsEnded, AreEnded}
use Rattle.mdns_cache.specs.Ended.{is_among, AreOfEnded, HasEnded}
use Rattle.mdns_cache.specs.Named.{Entry}
use Rattle.by_name.specs.Filed.{in_layers}
use Rattle.by_name.proofs.Layers.{in_layers-permutes}
use Rattle.std.specs.List.{list_any}
use Rattle.std.specs.Map.{values_of}
use Rattle.std.proofs.lemmas.List.Sorted.{IsPermutation-sym, list_any-IsPermutation}
use Rattle.mdns_cache.proofs.ListLemmas.{each-weaker}
use Rattle.mdns_history.specs.declared.held.Held.{Held}
use Rattle.mdns_cache.specs.Ends.{winner, is_above, IsOn, IsPlayed}
use Rattle.mdns_cache.proofs.Paths.{on_itself, on_up, none_above, half_below, half_less, half_some, one_of_two}
use Rattle.mdns_cache.proofs.Root.{HasSooner, one_up, each_at, le_itself, le_through}
use Rattle.mdns_cache.proofs.EndsFirst.{first_ends, each-permuted}

-- a node on a path is no higher in number than where it begins
pub on_most : (k j : ℕ) → IsOn k j → j ≤ k
on_most k j on = of on.0 k on.1
  where
    of : (steps k : ℕ) → is_above steps k j ≡ true → j ≤ k
    of zero k h = absurd (true≢false (sym h))
    of (suc steps) k h =
        ⊎_elim (λ e. let same : k ≡ j = eqb-true k j e in omega arith) (λ more. let less = of steps (k / 2) more in omega arith) (or_cases (eqb k j) (is_above steps (k / 2) j) h)

-- a path to a node that is not where it begins comes through one of the two below it
pub on_child : (k j : ℕ) → j < k → IsOn k j → IsOn k (2 * j) ⊎ IsOn k (2 * j + 1)
on_child k j less on = of on.0 k less on.1
  where
    up : (k m : ℕ) → IsOn (k / 2) m → IsOn k m
    up k m h = on_up k m h

    of : (steps k : ℕ) → j < k → is_above steps k j ≡ true → IsOn k (2 * j) ⊎ IsOn k (2 * j + 1)
    of zero k less h = absurd (true≢false (sym h))
    of (suc steps) k less h =
        ⊎_elim (λ e. let same : k ≡ j = eqb-true k j e in absurd (omega arith))
        (λ more.
        let most = on_most (k / 2) j (steps, more) in
        ⊎_elim
        (λ under. ⊎_elim (λ l. inl (up k (2 * j) l)) (λ r. inr (up k (2 * j + 1) r)) (of steps (k / 2) under more))
        (λ past.
        let same : k / 2 ≡ j = omega arith in
        ⊎_elim (λ e. inl (subst (λ (n : ℕ). IsOn k n) (e ∙ ap (λ (n : ℕ). 2 * n) same) (on_itself k))) (λ e. inr (subst (λ (n : ℕ). IsOn k n) (e ∙ ap (λ (n : ℕ). 2 * n + 1) same) (on_itself k))) (one_of_two k))
        (Rattle.std.proofs.lemmas.Bool.cases_lt j (k / 2)))
        (or_cases (eqb k j) (is_above steps (k / 2) j) h)

module _ (held : List Held) (nodes : List ℕ) (played : IsPlayed held [] nodes) where
  -- a winner ends no later than what lies below it
  node_first : (steps k j : ℕ) → is_above steps k j ≡ true → 1 ≤ j → k < 2 * length nodes → (one : Held) → slice_get held (winner nodes k) ≡ Some one → HasSooner held (winner nodes j) one
  node_first zero k j h some below one at = absurd (true≢false (sym h))
  node_first (suc steps) k j h some below one at =
      ⊎_elim (λ e. (one, ap (λ (n : ℕ). slice_get held (winner nodes n)) (sym (eqb-true k j e)) ∙ at, le_itself one))
      (λ more.
      let most = on_most (k / 2) j (steps, more) in
      let large : 1 < k = omega arith in
      let up = one_up held nodes played k large below one at in
      let half = half_below k (length nodes) below in
      let rest = node_first steps (k / 2) j more some (omega (arith, half)) up.0 up.1 in
      (rest.0, rest.1, le_through rest.0 up.0 one rest.2 up.2))
      (or_cases (eqb k j) (is_above steps (k / 2) j) h)

  leaf : (place : ℕ) → winner nodes (length nodes + place) ≡ place
  leaf place =
      ap (λ (b : Bool). cond b (get_or nodes (length nodes + place) 0) (length nodes + place - length nodes)) (le-ltb (length nodes + place) (length nodes) (omega arith)) ∙ back (length nodes)
    where
      back : (n : ℕ) → n + place - n ≡ place
      back n = omega arith

  -- where a record below a node has ended, so has the winner
  pub winner_ended : (node place moment : ℕ) (one : Held) → 1 ≤ node → IsOn (length nodes + place) node → place < length nodes → slice_get held place ≡ Some one → one.end ≤ moment →
      (first : Held) × (slice_get held (winner nodes node) ≡ Some first) × (first.end ≤ moment)
  winner_ended node place moment one some on within there ended =
      let first = node_first on.0 (length nodes + place) node on.1 some (omega arith) one (ap (slice_get held) (leaf place) ∙ there) in
      let before = first_ends first.0 one first.2 in
      (first.0, first.1, omega (arith, before, ended))

  -- a leaf that lies below a leaf is it
  pub leaf_itself : (node place : ℕ) → length nodes ≤ node → place < length nodes → IsOn (length nodes + place) node → winner nodes node ≡ place
  leaf_itself node place past within on =
      ⊎_elim (λ e. ap (winner nodes) (sym e) ∙ leaf place) (λ more. let most = on_most ((length nodes + place) / 2) node more in absurd (omega arith))
      (Rattle.mdns_cache.proofs.Paths.on_step (length nodes + place) node on)

pub on_ok_map : {X E : Type 0} (r : Rattle.std.proofs.Common.Result X E) (P Q : Type 0) → (P → Q) → Rattle.std.specs.Prelude.OnOk r P → Rattle.std.specs.Prelude.OnOk r Q
on_ok_map (Rattle.std.proofs.Common.Ok x) P Q gives h = gives h
on_ok_map (Rattle.std.proofs.Common.Err e) P Q gives h = tt

pub among_pushed : (names : List (List (List ℕ))) (name : List (List ℕ)) → is_among (names ++ name ∷ []) name ≡ true
among_pushed [] name = or_left (folded_eq name name) false (folded_eq-equivalence.refl name)
among_pushed (first ∷ names) name = or_right (folded_eq name first) (is_among (names ++ name ∷ []) name) (among_pushed names name)

pub some_inside : (one other : Held) → ◌≡◌ {A = Option Held} (Some one) (Some other) → one ≡ other
some_inside one other e = cc

pub some_none : (one : Held) → ◌≡◌ {A = Option Held} (Some one) None → ⊥
some_none one e = cc

-- the root lies above everything
pub root_on : (fuel k : ℕ) → k ≤ fuel → 1 ≤ k → IsOn k 1
root_on zero k most some = absurd (omega arith)
root_on (suc fuel) k most some =
    ⊎_elim (λ e. subst (λ (n : ℕ). IsOn n 1) (sym e) (on_itself 1))
    (λ apart. on_up k 1 (root_on fuel (k / 2) (let less = half_less k (omega (arith, apart)) in omega arith) (half_some k (omega (arith, apart)))))
    (Rattle.std.proofs.lemmas.Bool.cases_eq k 1)

found_any : (t : Held → Bool) (held : List Held) (place : ℕ) (one : Held) → slice_get held place ≡ Some one → t one ≡ true → list_any t held ≡ true
found_any t [] place one there h = absurd (cc)
found_any t (x ∷ held) zero one there h = or_left (t x) (list_any t held) (ap t (some_inside x one there) ∙ h)
found_any t (x ∷ held) (suc place) one there h = or_right (t x) (list_any t held) (found_any t held place one there h)

-- ended records in another order
pub of_ended : (moment : ℕ) (held other : List Held) (names : List (List (List ℕ))) → IsPermutation held other → AreEnded held moment names → AreOfEnded other moment names
of_ended moment held other names moved =
    each-weaker (λ (name : List (List ℕ)). list_any (λ (one : Held). nat_le one.end moment && folded_eq name one.rr.owner) other ≡ true) (IsEnded held moment)
    (λ name h.
    sym (list_any-IsPermutation (λ (one : Held). nat_le one.end moment && folded_eq name one.rr.owner) held other moved)
    ∙ found_any (λ (one : Held). nat_le one.end moment && folded_eq name one.rr.owner) held h.0 h.1 h.2
    (and_from (nat_le h.1.end moment) (folded_eq name h.1.rr.owner) (le-leb h.1.end moment h.3) (ap (folded_eq name) h.4 ∙ folded_eq-equivalence.refl name))) names

-- all ended records in another order
pub has_ended : (moment : ℕ) (es : List Entry) (names : List (List (List ℕ))) → ((place : ℕ) (one : Held) → slice_get (values_of es) place ≡ Some one → one.end ≤ moment → place < length (values_of es) → is_among names one.rr.owner ≡ true) → HasEnded (in_layers es) moment names
has_ended moment es names found =
    each-permuted (λ (one : Held). one.end ≤ moment → is_among names one.rr.owner ≡ true) (values_of es) (in_layers es) (IsPermutation-sym _ _ (in_layers-permutes es))
    (each_at (λ (one : Held). one.end ≤ moment → is_among names one.rr.owner ≡ true) (values_of es) (λ place one within there ended. found place one there ended within))
