-- The tournament, played anew from a place up.
use Rattle.std.proofs.Common.{◌≡◌, ◌≢◌, ℕ, ◌+◌, ◌-◌, ◌*◌, ◌/◌, ◌<◌, ◌≤◌, nat_lt, cond, Bool, true, false, ⊎_elim, inl, inr, ◌⊎◌, List, ◌∷◌, length, get_or, set, Option, Some, None, slice_get, refl, sym, ap, subst, ◌∙◌, arith}
use Rattle.std.specs.Ordering.{is_le}
use Rattle.std.proofs.lemmas.Bool.{cases_eq, ltb-true, ltb-false}
use Rattle.std.proofs.lemmas.List.{get_or-set_same, get_or-set_other, length-set}
use Rattle.mdns_history.specs.declared.held.Held.{Held}
use Rattle.mdns_cache.specs.Lifetimes.{ending_cmp}
use Rattle.mdns_cache.specs.Ends.{winner, sooner, sooner_of, IsOn, IsOnAny, IsWon, IsPlayed}
use Rattle.mdns_cache.proofs.Paths.{on_itself, on_step, none_above, on_further, half_even, half_odd}

-- played but for what lies above a node, and on the paths of some places
pub record IsPlayedTo (held : List Held) (node : ℕ) (dirty : List ℕ) (nodes : List ℕ) : Type 0 where
  pub home : (j : ℕ) → 1 ≤ j → j < length nodes → IsOn (length nodes + get_or nodes j 0) j
  pub won : (j : ℕ) → 1 ≤ j → j < length nodes → IsWon held nodes j ⊎ (IsOn (node / 2) j ⊎ IsOnAny (length nodes) dirty j)

-- the winner is one of the two
pub sooner_is : (held : List Held) (left right : ℕ) → (sooner held left right ≡ left) ⊎ (sooner held left right ≡ right)
sooner_is held left right = of (slice_get held left) (slice_get held right)
  where
    by : (b : Bool) → (cond b left right ≡ left) ⊎ (cond b left right ≡ right)
    by true = inl refl
    by false = inr refl

    of : (one other : Option Held) → (sooner_of one other left right ≡ left) ⊎ (sooner_of one other left right ≡ right)
    of None other = inr refl
    of (Some one) None = inl refl
    of (Some one) (Some other) = by (is_le (ending_cmp one other))

-- a winner lies below its node
pub winner_home : (nodes : List ℕ) → ((j : ℕ) → 1 ≤ j → j < length nodes → IsOn (length nodes + get_or nodes j 0) j) → (k : ℕ) → 1 ≤ k → IsOn (length nodes + winner nodes k) k
winner_home nodes home k some = of (nat_lt k (length nodes)) refl
  where
    of : (b : Bool) → nat_lt k (length nodes) ≡ b → IsOn (length nodes + cond b (get_or nodes k 0) (k - length nodes)) k
    of true e = home k some (ltb-true k (length nodes) e)
    of false e =
        let past : length nodes ≤ k = ltb-false k (length nodes) e in
        let same : k ≡ length nodes + (k - length nodes) = omega arith in
        subst (λ (n : ℕ). IsOn n k) same (on_itself k)

module _ (nodes : List ℕ) (node v : ℕ) (within : node < length nodes) where
  -- a write leaves the winners of other nodes
  pub winner_other : (k : ℕ) → k ≢ node → winner (set nodes node v) k ≡ winner nodes k
  winner_other k other =
      ap (λ (n : ℕ). cond (nat_lt k n) (get_or (set nodes node v) k 0) (k - n)) (length-set nodes node v)
      ∙ ap (λ (w : ℕ). cond (nat_lt k (length nodes)) w (k - length nodes)) (get_or-set_other nodes node k v 0 other)

module _ (held : List Held) (dirty : List ℕ) (place : ℕ) (nodes : List ℕ) where
  -- at first everything on the place's path is open
  pub played_below : place < length nodes → IsPlayed held (place ∷ dirty) nodes → IsPlayedTo held (length nodes + place) dirty nodes
  played_below within played = record {
    home = played.home;
    won = λ j some below. ⊎_elim inl (λ any. ⊎_elim (λ on. inr (inl (from j below on))) (λ more. inr (inr more)) any) (played.won j some below);
  }
    where
      from : (j : ℕ) → j < length nodes → IsOn (length nodes + place) j → IsOn ((length nodes + place) / 2) j
      from j below on = ⊎_elim (λ e. absurd (omega arith)) (λ h. h) (on_step (length nodes + place) j on)

  -- at last nothing is
  pub played_to_root : (node : ℕ) → node ≤ 1 → IsPlayedTo held node dirty nodes → IsPlayed held dirty nodes
  played_to_root node low played = record {
    home = played.home;
    won = λ j some below. ⊎_elim inl (λ any. ⊎_elim (λ on. absurd (none_above j some (subst (λ (n : ℕ). IsOn n j) none on))) inr any) (played.won j some below);
  }
    where
      none : node / 2 ≡ 0
      none = omega arith

-- the node above is played
pub played_up : (held : List Held) (dirty : List ℕ) (node up : ℕ) (nodes : List ℕ) → up ≡ node / 2 → 1 ≤ up → up < length nodes → IsPlayedTo held node dirty nodes →
    IsPlayedTo held up dirty (set nodes up (sooner held (winner nodes (2 * up)) (winner nodes (2 * up + 1))))
played_up held dirty node up nodes is_up some within played = record { home = home; won = won }
  where
    size : ℕ
    size = length nodes

    v : ℕ
    v = sooner held (winner nodes (2 * up)) (winner nodes (2 * up + 1))

    after : List ℕ
    after = set nodes up v

    len : length after ≡ size
    len = length-set nodes up v

    here : IsOn (size + v) up
    here =
        ⊎_elim
        (λ e. subst (λ (n : ℕ). IsOn (size + n) up) (sym e) (subst (λ (n : ℕ). IsOn (size + winner nodes (2 * up)) n) (half_even up) (on_further (size + winner nodes (2 * up)) (2 * up) (winner_home nodes played.home (2 * up) (omega arith)))))
        (λ e. subst (λ (n : ℕ). IsOn (size + n) up) (sym e) (subst (λ (n : ℕ). IsOn (size + winner nodes (2 * up + 1)) n) (half_odd up) (on_further (size + winner nodes (2 * up + 1)) (2 * up + 1) (winner_home nodes played.home (2 * up + 1) (omega arith)))))
        (sooner_is held (winner nodes (2 * up)) (winner nodes (2 * up + 1)))

    home : (j : ℕ) → 1 ≤ j → j < length after → IsOn (length after + get_or after j 0) j
    home j low below = ⊎_elim same other (cases_eq j up)
      where
        same : j ≡ up → IsOn (length after + get_or after j 0) j
        same e =
            subst (λ (n : ℕ). IsOn (n + get_or after j 0) j) (sym len)
            (subst (λ (k : ℕ). IsOn (size + get_or after k 0) k) (sym e)
            (subst (λ (w : ℕ). IsOn (size + w) up) (sym (get_or-set_same nodes up v 0 within)) here))

        other : (j ≡ up → ⊥) → IsOn (length after + get_or after j 0) j
        other e =
            subst (λ (n : ℕ). IsOn (n + get_or after j 0) j) (sym len)
            (subst (λ (w : ℕ). IsOn (size + w) j) (sym (get_or-set_other nodes up j v 0 e)) (played.home j low (subst (λ (n : ℕ). j < n) len below)))

    won : (j : ℕ) → 1 ≤ j → j < length after → IsWon held after j ⊎ (IsOn (up / 2) j ⊎ IsOnAny (length after) dirty j)
    won j low below = ⊎_elim same other (cases_eq j up)
      where
        Goal : Type 0
        Goal = IsWon held after j ⊎ (IsOn (up / 2) j ⊎ IsOnAny (length after) dirty j)

        same : j ≡ up → Goal
        same e = inl (subst (λ (k : ℕ). IsWon held after k) (sym e) at_up)
          where
            at_up : IsWon held after up
            at_up =
                get_or-set_same nodes up v 0 within
                ∙ (λ i. sooner held (sym (winner_other nodes up v within (2 * up) (λ q. absurd (omega arith))) i) (sym (winner_other nodes up v within (2 * up + 1) (λ q. absurd (omega arith))) i))

        other : (j ≡ up → ⊥) → Goal
        other apart = ⊎_elim kept open_ (played.won j low (subst (λ (n : ℕ). j < n) len below))
          where
            above : (k : ℕ) → (k / 2 ≡ j) → (k ≡ up) → Goal
            above k half e = inr (inl (subst (λ (n : ℕ). IsOn (n / 2) j) e (subst (λ (n : ℕ). IsOn n j) (sym half) (on_itself j))))

            kept : IsWon held nodes j → Goal
            kept w = ⊎_elim (above (2 * j) (half_even j)) (λ p. ⊎_elim (above (2 * j + 1) (half_odd j)) (λ q. inl (still p q)) (cases_eq (2 * j + 1) up)) (cases_eq (2 * j) up)
              where
                still : (2 * j ≡ up → ⊥) → (2 * j + 1 ≡ up → ⊥) → IsWon held after j
                still p q =
                    get_or-set_other nodes up j v 0 apart ∙ w
                    ∙ (λ i. sooner held (sym (winner_other nodes up v within (2 * j) p) i) (sym (winner_other nodes up v within (2 * j + 1) q) i))

            open_ : (IsOn (node / 2) j ⊎ IsOnAny size dirty j) → Goal
            open_ any =
                ⊎_elim (λ on. ⊎_elim (λ e. absurd (apart (sym e))) (λ more. inr (inl more)) (on_step up j (subst (λ (n : ℕ). IsOn n j) (sym is_up) on)))
                (λ more. inr (inr (subst (λ (n : ℕ). IsOnAny n dirty j) (sym len) more))) any

-- a node more is played, from the last one down
pub record IsPlayedFrom (held : List Held) (node : ℕ) (nodes : List ℕ) : Type 0 where
  pub home : (j : ℕ) → 1 ≤ j → node ≤ j → j < length nodes → IsOn (length nodes + get_or nodes j 0) j
  pub won : (j : ℕ) → 1 ≤ j → node ≤ j → j < length nodes → IsWon held nodes j

winner_below : (nodes : List ℕ) (node : ℕ) → ((j : ℕ) → 1 ≤ j → node ≤ j → j < length nodes → IsOn (length nodes + get_or nodes j 0) j) → (k : ℕ) → 1 ≤ k → node ≤ k → IsOn (length nodes + winner nodes k) k
winner_below nodes node home k some from = of (nat_lt k (length nodes)) refl
  where
    of : (b : Bool) → nat_lt k (length nodes) ≡ b → IsOn (length nodes + cond b (get_or nodes k 0) (k - length nodes)) k
    of true e = home k some from (ltb-true k (length nodes) e)
    of false e =
        let past : length nodes ≤ k = ltb-false k (length nodes) e in
        let same : k ≡ length nodes + (k - length nodes) = omega arith in
        subst (λ (n : ℕ). IsOn n k) same (on_itself k)

pub played_down : (held : List Held) (node : ℕ) (nodes : List ℕ) → 1 ≤ node → node < length nodes → IsPlayedFrom held (node + 1) nodes →
    IsPlayedFrom held node (set nodes node (sooner held (winner nodes (2 * node)) (winner nodes (2 * node + 1))))
played_down held node nodes some within played = record { home = home; won = won }
  where
    size : ℕ
    size = length nodes

    v : ℕ
    v = sooner held (winner nodes (2 * node)) (winner nodes (2 * node + 1))

    after : List ℕ
    after = set nodes node v

    len : length after ≡ size
    len = length-set nodes node v

    here : IsOn (size + v) node
    here =
        ⊎_elim
        (λ e. subst (λ (n : ℕ). IsOn (size + n) node) (sym e) (subst (λ (n : ℕ). IsOn (size + winner nodes (2 * node)) n) (half_even node) (on_further (size + winner nodes (2 * node)) (2 * node) (winner_below nodes (node + 1) played.home (2 * node) (omega arith) (omega arith)))))
        (λ e. subst (λ (n : ℕ). IsOn (size + n) node) (sym e) (subst (λ (n : ℕ). IsOn (size + winner nodes (2 * node + 1)) n) (half_odd node) (on_further (size + winner nodes (2 * node + 1)) (2 * node + 1) (winner_below nodes (node + 1) played.home (2 * node + 1) (omega arith) (omega arith)))))
        (sooner_is held (winner nodes (2 * node)) (winner nodes (2 * node + 1)))

    home : (j : ℕ) → 1 ≤ j → node ≤ j → j < length after → IsOn (length after + get_or after j 0) j
    home j low from below =
        subst (λ (n : ℕ). IsOn (n + get_or after j 0) j) (sym len)
        (⊎_elim
        (λ e. subst (λ (k : ℕ). IsOn (size + get_or after k 0) k) (sym e) (subst (λ (w : ℕ). IsOn (size + w) node) (sym (get_or-set_same nodes node v 0 within)) here))
        (λ apart. subst (λ (w : ℕ). IsOn (size + w) j) (sym (get_or-set_other nodes node j v 0 apart)) (played.home j low (omega (arith, apart)) (subst (λ (n : ℕ). j < n) len below)))
        (cases_eq j node))

    won : (j : ℕ) → 1 ≤ j → node ≤ j → j < length after → IsWon held after j
    won j low from below = ⊎_elim same other (cases_eq j node)
      where
        children : IsWon held nodes j → get_or after j 0 ≡ get_or nodes j 0 → IsWon held after j
        children w e =
            e ∙ w ∙ (λ i. sooner held (sym (winner_other nodes node v within (2 * j) (λ q. absurd (omega arith))) i) (sym (winner_other nodes node v within (2 * j + 1) (λ q. absurd (omega arith))) i))

        same : j ≡ node → IsWon held after j
        same e = subst (λ (k : ℕ). IsWon held after k) (sym e) at_node
          where
            at_node : IsWon held after node
            at_node =
                get_or-set_same nodes node v 0 within
                ∙ (λ i. sooner held (sym (winner_other nodes node v within (2 * node) (λ q. absurd (omega arith))) i) (sym (winner_other nodes node v within (2 * node + 1) (λ q. absurd (omega arith))) i))

        other : (j ≡ node → ⊥) → IsWon held after j
        other apart = children (played.won j low (omega (arith, apart)) (subst (λ (n : ℕ). j < n) len below)) (get_or-set_other nodes node j v 0 apart)
