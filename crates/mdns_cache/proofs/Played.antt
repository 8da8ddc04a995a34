-- A tournament over a list that was changed at some places.
use Rattle.std.proofs.Common.{◌≡◌, ℕ, ◌+◌, ◌*◌, ◌≤◌, ⊎_elim, inl, inr, ◌⊎◌, List, [], ◌∷◌, length, slice_get, sym, subst, ◌∙◌, arith}
use Rattle.mdns_history.specs.declared.held.Held.{Held}
use Rattle.mdns_cache.specs.Ends.{winner, sooner_of, IsOn, IsOnAny, IsWon, IsPlayed}
use Rattle.mdns_cache.proofs.Paths.{on_further, half_even, half_odd}
use Rattle.mdns_cache.proofs.Mending.{winner_home}
use Rattle.by_name.specs.Filed.{IsOneOf, AgreeBut}

-- one of the places lies below a node
on_any : (size : ℕ) (places : List ℕ) (place j : ℕ) → IsOneOf places place → IsOn (size + place) j → IsOnAny size places j
on_any size [] place j one on = one
on_any size (first ∷ more) place j one on =
    ⊎_elim (λ e. inl (subst (λ (n : ℕ). IsOn (size + n) j) (sym e) on)) (λ rest. inr (on_any size more place j rest on)) one

pub played_changed : (held after : List Held) (places : List ℕ) (nodes : List ℕ) → AgreeBut places held after → IsPlayed held [] nodes → IsPlayed after places nodes
played_changed held after places nodes agree played = record {
  home = played.home;
  won = λ j some below. ⊎_elim (kept j some) absurd (played.won j some below);
}
  where
    kept : (j : ℕ) → 1 ≤ j → IsWon held nodes j → IsWon after nodes j ⊎ IsOnAny (length nodes) places j
    kept j some won = ⊎_elim (λ l. ⊎_elim (λ r. inl (still l r)) (λ one. inr (right one)) (agree (winner nodes (2 * j + 1)))) (λ one. inr (left one)) (agree (winner nodes (2 * j)))
      where
        still : slice_get after (winner nodes (2 * j)) ≡ slice_get held (winner nodes (2 * j)) → slice_get after (winner nodes (2 * j + 1)) ≡ slice_get held (winner nodes (2 * j + 1)) → IsWon after nodes j
        still l r = won ∙ (λ i. sooner_of (sym l i) (sym r i) (winner nodes (2 * j)) (winner nodes (2 * j + 1)))

        left : IsOneOf places (winner nodes (2 * j)) → IsOnAny (length nodes) places j
        left one =
            on_any (length nodes) places (winner nodes (2 * j)) j one
            (subst (λ (n : ℕ). IsOn (length nodes + winner nodes (2 * j)) n) (half_even j) (on_further (length nodes + winner nodes (2 * j)) (2 * j) (winner_home nodes played.home (2 * j) (omega arith))))

        right : IsOneOf places (winner nodes (2 * j + 1)) → IsOnAny (length nodes) places j
        right one =
            on_any (length nodes) places (winner nodes (2 * j + 1)) j one
            (subst (λ (n : ℕ). IsOn (length nodes + winner nodes (2 * j + 1)) n) (half_odd j) (on_further (length nodes + winner nodes (2 * j + 1)) (2 * j + 1) (winner_home nodes played.home (2 * j + 1) (omega arith))))
