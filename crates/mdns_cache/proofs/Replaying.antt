-- The tournament, played anew from the one place that was changed up, until another record wins as before.
use Rattle.std.proofs.Common.{◌≡◌, ◌≢◌, ℕ, zero, suc, ◌+◌, ◌-◌, ◌*◌, ◌/◌, ◌<◌, ◌≤◌, eqb, cond, Bool, true, ⊎_elim, inl, inr, ◌⊎◌, List, [], ◌∷◌, length, get_or, set, slice_get, sym, ap, subst, ◌∙◌, arith, true≢false}
use Rattle.std.proofs.lemmas.Bool.{or_cases, eqb-true, lt-ltb}
use Rattle.std.proofs.lemmas.List.{get_or-set_other}
use Rattle.mdns_history.specs.declared.held.Held.{Held}
use Rattle.by_name.specs.Filed.{AgreeBut}
use Rattle.mdns_cache.specs.Ends.{winner, sooner, sooner_of, is_above, IsOn, IsWon, IsPlayed}
use Rattle.mdns_cache.proofs.Paths.{on_itself, on_up, on_step, on_further, one_of_two}
use Rattle.mdns_cache.proofs.Mending.{IsPlayedTo, sooner_is, winner_home, winner_other, played_below, played_up}
use Rattle.mdns_cache.proofs.Played.{played_changed}

-- the nodes of a path are none behind where it begins
on_most : (k j : ℕ) → IsOn k j → j ≤ k
on_most k j on = of on.0 k on.1
  where
    of : (steps k : ℕ) → is_above steps k j ≡ true → j ≤ k
    of zero k h = absurd (true≢false (sym h))
    of (suc steps) k h =
        ⊎_elim (λ e. let same : k ≡ j = eqb-true k j e in omega (arith, same)) (λ more. let less : j ≤ k / 2 = of steps (k / 2) more in omega (arith, less))
        (or_cases (eqb k j) (is_above steps (k / 2) j) h)

-- no path has both of two nodes side by side
apart : (k j : ℕ) → 1 ≤ j → IsOn k (2 * j) → IsOn k (2 * j + 1) → ⊥
apart k j some on other = of on.0 k on.1 other
  where
    of : (steps k : ℕ) → is_above steps k (2 * j) ≡ true → IsOn k (2 * j + 1) → ⊥
    of zero k h other = true≢false (sym h)
    of (suc steps) k h other =
        ⊎_elim
        (λ e. let same : k ≡ 2 * j = eqb-true k (2 * j) e in let most : 2 * j + 1 ≤ k = on_most k (2 * j + 1) other in absurd (omega (arith, same, most)))
        (λ above. let most : 2 * j ≤ k / 2 = on_most (k / 2) (2 * j) (steps, above) in
        ⊎_elim (λ e. let same : k ≡ 2 * j + 1 = e in absurd (omega (arith, same, most, some))) (λ more. of steps (k / 2) above more) (on_step k (2 * j + 1) other))
        (or_cases (eqb k (2 * j)) (is_above steps (k / 2) (2 * j)) h)

-- of two places of which neither was changed the same one ends first
sooner_kept : (before held : List Held) (place left right : ℕ) → AgreeBut (place ∷ []) before held → left ≢ place → right ≢ place → sooner before left right ≡ sooner held left right
sooner_kept before held place left right agree l r = λ i. sooner_of (sym (same left l) i) (sym (same right r) i) left right
  where
    same : (at : ℕ) → at ≢ place → slice_get held at ≡ slice_get before at
    same at other = ⊎_elim (λ e. e) (λ one. ⊎_elim (λ e. absurd (other (sym e))) absurd one) (agree at)

-- Played but for what lies above a node, where all further above is as it was played before.
pub record IsReplayed (before held : List Held) (node : ℕ) (nodes : List ℕ) : Type 0 where
  pub played : IsPlayedTo held node [] nodes
  pub was : (j : ℕ) → 1 ≤ j → IsOn (node / 2 / 2) j → IsWon before nodes j

-- at first everything is as it was
pub replayed_from : (before held : List Held) (place : ℕ) (nodes : List ℕ) → place < length nodes → AgreeBut (place ∷ []) before held → IsPlayed before [] nodes →
    IsReplayed before held (length nodes + place) nodes
replayed_from before held place nodes within agree played = record {
  played = played_below held [] place nodes within (played_changed before held (place ∷ []) nodes agree played);
  was = λ j some on.
      let most : j ≤ (length nodes + place) / 2 / 2 = on_most ((length nodes + place) / 2 / 2) j on in
      ⊎_elim (λ w. w) absurd (played.won j some (omega (arith, most, within)));
}

-- the node above is played
pub replayed_up : (before held : List Held) (node up : ℕ) (nodes : List ℕ) → up ≡ node / 2 → 1 ≤ up → up < length nodes → IsReplayed before held node nodes →
    IsReplayed before held up (set nodes up (sooner held (winner nodes (2 * up)) (winner nodes (2 * up + 1))))
replayed_up before held node up nodes is some within old = record { played = played_up held [] node up nodes is some within old.played; was = was }
  where
    v : ℕ
    v = sooner held (winner nodes (2 * up)) (winner nodes (2 * up + 1))

    was : (j : ℕ) → 1 ≤ j → IsOn (up / 2 / 2) j → IsWon before (set nodes up v) j
    was j low on =
        let most : j ≤ up / 2 / 2 = on_most (up / 2 / 2) j on in
        let won : IsWon before nodes j = old.was j low (subst (λ (n : ℕ). IsOn (n / 2) j) is (on_up (up / 2) j on)) in
        get_or-set_other nodes up j v 0 (λ e. let same : j ≡ up = e in absurd (omega (arith, same, most, low))) ∙ won
        ∙ (λ i. sooner before
        (sym (winner_other nodes up v within (2 * j) (λ e. let same : 2 * j ≡ up = e in absurd (omega (arith, same, most, low)))) i)
        (sym (winner_other nodes up v within (2 * j + 1) (λ e. let same : 2 * j + 1 ≡ up = e in absurd (omega (arith, same, most, low)))) i))

module _ (before held : List Held) (place : ℕ) (nodes : List ℕ) (agree : AgreeBut (place ∷ []) before held) (home : (j : ℕ) → 1 ≤ j → j < length nodes → IsOn (length nodes + get_or nodes j 0) j) where
  -- the place wins no node off its path
  off_path : (c : ℕ) → 1 ≤ c → (IsOn (length nodes + place) c → ⊥) → winner nodes c ≢ place
  off_path c some off e = off (subst (λ (n : ℕ). IsOn (length nodes + n) c) e (winner_home nodes home c some))

  -- and neither of two nodes side by side, where it doesn't win the one that is on its path
  neither : (c : ℕ) → 1 < c → IsOn (length nodes + place) c → winner nodes c ≢ place → (winner nodes (2 * (c / 2)) ≢ place) × (winner nodes (2 * (c / 2) + 1) ≢ place)
  neither c more on not_here = ⊎_elim even odd (one_of_two c)
    where
      even : c ≡ 2 * (c / 2) → (winner nodes (2 * (c / 2)) ≢ place) × (winner nodes (2 * (c / 2) + 1) ≢ place)
      even e = (
        λ h. not_here (ap (winner nodes) e ∙ h),
        off_path (2 * (c / 2) + 1) (omega arith) (λ o. apart (length nodes + place) (c / 2) (omega (arith, more)) (subst (λ (n : ℕ). IsOn (length nodes + place) n) e on) o),
      )

      odd : c ≡ 2 * (c / 2) + 1 → (winner nodes (2 * (c / 2)) ≢ place) × (winner nodes (2 * (c / 2) + 1) ≢ place)
      odd e = (
        off_path (2 * (c / 2)) (omega (arith, more)) (λ o. apart (length nodes + place) (c / 2) (omega (arith, more)) o (subst (λ (n : ℕ). IsOn (length nodes + place) n) e on)),
        λ h. not_here (ap (winner nodes) e ∙ h),
      )

  -- so the node above them has the winner that it had, which is another than the place
  won_above : (c : ℕ) → 1 < c → IsOn (length nodes + place) c → winner nodes c ≢ place → IsWon before nodes (c / 2) → IsWon held nodes (c / 2)
  won_above c more on not_here won =
      let both = neither c more on not_here in
      won ∙ sooner_kept before held place (winner nodes (2 * (c / 2))) (winner nodes (2 * (c / 2) + 1)) agree both.0 both.1

  other_above : (c : ℕ) → 1 < c → c / 2 < length nodes → IsOn (length nodes + place) c → winner nodes c ≢ place → IsWon held nodes (c / 2) → winner nodes (c / 2) ≢ place
  other_above c more within on not_here won e =
      let both = neither c more on not_here in
      let left : ℕ = winner nodes (2 * (c / 2)) in
      let right : ℕ = winner nodes (2 * (c / 2) + 1) in
      let is : winner nodes (c / 2) ≡ sooner held left right = ap (λ (b : Bool). cond b (get_or nodes (c / 2) 0) (c / 2 - length nodes)) (lt-ltb (c / 2) (length nodes) within) ∙ won in
      ⊎_elim (λ l. both.0 (sym l ∙ sym is ∙ e)) (λ r. both.1 (sym r ∙ sym is ∙ e)) (sooner_is held left right)

  all_above : (steps c : ℕ) → 1 < c → c < length nodes → IsOn (length nodes + place) c → winner nodes c ≢ place → ((j : ℕ) → 1 ≤ j → IsOn (c / 2) j → IsWon before nodes j) →
      (j : ℕ) → 1 ≤ j → is_above steps (c / 2) j ≡ true → IsWon held nodes j
  all_above zero c more within on not_here was j some h = absurd (true≢false (sym h))
  all_above (suc steps) c more within on not_here was j some h =
      let here : IsWon held nodes (c / 2) = won_above c more on not_here (was (c / 2) (omega (arith, more)) (on_itself (c / 2))) in
      ⊎_elim (λ e. subst (λ (n : ℕ). IsWon held nodes n) (eqb-true (c / 2) j e) here)
      (λ above. let most : j ≤ c / 2 / 2 = on_most (c / 2 / 2) j (steps, above) in
      all_above steps (c / 2) (omega (arith, most, some)) (omega (arith, within)) (on_further (length nodes + place) c on) (other_above c more (omega (arith, within)) on not_here here)
      (λ k low o. was k low (on_up (c / 2) k o)) j some above)
      (or_cases (eqb (c / 2) j) (is_above steps (c / 2 / 2) j) h)

-- Where a node is won by another record as before, all above it stays as it was.
pub replayed_stop : (before held : List Held) (place node up : ℕ) (nodes : List ℕ) → AgreeBut (place ∷ []) before held → up ≡ node / 2 → 1 ≤ up → up < length nodes →
    IsOn (length nodes + place) up → IsReplayed before held node nodes → IsWon held nodes up → get_or nodes up 0 ≢ place → IsPlayed held [] nodes
replayed_stop before held place node up nodes agree is some within on old won other = record { home = old.played.home; won = all }
  where
    not_here : winner nodes up ≢ place
    not_here e = other (sym (ap (λ (b : Bool). cond b (get_or nodes up 0) (up - length nodes)) (lt-ltb up (length nodes) within)) ∙ e)

    open_ : (j : ℕ) → 1 ≤ j → IsOn up j → IsWon held nodes j
    open_ j low o =
        ⊎_elim (λ e. subst (λ (n : ℕ). IsWon held nodes n) e won)
        (λ more. let most : j ≤ up / 2 = on_most (up / 2) j more in
        all_above before held place nodes agree old.played.home more.0 up (omega (arith, most, low)) within on not_here (λ k some o. old.was k some (subst (λ (n : ℕ). IsOn (n / 2) k) is o)) j low more.1)
        (on_step up j o)

    all : (j : ℕ) → 1 ≤ j → j < length nodes → IsWon held nodes j ⊎ ⊥
    all j low below = ⊎_elim inl (λ any. ⊎_elim (λ o. inl (open_ j low (subst (λ (n : ℕ). IsOn n j) (sym is) o))) inr any) (old.played.won j low below)
