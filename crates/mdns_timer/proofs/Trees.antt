-- The tree of least moments, told anew from a place up, and from the last node down.
use Rattle.std.proofs.Common.{◌≡◌, ◌≢◌, ℕ, zero, suc, ◌+◌, ◌-◌, ◌*◌, ◌/◌, ◌<◌, ◌≤◌, ◌^◌, nat_lt, min, cond, Bool, true, false, ⊎_elim, inl, inr, ◌⊎◌, List, [], ◌∷◌, ◌++◌, length, get_or, set, refl, sym, ap, subst, ◌∙◌, arith}
use Rattle.std.proofs.lemmas.Bool.{cases_eq, ltb-false}
use Rattle.std.proofs.lemmas.List.{get_or-set_same, get_or-set_other, length-set, places}
use Rattle.std.specs.List.{remove}
use Rattle.mdns_timer.specs.Tree.{moment_at, least_at, IsOn, HasLeast, IsTree, IsTreeBut}
use Rattle.mdns_timer.proofs.Paths.{on_itself, on_up, on_step, none_above, half_even, half_odd}

-- all nodes have their least but for those above one
pub record IsTreeTo (node : ℕ) (moments nodes : List ℕ) : Type 0 where
  pub at : (j : ℕ) → 1 ≤ j → j < length nodes → HasLeast moments nodes j ⊎ IsOn (node / 2) j

module _ (moments nodes : List ℕ) (node v : ℕ) (within : node < length nodes) where
  -- a write leaves what other nodes have
  least_other : (k : ℕ) → k ≢ node → least_at (set nodes node v) moments k ≡ least_at nodes moments k
  least_other k other =
      ap (λ (n : ℕ). cond (nat_lt k n) (get_or (set nodes node v) k 0) (moment_at moments (k - n))) (length-set nodes node v)
      ∙ ap (λ (w : ℕ). cond (nat_lt k (length nodes)) w (moment_at moments (k - length nodes))) (get_or-set_other nodes node k v 0 other)

  -- a node that isn't written, and of which no child is, has its least still
  least_still : (j : ℕ) → j ≢ node → 2 * j ≢ node → 2 * j + 1 ≢ node → HasLeast moments nodes j → HasLeast moments (set nodes node v) j
  least_still j apart left right h =
      get_or-set_other nodes node j v 0 apart ∙ h
      ∙ (λ i. min (sym (least_other (2 * j) left) i) (sym (least_other (2 * j + 1) right) i))

  -- the written node has its least
  least_here : 1 ≤ node → v ≡ min (least_at nodes moments (2 * node)) (least_at nodes moments (2 * node + 1)) → HasLeast moments (set nodes node v) node
  least_here some is =
      get_or-set_same nodes node v 0 within ∙ is
      ∙ (λ i. min (sym (least_other (2 * node) (λ q. absurd (omega arith))) i) (sym (least_other (2 * node + 1) (λ q. absurd (omega arith))) i))

-- at first everything above the place is open
pub tree_below : (moments nodes : List ℕ) (place : ℕ) → place < length nodes → IsTreeBut place moments nodes → IsTreeTo (length nodes + place) moments nodes
tree_below moments nodes place within tree = record { at = λ j some below. ⊎_elim inl (λ on. inr (from j below on)) (tree.at j some below) }
  where
    from : (j : ℕ) → j < length nodes → IsOn (length nodes + place) j → IsOn ((length nodes + place) / 2) j
    from j below on = ⊎_elim (λ e. absurd (omega arith)) (λ h. h) (on_step (length nodes + place) j on)

-- at last nothing is
pub tree_to_root : (moments nodes : List ℕ) (node : ℕ) → node ≤ 1 → IsTreeTo node moments nodes → IsTree moments nodes
tree_to_root moments nodes node low tree = record { at = λ j some below. ⊎_elim (λ h. h) (λ on. absurd (none_above j some (subst (λ (n : ℕ). IsOn n j) none on))) (tree.at j some below) }
  where
    none : node / 2 ≡ 0
    none = omega arith

-- the node above has its least
pub tree_up : (moments nodes : List ℕ) (node up v : ℕ) → up ≡ node / 2 → 1 ≤ up → up < length nodes → v ≡ min (least_at nodes moments (2 * up)) (least_at nodes moments (2 * up + 1)) →
    IsTreeTo node moments nodes → IsTreeTo up moments (set nodes up v)
tree_up moments nodes node up v is_up some within is tree = record { at = λ j low below. ⊎_elim same (other j low (subst (λ (n : ℕ). j < n) (length-set nodes up v) below)) (cases_eq j up) }
  where
    Goal : ℕ → Type 0
    Goal j = HasLeast moments (set nodes up v) j ⊎ IsOn (up / 2) j

    same : {j : ℕ} → j ≡ up → Goal j
    same e = inl (subst (HasLeast moments (set nodes up v)) (sym e) (least_here moments nodes up v within some is))

    other : (j : ℕ) → 1 ≤ j → j < length nodes → (j ≡ up → ⊥) → Goal j
    other j low below apart = ⊎_elim kept above (tree.at j low below)
      where
        child : (k : ℕ) → k / 2 ≡ j → k ≡ up → Goal j
        child k half e = inr (subst (λ (n : ℕ). IsOn (n / 2) j) e (subst (λ (n : ℕ). IsOn n j) (sym half) (on_itself j)))

        kept : HasLeast moments nodes j → Goal j
        kept h = ⊎_elim (child (2 * j) (half_even j)) (λ p. ⊎_elim (child (2 * j + 1) (half_odd j)) (λ q. inl (least_still moments nodes up v within j apart p q h)) (cases_eq (2 * j + 1) up)) (cases_eq (2 * j) up)

        above : IsOn (node / 2) j → Goal j
        above on = ⊎_elim (λ e. absurd (apart (sym e))) (λ more. inr more) (on_step up j (subst (λ (n : ℕ). IsOn n j) (sym is_up) on))

-- the nodes from one on have their least
pub record IsTreeFrom (node : ℕ) (moments nodes : List ℕ) : Type 0 where
  pub at : (j : ℕ) → 1 ≤ j → node ≤ j → j < length nodes → HasLeast moments nodes j

pub tree_down : (moments nodes : List ℕ) (node v : ℕ) → 1 ≤ node → node < length nodes → v ≡ min (least_at nodes moments (2 * node)) (least_at nodes moments (2 * node + 1)) →
    IsTreeFrom (node + 1) moments nodes → IsTreeFrom node moments (set nodes node v)
tree_down moments nodes node v some within is tree = record { at = λ j low from below. ⊎_elim same (other j low from (subst (λ (n : ℕ). j < n) (length-set nodes node v) below)) (cases_eq j node) }
  where
    same : {j : ℕ} → j ≡ node → HasLeast moments (set nodes node v) j
    same e = subst (HasLeast moments (set nodes node v)) (sym e) (least_here moments nodes node v within some is)

    other : (j : ℕ) → 1 ≤ j → node ≤ j → j < length nodes → (j ≡ node → ⊥) → HasLeast moments (set nodes node v) j
    other j low from below apart = least_still moments nodes node v within j apart (λ q. absurd (omega arith)) (λ q. absurd (omega arith)) (tree.at j low (omega (arith, apart)) below)

-- lists that are different at a place
tree_differs : (moments others nodes : List ℕ) (place : ℕ) → ((k : ℕ) → k ≢ place → moment_at others k ≡ moment_at moments k) → IsTree moments nodes → IsTreeBut place others nodes
tree_differs moments others nodes place same tree = record { at = λ j some below. at j some below }
  where
    n : ℕ
    n = length nodes

    least_kept : (k : ℕ) → k ≢ n + place → least_at nodes others k ≡ least_at nodes moments k
    least_kept k apart = of (nat_lt k n) refl
      where
        of : (b : Bool) → nat_lt k n ≡ b → cond b (get_or nodes k 0) (moment_at others (k - n)) ≡ cond b (get_or nodes k 0) (moment_at moments (k - n))
        of true e = refl
        of false e =
            let past : n ≤ k = ltb-false k n e in
            same (k - n) (λ q. apart (omega arith))

    at : (j : ℕ) → 1 ≤ j → j < n → HasLeast others nodes j ⊎ IsOn (n + place) j
    at j some below = ⊎_elim left (λ p. ⊎_elim right (λ q. inl (tree.at j some below ∙ (λ i. min (sym (least_kept (2 * j) p) i) (sym (least_kept (2 * j + 1) q) i)))) (cases_eq (2 * j + 1) (n + place))) (cases_eq (2 * j) (n + place))
      where
        up : (k : ℕ) → k / 2 ≡ j → k ≡ n + place → IsOn (n + place) j
        up k half e = subst (λ (m : ℕ). IsOn m j) e (on_up k j (subst (λ (m : ℕ). IsOn m j) (sym half) (on_itself j)))

        left : 2 * j ≡ n + place → HasLeast others nodes j ⊎ IsOn (n + place) j
        left e = inr (up (2 * j) (half_even j) e)

        right : 2 * j + 1 ≡ n + place → HasLeast others nodes j ⊎ IsOn (n + place) j
        right e = inr (up (2 * j + 1) (half_odd j) e)

-- a list that was changed at a place
pub tree_changed : (moments nodes : List ℕ) (place v : ℕ) → IsTree moments nodes → IsTreeBut place (set moments place v) nodes
tree_changed moments nodes place v tree = tree_differs moments (set moments place v) nodes place (λ k apart. get_or-set_other moments place k v (2 ^ 64 - 1) apart) tree

-- a list with one more
others_stand : (moments : List ℕ) (v k : ℕ) → k ≢ length moments → moment_at (moments ++ v ∷ []) k ≡ moment_at moments k
others_stand [] v zero apart = absurd (apart refl)
others_stand [] v (suc k) apart = refl
others_stand (m ∷ moments) v zero apart = refl
others_stand (m ∷ moments) v (suc k) apart = others_stand moments v k (λ e. apart (ap suc e))

pub tree_pushed : (moments nodes : List ℕ) (v : ℕ) → IsTree moments nodes → IsTreeBut (length moments) (moments ++ v ∷ []) nodes
tree_pushed moments nodes v tree = tree_differs moments (moments ++ v ∷ []) nodes (length moments) (others_stand moments v) tree

-- a list without its last moment
pub tree_popped : (moments nodes : List ℕ) (place : ℕ) → place + 1 ≡ length moments → IsTree moments nodes → IsTreeBut place (remove moments place) nodes
tree_popped moments nodes place last tree = tree_differs moments (remove moments place) nodes place same tree
  where
    same : (k : ℕ) → k ≢ place → moment_at (remove moments place) k ≡ moment_at moments k
    same k apart = grind (arith, places)
