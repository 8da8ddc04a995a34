-- What lies below a node.
use Rattle.std.proofs.Common.{◌≡◌, ℕ, zero, suc, ◌+◌, ◌-◌, ◌*◌, ◌/◌, ◌<◌, ◌≤◌, nat_lt, min, cond, Bool, true, false, ⊎_elim, List, length, get_or, refl, sym, ap, ◌∙◌, arith}
use Rattle.std.proofs.lemmas.Bool.{cases_lt, ltb-true, ltb-false}
use Rattle.mdns_timer.specs.declared.part.Part.{Part}
use Rattle.mdns_timer.specs.Tree.{moment_at, least_at, IsTree, width}
use Rattle.mdns_timer.specs.Parts.{IsPart, NoneDue}

pub width_some : (h : ℕ) → 1 ≤ width h
width_some zero = omega arith
width_some (suc h) = let more : 1 ≤ width h = width_some h in omega arith

-- a node, and its two children, of half the width
double : (node w : ℕ) → node * (2 * w) ≡ 2 * (node * w)
double node w = grind arith

left_is : (node w : ℕ) → (2 * node) * w ≡ 2 * (node * w)
left_is node w = grind arith

right_is : (node w : ℕ) → (2 * node + 1) * w ≡ 2 * (node * w) + w
right_is node w = grind arith

node_within : (node w : ℕ) → 1 ≤ w → node ≤ node * w
node_within node zero h = absurd (omega arith)
node_within node (suc w) h = grind arith

module _ (node w size first : ℕ) (stands : node * (2 * w) ≡ size + first) where
  pub left_stands : (2 * node) * w ≡ size + first
  left_stands = left_is node w ∙ sym (double node w) ∙ stands

  pub right_stands : (2 * node + 1) * w ≡ size + (first + w)
  right_stands = let d : node * (2 * w) ≡ 2 * (node * w) = double node w in right_is node w ∙ (let e : 2 * (node * w) + w ≡ size + (first + w) = omega arith in e)

  -- a node above a leaf is no leaf
  pub inner_below : 1 ≤ w → first + 2 * w ≤ size → node < size
  inner_below some within =
      let d : node * (2 * w) ≡ 2 * (node * w) = double node w in
      let l : node ≤ node * w = node_within node w some in
      omega arith

  pub inner_some : 1 ≤ w → first + 2 * w ≤ size → 1 ≤ node
  inner_some some within = of node stands
    where
      of : (node : ℕ) → node * (2 * w) ≡ size + first → 1 ≤ node
      of zero h = absurd (omega arith)
      of (suc node) h = omega arith

module _ (moments nodes : List ℕ) where
  least_leaf : (node : ℕ) → length nodes ≤ node → least_at nodes moments node ≡ moment_at moments (node - length nodes)
  least_leaf node past = of (nat_lt node (length nodes)) refl
    where
      of : (b : Bool) → nat_lt node (length nodes) ≡ b → cond b (get_or nodes node 0) (moment_at moments (node - length nodes)) ≡ moment_at moments (node - length nodes)
      of true e = let below : node < length nodes = ltb-true node (length nodes) e in absurd (omega arith)
      of false e = refl

  least_inner : (node : ℕ) → node < length nodes → least_at nodes moments node ≡ get_or nodes node 0
  least_inner node below = of (nat_lt node (length nodes)) refl
    where
      of : (b : Bool) → nat_lt node (length nodes) ≡ b → cond b (get_or nodes node 0) (moment_at moments (node - length nodes)) ≡ get_or nodes node 0
      of true e = refl
      of false e = let past : length nodes ≤ node = ltb-false node (length nodes) e in absurd (omega arith)

  -- a leaf has the moment at its place
  pub leaf : (node first : ℕ) → node * 1 ≡ length nodes + first → least_at nodes moments node ≡ moment_at moments first
  leaf node first stands =
      let is : node ≡ length nodes + first = omega arith in
      let place : node - length nodes ≡ first = omega arith in
      least_leaf node (omega arith) ∙ ap (moment_at moments) place

  module _ (tree : IsTree moments nodes) where
    -- an inner node has the least of its two children
    pub inner : (node w first : ℕ) → node * (2 * w) ≡ length nodes + first → 1 ≤ w → first + 2 * w ≤ length nodes →
        least_at nodes moments node ≡ min (least_at nodes moments (2 * node)) (least_at nodes moments (2 * node + 1))
    inner node w first stands some within =
        let below : node < length nodes = inner_below node w (length nodes) first stands some within in
        least_inner node below ∙ tree.at node (inner_some node w (length nodes) first stands some within) below

    -- no moment below a node is less than what the node has
    pub lower : (h node first k : ℕ) → node * width h ≡ length nodes + first → first + width h ≤ length nodes → first ≤ k → k < first + width h → least_at nodes moments node ≤ moment_at moments k
    lower zero node first k stands within from below =
        let same : first ≡ k = omega arith in
        let is : least_at nodes moments node ≡ moment_at moments k = leaf node first stands ∙ ap (moment_at moments) same in
        omega (arith, is)
    lower (suc h) node first k stands within from below =
        let some : 1 ≤ width h = width_some h in
        let is : least_at nodes moments node ≡ min (least_at nodes moments (2 * node)) (least_at nodes moments (2 * node + 1)) = inner node (width h) first stands some within in
        ⊎_elim
        (λ less. let l : least_at nodes moments (2 * node) ≤ moment_at moments k = lower h (2 * node) first k (left_stands node (width h) (length nodes) first stands) (omega arith) from less in omega (arith, is, l))
        (λ more. let r : least_at nodes moments (2 * node + 1) ≤ moment_at moments k = lower h (2 * node + 1) (first + width h) k (right_stands node (width h) (length nodes) first stands) (omega arith) more (omega arith) in omega (arith, is, r))
        (cases_lt k (first + width h))

    -- one of them is what the node has
    pub reached : (h node first : ℕ) → node * width h ≡ length nodes + first → first + width h ≤ length nodes → (k : ℕ) × (least_at nodes moments node ≡ moment_at moments k)
    reached zero node first stands within = (first, leaf node first stands)
    reached (suc h) node first stands within =
        let some : 1 ≤ width h = width_some h in
        let is : least_at nodes moments node ≡ min (least_at nodes moments (2 * node)) (least_at nodes moments (2 * node + 1)) = inner node (width h) first stands some within in
        ⊎_elim
        (λ less. let l = reached h (2 * node) first (left_stands node (width h) (length nodes) first stands) (omega arith) in (l.0, let e : least_at nodes moments node ≡ least_at nodes moments (2 * node) = omega (arith, is, less) in e ∙ l.1))
        (λ more. let r = reached h (2 * node + 1) (first + width h) (right_stands node (width h) (length nodes) first stands) (omega arith) in (r.0, let e : least_at nodes moments node ≡ least_at nodes moments (2 * node + 1) = omega (arith, is, more) in e ∙ r.1))
        (cases_lt (least_at nodes moments (2 * node)) (least_at nodes moments (2 * node + 1)))

-- where the least moment of a part hasn't come, none in it has
pub none_in : (moments nodes : List ℕ) → IsTree moments nodes → (part : Part) (now from : ℕ) → IsPart (length nodes) part → now < least_at nodes moments part.node → NoneDue moments now from part.first →
    NoneDue moments now from (part.first + part.width)
none_in moments nodes tree part now from at later before = λ k behind below. ⊎_elim (before k behind) (inside k below) (cases_lt k part.first)
  where
    inside : (k : ℕ) → k < part.first + part.width → part.first ≤ k → now < moment_at moments k
    inside k below past =
        let wide : part.width ≡ width at.height = at.wide in
        let within : part.first + part.width ≤ length nodes = at.within in
        let low : least_at nodes moments part.node ≤ moment_at moments k = lower moments nodes tree at.height part.node part.first k at.stands (omega (arith, wide, within)) past (omega (arith, wide, below)) in
        omega (arith, low, later)

-- a part of more than one place has two halves
module _ (size : ℕ) (part : Part) (at : IsPart size part) (more : part.width ≡ 1 → ⊥) where
  pub halves : (h : ℕ) × (part.width ≡ 2 * width h) × (part.node * (2 * width h) ≡ size + part.first)
  halves = of at.height at.wide at.stands
    where
      of : (h : ℕ) → part.width ≡ width h → part.node * width h ≡ size + part.first → (h : ℕ) × (part.width ≡ 2 * width h) × (part.node * (2 * width h) ≡ size + part.first)
      of zero wide stands = absurd (more wide)
      of (suc h) wide stands = (h, wide, stands)

  half_wide : part.width / 2 ≡ width halves.0
  half_wide = let wide : part.width ≡ 2 * width halves.0 = halves.1 in omega (arith, wide)

  pub half_less : part.width / 2 < part.width
  half_less =
      let wide : part.width ≡ 2 * width halves.0 = halves.1 in
      let half : part.width / 2 ≡ width halves.0 = half_wide in
      let some : 1 ≤ width halves.0 = width_some halves.0 in
      omega (arith, wide, half, some)

  pub both_halves : (part.first + part.width / 2) + part.width / 2 ≡ part.first + part.width
  both_halves =
      let wide : part.width ≡ 2 * width halves.0 = halves.1 in
      let half : part.width / 2 ≡ width halves.0 = half_wide in
      omega (arith, wide, half)

  pub left_part : IsPart size (record { node = 2 * part.node; first = part.first; width = part.width / 2 })
  left_part = record {
    height = halves.0;
    wide = half_wide;
    stands = left_stands part.node (width halves.0) size part.first halves.2;
    within = let whole : part.first + part.width ≤ size = at.within in omega (arith, whole);
  }

  pub right_part : IsPart size (record { node = 2 * part.node + 1; first = part.first + part.width / 2; width = part.width / 2 })
  right_part = record {
    height = halves.0;
    wide = half_wide;
    stands = right_stands part.node (width halves.0) size part.first halves.2 ∙ ap (λ n. size + (part.first + n)) (sym half_wide);
    within = let whole : part.first + part.width ≤ size = at.within in let both = both_halves in omega (arith, whole, both);
  }
