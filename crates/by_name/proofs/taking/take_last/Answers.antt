use Rattle.std.proofs.Common.{◌≡◌, ℕ, ◌-◌, ◌+◌, ◌<◌, List, [], ◌∷◌, length, subst, sym, arith}
use Rattle.std.specs.Map.{values_of}
use Rattle.by_name.specs.At.{At}
use Rattle.by_name.specs.Filed.{AgreeBut}
use Rattle.by_name.proofs.Changes.{agree-swap_remove}
use Rattle.by_name.proofs.Removed.{IsTakenAt, taken_at}
use Rattle.by_name.proofs.taking.take_last.Goals as goal

pub returns-clause-moved : goal.returns-clause-moved
returns-clause-moved g c =
    (taken_at c.args.values.now.entries c.swap_remove_full.new.self.entries c.args.last.now c.in_ok-hole._last c.in_ok-hole.one c.in_ok-hole.hole
    c.in_ok-hole.ensures.index c.in_ok-hole.ensures.key c.in_ok-hole.ensures.value c.in_ok-hole.ensures.entries).moved

pub returns-clause-agree : goal.returns-clause-agree
returns-clause-agree g c =
    let before : List (At × g.row.T.Denot) = c.args.values.now.entries in
    let after : List (At × g.row.T.Denot) = c.swap_remove_full.new.self.entries in
    let hole : ℕ = c.in_ok-hole.hole in
    let taken : IsTakenAt before after c.args.last.now c.in_ok-hole.one hole =
    taken_at before after c.args.last.now c.in_ok-hole._last c.in_ok-hole.one hole c.in_ok-hole.ensures.index c.in_ok-hole.ensures.key c.in_ok-hole.ensures.value c.in_ok-hole.ensures.entries in
    let within : hole < length before = taken.hole_within in
    let len : length after + 1 ≡ length before = c.in_ok-hole.ensures.len in
    let last : length after ≡ length before - 1 = omega arith in
    subst (λ (n : ℕ). AgreeBut (hole ∷ n ∷ []) (values_of before) (values_of after)) (sym last)
    (subst (λ (l : List (At × g.row.T.Denot)). AgreeBut (hole ∷ (length before - 1) ∷ []) (values_of before) (values_of l)) (sym taken.swapped)
    (agree-swap_remove before hole (c.args.last.now, c.in_ok-hole.one) (omega arith)))

pub returns-clause-within : goal.returns-clause-within
returns-clause-within g c =
    let taken = taken_at c.args.values.now.entries c.swap_remove_full.new.self.entries c.args.last.now c.in_ok-hole._last c.in_ok-hole.one c.in_ok-hole.hole
    c.in_ok-hole.ensures.index c.in_ok-hole.ensures.key c.in_ok-hole.ensures.value c.in_ok-hole.ensures.entries in
    let within : c.in_ok-hole.hole < length c.args.values.now.entries = taken.hole_within in
    let len : length c.swap_remove_full.new.self.entries + 1 ≡ length c.args.values.now.entries = c.in_ok-hole.ensures.len in
    omega arith
