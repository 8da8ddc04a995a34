use Rattle.std.proofs.Common.{◌≡◌, ℕ, ◌/◌, ◌<◌, List, Option, length, subst, arith}
use Rattle.std.specs.Prelude.{IfNone}
use Rattle.mdns_timer.specs.Parts.{NoneDue}
use Rattle.mdns_timer.proofs.Parted.{none_in, half_less, both_halves, left_part, right_part}
use Rattle.mdns_timer.proofs.tree.+due_in.Goals as goal

-- what lies before the end of the right half lies before that of the part
to_end : (moments : List ℕ) (now from : ℕ) (r : Option ℕ) (m n : ℕ) → m ≡ n → IfNone r (NoneDue moments now from m) → IfNone r (NoneDue moments now from n)
to_end moments now from r m n e h = subst (λ (k : ℕ). IfNone r (NoneDue moments now from k)) e h

pub due_in-requires : goal.due_in-requires
due_in-requires t c =
    let size : ℕ = length c.args.nodes.now in
    let less : c.args.part.width / 2 < c.args.part.width = half_less size c.args.part c.requires.part c.if-part-eq1.false in
    (omega (arith, less), (c.requires.tree, (c.requires.small, (left_part size c.args.part c.requires.part c.if-part-eq1.false, c.requires.before))))

pub due_in-requires-in-None : goal.due_in-requires-in-None
due_in-requires-in-None t c =
    let size : ℕ = length c.args.nodes.now in
    let less : c.args.part.width / 2 < c.args.part.width = half_less size c.args.part c.requires.part c.if-part-eq1.false in
    (omega (arith, less), (c.requires.tree, (c.requires.small, (right_part size c.args.part c.requires.part c.if-part-eq1.false, c.in-None.ensures.none))))

pub returns-in-None-clause-none : goal.returns-in-None-clause-none
returns-in-None-clause-none t c =
    to_end c.args.moments.now c.args.now c.args.from c.due_in-in-None.result _ _ (both_halves (length c.args.nodes.now) c.args.part c.requires.part c.if-part-eq1.false) c.due_in-in-None.ensures.none

pub returns-then-least_at-now-clause-none : goal.returns-then-least_at-now-clause-none
returns-then-least_at-now-clause-none t c =
    let later : c.args.now < c.least_at.result = c.if-least_at-now.true in
    none_in c.args.moments.now c.args.nodes.now c.requires.tree c.args.part c.args.now c.args.from c.requires.part (omega (arith, later, c.least_at.ensures)) c.requires.before
