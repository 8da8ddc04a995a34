use Rattle.std.proofs.Common.{◌≡◌, ◌∙◌, ℕ, ◌+◌, ◌<◌, List, length, subst, sym, arith}
use Rattle.std.specs.Prelude.{IsSome}
use Rattle.std.specs.Map.{lookup}
use Rattle.by_name.specs.At.{At, at, at_eq}
use Rattle.by_name.specs.Filed.{HaveNoGap}
use Rattle.by_name.proofs.Finding.{found_within}
use Rattle.by_name.proofs.taking.last_of.Goals as goal

-- where the probe hits, its number is one of the entries'
hit : {T : Type 0} (es : List (At × T)) → HaveNoGap es → (owner : List ℕ) (number : ℕ) (probe : At) → probe ≡ at owner number → IsSome (lookup (at_eq probe) es) → number < length es
hit es gapless owner number probe is some = found_within es gapless owner number (subst (λ (k : At). IsSome (lookup (at_eq k) es)) is some)

pub overflow_add-last : goal.overflow_add-last
overflow_add-last g c =
    let within = found_within c.args.values.now.entries c.requires.filed.gapless c.args.place.now.owner c.args.place.now.number c.requires.there in
    let small = c.len-len.ensures.small in
    let len = c.len-len.ensures.len in
    let is = c.number-last.ensures in
    grind arith

pub overflow_add-last-in-loop-last : goal.overflow_add-last-in-loop-last
overflow_add-last-in-loop-last g c =
    let within = found_within c.args.values.now.entries c.requires.filed.gapless c.args.place.now.owner c.loop-last.last c.loop-last.invariant.there in
    let short = c.loop-last.invariant.short in
    let small = c.loop-last.invariant.small in
    grind arith

pub overflow_mul-step : goal.overflow_mul-step
overflow_mul-step g c =
    let within = hit c.args.values.now.entries c.requires.filed.gapless c.args.place.now.owner (c.loop-last.last + c.loop-last.step) c.loop-last.probe c.loop-last.invariant.probe (sym c.contains_key.ensures ∙ c.loop-last-test.true) in
    let small = c.loop-last.invariant.small in
    grind arith

pub overflow_add-last-in-loop-last-2 : goal.overflow_add-last-in-loop-last-2
overflow_add-last-in-loop-last-2 g c =
    let within = hit c.args.values.now.entries c.requires.filed.gapless c.args.place.now.owner (c.loop-last.last + c.loop-last.step) c.loop-last.probe c.loop-last.invariant.probe (sym c.contains_key.ensures ∙ c.loop-last-test.true) in
    let small = c.loop-last.invariant.small in
    let short = c.loop-last.invariant.short in
    grind arith

pub loop-last-smaller : goal.loop-last-smaller
loop-last-smaller g c =
    let within = hit c.args.values.now.entries c.requires.filed.gapless c.args.place.now.owner (c.loop-last.last + c.loop-last.step) c.loop-last.probe c.loop-last.invariant.probe (sym c.contains_key.ensures ∙ c.loop-last-test.true) in
    let step = c.loop-last.invariant.step in
    omega (arith, within, step)

pub overflow_add-last-2 : goal.overflow_add-last-2
overflow_add-last-2 g c =
    let within = found_within c.args.values.now.entries c.requires.filed.gapless c.args.place.now.owner c.loop-last.last c.loop-last.invariant.there in
    let short = c.loop-last.invariant.short in
    let small = c.loop-last.invariant.small in
    grind arith
