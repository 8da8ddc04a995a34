use Rattle.std.proofs.Common.{◌≡◌, ℕ, List, None, Some, false, sym, ap, subst, is_some, arith}
use Rattle.by_name.specs.At.{At, owner_of}
use Rattle.by_name.specs.Filed.{found}
use Rattle.by_name.proofs.Finding.{found_within}
use Rattle.sd_index.specs.declared.asker.Asker.{Asker}
use Rattle.sd_index.specs.Asked.{asker_eq, askers_of}
use Rattle.sd_index.proofs.Named.{all_found, none_of}
use Rattle.sd_index.proofs.search.place_of.Goals as goal

pub overflow_add-number : goal.overflow_add-number
overflow_add-number c =
    let es : List (At × Asker) = c.args.filed.now.entries in
    let owner : List ℕ = owner_of c.args.name.now in
    let there : found owner c.loop-one.number es ≡ Some c.in-Some.one.now = subst (λ (k : At). found k.owner k.number es ≡ Some c.in-Some.one.now) c.loop-one.invariant.place (sym c.in-Some.ensures) in
    let within = found_within es c.loop-one.invariant.filed.gapless owner c.loop-one.number (ap is_some there) in
    let small = c.loop-one.invariant.small in
    grind arith

pub loop-one-smaller : goal.loop-one-smaller
loop-one-smaller c =
    let es : List (At × Asker) = c.args.filed.now.entries in
    let owner : List ℕ = owner_of c.args.name.now in
    let there : found owner c.loop-one.number es ≡ Some c.in-Some.one.now = subst (λ (k : At). found k.owner k.number es ≡ Some c.in-Some.one.now) c.loop-one.invariant.place (sym c.in-Some.ensures) in
    let within = found_within es c.loop-one.invariant.filed.gapless owner c.loop-one.number (ap is_some there) in
    omega (arith, within)

pub returns-clause-none : goal.returns-clause-none
returns-clause-none c =
    let es : List (At × Asker) = c.args.filed.now.entries in
    let owner : List ℕ = owner_of c.args.name.now in
    let none : found owner c.loop-one.number es ≡ None = subst (λ (k : At). found k.owner k.number es ≡ None) c.loop-one.invariant.place (sym c.in_default.ensures) in
    none_of (asker_eq c.args.asker) (askers_of owner es)
    (all_found (λ (one : Asker). asker_eq c.args.asker one ≡ false) owner c.loop-one.number es c.loop-one.invariant.filed none c.loop-one.invariant.apart)
