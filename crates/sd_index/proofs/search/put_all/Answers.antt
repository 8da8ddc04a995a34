use Rattle.std.proofs.Common.{◌≡◌, ◌∙◌, ◌+◌, ◌^◌, ◌<◌, ◌++◌, ◌∷◌, [], ℕ, List, None, Some, IsPermutation, sym, ap, subst, is_some, arith, add-one, append-nil, append_assoc}
use Rattle.std.proofs.lemmas.List.Sorted.{IsPermutation-append_right}
use Rattle.by_name.specs.At.{At, at, owner_of}
use Rattle.by_name.specs.Filed.{found}
use Rattle.by_name.proofs.Finding.{found_within}
use Rattle.sd_index.specs.declared.asker.Asker.{Asker}
use Rattle.sd_index.specs.Asked.{askers_of}
use Rattle.sd_index.proofs.Runs.{run, run-none, run-next, run-filed}
use Rattle.sd_index.proofs.search.put_all.Goals as goal

pub overflow_add-number : goal.overflow_add-number
overflow_add-number c =
    let es : List (At × Asker) = c.args.filed.now.entries in
    let owner : List ℕ = owner_of c.args.name.now in
    let there : found owner c.loop-asker.number es ≡ Some c.in-Some.asker.now = subst (λ (k : At). found k.owner k.number es ≡ Some c.in-Some.asker.now) c.loop-asker.invariant.place (sym c.in-Some.ensures) in
    let within = found_within es c.loop-asker.invariant.filed.gapless owner c.loop-asker.number (ap is_some there) in
    let small = c.loop-asker.invariant.small in
    grind arith

pub loop-asker-init : goal.loop-asker-init
loop-asker-init c = record {
  small = subst (λ (n : ℕ). n < 2 ^ 63) c.len-len.ensures.len c.len-len.ensures.small;
  filed = c.len-len.ensures.filed;
  place = c.new-place.ensures;
  put = sym (append-nil c.args.askers.now.items) ∙ ap (λ (l : List Asker). c.args.askers.now.items ++ l) (sym (run-none (owner_of c.args.name.now) c.args.filed.now.entries));
}

pub loop-asker-preserved : goal.loop-asker-preserved
loop-asker-preserved c =
    let es : List (At × Asker) = c.args.filed.now.entries in
    let owner : List ℕ = owner_of c.args.name.now in
    let there : found owner c.loop-asker.number es ≡ Some c.in-Some.asker.now = subst (λ (k : At). found k.owner k.number es ≡ Some c.in-Some.asker.now) c.loop-asker.invariant.place (sym c.in-Some.ensures) in
    record {
      small = c.loop-asker.invariant.small;
      filed = c.loop-asker.invariant.filed;
      place = c.go.ensures ∙ ap (λ (k : At). at k.owner (c.loop-asker.number + 1)) c.loop-asker.invariant.place;
      put = c.in_ok-push.ensures.items ∙ ap (λ (l : List Asker). l ++ c.in-Some.asker.now ∷ []) c.loop-asker.invariant.put
          ∙ append_assoc c.args.askers.now.items (run owner c.loop-asker.number es) (c.in-Some.asker.now ∷ [])
          ∙ ap (λ (l : List Asker). c.args.askers.now.items ++ l) (sym (run-next owner c.loop-asker.number es c.in-Some.asker.now there))
          ∙ ap (λ (n : ℕ). c.args.askers.now.items ++ run owner n es) (sym (add-one c.loop-asker.number));
    }

pub loop-asker-smaller : goal.loop-asker-smaller
loop-asker-smaller c =
    let es : List (At × Asker) = c.args.filed.now.entries in
    let owner : List ℕ = owner_of c.args.name.now in
    let there : found owner c.loop-asker.number es ≡ Some c.in-Some.asker.now = subst (λ (k : At). found k.owner k.number es ≡ Some c.in-Some.asker.now) c.loop-asker.invariant.place (sym c.in-Some.ensures) in
    let within = found_within es c.loop-asker.invariant.filed.gapless owner c.loop-asker.number (ap is_some there) in
    omega (arith, within)

pub returns : goal.returns
returns c =
    let es : List (At × Asker) = c.args.filed.now.entries in
    let owner : List ℕ = owner_of c.args.name.now in
    let none : found owner c.loop-asker.number es ≡ None = subst (λ (k : At). found k.owner k.number es ≡ None) c.loop-asker.invariant.place (sym c.in_default.ensures) in
    subst (λ (l : List Asker). IsPermutation l (c.args.askers.now.items ++ askers_of owner es)) (sym c.loop-asker.invariant.put)
    (IsPermutation-append_right c.args.askers.now.items (run owner c.loop-asker.number es) (askers_of owner es) (run-filed owner c.loop-asker.number es c.loop-asker.invariant.filed none))
