use Rattle.std.proofs.Common.{◌≡◌, ℕ, List, [], ◌∷◌, None, length, slice_get, sym, subst, arith, IsPermutation}
use Rattle.std.specs.Map.{values_of}
use Rattle.std.proofs.lemmas.Map.Entries.{length-values_of}
use Rattle.std.proofs.lemmas.Option.{slice_get_past}
use Rattle.mdns_history.specs.declared.held.Held.{Held}
use Rattle.by_name.specs.Filed.{Filing, AllOwned}
use Rattle.mdns_cache.specs.Named.{Entry}
use Rattle.mdns_cache.specs.Printed.{AreIndexed}
use Rattle.mdns_cache.proofs.EndsFirst.{values_without}
use Rattle.mdns_cache.proofs.Indexing.{are_indexed-past}
use Rattle.mdns_cache.proofs.holdings.Holdings.take_out.Goals as goal

pub invariant_of-self-2 : goal.invariant_of-self-2
invariant_of-self-2 c =
    let before : List Held = values_of c.self.inside.named.entries in
    let es : List Entry = c.take_out.new.self.entries in
    let after : List Held = values_of es in
    let filled : ℕ = c.in_ok-taken.taken.filled in
    let hole : ℕ = c.in_ok-taken.taken.hole in
    let last : ℕ = length es in
    let taken : Held = c.in_ok-taken.taken.one in
    let moved : IsPermutation before (taken ∷ after) = values_without c.args.place.now.owner c.args.place.now.number taken c.self.inside.named.entries es c.in_ok-taken.ensures.without in
    let one : AreIndexed c.forget.new.self (filled ∷ hole ∷ last ∷ []) after = c.forget.ensures.indexed before after taken (filled ∷ hole ∷ last ∷ []) (sym c.deref.ensures) moved c.in_ok-taken.ensures.agree c.self.invariant.0 in
    let two : AreIndexed c.mend.new.self (hole ∷ last ∷ []) after =
    subst (AreIndexed c.mend.new.self (hole ∷ last ∷ [])) c.values.ensures
    (c.mend.ensures.indexed (hole ∷ last ∷ []) (subst (AreIndexed c.forget.new.self (filled ∷ hole ∷ last ∷ [])) (sym c.values.ensures) one)) in
    let three : AreIndexed c.mend-2.new.self (last ∷ []) after =
    subst (AreIndexed c.mend-2.new.self (last ∷ [])) c.values-2.ensures
    (c.mend-2.ensures.indexed (last ∷ []) (subst (AreIndexed c.mend.new.self (hole ∷ last ∷ [])) (sym c.values-2.ensures) two)) in
    let size : length after ≡ last = length-values_of es in
    let past : slice_get after last ≡ None = slice_get_past after last (omega (arith, size)) in
    let all = c.self.invariant in
    let fewer = c.in_ok-taken.ensures.len in
    let spare = c.in_ok-taken.ensures.spare in
    let kept = c.forget.ensures.spare in
    let first = c.mend.ensures.spare in
    let second = c.mend-2.ensures.spare in
    let len = c.len-len.ensures.len in (
      are_indexed-past c.mend-2.new.self after last [] past three,
      grind arith,
      grind arith,
      grind arith,
    )

pub returns-clause-owned : goal.returns-clause-owned
returns-clause-owned c = λ test owned. c.in_ok-taken.ensures.owned test (subst (λ (v : Filing Held). AllOwned test v.entries) (sym c.self.view_is) owned)
