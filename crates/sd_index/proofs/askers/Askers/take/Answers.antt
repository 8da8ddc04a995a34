use Rattle.std.proofs.Common.{◌≡◌, ◌∙◌, ◌++◌, ◌∷◌, Bool, [], cond, List, Some, IsPermutation, slice_get, ap, subst, sym}
use Rattle.dns_record.specs.declared.record.Key.{Key}
use Rattle.mdns_history.specs.Questions.{keys_of}
use Rattle.by_name.specs.Filed.{Filing}
use Rattle.sd_index.specs.declared.asker.Asker.{Asker}
use Rattle.sd_index.specs.Asked.{askers_of, if_asks}
use Rattle.sd_index.proofs.Asks.{asks_by}
use Rattle.sd_index.proofs.askers.Askers.take.Goals as goal

pub returns-in-Some : goal.returns-in-Some
returns-in-Some c = λ owner rest h.
    let first : slice_get (keys_of c.args.request.now) 0 ≡ Some c.in-Some.question.now =
    ap (λ (keys : List Key). slice_get keys 0) (sym (c.as_slice.ensures.value ∙ c.questions_of-questions.ensures)) ∙ sym c.in-Some.ensures.value in
    c.take_from.ensures owner rest
    (subst (λ (b : Bool). IsPermutation (askers_of owner c.self.inside.filed.entries) (cond b (c.args.asker ∷ []) [] ++ rest)) (asks_by owner c.args.request.now c.in-Some.question.now first)
    (subst (λ (v : Filing Asker). IsPermutation (askers_of owner v.entries) (if_asks owner c.args.request.now c.args.asker ++ rest)) (sym c.self.view_is) h))
