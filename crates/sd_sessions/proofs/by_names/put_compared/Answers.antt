use Rattle.std.proofs.Common.{◌≡◌, ◌∙◌, ◌++◌, List, Option, ap, map, subst, sym, append-nil}
use Rattle.sd_call.specs.declared.answer.Answer.{Answer}
use Rattle.sd_call.specs.declared.item.Item.TheVariants as item
use Rattle.sd_sessions.specs.declared.by_names.Compared.{Compared}
use Rattle.sd_sessions.specs.Walked.{IsCompared}
use Rattle.sd_sessions.proofs.WalkAnswers.{without-same}
use Rattle.sd_sessions.proofs.by_names.put_compared.Goals as goal

pub returns-in-None-clause-removes : goal.returns-in-None-clause-removes
returns-in-None-clause-removes c = λ had has found.
    let same : had ≡ has = subst (λ (f : Option Compared). IsCompared f had has) c.in-None.is found in
    sym (append-nil c.args.removes.now) ∙ ap (λ (l : List Answer). c.args.removes.now ++ map (λ answer. item.Remove c.args.op answer) l) (sym (without-same had has same))

pub returns-in-None-clause-adds : goal.returns-in-None-clause-adds
returns-in-None-clause-adds c = λ had has found.
    let same : had ≡ has = subst (λ (f : Option Compared). IsCompared f had has) c.in-None.is found in
    sym (append-nil c.args.adds.now) ∙ ap (λ (l : List Answer). c.args.adds.now ++ map (λ answer. item.Add c.args.op answer) l) (sym (without-same has had (sym same)))
