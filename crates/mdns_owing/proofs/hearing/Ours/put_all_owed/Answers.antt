use Rattle.std.proofs.Common.{◌∙◌, ap, List, length, arith, ◌≤◌}
use Rattle.std.specs.List.{flat_map}
use Rattle.std.proofs.lemmas.List.{take_all}
use Rattle.dns_record.specs.declared.record.Question.{Question}
use Rattle.indexmap.specs.IndexSet.{insert_all}
use Rattle.mdns_history.specs.Debts.{Owed, owed_eq}
use Rattle.mdns_owing.specs.Owing.{heard_in, last_in, ours_in, owed_for}
use Rattle.mdns_owing.proofs.Asked.{one_more}
use Rattle.mdns_owing.proofs.hearing.Ours.put_all_owed.Goals as goal

pub loop-question-preserved : goal.loop-question-preserved
loop-question-preserved c =
    let of : Question → List Owed = owed_for (ours_in c.args.self.now.claims.now.contents.kept) (last_in c.args.self.now.lasts.now.lasts) (heard_in c.args.hearing.now.heard.now) c.args.hearing.now.moment in
    c.in_ok-put_owed.ensures
    ∙ one_more of c.args.owed.now.keys c.args.questions.now c.loop-question.question-index c.question-item.result c.loop-question.owed.keys c.loop-question-test.true c.question-item.is c.loop-question.invariant

pub returns : goal.returns
returns c =
    let of : Question → List Owed = owed_for (ours_in c.args.self.now.claims.now.contents.kept) (last_in c.args.self.now.lasts.now.lasts) (heard_in c.args.hearing.now.heard.now) c.args.hearing.now.moment in
    let long : length c.args.questions.now ≤ c.loop-question.question-index = omega arith in
    c.loop-question.invariant ∙ ap (λ (qs : List Question). insert_all owed_eq c.args.owed.now.keys (flat_map of qs)) (take_all c.loop-question.question-index c.args.questions.now long)
