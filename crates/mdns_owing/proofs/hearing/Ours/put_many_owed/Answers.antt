use Rattle.std.proofs.Common.{◌≡◌, ◌∙◌, ap, List, length, Option, ℕ, arith, ◌≤◌}
use Rattle.std.specs.List.{flat_map}
use Rattle.std.proofs.lemmas.List.{take_all}
use Rattle.dns_record.specs.declared.record.Question.{Question}
use Rattle.dns_record.specs.declared.record.Rr.{Rr}
use Rattle.indexmap.specs.IndexSet.{insert_all}
use Rattle.mdns_claims.specs.Owned.{own_in, nsecs_in}
use Rattle.mdns_history.specs.Debts.{Owed, owed_eq}
use Rattle.mdns_history.specs.Hearings.{Heard}
use Rattle.mdns_debts.specs.Following.{Ours}
use Rattle.mdns_owing.specs.Owing.{heard_in, last_in, ours_in, owed_for}
use Rattle.mdns_owing.proofs.Asked.{one_more, again, answered}
use Rattle.mdns_owing.proofs.Collecting.{found_at, named_at}
use Rattle.mdns_owing.proofs.hearing.Ours.put_many_owed.Goals as goal
use Rattle.mdns_owing.proofs.hearing.Ours.put_many_owed.Goals.{then-branch+in_ok-put_found, else-branch}

pub put_found-requires-clause-own : goal.put_found-requires-clause-own
put_found-requires-clause-own c =
    found_at c.args.questions.now (own_in c.args.self.now.claims.now.contents.kept) c.in_ok-found.found.own c.loop-question.question-index c.question-item.result c.in_ok-found.ensures.own c.loop-question-test.true c.question-item.is

pub put_found-requires-clause-nsecs : goal.put_found-requires-clause-nsecs
put_found-requires-clause-nsecs c =
    named_at c.args.questions.now (nsecs_in c.args.self.now.claims.now.contents.kept) c.in_ok-found.found.nsecs c.loop-question.question-index c.question-item.result c.in_ok-found.ensures.nsecs c.loop-question-test.true c.question-item.is

pub returns : goal.returns
returns c =
    let of : Question → List Owed = owed_for (ours_in c.args.self.now.claims.now.contents.kept) (last_in c.args.self.now.lasts.now.lasts) (heard_in c.args.hearing.now.heard.now) c.args.hearing.now.moment in
    let long : length c.args.questions.now ≤ c.loop-question.question-index = omega arith in
    c.loop-question.invariant.put ∙ ap (λ (qs : List Question). insert_all owed_eq c.args.owed.now.keys (flat_map of qs)) (take_all c.loop-question.question-index c.args.questions.now long)

pub loop-question-preserved : goal.loop-question-preserved
loop-question-preserved c =
    let own : Ours = ours_in c.args.self.now.claims.now.contents.kept in
    let lasts : Rr → Option ℕ = last_in c.args.self.now.lasts.now.lasts in
    let heard : Heard = heard_in c.args.hearing.now.heard.now in
    let moment : ℕ = c.args.hearing.now.moment in
    let before = c.loop-question in
    let question = c.question-item.result in
    let more = one_more (owed_for own lasts heard moment) c.args.owed.now.keys c.args.questions.now before.question-index question before.owed.keys c.loop-question-test.true c.question-item.is before.invariant.put in
    let put : c.if-branch.owed.keys ≡ insert_all owed_eq before.owed.keys (owed_for own lasts heard moment question) = elim c.if-branch.branch [
      | then-branch+in_ok-put_found w ↦ ap (λ s. s.keys) w.owed-is ∙ w.in_ok-put_found.ensures
      | else-branch w ↦ ap (λ s. s.keys) w.owed-is ∙ again own lasts heard moment before.asked.keys before.owed.keys question c.asked_as.result before.invariant.answered c.asked_as.ensures _ c.in_ok-insert.ensures.added w.if-branch.false
    ] in
    record {
      put = put ∙ more;
      answered = answered own lasts heard moment before.asked.keys before.owed.keys question c.asked_as.result before.invariant.answered c.asked_as.ensures _ _ c.in_ok-insert.ensures.keys put;
    }
