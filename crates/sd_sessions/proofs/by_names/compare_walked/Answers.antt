use Rattle.std.proofs.Common.{◌≡◌, ◌∙◌, [], List, Some, cond, ap, sym}
use Rattle.dns_record.specs.declared.record.Key.{Key}
use Rattle.dns_record.specs.declared.record.Rr.{Rr}
use Rattle.mdns_history.specs.declared.operation.Operation.{Operation}
use Rattle.mdns_history.specs.Answers.{answers_over}
use Rattle.mdns_history.specs.Questions.{keys_of}
use Rattle.sd_operations.specs.Codes.{is_running}
use Rattle.sd_sessions.specs.Walked.{walk_for}
use Rattle.sd_sessions.proofs.WalkAnswers.{same-apart, has-found, had-found}
use Rattle.sd_sessions.proofs.by_names.compare_walked.Goals as goal

pub returns-in_ok-has-in-Some-clause-value : goal.returns-in_ok-has-in-Some-clause-value
returns-in_ok-has-in-Some-clause-value c = λ earlier later seen.
    let o : Operation = c.args.operation.now in
    let asked : c.as_slice-questions.result.now ≡ keys_of o.request = c.as_slice-questions.ensures.value ∙ c.questions_of-questions.ensures in
    let found : walk_for (keys_of o.request) c.args.around.now.walks.now ≡ Some c.in-Some.walk.now = ap (λ (keys : List Key). walk_for keys c.args.around.now.walks.now) (sym asked) ∙ sym c.in-Some.ensures in (
      c.in_ok-had-in-Some.ensures.value
          ∙ ap (λ (rrs : List Rr). cond (is_running o.op c.args.before.now) (answers_over o.request rrs) []) c.earlier_of.ensures
          ∙ had-found earlier later c.args.around.now c.args.before.now o seen c.requires.other c.in-Some.walk.now found,
      c.in_ok-has-in-Some.ensures.value ∙ ap (answers_over o.request) c.later_of.ensures
          ∙ has-found earlier later c.args.around.now c.args.before.now o seen c.requires.other c.in-Some.walk.now found,
    )

pub returns-in-None-clause-value : goal.returns-in-None-clause-value
returns-in-None-clause-value c = λ earlier later seen.
    let asked : c.as_slice-questions.result.now ≡ keys_of c.args.operation.now.request = c.as_slice-questions.ensures.value ∙ c.questions_of-questions.ensures in
    same-apart earlier later c.args.around.now c.args.before.now c.args.operation.now seen c.requires.other
    (ap (λ (keys : List Key). walk_for keys c.args.around.now.walks.now) (sym asked) ∙ sym c.in-None.ensures)
