use Rattle.std.proofs.Common.{◌∙◌, ◌++◌, List, ap}
use Rattle.mdns_history.specs.declared.entry.Sent.{Sent}
use Rattle.dns_record.specs.declared.record.Key.{Key}
use Rattle.mdns_history.specs.declared.mark.Cause.{Cause}
use Rattle.mdns_happened.specs.Told.{Told, told_by}
use Rattle.mdns_question.specs.declared.tracked.Tracked.{Tracked}
use Rattle.mdns_asking.specs.State.{State}
use Rattle.mdns_asking.specs.ByWalks.{asked_by, sent_by}
use Rattle.mdns_asking.proofs.WalksTell.{is_plan}
use Rattle.mdns_asking.proofs.asking.Asking.plan.Goals as goal

pub returns-clause-plan : goal.returns-clause-plan
returns-clause-plan c = λ held later timed are live enough.
    let told : Told = told_by c.args.happened.now in
    is_plan told c.args.when.moment c.args.sessions.now.sessions c.args.self.now.questions held later c.args.walks.now c.args.sent.now c.send_to_all.new.sent _
    (c.in_ok-asked.ensures ∙ ap (λ (questions : List Tracked). asked_by told.ticks told.heard questions c.args.walks.now c.args.when.moment) (ap (λ (s : State). s.questions) c.self.view_is))
    (c.in_ok-send_to_all.ensures ∙ ap (λ (queries : List Sent). c.args.sent.now ++ queries) (c.in_ok-queries.ensures ∙ ap (λ (asked : List (Key × Cause)). sent_by told.ticks c.args.walks.now c.args.when.moment asked) c.deref.ensures.value))
    c.in_ok-begun.ensures c.in_ok-ended.ensures timed are live enough
