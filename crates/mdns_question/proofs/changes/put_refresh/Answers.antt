use Rattle.mdns_question.proofs.Arranged.{changed_is, only_none}
use Rattle.mdns_question.proofs.changes.put_refresh.Goals as goal

pub returns-in-Ok-clause-questions : goal.returns-in-Ok-clause-questions
returns-in-Ok-clause-questions c =
    changed_is c.args.questions.now c.args.question.now c.in-Ok.place c.requires.order c.in-Ok.ensures.found (λ one. record one { refresh = c.args.point }) c.put_refresh_at.new.questions c.put_refresh_at.ensures.questions

pub returns-in-Err-clause-questions : goal.returns-in-Err-clause-questions
returns-in-Err-clause-questions c = only_none c.args.questions.now c.args.question.now c.in-Err.field-0 c.in-Err.ensures.apart (λ one. record one { refresh = c.args.point })
