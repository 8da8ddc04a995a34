use Rattle.mdns_question.specs.Tracking.{asked_at}
use Rattle.mdns_question.proofs.Arranged.{changed_is, only_none, retimed, asked_key, asked_users}
use Rattle.mdns_question.proofs.changes.note.Goals as goal

pub returns-in-Ok-clause-questions : goal.returns-in-Ok-clause-questions
returns-in-Ok-clause-questions c =
    changed_is c.args.questions.now c.args.question.now c.in-Ok.place c.requires.arranged.order c.in-Ok.ensures.found (asked_at c.args.now c.args.cause) c.note_at.new.questions c.note_at.ensures

pub returns-in-Ok-clause-arranged : goal.returns-in-Ok-clause-arranged
returns-in-Ok-clause-arranged c =
    let at = c.in-Ok.ensures.found in
    retimed c.args.questions.now c.args.deadlines.now.moments c.requires.arranged c.in-Ok.place at.within c.note_at.new.questions (asked_at c.args.now c.args.cause)
    (asked_key c.args.now c.args.cause) (asked_users c.args.now c.args.cause) c.note_at.ensures c.set.new.self.moments c.moment_of.result c.index-questions-place.result c.moment_of.ensures c.set.ensures.moments

pub returns-in-Err-clause-questions : goal.returns-in-Err-clause-questions
returns-in-Err-clause-questions c = only_none c.args.questions.now c.args.question.now c.in-Err.field-0 c.in-Err.ensures.apart (asked_at c.args.now c.args.cause)
