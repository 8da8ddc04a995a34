use Rattle.std.proofs.Common.{List, subst}
use Rattle.mdns_question.specs.declared.tracked.Tracked.{Tracked}
use Rattle.mdns_question.specs.Arranged.{IsAt, IsBetween}
use Rattle.mdns_question.proofs.Arranged.{there, not_there, no_user}
use Rattle.mdns_question.proofs.users.take_user.Goals as goal

at : (c : goal.After-end_use) → IsAt c.args.questions.now.items c.args.question.now c.in-Ok.place
at c = subst (λ (qs : List Tracked). IsAt qs c.args.question.now c.in-Ok.place) c.deref.ensures.value c.in-Ok.ensures.found

between : (c : goal.In-Err) → IsBetween c.args.questions.now.items c.args.question.now c.in-Err.field-0
between c = subst (λ (qs : List Tracked). IsBetween qs c.args.question.now c.in-Err.field-0) c.deref.ensures.value c.in-Err.ensures.apart

pub returns-in-Ok-clause-had : goal.returns-in-Ok-clause-had
returns-in-Ok-clause-had c = there c.args.questions.now.items c.args.question.now c.in-Ok.place c.requires.order (at c)

pub returns-in-Ok-clause-items : goal.returns-in-Ok-clause-items
returns-in-Ok-clause-items c = c.end_use.ensures.items c.args.question.now (at c)

pub returns-in-Ok-clause-arranged : goal.returns-in-Ok-clause-arranged
returns-in-Ok-clause-arranged c = c.end_use.ensures.arranged c.args.question.now (at c)

pub returns-in-Err-clause-had : goal.returns-in-Err-clause-had
returns-in-Err-clause-had c = not_there c.args.questions.now.items c.args.question.now c.in-Err.field-0 (between c)

pub returns-in-Err-clause-items : goal.returns-in-Err-clause-items
returns-in-Err-clause-items c = no_user c.args.questions.now.items c.args.question.now c.in-Err.field-0 (between c) c.requires.used
