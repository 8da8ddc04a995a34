use Rattle.std.proofs.Common.{List, subst}
use Rattle.mdns_question.specs.declared.tracked.Tracked.{Tracked}
use Rattle.mdns_question.specs.Arranged.{IsAt, IsBetween}
use Rattle.mdns_question.proofs.Arranged.{more_user, arranged_more, begun_ok, arranged_either}
use Rattle.mdns_question.proofs.users.add_user.Goals as goal

at : (c : goal.After-use_more) → IsAt c.args.questions.now.items c.args.question.now c.in-Ok.place
at c = subst (λ (qs : List Tracked). IsAt qs c.args.question.now c.in-Ok.place) c.deref.ensures.value c.in-Ok.ensures.found

between : (c : goal.After-begin) → IsBetween c.args.questions.now.items c.args.question.now c.in-Err.place
between c = subst (λ (qs : List Tracked). IsBetween qs c.args.question.now c.in-Err.place) c.deref.ensures.value c.in-Err.ensures.apart

pub returns-in-Ok-clause-ok : goal.returns-in-Ok-clause-ok
returns-in-Ok-clause-ok c =
    more_user c.args.questions.now.items c.args.question.now c.in-Ok.place c.requires.arranged.order (at c) c.args.now c.args.word c.use_more.new.questions.items c.use_more.ensures.items

pub returns-in-Ok-clause-arranged : goal.returns-in-Ok-clause-arranged
returns-in-Ok-clause-arranged c =
    let place = at c in
    arranged_more c.args.questions.now.items c.args.deadlines.now.moments c.requires.arranged c.in-Ok.place place.within c.use_more.new.questions.items c.use_more.ensures.items

pub returns-in-Err-clause-ok : goal.returns-in-Err-clause-ok
returns-in-Err-clause-ok c =
    begun_ok c.args.questions.now.items c.args.deadlines.now.moments c.requires.arranged c.args.question.now c.in-Err.place (between c) c.begun.result c.args.now c.args.word c.begun.ensures
    c.begin.result c.begin.new.questions.items c.begin.ensures.items

pub returns-in-Err-clause-arranged : goal.returns-in-Err-clause-arranged
returns-in-Err-clause-arranged c =
    arranged_either c.args.questions.now.items c.args.deadlines.now.moments c.requires.arranged c.args.question.now c.in-Err.place (between c) c.begun.result c.args.now c.args.word c.begun.ensures
    c.begin.result c.begin.new.questions.items c.begin.new.deadlines.moments c.begin.ensures.items c.begin.ensures.moments c.begin.ensures.items_err c.begin.ensures.moments_err
