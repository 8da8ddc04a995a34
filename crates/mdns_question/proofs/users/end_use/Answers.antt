use Rattle.std.proofs.Common.{◌<◌, ◌≤◌, subst}
use Rattle.mdns_question.specs.declared.tracked.Tracked.{Tracked}
use Rattle.mdns_question.proofs.Arranged.{arranged_less, without_several, without_last, arranged_ended, ended}
use Rattle.mdns_question.proofs.users.end_use.Goals as goal

pub returns-then-index-gt1-clause-items : goal.returns-then-index-gt1-clause-items
returns-then-index-gt1-clause-items c = λ question at.
    without_several c.args.questions.now.items c.args.deadlines.now.moments c.requires.arranged c.args.place c.requires.place c.use_less.new.questions.items
    question c.index.result.now (subst (λ (x : Tracked). 1 < x.users) c.index.ensures c.if-index-gt1.true) c.use_less.ensures.items at

pub returns-then-index-gt1-clause-arranged : goal.returns-then-index-gt1-clause-arranged
returns-then-index-gt1-clause-arranged c = λ question at.
    arranged_less c.args.questions.now.items c.args.deadlines.now.moments c.requires.arranged c.args.place c.requires.place c.use_less.new.questions.items
    c.index.result.now (subst (λ (x : Tracked). 1 < x.users) c.index.ensures c.if-index-gt1.true) c.use_less.ensures.items

pub returns-else-index-gt1-clause-items : goal.returns-else-index-gt1-clause-items
returns-else-index-gt1-clause-items c = λ question at.
    without_last c.args.questions.now.items c.args.deadlines.now.moments c.requires.arranged c.args.place c.requires.place c.remove.new.self.items
    question c.index.result.now (subst (λ (x : Tracked). x.users ≤ 1) c.index.ensures c.if-index-gt1.false) c.remove.ensures.items at

pub returns-else-index-gt1-clause-arranged : goal.returns-else-index-gt1-clause-arranged
returns-else-index-gt1-clause-arranged c = λ question at.
    ended c.remove.ensures.items c.remove-else-index-gt1.ensures.moments (arranged_ended c.args.questions.now.items c.args.deadlines.now.moments c.requires.arranged question c.args.place at)
