use Rattle.std.proofs.Common.{refl}
use Rattle.mdns_question.proofs.Arranged.{retimed}
use Rattle.mdns_question.proofs.changes.put_refresh_at.Goals as goal

pub returns-clause-arranged : goal.returns-clause-arranged
returns-clause-arranged c =
    retimed c.args.questions.now c.args.deadlines.now.moments c.requires.arranged c.args.place c.requires.place c.put_point.new.questions (λ one. record one { refresh = c.args.point })
    (λ one. refl) (λ one. refl) c.put_point.ensures c.set.new.self.moments c.moment_of.result c.index-questions-place.result c.moment_of.ensures c.set.ensures.moments
