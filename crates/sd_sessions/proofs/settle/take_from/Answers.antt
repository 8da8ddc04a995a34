use Rattle.std.proofs.Common.{◌∙◌, ap, sym}
use Rattle.sd_sessions.specs.Settling.{handed_to}
use Rattle.sd_sessions.proofs.Found.{found-at, missed-at}
use Rattle.sd_sessions.proofs.settle.take_from.Goals as goal

pub returns-in-Some-clause-outcome : goal.returns-in-Some-clause-outcome
returns-in-Some-clause-outcome c =
    c.take_outcome.ensures.outcome
    ∙ ap (handed_to c.args.max) (sym (found-at c.args.number c.args.max c.args.sessions.now c.in-Some.place c.take_outcome.new.session c.index-sessions-place.result c.in-Some.ensures c.take_outcome.ensures.session).0)

pub returns-in-Some-clause-sessions : goal.returns-in-Some-clause-sessions
returns-in-Some-clause-sessions c =
    (found-at c.args.number c.args.max c.args.sessions.now c.in-Some.place c.take_outcome.new.session c.index-sessions-place.result c.in-Some.ensures c.take_outcome.ensures.session).1

pub returns-in-None-clause-outcome : goal.returns-in-None-clause-outcome
returns-in-None-clause-outcome c = ap (handed_to c.args.max) (sym (missed-at c.args.number c.args.max c.args.sessions.now c.in-None.ensures).0)

pub returns-in-None-clause-sessions : goal.returns-in-None-clause-sessions
returns-in-None-clause-sessions c = (missed-at c.args.number c.args.max c.args.sessions.now c.in-None.ensures).1
