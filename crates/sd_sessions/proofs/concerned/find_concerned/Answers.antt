use Rattle.sd_sessions.specs.Concerned.{AreMore}
use Rattle.sd_sessions.proofs.Covered.{walks-more, told-more}
use Rattle.sd_sessions.proofs.concerned.find_concerned.Goals as goal

pub returns-clause-walked : goal.returns-clause-walked
returns-clause-walked c =
    let more : AreMore c.put_walked.new.concerned.items c.put_called.new.concerned.items =
    λ one h. c.in_ok-put_called.ensures.kept one (c.in_ok-put_told.ensures.kept one h) in
    walks-more c.args.askers.now.entries c.put_walked.new.concerned.items c.put_called.new.concerned.items more c.args.around.now.walks.now c.in_ok-put_walked.ensures.put

pub returns-clause-told : goal.returns-clause-told
returns-clause-told c =
    told-more c.put_told.new.concerned.items c.put_called.new.concerned.items c.in_ok-put_called.ensures.kept c.args.around.now.registered.now c.in_ok-put_told.ensures.put
