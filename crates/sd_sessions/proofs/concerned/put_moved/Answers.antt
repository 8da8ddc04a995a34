use Rattle.std.proofs.Common.{inr}
use Rattle.by_name.specs.At.{owner_of}
use Rattle.sd_index.specs.Asked.{askers_of}
use Rattle.sd_sessions.proofs.Covered.{stays-put, is-put}
use Rattle.sd_sessions.proofs.concerned.put_moved.Goals as goal

pub returns-clause-kept : goal.returns-clause-kept
returns-clause-kept c = λ one h.
    stays-put c.args.concerned.now.items c.put_askers.new.askers.items (askers_of (owner_of c.args.walk.now.name) c.args.askers.now.entries) c.in_ok-put_askers.ensures one h

pub returns-clause-put : goal.returns-clause-put
returns-clause-put c = inr (λ one h.
    is-put c.args.concerned.now.items c.put_askers.new.askers.items (askers_of (owner_of c.args.walk.now.name) c.args.askers.now.entries) c.in_ok-put_askers.ensures one h)
