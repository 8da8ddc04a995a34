use Rattle.std.proofs.Common.{ℕ, List, Option, IsPermutation, subst, sym}
use Rattle.sd_index.specs.Asked.{askers_of}
use Rattle.sd_sessions.specs.Sessions.{Session}
use Rattle.sd_sessions.specs.Settling.{remaining_but}
use Rattle.sd_sessions.specs.Kept.{sessions_of}
use Rattle.sd_sessions.specs.Indexed.{askers_in}
use Rattle.sd_sessions.proofs.IndexLeft.{none-detached}
use Rattle.sd_sessions.proofs.index.take_ended.Goals as goal

pub returns-in-None : goal.returns-in-None
returns-in-None c = λ owner h.
    subst (λ (gone : Option ℕ). IsPermutation (askers_of owner c.args.askers.now.entries) (askers_in owner (remaining_but gone (sessions_of c.args.sessions.now)))) (sym c.in-None.is)
    (subst (λ (ss : List Session). IsPermutation (askers_of owner c.args.askers.now.entries) (askers_in owner ss)) (sym (none-detached (sessions_of c.args.sessions.now))) h)
