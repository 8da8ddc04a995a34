use Rattle.std.proofs.Common.{◌≡◌, ◌∙◌, List, ap, subst, sym}
use Rattle.std.specs.List.{find}
use Rattle.sd_sessions.specs.declared.session.SessionState.{SessionState}
use Rattle.sd_sessions.specs.Codes.{has_number}
use Rattle.sd_sessions.specs.Kept.{operations_in, sessions_of, AreWellFormed}
use Rattle.sd_sessions.proofs.Formed.{formed-found}
use Rattle.sd_sessions.proofs.sessions.Sessions.operations.Goals as goal

pub returns-in-Some-clause-well_formed : goal.returns-in-Some-clause-well_formed
returns-in-Some-clause-well_formed c =
    let found : c.as_slice.result.now ≡ operations_in (find (has_number c.args.session) (sessions_of c.self.inside.attached.items)) =
    c.as_slice.ensures.value ∙ ap operations_in c.in-Some.ensures ∙ ap (λ (ss : List SessionState). operations_in (find (has_number c.args.session) (sessions_of ss))) c.deref.ensures.value in
    subst AreWellFormed (sym found) (formed-found (has_number c.args.session) (sessions_of c.self.inside.attached.items) c.self.invariant.0.formed)
