use Rattle.std.proofs.Common.{◌∙◌, ◌+◌, Bool, List, Some, cond, drop, ap, sym, eq-eqb}
use Rattle.std.specs.List.{find}
use Rattle.sd_sessions.specs.declared.session.SessionState.{SessionState}
use Rattle.sd_sessions.specs.Codes.{has_number}
use Rattle.sd_sessions.specs.Kept.{session_of, sessions_of}
use Rattle.sd_sessions.proofs.Nexts.{drop-next}
use Rattle.sd_sessions.proofs.session.find.Goals as goal

pub returns-then-session-number : goal.returns-then-session-number
returns-then-session-number c =
    sym (
    c.loop-session.invariant
    ∙ ap (λ (states : List SessionState). find (has_number c.args.number) (sessions_of states)) (drop-next c.args.sessions.now c.loop-session.session-index c.session-item.result c.loop-session-test.true c.session-item.is)
    ∙ ap (λ (b : Bool). cond b (Some (session_of c.session-item.result)) (find (has_number c.args.number) (sessions_of (drop (c.loop-session.session-index + 1) c.args.sessions.now))))
    (eq-eqb c.session-item.result.number c.args.number c.if-session-number.true))
