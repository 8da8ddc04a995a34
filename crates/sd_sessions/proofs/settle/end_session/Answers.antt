use Rattle.std.proofs.Common.{◌∙◌, Bool, not, ap, sym, rules}
use Rattle.std.proofs.lemmas.Fn.{filter_same}
use Rattle.mdns_history.specs.Sessions.{is_number}
use Rattle.mdns_happened.specs.Told.{told_by}
use Rattle.sd_sessions.specs.declared.session.SessionState.{SessionState}
use Rattle.sd_sessions.specs.Sessions.{Session}
use Rattle.sd_sessions.specs.Kept.{session_of, sessions_of}
use Rattle.sd_sessions.proofs.Nexts.{filter_map_swap}
use Rattle.sd_sessions.proofs.settle.end_session.Goals as goal

pub returns-clause-sessions : goal.returns-clause-sessions
returns-clause-sessions c =
    let stays : Session → Bool = λ session. not (is_number session.number (told_by c.args.happened.now).detached) in
    ap sessions_of (filter_same _ (λ (state : SessionState). stays (session_of state)) _ (λ x b f k. search rules) _ _ c.retain.ensures.filtered)
    ∙ sym (filter_map_swap stays session_of c.args.sessions.now.items)
