use Rattle.std.proofs.Common.{◌≡◌, drop}
use Rattle.std.specs.List.{find}
use Rattle.sd_sessions.specs.Codes.{has_number}
use Rattle.sd_sessions.specs.Kept.{sessions_of}
use Rattle.sd_sessions.proofs.session.find.Given as goal

abbrev pub invariant-loop-session : goal.invariant-loop-session
invariant-loop-session l = find (has_number l.number) (sessions_of l.sessions) ≡ find (has_number l.number) (sessions_of (drop l.session-index l.sessions))
