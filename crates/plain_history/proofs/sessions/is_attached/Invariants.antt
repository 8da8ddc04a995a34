use Rattle.std.proofs.Common.{◌≡◌, drop}
use Rattle.mdns_history.specs.Sessions.{is_attached}
use Rattle.plain_history.proofs.sessions.is_attached.Given as goal

abbrev pub invariant-loop-entry : goal.invariant-loop-entry
invariant-loop-entry l = is_attached l.session (drop l.entry-index l.history) ≡ is_attached l.session l.history
