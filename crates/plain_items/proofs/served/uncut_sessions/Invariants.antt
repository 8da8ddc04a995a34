use Rattle.std.proofs.Common.{◌≡◌, not}
use Rattle.std.specs.Prelude.{filter}
use Rattle.mdns_history.specs.Sessions.{is_cut}
use Rattle.plain_items.proofs.served.uncut_sessions.Given as goal

abbrev pub invariant-loop-session : goal.invariant-loop-session
invariant-loop-session l = l.uncut.items ≡ filter (λ session. not (is_cut session l.history)) l.yielded
