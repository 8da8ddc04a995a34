use Rattle.std.proofs.Common.{◌≡◌, ◌+◌, ◌-◌, ◌++◌}
use Rattle.std.specs.Prelude.{filter}
use Rattle.lists.specs.Lists.{count_up}
use Rattle.mdns_history.specs.Sessions.{is_attached, opened_count, attached_sessions}
use Rattle.plain_history.proofs.sessions.attached_sessions.Given as goal

abbrev pub invariant-loop-place : goal.invariant-loop-place
invariant-loop-place l =
    l.sessions.items ++ filter (λ session. is_attached session l.history) (count_up (l.place + 1) (opened_count l.history - l.place)) ≡ attached_sessions l.history
