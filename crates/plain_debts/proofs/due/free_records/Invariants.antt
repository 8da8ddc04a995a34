use Rattle.std.proofs.Common.{◌≡◌}
use Rattle.std.specs.Prelude.{filter}
use Rattle.mdns_history.specs.Multicasts.{may_go}
use Rattle.plain_debts.proofs.due.free_records.Given as goal

abbrev pub invariant-loop-rr : goal.invariant-loop-rr
invariant-loop-rr l = l.free.items ≡ filter (may_go l.history l.moment l.due) l.yielded
