use Rattle.std.proofs.Common.{◌≡◌}
use Rattle.std.specs.Prelude.{filter}
use Rattle.mdns_history.specs.Debts.{is_ours}
use Rattle.plain_debts.proofs.standing.still_ours.Given as goal

abbrev pub invariant-loop-debt : goal.invariant-loop-debt
invariant-loop-debt l = l.ours.items ≡ filter (λ debt. is_ours debt.rr l.history) l.yielded
