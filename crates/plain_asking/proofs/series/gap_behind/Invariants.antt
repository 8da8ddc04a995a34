use Rattle.std.proofs.Common.{◌≡◌, suc}
use Rattle.mdns_history.specs.Asking.{series_gap}
use Rattle.plain_asking.proofs.series.gap_behind.Given as goal

abbrev pub invariant-loop-asking : goal.invariant-loop-asking
invariant-loop-asking l = l.gap ≡ series_gap (suc l._asking)
