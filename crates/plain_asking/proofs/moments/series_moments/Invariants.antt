use Rattle.std.proofs.Common.{◌≡◌, ◌++◌, drop}
use Rattle.mdns_history.specs.History.{has_mark}
use Rattle.mdns_history.specs.Asking.{is_series_asking}
use Rattle.plain_asking.proofs.Begins.{moments_in}
use Rattle.plain_asking.proofs.moments.series_moments.Given as goal

abbrev pub invariant-loop-entry : goal.invariant-loop-entry
invariant-loop-entry l = l.moments.items ++ moments_in (has_mark (is_series_asking l.question)) (drop l.entry-index l.entries) ≡ moments_in (has_mark (is_series_asking l.question)) l.entries
