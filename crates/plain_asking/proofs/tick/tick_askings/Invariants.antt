use Rattle.std.proofs.Common.{◌≡◌}
use Rattle.std.specs.List.{filter_map}
use Rattle.mdns_history.specs.Asking.{asked_mark, tick_cause}
use Rattle.plain_asking.proofs.tick.tick_askings.Given as goal

abbrev pub invariant-loop-active : goal.invariant-loop-active
invariant-loop-active l = l.marks.items ≡ filter_map (λ active. asked_mark active (tick_cause l.history l.moment active)) l.yielded
