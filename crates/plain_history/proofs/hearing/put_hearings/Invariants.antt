use Rattle.std.proofs.Common.{◌≡◌, ◌++◌, map, reverse, vec_len}
use Rattle.mdns_history.specs.Hearings.{hearing_of}
use Rattle.plain_history.proofs.hearing.put_hearings.Given as goal

abbrev pub invariant-loop-rr : goal.invariant-loop-rr
invariant-loop-rr l = l.found.items ++ reverse (map (hearing_of l.entry) l.records.items) ≡ l.initial.found.items ++ reverse (map (hearing_of l.entry) l.initial.records.items)

abbrev pub decreases-loop-rr : goal.decreases-loop-rr
decreases-loop-rr l = vec_len l.records
