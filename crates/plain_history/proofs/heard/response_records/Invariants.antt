use Rattle.std.proofs.Common.{◌≡◌, ◌++◌}
use Rattle.plain_history.proofs.heard.response_records.Given as goal

abbrev pub invariant-loop-rr : goal.invariant-loop-rr
invariant-loop-rr l = l.records ≡ l.initial.records ++ l.yielded
