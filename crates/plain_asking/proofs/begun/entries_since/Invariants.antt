use Rattle.std.proofs.Common.{◌≡◌, ◌++◌, take, drop}
use Rattle.mdns_history.specs.Questions.{begins_asking}
use Rattle.plain_asking.specs.Begun.{entries_since}
use Rattle.plain_asking.proofs.begun.entries_since.Given as goal

abbrev pub invariant-loop-place : goal.invariant-loop-place
invariant-loop-place l = take l.place l.history ++ entries_since (begins_asking l.question) (drop l.place l.history) ≡ entries_since (begins_asking l.question) l.history
