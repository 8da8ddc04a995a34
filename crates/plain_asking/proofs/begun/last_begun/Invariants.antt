use Rattle.std.proofs.Common.{◌≡◌, length}
use Rattle.mdns_history.specs.History.{last_at}
use Rattle.mdns_history.specs.Questions.{begun_with}
use Rattle.plain_asking.proofs.begun.last_begun.Given as goal

abbrev pub invariant-loop-past : goal.invariant-loop-past
invariant-loop-past l = last_at (begun_with l.question) l.rest ≡ last_at (begun_with l.question) l.history

abbrev pub decreases-loop-past : goal.decreases-loop-past
decreases-loop-past l = length l.rest
