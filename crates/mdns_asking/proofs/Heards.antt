-- The questions that a message asks.
use Rattle.std.proofs.Common.{Bool, List, map, filter}
use Rattle.dns_record.specs.declared.record.Key.{Key}
use Rattle.mdns_history.specs.declared.mark.Cause.{Cause}
use Rattle.mdns_history.specs.declared.mark.Cause.TheVariants as cause
use Rattle.mdns_question.specs.declared.tracked.Tracked.{Tracked}

-- a question that a message asks
abbrev pub heard_one : Tracked → Key × Cause
heard_one one = (one.key, cause.Heard)

-- the questions that a test passes, as a message asks them
abbrev pub marked : (Tracked → Bool) → List Tracked → List (Key × Cause)
marked test questions = map heard_one (filter test questions)
