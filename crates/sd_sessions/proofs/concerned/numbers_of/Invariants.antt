use Rattle.std.proofs.Common.{◌≡◌, ℕ, take}
use Rattle.sd_sessions.specs.Concerned.{asker_at, is_one_of}
use Rattle.sd_operations.specs.Operations.{has_one}
use Rattle.sd_sessions.proofs.concerned.numbers_of.Given as goal

abbrev pub invariant-loop-asker : goal.invariant-loop-asker
invariant-loop-asker l = (op : ℕ) → has_one l.numbers.items op ≡ is_one_of (take l.asker-index l.concerned) (asker_at l.session op)
