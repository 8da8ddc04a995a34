use Rattle.std.proofs.Common.{◌≡◌, ◌==◌, ℕ, take}
use Rattle.lists.specs.Lists.{each_once}
use Rattle.plain_sending.proofs.replies.once.Given as goal

abbrev pub invariant-loop-index : goal.invariant-loop-index
invariant-loop-index l = l.kept.items ≡ each_once (λ (a b : ℕ). a == b) (take l.index l.places)
