use Rattle.std.proofs.Common.{◌≡◌, take}
use Rattle.sd_sessions.specs.Settling.{gifts_of}
use Rattle.sd_sessions.proofs.change.gifts.Given as goal

abbrev pub invariant-loop-change : goal.invariant-loop-change
invariant-loop-change l = l.gifts ≡ gifts_of (take l.change-index l.changes)
