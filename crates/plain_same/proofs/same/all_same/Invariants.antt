use Rattle.std.proofs.Common.{◌≡◌, length, take}
use Rattle.plain_same.proofs.same.all_same.Given as goal

abbrev pub invariant-loop-i : goal.invariant-loop-i
invariant-loop-i g l = record { as_long : length l.left ≡ length l.right; alike : take l.i l.left ≡ take l.i l.right }
