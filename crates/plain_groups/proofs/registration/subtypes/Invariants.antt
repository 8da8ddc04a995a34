use Rattle.std.proofs.Common.{◌≡◌, take}
use Rattle.plain_groups.proofs.registration.subtypes.Given as goal

abbrev pub invariant-loop-place : goal.invariant-loop-place
invariant-loop-place l = l.subtypes.items ≡ take l.place l.regtype.subtypes
