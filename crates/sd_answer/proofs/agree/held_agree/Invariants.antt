use Rattle.std.proofs.Common.{◌≡◌, map, take}
use Rattle.sd_answer.specs.Known.{bare, rrs_of}
use Rattle.sd_answer.proofs.agree.held_agree.Given as goal

abbrev pub invariant-loop-place : goal.invariant-loop-place
invariant-loop-place l = map bare (rrs_of (take l.place l.left)) ≡ map bare (rrs_of (take l.place l.right))
