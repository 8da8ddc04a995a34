use Rattle.std.proofs.Common.{◌≡◌, map, take}
use Rattle.sd_answer.specs.Known.{bare}
use Rattle.sd_answer.proofs.agree.own_agree.Given as goal

abbrev pub invariant-loop-place : goal.invariant-loop-place
invariant-loop-place l = map bare (take l.place l.left) ≡ map bare (take l.place l.right)
