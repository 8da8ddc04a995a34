use Rattle.std.proofs.Common.{◌≡◌, ◌+◌, drop}
use Rattle.sd_call.specs.Answers.{frames_len, queue_limit}
use Rattle.plain_items.proofs.limit.pass_limit.Given as goal

abbrev pub invariant-loop-item : goal.invariant-loop-item
invariant-loop-item l = l.room + frames_len l.items ≡ queue_limit + frames_len (drop l.item-index l.items)
