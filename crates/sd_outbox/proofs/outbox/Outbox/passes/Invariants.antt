use Rattle.std.proofs.Common.{◌≡◌, ◌+◌, ◌-◌, take}
use Rattle.sd_call.specs.Answers.{frames_len}
use Rattle.sd_outbox.specs.Queues.{bytes_of}
use Rattle.sd_outbox.proofs.outbox.Outbox.passes.Given as goal

abbrev pub invariant-loop-item : goal.invariant-loop-item
invariant-loop-item l = l.room + frames_len (take l.item-index l.items) ≡ 16777216 - bytes_of l.self.items
