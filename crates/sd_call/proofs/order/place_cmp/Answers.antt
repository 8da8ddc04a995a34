use Rattle.std.proofs.Common.{arith}
use Rattle.sd_call.proofs.AnswerOrder.{places}
use Rattle.sd_call.proofs.order.place_cmp.Goals as goal

pub returns : goal.returns
returns c =
    places _ _ _ _ _ _ c.args.ours.target.now c.args.theirs.target.now c.args.ours.txt.now c.args.theirs.txt.now c.then-2.result
    (omega arith) (omega arith) (omega arith) (omega arith) (omega arith) (omega arith)
    (rw (← c.joined_cmp.ensures, ← c.cmp.ensures, ← c.cmp-2.ensures, ← c.cmp-3.ensures, ← c.then.ensures, ← c.then-numbers.ensures) c.then-2.ensures)
