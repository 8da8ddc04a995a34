use Rattle.std.proofs.Common.{arith}
use Rattle.sd_ipc.proofs.FramesAgain.{item_written, item_size}
use Rattle.sd_ipc.proofs.writing.write_item.Goals as goal

pub returns-clause-again : goal.returns-clause-again
returns-clause-again c = item_written _ _ _ _ _ _ (omega arith) c.item_kind.ensures c.item_op.ensures c.as_slice.ensures.value c.in_ok-body.ensures c.framed.ensures

pub returns-clause-size : goal.returns-clause-size
returns-clause-size c = item_size _ _ _ _ _ _ c.as_slice.ensures.value c.in_ok-body.ensures c.framed.ensures
