use Rattle.std.proofs.Common.{arith}
use Rattle.sd_ipc.proofs.FramesAgain.{request_written, request_size}
use Rattle.sd_ipc.proofs.writing.write_request.Goals as goal

pub returns-clause-again : goal.returns-clause-again
returns-clause-again c = request_written _ _ _ _ _ _ (omega arith) c.request_kind.ensures c.as_slice.ensures.value c.in_ok-body.ensures c.framed.ensures

pub returns-clause-size : goal.returns-clause-size
returns-clause-size c = request_size _ _ c.args.request.now _ _ _ c.as_slice.ensures.value c.in_ok-body.ensures c.framed.ensures
