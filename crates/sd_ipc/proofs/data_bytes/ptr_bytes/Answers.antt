use Rattle.sd_ipc.proofs.Chains.{first}
use Rattle.sd_ipc.proofs.DataAgain.{ptr_data}
use Rattle.sd_ipc.proofs.data_bytes.ptr_bytes.Goals as goal

pub returns : goal.returns
returns c = ptr_data _ _ (first _ _ _ c.new-out.ensures.items c.in_ok-put_name.ensures.bytes) c.in_ok-put_name.ensures.again
