use Rattle.sd_ipc.proofs.Chains.{first, next}
use Rattle.sd_ipc.proofs.DataAgain.{nsec_data}
use Rattle.sd_ipc.proofs.data_bytes.nsec_bytes.Goals as goal

pub returns : goal.returns
returns c = rw (← c.as_slice.ensures) (nsec_data _ _ _ (next _ _ _ _ (first _ _ _ c.new-out.ensures.items c.in_ok-put_name.ensures.bytes) c.in_ok-extend_from_slice.ensures.items) c.in_ok-put_name.ensures.again)
