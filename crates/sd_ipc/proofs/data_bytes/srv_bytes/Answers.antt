use Rattle.sd_ipc.proofs.Chains.{first, next}
use Rattle.sd_ipc.proofs.DataAgain.{srv_data}
use Rattle.sd_ipc.proofs.data_bytes.srv_bytes.Goals as goal

pub returns : goal.returns
returns c = srv_data _ _ _ _ _ (next _ _ _ _ (next _ _ _ _ (next _ _ _ _ (first _ _ _ c.new-out.ensures.items c.in_ok-put_u16.ensures.bytes) c.in_ok-put_u16-2.ensures.bytes) c.in_ok-put_u16-3.ensures.bytes) c.in_ok-put_name.ensures.bytes) c.in_ok-put_u16.ensures.again c.in_ok-put_u16-2.ensures.again c.in_ok-put_u16-3.ensures.again c.in_ok-put_name.ensures.again
