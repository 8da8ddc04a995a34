use Rattle.txt_record.proofs.Runs.{bytes_are}
use Rattle.txt_record.proofs.txt.Txt.into_vec.Goals as goal

pub returns : goal.returns
returns c = bytes_are c.self.inside.bytes.items _ c.self.invariant c.self.view_is
