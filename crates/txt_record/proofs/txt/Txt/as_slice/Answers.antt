use Rattle.std.proofs.Common.{◌∙◌}
use Rattle.txt_record.proofs.Runs.{bytes_are}
use Rattle.txt_record.proofs.txt.Txt.as_slice.Goals as goal

pub returns-clause-bytes : goal.returns-clause-bytes
returns-clause-bytes c = c.as_slice.ensures.value ∙ bytes_are _ _ c.self.invariant c.self.view_is
