use Rattle.txt_record.proofs.Runs.{data_of_items}
use Rattle.txt_record.proofs.txt.Txt.from_bytes.Goals as goal

pub returns-clause-bytes : goal.returns-clause-bytes
returns-clause-bytes c = data_of_items _ _ (c.if-not-is_txt.ensures) c.in_ok-from_slice.ensures.items
