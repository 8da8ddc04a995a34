use Rattle.std.proofs.Common.{◌∙◌, refl}
use Rattle.std.proofs.lemmas.List.{take_rest}
use Rattle.txt_record.proofs.Places.{txt_data-put, txt_data-put_last}
use Rattle.txt_record.proofs.txt.Txt.around.Goals as goal

pub returns-in-Some-clause-bytes : goal.returns-in-Some-clause-bytes
returns-in-Some-clause-bytes c = λ entry.
    txt_data-put _ _ _ _ c.in-Some.ensures.place entry ∙ rw (take_rest, c.as_slice-bytes.ensures.bytes) refl

pub returns-in-None-clause-bytes : goal.returns-in-None-clause-bytes
returns-in-None-clause-bytes c = λ entry. rw c.as_slice-bytes.ensures.bytes (txt_data-put_last _ _ c.in-None.ensures.place entry)
