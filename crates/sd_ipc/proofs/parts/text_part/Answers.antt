use Rattle.std.proofs.Common.{◌∙◌, inr}
use Rattle.sd_ipc.proofs.PartsAgain.{text_is, text_bad, text_found, counted_short}
use Rattle.sd_ipc.proofs.parts.text_part.Goals as goal

pub returns-in_default : goal.returns-in_default
returns-in_default c = inr (text_bad _ _ _ c.in_ok-text.ensures c.in_default.ensures.cases.0)

pub returns-in-Some : goal.returns-in-Some
returns-in-Some c =
    let found = rw c.in-Some.is at c.in_ok-text-2.ensures.value in
    text_is _ _ _ _ c.in_ok-text.ensures c.in-Ok.ensures.cases.1 (found ∙ c.in-Ok.ensures.cases.0)

pub returns-in-None : goal.returns-in-None
returns-in-None c = absurd (text_found _ _ c.in-None.is c.in_ok-text-2.ensures.found (rw c.in-Ok.ensures.cases.0 (counted_short _ _ _ _ c.in_ok-text.ensures)))
