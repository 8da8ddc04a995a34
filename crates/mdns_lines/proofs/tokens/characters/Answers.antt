use Rattle.std.proofs.Common.{◌∙◌, Some, ap, sym}
use Rattle.mdns_script.proofs.Texts.{no_text, some_text}
use Rattle.mdns_lines.proofs.tokens.characters.Goals as goal

pub returns-in-Ok : goal.returns-in-Ok
returns-in-Ok c = ap Some c.in-Ok.ensures.cases.0 ∙ sym (some_text _ c.in-Ok.ensures.cases.1)

pub returns-in-Err : goal.returns-in-Err
returns-in-Err c = sym (no_text _ c.in-Err.ensures.cases.0)
