use Rattle.std.proofs.Common.{◌∙◌, List, ℕ, sym, subst}
use Rattle.std.proofs.lemmas.Grind.{common_steps}
use Rattle.std.proofs.Common.{arith}
use Rattle.mdns_play.specs.Lines.{TakesLine}
use Rattle.mdns_play.proofs.Taking.{takes_line, takes_last}
use Rattle.mdns_play.proofs.lines.next_line.Goals as goal

pub returns-in-Some : goal.returns-in-Some
returns-in-Some c =
    subst (λ (line : List ℕ). TakesLine c.args.text.now line c.in-Some.after.now) (sym c.without_return.ensures)
    (takes_line c.args.text.now c.in-Some.line.now c.in-Some.after.now c.in-Some.ensures.split.0 c.in-Some.ensures.split.1)

pub returns-in-None-2 : goal.returns-in-None-2
returns-in-None-2 c = takes_last c.args.text.now _ c.in-None.ensures.split (sym c.is_empty.ensures ∙ c.if-is_empty.false) (grind (arith, common_steps))
