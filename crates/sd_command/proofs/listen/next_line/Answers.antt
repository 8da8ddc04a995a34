use Rattle.sd_command.proofs.Listening.{prints_item}
use Rattle.sd_command.proofs.listen.next_line.Goals as goal

pub returns-clause-step : goal.returns-clause-step
returns-clause-step g c = prints_item c.print.result _ _ _ _ _ _ _ c.in_ok-item.ensures c.print.ensures.printed
