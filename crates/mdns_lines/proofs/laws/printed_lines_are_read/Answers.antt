use Rattle.mdns_lines.proofs.LinesBack.{lines_back, lines_printed}
use Rattle.mdns_lines.proofs.OnlyLines.{only_printable}
use Rattle.mdns_lines.proofs.laws.printed_lines_are_read.Goals as goal

pub returns-clause-back : goal.returns-clause-back
returns-clause-back c = lines_back

pub returns-clause-printed : goal.returns-clause-printed
returns-clause-printed c = lines_printed

pub returns-clause-printable : goal.returns-clause-printable
returns-clause-printable c = only_printable
