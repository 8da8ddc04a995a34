use Rattle.mdns_script.proofs.CommandsBack.{command_read}
use Rattle.mdns_script.proofs.OnlyWritable.{only_writable}
use Rattle.mdns_script.proofs.laws.printed_commands_are_read.Goals as goal

pub returns-clause-back : goal.returns-clause-back
returns-clause-back c = command_read

pub returns-clause-only : goal.returns-clause-only
returns-clause-only c = only_writable
