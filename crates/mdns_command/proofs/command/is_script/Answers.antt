use Rattle.std.proofs.Common.{◌∙◌, sym}
use Rattle.mdns_words.specs.Options.{texts}
use Rattle.mdns_command.proofs.Commands.{script_named}
use Rattle.mdns_command.proofs.command.is_script.Goals as goal

pub returns : goal.returns
returns c = let named = script_named (texts c.args.words.now) in (λ yes. named.0 (sym c.names_script.ensures ∙ yes), λ same. c.names_script.ensures ∙ named.1 same)
