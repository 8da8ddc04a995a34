use Rattle.std.proofs.Common.{◌∙◌, ap, ◌++◌, List, ℕ}
use Rattle.mdns_script.specs.CommandText.{command_text}
use Rattle.mdns_script.proofs.CommandsBack.{print_read}
use Rattle.mdns_script.proofs.OneLine.{print_in_line}
use Rattle.mdns_script.proofs.print.print_command.Goals as goal

pub returns-clause-read : goal.returns-clause-read
returns-clause-read c =
    print_read c.args.command.now c.in_ok-from_vec.field-0
    (c.in_ok-from_vec.ensures.ok ∙ c.in_ok-put_command.ensures ∙ ap (λ (l : List ℕ). l ++ command_text c.args.command.now) c.new-out.ensures.items)

pub returns-clause-line : goal.returns-clause-line
returns-clause-line c =
    print_in_line c.args.command.now c.in_ok-from_vec.field-0
    (c.in_ok-from_vec.ensures.ok ∙ c.in_ok-put_command.ensures ∙ ap (λ (l : List ℕ). l ++ command_text c.args.command.now) c.new-out.ensures.items)
