use Rattle.std.proofs.Common.{◌∙◌, ap, sym}
use Rattle.dns_message.specs.Writing.{are_bytes}
use Rattle.mdns_claimants.proofs.Typed.{spellable_name}
use Rattle.mdns_claimants.proofs.looks.look_at_name.Goals as goal

pub returns : goal.returns
returns c = spellable_name c.args.name.now c.as_wire.ensures.name (ap are_bytes (sym c.as_wire.ensures.value) ∙ c.look_at_bytes.ensures)
