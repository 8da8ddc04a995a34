-- What one message multicasts.
use Rattle.std.specs.Prelude.{◌&&◌, List, [], if◌then◌else◌}
use Rattle.mdns_base.specs.declared.host.Dest.TheVariants.{All}
use Rattle.mdns_base.specs.Hosts.{dest_eq}
use Rattle.dns_record.specs.declared.record.Rr.{Rr}
use Rattle.mdns_history.specs.declared.entry.Sent.{Sent}
use Rattle.mdns_history.specs.Debts.{sections}

-- the records of a message, in any section, where it is a response to all
abbrev pub multicasts_by : Sent → List Rr
multicasts_by sent = if sent.message.response && dest_eq sent.to All then sections sent.message else []
