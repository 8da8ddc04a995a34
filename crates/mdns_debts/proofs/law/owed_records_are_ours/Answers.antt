use Rattle.mdns_debts.proofs.Ours.{owed_among, come_among}
use Rattle.mdns_debts.proofs.law.owed_records_are_ours.Goals as goal

pub returns : goal.returns
returns c = record { owed = owed_among; come = come_among }
