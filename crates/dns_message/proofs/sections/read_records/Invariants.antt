use Rattle.std.proofs.Common.{◌-◌}
use Rattle.dns_message.specs.Reading.{record_at}
use Rattle.dns_message.proofs.Sequences.{ArePartRead}
use Rattle.dns_message.proofs.sections.read_records.Given as goal

abbrev pub invariant-records : goal.invariant-records
invariant-records l = ArePartRead (record_at l.packet) (l.count - l.read) l.rrs l.place l.count l.fn.at
