-- What counts of a record in a tie. (RFC 6762 8.2)
use Rattle.std.specs.Prelude.{ℕ, List}
use Rattle.dns_record.specs.declared.record.Rr.{Rr}
use Rattle.dns_record.specs.Records.{kind_of, data_of}

-- the type and the data of a record, uncompressed; the class is the same in all
abbrev pub counted : Rr → ℕ × List ℕ
counted rr = (kind_of rr.rdata, data_of rr.rdata)
