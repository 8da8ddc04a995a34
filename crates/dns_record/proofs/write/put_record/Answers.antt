use Rattle.std.proofs.Common.{◌<◌, ◌^◌, arith}
use Rattle.dns_record.specs.Records.{kind_of}
use Rattle.dns_record.proofs.WrittenRecords.{record_written}
use Rattle.dns_record.proofs.write.put_record.Goals as goal

pub returns-clause-read : goal.returns-clause-read
returns-clause-read c = λ valid.
    let ttl : c.args.rr.now.ttl < 2 ^ 32 = omega arith in
    let kind : kind_of c.args.rr.now.rdata < 2 ^ 16 = omega arith in
    record_written c.args.rr.now c.put_name.ensures.read ttl kind (c.in_ok-put_rdata.ensures.read valid)
