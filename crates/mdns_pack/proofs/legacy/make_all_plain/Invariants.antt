use Rattle.std.proofs.Common.{◌≡◌, ◌++◌, map, take, drop}
use Rattle.dns_message.specs.Packing.{plain_record}
use Rattle.mdns_pack.proofs.legacy.make_all_plain.Given as goal

abbrev pub invariant-loop-rr : goal.invariant-loop-rr
invariant-loop-rr l = l.records ≡ map plain_record (take l.rr-index l.initial.records) ++ drop l.rr-index l.initial.records
