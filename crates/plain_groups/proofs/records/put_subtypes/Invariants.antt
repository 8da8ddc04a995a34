use Rattle.std.proofs.Common.{◌≡◌, ◌++◌, take, map}
use Rattle.dns_record.specs.declared.record.Rdata.TheVariants.{Ptr}
use Rattle.sd_name.specs.ServiceTypes.{subtype_name}
use Rattle.mdns_history.specs.Groups.{shared_record, other_ttl}
use Rattle.plain_groups.proofs.records.put_subtypes.Given as goal

abbrev pub invariant-loop-subtype : goal.invariant-loop-subtype
invariant-loop-subtype l = l.records.items ≡ l.initial.records.items ++ map (λ subtype. shared_record (subtype_name subtype l.regtype) other_ttl (Ptr l.name)) (take l.subtype-index l.subtype-items)
