-- The records that answers are made of.
use Rattle.std.specs.Prelude.{false, List, ◌++◌, map}
use Rattle.dns_name.specs.Names.{folded}
use Rattle.dns_record.specs.declared.record.Rr.{Rr}
use Rattle.mdns_history.specs.declared.held.Held.{Held}
use Rattle.sd_answer.specs.declared.records.KnownRecords.{KnownRecords}

-- the records of what is held
abbrev pub rrs_of : List Held → List Rr
rrs_of held = map (λ one. one.rr) held

-- the records that are held or own
abbrev pub rrs_in : KnownRecords → List Rr
rrs_in known = rrs_of known.held.now ++ known.own.now

-- a record as far as answers depend on it: its owner, case aside, and its data
abbrev pub bare : Rr → Rr
bare rr = record { owner = folded rr.owner; flush = false; ttl = 0; rdata = rr.rdata }
