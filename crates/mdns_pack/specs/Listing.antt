-- Records as queries list them.
use Rattle.std.specs.Prelude.{◌≡◌, false, List, map}
use Rattle.dns_record.specs.declared.record.Rr.{Rr}
use Rattle.dns_message.specs.declared.message.Message.{Message}
use Rattle.dns_message.specs.Packing.{bare_query}

-- a record without what a listing may change: neither the flush bit nor the TTL makes a message longer or shorter
abbrev pub unlisted : Rr → Rr
unlisted rr = record { owner = rr.owner; flush = false; ttl = 0; rdata = rr.rdata }

-- A query is drafted with its answers as they are; these are listed with flush bits and TTLs that may be others.
pub record IsListed (draft : Message) (listed : List Rr) : Type 0 where
  pub bare : draft ≡ bare_query draft.questions draft.answers
  pub alike : map unlisted draft.answers ≡ map unlisted listed
