use Rattle.std.proofs.Common.{◌++◌, filter, drop}
use Rattle.std.specs.List.{list_any}
use Rattle.dns_record.specs.Records.{matches}
use Rattle.dns_message.specs.Packing.{bare_query, batch_messages}
use Rattle.mdns_pack.specs.Listing.{IsListed}
use Rattle.mdns_pack.proofs.Chains.{IsUnderway}
use Rattle.mdns_pack.proofs.query.put_batch.Given as goal

abbrev pub invariant-loop-listing : goal.invariant-loop-listing
invariant-loop-listing l = record {
  underway : IsUnderway (l.initial.messages ++ batch_messages l.known l.batch) l.messages (bare_query l.draft.questions l.listed.items)
      (filter (λ rr. list_any (λ key. matches key rr) l.batch) (drop l.listing-index l.known));
  listed : IsListed l.draft l.listed.items;
}
