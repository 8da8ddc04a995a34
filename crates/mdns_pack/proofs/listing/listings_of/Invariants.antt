use Rattle.std.proofs.Common.{◌≡◌, take}
use Rattle.mdns_pack.proofs.listing.listings_of.Given as goal

abbrev pub invariant-loop-rr : goal.invariant-loop-rr
invariant-loop-rr l = l.listings.items ≡ take l.rr-index l.records
