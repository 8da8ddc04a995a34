use Rattle.std.proofs.Common.{◌≡◌, ◌++◌, take, drop}
use Rattle.mdns_pack.proofs.listing.lay_all.Given as goal

abbrev pub invariant-loop-place : goal.invariant-loop-place
invariant-loop-place l = l.records ≡ take l.place l.listings ++ drop l.place l.fn.records
