use Rattle.std.proofs.Common.{◌≡◌, ◌++◌, true, List, take}
use Rattle.dns_record.specs.declared.record.Rr.{Rr}
use Rattle.mdns_claimants.specs.Bits.{have_bits}
use Rattle.mdns_claimants.proofs.owners.with_bits.Given as goal

abbrev pub invariant-loop-rr : goal.invariant-loop-rr
invariant-loop-rr l = (some : List Rr) → have_bits l.bits some ≡ true → have_bits l.all (some ++ take l.rr-index l.rrs) ≡ true
