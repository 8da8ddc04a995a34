use Rattle.std.proofs.Common.{◌≡◌, ◌<◌, drop}
use Rattle.mdns_claimants.specs.Bits.{place_from}
use Rattle.mdns_claimants.proofs.owners.place_in.Given as goal

abbrev pub invariant-loop-byte : goal.invariant-loop-byte
invariant-loop-byte l = record {
  place : place_from l.place (drop l.byte-index l.label) ≡ place_from 0 l.label;
  small : l.place < 64;
}
