use Rattle.std.proofs.Common.{◌≡◌, true, drop}
use Rattle.mdns_claimants.specs.Typed.{are_plain, have_data}
use Rattle.mdns_claimants.proofs.looks.look_at.Given as goal

abbrev pub invariant-loop-rr : goal.invariant-loop-rr
invariant-loop-rr l = record {
  plain : are_plain (drop l.rr-index l.rrs) ≡ true;
  data_so_far : have_data (drop l.rr-index l.rrs) ≡ have_data l.rrs;
}
