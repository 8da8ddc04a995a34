use Rattle.std.proofs.Common.{◌≡◌, ◌≤◌, length, take}
use Rattle.std.specs.Prelude.{◌↔◌}
use Rattle.dns_name.specs.InPlace.{bytes_in}
use Rattle.dns_name.proofs.wire_bytes.WireBytes.is_spelled_as.Given as goal

abbrev pub invariant-chunks : goal.invariant-chunks
invariant-chunks l = record {
  ours : l.left ≤ length l.ours;
  theirs : l.left ≤ length l.theirs;
  same : (take l.left l.ours ≡ take l.left l.theirs) ↔ (bytes_in l.self ≡ bytes_in l.other);
}

abbrev pub decreases-chunks : goal.decreases-chunks
decreases-chunks l = l.left
