-- What is gone from the rest of the piece was appended.
use Rattle.std.proofs.Common.{◌≡◌, List, ℕ, ◌++◌, length}
use Rattle.std.specs.Io.KnownBytes.{Appends}
use Rattle.mdns_streams.proofs.adapters.OutputSink.put.Given as goal

abbrev pub invariant-writes : goal.invariant-writes
invariant-writes g l = record {
  gone : (done : List ℕ) × (l.piece ≡ done ++ l.rest) × Appends (g.W.Write.contents l.initial.self.inner) (g.W.Write.contents l.self.inner) done;
  faults : l.self.faults ≡ l.initial.self.faults;
}

abbrev pub decreases-writes : goal.decreases-writes
decreases-writes g l = length l.rest
