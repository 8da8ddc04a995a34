-- A read that was interrupted took nothing.
use Rattle.std.proofs.Common.{◌≡◌, length}
use Rattle.std.specs.Io.KnownBytes.{Keeps}
use Rattle.mdns_streams.proofs.adapters.InputSource.read.Given as goal

abbrev pub invariant-loop : goal.invariant-loop
invariant-loop g l = record {
  size : length l.into ≡ length l.initial.into;
  kept : Keeps (g.R.Read.remaining l.initial.self.inner) (g.R.Read.remaining l.self.inner);
  faults : l.self.faults ≡ l.initial.self.faults;
}
