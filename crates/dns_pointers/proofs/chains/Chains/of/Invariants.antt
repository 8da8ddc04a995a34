use Rattle.std.proofs.Common.{◌≡◌, length}
use Rattle.dns_pointers.specs.Chains.{AreEnds}
use Rattle.dns_pointers.proofs.chains.Chains.of.Given as goal

abbrev pub invariant-ends : goal.invariant-ends
invariant-ends l = record {
  all : length l.ends.items ≡ l.at;
  ends : AreEnds l.bytes l.ends.items;
}
