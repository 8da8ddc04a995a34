use Rattle.std.proofs.Common.{◌≡◌, ◌+◌, ◌-◌, ◌≤◌, ◌++◌, List, ℕ, Some, length, vec_len}
use Rattle.mdns_streams.proofs.whole.read_all.Given as goal

abbrev pub invariant-pieces : goal.invariant-pieces
invariant-pieces g l = record {
  all : (bytes : List ℕ) → g.S.Source.left l.fn.input ≡ Some bytes → (rest : List ℕ) × (bytes ≡ l.all.items ++ rest) × (g.S.Source.left l.input ≡ Some rest);
  quiet : g.S.Source.faults l.input ≡ g.S.Source.faults l.fn.input;
  short : length l.all.items ≤ l.most + 4096;
}

abbrev pub decreases-pieces : goal.decreases-pieces
decreases-pieces g l = l.most + 1 - vec_len l.all
