use Rattle.std.proofs.Common.{◌≡◌, ◌-◌, ◌≤◌, ◌++◌, List, ℕ, Some, length, vec_len}
use Rattle.sd_ipc.proofs.source.take_up_to.Given as goal

abbrev pub invariant-pieces : goal.invariant-pieces
invariant-pieces g l = record {
  all : (bytes : List ℕ) → g.S.Source.left l.fn.input ≡ Some bytes → (rest : List ℕ) × (bytes ≡ l.taken.items ++ rest) × (g.S.Source.left l.input ≡ Some rest);
  quiet : g.S.Source.faults l.input ≡ g.S.Source.faults l.fn.input;
  most : length l.taken.items ≤ l.wanted;
}

abbrev pub decreases-pieces : goal.decreases-pieces
decreases-pieces g l = l.wanted - vec_len l.taken
