use Rattle.std.proofs.Common.{◌-◌, ◌≡◌, ℕ, ◌+◌, ◌<◌, ◌≤◌, length, get_or}
use Rattle.mdns_cache.specs.Ends.{IsOn, IsWon}
use Rattle.mdns_cache.proofs.ends.played.Given as goal

abbrev pub invariant-loop : goal.invariant-loop
invariant-loop l = length l.nodes.items ≡ l.counter

abbrev pub invariant-loop-node : goal.invariant-loop-node
invariant-loop-node l = record {
  size : length l.nodes.items ≡ l.size;
  most : l.node ≤ l.size;
  home : (j : ℕ) → 1 ≤ j → l.node ≤ j → j < length l.nodes.items → IsOn (length l.nodes.items + get_or l.nodes.items j 0) j;
  won : (j : ℕ) → 1 ≤ j → l.node ≤ j → j < length l.nodes.items → IsWon l.held l.nodes.items j;
}

abbrev pub decreases-loop-node : goal.decreases-loop-node
decreases-loop-node l = l.node - 1
