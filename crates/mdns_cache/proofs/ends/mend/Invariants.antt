use Rattle.std.proofs.Common.{◌-◌, ◌≡◌, ℕ, ◌*◌, ◌<◌, ◌≤◌, ◌∷◌, List, length}
use Rattle.mdns_cache.specs.Ends.{IsPlayed}
use Rattle.mdns_cache.proofs.Mending.{IsPlayedTo}
use Rattle.mdns_cache.proofs.ends.mend.Given as goal

abbrev pub invariant-loop-node : goal.invariant-loop-node
invariant-loop-node l = record {
  size : length l.nodes ≡ length l.initial.nodes;
  some : 1 ≤ l.node;
  below : l.node < 2 * length l.nodes;
  played : (dirty : List ℕ) → IsPlayed l.held (l.place ∷ dirty) l.initial.nodes → IsPlayedTo l.held l.node dirty l.nodes;
}

abbrev pub decreases-loop-node : goal.decreases-loop-node
decreases-loop-node l = l.node - 1
