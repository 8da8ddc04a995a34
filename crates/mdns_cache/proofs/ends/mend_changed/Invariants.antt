use Rattle.std.proofs.Common.{◌-◌, ◌≡◌, ◌+◌, ◌*◌, ◌<◌, ◌≤◌, [], ◌∷◌, List, length}
use Rattle.mdns_history.specs.declared.held.Held.{Held}
use Rattle.by_name.specs.Filed.{AgreeBut}
use Rattle.mdns_cache.specs.Ends.{IsOn, IsPlayed}
use Rattle.mdns_cache.proofs.Replaying.{IsReplayed}
use Rattle.mdns_cache.proofs.ends.mend_changed.Given as goal

abbrev pub invariant-loop-node : goal.invariant-loop-node
invariant-loop-node l = record {
  size : length l.nodes ≡ length l.initial.nodes;
  some : 1 ≤ l.node;
  below : l.node < 2 * length l.nodes;
  on : IsOn (length l.nodes + l.place) l.node;
  played : (before : List Held) → AgreeBut (l.place ∷ []) before l.held → IsPlayed before [] l.initial.nodes → IsReplayed before l.held l.node l.nodes;
}

abbrev pub decreases-loop-node : goal.decreases-loop-node
decreases-loop-node l = l.node - 1
