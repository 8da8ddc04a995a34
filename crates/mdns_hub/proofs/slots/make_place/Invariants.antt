use Rattle.std.proofs.Common.{◌≡◌, ◌+◌, ◌-◌, ◌≤◌, ℕ, vec_len}
use Rattle.mdns_hub.specs.Slots.{slot_at}
use Rattle.mdns_hub.proofs.slots.make_place.Given as goal

abbrev pub invariant-loop-slots : goal.invariant-loop-slots
invariant-loop-slots g l = record {
  same : (other : ℕ) → slot_at l.slots.items other ≡ slot_at l.initial.slots.items other;
  few : vec_len l.slots ≤ 17;
}

abbrev pub decreases-loop-slots : goal.decreases-loop-slots
decreases-loop-slots g l = l.place + 1 - vec_len l.slots
