use Rattle.std.proofs.Common.{◌≡◌}
use Rattle.mdns_turn.specs.Views.{IsSamePlace}
use Rattle.mdns_turn.proofs.turn.Turn.draw.Given as goal

-- a step that found another number changed nothing
abbrev pub invariant-loop : goal.invariant-loop
invariant-loop g l =
    (goal.iterator-loop g).can_next l.iterator' × (goal.iterator-loop g).is_finite l.iterator' × IsSamePlace l.initial.place l.place × (l.place.me ≡ l.initial.place.me)
