use Rattle.std.proofs.Common.{◌≡◌, drop}
use Rattle.mdns_hub.specs.Tallies.{with_gifts}
use Rattle.mdns_hub.proofs.tally.Tally.count_all.Given as goal

abbrev pub invariant-loop-gift : goal.invariant-loop-gift
invariant-loop-gift l = with_gifts (drop l.gift-index l.gifts) l.self ≡ with_gifts l.gifts l.initial.self
