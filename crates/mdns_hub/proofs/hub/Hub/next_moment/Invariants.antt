use Rattle.std.proofs.Common.{◌≡◌, ◌<◌, ◌≤◌, ℕ, max, Some, IfSome}
use Rattle.mdns_hub.specs.Slots.{is_kept, due_at}
use Rattle.mdns_hub.specs.Order.{AreFit}
use Rattle.mdns_hub.specs.Running.{ComesFrom}
use Rattle.mdns_hub.proofs.hub.Hub.next_moment.Given as goal

abbrev pub invariant-loop-number : goal.invariant-loop-number
invariant-loop-number l = record {
  from : IfSome l.first (λ first. l.self.clock ≤ first);
  least : (moment : ℕ) → ComesFrom moment l.self → IfSome l.first (λ first. moment ≤ first);
  packets : (moment : ℕ) → IfSome l.first (λ first. moment ≤ first) → AreFit moment (is_kept l.self.daemons.slots.items) l.self.link.under_way.items;
  ticks : (moment : ℕ) → IfSome l.first (λ first. moment ≤ first) → (number due : ℕ) → number < l.number → due_at l.self.daemons.slots.items number ≡ Some due → moment ≤ max due l.self.clock;
}
