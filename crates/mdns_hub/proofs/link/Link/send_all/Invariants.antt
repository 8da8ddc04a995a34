use Rattle.std.proofs.Common.{◌≡◌, ◌+◌, ◌≤◌, ℕ, drop}
use Rattle.mdns_hub.specs.Links.{with_packets}
use Rattle.mdns_hub.specs.Kept.{link_of}
use Rattle.mdns_hub.specs.Slots.{is_kept, address_at}
use Rattle.mdns_hub.specs.Order.{AreFit, early_count}
use Rattle.mdns_hub.proofs.link.Link.send_all.Given as goal

abbrev pub invariant-loop-one : goal.invariant-loop-one
invariant-loop-one l = record {
  sent : with_packets (address_at l.daemons.slots.items) l.now l.sender (drop l.one-index l.sent) (link_of l.self)
      ≡ with_packets (address_at l.daemons.slots.items) l.now l.sender l.sent (link_of l.initial.self);
  fit : (from : ℕ) → from ≤ l.now + 1 → AreFit from (is_kept l.daemons.slots.items) l.initial.self.under_way.items
      → AreFit from (is_kept l.daemons.slots.items) l.self.under_way.items;
  early : early_count l.now l.self.under_way.items ≡ early_count l.now l.initial.self.under_way.items;
}
