use Rattle.std.proofs.Common.{◌≡◌, ◌<◌, ◌≤◌, ℕ}
use Rattle.mdns_hub.specs.Kept.{link_of}
use Rattle.mdns_hub.specs.Slots.{is_kept, address_at}
use Rattle.mdns_hub.specs.Order.{AreFit, early_count}
use Rattle.mdns_hub.proofs.Spreading.{left_to_hear}
use Rattle.mdns_hub.proofs.link.Link.spread.Given as goal

abbrev pub invariant-loop-daemon : goal.invariant-loop-daemon
invariant-loop-daemon l = record {
  others : link_of l.self ≡ record (link_of l.initial.self) { under_way = l.self.under_way.items };
  heard : left_to_hear (address_at l.daemons.slots.items) l.initial.self.parted.items l.packet l.daemon l.self.under_way.items
      ≡ left_to_hear (address_at l.daemons.slots.items) l.initial.self.parted.items l.packet 1 l.initial.self.under_way.items;
  fit : (from : ℕ) → from ≤ l.packet.moment → AreFit from (is_kept l.daemons.slots.items) l.initial.self.under_way.items
      → AreFit from (is_kept l.daemons.slots.items) l.self.under_way.items;
  early : (now : ℕ) → now < l.packet.moment → early_count now l.self.under_way.items ≡ early_count now l.initial.self.under_way.items;
}
