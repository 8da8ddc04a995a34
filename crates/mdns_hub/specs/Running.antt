-- Parts of a run up to a moment.
use Rattle.std.specs.Prelude.{◌≡◌, ℕ, ◌+◌, ◌≤◌, nat_le, Bool, false, List, Option, Some, None}
use Rattle.std.specs.Io.KnownBytes.{Appends}
use Rattle.mdns_history.specs.declared.event.Event.{Event}
use Rattle.mdns_history.specs.declared.entry.Entry.{Entry}
use Rattle.mdns_history.specs.EntryText.{entry_text}
use Rattle.mdns_hub.specs.declared.hub.Hub.{Hub}
use Rattle.mdns_hub.specs.Links.{with_packets}
use Rattle.mdns_hub.specs.Kept.{link_of}
use Rattle.mdns_hub.specs.Order.{AreFit, early_count}
use Rattle.mdns_hub.specs.Slots.{is_kept, address_at, AreDueFrom}
use Rattle.mdns_hub.specs.Played.{Played}
use Rattle.mdns_hub.specs.Plays.{Happens}

-- an event happens to a daemon at a moment
abbrev pub HappensAt : ℕ → Event → ℕ → Played → Played → Type 0
HappensAt daemon event moment before after = Happens daemon event (record before { clock = moment }) after

-- nothing is heard or due before a moment
pub record ComesFrom (moment : ℕ) (hub : Hub) : Type 0 where
  pub packets : AreFit moment (is_kept hub.daemons.slots.items) hub.link.under_way.items
  pub ticks : AreDueFrom moment hub.clock hub.daemons.slots.items

-- whether a moment is there, and no later than another
abbrev pub is_over : ℕ → Option ℕ → Bool
is_over moment None = false
is_over moment (Some due) = nat_le due moment

-- The print of an entry was put, and what it sends is under way; nothing else changed.
pub record IsFollowed (number : ℕ) (entry : Entry) (before after : Hub) (old new : Option (List ℕ)) : Type 0 where
  pub put : Appends old new (entry_text number entry)
  pub clock : after.clock ≡ before.clock
  pub words : after.words ≡ before.words
  pub slots : after.daemons.slots.items ≡ before.daemons.slots.items
  pub link : link_of after.link ≡ with_packets (address_at before.daemons.slots.items) before.clock number entry.sent (link_of before.link)
  pub fit : (from : ℕ) → from ≤ before.clock + 1 → AreFit from (is_kept before.daemons.slots.items) before.link.under_way.items
      → AreFit from (is_kept after.daemons.slots.items) after.link.under_way.items
  pub early : early_count before.clock after.link.under_way.items ≡ early_count before.clock before.link.under_way.items
