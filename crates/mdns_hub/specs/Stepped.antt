-- What a step of one daemon leaves in the slots.
use Rattle.std.specs.Prelude.{◌≡◌, ℕ, ◌<◌, List, ◌∷◌, Option, Some, IfSome}
use Rattle.mdns_history.specs.declared.event.Event.{Event}
use Rattle.mdns_history.specs.declared.event.Event.TheVariants.{Tick}
use Rattle.mdns_history.specs.declared.entry.Entry.{Entry}
use Rattle.mdns_history.specs.Fitting.{Fits}
use Rattle.mdns_core.specs.InForce.{in_force}
use Rattle.mdns_core.specs.State.{Stands, due_of}
use Rattle.mdns_hub.specs.declared.daemons.Booted.{Booted}
use Rattle.mdns_hub.specs.Slots.{slot_at}
use Rattle.mdns_hub.specs.Tallies.{with_gifts}

-- The daemon of a number made a step at a moment, with a word, for an event. The others are as before.
pub record IsStep (number moment word : ℕ) (event : Event) (old new : List (Option Booted)) (entry : Entry) : Type 0 where
  pub before : Booted
  pub after : Booted
  pub was : slot_at old number ≡ Some before
  pub is : slot_at new number ≡ Some after
  pub others : (other : ℕ) → (other ≡ number → ⊥) → slot_at new other ≡ slot_at old other
  pub address : after.address ≡ before.address
  pub tally : after.tally ≡ with_gifts entry.given before.tally
  pub fits : (history : List Entry) → Stands before.daemon history → Fits in_force entry history × Stands after.daemon (entry ∷ history)
  pub moment_is : entry.moment ≡ moment
  pub word_is : entry.word ≡ word
  pub event_is : entry.event ≡ event
  pub last : after.daemon.last ≡ moment
  pub ticked : event ≡ Tick → IfSome (due_of after.daemon) (λ due. moment < due)
