-- When the daemons of a hub are due, as their histories say.
use Rattle.std.proofs.Common.{◌≡◌, ℕ, ◌<◌, max, Bool, true, false, List, Option, Some, None, nat_lt, option_and_then, option_map, refl, sym, ap, subst, ◌∙◌, arith}
use Rattle.std.specs.Option.{is_some}
use Rattle.std.proofs.lemmas.Bool.{false≢true}
use Rattle.mdns_history.specs.declared.config.Config.{Config}
use Rattle.mdns_history.specs.declared.entry.Entry.{Entry}
use Rattle.mdns_history.specs.History.{config_of}
use Rattle.mdns_history.specs.Due.{IsNextDue, NextDue}
use Rattle.mdns_core.specs.InForce.{in_force}
use Rattle.mdns_core.specs.State.{due_of}
use Rattle.mdns_core.specs.Laws.{StatesAreDue}
use Rattle.mdns_hub.specs.declared.hub.Hub.{Hub}
use Rattle.mdns_hub.specs.declared.daemons.Booted.{Booted}
use Rattle.mdns_hub.specs.Played.{Played, history_of}
use Rattle.mdns_hub.specs.Slots.{slot_at, due_at}
use Rattle.mdns_hub.specs.Plays.{IsTickDue}
use Rattle.mdns_hub.specs.Hubs.{StandsFor, SlotStands}

-- a history is next due once
once : (history : List Entry) (o : Option ℕ) (due : ℕ) → NextDue in_force history o → IsNextDue in_force history due → o ≡ Some due
once history None due never next = absurd (false≢true (sym next.busy ∙ never due next.from_now))
once history (Some moment) due first next = ap Some (of (nat_lt moment due) (nat_lt due moment) refl refl)
  where
    of : (b d : Bool) → nat_lt moment due ≡ b → nat_lt due moment ≡ d → moment ≡ due
    of true d e f = let below : moment < due = grind (arith, e) in absurd (false≢true (sym first.busy ∙ next.first moment first.from_now below))
    of false true e f = let below : due < moment = grind (arith, f) in absurd (false≢true (sym next.busy ∙ first.first due next.from_now below))
    of false false e f = grind (arith, e, f)

some_of : (o : Option Config) (address : ℕ) → option_map (λ (config : Config). config.address) o ≡ Some address → is_some o ≡ true
some_of None address e = cc
some_of (Some config) address e = refl

-- what a slot is due is due by its history
slot_due : StatesAreDue → (slot : Option Booted) (history : List Entry) (due : ℕ) → SlotStands slot history → option_and_then (λ (booted : Booted). due_of booted.daemon) slot ≡ Some due
    → is_some (config_of history) ≡ true × IsNextDue in_force history due
slot_due law None history due stands e = cc
slot_due law (Some booted) history due stands e = (
  some_of (config_of history) booted.address stands.1,
  subst (λ (o : Option ℕ). NextDue in_force history o) e (law booted.daemon history stands.0),
)

-- and nothing else is
due_slot : StatesAreDue → (slot : Option Booted) (history : List Entry) (due : ℕ) → SlotStands slot history → is_some (config_of history) ≡ true → IsNextDue in_force history due
    → option_and_then (λ (booted : Booted). due_of booted.daemon) slot ≡ Some due
due_slot law None history due stands booted next = absurd (false≢true (sym (ap (λ (es : List Entry). is_some (config_of es)) stands) ∙ booted))
due_slot law (Some booted) history due stands some next = once history (due_of booted.daemon) due (law booted.daemon history stands.0) next

-- a tick is due where the slot is
pub tick_due : StatesAreDue → (hub : Hub) (played : Played) (number due moment : ℕ) → StandsFor hub played → due_at hub.daemons.slots.items number ≡ Some due → moment ≡ max due hub.clock → IsTickDue played number moment
tick_due law hub played number due moment stands e is =
    let d = slot_due law (slot_at hub.daemons.slots.items number) (history_of number played.told) due (stands.slots number) e in
    record { booted = d.0; due = due; next = d.1; moment_is = is ∙ ap (max due) stands.clock }

-- and nowhere else
pub due_known : StatesAreDue → (hub : Hub) (played : Played) (number moment : ℕ) → StandsFor hub played → (t : IsTickDue played number moment)
    → (due_at hub.daemons.slots.items number ≡ Some t.due) × (moment ≡ max t.due hub.clock)
due_known law hub played number moment stands t =
    (due_slot law (slot_at hub.daemons.slots.items number) (history_of number played.told) t.due (stands.slots number) t.booted t.next, t.moment_is ∙ ap (max t.due) (sym stands.clock))
