-- What the ticker and the ear do.
use Rattle.std.specs.Prelude.{◌≡◌, ℕ, List, [], ◌∷◌, ◌++◌, take, Option, Some, Contains}
use Rattle.mdns_history.specs.declared.event.Event.{Event}
use Rattle.mdns_history.specs.declared.event.Event.TheVariants as event
use Rattle.mdns_base.specs.declared.host.Host.{Host}
use Rattle.mdns_outside.specs.Parts.{Arriving, Handed}
use Rattle.mdns_serve.specs.declared.happening.Happening.{Happening}
use Rattle.mdns_serve.specs.declared.hearing.HearEnd.{HearEnd}
use Rattle.mdns_serve.specs.declared.hearing.HearEnd.TheVariants.{Ended}
use Rattle.mdns_serve.specs.Shares.{Does}
use Rattle.mdns_serve.specs.Packets.{packets_of, HandsSome}
use Rattle.mdns_serve.specs.Reading.{IsFor}

-- an event that is a tick, or the detach of a session whose end is owed
abbrev pub IsTendedBy : List ℕ → Event → Type 0
IsTendedBy owed event.Tick = Unit {0}
IsTendedBy owed (event.Detach session) = Contains owed session
IsTendedBy owed _ = ⊥

-- a turn that was to be such an event
abbrev pub Tends : List ℕ → Happening → Type 0
Tends owed turn = (event : Event) × IsTendedBy owed event × IsFor event turn

-- the same of a turn with a clock's moment and a word: its entry has that word, and that moment, but not before the last nor past 2^53
abbrev pub TendsBy : ℕ → ℕ → List ℕ → ℕ → Happening → Type 0
TendsBy clock word owed last turn = (event : Event) × IsTendedBy owed event × Does clock word event last turn

-- the most bytes that are received of a packet
abbrev pub most_received : ℕ
most_received = 8973

-- a packet as it was received
abbrev pub hearing_of : Arriving → Event
hearing_of packet = event.Hear packet.0 (take most_received packet.1)

-- the turns were to hear these packets, one each, in their order
abbrev pub AreHeard : List Arriving → List Happening → Type 0
AreHeard [] [] = Unit {0}
AreHeard [] (turn ∷ turns) = ⊥
AreHeard (packet ∷ packets) [] = ⊥
AreHeard (packet ∷ packets) (turn ∷ turns) = IsFor (hearing_of packet) turn × AreHeard packets turns

-- what an ear that has ended has left
abbrev pub EndsWith : Option HearEnd → List Arriving → Type 0
EndsWith (Some Ended) rest = rest ≡ []
EndsWith _ rest = Unit {0}

-- Packets were taken from an ear, and a turn was made of each.
pub record Hears (old new : Option (List Arriving)) (mine_old mine_new : List Happening) (air_old air_new : Option (List Handed)) (result : Option HearEnd) : Type 0 where
  pub heard : List Happening
  pub mine : mine_new ≡ mine_old ++ heard
  pub took : (arrivals : List Arriving) → old ≡ Some arrivals → (packets : List Arriving) × (rest : List Arriving) × (arrivals ≡ packets ++ rest) × AreHeard packets heard × (new ≡ Some rest) × EndsWith result rest
  pub air : HandsSome air_old air_new (packets_of heard)

-- one packet was heard in one turn
pub record HearsOne (from : Host) (packet : List ℕ) (mine_old mine_new : List Happening) (air_old air_new : Option (List Handed)) : Type 0 where
  pub turn : Happening
  pub is : IsFor (event.Hear from packet) turn
  pub mine : mine_new ≡ mine_old ++ turn ∷ []
  pub air : HandsSome air_old air_new (packets_of (turn ∷ []))
