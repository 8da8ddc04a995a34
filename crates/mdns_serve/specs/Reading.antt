-- What the reading half of a session does.
use Rattle.std.specs.Prelude.{◌≡◌, ◌⊎◌, ◌↔◌, ℕ, Bool, true, false, List, [], ◌∷◌, ◌++◌, drop, Option, Some, None, Ok, Err, MatchOption, if◌then◌else◌}
use Rattle.mdns_history.specs.declared.event.Event.{Event}
use Rattle.mdns_history.specs.declared.event.Event.TheVariants as event
use Rattle.mdns_history.specs.declared.entry.Outcome.{Outcome}
use Rattle.mdns_history.specs.declared.entry.Outcome.TheVariants as outcome
use Rattle.sd_call.specs.declared.request.Request.{Request}
use Rattle.sd_ipc.specs.declared.error.FrameError.{FrameError}
use Rattle.sd_ipc.specs.declared.error.FrameError.TheVariants.{BadLength, BadKind, BadBody, Truncated}
use Rattle.sd_ipc.specs.declared.error.FrameError.TheVariants as frame
use Rattle.sd_ipc.specs.Reading.{request_in, frame_size}
use Rattle.sd_ipc.specs.Taking.{Told, TakesUpTo}
use Rattle.mdns_outside.specs.Parts.{Handed}
use Rattle.mdns_serve.specs.declared.happening.Happening.{Happening}
use Rattle.mdns_serve.specs.declared.happening.Happening.TheVariants.{Entered, Missed}
use Rattle.mdns_serve.specs.declared.reading.ReadEnd.{ReadEnd}
use Rattle.mdns_serve.specs.declared.reading.ReadEnd.TheVariants.{Ended, BadFrame, ReadFault, Closed, NoMemory}
use Rattle.mdns_serve.specs.Turns.{detaching_of}
use Rattle.mdns_serve.specs.Packets.{packets_of, HandsSome}

-- a turn that was to do an event: its entry, or that it was missed
abbrev pub IsFor : Event → Happening → Type 0
IsFor event (Entered entry) = entry.event ≡ event
IsFor event (Missed detaching) = detaching ≡ detaching_of event

-- an operation and a request as a call of a session
abbrev pub call_of : ℕ → ℕ × Request → Event
call_of session request = event.Call session request.0 request.1

-- the calls of a session with these requests, one each, in their order
abbrev pub AreCalls : ℕ → List (ℕ × Request) → List Happening → Type 0
AreCalls session [] [] = Unit {0}
AreCalls session [] (turn ∷ turns) = ⊥
AreCalls session (request ∷ requests) [] = ⊥
AreCalls session (request ∷ requests) (turn ∷ turns) = IsFor (call_of session request) turn × AreCalls session requests turns

-- The bytes begin with the frames of these requests, and the rest is behind them.
abbrev pub Spells : List ℕ → List (ℕ × Request) → List ℕ → Type 0
Spells bytes [] rest = rest ≡ bytes
Spells bytes (request ∷ requests) rest = (request_in bytes ≡ Ok (Some request)) × Spells (drop (frame_size bytes) bytes) requests rest

-- The frames of these requests were taken from a source, and nothing else, where it tells its bytes.
abbrev pub Took : Option (List ℕ) → Option (List ℕ) → List (ℕ × Request) → Type 0
Took old new requests = Told old (λ bytes. (rest : List ℕ) × Spells bytes requests rest × (new ≡ Some rest))

-- whether an outcome says that the session is closed or cut
abbrev pub is_shut_outcome : Outcome → Bool
is_shut_outcome outcome.Closed = true
is_shut_outcome outcome.Cut = true
is_shut_outcome _ = false

-- whether a turn found its session closed or cut
abbrev pub is_shut : Happening → Bool
is_shut (Entered entry) = is_shut_outcome entry.outcome
is_shut (Missed detaching) = false

-- whether the last of these turns did
abbrev pub ends_shut : List Happening → Bool
ends_shut [] = false
ends_shut (turn ∷ []) = is_shut turn
ends_shut (turn ∷ next ∷ turns) = ends_shut (next ∷ turns)

-- why bytes are no frame of a request
abbrev pub IsFrameFault : FrameError → Type 0
IsFrameFault error = (error ≡ BadLength) ⊎ (error ≡ BadKind) ⊎ (error ≡ BadBody) ⊎ (error ≡ Truncated)

-- Why the reading ended, at bytes of which no call was made, and what is left then.
abbrev pub EndsAt : ReadEnd → List ℕ → Option (List ℕ) → Type 0
EndsAt Ended rest new = (request_in rest ≡ Ok None) × (new ≡ Some (drop (frame_size rest) rest))
EndsAt BadFrame rest new = ((error : FrameError) × IsFrameFault error × (request_in rest ≡ Err error)) × (new ≡ Some (drop (frame_size rest) rest))
EndsAt ReadFault rest new = TakesUpTo (frame_size rest) rest new
EndsAt Closed rest new = new ≡ Some rest
EndsAt NoMemory rest new = TakesUpTo (frame_size rest) rest new

-- Frames of requests were taken, and a call of the session was made of each.
pub record Calls (session : ℕ) (old new : Option (List ℕ)) (mine_old mine_new : List Happening) (air_old air_new : Option (List Handed)) (requests : List (ℕ × Request)) (calls : List Happening) : Type 0 where
  pub are : AreCalls session requests calls
  pub took : Took old new requests
  pub mine : mine_new ≡ mine_old ++ calls
  pub air : HandsSome air_old air_new (packets_of calls)

-- The same up to now, and no call found the session closed or cut.
pub record Goes (session : ℕ) (old new : Option (List ℕ)) (mine_old mine_new : List Happening) (air_old air_new : Option (List Handed)) : Type 0 where
  pub requests : List (ℕ × Request)
  pub calls : List Happening
  pub made : Calls session old new mine_old mine_new air_old air_new requests calls
  pub open_still : ends_shut calls ≡ false

-- The same until the reading ended. The last call found the session closed or cut exactly where it ended for that.
pub record Stops (session : ℕ) (old new : Option (List ℕ)) (mine_old mine_new : List Happening) (air_old air_new : Option (List Handed)) (end : ReadEnd) : Type 0 where
  pub requests : List (ℕ × Request)
  pub calls : List Happening
  pub between : Option (List ℕ)
  pub made : Calls session old between mine_old mine_new air_old air_new requests calls
  pub ends : Told between (λ rest. EndsAt end rest new)
  pub closed : (end ≡ Closed) ↔ (ends_shut calls ≡ true)

-- one more request: the reading goes on, or has ended
abbrev pub GoesOrStops : ℕ → Option (List ℕ) → Option (List ℕ) → List Happening → List Happening → Option (List Handed) → Option (List Handed) → Option ReadEnd → Type 0
GoesOrStops session old new mine_old mine_new air_old air_new result = MatchOption result
    (Goes session old new mine_old mine_new air_old air_new)
    (λ end. Stops session old new mine_old mine_new air_old air_new end)

-- The whole of a reading half: its calls, and the end of its session behind them.
pub record Reads (session : ℕ) (old new : Option (List ℕ)) (mine_old mine_new : List Happening) (air_old air_new : Option (List Handed)) (end : ReadEnd) : Type 0 where
  pub requests : List (ℕ × Request)
  pub calls : List Happening
  pub detach : Happening
  pub between : Option (List ℕ)
  pub are : AreCalls session requests calls
  pub is_detach : IsFor (event.Detach session) detach
  pub mine : mine_new ≡ (mine_old ++ calls) ++ detach ∷ []
  pub took : Took old between requests
  pub ends : Told between (λ rest. EndsAt end rest new)
  pub closed : (end ≡ Closed) ↔ (ends_shut calls ≡ true)
  pub air : HandsSome air_old air_new (packets_of calls ++ packets_of (detach ∷ []))

-- why the reading ends after a call, if it does
abbrev pub end_after : Happening → Option ReadEnd
end_after (Missed detaching) = Some NoMemory
end_after (Entered entry) = if is_shut_outcome entry.outcome then Some Closed else None

-- why the reading ends where no frame was read
abbrev pub end_of : FrameError → ReadEnd
end_of BadLength = BadFrame
end_of BadKind = BadFrame
end_of BadBody = BadFrame
end_of Truncated = BadFrame
end_of frame.ReadFault = ReadFault
end_of frame.NoMemory = NoMemory

-- one call of the session was made
pub record CallsOnce (session : ℕ) (request : ℕ × Request) (mine_old mine_new : List Happening) (air_old air_new : Option (List Handed)) (result : Option ReadEnd) : Type 0 where
  pub call : Happening
  pub is : IsFor (call_of session request) call
  pub mine : mine_new ≡ mine_old ++ call ∷ []
  pub air : HandsSome air_old air_new (packets_of (call ∷ []))
  pub ends : result ≡ end_after call

-- the session was detached, or its detach was missed
pub record Detaches (session : ℕ) (mine_old mine_new : List Happening) (air_old air_new : Option (List Handed)) : Type 0 where
  pub detach : Happening
  pub is : IsFor (event.Detach session) detach
  pub mine : mine_new ≡ mine_old ++ detach ∷ []
  pub air : HandsSome air_old air_new (packets_of (detach ∷ []))
