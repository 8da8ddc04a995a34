-- What contracts see of a client, and what its calls do to it.
use Rattle.std.specs.Prelude.{◌≡◌, ◌⊎◌, ℕ, ◌+◌, ◌^◌, Bool, true, false, List, [], take, drop, Option, Some, None, Result, Ok, Err, nat_lt, if◌then◌else◌}
use Rattle.std.specs.Io.KnownBytes.{Appends}
use Rattle.mdns_base.specs.Outside.{Rose}
use Rattle.mdns_outside.specs.Plugs.{Tells}
use Rattle.sd_call.specs.declared.request.Request.{Request}
use Rattle.sd_call.specs.declared.item.Item.{Item}
use Rattle.sd_ipc.specs.declared.error.FrameError.{FrameError}
use Rattle.sd_ipc.specs.Frames.{request_frame}
use Rattle.sd_ipc.specs.Reading.{item_in, frame_size}
use Rattle.sd_ipc.specs.Taking.{Told, TakesUpTo}
use Rattle.sd_client.specs.declared.error.ClientError.{ClientError}
use Rattle.sd_client.specs.declared.error.ClientError.TheVariants.{BadParam, PeerFault, Ended, BadFrame, NoMemory}
use Rattle.sd_client.specs.Errors.{error_of}

-- What is left to read and what was said, where source and sink tell it; how often each failed; the number of the next
-- operation, from 1 on; and whether the client is over.
pub record Connection : Type 0 where
  pub left : Option (List ℕ)
  pub said : Option (List ℕ)
  pub source_faults : ℕ
  pub sink_faults : ℕ
  pub next : ℕ
  pub over : Bool

-- the number behind another; 1 stands behind the last one of 32 bits
abbrev pub next_number : ℕ → ℕ
next_number number = if nat_lt (number + 1) (2 ^ 32) then number + 1 else 1

-- A client over a new connection: nothing failed on it, and nothing was said, where what is said to the peers is told.
pub record IsFresh (client : Connection) (told : Option (List (List ℕ))) : Type 0 where
  pub empty : Tells told → client.said ≡ Some []
  pub rest : client ≡ record { left = client.left; said = client.said; source_faults = 0; sink_faults = 0; next = 1; over = false }

-- The bytes were put, and nothing else changed but the number of the next operation.
pub record Puts (old new : Connection) (bytes : List ℕ) (next : ℕ) : Type 0 where
  pub going : old.over ≡ false
  pub gained : Appends old.said new.said bytes
  pub rest : new ≡ record old { said = new.said; next = next }

-- The sink failed: a beginning of the bytes was put, and the client is over.
pub record BreaksPut (old new : Connection) (bytes : List ℕ) : Type 0 where
  pub going : old.over ≡ false
  pub rose : Rose old.sink_faults new.sink_faults
  pub front : (n : ℕ) × Appends old.said new.said (take n bytes)
  pub rest : new ≡ record old { said = new.said; sink_faults = new.sink_faults; over = true }

-- What a call that sends did, by its answer: `made` is the request that its arguments make, and `next` the number of the
-- next operation behind the call.
abbrev pub Sends : {T : Type 0} → Connection → Connection → ℕ → ℕ → Option Request → Result T ClientError → Type 0
Sends old new op next made (Ok x) = (request : Request) × (made ≡ Some request) × Puts old new (request_frame op request) next
Sends old new op next made (Err BadParam) = (made ≡ None) × (new ≡ old)
Sends old new op next made (Err PeerFault) = (request : Request) × (made ≡ Some request) × BreaksPut old new (request_frame op request)
Sends old new op next made (Err Ended) = (request : Request) × (made ≡ Some request) × (old.over ≡ true) × (new ≡ old)
Sends old new op next made (Err BadFrame) = ⊥
Sends old new op next made (Err NoMemory) = new ≡ old

-- The client is over by a call that took no more than the first frame of what was left.
pub record Stops (old new : Connection) (source_faults : ℕ) : Type 0 where
  pub going : old.over ≡ false
  pub within : Told old.left (λ bytes. TakesUpTo (frame_size bytes) bytes new.left)
  pub rest : new ≡ record old { left = new.left; source_faults = source_faults; over = true }

-- The first frame of what was left was taken, and it is this item's.
pub record TakesItem (old new : Connection) (item : Item) : Type 0 where
  pub going : old.over ≡ false
  pub spelled : Told old.left (λ bytes. item_in bytes ≡ Ok (Some item))
  pub taken : Told old.left (λ bytes. new.left ≡ Some (drop (frame_size bytes) bytes))
  pub rest : new ≡ record old { left = new.left }

-- What is left begins with a fault.
abbrev pub IsNoItem : List ℕ → Type 0
IsNoItem bytes = (fault : FrameError) × (item_in bytes ≡ Err fault) × (error_of fault ≡ BadFrame)

-- What a call that waits for an item did, by its answer.
abbrev pub Processes : Connection → Connection → Result Item ClientError → Type 0
Processes old new (Ok item) = TakesItem old new item
Processes old new (Err BadParam) = ⊥
Processes old new (Err PeerFault) = Stops old new new.source_faults × Rose old.source_faults new.source_faults
Processes old new (Err Ended) = ((old.over ≡ true) × (new ≡ old)) ⊎ (Stops old new old.source_faults × Told old.left (λ bytes. item_in bytes ≡ Ok None))
Processes old new (Err BadFrame) = Stops old new old.source_faults × Told old.left IsNoItem
Processes old new (Err NoMemory) = Stops old new old.source_faults
