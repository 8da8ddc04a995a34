-- What a run does to the plug and to the output, by its ending.
use Rattle.std.specs.Prelude.{◌≡◌, ◌≢◌, ◌⊎◌, ℕ, List, [], take, drop, Option, Some, None}
use Rattle.std.specs.Io.KnownBytes.{Appends}
use Rattle.std.specs.List.{concat}
use Rattle.mdns_base.specs.Outside.{Rose}
use Rattle.mdns_outside.specs.Plugs.{StaysTold, AddsOne}
use Rattle.sd_ipc.specs.Frames.{request_frame}
use Rattle.sd_command.specs.Commands.{Asked, command_of}
use Rattle.sd_command.specs.Hearing.{Heard}
use Rattle.sd_command.specs.declared.ending.Ending.{Ending}
use Rattle.sd_command.specs.declared.ending.Ending.TheVariants.{Usage, PeerFault, WriteFault, NoMemory}

-- what contracts see of a plug and of an output: the plug's lists and its count of faults; what the output holds, and its count
pub record World : Type 0 where
  pub asked : Option (List (List ℕ))
  pub coming : Option (List (List ℕ))
  pub said : Option (List (List ℕ))
  pub plug_faults : ℕ
  pub held : Option (List ℕ)
  pub output_faults : ℕ

-- The count rose where the run ended so, and is as before where it ended otherwise.
pub record HasRisen {A : Type 0} (ending cause : A) (before now : ℕ) : Type 0 where
  pub rose : ending ≡ cause → Rose before now
  pub quiet : ending ≢ cause → now ≡ before

-- What was said to the daemon: the frame, or a beginning of it where the connection failed or memory was refused.
abbrev pub Says : Ending → List ℕ → Option (List ℕ) → Option (List ℕ) → Type 0
Says PeerFault frame old new = (n : ℕ) × Appends old new (take n frame)
Says NoMemory frame old new = (n : ℕ) × Appends old new (take n frame)
Says ending frame old new = Appends old new frame

-- Nothing was asked: the words are no command, or memory was refused before.
pub record IsUnasked (words : List (List ℕ)) (ending : Ending) (old new : World) : Type 0 where
  pub same : new ≡ old
  pub cause : ((ending ≡ Usage) × (command_of words ≡ None)) ⊎ (ending ≡ NoMemory)

-- The plug found no daemon.
pub record FindsNone (command : Asked) (ending : Ending) (old new : World) : Type 0 where
  pub fault : ending ≡ PeerFault
  pub rose : Rose old.plug_faults new.plug_faults
  pub path : AddsOne old.asked new.asked command.socket
  pub kept : StaysTold old.said new.said
  pub peers : StaysTold old.coming new.coming
  pub output : (new.held ≡ old.held) × (new.output_faults ≡ old.output_faults)

-- The plug connected, once and to the path of the words; the request was said, and what came was printed; then the plug got the connection back.
pub record Talks (command : Asked) (ending : Ending) (old new : World) : Type 0 where
  pub used : ending ≢ Usage
  pub path : AddsOne old.asked new.asked command.socket
  pub spoken : (after : List (List ℕ)) → new.said ≡ Some after →
      (piece : List ℕ) × AddsOne old.said new.said piece × Says ending (request_frame 1 command.request) (Some []) (Some piece)
  pub heard : (after : List (List ℕ)) → new.coming ≡ Some after →
      (before : List (List ℕ)) × (old.coming ≡ Some before) × (after ≡ drop 1 before) × Heard command.count (concat (take 1 before)) ending old.held new.held
  pub plug_cause : HasRisen ending PeerFault old.plug_faults new.plug_faults
  pub output_cause : HasRisen ending WriteFault old.output_faults new.output_faults

-- What a run of words did.
abbrev pub Runs : List (List ℕ) → Ending → World → World → Type 0
Runs words ending old new =
    IsUnasked words ending old new
    ⊎ ((command : Asked) × (command_of words ≡ Some command) × (FindsNone command ending old new ⊎ Talks command ending old new))
