-- What a command that was broken off had done, and when a sink failed.
use Rattle.std.specs.Prelude.{◌≡◌, ◌≢◌, ◌⊎◌, ℕ, ◌≤◌, Result, Err, false}
use Rattle.mdns_base.specs.Outside.{Rose}
use Rattle.mdns_script.specs.declared.command.Command.{Command}
use Rattle.mdns_script.specs.declared.command.Command.TheVariants.{At}
use Rattle.mdns_hub.specs.declared.error.HubError.{HubError}
use Rattle.mdns_hub.specs.declared.error.HubError.TheVariants.{WriteFault}
use Rattle.mdns_hub.specs.Played.{Played}
use Rattle.mdns_hub.specs.Plays.{is_bad, AreSomeDone, Does}

-- the count has risen where a write failed, and is as before where none did
pub record HasWriteCause {T : Type 0} (before now : ℕ) (result : Result T HubError) : Type 0 where
  pub later : before ≤ now
  pub failed : result ≡ Err WriteFault → Rose before now
  pub quiet : result ≢ Err WriteFault → now ≡ before

-- a step was done, or nothing
abbrev pub OrNothing : (Played → Played → Type 0) → Played → Played → Type 0
OrNothing Step before after = Step before after ⊎ (after ≡ before)

-- What a command that was broken off had done: all of it or nothing, and of what was due a part.
abbrev pub DoesPart : Command → Played → Played → Type 0
DoesPart (At until) before after = AreSomeDone until before after
DoesPart command before after = OrNothing (Does command) before after

-- What a command that was broken off had played: nothing, or where it isn't bad a part.
abbrev pub PlaysPart : Command → Played → Played → Type 0
PlaysPart command before after = (after ≡ before) ⊎ ((is_bad before command ≡ false) × DoesPart command before after)
