-- Why a script stops, and the status of the program then.
use Rattle.std.specs.Prelude.{ℕ, Result, Ok, Err}
use Rattle.mdns_hub.specs.declared.error.HubError.{HubError}
use Rattle.mdns_hub.specs.declared.error.HubError.TheVariants as hub
use Rattle.mdns_play.specs.declared.stop.Stop.{Stop}
use Rattle.mdns_play.specs.declared.stop.Stop.TheVariants as stop

-- the status of the program
abbrev pub status_of : {T : Type 0} → Result T Stop → ℕ
status_of (Ok done) = 0
status_of (Err stop.BadLine) = 3
status_of (Err stop.WriteFault) = 5
status_of (Err stop.NoMemory) = 6

-- why a command that was refused stops the script
abbrev pub stop_of : HubError → Stop
stop_of hub.BadCommand = stop.BadLine
stop_of hub.WriteFault = stop.WriteFault
stop_of hub.NoMemory = stop.NoMemory
