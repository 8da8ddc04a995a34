-- How a run ends, and its status.
use Rattle.std.specs.Prelude.{ℕ}
use Rattle.sd_client.specs.declared.error.ClientError.{ClientError}
use Rattle.sd_client.specs.declared.error.ClientError.TheVariants as client
use Rattle.sd_command.specs.declared.ending.Ending.{Ending}
use Rattle.sd_command.specs.declared.ending.Ending.TheVariants.{Done, Usage, PeerFault, Refused, Ended, WriteFault, NoMemory, BadFrame, TooMany}

-- the status of the program
abbrev pub status_of : Ending → ℕ
status_of Done = 0
status_of Usage = 1
status_of PeerFault = 2
status_of Refused = 3
status_of Ended = 4
status_of WriteFault = 5
status_of NoMemory = 6
status_of BadFrame = 7
status_of TooMany = 8

-- how a run ends by an error of the client
abbrev pub ending_of : ClientError → Ending
ending_of client.BadParam = Usage
ending_of client.PeerFault = PeerFault
ending_of client.Ended = Ended
ending_of client.BadFrame = BadFrame
ending_of client.NoMemory = NoMemory
