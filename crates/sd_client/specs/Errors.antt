-- Why nothing could be read, as an error of a client.
use Rattle.sd_ipc.specs.declared.error.FrameError.{FrameError}
use Rattle.sd_ipc.specs.declared.error.FrameError.TheVariants as frame
use Rattle.sd_client.specs.declared.error.ClientError.{ClientError}
use Rattle.sd_client.specs.declared.error.ClientError.TheVariants as client

-- why nothing was read: the source failed, memory was refused, or the bytes are no item
abbrev pub error_of : FrameError → ClientError
error_of frame.ReadFault = client.PeerFault
error_of frame.NoMemory = client.NoMemory
error_of frame.BadLength = client.BadFrame
error_of frame.BadKind = client.BadFrame
error_of frame.BadBody = client.BadFrame
error_of frame.Truncated = client.BadFrame
