use Rattle.std.proofs.Common.{◌≡◌, ◌++◌, drop}
use Rattle.std.specs.List.{flat_map}
use Rattle.mdns_history.specs.Sending.{reply_at}
use Rattle.plain_sending.proofs.replies.replies_at.Given as goal

abbrev pub invariant-loop-place : goal.invariant-loop-place
invariant-loop-place l = l.sent.items ++ flat_map (reply_at l.history l.due) (drop l.place-index l.places) ≡ flat_map (reply_at l.history l.due) l.places
