use Rattle.std.proofs.Common.{◌≡◌, take}
use Rattle.sd_sessions.specs.Kept.{sessions_of, HaveRoom}
use Rattle.sd_sessions.proofs.settle.make_room.Given as goal

abbrev pub invariant-loop-place : goal.invariant-loop-place
invariant-loop-place l = record {
  same : sessions_of l.sessions ≡ sessions_of l.initial.sessions;
  room : HaveRoom (take l.place l.sessions) l.changes;
}
