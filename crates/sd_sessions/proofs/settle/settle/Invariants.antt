use Rattle.std.proofs.Common.{◌≡◌, ◌≤◌, length, vec_len}
use Rattle.sd_sessions.specs.Settling.{all_settled}
use Rattle.sd_sessions.specs.Kept.{sessions_of, HaveRoom, AreFit}
use Rattle.sd_sessions.proofs.settle.settle.Given as goal

abbrev pub invariant-loop-change : goal.invariant-loop-change
invariant-loop-change l = record {
  settled : all_settled (sessions_of l.sessions) l.changes.items ≡ all_settled (sessions_of l.initial.sessions) l.initial.changes.items;
  room : HaveRoom l.sessions l.changes.items;
  fit : AreFit (sessions_of l.sessions) l.changes.items;
  within : vec_len l.changes ≤ length l.sessions;
}

abbrev pub decreases-loop-change : goal.decreases-loop-change
decreases-loop-change l = vec_len l.changes
