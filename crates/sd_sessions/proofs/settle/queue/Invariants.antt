use Rattle.std.proofs.Common.{◌≡◌, ◌≤◌, reverse, vec_len}
use Rattle.sd_sessions.specs.Kept.{joined}
use Rattle.sd_sessions.proofs.settle.queue.Given as goal

abbrev pub invariant-loop-item : goal.invariant-loop-item
invariant-loop-item l = record {
  joined : joined l.outbox.items (reverse l.rest.items) ≡ joined l.initial.outbox.items (reverse l.initial.rest.items);
  room : vec_len l.rest ≤ l.outbox.spare;
}

abbrev pub decreases-loop-item : goal.decreases-loop-item
decreases-loop-item l = vec_len l.rest
