use Rattle.std.proofs.Common.{◌≡◌, ◌≤◌, take, drop, vec_len, vec_capacity}
use Rattle.std.specs.Option.{option_map}
use Rattle.sd_sessions.specs.Kept.{queued}
use Rattle.sd_sessions.proofs.settle.take_items.Given as goal

abbrev pub invariant-loop-place : goal.invariant-loop-place
invariant-loop-place l = record {
  taken : l.taken.items ≡ take l._place (queued l.initial.outbox.items);
  left : l.outbox.items ≡ option_map (drop l._place) l.initial.outbox.items;
  len : vec_len l.taken ≤ l._place;
  room : l.max ≤ vec_capacity l.taken;
}
