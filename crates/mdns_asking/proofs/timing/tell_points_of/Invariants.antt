use Rattle.std.proofs.Common.{◌≡◌, ℕ, ◌<◌, ◌≤◌, length, get_or}
use Rattle.mdns_question.specs.declared.tracked.Tracked.{Tracked}
use Rattle.mdns_asking.specs.Timed.{timed}
use Rattle.mdns_asking.proofs.timing.tell_points_of.Given as goal

abbrev pub invariant-loop-place : goal.invariant-loop-place
invariant-loop-place l = record {
  len : length l.asker.questions ≡ length l.initial.asker.questions;
  told : (k : ℕ) (d : Tracked) → l.first ≤ k → k < l.place → get_or l.asker.questions k d ≡ timed l.walk.later.items (get_or l.initial.asker.questions k d);
  before : (k : ℕ) (d : Tracked) → k < l.first → get_or l.asker.questions k d ≡ get_or l.initial.asker.questions k d;
  behind : (k : ℕ) (d : Tracked) → l.place ≤ k → get_or l.asker.questions k d ≡ get_or l.initial.asker.questions k d;
}
