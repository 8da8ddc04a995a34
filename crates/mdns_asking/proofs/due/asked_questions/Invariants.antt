use Rattle.std.proofs.Common.{◌≡◌, ◌≤◌, length, take}
use Rattle.std.specs.List.{filter_map}
use Rattle.mdns_happened.specs.Told.{told_by}
use Rattle.mdns_asking.proofs.Picked.{AreLeft, asked_with}
use Rattle.mdns_asking.proofs.due.asked_questions.Given as goal

abbrev pub invariant-loop-place : goal.invariant-loop-place
invariant-loop-place l = record {
  within : l.from ≤ length l.questions;
  rest : AreLeft l.place-items (length l.questions) l.place-index l.from;
  asked : l.asked.items ≡ filter_map (asked_with (told_by l.happened) l.when.moment l.walks) (take l.from l.questions);
}
