use Rattle.std.proofs.Common.{◌≤◌, ◌-◌, is_some, length}
use Rattle.mdns_question.specs.Refreshing.{cause_of}
use Rattle.mdns_asking.proofs.PutPlaces.{ArePutTo}
use Rattle.mdns_asking.proofs.places.Places.put_due.Given as goal

abbrev pub invariant-loop-place : goal.invariant-loop-place
invariant-loop-place l = record {
  within : l.from ≤ length l.asker.questions;
  so_far : ArePutTo (λ one. is_some (cause_of l.now one)) l.asker.questions 0 l.from l.initial.self.places.items l.self.places.items;
}

abbrev pub decreases-loop-place : goal.decreases-loop-place
decreases-loop-place l = length l.asker.questions - l.from
