-- How an asker keeps its questions: in strict order, and with the moment of each.
use Rattle.std.specs.Prelude.{◌≡◌, ℕ, ◌-◌, ◌<◌, ◌≤◌, true, List, map, length, slice_index_or, slice_set}
use Rattle.std.specs.List.{AllByRecursion}
use Rattle.std.specs.declared.cmp.Ordering.TheVariants.{Less, Equal, Greater}
use Rattle.dns_record.specs.declared.record.Key.{Key}
use Rattle.dns_record.specs.Records.{key_cmp}
use Rattle.mdns_timer.specs.Strict.{IsStrict}
use Rattle.mdns_question.specs.declared.tracked.Tracked.{Tracked}
use Rattle.mdns_question.specs.Tracking.{tracked_cmp, is_used, one_more}
use Rattle.mdns_question.specs.Refreshing.{moment_of}

-- The questions are in strict order, each has a user, and the moments are those at which they are due.
pub record IsArranged (questions : List Tracked) (moments : List ℕ) : Type 0 where
  pub order : IsStrict tracked_cmp questions
  pub used : AllByRecursion (λ one. is_used one ≡ true) questions
  pub timed : moments ≡ map moment_of questions

-- the question stands at a place
pub record IsAt (questions : List Tracked) (question : Key) (place : ℕ) : Type 0 where
  pub within : place < length questions
  pub same : (d : Tracked) → key_cmp (slice_index_or questions place d).key question ≡ Equal

-- the question isn't there, and would stand at a place
pub record IsBetween (questions : List Tracked) (question : Key) (place : ℕ) : Type 0 where
  pub within : place ≤ length questions
  pub less : (k : ℕ) (d : Tracked) → k < place → key_cmp (slice_index_or questions k d).key question ≡ Less
  pub more : (k : ℕ) (d : Tracked) → place ≤ k → k < length questions → key_cmp (slice_index_or questions k d).key question ≡ Greater

-- the question at a place was changed, and no other
abbrev pub IsChangedAt : (Tracked → Tracked) → ℕ → List Tracked → List Tracked → Type 0
IsChangedAt change place before after = (one : Tracked) → one ≡ slice_index_or before place one → after ≡ slice_set before place (change one)

-- a question with one user more, and with one less
abbrev pub with_more : Tracked → Tracked
with_more one = record one { users = one_more one.users }

abbrev pub with_less : Tracked → Tracked
with_less one = record one { users = one.users - 1 }
