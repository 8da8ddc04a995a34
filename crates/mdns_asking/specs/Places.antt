-- Places of questions, counted from 0, as they are put behind others.
use Rattle.std.specs.Prelude.{◌≡◌, ◌⊎◌, ℕ, ◌<◌, Bool, true, ◌&&◌, ◌||◌, List, length, slice_index_or}
use Rattle.std.specs.List.{Contains}
use Rattle.mdns_happened.specs.declared.walk.Walk.{Walk}
use Rattle.mdns_happened.specs.Told.{Told}
use Rattle.mdns_happened.specs.Walks.{is_walked}
use Rattle.mdns_question.specs.declared.tracked.Tracked.{Tracked}
use Rattle.mdns_asking.specs.Walked.{may_be_asked}

-- A place is that of a question that passes a test.
pub record IsPlaceOf (test : Tracked → Bool) (questions : List Tracked) (place : ℕ) : Type 0 where
  pub within : place < length questions
  pub passes : (d : Tracked) → test (slice_index_or questions place d) ≡ true

-- The places of the questions that pass a test were put to others, in whatever order, each maybe more than once, and no more was put.
pub record ArePut (test : Tracked → Bool) (questions : List Tracked) (before after : List ℕ) : Type 0 where
  pub kept : (place : ℕ) → Contains before place → Contains after place
  pub put : (place : ℕ) → IsPlaceOf test questions place → Contains after place
  pub only : (place : ℕ) → Contains after place → Contains before place ⊎ IsPlaceOf test questions place

-- by an event a question may be asked: by what is kept of it, or, once time has passed, by the walk of its name
abbrev pub is_near : Told → ℕ → List Walk → Tracked → Bool
is_near told moment walks one = may_be_asked told moment one || (told.ticks && is_walked walks one.key.name)
