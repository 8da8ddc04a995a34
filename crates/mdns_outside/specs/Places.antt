-- What a place counts.
use Rattle.std.specs.Prelude.{◌≡◌, ℕ, ◌+◌, ◌-◌, ◌^◌, ◌==◌, min, Bool, Option, Some, Result, if◌then◌else◌}
use Rattle.mdns_base.specs.Outside.{HasCause}
use Rattle.mdns_outside.specs.declared.plan.ServePlan.{ServePlan}

-- what contracts see of a place
pub record Counted : Type 0 where
  pub plan : Option ServePlan
  pub door_faults : ℕ
  pub spawner_faults : ℕ
  pub link_faults : ℕ
  pub doors_over : ℕ
  pub given : Option ℕ

-- a count that has risen stands at its last value
abbrev pub risen : ℕ → ℕ
risen count = min (count + 1) (2 ^ 64 - 1)

-- a part was made; only the count of the link may have risen, and it has where none was made
abbrev pub MakesLink : {T E : Type 0} → Counted → Counted → Result T E → Type 0
MakesLink old new result = (n : ℕ) × (new ≡ record old { link_faults = n }) × HasCause old.link_faults n result

-- the same of a door
abbrev pub MakesDoor : {T E : Type 0} → Counted → Counted → Result T E → Type 0
MakesDoor old new result = (n : ℕ) × (new ≡ record old { door_faults = n }) × HasCause old.door_faults n result

-- the same of a spawner
abbrev pub MakesSpawner : {T E : Type 0} → Counted → Counted → Result T E → Type 0
MakesSpawner old new result = (n : ℕ) × (new ≡ record old { spawner_faults = n }) × HasCause old.spawner_faults n result

-- a count that rises exactly where a part had a fault
abbrev pub counting : ℕ → ℕ → ℕ
counting count faults = if faults == 0 then count else risen count

-- what is told now is what was told before and what a door tells, together
pub record Adds (old new : Option ℕ) (door : Option ℕ) : Type 0 where
  pub told : (now : ℕ) → new ≡ Some now → (before : ℕ) × (given : ℕ) × (old ≡ Some before) × (door ≡ Some given) × (now ≡ before + given)

-- a door was taken back
abbrev pub TakesDoor : Counted → Counted → ℕ → Bool → Option ℕ → Type 0
TakesDoor old new faults over given =
    (n : Option ℕ) × (new ≡ record old { door_faults = counting old.door_faults faults; doors_over = if over then risen old.doors_over else old.doors_over; given = n }) × Adds old.given n given

-- a spawner was taken back
abbrev pub TakesSpawner : Counted → Counted → ℕ → Type 0
TakesSpawner old new faults = new ≡ record old { spawner_faults = counting old.spawner_faults faults }

-- an ear was taken back
abbrev pub TakesEar : Counted → Counted → ℕ → Type 0
TakesEar old new faults = new ≡ record old { link_faults = counting old.link_faults faults }
