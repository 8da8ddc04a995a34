-- How a server ends.
use Rattle.std.specs.Prelude.{◌≡◌, ◌≢◌, ◌⊎◌, ◌≤◌, ◌<◌, ◌-◌, ◌^◌, ℕ, zero, suc, min, Bool, true, false, List, Option, Some, None, codes, if◌then◌else◌}
use Rattle.mdns_base.specs.Outside.{Rose}
use Rattle.mdns_outside.specs.Places.{Counted, risen, counting}
use Rattle.mdns_server.specs.declared.status.Stop.{Stop}
use Rattle.mdns_server.specs.declared.status.Stop.TheVariants.{Over, Door, Spawner, Link, Ear}

-- the line that says that connections are accepted
abbrev pub serving_line : List ℕ
serving_line = codes "serving\n"

-- a count didn't fall, but for what a count may be at most
abbrev pub Stays : ℕ → ℕ → Type 0
Stays before now = min before (2 ^ 64 - 1) ≤ now

-- Nothing of a place changed but its count of faults of the link, which didn't fall.
abbrev pub MayFault : Counted → Counted → Type 0
MayFault old new = (n : ℕ) × (new ≡ record old { link_faults = n }) × Stays old.link_faults n

-- Nothing of a place changed but what it tells of the connections that its doors gave.
abbrev pub StaysCounted : Counted → Counted → Type 0
StaysCounted old new = (n : Option ℕ) × (new ≡ record old { given = n })

-- A door and a spawner with these faults were taken back, the door over or not.
pub record TakesBack (old new : Counted) (door : ℕ) (over : Bool) (spawner : ℕ) : Type 0 where
  pub doors_over : new.doors_over ≡ (if over then risen old.doors_over else old.doors_over)
  pub door_faults : new.door_faults ≡ counting old.door_faults door
  pub spawner_faults : new.spawner_faults ≡ counting old.spawner_faults spawner

-- What a status says of the counts of a place. The plan stays. Each count rises where the status tells it. It is as before where the status is
-- another, but that beside a fault of the door or of the spawner the link may have failed, too, and beside one of the link the door may be over.
pub record Ends (old new : Counted) (status : ℕ) : Type 0 where
  pub plan : new.plan ≡ old.plan
  -- the door gave its last connection
  pub over : status ≡ 0 → Rose old.doors_over new.doors_over
  pub not_over : status ≢ 0 → status ≢ 11 → new.doors_over ≡ old.doors_over
  pub door : status ≡ 9 → Rose old.door_faults new.door_faults
  pub no_door : status ≢ 9 → new.door_faults ≡ old.door_faults
  pub spawner : status ≡ 10 → Rose old.spawner_faults new.spawner_faults
  pub no_spawner : status ≢ 10 → new.spawner_faults ≡ old.spawner_faults
  pub link : status ≡ 11 → Rose old.link_faults new.link_faults
  pub no_link : status ≢ 9 → status ≢ 10 → status ≢ 11 → new.link_faults ≡ old.link_faults

-- whether a status is that of a server that has done all
abbrev pub is_done : ℕ → Bool
is_done zero = true
is_done (suc status) = false

-- the statuses of a server
abbrev pub IsServeStatus : ℕ → Type 0
IsServeStatus status = (status ≡ 0) ⊎ (status ≡ 5) ⊎ (status ≡ 6) ⊎ (status ≡ 9) ⊎ (status ≡ 10) ⊎ (status ≡ 11)

-- whether there are as many sessions opened as connections were given
abbrev pub is_whole : {E : Type 0} → Option (Stop E) → Bool
is_whole None = true
is_whole (Some Over) = true
is_whole (Some _) = false

-- Why no more is accepted, by the faults of an ear, whether the door is over, and the faults of the door and of the spawner.
abbrev pub HasStopped : {E : Type 0} → (E → ℕ) → Bool → ℕ → ℕ → Stop E → Type 0
HasStopped faults over door spawner Over = over ≡ true
HasStopped faults over door spawner Door = 0 < door
HasStopped faults over door spawner Spawner = 0 < spawner
HasStopped faults over door spawner Link = Unit {0}
HasStopped faults over door spawner (Ear ear) = 0 < faults ear

-- the status of a server that stopped, but for the ear's
abbrev pub stop_status : {E : Type 0} → Stop E → ℕ
stop_status Over = 0
stop_status Door = 9
stop_status Spawner = 10
stop_status Link = 11
stop_status (Ear ear) = 0

-- whether it was the ear that failed
abbrev pub is_ear : {E : Type 0} → Stop E → Bool
is_ear (Ear ear) = true
is_ear _ = false

-- the statuses once connections could be accepted
abbrev pub IsLoopStatus : ℕ → Type 0
IsLoopStatus status = (status ≡ 0) ⊎ (status ≡ 9) ⊎ (status ≡ 10) ⊎ (status ≡ 11)

-- the statuses where a part couldn't be made
abbrev pub IsPartFault : ℕ → Type 0
IsPartFault status = (status ≡ 9) ⊎ (status ≡ 10) ⊎ (status ≡ 11)
