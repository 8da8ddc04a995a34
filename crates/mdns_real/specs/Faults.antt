-- The faults of an ear, and of what starts threads.
use Rattle.std.specs.Prelude.{ℕ}
use Rattle.mdns_real.specs.declared.relay.RelayEar.{RelayEar}
use Rattle.mdns_real.specs.declared.threads.RealSpawner.{RealSpawner}

-- how often an ear failed
abbrev pub ear_faults : {R : Type 0} → RelayEar R → ℕ
ear_faults ear = ear.faults

-- how often what starts threads failed
abbrev pub spawner_faults : {R : Type 0} → RealSpawner R → ℕ
spawner_faults spawner = spawner.faults
