-- What the sink and the air that note what they are given hold and were handed.
use Rattle.std.specs.Prelude.{ℕ, List, Option}
use Rattle.mdns_base.specs.Memory.{sink_held, sink_faults}
use Rattle.mdns_outside.specs.Parts.{Handed}
use Rattle.mdns_outside.specs.Fakes.{air_handed, air_faults}
use Rattle.mdns_outside.specs.declared.noted.NotedSink.{NotedSink}
use Rattle.mdns_outside.specs.declared.noted.NotedAir.{NotedAir}

-- what was put
abbrev pub noted_held : {R : Type 0} → NotedSink R → List ℕ
noted_held sink = sink_held sink.inner

-- how often a sink failed
abbrev pub noted_sink_faults : {R : Type 0} → NotedSink R → ℕ
noted_sink_faults sink = sink_faults sink.inner

-- what was handed over, where the air tells that
abbrev pub noted_handed : {R : Type 0} → NotedAir R → Option (List Handed)
noted_handed air = air_handed air.inner

-- how often an air failed
abbrev pub noted_air_faults : {R : Type 0} → NotedAir R → ℕ
noted_air_faults air = air_faults air.inner
