-- What a source and a sink in memory have left and hold, and which of their calls fail.
use Rattle.std.specs.Prelude.{ℕ, ◌+◌, ◌-◌, ◌^◌, min, List, drop}
use Rattle.mdns_base.specs.declared.memory.MemSource.{MemSource}
use Rattle.mdns_base.specs.declared.memory.MemSink.{MemSink}

-- the bytes that a source has left
abbrev pub source_left : MemSource → List ℕ
source_left source = drop source.taken source.bytes.items

-- the numbers of the calls of a source that fail
abbrev pub source_failing : MemSource → List ℕ
source_failing source = source.failing.items

-- how many calls a source has had
abbrev pub source_calls : MemSource → ℕ
source_calls source = source.calls

-- how often a source has failed
abbrev pub source_faults : MemSource → ℕ
source_faults source = source.faults

-- what was put into a sink
abbrev pub sink_held : MemSink → List ℕ
sink_held sink = sink.bytes.items

-- the numbers of the calls of a sink that fail
abbrev pub sink_failing : MemSink → List ℕ
sink_failing sink = sink.failing.items

-- how many pieces a sink was given
abbrev pub sink_calls : MemSink → ℕ
sink_calls sink = sink.calls

-- how often a sink has failed
abbrev pub sink_faults : MemSink → ℕ
sink_faults sink = sink.faults

-- the number of the next call; it stays at its last value
abbrev pub next_call : ℕ → ℕ
next_call calls = min (calls + 1) (2 ^ 64 - 1)
