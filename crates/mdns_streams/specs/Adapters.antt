-- What the adapters stand over, and how often they failed.
use Rattle.std.specs.Prelude.{ℕ}
use Rattle.mdns_streams.specs.declared.adapters.Input.{Input}
use Rattle.mdns_streams.specs.declared.adapters.Output.{Output}
use Rattle.mdns_streams.specs.declared.connection.StreamSink.{StreamSink}

-- the reader of a source
abbrev pub input_over : {R : Type 0} → Input R → R
input_over input = input.inner

-- how often a read failed
abbrev pub input_faults : {R : Type 0} → Input R → ℕ
input_faults input = input.faults

-- the writer of a sink
abbrev pub output_over : {W : Type 0} → Output W → W
output_over output = output.inner

-- how often a write failed
abbrev pub output_faults : {W : Type 0} → Output W → ℕ
output_faults output = output.faults

-- the same of what is said over a connection
abbrev pub stream_faults : StreamSink → ℕ
stream_faults sink = sink.output.faults
