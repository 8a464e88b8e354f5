-- What a sink in memory shows of itself.
use Rattle.std.specs.Prelude.{ℕ, List, Some}
use Rattle.sf_io.specs.Outside.{SinkSeen}
use Rattle.sf_io.specs.declared.memory.MemSink.{MemSink}

-- the bytes taken so far
abbrev pub mem_taken : MemSink → List ℕ
mem_taken s = s.taken.items

-- the numbers of the calls that are to fail
abbrev pub sink_failing : MemSink → List ℕ
sink_failing s = s.failing.items

-- how many puts were made, up to the end of u64
abbrev pub sink_calls : MemSink → ℕ
sink_calls s = s.calls

-- how many puts have failed, up to the end of u64
abbrev pub sink_faults : MemSink → ℕ
sink_faults s = s.faults

-- what is seen of a sink in memory: all that it took, and how many puts have failed
abbrev pub sink_seen : MemSink → SinkSeen
sink_seen s = record { taken = Some (mem_taken s); faults = sink_faults s }
