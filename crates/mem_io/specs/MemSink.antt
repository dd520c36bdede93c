-- What a sink in memory shows.
use Rattle.std.specs.Prelude.{ℕ, Bool, List}
use Rattle.mem_io.specs.declared.calls.Calls.{Calls}
use Rattle.mem_io.specs.declared.mem_sink.MemSink.{MemSink}
use Rattle.mem_io.specs.Calls.{is_calm}

-- the bytes taken so far
abbrev pub sink_bytes : MemSink → List ℕ
sink_bytes s = s.bytes.items

-- how often a write failed
abbrev pub sink_faults : MemSink → ℕ
sink_faults s = s.faults

-- the number of the next write, and those that fail
abbrev pub sink_calls : MemSink → Calls
sink_calls s = s.calls

-- no write from the next on is among those that fail
abbrev pub sink_is_steady : MemSink → Bool
sink_is_steady s = is_calm s.calls.fails.items s.calls.next
