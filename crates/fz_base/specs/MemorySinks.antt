-- How sinks in memory are set up: how much they take in all and in a call, and which calls fail.
use Rattle.std.specs.Prelude.{ℕ, List}
use Rattle.fz_base.specs.declared.memory_sinks.MemSink.{MemSink}
use Rattle.fz_base.specs.declared.memory_sinks.SureSink.{SureSink}

-- the bytes that a sink takes in all
abbrev pub room_of : MemSink → ℕ
room_of sink = sink.room

-- the most bytes that a call takes
abbrev pub step_of : MemSink → ℕ
step_of sink = sink.step

-- the numbers, from 1, of the calls that fail
abbrev pub failing : MemSink → List ℕ
failing sink = sink.fail.items

-- how many calls there were
abbrev pub calls_of : MemSink → ℕ
calls_of sink = sink.calls

-- the bytes that a sure sink takes in all
abbrev pub sure_room : SureSink → ℕ
sure_room sink = sink.room
