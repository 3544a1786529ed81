-- How files in memory are set up: how much a call gives, and which calls fail.
use Rattle.std.specs.Prelude.{ℕ, List}
use Rattle.fz_base.specs.declared.memory_files.MemFiles.{MemFiles}

-- the most bytes that a call gives
abbrev pub step_of : MemFiles → ℕ
step_of files = files.step

-- the numbers, from 1, of the calls that fail
abbrev pub failing : MemFiles → List ℕ
failing files = files.fail.items

-- how many calls there were
abbrev pub calls_of : MemFiles → ℕ
calls_of files = files.calls
