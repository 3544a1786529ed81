-- What a write to a sink does to the bytes that are told.
use Rattle.std.specs.Prelude.{◌≡◌, ℕ, ◌<◌, ◌≤◌, List, length, take, Option, Result, Ok, Err}
use Rattle.std.specs.Io.KnownBytes.{Appends, Keeps}
use Rattle.fz_base.specs.declared.sinks.SinkFault.{SinkFault}

-- what a write of a piece answers
abbrev pub WritesSome : Option (List ℕ) → Option (List ℕ) → Result ℕ SinkFault → List ℕ → Type 0
WritesSome old new (Ok n) piece = (n ≤ length piece) × (0 < length piece → 0 < n) × Appends old new (take n piece)
WritesSome old new (Err _) piece = (0 < length piece) × Keeps old new

-- p is the beginning of xs, and not all of it
abbrev pub IsProperPrefix : List ℕ → List ℕ → Type 0
IsProperPrefix p xs = (n : ℕ) × (n < length xs) × (p ≡ take n xs)

-- where the bytes are told, a proper prefix of `bytes` was appended
abbrev pub AppendsPart : Option (List ℕ) → Option (List ℕ) → List ℕ → Type 0
AppendsPart old new bytes = (p : List ℕ) × IsProperPrefix p bytes × Appends old new p
