-- Bytes, and readers of bytes.
use Rattle.std.specs.Prelude.{ℕ, ◌<◌, List, Option}
use Rattle.std.specs.List.{AllByRecursion}
use Rattle.exact_reading.specs.declared.stop.Stop.{Stop}
use Rattle.exact_reading.specs.Reading.{Read}
use Rattle.exact_reading.specs.Exact.{OneItem}

abbrev pub IsByte : ℕ → Type 0
IsByte b = b < 256

abbrev pub AreBytes : List ℕ → Type 0
AreBytes bs = AllByRecursion IsByte bs

abbrev pub ByteReader : Type 0 → Type 0
ByteReader A = Read ℕ A Stop

-- a byte that has a meaning
abbrev pub OneByte : {A : Type 0} → (ℕ → Option A) → A → List ℕ → Type 0
OneByte f = OneItem IsByte f
