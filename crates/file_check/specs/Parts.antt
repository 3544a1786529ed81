-- The parts of a file.
use Rattle.std.specs.Prelude.{◌≡◌, ℕ, ◌-◌, List, length, Bool, true, false, ◌&&◌, nat_le, take, Result, Ok}
use Rattle.std.specs.Prelude.{Err}
use Rattle.std.specs.Str.{bytes_eq}
use Rattle.std.specs.Borrow.{Bor}
use Rattle.frozen_model.specs.Files.{magic, schema_length, schema_bytes, content_of}
use Rattle.file_check.specs.declared.fault.OpenFault.{OpenFault}
use Rattle.file_check.specs.declared.fault.OpenFault.TheVariants as fault

-- the bytes begin with a header
abbrev pub has_header : List ℕ → Bool
has_header b = nat_le 8 (length b) && bytes_eq (take 4 b) magic

-- and behind it there are as many bytes as it says of the schema
abbrev pub has_schema : List ℕ → Bool
has_schema b = has_header b && nat_le (schema_length b) (length b - 8)

-- the bytes of the schema and of the content, or what is wrong in front of them
abbrev pub IsParted : List ℕ → Result (Bor (List ℕ) × Bor (List ℕ)) OpenFault → Type 0
IsParted b (Ok p) = (has_schema b ≡ true) × (p.0.now ≡ schema_bytes b) × (p.1.now ≡ content_of b)
IsParted b (Err fault.NotFrozen) = has_header b ≡ false
IsParted b (Err fault.Short) = (has_header b ≡ true) × (has_schema b ≡ false)
IsParted b (Err _) = ⊥
