-- What files hold, and what a read of a named file answers.
use Rattle.std.specs.Prelude.{◌≡◌, ◌↔◌, ◌∷◌, [], if◌then◌else◌, ℕ, ◌<◌, ◌≤◌, List, length, take, drop, ⊤}
use Rattle.std.specs.Prelude.{None, Some, Option, Result, Ok, Err, IsSomeAnd, String, string_bytes}
use Rattle.std.specs.Global.{Global, Vec}
use Rattle.std.specs.Str.{bytes_eq}
use Rattle.fz_base.specs.declared.files.FileFault.{FileFault}
use Rattle.fz_base.specs.declared.files.FileFault.TheVariants.{Missing, Failed}

-- what is held under each name
abbrev pub Held : Type 0
Held = List ℕ → Option (List ℕ)

-- what a list of names and bytes holds under a name: the first that has it
abbrev pub held_in : List (List ℕ × List ℕ) → Held
held_in [] name = None
held_in (e ∷ es) name = if bytes_eq e.0 name then Some e.1 else held_in es name

-- the names and bytes of files that are kept in a list
abbrev pub entries_of : List (String Global × Vec ℕ) → List (List ℕ × List ℕ)
entries_of [] = []
entries_of (e ∷ es) = (string_bytes e.0, e.1.items) ∷ entries_of es

-- what a read answers, where `file` is held under the name; the buffer is `into` afterwards
abbrev pub ReadsFrom : Option (List ℕ) → ℕ → Result ℕ FileFault → List ℕ → Type 0
ReadsFrom file at (Ok n) into = IsSomeAnd file (λ bytes.
    (take n into ≡ take n (drop at bytes)) × (0 < length into → (n ≡ 0) ↔ (length bytes ≤ at)))
ReadsFrom file at (Err Missing) into = file ≡ None
ReadsFrom file at (Err Failed) into = ⊤

-- how many bytes a read gave
abbrev pub taken : Result ℕ FileFault → ℕ
taken (Ok n) = n
taken (Err _) = 0
