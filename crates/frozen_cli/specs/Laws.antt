-- The laws of what was frozen, and of runs in memory.
use Rattle.std.specs.Prelude.{◌≡◌, ◌⊎◌, ◌<◌, ◌≤◌, ℕ, List, length, Option, Some, IfSome, Result, Ok, Err}
use Rattle.fz_base.specs.Files.{Held}
use Rattle.idl_profile.specs.Types.{Named, root_of}
use Rattle.frozen_model.specs.Values.{Value}
use Rattle.compact_wire.specs.Canon.{canon}
use Rattle.compact_codec.specs.Wire.{wire}
use Rattle.frozen_cli.specs.declared.refusal.Refusal.{Refusal}
use Rattle.frozen_cli.specs.Changes.{Seen, Sent}
use Rattle.frozen_cli.specs.Run.{Replies}
use Rattle.frozen_cli.specs.Refusal.{IsUnreadable}
use Rattle.frozen_cli.specs.Reply.{FormGives, FreezeGives, DefinitionIn, ValueIn, thaw}

-- this output, or the refusal that a file cannot be read
abbrev pub WritesIfRead : List ℕ → Result (List ℕ) Refusal → Type 0
WritesIfRead out (Ok written) = written ≡ out
WritesIfRead out (Err r) = IsUnreadable r

-- the bytes that `freeze` gave of a definition and a value, kept in a file: `thaw` of the file under the same
-- definition gives the canonical spelling of the value
pub record ThawsAgain (held : Held) (def value file : List ℕ) : Type 0 where
  pub definition : List Named
  pub frozen : Value
  pub means : DefinitionIn (held def) (Ok definition)
  pub spelled : ValueIn definition (held value) (Ok frozen)
  pub gives : FormGives held (thaw def file) (Ok (canon (wire (root_of definition) frozen)))
  pub only : (r : Result (List ℕ) Refusal) → FormGives held (thaw def file) r
      → WritesIfRead (canon (wire (root_of definition) frozen)) r

-- it is so of all files and of each definition and value that `freeze` takes
abbrev pub FrozenThaws : Type 0
FrozenThaws = (held : Held) (def value file bytes : List ℕ) → FreezeGives held def value (Ok bytes)
    → held file ≡ Some bytes → ThawsAgain held def value file

-- a sink that takes so many bytes in all has not taken as many
abbrev pub HasRoom : Option (List ℕ) → ℕ → Type 0
HasRoom written room = IfSome written (λ bytes. length bytes < room)

-- the run ended with the reply, at its status from 0 to 4, or there was not enough memory
abbrev pub IsReplied : List (List ℕ) → Seen → Sent → Sent → ℕ → Type 0
IsReplied words files out err status =
    IfSome files.held (λ held. (status ≡ 6) ⊎ ((status ≤ 4) × Replies words held status out err))
