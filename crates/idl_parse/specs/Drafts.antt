-- What holds of the enums and structs of a definition.
use Rattle.std.specs.Prelude.{ℕ, zero, suc, ◌^◌, Bool, true, false, ◌&&◌, nat_lt, int_lt, List, [], ◌∷◌, length}
use Rattle.std.specs.List.{list_all}
use Rattle.idl_fields.specs.declared.draft.DraftField.{DraftField}
use Rattle.idl_fields.specs.declared.draft.DraftNamed.{DraftNamed}
use Rattle.idl_fields.specs.declared.draft.DraftNamed.TheVariants as n

abbrev pub is_struct : DraftNamed → Bool
is_struct (n.Struct w fs) = true
is_struct (n.Enum w ms) = false

-- the fields of a struct; an enum has none
abbrev pub draft_fields : DraftNamed → List DraftField
draft_fields (n.Struct w fs) = fs.items
draft_fields (n.Enum w ms) = []

-- the fields of the struct with this number
abbrev pub fields_at : List DraftNamed → ℕ → List DraftField
fields_at [] k = []
fields_at (x ∷ xs) zero = draft_fields x
fields_at (x ∷ xs) (suc k) = fields_at xs k

-- its fields are counted by 32 bits
abbrev pub has_few : DraftNamed → Bool
has_few (n.Struct w fs) = nat_lt (length fs.items) (2 ^ 32)
has_few (n.Enum w ms) = true

-- each id is less than those of the fields behind
abbrev pub rising : List DraftField → Bool
rising [] = true
rising (f ∷ fs) = list_all (λ g. int_lt f.id.id g.id.id) fs && rising fs

abbrev pub has_rising : DraftNamed → Bool
has_rising (n.Struct w fs) = rising fs.items
has_rising (n.Enum w ms) = true
