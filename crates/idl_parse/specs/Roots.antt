-- The last struct of a definition by its number.
use Rattle.std.specs.Prelude.{ℕ, ◌+◌, if◌then◌else◌, List, [], ◌∷◌}
use Rattle.idl_fields.specs.declared.draft.DraftNamed.{DraftNamed}
use Rattle.idl_parse.specs.Drafts.{is_struct}

-- the last struct among these, which are numbered from i; last where there is none
abbrev pub last_place : ℕ → ℕ → List DraftNamed → ℕ
last_place i last [] = last
last_place i last (x ∷ xs) = last_place (i + 1) (if is_struct x then i else last) xs
