-- The names and ids that are found in order are those of the fields.
use Rattle.std.specs.Prelude.{◌≡◌, ℕ, ℤ, List}
use Rattle.std.specs.Ordering.{int_eq, int_cmp}
use Rattle.std.specs.List.{list_any}
use Rattle.std.specs.BTreeSet.{contains}
use Rattle.name_index.specs.Names.{Indexes}
use Rattle.idl_profile.specs.Meaning as m
use Rattle.idl_profile.specs.Judged.{field_names, ids}
use Rattle.idl_fields.specs.declared.found.Found.{Found}
use Rattle.idl_fields.specs.View.{written_fields}

pub record IsFound (text : List ℕ) (es : List m.Entry) (f : Found) : Type 0 where
  pub names : Indexes f.names (field_names (written_fields text es f.fields.items))
  pub ids : (z : ℤ) → contains int_cmp f.ids z ≡ list_any (λ i. int_eq i z) (ids (written_fields text es f.fields.items))
