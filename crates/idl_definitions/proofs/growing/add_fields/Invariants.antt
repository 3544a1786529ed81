use Rattle.std.proofs.Common.{◌≡◌, ℕ, List, true, take}
use Rattle.idl_fields.specs.declared.draft.DraftField.{DraftField}
use Rattle.idl_fields.specs.declared.draft.WrittenField.{WrittenField}
use Rattle.idl_fields.specs.declared.scope.Scope.{Scope}
use Rattle.idl_fields.specs.View.{types_in, entries_in, fields_of, written_fields}
use Rattle.idl_definitions.specs.Sized.{type_count, fields_placed, IsSized, Grows}
use Rattle.idl_definitions.proofs.growing.add_fields.Given as goal

pub record Going (text : List ℕ) (old now : Scope) (fs : List WrittenField) (added : List DraftField) (i : ℕ) : Type 0 where
  pub means : fields_of text (types_in now.types) added ≡ written_fields text (entries_in text old) (take i fs)
  pub placed : fields_placed (type_count now) added ≡ true
  pub grows : Grows old now
  pub sized : IsSized text now

abbrev pub invariant-loop-field : goal.invariant-loop-field
invariant-loop-field l = Going l.text l.fn.scope l.scope l.fields l.added.items l.field-index
