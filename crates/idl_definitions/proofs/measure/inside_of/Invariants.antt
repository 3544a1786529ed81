use Rattle.std.proofs.Common.{◌≡◌, drop}
use Rattle.idl_profile.specs.Measures.{fields as fields_in, trees}
use Rattle.idl_definitions.specs.Sizes.{inside}
use Rattle.idl_fields.specs.View.{entries_in, named_in, written_fields}
use Rattle.idl_definitions.proofs.measure.inside_of.Given as goal

abbrev pub invariant-loop-i : goal.invariant-loop-i
invariant-loop-i l = l.total ≡ inside (fields_in (trees (named_in l.text l.scope)) (written_fields l.text (entries_in l.text l.scope) (drop l.i l.fields)))
