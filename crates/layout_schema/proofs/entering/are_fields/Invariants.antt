-- The children so far have their fields.
use Rattle.std.proofs.Common.{◌≡◌, drop}
use Rattle.layout_schema.specs.Shapes.{are_fields}
use Rattle.layout_schema.specs.Reading.{entry_told}
use Rattle.layout_schema.proofs.entering.are_fields.Given as goal

abbrev pub invariant-loop-i : goal.invariant-loop-i
invariant-loop-i l = are_fields l.fields (entry_told l.entry).children ≡ are_fields (drop l.i l.fields) (drop l.i (entry_told l.entry).children)
