-- The children so far have ids.
use Rattle.std.proofs.Common.{◌≡◌, drop}
use Rattle.layout_schema.specs.Shapes.{are_ids}
use Rattle.layout_schema.specs.Reading.{entry_told}
use Rattle.layout_schema.proofs.entering.are_ids.Given as goal

abbrev pub invariant-loop-i : goal.invariant-loop-i
invariant-loop-i l = are_ids (entry_told l.entry).children ≡ are_ids (drop l.i (entry_told l.entry).children)
