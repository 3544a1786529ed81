use Rattle.std.proofs.Common.{◌≡◌, drop, List}
use Rattle.std.specs.Prelude.{ℤ}
use Rattle.idl_parse.specs.Refs.{fields_of_refs}
use Rattle.typed_reading.specs.Faults.{missing}
use Rattle.typed_reading.specs.Marks.{Marked, HaveStood}
use Rattle.typed_reading.proofs.fields.first_missing.Given as goal

abbrev pub invariant-loop-place : goal.invariant-loop-place
invariant-loop-place l =
    (ids : List ℤ) → Marked (fields_of_refs l.fields) (drop l.base l.marks) ids → HaveStood (fields_of_refs l.fields) ids l.from
    → missing (drop l.place (fields_of_refs l.fields)) ids ≡ missing (fields_of_refs l.fields) ids
