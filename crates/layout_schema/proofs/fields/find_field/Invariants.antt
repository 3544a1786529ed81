-- The fields so far have other ids, whatever type the struct is of.
use Rattle.std.proofs.Common.{length}
use Rattle.compact_wire.specs.Bytes.{AreBytes}
use Rattle.idl_profile.specs.Types.{TypeTree}
use Rattle.layout_schema.proofs.FieldSteps.{IsStruct, Passed}
use Rattle.layout_schema.proofs.fields.find_field.Given as goal

abbrev pub invariant-fields : goal.invariant-fields
invariant-fields l =
    AreBytes l.rest × ((t : TypeTree) → IsStruct t l.bytes → Passed t l.wanted l.bytes l.before.id l.rest)

abbrev pub decreases-fields : goal.decreases-fields
decreases-fields l = length l.rest
