use Rattle.std.proofs.Math.Logic.{∥∥₁_map}
use Rattle.idl_parse.proofs.definition.FieldRefs.named.Goals as goal

pub invariant_of-result : goal.invariant_of-result
invariant_of-result c = record { listed = ∥∥₁_map c.args.self.listed (λ h. h c.loop-field.field-index _ c.loop-field-test.true) }
