use Rattle.std.proofs.Common.{◌<◌, length, arith}
use Rattle.std.proofs.Math.Logic.{∥∥₁_map}
use Rattle.idl_parse.proofs.Standing.{length-fields, get-fields}
use Rattle.idl_parse.proofs.definition.FieldRefs.at.Goals as goal

pub bounds-self-i : goal.bounds-self-i
bounds-self-i c = omega (arith, c.requires, length-fields c.args.self.def.now c.args.self.within c.args.self.fields.now)

pub invariant_of-result : goal.invariant_of-result
invariant_of-result c =
    let place : c.args.i < length c.args.self.fields.now = omega (arith, c.requires, length-fields c.args.self.def.now c.args.self.within c.args.self.fields.now) in
    record { listed = ∥∥₁_map c.args.self.listed (λ h. h c.args.i _ place) }

pub returns : goal.returns
returns c =
    let d = c.args.self.def.now in
    let fs = c.args.self.fields.now in
    let place : c.args.i < length fs = omega (arith, c.requires, length-fields d c.args.self.within fs) in
    get-fields d c.args.self.within fs c.args.i _ place
