use Rattle.std.proofs.Common.{List, length, get_or, ap, ◌∙◌, arith}
use Rattle.idl_fields.specs.declared.sizes.Size.{Size}
use Rattle.idl_definitions.proofs.SizeLaws.{type-size-at, type-size-none}
use Rattle.idl_definitions.proofs.measure.type_size_at.Goals as goal

pub returns-in-Some : goal.returns-in-Some
returns-in-Some c types ts e =
    let l = c.in-Some.ensures.lookup in
    l.1 ∙ ap (λ (z : List Size). get_or z c.args.place c.in-Some.s.now) e ∙ type-size-at ts types c.args.place c.in-Some.s.now (omega (arith, l.3.0, ap length e))

pub returns-in-None : goal.returns-in-None
returns-in-None c types ts e =
    let l = c.in-None.ensures.lookup in
    c.scalar_size.ensures ∙ type-size-none ts types c.args.place (omega (arith, l.3, ap length e))
