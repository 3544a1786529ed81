use Rattle.std.proofs.Common.{List, length, get_or, ap, ◌∙◌, arith}
use Rattle.idl_fields.specs.declared.sizes.Size.{Size}
use Rattle.idl_definitions.proofs.SizeLaws.{size-at, size-none}
use Rattle.idl_definitions.proofs.measure.size_at.Goals as goal

pub returns-in-Some : goal.returns-in-Some
returns-in-Some c ts e =
    let l = c.in-Some.ensures.lookup in
    l.1 ∙ ap (λ (z : List Size). get_or z c.args.n c.in-Some.s.now) e ∙ size-at ts c.args.n c.in-Some.s.now (omega (arith, l.3.0, ap length e))

pub returns-in-None : goal.returns-in-None
returns-in-None c ts e =
    let l = c.in-None.ensures.lookup in
    c.scalar_size.ensures ∙ size-none ts c.args.n (omega (arith, l.3, ap length e))
