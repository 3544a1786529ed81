use Rattle.std.proofs.Common.{arith}
use Rattle.std.specs.Prelude.{None, Some}
use Rattle.std.proofs.lemmas.Str.Pattern.{strip_prefix_char}
use Rattle.idl_fields.proofs.MemberPlaces.{stripped, behind}
use Rattle.idl_fields.proofs.scope.after_dot.Goals as goal

pub returns-in_err-strip_prefix : goal.returns-in_err-strip_prefix
returns-in_err-strip_prefix c = rw c.from_residual.ensures (λ rest. stripped c.args.name.now c.args.w.now None c.in_err-strip_prefix.ensures.cases _)

pub returns : goal.returns
returns c =
    let e = stripped c.args.name.now c.args.w.now (Some c.in_ok-strip_prefix.field-0) c.in_ok-strip_prefix.ensures.cases in
    behind c.args.name.now c.args.w.now c.in_ok-strip_prefix.field-0.now c.strip_prefix-2.result e (strip_prefix_char 46 c.in_ok-strip_prefix.field-0.now c.strip_prefix-2.result c.strip_prefix-2.ensures.cases (omega arith))
