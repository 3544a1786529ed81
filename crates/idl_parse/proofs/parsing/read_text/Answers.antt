use Rattle.std.proofs.Common.{inr, ap, subst, length, arith}
use Rattle.idl_parse.specs.Parsed.{not_utf8, IsParsed}
use Rattle.idl_parse.proofs.parsing.read_text.Goals as goal

pub returns-in-Ok : goal.returns-in-Ok
returns-in-Ok c = subst (λ t. IsParsed t c.read_characters.result) c.in-Ok.ensures.cases.0 c.read_characters.ensures

pub returns-in-Err : goal.returns-in-Err
returns-in-Err c = inr (not_utf8 c.in-Err.ensures.cases.0)

pub read_characters-requires : goal.read_characters-requires
read_characters-requires c = omega (arith, c.requires, ap length c.in-Ok.ensures.cases.0)
