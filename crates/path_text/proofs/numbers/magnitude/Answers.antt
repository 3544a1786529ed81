use Rattle.std.proofs.Common.{◌∙◌}
use Rattle.path_text.proofs.PieceLaws.{parsed, digits-utf8}
use Rattle.path_text.proofs.numbers.magnitude.Goals as goal

pub returns-in-Ok : goal.returns-in-Ok
returns-in-Ok c = c.ok.ensures.value ∙ parsed c.in-Ok.text.now c.args.digits.now c.parse.result c.in-Ok.ensures.cases.0 c.parse.ensures.value.0 c.requires

pub returns-in-Err : goal.returns-in-Err
returns-in-Err c = absurd (c.in-Err.ensures.cases.0 (digits-utf8 c.args.digits.now c.requires))
