use Rattle.std.proofs.Common.{◌∙◌, ap, refl, subst, arith}
use Rattle.std.specs.Str.{IsUtf8}
use Rattle.base_lists.proofs.Cuts.{part-is}
use Rattle.base_lists.proofs.span.text_at.Goals as goal

pub returns : goal.returns
returns c =
    let is = ap (λ x. x.now) c.unwrap_or.ensures in
    is ∙ part-is c.args.text.now _ _ c.get.result _ c.utf8.text (subst IsUtf8 is c.unwrap_or.utf8) refl (omega arith) c.get.ensures.cases
