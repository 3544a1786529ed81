use Rattle.std.proofs.Common.{◌∙◌, ap, string_bytes, ◌++◌, w16, pos, get_or, rules}
use Rattle.std.specs.Prelude.{FitsSigned}
use Rattle.std.specs.Fmt.{signed_decimal}
use Rattle.std.proofs.lemmas.Int.{to_z-of_z}
use Rattle.frozen_cli.proofs.Dotted.{id_more}
use Rattle.frozen_cli.proofs.ids.ids_text.Goals as goal

pub loop-i-preserved : goal.loop-i-preserved
loop-i-preserved c =
    let mid = string_bytes c.push_dot.new.out in
    let id = get_or c.args.ids.now c.loop-i.i (pos 0) in
    let fits : FitsSigned w16 id = search rules in
    id_more c.args.ids.now c.loop-i.i (pos 0) (string_bytes c.loop-i.out) mid
    (string_bytes c.push_str.new.self) _ c.loop-i-test.true c.in_ok-push_dot.ensures
    (c.in_ok-push_str.ensures.bytes ∙ ap (λ t. mid ++ t) c.format.ensures.text
    ∙ ap (λ z. mid ++ signed_decimal z) (to_z-of_z w16 id fits)) c.loop-i.invariant
