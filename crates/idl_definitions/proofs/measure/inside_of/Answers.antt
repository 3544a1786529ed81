use Rattle.std.proofs.Common.{◌≡◌, ◌-◌, ◌<◌, suc, length, drop, ap, ◌∙◌, arith}
use Rattle.idl_fields.specs.declared.sizes.Size.{Size}
use Rattle.idl_profile.specs.Measures.{trees}
use Rattle.idl_definitions.specs.Sizes.{with_branch}
use Rattle.idl_fields.specs.View.{entries_in, named_in}
use Rattle.idl_definitions.proofs.SizeLaws.{inside-none, inside-step, of_fields}
use Rattle.idl_definitions.proofs.measure.inside_of.Goals as goal

pub loop-i-init : goal.loop-i-init
loop-i-init c =
    let text = c.args.text.now in
    let s = c.args.scope.now in
    inside-none text (entries_in text s) (trees (named_in text s)) c.args.fields.now

pub loop-i-preserved : goal.loop-i-preserved
loop-i-preserved c =
    let text = c.args.text.now in
    let es = entries_in text c.args.scope.now in
    let ts = trees (named_in text c.args.scope.now) in
    let f = c.index-fields-i.result in
    let s : c.loop-i.i ≡ suc (c.loop-i.i - 1) = omega (arith, c.loop-i-test.true) in
    let rest = c.loop-i.invariant ∙ ap (λ n. of_fields text es ts (drop n c.args.fields.now)) s in
    let h : c.loop-i.i - 1 < length c.args.fields.now = omega (arith, c.loop-i-test.true, c.loop-i.auto.i) in
    c.with_branch-total.ensures ∙ ap (λ (z : Size). with_branch f.need z c.loop-i.total) c.size_of_type.ensures ∙ ap (with_branch f.need _) rest
    ∙ inside-step text es ts c.args.fields.now (c.loop-i.i - 1) f h c.index-fields-i.is
