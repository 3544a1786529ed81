use Rattle.std.proofs.Common.{◌-ℤ◌, nat_abs, ap, sym, ◌∙◌, rules, w32, w64}
use Rattle.std.proofs.lemmas.Int.{to_z-of_z}
use mir.Val.{SFits, to_z, of_z}
use Rattle.frozen_model.specs.Bits.{need_unsigned, need_signed}
use Rattle.frozen_model.specs.Layouts.{need, width}
use Rattle.frozen_model.specs.Trees.{Integer, Leaf}
use Rattle.layout_tree.specs.Listing.{sub, tree_of, version_of}
use Rattle.layout_tree.proofs.Codings.{first_code, second_code, is_first, is_second}
use Rattle.layout_tree.specs.Reading.{base_at}
use Rattle.measure_pass.proofs.leaf.need_of.Goals as goal

pub returns-else-version-eq2 : goal.returns-else-version-eq2
returns-else-version-eq2 c k d e =
    let l = c.args.layouts.now in
    let v = version_of l.version in
    let x = c.args.x in
    let code = first_code v (sub (tree_of l.nodes.items) c.args.node) k d
    (is_first v (of_z w32 c.version.result) (ap (of_z w32) c.version.ensures) c.if-version-eq2.false) e in
    let f : SFits w64 x = c.ranges.x in
    c.need_signed.ensures.need ∙ ap need_signed (to_z-of_z w64 x f) ∙ sym (ap (λ q. need q x) code)

pub returns-then-version-eq2 : goal.returns-then-version-eq2
returns-then-version-eq2 c k d e =
    let l = c.args.layouts.now in
    let v = version_of l.version in
    let x = c.args.x in
    let b = second_code v (sub (tree_of l.nodes.items) c.args.node) k d
    (is_second v (of_z w32 c.version.result) (ap (of_z w32) c.version.ensures) c.if-version-eq2.true) e in
    let base = c.base.ensures ∙ ap base_at (e ∙ ap (λ q. Leaf (Integer k) q) b.is) in
    let f : SFits w64 x = c.ranges.x in
    let g : SFits w64 c.base.result = search rules in
    let gap = c.abs_diff.ensures ∙ ap (λ z. nat_abs (z -ℤ to_z w64 (of_z w64 c.base.result)))
    (to_z-of_z w64 x f) ∙ ap (λ z. nat_abs (x -ℤ z)) (to_z-of_z w64 c.base.result g)
    ∙ ap (λ z. nat_abs (x -ℤ z)) base in
    c.need_unsigned.ensures.need ∙ ap need_unsigned gap ∙ sym (ap (λ q. need q x) b.is)
