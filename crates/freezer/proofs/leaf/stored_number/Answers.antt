use Rattle.std.proofs.Common.{◌≡◌, ℤ, pos, negsuc, ◌-ℤ◌, ◌≤ℤ◌, ◌<ℤ◌, nat_abs, arith, ap, sym, ◌∙◌, rules, w64}
use Rattle.std.proofs.lemmas.Int.{ints, to_z-of_z}
use mir.Val.{SFits, to_z, of_z}
use Rattle.frozen_model.specs.Layouts.{stored, width}
use Rattle.frozen_model.specs.Trees.{Integer, Leaf}
use Rattle.layout_tree.specs.Listing.{sub, tree_of, version_of}
use Rattle.layout_tree.specs.Nodes.{at}
use Rattle.layout_tree.proofs.Codings.{first_code, second_code}
use Rattle.freezer.proofs.Stores.{coding, first_need, first_stored, small_at, unbased, at_zero, below_zero}
use Rattle.freezer.proofs.Stores.{neg_room, neg_stored}
use Rattle.layout_tree.specs.Reading.{base_at}
use Rattle.freezer.proofs.leaf.stored_number.Goals as goal

pub overflow_shr-result : goal.overflow_shr-result
overflow_shr-result c =
    let l = c.args.layouts.now in
    let r = c.requires.fits in
    let x = c.args.x in
    let neg : x <ℤ pos 0 = grind (arith, ints) in
    let cd = coding (at l c.args.node) x c.args.width r.kind r.code r c.requires.width r.is in
    omega (
      arith,
      below_zero c.args.width x neg
          (first_need r.code x c.args.width (first_code (version_of l.version)
          (sub (tree_of l.nodes.items) c.args.node) r.kind r.code
          (unbased (version_of l.version) c.args.based c.requires.based c.if-based.false) r.is) cd),
    )

pub overflow_sub-result-else-x-ge0-2 : goal.overflow_sub-result-else-x-ge0-2
overflow_sub-result-else-x-ge0-2 c =
    let l = c.args.layouts.now in
    let r = c.requires.fits in
    let x = c.args.x in
    let neg : x <ℤ pos 0 = grind (arith, ints) in
    let cd = coding (at l c.args.node) x c.args.width r.kind r.code r c.requires.width r.is in
    let need = first_need r.code x c.args.width
    (first_code (version_of l.version) (sub (tree_of l.nodes.items) c.args.node) r.kind r.code
    (unbased (version_of l.version) c.args.based c.requires.based c.if-based.false) r.is) cd in
    let f : SFits w64 x = c.ranges.x in
    let y : ℤ = to_z w64 (of_z w64 (negsuc 0 -ℤ to_z w64 (of_z w64 x))) in
    let ey : y ≡ negsuc 0 -ℤ x = omega (arith, ints) in
    neg_room c.args.width x y neg ey c.requires.narrow need

pub returns-then-x-ge0-clause-stored : goal.returns-then-x-ge0-clause-stored
returns-then-x-ge0-clause-stored c k d e =
    let l = c.args.layouts.now in
    let x = c.args.x in
    let f : SFits w64 x = c.ranges.x in
    let up : pos 0 ≤ℤ x = grind (arith, ints) in
    let cd = coding (at l c.args.node) x c.args.width k d c.requires.fits c.requires.width e in
    first_stored d x c.args.width _ (first_code (version_of l.version)
    (sub (tree_of l.nodes.items) c.args.node) k d
    (unbased (version_of l.version) c.args.based c.requires.based c.if-based.false) e) cd
    (ap nat_abs (to_z-of_z w64 x f) ∙ at_zero c.args.width x up)

pub returns-then-x-ge0-clause-fits : goal.returns-then-x-ge0-clause-fits
returns-then-x-ge0-clause-fits c =
    let l = c.args.layouts.now in
    let x = c.args.x in
    let r = c.requires.fits in
    let f : SFits w64 x = c.ranges.x in
    let up : pos 0 ≤ℤ x = grind (arith, ints) in
    let cd = coding (at l c.args.node) x c.args.width r.kind r.code r c.requires.width r.is in
    small_at r.code x c.args.width _ cd (first_stored r.code x c.args.width _
    (first_code (version_of l.version) (sub (tree_of l.nodes.items) c.args.node) r.kind r.code
    (unbased (version_of l.version) c.args.based c.requires.based c.if-based.false) r.is) cd
    (ap nat_abs (to_z-of_z w64 x f) ∙ at_zero c.args.width x up))

pub returns-else-x-ge0-clause-stored : goal.returns-else-x-ge0-clause-stored
returns-else-x-ge0-clause-stored c k d e =
    let l = c.args.layouts.now in
    let x = c.args.x in
    let f : SFits w64 x = c.ranges.x in
    let neg : x <ℤ pos 0 = grind (arith, ints) in
    let cd = coding (at l c.args.node) x c.args.width k d c.requires.fits c.requires.width e in
    let code = first_code (version_of l.version) (sub (tree_of l.nodes.items) c.args.node) k d
    (unbased (version_of l.version) c.args.based c.requires.based c.if-based.false) e in
    let y : ℤ = to_z w64 (of_z w64 (negsuc 0 -ℤ to_z w64 (of_z w64 x))) in
    let ey : y ≡ negsuc 0 -ℤ x = omega (arith, ints) in
    first_stored d x c.args.width _ code cd (neg_stored c.args.width x y neg ey c.requires.narrow
    (first_need d x c.args.width code cd))

pub returns-else-x-ge0-clause-fits : goal.returns-else-x-ge0-clause-fits
returns-else-x-ge0-clause-fits c =
    let l = c.args.layouts.now in
    let x = c.args.x in
    let r = c.requires.fits in
    let f : SFits w64 x = c.ranges.x in
    let neg : x <ℤ pos 0 = grind (arith, ints) in
    let cd = coding (at l c.args.node) x c.args.width r.kind r.code r c.requires.width r.is in
    let code = first_code (version_of l.version) (sub (tree_of l.nodes.items) c.args.node) r.kind r.code
    (unbased (version_of l.version) c.args.based c.requires.based c.if-based.false) r.is in
    let y : ℤ = to_z w64 (of_z w64 (negsuc 0 -ℤ to_z w64 (of_z w64 x))) in
    let ey : y ≡ negsuc 0 -ℤ x = omega (arith, ints) in
    small_at r.code x c.args.width _ cd (first_stored r.code x c.args.width _ code cd
    (neg_stored c.args.width x y neg ey c.requires.narrow (first_need r.code x c.args.width code cd)))

pub returns-then-based-clause-stored : goal.returns-then-based-clause-stored
returns-then-based-clause-stored c k d e =
    let l = c.args.layouts.now in
    let x = c.args.x in
    let b = second_code (version_of l.version) (sub (tree_of l.nodes.items) c.args.node) k d
    (c.requires.based.0 c.if-based.true) e in
    let base = c.base.ensures ∙ ap base_at (e ∙ ap (λ q. Leaf (Integer k) q) b.is) in
    let f : SFits w64 x = c.ranges.x in
    let g : SFits w64 c.base.result = search rules in
    c.abs_diff.ensures ∙ ap (λ z. nat_abs (z -ℤ to_z w64 (of_z w64 c.base.result))) (to_z-of_z w64 x f)
    ∙ ap (λ z. nat_abs (x -ℤ z)) (to_z-of_z w64 c.base.result g)
    ∙ ap (λ z. nat_abs (x -ℤ z)) base ∙ sym (ap (λ q. stored q x) b.is)

pub returns-then-based-clause-fits : goal.returns-then-based-clause-fits
returns-then-based-clause-fits c =
    let l = c.args.layouts.now in
    let x = c.args.x in
    let r = c.requires.fits in
    let b = second_code (version_of l.version) (sub (tree_of l.nodes.items) c.args.node) r.kind r.code
    (c.requires.based.0 c.if-based.true) r.is in
    let base = c.base.ensures ∙ ap base_at (r.is ∙ ap (λ q. Leaf (Integer r.kind) q) b.is) in
    let f : SFits w64 x = c.ranges.x in
    let g : SFits w64 c.base.result = search rules in
    let cd = coding (at l c.args.node) x c.args.width r.kind r.code r c.requires.width r.is in
    small_at r.code x c.args.width _ cd (c.abs_diff.ensures
    ∙ ap (λ z. nat_abs (z -ℤ to_z w64 (of_z w64 c.base.result))) (to_z-of_z w64 x f)
    ∙ ap (λ z. nat_abs (x -ℤ z)) (to_z-of_z w64 c.base.result g)
    ∙ ap (λ z. nat_abs (x -ℤ z)) base ∙ sym (ap (λ q. stored q x) b.is))
