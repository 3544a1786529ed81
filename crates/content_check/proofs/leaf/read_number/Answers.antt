use Rattle.std.proofs.Common.{ap, ◌∙◌, rules, w64, w32, subst}
use Rattle.std.proofs.lemmas.Int.{to_z-of_z}
use mir.Val.{SFits, to_z, of_z}
use Rattle.layout_tree.specs.Listing.{sub, tree_of, version_of}
use Rattle.layout_tree.proofs.Codings.{is_first, is_second}
use Rattle.content_check.proofs.Leaves.{read_first, read_second}
use Rattle.content_check.specs.Steps.{IsAbove}
use Rattle.layout_tree.specs.Reading.{base_at}
use Rattle.content_check.proofs.leaf.read_number.Goals as goal

pub returns-else-version-eq2 : goal.returns-else-version-eq2
returns-else-version-eq2 c =
    let l = c.args.layouts.now in
    let t = tree_of l.nodes.items in
    let g : SFits w64 c.read_signed.result = search rules in
    read_first l.version t (sub t c.args.node) c.args.node c.args.content.now c.args.bit c.bits-width.result _
    l.sound c.requires.node (is_first (version_of l.version) (of_z w32 c.version.result)
    (ap (of_z w32) c.version.ensures) c.if-version-eq2.false) c.bits-width.ensures.bits
    (to_z-of_z w64 c.read_signed.result g ∙ c.read_signed.ensures.value)

pub returns-then-version-eq2 : goal.returns-then-version-eq2
returns-then-version-eq2 c =
    let l = c.args.layouts.now in
    let t = tree_of l.nodes.items in
    let g : SFits w64 c.base.result = search rules in
    let f : SFits w64 c.greatest_of.result = search rules in
    let a = subst (λ z. IsAbove z c.read_bits-n.result c.greatest_of.result c.above_base.result)
    (to_z-of_z w64 c.base.result g)
    (subst (λ z. IsAbove (to_z w64 (of_z w64 c.base.result)) c.read_bits-n.result z c.above_base.result)
    (to_z-of_z w64 c.greatest_of.result f) c.above_base.ensures) in
    read_second l.version t (sub t c.args.node) c.args.node c.args.content.now c.args.bit c.bits-width.result
    c.base.result c.greatest_of.result c.kind.result c.read_bits-n.result c.above_base.result l.sound
    c.requires.node (is_second (version_of l.version) (of_z w32 c.version.result)
    (ap (of_z w32) c.version.ensures) c.if-version-eq2.true) c.bits-width.ensures.bits
    c.read_bits-n.ensures.value (λ k b w e. c.base.ensures ∙ ap base_at e) c.kind.ensures.kind c.greatest_of.ensures a
