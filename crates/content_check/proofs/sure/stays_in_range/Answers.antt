use Rattle.std.proofs.Common.{◌∙◌, ap, rules, w64, w32, subst, Some}
use Rattle.std.proofs.lemmas.Int.{to_z-of_z}
use mir.Val.{SFits, to_z, of_z}
use Rattle.layout_tree.specs.Listing.{sub, tree_of, version_of}
use Rattle.layout_tree.proofs.Codings.{is_first, is_second}
use Rattle.content_check.specs.Steps.{IsAbove}
use Rattle.content_check.proofs.Leaves.{always_first, always_second}
use Rattle.layout_tree.specs.Reading.{base_at}
use Rattle.content_check.proofs.sure.stays_in_range.Goals as goal

pub returns-else-version-eq2 : goal.returns-else-version-eq2
returns-else-version-eq2 c e k d is =
    let l = c.args.layouts.now in
    let t = tree_of l.nodes.items in
    always_first l.version t (sub t c.args.node) c.args.node l.sound c.requires.node
    (is_first (version_of l.version) (of_z w32 c.version.result) (ap (of_z w32) c.version.ensures)
    c.if-version-eq2.false) k d is

pub returns-in-Some : goal.returns-in-Some
returns-in-Some c e k d is =
    let l = c.args.layouts.now in
    let t = tree_of l.nodes.items in
    let g : SFits w64 c.base.result = search rules in
    let f : SFits w64 c.greatest_of.result = search rules in
    let some = c.in-Some.ensures in
    let a = subst (λ z. IsAbove z c.ones-most.result c.greatest_of.result (Some c.in-Some.field-0))
    (to_z-of_z w64 c.base.result g)
    (subst (λ z. IsAbove (to_z w64 (of_z w64 c.base.result)) c.ones-most.result z (Some c.in-Some.field-0))
    (to_z-of_z w64 c.greatest_of.result f) some) in
    always_second l.version t (sub t c.args.node) c.args.node c.bits.result c.base.result c.greatest_of.result
    c.kind.result c.ones-most.result c.in-Some.field-0 l.sound c.requires.node
    (is_second (version_of l.version) (of_z w32 c.version.result) (ap (of_z w32) c.version.ensures)
    c.if-version-eq2.true) c.bits.ensures.bits c.ones-most.ensures (λ k b w e. c.base.ensures ∙ ap base_at e) c.kind.ensures.kind
    c.greatest_of.ensures a k d is
