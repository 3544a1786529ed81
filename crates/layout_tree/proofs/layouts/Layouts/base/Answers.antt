use Rattle.std.proofs.Common.{arith, ap, ◌∙◌, rules, w64}
use Rattle.std.proofs.lemmas.Int.{to_z-of_z}
use mir.Val.{SFits}
use Rattle.layout_tree.specs.Listing.{tree_of, sub, version_of}
use Rattle.layout_tree.proofs.Describing.{kept_bases}
use Rattle.layout_tree.proofs.Place.{at_part, some_nodes}
use Rattle.layout_tree.proofs.Readings.{base_read, bases_part}
use Rattle.layout_tree.proofs.layouts.Layouts.base.Goals as goal

pub index-spec-requires : goal.index-spec-requires
index-spec-requires c =
    let ns = c.args.self.now.nodes in
    let s = sub (tree_of ns.items) c.args.node in
    let a = at_part ns.items s c.args.node c.args.self.now.listing c.requires in
    omega (arith, ns.ok.0, a.within, some_nodes s)

pub returns : goal.returns
returns c =
    let l = c.args.self.now in
    let ns = l.nodes.items in
    let v = version_of l.version in
    let x = c.index-spec.result.now in
    let a = at_part ns (sub (tree_of ns) c.args.node) c.args.node l.listing c.requires in
    let f : SFits w64 x.base = search rules in
    to_z-of_z w64 x.base f ∙ ap (λ x. x.base) c.index-spec.ensures
    ∙ base_read v a x (bases_part v c.requires (kept_bases l))
