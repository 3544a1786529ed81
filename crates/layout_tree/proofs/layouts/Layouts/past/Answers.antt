use Rattle.std.proofs.Common.{◌+◌, arith, ap, sym, ◌∙◌, subst}
use Rattle.frozen_model.specs.Trees.{nodes}
use Rattle.layout_tree.specs.declared.node.NodeSpec.{NodeSpec}
use Rattle.layout_tree.specs.Listing.{tree_of, sub, version_of}
use Rattle.layout_tree.proofs.Place.{at_part}
use Rattle.layout_tree.proofs.Readings.{past_read, past_leaf, past_branch, leaf_cases, branch_cases, PastAt}
use Rattle.layout_tree.proofs.Readings.{few_listed, same_nodes}
use Rattle.layout_tree.proofs.Numbers.{in_list, part_here}
use Rattle.layout_tree.proofs.layouts.Layouts.past.Goals as goal

pub index-spec-requires : goal.index-spec-requires
index-spec-requires c =
    let l = c.args.self.now in
    omega (arith, l.nodes.ok.0, in_list l.nodes.items c.args.node l.listing c.requires)

pub overflow_add-result : goal.overflow_add-result
overflow_add-result c =
    let l = c.args.self.now in
    let ns = l.nodes.items in
    omega (arith, in_list ns c.args.node l.listing c.requires, few_listed l.version ns l.listing l.sound)

pub returns-in-Flag-clause-part : goal.returns-in-Flag-clause-part
returns-in-Flag-clause-part c part =
    let l = c.args.self.now in
    let ns = l.nodes.items in
    let n = c.args.node in
    let s = sub (tree_of ns) n in
    let a = at_part ns s n l.listing part in
    let x = c.index-spec.result.now in
    let p : PastAt x.kind n x.wide (nodes s) = subst (λ (y : NodeSpec). PastAt y.kind n y.wide (nodes s))
    (sym c.index-spec.ensures) (past_read a x) in
    past_leaf x.kind (leaf_cases x.kind c.in-Flag.is) n x.wide (nodes s) p
    ∙ ap (λ m. n + m) (sym (same_nodes (version_of l.version) s))

pub returns-in_default-clause-part : goal.returns-in_default-clause-part
returns-in_default-clause-part c part =
    let l = c.args.self.now in
    let ns = l.nodes.items in
    let n = c.args.node in
    let s = sub (tree_of ns) n in
    let a = at_part ns s n l.listing part in
    let x = c.index-spec.result.now in
    let o = c.in_default in
    let p : PastAt x.kind n x.wide (nodes s) = subst (λ (y : NodeSpec). PastAt y.kind n y.wide (nodes s))
    (sym c.index-spec.ensures) (past_read a x) in
    past_branch x.kind (branch_cases x.kind o.not-Flag o.not-I8 o.not-I16 o.not-I32 o.not-I64 o.not-Size) n
    x.wide (nodes s) p
    ∙ ap (λ m. n + m) (sym (same_nodes (version_of l.version) s))

pub returns-in_default-clause-other : goal.returns-in_default-clause-other
returns-in_default-clause-other c alone =
    let l = c.args.self.now in
    absurd (alone (part_here l.nodes.items c.args.node c.index-spec.result.now l.listing c.requires
    c.index-spec.ensures c.in_default.not-Flag c.in_default.not-Size))
