use Rattle.std.proofs.Common.{◌≡◌, ◌+◌, ◌<◌, length, drop, slice_index_or, arith, refl, ap, sym, ◌∙◌}
use Rattle.std.proofs.Common.{subst, rules, w64}
use Rattle.std.proofs.lemmas.Int.{to_z-of_z}
use mir.Val.{SFits}
use Rattle.frozen_model.specs.Trees.{nodes}
use Rattle.frozen_model.specs.Layouts.{Layout, Described, described}
use Rattle.frozen_model.specs.Holding.{puts_of}
use Rattle.layout_tree.specs.Listing.{Noted, version_of}
use Rattle.layout_tree.specs.Nodes.{layout_of, noted_in}
use Rattle.layout_tree.specs.Basing.{based_at, BaseAt}
use Rattle.layout_tree.proofs.Based.{kept}
use Rattle.typed_tree.specs.References.{value_of_ref}
use Rattle.value_bounds.specs.Seeing.{base_by, no_bounds}
use Rattle.value_bounds.specs.Basing.{based_on}
use Rattle.value_bounds.proofs.Steps.{BasesTo, bases_step, bases_end}
use Rattle.value_bounds.proofs.Based.{begins, as_many, starts_at, settled_at}
use Rattle.value_bounds.proofs.bases.set_bases.Goals as goal
use Rattle.value_bounds.proofs.bases.set_bases.Goals.{then-is_whole, else-is_whole}

pub loop-node-init : goal.loop-node-init
loop-node-init c =
    let l = c.args.layouts.now in
    record {
      left = begins (version_of l.version) (noted_in l) (value_of_ref c.args.v) c.in_ok-bounds.bounds.items
          c.requires.form c.in_ok-bounds.ensures;
      same = refl;
      version = refl;
      relaxed = refl;
    }

pub index-requires : goal.index-requires
index-requires c =
    let l = c.args.layouts.now in
    let bs = c.in_ok-bounds.bounds in
    let many = as_many (version_of l.version) (noted_in l) (value_of_ref c.args.v) bs.items c.requires.form
    c.in_ok-bounds.ensures in
    omega (arith, bs.ok.0, many, c.count-node-end.ensures, c.loop-node-test.true)

pub rebase-requires-clause-leaf : goal.rebase-requires-clause-leaf
rebase-requires-clause-leaf c =
    let l = c.args.layouts.now in
    let u = value_of_ref c.args.v in
    let bs = c.in_ok-bounds.bounds in
    let n = version_of l.version in
    let k = c.loop-node.node in
    let t = noted_in c.loop-node.layouts in
    let b = c.index.result.now in
    let many = as_many n (noted_in l) u bs.items c.requires.form c.in_ok-bounds.ensures in
    let inside : k < length bs.items = omega (arith, many, c.count-node-end.ensures, c.loop-node-test.true) in
    let step = bases_step t k (k + 1) bs.items (based_on (noted_in l) (puts_of (layout_of l).tree u)) b b
    inside (omega arith) c.index.ensures c.loop-node.invariant.left in
    let z = c.base.result in
    let z_fits : SFits w64 z = search rules in
    subst (BaseAt t k) (sym (to_z-of_z w64 z z_fits ∙ c.base.ensures))
    (step.0 (sym c.is_whole.ensures ∙ c.if-is_whole.true))

pub loop-node-preserved : goal.loop-node-preserved
loop-node-preserved c =
    let l = c.args.layouts.now in
    let u = value_of_ref c.args.v in
    let bs = c.in_ok-bounds.bounds in
    let n = version_of l.version in
    let k = c.loop-node.node in
    let i = c.loop-node.invariant in
    let now = c.loop-node.layouts in
    let t = noted_in now in
    let end = based_on (noted_in l) (puts_of (layout_of l).tree u) in
    let many = as_many n (noted_in l) u bs.items c.requires.form c.in_ok-bounds.ensures in
    let inside : k < length bs.items = omega (arith, many, c.count-node-end.ensures, c.loop-node-test.true) in
    elim c.if-is_whole.branch [
      | then-is_whole w ↦
          let b = w.index.result.now in
          let z = w.base.result in
          let z_fits : SFits w64 z = search rules in
          let ez = to_z-of_z w64 z z_fits ∙ w.base.ensures in
          let step = bases_step t k (k + 1) bs.items end b b inside (omega arith) w.index.ensures i.left in
          let fits = step.0 (sym c.is_whole.ensures ∙ w.if-is_whole.true) in
          let new = c.if-is_whole.layouts in
          let is : noted_in new ≡ based_at t k (base_by b) = ap (λ x. noted_in x) w.layouts-is
          ∙ w.rebase.ensures.noted ∙ ap (based_at t k) ez in
          record {
            left = subst (λ (x : Noted). BasesTo x (k + 1) (drop (k + 1) bs.items) end) (sym is) step.2;
            same = ap (λ (x : Noted). nodes x) is ∙ (kept t k (base_by b) fits).nodes ∙ i.same;
            version = ap (λ x. (layout_of x).version) w.layouts-is ∙ w.rebase.ensures.version ∙ i.version;
            relaxed = ap (λ x. (layout_of x).relaxed) w.layouts-is ∙ w.rebase.ensures.relaxed ∙ i.relaxed;
          }
      | else-is_whole w ↦
          let b = slice_index_or bs.items k no_bounds in
          let step = bases_step t k (k + 1) bs.items end no_bounds b inside (omega arith) refl i.left in
          let stays = step.1 (sym c.is_whole.ensures ∙ w.if-is_whole.false) in
          let new = c.if-is_whole.layouts in
          let is : noted_in new ≡ t = ap (λ x. noted_in x) w.layouts-is in
          record {
            left = subst (λ (x : Noted). BasesTo x (k + 1) (drop (k + 1) bs.items) end) (stays ∙ sym is)
                step.2;
            same = ap (λ (x : Noted). nodes x) is ∙ i.same;
            version = ap (λ x. (layout_of x).version) w.layouts-is ∙ i.version;
            relaxed = ap (λ x. (layout_of x).relaxed) w.layouts-is ∙ i.relaxed;
          }
    ]

pub returns-clause-based : goal.returns-clause-based
returns-clause-based c =
    let l = c.args.layouts.now in
    let u = value_of_ref c.args.v in
    let bs = c.in_ok-bounds.bounds.items in
    let many = as_many (version_of l.version) (noted_in l) u bs c.requires.form c.in_ok-bounds.ensures in
    let k = c.loop-node.node in
    let over : k ≡ length bs = omega (
      arith,
      many,
      c.count-node-end.ensures,
      c.loop-node-test.false,
      c.loop-node.auto.node-end,
    ) in
    bases_end (noted_in c.loop-node.layouts) k bs (based_on (noted_in l) (puts_of (layout_of l).tree u)) over
    c.loop-node.invariant.left

pub returns-clause-start : goal.returns-clause-start
returns-clause-start c =
    let l = c.args.layouts.now in
    let m = c.loop-node.layouts in
    let u = value_of_ref c.args.v in
    let bs = c.in_ok-bounds.bounds.items in
    let many = as_many (version_of l.version) (noted_in l) u bs c.requires.form c.in_ok-bounds.ensures in
    let k = c.loop-node.node in
    let over : k ≡ length bs = omega (
      arith,
      many,
      c.count-node-end.ensures,
      c.loop-node-test.false,
      c.loop-node.auto.node-end,
    ) in
    let is = bases_end (noted_in m) k bs (based_on (noted_in l) (puts_of (layout_of l).tree u)) over
    c.loop-node.invariant.left in
    starts_at (version_of l.version) (version_of m.version) (noted_in l) (noted_in m) u c.requires.version
    c.loop-node.invariant.version c.requires.form c.requires.blank is

pub returns-clause-settled : goal.returns-clause-settled
returns-clause-settled c h =
    let l = c.args.layouts.now in
    let m = c.loop-node.layouts in
    let u = value_of_ref c.args.v in
    let bs = c.in_ok-bounds.bounds.items in
    let many = as_many (version_of l.version) (noted_in l) u bs c.requires.form c.in_ok-bounds.ensures in
    let k = c.loop-node.node in
    let over : k ≡ length bs = omega (
      arith,
      many,
      c.count-node-end.ensures,
      c.loop-node-test.false,
      c.loop-node.auto.node-end,
    ) in
    let is = bases_end (noted_in m) k bs (based_on (noted_in l) (puts_of (layout_of l).tree u)) over
    c.loop-node.invariant.left in
    let rests = settled_at (version_of l.version) (version_of m.version) (noted_in l) (noted_in m) u
    c.requires.version c.loop-node.invariant.version c.requires.form is
    (ap (λ (d : Described). d.tree) h) in
    ap (λ (x : Layout). described (version_of m.version) m.relaxed x) rests
