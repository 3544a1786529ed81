use Rattle.std.proofs.Common.{◌≡◌, ◌≤◌, ◌<◌, max, arith, ap, sym, ◌∙◌}
use Rattle.layout_tree.specs.Nodes.{noted_in}
use Rattle.layout_tree.specs.Noting.{noted_at, wide_at}
use Rattle.layout_tree.proofs.Noted.{leaf_in}
use Rattle.layout_tree.proofs.Raising.{wide_in, noted_again}
use Rattle.layout_tree.proofs.layouts.Layouts.note.Goals as goal

pub index-requires : goal.index-requires
index-requires c =
    let l = c.args.self.now in
    omega (arith, l.nodes.ok.0, leaf_in l.nodes.items c.args.node c.args.need l.listing c.requires)

pub returns-then-index-need-clause-noted : goal.returns-then-index-need-clause-noted
returns-then-index-need-clause-noted c =
    let l = c.args.self.now in
    let n = c.args.node in
    let w = wide_at (noted_in l) n in
    let e : c.index.result.now.wide ≡ w = ap (λ x. x.wide) c.index.ensures
    ∙ wide_in l.nodes.items n c.args.need c.index.result.now l.listing c.requires in
    let lt : c.index.result.now.wide < c.args.need = c.if-index-need.true in
    let m : c.args.need ≡ max w c.args.need = omega (arith, e, lt) in
    c.widen.ensures.noted ∙ ap (noted_at (noted_in l) n) m

pub returns-else-index-need-clause-noted : goal.returns-else-index-need-clause-noted
returns-else-index-need-clause-noted c =
    let l = c.args.self.now in
    let n = c.args.node in
    let w = wide_at (noted_in l) n in
    let e : c.index.result.now.wide ≡ w = ap (λ x. x.wide) c.index.ensures
    ∙ wide_in l.nodes.items n c.args.need c.index.result.now l.listing c.requires in
    let ge : c.args.need ≤ c.index.result.now.wide = omega (arith, c.if-index-need.false) in
    let m : w ≡ max w c.args.need = omega (arith, e, ge) in
    sym (ap (noted_at (noted_in l) n) (sym m) ∙ noted_again (noted_in l) n c.args.need c.requires)
