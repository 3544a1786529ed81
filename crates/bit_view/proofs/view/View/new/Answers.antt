use Rattle.std.proofs.Common.{ap}
use Rattle.std.proofs.Math.Logic.{∥∥₁_map}
use Rattle.frozen_model.specs.Layouts.{stride}
use Rattle.frozen_model.specs.Packing.{bytes_for, here}
use Rattle.layout_tree.specs.Listing.{version_of, layout_in}
use Rattle.layout_tree.specs.Nodes.{noted_in, layout_of}
use Rattle.layout_tree.proofs.Children.{root_sub}
use Rattle.bit_view.proofs.Places.{here_is, here_told}
use Rattle.bit_view.proofs.view.View.new.Goals as goal

pub invariant_of-result : goal.invariant_of-result
invariant_of-result c =
    let d = layout_of c.args.layouts.now in
    record {
      settled = c.requires.settled;
      lies = ∥∥₁_map c.requires.held (λ p. (
        p.0,
        record {
          are_bytes = λ k. (c.type_inv.content k).fits;
          whole = p.0;
          content = p.1;
          lies = (d.tree, bytes_for (stride d.tree), here);
        },
      ));
    }

pub returns-clause-value : goal.returns-clause-value
returns-clause-value c v p =
    let l = c.args.layouts.now in
    let d = layout_of l in
    here_told (here_is (version_of l.version) (noted_in l) c.args.content.now 0 0 0 v
    c.layouts_are_described.ensures.bits.layout (record {
      are_bytes = λ k. (c.type_inv.content k).fits;
      whole = v;
      content = p;
      lies = (d.tree, bytes_for (stride d.tree), here);
    }))

pub returns-clause-layout : goal.returns-clause-layout
returns-clause-layout c =
    let l = c.args.layouts.now in
    ap (layout_in (version_of l.version)) (root_sub (noted_in l))
