use Rattle.std.proofs.Common.{◌+◌, ◌*◌, arith, ap, sym, ◌∙◌, subst}
use Rattle.layout_tree.specs.Listing.{version_of}
use Rattle.layout_tree.specs.Nodes.{noted_in, layout_of, at}
use Rattle.layout_tree.specs.Reading.{item_stride}
use Rattle.layout_tree.proofs.Children.{item_child}
use Rattle.frozen_model.specs.Values.{count}
use Rattle.typed_tree.specs.Parts.{fields_of}
use Rattle.bit_view.specs.Lying.{HasPart}
use Rattle.bit_view.specs.InPlace.{read_value}
use Rattle.bit_view.specs.Views.{value_of_view, layout_of_view}
use Rattle.bit_view.proofs.Shapes.{counted_items, items_holder, holder_count, item_told, pair_told}
use Rattle.bit_view.proofs.Seen.{view_node, view_bounds, view_small, view_item, view_item_room, formed}
use Rattle.bit_view.proofs.Pairs.{item_pair}
use Rattle.bit_view.proofs.row.Row.item.Goals as goal

pub overflow_add-result : goal.overflow_add-result
overflow_add-result c = omega (arith, view_small c.args.self.whole)

pub overflow_mul-result : goal.overflow_mul-result
overflow_mul-result c =
    let r = c.args.self in
    let w = r.whole in
    let m = layout_of_view w in
    let is = counted_items (value_of_view w) c.args.i c.requires in
    let h = items_holder m w.content.now w.block w.bit is in
    let lt = holder_count m w.content.now w.block w.bit c.args.i is c.requires in
    let room = view_item_room w h c.args.i r.block r.stride lt r.begins r.step in
    omega (arith, room, (view_bounds w).short)

pub overflow_mul-result-2 : goal.overflow_mul-result-2
overflow_mul-result-2 c =
    let r = c.args.self in
    let w = r.whole in
    let m = layout_of_view w in
    let is = counted_items (value_of_view w) c.args.i c.requires in
    let h = items_holder m w.content.now w.block w.bit is in
    let lt = holder_count m w.content.now w.block w.bit c.args.i is c.requires in
    let room = view_item_room w h c.args.i r.block r.stride lt r.begins r.step in
    omega (arith, room, (view_bounds w).short)

pub overflow_add-result-2 : goal.overflow_add-result-2
overflow_add-result-2 c =
    let r = c.args.self in
    let w = r.whole in
    let m = layout_of_view w in
    let is = counted_items (value_of_view w) c.args.i c.requires in
    let h = items_holder m w.content.now w.block w.bit is in
    let lt = holder_count m w.content.now w.block w.bit c.args.i is c.requires in
    let room = view_item_room w h c.args.i r.block r.stride lt r.begins r.step in
    omega (arith, room, (view_bounds w).short)

pub invariant_of-result : goal.invariant_of-result
invariant_of-result c =
    let r = c.args.self in
    let w = r.whole in
    let m = layout_of_view w in
    let is = counted_items (value_of_view w) c.args.i c.requires in
    let h = items_holder m w.content.now w.block w.bit is in
    let lt = holder_count m w.content.now w.block w.bit c.args.i is c.requires in
    record {
      settled = w.settled;
      lies = subst (λ k. ∥ HasPart (layout_of w.layouts.now).tree w.content.now (w.node + 3) r.block
          (8 * r.block + c.args.i * k) ∥₁)
          (sym r.step) (view_item w h c.args.i r.block lt r.begins);
    }

pub returns-clause-item : goal.returns-clause-item
returns-clause-item c =
    let r = c.args.self in
    let w = r.whole in
    let m = layout_of_view w in
    let is = counted_items (value_of_view w) c.args.i c.requires in
    let h = items_holder m w.content.now w.block w.bit is in
    let lt = holder_count m w.content.now w.block w.bit c.args.i is c.requires in
    let l = w.layouts.now in
    let child = item_child (noted_in l) (version_of l.version) w.node (view_node w) h in
    ap (λ k. read_value w.content.now (at l (w.node + 3)) r.block (8 * r.block + c.args.i * k)) r.step
    ∙ ap (λ x. read_value w.content.now x r.block (8 * r.block + c.args.i * item_stride m)) child.is
    ∙ item_told m w.content.now w.block w.bit c.args.i r.block is r.begins lt

pub returns-clause-pair : goal.returns-clause-pair
returns-clause-pair c map =
    let r = c.args.self in
    let w = r.whole in
    let m = layout_of_view w in
    let is = counted_items (value_of_view w) c.args.i c.requires in
    let h = items_holder m w.content.now w.block w.bit is in
    let lt = holder_count m w.content.now w.block w.bit c.args.i is c.requires in
    let l = w.layouts.now in
    let bit = 8 * r.block + c.args.i * r.stride in
    let child = item_child (noted_in l) (version_of l.version) w.node (view_node w) h in
    ap (λ x. count (fields_of (read_value w.content.now x r.block bit))) child.is
    ∙ pair_told m w.content.now w.block w.bit r.block bit (formed w) map

pub returns-clause-layout : goal.returns-clause-layout
returns-clause-layout c =
    let r = c.args.self in
    let w = r.whole in
    let m = layout_of_view w in
    let is = counted_items (value_of_view w) c.args.i c.requires in
    let h = items_holder m w.content.now w.block w.bit is in
    let lt = holder_count m w.content.now w.block w.bit c.args.i is c.requires in
    let l = w.layouts.now in
    (item_child (noted_in l) (version_of l.version) w.node (view_node w) h).is

pub returns-clause-kind : goal.returns-clause-kind
returns-clause-kind c =
    let w = c.args.self.whole in
    let is = counted_items (value_of_view w) c.args.i c.requires in
    let l = w.layouts.now in
    item_pair (version_of l.version) l.nodes.items w.node l.listing (view_node w) (formed w)
    (items_holder (layout_of_view w) w.content.now w.block w.bit is) w.content.now w.block w.bit
