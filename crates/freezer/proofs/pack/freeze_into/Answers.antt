use mir.Val.{of_z}
use Rattle.freezer.proofs.Stores.{based_is}
use Rattle.std.proofs.Common.{w32, ◌≡◌, ◌+◌, ◌/◌, arith, ap, sym, ◌∙◌, subst}
use Rattle.frozen_model.specs.Layouts.{Layout, stride}
use Rattle.frozen_model.specs.Packing.{bytes_for}
use Rattle.layout_tree.specs.Nodes.{at, layout_of}
use Rattle.layout_tree.specs.Listing.{tree_of, version_of, layout_in}
use Rattle.layout_tree.proofs.Children.{root_sub, root_node}
use Rattle.typed_tree.specs.References.{value_of_ref}
use Rattle.freezer.specs.Writing.{Ready, Wrote}
use Rattle.freezer.proofs.Whole.{root_ready, whole}
use Rattle.freezer.proofs.pack.freeze_into.Goals as goal

pub bits-bits-requires : goal.bits-bits-requires
bits-bits-requires c = root_node (tree_of c.args.layouts.now.nodes.items)

pub write_part-requires : goal.write_part-requires
write_part-requires c =
    let lay = c.args.layouts.now in
    let t = tree_of lay.nodes.items in
    let v = version_of lay.version in
    let l = (layout_of lay).tree in
    let u = value_of_ref c.args.v in
    let old = c.args.region.now in
    let e0 : at lay 0 ≡ l = ap (layout_in v) (root_sub t) in
    let es : c.bits-bits.result ≡ stride l = c.bits-bits.ensures.bits ∙ ap stride e0 in
    let n = (c.bits-bits.result + 7) / 8 in
    let en : n ≡ bytes_for (stride l) = ap (λ z. (z + 7) / 8) es in
    let i = c.in-Some in
    record {
      based = based_is v (of_z w32 c.version-based.result) (ap (of_z w32) c.version-based.ensures);
      node = root_node t;
      ready = subst (λ (z : Layout). Ready z u c.take.new.self i.root 0) (sym e0)
          (root_ready l u old c.take.new.self i.root n c.requires.holds en
          (omega (arith, es, c.bits-bits.type_inv)) i.ensures.block i.ensures.after c.requires.left);
    }

pub returns : goal.returns
returns c =
    let lay = c.args.layouts.now in
    let t = tree_of lay.nodes.items in
    let v = version_of lay.version in
    let l = (layout_of lay).tree in
    let u = value_of_ref c.args.v in
    let old = c.args.region.now in
    let e0 : at lay 0 ≡ l = ap (layout_in v) (root_sub t) in
    let es : c.bits-bits.result ≡ stride l = c.bits-bits.ensures.bits ∙ ap stride e0 in
    let n = (c.bits-bits.result + 7) / 8 in
    let en : n ≡ bytes_for (stride l) = ap (λ z. (z + 7) / 8) es in
    let i = c.in-Some in
    let new = c.write_part.new.region in
    let w = whole l u old c.take.new.self new i.root n en i.ensures.block i.ensures.after c.requires.left
    c.left-left.ensures.region.blank c.left-left.ensures.bytes c.left-left-2.ensures.bytes
    (subst (λ (z : Layout). Wrote z u c.take.new.self new i.root 0) e0 c.write_part.ensures) in
    record { taken = w.taken; length = w.length; before = w.before; packed = w.packed }

pub returns-in_default : goal.returns-in_default
returns-in_default c =
    let lay = c.args.layouts.now in
    let t = tree_of lay.nodes.items in
    let v = version_of lay.version in
    let l = (layout_of lay).tree in
    let u = value_of_ref c.args.v in
    let old = c.args.region.now in
    let e0 : at lay 0 ≡ l = ap (layout_in v) (root_sub t) in
    let es : c.bits-bits.result ≡ stride l = c.bits-bits.ensures.bits ∙ ap stride e0 in
    let n = (c.bits-bits.result + 7) / 8 in
    let en : n ≡ bytes_for (stride l) = ap (λ z. (z + 7) / 8) es in
    let h = c.in_default.ensures.enough.1 (omega (arith, c.requires.left, en)) in
    absurd cc
