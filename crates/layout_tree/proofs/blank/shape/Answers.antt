use Rattle.std.proofs.Common.{arith}
use Rattle.idl_profile.specs.Types.{root_of}
use Rattle.idl_parse.specs.Refs.{type_of_ref}
use Rattle.idl_parse.specs.Parsed.{definition_of}
use Rattle.type_kinds.specs.KindsOf.{kinds_of}
use Rattle.idl_parse.proofs.Meant.{text_means}
use Rattle.layout_tree.proofs.Shaped.{shaped, root_room, root_added}
use Rattle.layout_tree.proofs.blank.shape.Goals as goal

pub add_type-requires : goal.add_type-requires
add_type-requires c =
    let u = root_of (definition_of c.args.def.now) in
    let h = c.roots_have_kinds.ensures.kinds _ _ (text_means c.args.def.now) in
    record {
      room = root_room c.new-nodes.result.items (type_of_ref c.root.result) u c.new-nodes.ensures.items
          c.root.ensures.tree h.0;
      field = omega arith;
    }

pub invariant_of-result : goal.invariant_of-result
invariant_of-result c =
    let u = root_of (definition_of c.args.def.now) in
    let h = c.roots_have_kinds.ensures.kinds _ _ (text_means c.args.def.now) in
    let new = c.add_type.new.nodes.items in
    let s = shaped (kinds_of u) new h.0 h.1 (root_added c.new-nodes.result.items new
    (type_of_ref c.root.result) u c.new-nodes.ensures.items c.root.ensures.tree
    c.in_ok-add_type.ensures.added) in
    record { listing = s.listing; sound = s.sound; relaxing = ∣ tt ∣₁ }

pub returns : goal.returns
returns c =
    let u = root_of (definition_of c.args.def.now) in
    let h = c.roots_have_kinds.ensures.kinds _ _ (text_means c.args.def.now) in
    let new = c.add_type.new.nodes.items in
    let s = shaped (kinds_of u) new h.0 h.1 (root_added c.new-nodes.result.items new
    (type_of_ref c.root.result) u c.new-nodes.ensures.items c.root.ensures.tree
    c.in_ok-add_type.ensures.added) in
    record { layout = s.layout; settled = s.settled; noted = s.tells }
