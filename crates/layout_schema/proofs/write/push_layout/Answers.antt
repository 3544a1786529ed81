use Rattle.std.proofs.Common.{rules, ◌≡◌, suc, drop, ap, sym, ◌∙◌, ◌++◌, pos, [], ◌∷◌, w32}
use Rattle.std.proofs.lemmas.Int.{to_z-of_z}
use mir.Val.{SFits, to_z, of_z}
use Rattle.compact_wire.specs.Canon.{canon_pairs}
use Rattle.frozen_model.specs.Values.{count}
use Rattle.layout_tree.specs.Listing.{version_number}
use Rattle.layout_tree.specs.Nodes.{layout_of, listed}
use Rattle.layout_schema.specs.Schemas.{type_name, children_of}
use Rattle.layout_schema.specs.Pieces.{node_bytes, signed_number, i32_field, i16_field, text_field, map_head, base_bytes, child_pairs}
use Rattle.layout_schema.proofs.Places.{drop_get}
use Rattle.layout_schema.proofs.Spelled.{joined}
use Rattle.layout_schema.proofs.write.push_layout.Goals as goal

pub returns : goal.returns
returns c =
    let l = c.args.layouts.now in
    let n = c.args.node in
    let x = c.node-spec.result in
    let v = (layout_of l).version in
    let cs = children_of n (suc n) (drop (suc n) (listed l)) in
    let o = c.args.out.now.items in
    let e1 : c.push_signed.new.out.items ≡ o ++ signed_number (pos n) = search rules in
    let e2 : c.push_i32_field.new.out.items ≡ c.push_signed.new.out.items ++ i32_field (pos 0) = search rules in
    let e3 : c.push_i16_field.new.out.items ≡ c.push_i32_field.new.out.items ++ i16_field (pos x.bits) = search rules in
    let e4 : c.push_map_head.new.out.items ≡ c.push_i16_field.new.out.items ++ map_head (count cs) = search rules in
    let e5 : c.push_children.new.out.items ≡ c.push_map_head.new.out.items ++ canon_pairs (child_pairs cs) = search rules in
    let e6 : c.push_text_field.new.out.items ≡ c.push_children.new.out.items ++ text_field (type_name x.kind) = search rules in
    let f : SFits w32 c.version.result = search rules in
    let is : to_z w32 (of_z w32 c.version.result) ≡ version_number v = to_z-of_z w32 c.version.result f ∙ c.version.ensures in
    let e7 : c.push_base.new.out.items ≡ c.push_text_field.new.out.items ++ base_bytes v x = c.in_ok-push_base.ensures v is in
    let e8 : c.push.new.self.items ≡ c.push_base.new.out.items ++ 0 ∷ [] = c.in_ok-push.ensures.items in
    joined o (signed_number (pos n)) (i32_field (pos 0)) (i16_field (pos x.bits)) (map_head (count cs)) (canon_pairs (child_pairs cs)) (text_field (type_name x.kind)) (base_bytes v x) (0 ∷ [])
    e1 e2 e3 e4 e5 e6 e7 e8
    ∙ ap (λ r. o ++ node_bytes v n r) (sym (drop_get (listed l) n x c.node-spec.ensures))
