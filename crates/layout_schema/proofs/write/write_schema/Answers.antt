use Rattle.std.proofs.Common.{rules, ◌≡◌, ◌+◌, ◌≤◌, arith, length, ap, sym, ◌∙◌, ◌++◌, pos, [], ◌∷◌}
use Rattle.compact_wire.specs.Canon.{canon_pairs}
use Rattle.frozen_model.specs.Values.{count}
use Rattle.frozen_model.specs.Trees.{nodes}
use Rattle.layout_tree.specs.declared.node.Kind.TheVariants as kinds
use Rattle.layout_tree.specs.Listing.{version_number}
use Rattle.layout_tree.specs.Nodes.{layout_of, listed, noted_in}
use Rattle.layout_schema.specs.Schemas.{layouts_of}
use Rattle.layout_schema.specs.Pieces.{flag_field, i16_field, i32_field, map_head, layout_pairs}
use Rattle.layout_schema.proofs.Alike.{same_layouts}
use Rattle.layout_schema.proofs.Places.{listed_length}
use Rattle.layout_schema.proofs.Spelled.{six_joined, schema_spelled, layouts_counted, next_layout, all_written}
use Rattle.layout_schema.proofs.write.write_schema.Goals as goal

pub loop-node-preserved : goal.loop-node-preserved
loop-node-preserved c =
    let l = c.args.layouts.now in
    let v = (layout_of l).version in
    let n = c.loop-node.node in
    let lt : n + 1 ≤ length (listed l) = omega (arith, listed_length l, c.count-node-end.ensures, c.loop-node-test.true) in
    next_layout v n (listed l) c.loop-node.out.items c.push_layout.new.out.items lt c.in_ok-push_layout.ensures ∙ c.loop-node.invariant

pub returns : goal.returns
returns c =
    let l = c.args.layouts.now in
    let v = (layout_of l).version in
    let xs = listed l in
    let ws = layouts_of v 0 xs in
    let all : count ws ≡ nodes (noted_in l) = layouts_counted v 0 xs ∙ listed_length l in
    let e1 : c.push_flag_field.new.out.items ≡ [] ++ flag_field (layout_of l).relaxed = search rules in
    let e2 : c.push_map_head.new.out.items ≡ c.push_flag_field.new.out.items ++ map_head (count ws) =
    c.in_ok-push_map_head.ensures ∙ ap (λ n. c.push_flag_field.new.out.items ++ map_head n) (c.count.ensures ∙ sym all) in
    let le : length xs ≤ c.loop-node.node = omega (arith, listed_length l, c.count-node-end.ensures, c.loop-node-test.false) in
    let e3 : c.loop-node.out.items ≡ c.push_map_head.new.out.items ++ canon_pairs (layout_pairs v ws) = all_written v c.loop-node.node xs c.loop-node.out.items le ∙ c.loop-node.invariant in
    let e4 : c.push_i16_field.new.out.items ≡ c.loop-node.out.items ++ i16_field (pos 0) = search rules in
    let e5 : c.push_i32_field.new.out.items ≡ c.push_i16_field.new.out.items ++ i32_field (version_number v) = search rules in
    let e6 : c.push.new.self.items ≡ c.push_i32_field.new.out.items ++ 0 ∷ [] = c.in_ok-push.ensures.items in
    six_joined [] (flag_field (layout_of l).relaxed) (map_head (count ws)) (canon_pairs (layout_pairs v ws)) (i16_field (pos 0)) (i32_field (version_number v)) (0 ∷ []) e1 e2 e3 e4 e5 e6
    ∙ schema_spelled (layout_of l).relaxed v (layout_of l).tree ws (same_layouts v (noted_in l) kinds.Struct 0 0 0 0)
