-- The canonical spelling of a schema, piece by piece.
use Rattle.std.proofs.Common.{◌≡◌, ℕ, suc, ◌+◌, ◌≤◌, arith, drop, length-drop, pos, Bool, true, false, List, [], ◌∷◌, ◌++◌, length, refl, ap, sym, append_assoc, ◌∙◌}
use Rattle.std.proofs.lemmas.List.{append-nil, drop-drop, drop_all}
use Rattle.idl_profile.specs.Types.{scalar, i16}
use Rattle.frozen_model.specs.Values.{Value, Values, NoValue, And, count}
use Rattle.frozen_model.specs.Layouts.{Version, Version1, Version2, Layout}
use Rattle.compact_wire.specs.Node as node
use Rattle.compact_wire.specs.Node.{Node, Fields, no_fields, field, binary}
use Rattle.compact_wire.specs.Canon.{canon, pairs_count, canon_pairs, canon_fields}
use Rattle.compact_codec.specs.Wire.{wire, each_pair, map_with}
use Rattle.layout_tree.specs.declared.node.NodeSpec.{NodeSpec}
use Rattle.layout_tree.specs.Listing.{version_number}
use Rattle.layout_tree.specs.Given.{shown_nodes, noted_from}
use Rattle.layout_schema.specs.Schemas.{field_type, layout_type, schema_type, type_name, base_in, child_value, children_of, layout_of_node, layouts_of, schema_with}
use Rattle.layout_schema.specs.Pieces.{signed_number, flag_field, i16_field, i32_field, text_field, map_head, child_pairs, layout_pairs, child_bytes, base_bytes, layout_bytes, node_bytes}

counted : (f g : Value → Node) (vs : Values) → pairs_count (each_pair f g vs) ≡ count vs
counted f g NoValue = refl
counted f g (And v vs) = ap suc (counted f g vs)

-- the children of a layout, and the layouts of a schema
children_spelled : (vs : Values) (xs : Fields) → canon_fields (pos 2) (field (pos 3) (map_with 4 12 (child_pairs vs)) xs) ≡ map_head (count vs) ++ (canon_pairs (child_pairs vs) ++ canon_fields (pos 3) xs)
children_spelled NoValue xs = refl
children_spelled (And v vs) xs = let e = counted (wire (scalar i16)) (wire field_type) vs in simp (append_assoc, e) refl

layouts_spelled : (v : Version) (vs : Values) (xs : Fields) → canon_fields (pos 1) (field (pos 2) (map_with 4 12 (layout_pairs v vs)) xs) ≡ map_head (count vs) ++ (canon_pairs (layout_pairs v vs) ++ canon_fields (pos 2) xs)
layouts_spelled v NoValue xs = refl
layouts_spelled v (And x vs) xs = let e = counted (wire (scalar i16)) (wire (layout_type v)) vs in simp (append_assoc, e) refl

pub child_spelled : (n : ℕ) (s : NodeSpec) (rest : List ℕ) → signed_number s.field ++ (canon (wire field_type (child_value n s)) ++ rest) ≡ child_bytes n s ++ rest
child_spelled n s rest = simp append_assoc refl

pub layout_spelled : (v : Version) (n : ℕ) (s : NodeSpec) (cs : Values) (later : List ℕ) → signed_number (pos n) ++ (canon (wire (layout_type v) (layout_of_node v s cs)) ++ later) ≡ layout_bytes v n s cs ++ later
layout_spelled Version1 n s cs later =
    ap (λ r. signed_number (pos n) ++ ((21 ∷ (signed_number (pos 0) ++ (20 ∷ (signed_number (pos s.bits) ++ r)))) ++ later))
    (children_spelled cs (field (pos 4) (binary (type_name s.kind)) no_fields))
    ∙ sym (append_assoc (signed_number (pos n)) (i32_field (pos 0) ++ (i16_field (pos s.bits) ++ (map_head (count cs) ++ (canon_pairs (child_pairs cs) ++ (text_field (type_name s.kind) ++ (base_bytes Version1 s ++ 0 ∷ [])))))) later)
layout_spelled Version2 n s cs later =
    ap (λ r. signed_number (pos n) ++ ((21 ∷ (signed_number (pos 0) ++ (20 ∷ (signed_number (pos s.bits) ++ r)))) ++ later))
    (children_spelled cs (field (pos 4) (binary (type_name s.kind)) (field (pos 5) (node.i64 (base_in s)) no_fields)))
    ∙ sym (append_assoc (signed_number (pos n)) (i32_field (pos 0) ++ (i16_field (pos s.bits) ++ (map_head (count cs) ++ (canon_pairs (child_pairs cs) ++ (text_field (type_name s.kind) ++ (base_bytes Version2 s ++ 0 ∷ [])))))) later)

-- eight pieces, appended one after the other
pub joined : (o a b c d e f g h : List ℕ) {o1 o2 o3 o4 o5 o6 o7 o8 : List ℕ} → o1 ≡ o ++ a → o2 ≡ o1 ++ b → o3 ≡ o2 ++ c → o4 ≡ o3 ++ d → o5 ≡ o4 ++ e
    → o6 ≡ o5 ++ f → o7 ≡ o6 ++ g → o8 ≡ o7 ++ h → o8 ≡ o ++ (a ++ (b ++ (c ++ (d ++ (e ++ (f ++ (g ++ h)))))))
joined o a b c d e f g h e1 e2 e3 e4 e5 e6 e7 e8 =
    e8 ∙ ap (λ r. r ++ h) (e7 ∙ ap (λ r. r ++ g) (e6 ∙ ap (λ r. r ++ f) (e5 ∙ ap (λ r. r ++ e) (e4 ∙ ap (λ r. r ++ d) (e3 ∙ ap (λ r. r ++ c) (e2 ∙ ap (λ r. r ++ b) e1))))))
    ∙ simp append_assoc refl

-- six pieces
pub six_joined : (o a b c d e f : List ℕ) {o1 o2 o3 o4 o5 o6 : List ℕ} → o1 ≡ o ++ a → o2 ≡ o1 ++ b → o3 ≡ o2 ++ c → o4 ≡ o3 ++ d → o5 ≡ o4 ++ e
    → o6 ≡ o5 ++ f → o6 ≡ o ++ (a ++ (b ++ (c ++ (d ++ (e ++ f)))))
six_joined o a b c d e f e1 e2 e3 e4 e5 e6 =
    e6 ∙ ap (λ r. r ++ f) (e5 ∙ ap (λ r. r ++ e) (e4 ∙ ap (λ r. r ++ d) (e3 ∙ ap (λ r. r ++ c) (e2 ∙ ap (λ r. r ++ b) e1))))
    ∙ simp append_assoc refl

-- the pieces of a schema with these layouts
pub schema_spelled : (relaxes : Bool) (v : Version) (l : Layout) (vs : Values) → vs ≡ layouts_of v 0 (shown_nodes (noted_from l))
    → flag_field relaxes ++ (map_head (count vs) ++ (canon_pairs (layout_pairs v vs) ++ (i16_field (pos 0) ++ (i32_field (version_number v) ++ 0 ∷ [])))) ≡ canon (wire (schema_type v) (schema_with relaxes v l))
schema_spelled true v l vs e =
    let xs = field (pos 3) (node.i16 (pos 0)) (field (pos 4) (node.i32 (version_number v)) no_fields) in
    ap (λ r. 17 ∷ r) (sym (layouts_spelled v vs xs)) ∙ ap (λ r. 17 ∷ canon_fields (pos 1) (field (pos 2) (map_with 4 12 (layout_pairs v r)) xs)) e
schema_spelled false v l vs e =
    let xs = field (pos 3) (node.i16 (pos 0)) (field (pos 4) (node.i32 (version_number v)) no_fields) in
    ap (λ r. 18 ∷ r) (sym (layouts_spelled v vs xs)) ∙ ap (λ r. 18 ∷ canon_fields (pos 1) (field (pos 2) (map_with 4 12 (layout_pairs v r)) xs)) e

pub layouts_counted : (v : Version) (n : ℕ) (xs : List NodeSpec) → count (layouts_of v n xs) ≡ length xs
layouts_counted v n [] = refl
layouts_counted v n (x ∷ xs) = ap suc (layouts_counted v (suc n) xs)

-- a layout more, of the nodes that are left
pub next_layout : (v : Version) (n : ℕ) (xs : List NodeSpec) (out more : List ℕ) → n + 1 ≤ length xs → more ≡ out ++ node_bytes v n (drop n xs)
    → more ++ canon_pairs (layout_pairs v (layouts_of v (n + 1) (drop (n + 1) xs))) ≡ out ++ canon_pairs (layout_pairs v (layouts_of v n (drop n xs)))
next_layout v n xs out more le e = go (drop n xs) refl
  where
    go : (ys : List NodeSpec) → drop n xs ≡ ys → more ++ canon_pairs (layout_pairs v (layouts_of v (n + 1) (drop (n + 1) xs))) ≡ out ++ canon_pairs (layout_pairs v (layouts_of v n (drop n xs)))
    go [] h = absurd (omega (arith, ap length h, length-drop n xs))
    go (y ∷ ys) h =
        let later : drop (n + 1) xs ≡ ys = sym (drop-drop 1 n xs) ∙ ap (drop 1) h in
        let one : n + 1 ≡ suc n = omega arith in
        let mine = layout_bytes v n y (children_of n (suc n) ys) in
        let left = canon_pairs (layout_pairs v (layouts_of v (suc n) ys)) in
        ap (λ r. r ++ canon_pairs (layout_pairs v (layouts_of v (n + 1) (drop (n + 1) xs)))) (e ∙ ap (λ r. out ++ node_bytes v n r) h)
        ∙ ap (λ r. (out ++ mine) ++ canon_pairs (layout_pairs v (layouts_of v (n + 1) r))) later
        ∙ ap (λ k. (out ++ mine) ++ canon_pairs (layout_pairs v (layouts_of v k ys))) one
        ∙ append_assoc out mine left
        ∙ ap (λ r. out ++ r) (sym (layout_spelled v n y (children_of n (suc n) ys) left))
        ∙ ap (λ r. out ++ canon_pairs (layout_pairs v (layouts_of v n r))) (sym h)

-- no layout is left
pub all_written : (v : Version) (n : ℕ) (xs : List NodeSpec) (out : List ℕ) → length xs ≤ n → out ≡ out ++ canon_pairs (layout_pairs v (layouts_of v n (drop n xs)))
all_written v n xs out le = sym (append-nil out) ∙ ap (λ r. out ++ canon_pairs (layout_pairs v (layouts_of v n r))) (sym (drop_all n xs le))
