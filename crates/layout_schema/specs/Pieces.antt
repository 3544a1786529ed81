-- Bytes of the parts of a schema.
use Rattle.std.specs.Prelude.{ℕ, zero, suc, ℤ, pos, neg_ℤ, Bool, true, false, List, [], ◌∷◌, ◌++◌, length}
use Rattle.frozen_model.specs.Layouts.{Version, Version1, Version2}
use Rattle.compact_wire.specs.Number.{shortest, zigzag}
use Rattle.compact_wire.specs.Node.{Pairs}
use Rattle.compact_wire.specs.Canon.{canon_pairs}
use Rattle.compact_codec.specs.Wire.{wire, each_pair}
use Rattle.idl_profile.specs.Types.{scalar, i16}
use Rattle.frozen_model.specs.Values.{Values, count}
use Rattle.layout_tree.specs.declared.node.NodeSpec.{NodeSpec}
use Rattle.layout_schema.specs.Schemas.{field_type, layout_type, type_name, base_in, children_of}

-- a number of type i16, i32 or i64: the shortest spelling of its zigzag number
abbrev pub signed_number : ℤ → List ℕ
signed_number x = shortest (zigzag x)

-- A field with the id after the one before it begins with the byte 16 + its type code: 1 is true, 2 false, 4 an i16,
-- 5 an i32, 6 an i64, 8 a text, 11 a map.
abbrev pub flag_field : Bool → List ℕ
flag_field true = 17 ∷ []
flag_field false = 18 ∷ []

abbrev pub i16_field : ℤ → List ℕ
i16_field x = 20 ∷ signed_number x

abbrev pub i32_field : ℤ → List ℕ
i32_field x = 21 ∷ signed_number x

abbrev pub i64_field : ℤ → List ℕ
i64_field x = 22 ∷ signed_number x

abbrev pub text_field : List ℕ → List ℕ
text_field text = 24 ∷ (shortest (length text) ++ text)

-- the head of a map field: its size, and where it is not empty the codes of its keys, i16, and its values, structs
abbrev pub map_head : ℕ → List ℕ
map_head zero = 27 ∷ 0 ∷ []
map_head (suc n) = 27 ∷ (shortest (suc n) ++ 76 ∷ [])

-- the wire trees of children, and of layouts, with their keys
abbrev pub child_pairs : Values → Pairs
child_pairs vs = each_pair (wire (scalar i16)) (wire field_type) vs

abbrev pub layout_pairs : Version → Values → Pairs
layout_pairs v vs = each_pair (wire (scalar i16)) (wire (layout_type v)) vs

-- a child's key and what is said of it, by its number
abbrev pub child_bytes : ℕ → NodeSpec → List ℕ
child_bytes n s =
    signed_number s.field ++ (i16_field (pos n) ++ (i16_field (neg_ℤ (pos s.offset)) ++ 0 ∷ []))

abbrev pub base_bytes : Version → NodeSpec → List ℕ
base_bytes Version1 s = []
base_bytes Version2 s = i64_field (base_in s)

-- a node's number and its layout with these children
abbrev pub layout_bytes : Version → ℕ → NodeSpec → Values → List ℕ
layout_bytes v n s cs =
    signed_number (pos n)
    ++ (i32_field (pos 0) ++ (i16_field (pos s.bits) ++ (map_head (count cs) ++ (canon_pairs (child_pairs cs)
    ++ (text_field (type_name s.kind) ++ (base_bytes v s ++ 0 ∷ []))))))

-- of the first of these nodes, whose number is n
abbrev pub node_bytes : Version → ℕ → List NodeSpec → List ℕ
node_bytes v n [] = []
node_bytes v n (s ∷ ss) = layout_bytes v n s (children_of n (suc n) ss)
