-- The finite tree of a type, and its measures.
use Rattle.std.specs.Prelude.{ℕ, zero, suc, ◌+◌, max, List, [], ◌∷◌, ◌++◌}
use Rattle.std.specs.List.{fold}
use Rattle.idl_profile.specs.declared.kinds.BaseType.{BaseType}
use Rattle.idl_profile.specs.declared.kinds.BaseType.TheVariants as k
use Rattle.idl_profile.specs.declared.kinds.Need.TheVariants.{Plain, Required, Optional}
use Rattle.idl_profile.specs.Types as types
use Rattle.idl_profile.specs.Types.{TypeTree, list_of, set_of, map_of, named, Fields, no_fields, Scalar as Flat, flag, i8, i16, i32, i64}
use Rattle.idl_profile.specs.Meaning.{Ty, scalar, enum, struct, list, set, map, MeantField, MeantNamed, enum_of, struct_of}

-- the type of a scalar, string or binary
abbrev pub scalar_tree : BaseType → TypeTree
scalar_tree k.Flag = types.scalar types.flag
scalar_tree k.I8 = types.scalar types.i8
scalar_tree k.I16 = types.scalar types.i16
scalar_tree k.I32 = types.scalar types.i32
scalar_tree k.I64 = types.scalar types.i64
scalar_tree k.Text = types.text
scalar_tree k.Bytes = types.bytes

-- the enum or struct of this number; there is none beyond the last
abbrev pub at : List TypeTree → ℕ → TypeTree
at [] n = types.scalar flag
at (t ∷ ts) zero = t
at (t ∷ ts) (suc n) = at ts n

-- a type's tree, where the enums and structs stand for these trees
abbrev pub tree : List TypeTree → Ty → TypeTree
tree ts (scalar s) = scalar_tree s
tree ts (enum n) = at ts n
tree ts (struct n) = at ts n
tree ts (list x) = list_of (tree ts x)
tree ts (set x) = set_of (tree ts x)
tree ts (map x y) = map_of (tree ts x) (tree ts y)

abbrev pub fields : List TypeTree → List MeantField → Fields
fields ts [] = no_fields
fields ts (f ∷ fs) = types.field f.id f.name f.need (tree ts f.type) f.default (fields ts fs)

abbrev pub named_of : List TypeTree → MeantNamed → types.Named
named_of ts (enum_of w ms) = types.enum_of w ms
named_of ts (struct_of w fs) = types.struct_of w (fields ts fs)

abbrev pub named_tree : List TypeTree → MeantNamed → TypeTree
named_tree ts n = named (named_of ts n)

-- the tree of each enum and struct, from those before it
abbrev pub trees : List MeantNamed → List TypeTree
trees ns = fold (λ ts n. ts ++ named_tree ts n ∷ []) [] ns

-- 1 for what has nothing inside; else 1 more than the greatest inside, an empty struct 1
abbrev mutual
  pub depth : TypeTree → ℕ
  depth (types.scalar s) = 1
  depth types.text = 1
  depth types.bytes = 1
  depth (list_of x) = suc (depth x)
  depth (set_of x) = suc (depth x)
  depth (map_of x y) = suc (max (depth x) (depth y))
  depth (named n) = named_depth n

  pub named_depth : types.Named → ℕ
  named_depth (types.enum_of w ms) = 1
  named_depth (types.struct_of w fs) = suc (depths fs)

  pub depths : Fields → ℕ
  depths no_fields = 0
  depths (types.field i w n t d fs) = max (depth t) (depths fs)

-- layout nodes: a string, binary, list, set or map has a distance and a count; a map's pair and an optional are nodes too, and an optional has a flag
abbrev mutual
  pub nodes : TypeTree → ℕ
  nodes (types.scalar s) = 1
  nodes types.text = 3
  nodes types.bytes = 3
  nodes (list_of x) = 3 + nodes x
  nodes (set_of x) = 3 + nodes x
  nodes (map_of x y) = 4 + (nodes x + nodes y)
  nodes (named n) = named_nodes n

  pub named_nodes : types.Named → ℕ
  named_nodes (types.enum_of w ms) = 1
  named_nodes (types.struct_of w fs) = suc (all_nodes fs)

  pub all_nodes : Fields → ℕ
  all_nodes no_fields = 0
  all_nodes (types.field i w Optional t d fs) = 2 + (nodes t + all_nodes fs)
  all_nodes (types.field i w Plain t d fs) = nodes t + all_nodes fs
  all_nodes (types.field i w Required t d fs) = nodes t + all_nodes fs

abbrev pub scalar_bits : Flat → ℕ
scalar_bits flag = 1
scalar_bits i8 = 8
scalar_bits i16 = 16
scalar_bits i32 = 32
scalar_bits i64 = 64

-- greatest inline bits: a distance and a count have 32 each, and what they point to is not inline
abbrev mutual
  pub bits : TypeTree → ℕ
  bits (types.scalar s) = scalar_bits s
  bits types.text = 64
  bits types.bytes = 64
  bits (list_of x) = 64
  bits (set_of x) = 64
  bits (map_of x y) = 64
  bits (named n) = named_bits n

  pub named_bits : types.Named → ℕ
  named_bits (types.enum_of w ms) = 32
  named_bits (types.struct_of w fs) = all_bits fs

  pub all_bits : Fields → ℕ
  all_bits no_fields = 0
  all_bits (types.field i w Optional t d fs) = 1 + (bits t + all_bits fs)
  all_bits (types.field i w Plain t d fs) = bits t + all_bits fs
  all_bits (types.field i w Required t d fs) = bits t + all_bits fs

-- the greatest inline bits of a pair inside
abbrev mutual
  pub widest : TypeTree → ℕ
  widest (types.scalar s) = 0
  widest types.text = 0
  widest types.bytes = 0
  widest (list_of x) = widest x
  widest (set_of x) = widest x
  widest (map_of x y) = max (bits x + bits y) (max (widest x) (widest y))
  widest (named n) = named_widest n

  pub named_widest : types.Named → ℕ
  named_widest (types.enum_of w ms) = 0
  named_widest (types.struct_of w fs) = all_widest fs

  pub all_widest : Fields → ℕ
  all_widest no_fields = 0
  all_widest (types.field i w n t d fs) = max (widest t) (all_widest fs)
