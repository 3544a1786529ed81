-- A table of users, and the layout that it is packed in.
use Rattle.std.specs.Prelude.{◌≡◌, ℕ, ◌+◌, ◌*◌, ◌/◌, ◌^◌, ◌<◌, List, [], ◌∷◌, ◌++◌, ℤ, pos, true, length}
use Rattle.std.specs.List.{AllByRecursion}
use Rattle.frozen_model.specs.Trees.{I32, Integer, Binary, AList, Leaf, ByteRange, ItemRange, Struct, NoField, Field}
use Rattle.frozen_model.specs.Values.{Value, Number, One, Bytes, Items, Record, NoValue, And}
use Rattle.frozen_model.specs.Layouts.{Layout, Described, described, Version2, FromBase}
use Rattle.key_order.specs.InOrder.{row}
use Rattle.layout_tree.specs.declared.node.Kind.{Kind}
use Rattle.layout_tree.specs.declared.node.NodeSpec.{NodeSpec}
use Rattle.typed_tree.specs.declared.builder.Builder.{Builder}
use Rattle.typed_tree.specs.Trees.{trees}

-- a user: its id, its score and its name
abbrev pub user : ℕ → ℕ → List ℕ → Value
user id score name =
    Record (1 ∷ 2 ∷ 3 ∷ []) (And (One (Number (pos id))) (And (One (Number (pos score))) (And (Bytes name) NoValue)))

pub record IsUser (v : Value) : Type 0 where
  pub id : ℕ
  pub score : ℕ
  pub name : List ℕ
  pub small_id : id < 2 ^ 17
  pub small_score : score < 2 ^ 7
  pub bytes : AllByRecursion (λ b. b < 256) name
  pub eight : length name ≡ 8
  pub is : v ≡ user id score name

-- one user more
pub record AddsUser (old new : Builder) : Type 0 where
  pub added : Value
  pub user : IsUser added
  pub trees : trees new ≡ trees old ++ added ∷ []

-- a struct of one list
abbrev pub table : List Value → Value
table users = Record (1 ∷ []) (And (Items AList (row users)) NoValue)

-- a table of n users
pub record IsTable (n : ℕ) (v : Value) : Type 0 where
  pub users : List Value
  pub each : AllByRecursion IsUser users
  pub many : length users ≡ n
  pub is : v ≡ table users

-- a whole number of a width, above a base of 0
abbrev pub whole : ℕ → Layout
whole w = Leaf (Integer I32) (FromBase (pos 0) w)

abbrev pub user_layout : Layout
user_layout = Struct (Field 1 (whole 17) (Field 2 (whole 7) (Field 3 (ByteRange Binary 21 4) NoField)))

abbrev pub table_layout : Layout
table_layout = Struct (Field 1 (ItemRange AList 2 17 user_layout) NoField)

abbrev pub described_table : Described
described_table = described Version2 true table_layout

-- a node of a layout whose base is 0 and whose width is noted as it is
abbrev pub plain_node : Kind → ℤ → ℕ → ℕ → ℕ → NodeSpec
plain_node k field parent bits offset = record {
  kind = k;
  field = field;
  parent = parent;
  bits = bits;
  wide = bits;
  offset = offset;
  base = pos 0;
}

-- the bytes of the packing of a table: the root, the users and their names
abbrev pub packed_bytes : ℕ → ℕ
packed_bytes n = 3 + ((49 * n + 7) / 8 + 8 * n)
