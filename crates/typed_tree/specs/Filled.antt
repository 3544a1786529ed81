-- Links to the fields of a struct type, and as what defaults are made.
use Rattle.std.specs.Prelude.{ℕ, List, map, zip, unsigned_abs}
use Rattle.idl_profile.specs.declared.kinds.Need.{Need}
use Rattle.idl_profile.specs.declared.kinds.Need.TheVariants.{Plain, Required, Optional}
use Rattle.idl_profile.specs.declared.kinds.TypeKind.{TypeKind}
use Rattle.idl_profile.specs.declared.kinds.TypeKind.TheVariants as t
use Rattle.idl_profile.specs.Types.{TypeTree, DefField, kind_of}
use Rattle.frozen_model.specs.Values.{Value, Record}
use Rattle.key_order.specs.InOrder.{row}
use Rattle.typed_tree.specs.declared.spot.Link.{Link}
use Rattle.typed_tree.specs.declared.tree.TreeKind.{TreeKind}
use Rattle.typed_tree.specs.declared.tree.TreeKind.TheVariants as k
use Rattle.typed_tree.specs.Fields.{field_link}

-- the ids of these fields of a definition, which are from 1 on
abbrev pub natural_ids : List DefField → List ℕ
natural_ids fs = map (λ f. unsigned_abs f.id) fs

-- links to nodes under the ids of these fields
abbrev pub links_of : List DefField → List ℕ → List Link
links_of fs nodes = map field_link (zip (natural_ids fs) nodes)

-- the struct of these fields with these values
abbrev pub struct_with : List DefField → List Value → Value
struct_with fs vs = Record (natural_ids fs) (row vs)

-- as what a value of a type of this kind is made
abbrev pub made_as : TypeKind → TreeKind
made_as t.Flag = k.Flag
made_as t.I8 = k.Int
made_as t.I16 = k.Int
made_as t.I32 = k.Int
made_as t.I64 = k.Int
made_as t.Enum = k.Int
made_as t.Text = k.Text
made_as t.Bytes = k.Bytes
made_as t.List = k.List
made_as t.Set = k.Set
made_as t.Map = k.Map
made_as t.Struct = k.Struct

abbrev pub made_by_need : Need → TypeTree → TreeKind
made_by_need Optional t = k.Absent
made_by_need Plain t = made_as (kind_of t)
made_by_need Required t = made_as (kind_of t)

-- as what the default of a field is made
abbrev pub default_kind : DefField → TreeKind
default_kind f = made_by_need f.need f.type
