-- What is read of a schema's value, and what each step of the walk over its layouts has done.
use Rattle.std.specs.Prelude.{◌≡◌, ℕ, ◌+◌, ◌≤◌, ℤ, nat_abs, if◌then◌else◌, List, [], ◌∷◌, ◌++◌, map}
use Rattle.std.specs.List.{AllByRecursion}
use Rattle.std.specs.Prelude.{Option, Some, None, Result, Ok, Err}
use Rattle.frozen_model.specs.Trees.{AMap}
use Rattle.frozen_model.specs.Values.{Value, Values, Items, Of}
use Rattle.frozen_model.specs.Layouts.{Version}
use Rattle.compact_wire.specs.declared.kind.Kind.TheVariants as k
use Rattle.compact_wire.specs.Reads.{value}
use Rattle.compact_codec.specs.Building.{IsClean}
use Rattle.idl_profile.specs.Types.{TypeTree, scalar, i16, map_of}
use Rattle.idl_parse.specs.Refs.{type_of_ref}
use Rattle.key_order.specs.InOrder.{row}
use Rattle.type_kinds.specs.KindsOf.{kinds_of}
use Rattle.typed_tree.specs.References.{value_of_ref}
use Rattle.layout_tree.specs.declared.node.NodeSpec.{NodeSpec}
use Rattle.layout_tree.specs.declared.node.Kind.{Kind}
use Rattle.layout_schema.specs.declared.fault.SchemaFault.{SchemaFault}
use Rattle.layout_schema.specs.declared.fault.SchemaFault.TheVariants as fault
use Rattle.layout_schema.specs.declared.entries.Entries.{Entries}
use Rattle.layout_schema.specs.declared.entries.EntryRef.{EntryRef}
use Rattle.layout_schema.specs.declared.entries.ChildRef.{ChildRef}
use Rattle.layout_schema.specs.declared.table.LayoutBytes.{LayoutBytes}
use Rattle.layout_schema.specs.declared.entering.Place.{Place}
use Rattle.layout_schema.specs.declared.entering.Place.TheVariants as p
use Rattle.layout_schema.specs.declared.entering.At.{At}
use Rattle.layout_schema.specs.declared.walk.Widths.{Widths}
use Rattle.layout_schema.specs.Schemas.{layout_type, schema_type}
use Rattle.layout_schema.specs.Standing.{spelled_as}
use Rattle.layout_schema.specs.Table.{layout_value, IsWhole}
use Rattle.layout_schema.specs.Shapes as shapes
use Rattle.layout_schema.specs.Shapes.{Walked, entry_in, is_inline, greatest_of, done}

-- ---- values of a schema's types, in either version

abbrev pub IsSchemaValue : Value → Type 0
IsSchemaValue s = (v : Version) × Of (kinds_of (schema_type v)) s

-- the bytes spell a value of the type, which is a version's
pub record IsSpelledSchema (t : TypeTree) (b : List ℕ) : Type 0 where
  pub version : Version
  pub typed : t ≡ schema_type version
  pub clean : IsClean t (value 64 k.Struct b)
  pub kinds : Of (kinds_of (schema_type version)) (spelled_as t b)

abbrev pub AreLayouts : Value → Type 0
AreLayouts m = (v : Version) × Of (kinds_of (map_of (scalar i16) (layout_type v))) m

abbrev pub IsLayoutValue : Value → Type 0
IsLayoutValue x = (v : Version) × Of (kinds_of (layout_type v)) x

-- the bytes spell a layout of the type, which is a version's
pub record IsSpelledLayout (e : Entries) (x : LayoutBytes) : Type 0 where
  pub version : Version
  pub typed : type_of_ref e.ty ≡ layout_type version
  pub whole : IsWhole (type_of_ref e.ty) x
  pub layout : IsLayoutValue (spelled_as (type_of_ref e.ty) x.bytes.now)

-- ---- what references and places stand for

abbrev pub layouts_told : Entries → Values
layouts_told e = row (map (layout_value (type_of_ref e.ty)) e.layouts.now)

-- the layouts are of a version's type, and each is spelled
pub record AreEntries (e : Entries) : Type 0 where
  pub version : Version
  pub typed : type_of_ref e.ty ≡ layout_type version
  pub layouts : AreLayouts (Items AMap (layouts_told e))
  pub whole : AllByRecursion (IsWhole (type_of_ref e.ty)) e.layouts.now

-- what the bytes of a layout say of a node
abbrev pub bytes_told : Entries → LayoutBytes → shapes.Entry
bytes_told e x = entry_in (spelled_as (type_of_ref e.ty) x.bytes.now)

abbrev pub entry_told : EntryRef → shapes.Entry
entry_told e = entry_in (value_of_ref e.layout)

abbrev pub child_told : ChildRef → shapes.Child
child_told c = record { field = c.field; number = c.number; offset = c.offset }

abbrev pub place_told : Place → shapes.Place
place_told p.Root = shapes.AtRoot
place_told p.InStruct = shapes.InStruct
place_told p.InList = shapes.InList
place_told p.InSet = shapes.InSet
place_told p.InMap = shapes.InMap
place_told p.First = shapes.AtFirst
place_told p.Value = shapes.AtValue
place_told p.Isset = shapes.AtIsset
place_told p.Size = shapes.AtSize

abbrev pub at_told : At → shapes.At
at_told at = record {
  place = place_told at.place;
  level = at.level;
  parent = at.parent;
  field = at.field;
  offset = at.offset;
}

-- ---- steps of the walk

abbrev pub walked : List NodeSpec → Widths → Walked
walked ns w = record { nodes = ns; bits = w.bits; greatest = w.greatest }

-- widths with those of a child; what is not inline adds nothing
abbrev pub with_child : Widths → shapes.Place → Widths → Widths
with_child w place child = record {
  bits = w.bits + (if is_inline place then child.bits else 0);
  greatest = w.greatest + (if is_inline place then child.greatest else 0);
}

-- the widths of a part whose node may be entered
pub record AreSmall (w : Widths) : Type 0 where
  pub bits : w.bits ≤ 32767
  pub greatest : w.greatest ≤ 32767

-- the number at fault in place of a result, or that memory ran out
abbrev pub IsAtFault : {A : Type 0} → SchemaFault → Result A ℤ → Type 0
IsAtFault (fault.Shape z) r = r ≡ Err z
IsAtFault fault.NoMemory r = Unit {0}
IsAtFault _ r = ⊥

-- a walk has appended the nodes of what it is to walk, and answers the widths, or the fault of that
abbrev pub Walks : List NodeSpec → List NodeSpec → Result Widths SchemaFault → Result Walked ℤ → Type 0
Walks old new (Ok w) r = (ns : List NodeSpec) × (new ≡ old ++ ns) × (r ≡ Ok (walked ns w))
Walks old new (Err f) r = IsAtFault f r

-- the node that a layout says
abbrev pub node_at : shapes.At → shapes.Entry → Kind → NodeSpec
node_at at x k = record {
  kind = k;
  field = at.field;
  parent = at.parent;
  bits = nat_abs x.bits;
  wide = nat_abs x.bits;
  offset = at.offset;
  base = x.base;
}

-- a leaf has no nodes below
abbrev pub NoneAtLeaf : Option ℕ → List NodeSpec → Type 0
NoneAtLeaf (Some g) ns = ns ≡ []
NoneAtLeaf None ns = Unit {0}

-- the answer for a node with these widths below it, wherever it stands and whatever nodes are below
abbrev pub Finishes : Result Widths SchemaFault → ℕ → shapes.Entry → Kind → Widths → Type 0
Finishes (Ok w) n x k below = (at : shapes.At) (ns : List NodeSpec) → NoneAtLeaf (greatest_of k) ns
    → done at n x k (greatest_of k) (walked ns below) ≡ Ok (walked (node_at at x k ∷ ns) w)
Finishes (Err f) n x k below = (at : shapes.At) (ns : List NodeSpec)
    → IsAtFault f (done at n x k (greatest_of k) (walked ns below))
