-- What a view stands for.
use Rattle.std.specs.Prelude.{Bool, Option}
use Rattle.frozen_model.specs.Values.{Value, Absent}
use Rattle.frozen_model.specs.Layouts.{Layout}
use Rattle.typed_tree.specs.Parts.{IsFlag, IsInt, IsText, IsBytes, IsList, IsSet, IsMap, IsRecord, IsPresent}
use Rattle.layout_tree.specs.declared.node.Kind.{Kind}
use Rattle.layout_tree.specs.declared.node.Kind.TheVariants as k
use Rattle.layout_tree.specs.Nodes.{layout_of, at, kind_of_node}
use Rattle.bit_view.specs.declared.view.View.{View}
use Rattle.bit_view.specs.Lying.{IsPart}
use Rattle.bit_view.specs.InPlace.{read_value}

-- the layout of the part
abbrev pub layout_of_view : View → Layout
layout_of_view w = at w.layouts.now w.node

-- the kind of the part: of a struct that is the item of a map it is that of a pair
abbrev pub kind_of_view : View → Option Kind
kind_of_view w = kind_of_node w.layouts.now w.node

-- whether a definition that binds to the layout may have wider whole numbers
abbrev pub is_relaxed : View → Bool
is_relaxed w = (layout_of w.layouts.now).relaxed

-- the value that a view stands for
abbrev pub value_of_view : View → Value
value_of_view w = read_value w.content.now (layout_of_view w) w.block w.bit

-- u is the part of the value that the content packs which lies where the view is
abbrev pub LiesAt : View → Value → Type 0
LiesAt w u = IsPart (layout_of w.layouts.now).tree w.content.now w.node w.block w.bit u

-- an optional
abbrev pub IsOption : Value → Type 0
IsOption Absent = Unit {0}
IsOption v = IsPresent v

-- a value at a node of this kind is of this form
abbrev pub HasForm : Kind → Value → Type 0
HasForm k.Flag v = IsFlag v
HasForm k.I8 v = IsInt v
HasForm k.I16 v = IsInt v
HasForm k.I32 v = IsInt v
HasForm k.I64 v = IsInt v
HasForm k.Text v = IsText v
HasForm k.Bytes v = IsBytes v
HasForm k.List v = IsList v
HasForm k.Set v = IsSet v
HasForm k.Map v = IsMap v
HasForm k.Pair v = IsRecord v
HasForm k.Struct v = IsRecord v
HasForm k.Optional v = IsOption v
HasForm k.Size v = ⊥
