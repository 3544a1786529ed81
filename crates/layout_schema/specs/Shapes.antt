-- What a Schema says of a layout: the layout's nodes in preorder, or the number at which its layouts make none.
use Rattle.std.specs.Prelude.{ℕ, zero, suc, ◌+◌, ℤ, pos, negsuc, neg_ℤ, nat_abs, nat_le, nat_lt, Bool, true, false, ◌&&◌, ◌||◌}
use Rattle.std.specs.Prelude.{if◌then◌else◌, List, [], ◌∷◌, ◌++◌, length, find, Option, Some, None, Result, Ok, Err}
use Rattle.std.specs.Str.{bytes_eq}
use Rattle.std.specs.Ordering.{int_eq}
use Rattle.frozen_model.specs.Trees.{Flag, Integer, I8, I16, I32, I64, greatest}
use Rattle.frozen_model.specs.Values.{Value, Values, NoValue, And, nth}
use Rattle.frozen_model.specs.Layouts.{in_range}
use Rattle.typed_tree.specs.Parts.{bytes_in, items_of, fields_of}
use Rattle.compact_codec.specs.Wire.{flag_in, number_in}
use Rattle.layout_tree.specs.declared.node.NodeSpec.{NodeSpec}
use Rattle.layout_tree.specs.declared.node.Kind.{Kind}
use Rattle.layout_tree.specs.declared.node.Kind.TheVariants as kinds
use Rattle.layout_schema.specs.Schemas.{type_name}

-- ---- the parts of a Schema

-- a field of a struct by its place, or the first or second of a pair
abbrev pub part : Value → ℕ → Value
part v k = nth (fields_of v) k

abbrev pub relaxes_in : Value → Bool
relaxes_in s = flag_in (part s 0)

abbrev pub layouts_in : Value → Values
layouts_in s = items_of (part s 1)

abbrev pub root_in : Value → ℤ
root_in s = number_in (part s 2)

abbrev pub version_in : Value → ℤ
version_in s = number_in (part s 3)

-- what a Layout says of a child: its field, its number and its offset
pub record Child : Type 0 where
  pub field : ℤ
  pub number : ℤ
  pub offset : ℤ

-- what a Layout says of its node; in version 1 the base is 0
pub record Entry : Type 0 where
  pub size : ℤ
  pub bits : ℤ
  pub children : List Child
  pub name : List ℕ
  pub base : ℤ

abbrev pub child_in : Value → Child
child_in v = record {
  field = number_in (part v 0);
  number = number_in (part (part v 1) 0);
  offset = number_in (part (part v 1) 1);
}

abbrev pub children_in : Values → List Child
children_in NoValue = []
children_in (And v vs) = child_in v ∷ children_in vs

abbrev pub entry_in : Value → Entry
entry_in v = record {
  size = number_in (part v 0);
  bits = number_in (part v 1);
  children = children_in (items_of (part v 2));
  name = bytes_in (part v 3);
  base = number_in (part v 4);
}

-- the Layout with this number
abbrev pub entry_of : Values → ℕ → Option Entry
entry_of NoValue n = None
entry_of (And v vs) n = if int_eq (number_in (part v 0)) (pos n) then Some (entry_in (part v 1)) else entry_of vs n

-- ---- which kinds may stand where

-- the root; a field of a struct; the item of a list, of a set, of a map; the first of a pair; its second, and the value of
-- an optional; the isset of an optional; a distance or a count
pub data Place : Type 0 where
  AtRoot : Place
  InStruct : Place
  InList : Place
  InSet : Place
  InMap : Place
  AtFirst : Place
  AtValue : Place
  AtIsset : Place
  AtSize : Place

abbrev pub is_key : Kind → Bool
is_key kinds.Flag = true
is_key kinds.I8 = true
is_key kinds.I16 = true
is_key kinds.I32 = true
is_key kinds.I64 = true
is_key kinds.Text = true
is_key kinds.Bytes = true
is_key _ = false

abbrev pub is_plain : Kind → Bool
is_plain kinds.Pair = false
is_plain kinds.Optional = false
is_plain kinds.Size = false
is_plain _ = true

abbrev pub is_optional : Kind → Bool
is_optional kinds.Optional = true
is_optional _ = false

abbrev pub may_stand : Place → Kind → Bool
may_stand AtRoot kinds.Struct = true
may_stand AtRoot _ = false
may_stand InStruct k = is_plain k || is_optional k
may_stand InList k = is_plain k
may_stand InSet k = is_key k
may_stand InMap kinds.Pair = true
may_stand InMap _ = false
may_stand AtFirst k = is_key k
may_stand AtValue k = is_plain k
may_stand AtIsset kinds.Flag = true
may_stand AtIsset _ = false
may_stand AtSize kinds.Size = true
may_stand AtSize _ = false

-- the place of a child, by its parent's kind and its field
abbrev pub place_of : Kind → ℤ → Place
place_of kinds.Struct f = InStruct
place_of kinds.List f = if int_eq f (pos 3) then InList else AtSize
place_of kinds.Set f = if int_eq f (pos 3) then InSet else AtSize
place_of kinds.Map f = if int_eq f (pos 3) then InMap else AtSize
place_of kinds.Pair f = if int_eq f (pos 1) then AtFirst else AtValue
place_of kinds.Optional f = if int_eq f (pos 1) then AtIsset else AtValue
place_of _ f = AtSize

-- items are not inline
abbrev pub is_inline : Place → Bool
is_inline InList = false
is_inline InSet = false
is_inline InMap = false
is_inline _ = true

-- by how much a child is deeper than its parent
abbrev pub deeper : Place → ℕ
deeper InStruct = 1
deeper InList = 1
deeper InSet = 1
deeper InMap = 1
deeper _ = 0

-- ---- entering a node

-- the kind with this type name
abbrev pub kind_named : List ℕ → Option Kind
kind_named name = find (λ k. bytes_eq name (type_name k))
    (kinds.Flag ∷ kinds.I8 ∷ kinds.I16 ∷ kinds.I32 ∷ kinds.I64 ∷ kinds.Text ∷ kinds.Bytes ∷ kinds.List ∷ kinds.Set
    ∷ kinds.Map ∷ kinds.Pair ∷ kinds.Struct ∷ kinds.Optional ∷ kinds.Size ∷ [])

abbrev pub are_fields : List ℤ → List Child → Bool
are_fields [] [] = true
are_fields (f ∷ fs) (c ∷ cs) = int_eq c.field f && are_fields fs cs
are_fields _ _ = false

-- ids from 1 to 32767
abbrev pub is_id : ℤ → Bool
is_id (pos n) = nat_lt 0 n && nat_le n 32767
is_id (negsuc n) = false

abbrev pub are_ids : List Child → Bool
are_ids [] = true
are_ids (c ∷ cs) = is_id c.field && are_ids cs

-- the children have the fields that they have under the kind
abbrev pub fields_fit : Kind → List Child → Bool
fields_fit kinds.Struct cs = are_ids cs
fields_fit kinds.Text cs = are_fields (pos 1 ∷ pos 2 ∷ []) cs
fields_fit kinds.Bytes cs = are_fields (pos 1 ∷ pos 2 ∷ []) cs
fields_fit kinds.Pair cs = are_fields (pos 1 ∷ pos 2 ∷ []) cs
fields_fit kinds.Optional cs = are_fields (pos 1 ∷ pos 2 ∷ []) cs
fields_fit kinds.List cs = are_fields (pos 1 ∷ pos 2 ∷ pos 3 ∷ []) cs
fields_fit kinds.Set cs = are_fields (pos 1 ∷ pos 2 ∷ pos 3 ∷ []) cs
fields_fit kinds.Map cs = are_fields (pos 1 ∷ pos 2 ∷ pos 3 ∷ []) cs
fields_fit _ cs = are_fields [] cs

-- the greatest width of a leaf; of other kinds there is none
abbrev pub greatest_of : Kind → Option ℕ
greatest_of kinds.Flag = Some (greatest Flag)
greatest_of kinds.I8 = Some (greatest (Integer I8))
greatest_of kinds.I16 = Some (greatest (Integer I16))
greatest_of kinds.I32 = Some (greatest (Integer I32))
greatest_of kinds.I64 = Some (greatest (Integer I64))
greatest_of kinds.Size = Some 32
greatest_of _ = None

abbrev pub is_width : Option ℕ → ℤ → Bool
is_width None z = true
is_width (Some g) (pos n) = nat_le n g
is_width (Some g) (negsuc n) = false

-- a base is in the range of its kind of whole numbers, and 0 at another kind
abbrev pub base_fits : Kind → ℤ → Bool
base_fits kinds.I8 z = in_range (Integer I8) z
base_fits kinds.I16 z = in_range (Integer I16) z
base_fits kinds.I32 z = in_range (Integer I32) z
base_fits kinds.I64 z = in_range (Integer I64) z
base_fits _ z = int_eq z (pos 0)

-- where a node is entered: its place, its level, its parent's number, its field, and its offset
pub record At : Type 0 where
  pub place : Place
  pub level : ℕ
  pub parent : ℕ
  pub field : ℤ
  pub offset : ℕ

-- the node n may be entered there, as one of this kind
abbrev pub may_enter : At → ℕ → Entry → Kind → Bool
may_enter at n x k =
    nat_lt n 4096 && (int_eq x.size (pos 0) && (may_stand at.place k && (fields_fit k x.children
    && (is_width (greatest_of k) x.bits && (base_fits k x.base && nat_le at.level 32)))))

-- the parent names the child by its number, and has its offset
abbrev pub is_named : Child → ℕ → ℕ → Bool
is_named c n offset = int_eq c.number (pos n) && int_eq c.offset (neg_ℤ (pos offset))

-- ---- the walk

-- the nodes of a part, its inline bits, and its greatest inline bits
pub record Walked : Type 0 where
  pub nodes : List NodeSpec
  pub bits : ℕ
  pub greatest : ℕ

abbrev pub and_then : Result Walked ℤ → (Walked → Result Walked ℤ) → Result Walked ℤ
and_then (Ok x) f = f x
and_then (Err n) f = Err n

abbrev pub nothing : Walked
nothing = record { nodes = []; bits = 0; greatest = 0 }

-- a child in front of others; what is not inline adds no bits
abbrev pub in_front : Place → Walked → Walked → Walked
in_front p a b = record {
  nodes = a.nodes ++ b.nodes;
  bits = (if is_inline p then a.bits else 0) + b.bits;
  greatest = (if is_inline p then a.greatest else 0) + b.greatest;
}

-- the children of the node p of a kind and a level, the first of them with the number n and the offset o, each by enter
abbrev pub walk_children : (At → ℕ → Result Walked ℤ) → Kind → ℕ → ℕ → List Child → ℕ → ℕ → Result Walked ℤ
walk_children enter k level p [] n o = Ok nothing
walk_children enter k level p (c ∷ cs) n o =
    let place = place_of k c.field in
    let offset = if is_inline place then o else 0 in
    if is_named c n offset then
    and_then (enter (record { place = place; level = level + deeper place; parent = p; field = c.field; offset = offset }) n)
    (λ a. and_then (walk_children enter k level p cs (n + length a.nodes) (o + (if is_inline place then a.bits else 0)))
    (λ b. Ok (in_front place a b)))
    else Err (pos n)

-- a leaf, and a node whose children are done: its bits are their sum, and their greatest bits do not pass 32767
abbrev pub done : At → ℕ → Entry → Kind → Option ℕ → Walked → Result Walked ℤ
done at n x k (Some g) below =
    Ok (record {
      nodes = record { kind = k; field = at.field; parent = at.parent; bits = nat_abs x.bits; wide = nat_abs x.bits; offset = at.offset; base = x.base } ∷ [];
      bits = nat_abs x.bits;
      greatest = g;
    })
done at n x k None below =
    if int_eq x.bits (pos below.bits) && nat_le below.greatest 32767 then
    Ok (record {
      nodes = record { kind = k; field = at.field; parent = at.parent; bits = below.bits; wide = below.bits; offset = at.offset; base = x.base } ∷ below.nodes;
      bits = below.bits;
      greatest = below.greatest;
    })
    else Err (pos n)

abbrev pub entered : (At → ℕ → Result Walked ℤ) → At → ℕ → Entry → Option Kind → Result Walked ℤ
entered enter at n x None = Err (pos n)
entered enter at n x (Some k) =
    if may_enter at n x k then
    and_then (walk_children enter k at.level n x.children (suc n) 0) (done at n x k (greatest_of k))
    else Err (pos n)

abbrev pub found : (At → ℕ → Result Walked ℤ) → At → ℕ → Option Entry → Result Walked ℤ
found enter at n None = Err (pos n)
found enter at n (Some x) = entered enter at n x (kind_named x.name)

-- The part that begins with the node n. At depth d a number is d or above, so 4096 is room enough.
abbrev pub walk_part : Values → ℕ → At → ℕ → Result Walked ℤ
walk_part ls zero at n = Err (pos n)
walk_part ls (suc room) at n = found (walk_part ls room) at n (entry_of ls n)

-- the least number of layouts that is none of the first n; keys stand in their order
abbrev pub is_walked : ℕ → ℤ → Bool
is_walked n (pos k) = nat_lt k n
is_walked n (negsuc k) = false

abbrev pub unwalked : Values → ℕ → Option ℤ
unwalked NoValue n = None
unwalked (And v vs) n = if is_walked n (number_in (part v 0)) then unwalked vs n else Some (number_in (part v 0))

abbrev pub no_other : List NodeSpec → Option ℤ → Result (List NodeSpec) ℤ
no_other ns None = Ok ns
no_other ns (Some z) = Err z

abbrev pub all_walked : Values → Result Walked ℤ → Result (List NodeSpec) ℤ
all_walked ls (Ok x) = no_other x.nodes (unwalked ls (length x.nodes))
all_walked ls (Err n) = Err n

abbrev pub at_root : At
at_root = record { place = AtRoot; level = 1; parent = 0; field = pos 0; offset = 0 }

-- the nodes of the layout, or the number at fault
abbrev pub shape_in : Value → Result (List NodeSpec) ℤ
shape_in s = if int_eq (root_in s) (pos 0) then all_walked (layouts_in s) (walk_part (layouts_in s) 4096 at_root 0) else Err (root_in s)
