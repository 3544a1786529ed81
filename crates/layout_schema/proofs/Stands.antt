-- A layout where it may stand: what the conditions of entering its nodes come to.
use Rattle.std.proofs.Common.{◌≡◌, ℕ, suc, ◌+◌, ◌≤◌, ◌^◌, ℤ, pos, negsuc, true, [], ◌∷◌, Some, arith, refl, sym, subst, map}
use Rattle.std.proofs.lemmas.Bool.{le-leb, lt-ltb}
use Rattle.frozen_model.specs.Trees.{Whole, I8, I16, I32, I64, LeafKind, Flag, Integer, Text, Binary, Holder, AList, ASet, AMap, Leaf, ByteRange, ItemRange, Optional, Struct, NoField, Field, nodes, nodes_all, levels, levels_all, greatest, greatest_bits, greatest_bits_all, IsNarrow, AllNarrow, IsFormed, AllFormed, IsKey, IsPlain, IsItem, value_bits}
use Rattle.frozen_model.specs.Values.{InBits}
use Rattle.frozen_model.specs.Layouts.{Version, Coded, IsCoded, flag_coded, signed_coded, based_coded, Layout, Layouts, OfVersion, AllOfVersion, Legal, AllLegal, in_range}
use Rattle.layout_tree.specs.declared.node.NodeSpec.{NodeSpec}
use Rattle.layout_tree.specs.declared.node.Kind.{Kind}
use Rattle.layout_tree.specs.declared.node.Kind.TheVariants as kinds
use Rattle.layout_tree.specs.Listing.{inline, inline_all, kind_of, kind_of_bytes, kind_of_holder, item_struct, nodes_of, nodes_of_all}
use Rattle.layout_tree.specs.Given.{shown, noted_from, all_noted_from}
use Rattle.layout_tree.specs.Reading.{base_of}
use Rattle.layout_schema.specs.Schemas.{type_name}
use Rattle.layout_schema.specs.Shapes.{Place, AtRoot, InStruct, InList, InSet, InMap, AtFirst, AtValue, AtIsset, AtSize, may_stand, place_of, deeper, kind_named, greatest_of, is_width, base_fits, At, Walked}

-- the kind that a struct has at a place
abbrev pub struct_at : Place → Kind
struct_at InMap = kinds.Pair
struct_at _ = kinds.Struct

-- the kind of a layout's first node, where a struct's is sk
abbrev pub kind_here : Layout → Kind → Kind
kind_here (Leaf k c) sk = kind_of k
kind_here (ByteRange t d c) sk = kind_of_bytes t
kind_here (ItemRange h d c l) sk = kind_of_holder h
kind_here (Optional w l) sk = kinds.Optional
kind_here (Struct ls) sk = sk

-- the item of a map is a pair
abbrev pub IsPairAt : Place → Layout → Type 0
IsPairAt InMap l = IsItem AMap l
IsPairAt _ l = Unit {0}

-- the levels of a layout at a place: a pair adds none
abbrev pub depth : Place → Layout → ℕ
depth InMap (Struct ls) = levels_all ls
depth _ l = levels l

-- the layout may stand at the place, on this level, from the node n on
pub record Stands (v : Version) (l : Layout) (place : Place) (level n : ℕ) : Type 0 where
  pub may : may_stand place (kind_here l (struct_at place)) ≡ true
  pub pair : IsPairAt place l
  pub formed : IsFormed l
  pub few : n + nodes (noted_from l) ≤ 4096
  pub shallow : level + depth place l ≤ 33
  pub narrow : IsNarrow l
  pub coded : OfVersion v l
  pub legal : Legal l

-- the same of the fields of a struct of the kind k
abbrev pub AllStand : Version → Kind → Layouts → ℕ → ℕ → Type 0
AllStand v k NoField level n = Unit {0}
AllStand v k (Field id l ls) level n =
    Stands v l (place_of k (pos id)) (level + deeper (place_of k (pos id))) n × AllStand v k ls level (n + nodes (noted_from l))

-- what the walk makes of a layout
abbrev pub tree_walked : Layout → Kind → ℕ → ℕ → ℕ → ℕ → Walked
tree_walked l sk n p f o = record {
  nodes = map shown (nodes_of (noted_from l) sk n p f o);
  bits = inline (noted_from l);
  greatest = greatest_bits l;
}

abbrev pub fields_walked : Layouts → ℕ → ℕ → ℕ → Walked
fields_walked ls n p o = record {
  nodes = map shown (nodes_of_all (all_noted_from ls) n p o);
  bits = inline_all (all_noted_from ls);
  greatest = greatest_bits_all ls;
}

-- a node as it is shown where there are nodes below it
abbrev pub node_at : Kind → ℕ → ℕ → ℕ → ℕ → ℤ → NodeSpec
node_at k f p b o z = record { kind = k; field = pos f; parent = p; bits = b; wide = b; offset = o; base = z }

abbrev pub size_walked : ℕ → ℕ → ℕ → ℕ → Walked
size_walked p f o w = record { nodes = node_at kinds.Size f p w o (pos 0) ∷ []; bits = w; greatest = 32 }

abbrev pub at_node : Place → ℕ → ℕ → ℕ → ℕ → At
at_node place level p f o = record { place = place; level = level; parent = p; field = pos f; offset = o }

-- ---- kinds

pub named_kind : (k : Kind) → kind_named (type_name k) ≡ Some k
named_kind kinds.Flag = refl
named_kind kinds.I8 = refl
named_kind kinds.I16 = refl
named_kind kinds.I32 = refl
named_kind kinds.I64 = refl
named_kind kinds.Text = refl
named_kind kinds.Bytes = refl
named_kind kinds.List = refl
named_kind kinds.Set = refl
named_kind kinds.Map = refl
named_kind kinds.Pair = refl
named_kind kinds.Struct = refl
named_kind kinds.Optional = refl
named_kind kinds.Size = refl

-- ---- leaves

pub wide_leaf : (k : LeafKind) (w : ℕ) → w ≤ greatest k → is_width (greatest_of (kind_of k)) (pos w) ≡ true
wide_leaf Flag w h = le-leb w 1 h
wide_leaf (Integer I8) w h = le-leb w 8 h
wide_leaf (Integer I16) w h = le-leb w 16 h
wide_leaf (Integer I32) w h = le-leb w 32 h
wide_leaf (Integer I64) w h = le-leb w 64 h

in_range_from : (k : Whole) (z : ℤ) → InBits (value_bits k) z → in_range (Integer k) z ≡ true
in_range_from k (pos n) h = lt-ltb n (2 ^ value_bits k) h
in_range_from k (negsuc n) h = lt-ltb n (2 ^ value_bits k) h

pub base_leaf : (v : Version) (k : LeafKind) (c : Coded) → IsCoded v k c → base_fits (kind_of k) (base_of c) ≡ true
base_leaf v k c flag_coded = refl
base_leaf v k c (signed_coded {k = I8}) = refl
base_leaf v k c (signed_coded {k = I16}) = refl
base_leaf v k c (signed_coded {k = I32}) = refl
base_leaf v k c (signed_coded {k = I64}) = refl
base_leaf v k c (based_coded {k = I8} {b = b} h) = in_range_from I8 b h
base_leaf v k c (based_coded {k = I16} {b = b} h) = in_range_from I16 b h
base_leaf v k c (based_coded {k = I32} {b = b} h) = in_range_from I32 b h
base_leaf v k c (based_coded {k = I64} {b = b} h) = in_range_from I64 b h

-- ---- where kinds may stand

pub plain_may : (l : Layout) → IsPlain l → may_stand InList (kind_here l kinds.Struct) ≡ true
plain_may (Leaf Flag c) h = refl
plain_may (Leaf (Integer I8) c) h = refl
plain_may (Leaf (Integer I16) c) h = refl
plain_may (Leaf (Integer I32) c) h = refl
plain_may (Leaf (Integer I64) c) h = refl
plain_may (ByteRange Text d c) h = refl
plain_may (ByteRange Binary d c) h = refl
plain_may (ItemRange AList d c l) h = refl
plain_may (ItemRange ASet d c l) h = refl
plain_may (ItemRange AMap d c l) h = refl
plain_may (Optional w l) h = absurd h
plain_may (Struct ls) h = refl

pub key_may : (l : Layout) → IsKey l → may_stand InSet (kind_here l kinds.Struct) ≡ true
key_may (Leaf Flag c) h = refl
key_may (Leaf (Integer I8) c) h = refl
key_may (Leaf (Integer I16) c) h = refl
key_may (Leaf (Integer I32) c) h = refl
key_may (Leaf (Integer I64) c) h = refl
key_may (ByteRange Text d c) h = refl
key_may (ByteRange Binary d c) h = refl
key_may (ItemRange g d c l) h = absurd h
key_may (Optional w l) h = absurd h
key_may (Struct ls) h = absurd h

pub field_may : (l : Layout) → may_stand InStruct (kind_here l kinds.Struct) ≡ true
field_may (Leaf Flag c) = refl
field_may (Leaf (Integer I8) c) = refl
field_may (Leaf (Integer I16) c) = refl
field_may (Leaf (Integer I32) c) = refl
field_may (Leaf (Integer I64) c) = refl
field_may (ByteRange Text d c) = refl
field_may (ByteRange Binary d c) = refl
field_may (ItemRange AList d c l) = refl
field_may (ItemRange ASet d c l) = refl
field_may (ItemRange AMap d c l) = refl
field_may (Optional w l) = refl
field_may (Struct ls) = refl

abbrev pub item_place : Holder → Place
item_place AList = InList
item_place ASet = InSet
item_place AMap = InMap

pub struct_of_item : (h : Holder) → struct_at (item_place h) ≡ item_struct h
struct_of_item AList = refl
struct_of_item ASet = refl
struct_of_item AMap = refl

item_may : (h : Holder) (l : Layout) → IsItem h l → may_stand (item_place h) (kind_here l (struct_at (item_place h))) ≡ true
item_may AList l h = plain_may l h
item_may ASet l h = key_may l h
item_may AMap (Leaf k c) h = absurd h
item_may AMap (ByteRange t d c) h = absurd h
item_may AMap (ItemRange g d c l) h = absurd h
item_may AMap (Optional w l) h = absurd h
item_may AMap (Struct ls) h = refl

item_pair : (h : Holder) (l : Layout) → IsItem h l → IsPairAt (item_place h) l
item_pair AList l h = tt
item_pair ASet l h = tt
item_pair AMap l h = h

-- the levels of a range are those of its item, one deeper
pub item_depth : (h : Holder) (d c : ℕ) (l : Layout) → IsItem h l → levels (ItemRange h d c l) ≡ 1 + depth (item_place h) l
item_depth AList d c l h = refl
item_depth ASet d c l h = refl
item_depth AMap d c (Leaf k b) h = absurd h
item_depth AMap d c (ByteRange t e b) h = absurd h
item_depth AMap d c (ItemRange g e b l) h = absurd h
item_depth AMap d c (Optional w l) h = absurd h
item_depth AMap d c (Struct ls) h = refl

pub item_deeper : (h : Holder) → deeper (item_place h) ≡ 1
item_deeper AList = refl
item_deeper ASet = refl
item_deeper AMap = refl

-- a range does not stand where a pair does
pub range_depth : (place : Place) (h : Holder) (d c : ℕ) (l : Layout) → depth place (ItemRange h d c l) ≡ levels (ItemRange h d c l)
range_depth AtRoot h d c l = refl
range_depth InStruct h d c l = refl
range_depth InList h d c l = refl
range_depth InSet h d c l = refl
range_depth InMap h d c l = refl
range_depth AtFirst h d c l = refl
range_depth AtValue h d c l = refl
range_depth AtIsset h d c l = refl
range_depth AtSize h d c l = refl

pub optional_depth : (place : Place) (w : ℕ) (l : Layout) → depth place (Optional w l) ≡ levels l
optional_depth AtRoot w l = refl
optional_depth InStruct w l = refl
optional_depth InList w l = refl
optional_depth InSet w l = refl
optional_depth InMap w l = refl
optional_depth AtFirst w l = refl
optional_depth AtValue w l = refl
optional_depth AtIsset w l = refl
optional_depth AtSize w l = refl

-- ---- the parts of what stands

-- the item of a list, set or map
pub item_stands : (v : Version) (h : Holder) (d c : ℕ) (l : Layout) (place : Place) (level n : ℕ) → Stands v (ItemRange h d c l) place level n
    → Stands v l (item_place h) (level + deeper (item_place h)) (suc (suc (suc n)))
item_stands v h d c l place level n s = record {
  may = item_may h l s.formed.0;
  pair = item_pair h l s.formed.0;
  formed = s.formed.1;
  few = omega (arith, s.few);
  shallow = omega (arith, s.shallow, range_depth place h d c l, item_depth h d c l s.formed.0, item_deeper h);
  narrow = s.narrow;
  coded = s.coded;
  legal = s.legal.2;
}

-- the value of an optional
pub value_stands : (v : Version) (w : ℕ) (l : Layout) (place : Place) (level n : ℕ) → Stands v (Optional w l) place level n → Stands v l AtValue (level + 0) (suc (suc n))
value_stands v w l place level n s = record {
  may = plain_may l s.formed.0;
  pair = tt;
  formed = s.formed.1;
  few = omega (arith, s.few);
  shallow = omega (arith, s.shallow, optional_depth place w l);
  narrow = s.narrow.1;
  coded = s.coded;
  legal = s.legal.1;
}

-- the fields of a struct
fields_stand : (v : Version) (ls : Layouts) (level n : ℕ) → AllFormed ls → n + nodes_all (all_noted_from ls) ≤ 4096 → level + 1 + levels_all ls ≤ 33
    → AllNarrow ls → AllOfVersion v ls → AllLegal ls → AllStand v kinds.Struct ls level n
fields_stand v NoField level n formed few shallow narrow coded legal = tt
fields_stand v (Field id l ls) level n formed few shallow narrow coded legal = (
  record {
    may = field_may l;
    pair = tt;
    formed = formed.0;
    few = omega (arith, few);
    shallow = omega (arith, shallow);
    narrow = narrow.0;
    coded = coded.0;
    legal = legal.0;
  },
  fields_stand v ls level (n + nodes (noted_from l)) formed.1 (omega (arith, few)) (omega (arith, shallow)) narrow.1 coded.1 legal.1,
)

plain_fields : (v : Version) (ls : Layouts) (level n : ℕ) → IsFormed (Struct ls) → n + (1 + nodes_all (all_noted_from ls)) ≤ 4096 → level + (1 + levels_all ls) ≤ 33
    → IsNarrow (Struct ls) → AllOfVersion v ls → AllLegal ls → AllStand v kinds.Struct ls level (suc n)
plain_fields v ls level n formed few shallow narrow coded legal =
    fields_stand v ls level (suc n) formed.1 (omega (arith, few)) (omega (arith, shallow)) narrow.1 coded legal

-- the two of a pair
pair_fields : (v : Version) (ls : Layouts) (level n : ℕ) → IsItem AMap (Struct ls) → Stands v (Struct ls) InMap level n → AllStand v kinds.Pair ls level (suc n)
pair_fields v NoField level n h s = absurd h
pair_fields v (Field i k NoField) level n h s = absurd h
pair_fields v (Field i k (Field j w (Field m u ls))) level n h s = absurd h
pair_fields v (Field i k (Field j w NoField)) level n h s =
    subst (λ a. AllStand v kinds.Pair (Field a k (Field j w NoField)) level (suc n)) (sym h.0)
    (subst (λ b. AllStand v kinds.Pair (Field 1 k (Field b w NoField)) level (suc n)) (sym h.2) (first, (second, tt)))
  where
    first : Stands v k AtFirst (level + 0) (suc n)
    first = record {
      may = key_may k h.1;
      pair = tt;
      formed = s.formed.1.0;
      few = omega (arith, s.few);
      shallow = omega (arith, s.shallow);
      narrow = s.narrow.1.0;
      coded = s.coded.0;
      legal = s.legal.0;
    }

    second : Stands v w AtValue (level + 0) (suc n + nodes (noted_from k))
    second = record {
      may = plain_may w h.3;
      pair = tt;
      formed = s.formed.1.1.0;
      few = omega (arith, s.few);
      shallow = omega (arith, s.shallow);
      narrow = s.narrow.1.1.0;
      coded = s.coded.1.0;
      legal = s.legal.1.0;
    }

-- the fields of a struct, or the two of a pair
pub struct_stands : (v : Version) (ls : Layouts) (place : Place) (level n : ℕ) → Stands v (Struct ls) place level n → AllStand v (struct_at place) ls level (suc n)
struct_stands v ls InMap level n s = pair_fields v ls level n s.pair s
struct_stands v ls AtRoot level n s = plain_fields v ls level n s.formed s.few s.shallow s.narrow s.coded s.legal
struct_stands v ls InStruct level n s = plain_fields v ls level n s.formed s.few s.shallow s.narrow s.coded s.legal
struct_stands v ls InList level n s = plain_fields v ls level n s.formed s.few s.shallow s.narrow s.coded s.legal
struct_stands v ls InSet level n s = plain_fields v ls level n s.formed s.few s.shallow s.narrow s.coded s.legal
struct_stands v ls AtFirst level n s = plain_fields v ls level n s.formed s.few s.shallow s.narrow s.coded s.legal
struct_stands v ls AtValue level n s = plain_fields v ls level n s.formed s.few s.shallow s.narrow s.coded s.legal
struct_stands v ls AtIsset level n s = plain_fields v ls level n s.formed s.few s.shallow s.narrow s.coded s.legal
struct_stands v ls AtSize level n s = plain_fields v ls level n s.formed s.few s.shallow s.narrow s.coded s.legal

-- ---- a layout has a level

some_levels : (l : Layout) → IsFormed l → 1 ≤ levels l
some_levels (Leaf k c) h = omega arith
some_levels (ByteRange t d c) h = omega arith
some_levels (ItemRange AList d c l) h = omega arith
some_levels (ItemRange ASet d c l) h = omega arith
some_levels (ItemRange AMap d c l) h = some_levels l h.1
some_levels (Optional w l) h = some_levels l h.1
some_levels (Struct ls) h = omega arith

pair_levels : (l : Layout) → IsItem AMap l → IsFormed l → 1 ≤ depth InMap l
pair_levels (Leaf k c) h f = absurd h
pair_levels (ByteRange t d c) h f = absurd h
pair_levels (ItemRange g d c l) h f = absurd h
pair_levels (Optional w l) h f = absurd h
pair_levels (Struct NoField) h f = absurd h
pair_levels (Struct (Field i k NoField)) h f = absurd h
pair_levels (Struct (Field i k (Field j w NoField))) h f = omega (arith, some_levels k f.1.0)
pair_levels (Struct (Field i k (Field j w (Field m u ls)))) h f = absurd h

pub level_in : (v : Version) (l : Layout) (place : Place) (level n : ℕ) → Stands v l place level n → level ≤ 32
level_in v l InMap level n s = omega (arith, s.shallow, pair_levels l s.pair s.formed)
level_in v l AtRoot level n s = omega (arith, s.shallow, some_levels l s.formed)
level_in v l InStruct level n s = omega (arith, s.shallow, some_levels l s.formed)
level_in v l InList level n s = omega (arith, s.shallow, some_levels l s.formed)
level_in v l InSet level n s = omega (arith, s.shallow, some_levels l s.formed)
level_in v l AtFirst level n s = omega (arith, s.shallow, some_levels l s.formed)
level_in v l AtValue level n s = omega (arith, s.shallow, some_levels l s.formed)
level_in v l AtIsset level n s = omega (arith, s.shallow, some_levels l s.formed)
level_in v l AtSize level n s = omega (arith, s.shallow, some_levels l s.formed)

pub some_noted : (l : Layout) → 1 ≤ nodes (noted_from l)
some_noted (Leaf k c) = omega arith
some_noted (ByteRange t d c) = omega arith
some_noted (ItemRange g d c l) = omega arith
some_noted (Optional w l) = omega arith
some_noted (Struct ls) = omega arith
