-- Types that fit the kinds of nodes, and types that do not.
use Rattle.std.proofs.Common.{◌≡◌, ◌⊎◌, inl, inr, ℕ, ◌+◌, Bool, true, false, List, [], ◌∷◌, ◌++◌, Option}
use Rattle.std.proofs.Common.{Some, None, refl, sym, ap, ◌∙◌, subst}
use Rattle.std.specs.Prelude.{pos}
use Rattle.idl_profile.specs.declared.kinds.TypeKind.{TypeKind}
use Rattle.idl_profile.specs.declared.kinds.TypeKind.TheVariants as types
use Rattle.idl_profile.specs.Types.{TypeTree, scalar, text, bytes, list_of, set_of, map_of, named, enum_of}
use Rattle.idl_profile.specs.Types.{struct_of, Fields, Member, Scalar, flag, i8, i16, i32, i64, kind_of}
use Rattle.idl_profile.specs.Types.{scalar_kind}
use Rattle.idl_parse.specs.Refs.{element_of, key_of, value_of}
use Rattle.type_kinds.specs.KindsOf.{leaf_kind}
use Rattle.frozen_model.specs.Trees.{Whole, I8, I16, I32, I64, LeafKind, Flag, Integer, ByteKind, Text}
use Rattle.frozen_model.specs.Trees.{Binary, Holder, AList, ASet, AMap, Leaf, ByteRange, ItemRange, Optional}
use Rattle.frozen_model.specs.Trees.{Struct}
use Rattle.frozen_model.specs.Layouts.{Layout, Coded}
use Rattle.layout_tree.specs.declared.node.Kind.{Kind}
use Rattle.layout_tree.specs.declared.node.Kind.TheVariants as kinds
use Rattle.layout_tree.specs.Listing.{kind_of as node_kind}
use Rattle.layout_tree.specs.Reading.{plain, kind_at, item_of, IsHolder, IsRange}
use Rattle.content_check.specs.Steps.{IsMap}
use Rattle.evolve.specs.Binding.{stands_for, type_changed, unless, under, type_fault}
use Rattle.evolve.specs.Plans.{range_nodes, nodes_at}
use Rattle.evolve.specs.BindSteps.{number_fits, fits, FitsAt, fields_in, fault_at_pair, plan_at_pair}

-- ---- kinds of nodes

struct_plain : (r : Bool) (k : Kind) → fits r types.Struct (plain k) ≡ fits r types.Struct k
struct_plain r kinds.Pair = refl
struct_plain r k = refl

other_plain : (r : Bool) (own : TypeKind) (k : Kind) → fits r own kinds.Struct ≡ fits r own kinds.Pair
    → fits r own (plain k) ≡ fits r own k
other_plain r own kinds.Pair e = e
other_plain r own k e = refl

-- a pair is a struct
pub plain_fits : (r : Bool) (own : TypeKind) (k : Kind) → fits r own (plain k) ≡ fits r own k
plain_fits r types.Flag k = other_plain r types.Flag k refl
plain_fits r types.I8 k = other_plain r types.I8 k refl
plain_fits r types.I16 k = other_plain r types.I16 k refl
plain_fits r types.I32 k = other_plain r types.I32 k refl
plain_fits r types.I64 k = other_plain r types.I64 k refl
plain_fits r types.Enum k = other_plain r types.Enum k refl
plain_fits r types.Text k = other_plain r types.Text k refl
plain_fits r types.Bytes k = other_plain r types.Bytes k refl
plain_fits r types.List k = other_plain r types.List k refl
plain_fits r types.Set k = other_plain r types.Set k refl
plain_fits r types.Map k = other_plain r types.Map k refl
plain_fits r types.Struct k = struct_plain r k

number_leaf : (r : Bool) (w : Whole) (k : LeafKind) → number_fits r w (node_kind k)
    ≡ stands_for r (Integer w) k
number_leaf true w Flag = refl
number_leaf false w Flag = refl
number_leaf r w (Integer I8) = refl
number_leaf r w (Integer I16) = refl
number_leaf r w (Integer I32) = refl
number_leaf r w (Integer I64) = refl

flag_leaf : (r : Bool) (k : LeafKind) → fits r types.Flag (node_kind k) ≡ stands_for r Flag k
flag_leaf r Flag = refl
flag_leaf r (Integer I8) = refl
flag_leaf r (Integer I16) = refl
flag_leaf r (Integer I32) = refl
flag_leaf r (Integer I64) = refl

leaf_fits : (r : Bool) (s : Scalar) (k : LeafKind) → fits r (scalar_kind s) (node_kind k)
    ≡ stands_for r (leaf_kind s) k
leaf_fits r flag k = flag_leaf r k
leaf_fits r i8 k = number_leaf r I8 k
leaf_fits r i16 k = number_leaf r I16 k
leaf_fits r i32 k = number_leaf r I32 k
leaf_fits r i64 k = number_leaf r I64 k

-- ---- what does not fit

pub unfit : (r : Bool) (t : TypeTree) (l : Layout) → fits r (kind_of t) (kind_at l) ≡ false
    → type_fault r t l ≡ Some (type_changed [])
unfit r (scalar s) (Leaf k a) e = ap unless (sym (leaf_fits r s k) ∙ e)
unfit r text (ByteRange Text d c) e = absurd cc
unfit r bytes (ByteRange Binary d c) e = absurd cc
unfit r (list_of x) (ItemRange AList d c m) e = absurd cc
unfit r (set_of x) (ItemRange ASet d c m) e = absurd cc
unfit r (map_of x y) (ItemRange AMap d c m) e = absurd cc
unfit r (named (enum_of w ms)) (Leaf k a) e = ap unless (sym (number_leaf r I32 k) ∙ e)
unfit r (named (struct_of w fs)) (Struct ls) e = absurd cc
unfit r t l e = refl

-- ---- the kinds that fit

abbrev IsLeafKind : Kind → Type 0
IsLeafKind kinds.Flag = Unit {0}
IsLeafKind kinds.I8 = Unit {0}
IsLeafKind kinds.I16 = Unit {0}
IsLeafKind kinds.I32 = Unit {0}
IsLeafKind kinds.I64 = Unit {0}
IsLeafKind k = ⊥

number_kind : (r : Bool) (w : Whole) (k : Kind) → number_fits r w k ≡ true → IsLeafKind k
number_kind r w kinds.I8 e = tt
number_kind r w kinds.I16 e = tt
number_kind r w kinds.I32 e = tt
number_kind r w kinds.I64 e = tt
number_kind r w kinds.Flag e = tt
number_kind r w k e = absurd cc

flag_kind : (r : Bool) (k : Kind) → fits r types.Flag k ≡ true → IsLeafKind k
flag_kind r kinds.Flag e = tt
flag_kind r k e = absurd cc

scalar_kind_fits : (r : Bool) (s : Scalar) (k : Kind) → fits r (scalar_kind s) k ≡ true → IsLeafKind k
scalar_kind_fits r flag k e = flag_kind r k e
scalar_kind_fits r i8 k e = number_kind r I8 k e
scalar_kind_fits r i16 k e = number_kind r I16 k e
scalar_kind_fits r i32 k e = number_kind r I32 k e
scalar_kind_fits r i64 k e = number_kind r I64 k e

text_kind : (r : Bool) (k : Kind) → fits r types.Text k ≡ true → k ≡ kinds.Text
text_kind r kinds.Text e = refl
text_kind r k e = absurd cc

bytes_kind : (r : Bool) (k : Kind) → fits r types.Bytes k ≡ true → k ≡ kinds.Bytes
bytes_kind r kinds.Bytes e = refl
bytes_kind r k e = absurd cc

list_kind : (r : Bool) (k : Kind) → fits r types.List k ≡ true → k ≡ kinds.List
list_kind r kinds.List e = refl
list_kind r k e = absurd cc

set_kind : (r : Bool) (k : Kind) → fits r types.Set k ≡ true → k ≡ kinds.Set
set_kind r kinds.Set e = refl
set_kind r k e = absurd cc

map_kind : (r : Bool) (k : Kind) → fits r types.Map k ≡ true → k ≡ kinds.Map
map_kind r kinds.Map e = refl
map_kind r k e = absurd cc

struct_kind : (r : Bool) (l : Layout) → fits r types.Struct (kind_at l) ≡ true → kind_at l ≡ kinds.Struct
struct_kind r (Struct ls) e = refl
struct_kind r (Leaf Flag a) e = absurd cc
struct_kind r (Leaf (Integer I8) a) e = absurd cc
struct_kind r (Leaf (Integer I16) a) e = absurd cc
struct_kind r (Leaf (Integer I32) a) e = absurd cc
struct_kind r (Leaf (Integer I64) a) e = absurd cc
struct_kind r (ByteRange Text d c) e = absurd cc
struct_kind r (ByteRange Binary d c) e = absurd cc
struct_kind r (ItemRange AList d c m) e = absurd cc
struct_kind r (ItemRange ASet d c m) e = absurd cc
struct_kind r (ItemRange AMap d c m) e = absurd cc
struct_kind r (Optional w m) e = absurd cc

-- ---- forms of layouts by their kinds

pub record OptionalAt (l : Layout) : Type 0 where
  pub width : ℕ
  pub inner : Layout
  pub is : l ≡ Optional width inner

record HolderAt (h : Holder) (l : Layout) : Type 0 where
  distance : ℕ
  count : ℕ
  is : l ≡ ItemRange h distance count (item_of l)

record BytesAt (k : ByteKind) (l : Layout) : Type 0 where
  distance : ℕ
  count : ℕ
  is : l ≡ ByteRange k distance count

abbrev LayoutBy : Kind → Layout → Type 0
LayoutBy kinds.Text l = BytesAt Text l
LayoutBy kinds.Bytes l = BytesAt Binary l
LayoutBy kinds.List l = HolderAt AList l
LayoutBy kinds.Set l = HolderAt ASet l
LayoutBy kinds.Map l = HolderAt AMap l
LayoutBy kinds.Struct l = l ≡ Struct (fields_in l)
LayoutBy kinds.Optional l = OptionalAt l
LayoutBy k l = Unit {0}

layout_by : (l : Layout) → LayoutBy (kind_at l) l
layout_by (Leaf Flag a) = tt
layout_by (Leaf (Integer I8) a) = tt
layout_by (Leaf (Integer I16) a) = tt
layout_by (Leaf (Integer I32) a) = tt
layout_by (Leaf (Integer I64) a) = tt
layout_by (ByteRange Text d c) = record { distance = d; count = c; is = refl }
layout_by (ByteRange Binary d c) = record { distance = d; count = c; is = refl }
layout_by (ItemRange AList d c m) = record { distance = d; count = c; is = refl }
layout_by (ItemRange ASet d c m) = record { distance = d; count = c; is = refl }
layout_by (ItemRange AMap d c m) = record { distance = d; count = c; is = refl }
layout_by (Optional w m) = record { width = w; inner = m; is = refl }
layout_by (Struct ls) = refl

layout_of_kind : (l : Layout) (k : Kind) → kind_at l ≡ k → LayoutBy k l
layout_of_kind l k e = subst (λ (z : Kind). LayoutBy z l) e (layout_by l)

record LeafAt (l : Layout) : Type 0 where
  kind : LeafKind
  coded : Coded
  is : l ≡ Leaf kind coded

leaf_at : (l : Layout) → IsLeafKind (kind_at l) → LeafAt l
leaf_at (Leaf k a) h = record { kind = k; coded = a; is = refl }
leaf_at (ByteRange Text d c) h = absurd h
leaf_at (ByteRange Binary d c) h = absurd h
leaf_at (ItemRange AList d c m) h = absurd h
leaf_at (ItemRange ASet d c m) h = absurd h
leaf_at (ItemRange AMap d c m) h = absurd h
leaf_at (Optional w m) h = absurd h
leaf_at (Struct ls) h = absurd h

-- ---- leaves, and ranges of bytes

-- it binds, and these are its nodes
pub record Fits (r : Bool) (t : TypeTree) (l : Layout) (ns : ℕ → List (Option ℕ)) : Type 0 where
  pub none : type_fault r t l ≡ None
  pub nodes : (i : ℕ) → nodes_at t l i ≡ ns i

abbrev one_node : ℕ → List (Option ℕ)
one_node i = Some i ∷ []

abbrev pub IsLeafType : TypeKind → Type 0
IsLeafType types.Flag = Unit {0}
IsLeafType types.I8 = Unit {0}
IsLeafType types.I16 = Unit {0}
IsLeafType types.I32 = Unit {0}
IsLeafType types.I64 = Unit {0}
IsLeafType types.Enum = Unit {0}
IsLeafType k = ⊥

scalar_at : (r : Bool) (s : Scalar) (l : Layout) → LeafAt l → fits r (scalar_kind s) (kind_at l) ≡ true
    → Fits r (scalar s) l one_node
scalar_at r s l a e =
    let f = subst (λ (z : Layout). fits r (scalar_kind s) (kind_at z) ≡ true) a.is e in
    subst (λ (z : Layout). Fits r (scalar s) z one_node) (sym a.is) (record {
      none = ap unless (sym (leaf_fits r s a.kind) ∙ f);
      nodes = λ i. refl;
    })

enum_at : (r : Bool) (w : List ℕ) (ms : List Member) (l : Layout) → LeafAt l
    → number_fits r I32 (kind_at l) ≡ true → Fits r (named (enum_of w ms)) l one_node
enum_at r w ms l a e =
    let f = subst (λ (z : Layout). number_fits r I32 (kind_at z) ≡ true) a.is e in
    subst (λ (z : Layout). Fits r (named (enum_of w ms)) z one_node) (sym a.is) (record {
      none = ap unless (sym (number_leaf r I32 a.kind) ∙ f);
      nodes = λ i. refl;
    })

leaf_fit : (r : Bool) (t : TypeTree) (l : Layout) → IsLeafType (kind_of t) → FitsAt r t l
    → Fits r t l one_node
leaf_fit r (scalar s) l h e = scalar_at r s l (leaf_at l (scalar_kind_fits r s (kind_at l) e)) e
leaf_fit r (named (enum_of w ms)) l h e = enum_at r w ms l (leaf_at l (number_kind r I32 (kind_at l) e)) e
leaf_fit r t l h e = absurd h

text_fit : (r : Bool) (l : Layout) → fits r types.Text (kind_at l) ≡ true → Fits r text l range_nodes
text_fit r l e =
    let a = layout_of_kind l kinds.Text (text_kind r (kind_at l) e) in
    subst (λ (z : Layout). Fits r text z range_nodes) (sym a.is) (record { none = refl; nodes = λ i. refl })

binary_fit : (r : Bool) (l : Layout) → fits r types.Bytes (kind_at l) ≡ true → Fits r bytes l range_nodes
binary_fit r l e =
    let a = layout_of_kind l kinds.Bytes (bytes_kind r (kind_at l) e) in
    subst (λ (z : Layout). Fits r bytes z range_nodes) (sym a.is) (record { none = refl; nodes = λ i. refl })

abbrev IsBytesType : TypeKind → Type 0
IsBytesType types.Text = Unit {0}
IsBytesType types.Bytes = Unit {0}
IsBytesType k = ⊥

bytes_fit : (r : Bool) (t : TypeTree) (l : Layout) → IsBytesType (kind_of t) → FitsAt r t l
    → Fits r t l range_nodes
bytes_fit r text l h e = text_fit r l e
bytes_fit r bytes l h e = binary_fit r l e
bytes_fit r (scalar flag) l h e = absurd h
bytes_fit r (scalar i8) l h e = absurd h
bytes_fit r (scalar i16) l h e = absurd h
bytes_fit r (scalar i32) l h e = absurd h
bytes_fit r (scalar i64) l h e = absurd h
bytes_fit r (list_of x) l h e = absurd h
bytes_fit r (set_of x) l h e = absurd h
bytes_fit r (map_of x y) l h e = absurd h
bytes_fit r (named (enum_of w ms)) l h e = absurd h
bytes_fit r (named (struct_of w fs)) l h e = absurd h

-- by the kind that was read
pub leaf_here : (r : Bool) (t : TypeTree) (l : Layout) (k : TypeKind) → k ≡ kind_of t → IsLeafType k
    → FitsAt r t l → Fits r t l one_node
leaf_here r t l k e h f = leaf_fit r t l (subst (λ (z : TypeKind). IsLeafType z) e h) f

pub bytes_here : (r : Bool) (t : TypeTree) (l : Layout) (k : TypeKind) → k ≡ kind_of t
    → (k ≡ types.Text) ⊎ (k ≡ types.Bytes) → FitsAt r t l → Fits r t l range_nodes
bytes_here r t l k e (inl h) f = bytes_fit r t l (subst (λ (z : TypeKind). IsBytesType z) (sym h ∙ e) tt) f
bytes_here r t l k e (inr h) f = bytes_fit r t l (subst (λ (z : TypeKind). IsBytesType z) (sym h ∙ e) tt) f

-- every other kind is that of a leaf
pub leaf_left : (k : TypeKind) → (k ≡ types.Text → ⊥) → (k ≡ types.Bytes → ⊥) → (k ≡ types.List → ⊥)
    → (k ≡ types.Set → ⊥) → (k ≡ types.Map → ⊥) → (k ≡ types.Struct → ⊥) → IsLeafType k
leaf_left types.Flag a b c d e f = tt
leaf_left types.I8 a b c d e f = tt
leaf_left types.I16 a b c d e f = tt
leaf_left types.I32 a b c d e f = tt
leaf_left types.I64 a b c d e f = tt
leaf_left types.Enum a b c d e f = tt
leaf_left types.Text a b c d e f = absurd (a refl)
leaf_left types.Bytes a b c d e f = absurd (b refl)
leaf_left types.List a b c d e f = absurd (c refl)
leaf_left types.Set a b c d e f = absurd (d refl)
leaf_left types.Map a b c d e f = absurd (e refl)
leaf_left types.Struct a b c d e f = absurd (f refl)

-- ---- types by their kinds

pub record StructIs (t : TypeTree) : Type 0 where
  pub name : List ℕ
  pub fields : Fields
  pub is : t ≡ named (struct_of name fields)

abbrev TypeBy : TypeKind → TypeTree → Type 0
TypeBy types.List t = t ≡ list_of (element_of t)
TypeBy types.Set t = t ≡ set_of (element_of t)
TypeBy types.Map t = t ≡ map_of (key_of t) (value_of t)
TypeBy types.Struct t = StructIs t
TypeBy k t = Unit {0}

type_by : (t : TypeTree) → TypeBy (kind_of t) t
type_by (scalar flag) = tt
type_by (scalar i8) = tt
type_by (scalar i16) = tt
type_by (scalar i32) = tt
type_by (scalar i64) = tt
type_by text = tt
type_by bytes = tt
type_by (list_of x) = refl
type_by (set_of x) = refl
type_by (map_of x y) = refl
type_by (named (enum_of w ms)) = tt
type_by (named (struct_of w fs)) = record { name = w; fields = fs; is = refl }

type_of_kind : (t : TypeTree) (k : TypeKind) → kind_of t ≡ k → TypeBy k t
type_of_kind t k e = subst (λ (z : TypeKind). TypeBy z t) e (type_by t)

pub struct_is : (t : TypeTree) → kind_of t ≡ types.Struct → StructIs t
struct_is t e = type_of_kind t types.Struct e

-- ---- lists, sets and maps

pub record RowFits (r : Bool) (t : TypeTree) (l : Layout) : Type 0 where
  pub holder : IsHolder l
  pub fault : type_fault r t l ≡ under (pos 3) (type_fault r (element_of t) (item_of l))
  pub nodes : (i : ℕ) → nodes_at t l i ≡ range_nodes i ++ nodes_at (element_of t) (item_of l) (3 + i)

list_row : (r : Bool) (x : TypeTree) (l : Layout) → HolderAt AList l → RowFits r (list_of x) l
list_row r x l a =
    let m = item_of l in
    record {
      holder = subst (λ (z : Layout). IsHolder z) (sym a.is) tt;
      fault = ap (λ (z : Layout). type_fault r (list_of x) z) a.is;
      nodes = λ i. ap (λ (z : Layout). nodes_at (list_of x) z i) a.is;
    }

set_row : (r : Bool) (x : TypeTree) (l : Layout) → HolderAt ASet l → RowFits r (set_of x) l
set_row r x l a = record {
  holder = subst (λ (z : Layout). IsHolder z) (sym a.is) tt;
  fault = ap (λ (z : Layout). type_fault r (set_of x) z) a.is;
  nodes = λ i. ap (λ (z : Layout). nodes_at (set_of x) z i) a.is;
}

pub row_fits : (r : Bool) (t : TypeTree) (l : Layout) → (kind_of t ≡ types.List) ⊎ (kind_of t ≡ types.Set)
    → FitsAt r t l → RowFits r t l
row_fits r t l (inl h) e =
    let f = subst (λ (z : TypeKind). fits r z (kind_at l) ≡ true) h e in
    let a = layout_of_kind l kinds.List (list_kind r (kind_at l) f) in
    let q = type_of_kind t types.List h in
    subst (λ (z : TypeTree). RowFits r z l) (sym q) (list_row r (element_of t) l a)
row_fits r t l (inr h) e =
    let f = subst (λ (z : TypeKind). fits r z (kind_at l) ≡ true) h e in
    let a = layout_of_kind l kinds.Set (set_kind r (kind_at l) f) in
    let q = type_of_kind t types.Set h in
    subst (λ (z : TypeTree). RowFits r z l) (sym q) (set_row r (element_of t) l a)

pub record MapFits (r : Bool) (t : TypeTree) (l : Layout) : Type 0 where
  pub holder : IsHolder l
  pub map : IsMap l
  pub fault : type_fault r t l ≡ under (pos 3) (fault_at_pair r t (item_of l))
  pub nodes : (i : ℕ) → nodes_at t l i ≡ range_nodes i ++ plan_at_pair t (item_of l) (3 + i)

map_row : (r : Bool) (x y : TypeTree) (l : Layout) → HolderAt AMap l → MapFits r (map_of x y) l
map_row r x y l a = record {
  holder = subst (λ (z : Layout). IsHolder z) (sym a.is) tt;
  map = subst (λ (z : Layout). IsMap z) (sym a.is) tt;
  fault = ap (λ (z : Layout). type_fault r (map_of x y) z) a.is;
  nodes = λ i. ap (λ (z : Layout). nodes_at (map_of x y) z i) a.is;
}

pub map_fits : (r : Bool) (t : TypeTree) (l : Layout) → kind_of t ≡ types.Map → FitsAt r t l → MapFits r t l
map_fits r t l h e =
    let f = subst (λ (z : TypeKind). fits r z (kind_at l) ≡ true) h e in
    let a = layout_of_kind l kinds.Map (map_kind r (kind_at l) f) in
    subst (λ (z : TypeTree). MapFits r z l) (sym (type_of_kind t types.Map h))
    (map_row r (key_of t) (value_of t) l a)

-- ---- structs and optionals

pub struct_fits : (r : Bool) (t : TypeTree) (l : Layout) → kind_of t ≡ types.Struct → FitsAt r t l
    → l ≡ Struct (fields_in l)
struct_fits r t l h e =
    let f = subst (λ (z : TypeKind). fits r z (kind_at l) ≡ true) h e in
    layout_of_kind l kinds.Struct (struct_kind r l f)

pub optional_here : (k : Kind) (l : Layout) → plain k ≡ kind_at l → k ≡ kinds.Optional → OptionalAt l
optional_here k l e h = layout_of_kind l kinds.Optional (sym e ∙ ap plain h)

bytes_range : (t : TypeTree) (k : TypeKind) (r : Bool) (l : Layout) → IsBytesType k → fits r k (kind_at l)
    ≡ true
    → IsRange l
bytes_range t types.Text r l h e =
    let a = layout_of_kind l kinds.Text (text_kind r (kind_at l) e) in
    subst (λ (z : Layout). IsRange z) (sym a.is) tt
bytes_range t types.Bytes r l h e =
    let a = layout_of_kind l kinds.Bytes (bytes_kind r (kind_at l) e) in
    subst (λ (z : Layout). IsRange z) (sym a.is) tt
bytes_range t k r l h e = absurd h

pub range_here : (r : Bool) (t : TypeTree) (l : Layout) (k : TypeKind) → k ≡ kind_of t
    → (k ≡ types.Text) ⊎ (k ≡ types.Bytes) → FitsAt r t l → IsRange l
range_here r t l k e (inl h) f =
    bytes_range t (kind_of t) r l (subst (λ (z : TypeKind). IsBytesType z) (sym h ∙ e) tt) f
range_here r t l k e (inr h) f =
    bytes_range t (kind_of t) r l (subst (λ (z : TypeKind). IsBytesType z) (sym h ∙ e) tt) f
