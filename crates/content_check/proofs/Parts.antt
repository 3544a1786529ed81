-- Kinds of parts, and what of their fields is left.
use Rattle.std.proofs.Common.{◌≡◌, ◌⊎◌, inl, inr, ℕ, ◌+◌, refl, sym, subst, true, false}
use Rattle.frozen_model.specs.Trees.{Whole, Flag, Integer, I8, I16, I32, I64, Text, Binary, AList, ASet, AMap}
use Rattle.frozen_model.specs.Trees.{Leaf, ByteRange, ItemRange, Optional, Struct, nodes}
use Rattle.frozen_model.specs.Values.{inline_cells, inline_cells_all}
use Rattle.frozen_model.specs.Layouts.{Version, Layout, Coded}
use Rattle.layout_tree.specs.declared.node.Kind.{Kind}
use Rattle.layout_tree.specs.declared.node.Kind.TheVariants as kinds
use Rattle.layout_tree.specs.Listing.{AllNoted, layouts_in}
use Rattle.layout_tree.specs.Reading.{plain, kind_at, IsLeaf, IsHolder, IsOptional, IsStruct, item_of}
use Rattle.content_check.specs.Steps.{IsByteRange, IsList, IsSet, IsMap}
use Rattle.content_check.specs.Sure.{IsSure, AllSure, AlwaysIn}

-- ---- kinds

abbrev pub IsShape : Kind → Layout → Type 0
IsShape kinds.Flag l = IsLeaf l
IsShape kinds.I8 l = IsLeaf l
IsShape kinds.I16 l = IsLeaf l
IsShape kinds.I32 l = IsLeaf l
IsShape kinds.I64 l = IsLeaf l
IsShape kinds.Text l = IsByteRange l true
IsShape kinds.Bytes l = IsByteRange l false
IsShape kinds.List l = IsList l
IsShape kinds.Set l = IsSet l
IsShape kinds.Map l = IsMap l
IsShape kinds.Pair l = IsStruct l
IsShape kinds.Struct l = IsStruct l
IsShape kinds.Optional l = IsOptional l
IsShape kinds.Size l = ⊥

shape_at : (l : Layout) → IsShape (kind_at l) l
shape_at (Leaf Flag c) = tt
shape_at (Leaf (Integer I8) c) = tt
shape_at (Leaf (Integer I16) c) = tt
shape_at (Leaf (Integer I32) c) = tt
shape_at (Leaf (Integer I64) c) = tt
shape_at (ByteRange Text d c) = record { distance = d; count = c; is = refl }
shape_at (ByteRange Binary d c) = record { distance = d; count = c; is = refl }
shape_at (ItemRange AList d c l) = tt
shape_at (ItemRange ASet d c l) = tt
shape_at (ItemRange AMap d c l) = tt
shape_at (Optional w l) = tt
shape_at (Struct ls) = tt

pub shape : (k : Kind) (l : Layout) → plain k ≡ kind_at l → IsShape (plain k) l
shape k l e = subst (λ z. IsShape z l) (sym e) (shape_at l)

pub list_holder : (l : Layout) → IsList l → IsHolder l
list_holder (ItemRange AList d c l) h = tt
list_holder (ItemRange ASet d c l) h = absurd h
list_holder (ItemRange AMap d c l) h = absurd h
list_holder (Leaf k c) h = absurd h
list_holder (ByteRange k d c) h = absurd h
list_holder (Optional w l) h = absurd h
list_holder (Struct ls) h = absurd h

pub struct_shape : (k : Kind) (l : Layout) → IsShape (plain k) l → (k ≡ kinds.Struct) ⊎ (k ≡ kinds.Pair)
    → IsStruct l
struct_shape k l s (inl e) = subst (λ z. IsShape (plain z) l) e s
struct_shape k l s (inr e) = subst (λ z. IsShape (plain z) l) e s

pub leaf_shape : (k : Kind) (l : Layout) → IsShape (plain k) l → (k ≡ kinds.I8)
    ⊎ ((k ≡ kinds.I16) ⊎ ((k ≡ kinds.I32) ⊎ ((k ≡ kinds.I64) ⊎ (k ≡ kinds.Size)))) → IsLeaf l
leaf_shape k l s (inl e) = subst (λ z. IsShape (plain z) l) e s
leaf_shape k l s (inr (inl e)) = subst (λ z. IsShape (plain z) l) e s
leaf_shape k l s (inr (inr (inl e))) = subst (λ z. IsShape (plain z) l) e s
leaf_shape k l s (inr (inr (inr (inl e)))) = subst (λ z. IsShape (plain z) l) e s
leaf_shape k l s (inr (inr (inr (inr e)))) = absurd (subst (λ z. IsShape (plain z) l) e s)

-- ---- forms

pub record OptionalAt (l : Layout) : Type 0 where
  pub width : ℕ
  pub inner : Layout
  pub is : l ≡ Optional width inner

pub optional_at : (l : Layout) → IsOptional l → OptionalAt l
optional_at (Optional w m) h = record { width = w; inner = m; is = refl }
optional_at (Leaf k c) h = absurd h
optional_at (ByteRange k d c) h = absurd h
optional_at (ItemRange g d c l) h = absurd h
optional_at (Struct ls) h = absurd h

-- the cells that the fields that are left add to a sum
pub record CellsLeft (v : Version) (l : Layout) (sum : ℕ) (fs : AllNoted) : Type 0 where
  pub is : sum + inline_cells_all (layouts_in v fs) ≡ inline_cells l

pub item_nodes : (l : Layout) → IsHolder l → nodes l ≡ 3 + nodes (item_of l)
item_nodes (ItemRange g d c l) h = refl
item_nodes (Leaf k c) h = absurd h
item_nodes (ByteRange k d c) h = absurd h
item_nodes (Optional w l) h = absurd h
item_nodes (Struct ls) h = absurd h

-- the layout is sure if the fields that are left are
pub record SureLeft (v : Version) (l : Layout) (fs : AllNoted) : Type 0 where
  pub then : AllSure (layouts_in v fs) → IsSure l

pub sure_leaf : (l : Layout) → IsLeaf l
    → ((k : Whole) (c : Coded) → l ≡ Leaf (Integer k) c → AlwaysIn (Integer k) c) → IsSure l
sure_leaf (Leaf Flag c) h f = λ m lt. refl
sure_leaf (Leaf (Integer k) c) h f = f k c refl
sure_leaf (ByteRange k d c) h f = absurd h
sure_leaf (ItemRange g d c l) h f = absurd h
sure_leaf (Optional w l) h f = absurd h
sure_leaf (Struct ls) h f = absurd h

pub sure_flag : (l : Layout) → kinds.Flag ≡ kind_at l → IsSure l
sure_flag (Leaf Flag c) e = λ m lt. refl
sure_flag (Leaf (Integer I8) c) e = absurd cc
sure_flag (Leaf (Integer I16) c) e = absurd cc
sure_flag (Leaf (Integer I32) c) e = absurd cc
sure_flag (Leaf (Integer I64) c) e = absurd cc
sure_flag (ByteRange Text d c) e = absurd cc
sure_flag (ByteRange Binary d c) e = absurd cc
sure_flag (ItemRange AList d c l) e = absurd cc
sure_flag (ItemRange ASet d c l) e = absurd cc
sure_flag (ItemRange AMap d c l) e = absurd cc
sure_flag (Optional w l) e = absurd cc
sure_flag (Struct ls) e = absurd cc
