-- The form of sets, and their keys.
use Rattle.std.proofs.Common.{◌≡◌, ℕ, ◌+◌, ◌≤◌, arith, refl, sym, subst}
use Rattle.std.proofs.Math.Logic.{∥∥₁_elim}
use Rattle.std.proofs.Math.Bridge.{le_prop}
use Rattle.frozen_model.specs.Trees.{AList, ASet, AMap, Tree, Trees, Leaf, ByteRange, ItemRange, Optional}
use Rattle.frozen_model.specs.Trees.{Struct, kinds as kinds_of, kinds_all, IsKey, IsFormed, Part}
use Rattle.frozen_model.specs.Trees.{PartAll, itself, in_item, in_optional, in_struct, in_first, in_later}
use Rattle.frozen_model.specs.Values.{key_of}
use Rattle.frozen_model.specs.Layouts.{Version, Layout}
use Rattle.layout_tree.specs.declared.node.FormVersion.{FormVersion}
use Rattle.layout_tree.specs.Listing.{Noted, layout_in, version_of, IsNotedLayout}
use Rattle.layout_tree.specs.Reading.{IsHolder, item_of}
use Rattle.layout_tree.proofs.Readings.{formed_part, kinds_nodes}
use Rattle.key_order.specs.declared.key.Key.{Key}
use Rattle.key_order.specs.declared.key.Key.TheVariants as key
use Rattle.key_order.specs.Keys.{value_of}
use Rattle.content_check.specs.Steps.{IsSet}
use Rattle.content_check.proofs.Walks.{RangeAt}

-- a part of a tree is one of its kinds
mutual
  part_kinds : {A B : Type 0} {t s : Tree A B} {i n : ℕ} → Part t i s n → Part (kinds_of t) i (kinds_of s) n
  part_kinds itself = itself
  part_kinds (in_item p) = in_item (part_kinds p)
  part_kinds (in_optional p) = in_optional (part_kinds p)
  part_kinds (in_struct p) = in_struct (part_kinds_all p)

  part_kinds_all : {A B : Type 0} {ts : Trees A B} {s : Tree A B} {i n : ℕ} → PartAll ts i s n
      → PartAll (kinds_all ts) i (kinds_of s) n
  part_kinds_all (in_first p) = in_first (part_kinds p)
  part_kinds_all {s = s} {i = i} {n = n} (in_later {l = l} {ls = ls} p) = in_later
      (subst (λ j. PartAll (kinds_all ls) (i + j) (kinds_of s) n) (sym (kinds_nodes l)) (part_kinds_all p))

pub formed_kinds : {A B : Type 0} {t s : Tree A B} {i n : ℕ} → Part t i s n → IsFormed (kinds_of t)
    → IsFormed (kinds_of s)
formed_kinds p h = formed_part (part_kinds p) h

-- 1 where the item is a key
abbrev pub key_n : Layout → ℕ
key_n (Leaf k c) = 1
key_n (ByteRange t d c) = 1
key_n l = 0

set_n : (v : Version) (s : Noted) → IsFormed (kinds_of s) → IsSet (layout_in v s) → 1
    ≤ key_n (item_of (layout_in v s))
set_n v (ItemRange ASet d c (Leaf k x)) f h = omega arith
set_n v (ItemRange ASet d c (ByteRange t x y)) f h = omega arith
set_n v (ItemRange ASet d c (ItemRange g x y m)) f h = absurd f.0
set_n v (ItemRange ASet d c (Optional w m)) f h = absurd f.0
set_n v (ItemRange ASet d c (Struct ls)) f h = absurd f.0
set_n v (ItemRange AList d c m) f h = absurd h
set_n v (ItemRange AMap d c m) f h = absurd h
set_n v (Leaf k c) f h = absurd h
set_n v (ByteRange t d c) f h = absurd h
set_n v (Optional w m) f h = absurd h
set_n v (Struct ls) f h = absurd h

pub is_key : (l : Layout) → 1 ≤ key_n l → IsKey l
is_key (Leaf k c) h = tt
is_key (ByteRange t d c) h = tt
is_key (ItemRange g d c m) h = absurd (omega arith)
is_key (Optional w m) h = absurd (omega arith)
is_key (Struct ls) h = absurd (omega arith)

pub set_key : (e : FormVersion) (t s : Noted) (n : ℕ) → ∥ IsNotedLayout e t ∥₁ → Part t 0 s n
    → IsSet (layout_in (version_of e) s) → IsKey (item_of (layout_in (version_of e) s))
set_key e t s n h p i = is_key (item_of (layout_in (version_of e) s))
    (∥∥₁_elim h le_prop (λ x. set_n (version_of e) s (formed_kinds p x.kind_tree.formed) i))

pub set_at : (l : Layout) → IsSet l → RangeAt ASet l
set_at (ItemRange ASet d c m) h = record { distance = d; count = c; is = refl }
set_at (ItemRange AList d c m) h = absurd h
set_at (ItemRange AMap d c m) h = absurd h
set_at (Leaf k c) h = absurd h
set_at (ByteRange k d c) h = absurd h
set_at (Optional w m) h = absurd h
set_at (Struct ls) h = absurd h

pub set_holder : (l : Layout) → IsSet l → IsHolder l
set_holder (ItemRange ASet d c m) h = tt
set_holder (ItemRange AList d c m) h = absurd h
set_holder (ItemRange AMap d c m) h = absurd h
set_holder (Leaf k c) h = absurd h
set_holder (ByteRange k d c) h = absurd h
set_holder (Optional w m) h = absurd h
set_holder (Struct ls) h = absurd h

pub key_self : (k : Key) → key_of (value_of k) ≡ value_of k
key_self (key.Flag b) = refl
key_self (key.Number z) = refl
key_self (key.Bytes b) = refl
