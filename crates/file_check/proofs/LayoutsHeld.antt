-- That two layouts are equal is a fact once it is so under a truncation, since all that they are made of is.
use Rattle.std.proofs.Common.{◌≡◌, refl, ap, ◌∙◌}
use Rattle.std.proofs.Math.Logic.{∥∥₁_elim, ∥∥₁_map}
use Rattle.std.specs.Coded.{Coded-set, coded_ℤ, coded_bool}
use Rattle.frozen_model.specs.Trees.{I8, I16, I32, I64, LeafKind, Flag, Integer, ByteKind, Text, Binary}
use Rattle.frozen_model.specs.Trees.{Holder, AList, ASet, AMap, Leaf, ByteRange, ItemRange, Optional, Struct}
use Rattle.frozen_model.specs.Trees.{NoField, Field}
use Rattle.frozen_model.specs.Layouts.{Version, Version1, Version2, Coded, Unsigned, TwosComplement, FromBase}
use Rattle.frozen_model.specs.Layouts.{Layout, Layouts}
use Rattle.frozen_model.specs.Layouts.{Described, described}
use Rattle.layout_tree.proofs.Held.{eq_held, never}

versions : (x y : Version) → ∥ x ≡ y ∥₁ → x ≡ y
versions Version1 Version1 h = refl
versions Version2 Version2 h = refl
versions x y h = absurd (never (∥∥₁_map h (λ e. cc)))

leaf_kinds : (x y : LeafKind) → ∥ x ≡ y ∥₁ → x ≡ y
leaf_kinds Flag Flag h = refl
leaf_kinds (Integer I8) (Integer I8) h = refl
leaf_kinds (Integer I16) (Integer I16) h = refl
leaf_kinds (Integer I32) (Integer I32) h = refl
leaf_kinds (Integer I64) (Integer I64) h = refl
leaf_kinds x y h = absurd (never (∥∥₁_map h (λ e. cc)))

byte_kinds : (x y : ByteKind) → ∥ x ≡ y ∥₁ → x ≡ y
byte_kinds Text Text h = refl
byte_kinds Binary Binary h = refl
byte_kinds x y h = absurd (never (∥∥₁_map h (λ e. cc)))

holders : (x y : Holder) → ∥ x ≡ y ∥₁ → x ≡ y
holders AList AList h = refl
holders ASet ASet h = refl
holders AMap AMap h = refl
holders x y h = absurd (never (∥∥₁_map h (λ e. cc)))

codings : (x y : Coded) → ∥ x ≡ y ∥₁ → x ≡ y
codings (Unsigned v) (Unsigned w) h = ap (λ n. Unsigned n) (eq_held (∥∥₁_map h (λ e. cc)))
codings (TwosComplement v) (TwosComplement w) h =
    ap (λ n. TwosComplement n) (eq_held (∥∥₁_map h (λ e. cc)))
codings (FromBase a v) (FromBase b w) h =
    let x : a ≡ b = ∥∥₁_elim h (Coded-set coded_ℤ a b) (λ e. cc) in
    let y : v ≡ w = eq_held (∥∥₁_map h (λ e. cc)) in
    cc
codings x y h = absurd (never (∥∥₁_map h (λ e. cc)))

mutual
  trees : (l m : Layout) → ∥ l ≡ m ∥₁ → l ≡ m
  trees (Leaf k c) (Leaf j d) h =
      let x : k ≡ j = leaf_kinds k j (∥∥₁_map h (λ e. cc)) in
      let y : c ≡ d = codings c d (∥∥₁_map h (λ e. cc)) in
      cc
  trees (ByteRange s c d) (ByteRange t e f) h =
      let x : s ≡ t = byte_kinds s t (∥∥₁_map h (λ q. cc)) in
      let y : c ≡ e = eq_held (∥∥₁_map h (λ q. cc)) in
      let z : d ≡ f = eq_held (∥∥₁_map h (λ q. cc)) in
      cc
  trees (ItemRange s c d l) (ItemRange t e f m) h =
      let x : s ≡ t = holders s t (∥∥₁_map h (λ q. cc)) in
      let y : c ≡ e = eq_held (∥∥₁_map h (λ q. cc)) in
      let z : d ≡ f = eq_held (∥∥₁_map h (λ q. cc)) in
      let w : l ≡ m = trees l m (∥∥₁_map h (λ q. cc)) in
      cc
  trees (Optional c l) (Optional d m) h =
      let x : c ≡ d = eq_held (∥∥₁_map h (λ q. cc)) in
      let w : l ≡ m = trees l m (∥∥₁_map h (λ q. cc)) in
      cc
  trees (Struct ls) (Struct ms) h = ap (λ s. Struct s) (all_trees ls ms (∥∥₁_map h (λ q. cc)))
  trees l m h = absurd (never (∥∥₁_map h (λ e. cc)))

  all_trees : (ls ms : Layouts) → ∥ ls ≡ ms ∥₁ → ls ≡ ms
  all_trees NoField NoField h = refl
  all_trees (Field i l ls) (Field j m ms) h =
      let x : i ≡ j = eq_held (∥∥₁_map h (λ q. cc)) in
      let y : l ≡ m = trees l m (∥∥₁_map h (λ q. cc)) in
      let z : ls ≡ ms = all_trees ls ms (∥∥₁_map h (λ q. cc)) in
      cc
  all_trees ls ms h = absurd (never (∥∥₁_map h (λ e. cc)))

pub layouts_held : (d e : Described) → ∥ d ≡ e ∥₁ → d ≡ e
layouts_held d e h =
    let x : d.version
    ≡ e.version = versions d.version e.version (∥∥₁_map h (ap (λ (c : Described). c.version))) in
    let y : d.relaxed
    ≡ e.relaxed =
    ∥∥₁_elim h (Coded-set coded_bool d.relaxed e.relaxed) (ap (λ (c : Described). c.relaxed)) in
    let z : d.tree ≡ e.tree = trees d.tree e.tree (∥∥₁_map h (ap (λ (c : Described). c.tree))) in
    ap (λ v. described v d.relaxed d.tree) x ∙ ap (λ r. described e.version r d.tree) y
    ∙ ap (λ t. described e.version e.relaxed t) z
