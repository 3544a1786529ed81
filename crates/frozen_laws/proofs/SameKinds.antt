-- What a kind tree is does not turn on what stands at its leaves.
use Rattle.std.proofs.Common.{◌≡◌, arith, refl, subst}
use Rattle.frozen_model.specs.Trees.{kinds, kinds_all, LeafKind, Holder, AList, ASet, AMap, Tree, Trees, Leaf, ByteRange, ItemRange, Optional, Struct, NoField, Field, Leafwise, AllLeafwise, leaf, byte_range, item_range, optional, struct, no_field, field, IsKey, IsPlain, IsItem, Rising, IsFormed, AllFormed, nodes, nodes_all, levels, levels_all, greatest_bits, greatest_bits_all, IsNarrow, AllNarrow, IsStruct, IsKindTree, Alike}
use Rattle.frozen_laws.proofs.Leafwise.{ids_same}

module _ {A B C D : Type 0} {R : LeafKind → A → C → Type 0} {S T : B → D → Type 0} where
  mutual
    pub nodes_same : {l : Tree A B} {m : Tree C D} → Leafwise R S T l m → nodes l ≡ nodes m
    nodes_same (leaf h) = refl
    nodes_same (byte_range h i) = refl
    nodes_same (item_range h i x) = omega (arith, nodes_same x)
    nodes_same (optional h x) = omega (arith, nodes_same x)
    nodes_same (struct xs) = omega (arith, all_nodes_same xs)

    pub all_nodes_same : {ls : Trees A B} {ms : Trees C D} → AllLeafwise R S T ls ms → nodes_all ls ≡ nodes_all ms
    all_nodes_same no_field = refl
    all_nodes_same (field x xs) = omega (arith, nodes_same x, all_nodes_same xs)

  mutual
    pub levels_same : {l : Tree A B} {m : Tree C D} → Leafwise R S T l m → levels l ≡ levels m
    levels_same (leaf h) = refl
    levels_same (byte_range h i) = refl
    levels_same (item_range {h = AList} h i x) = omega (arith, levels_same x)
    levels_same (item_range {h = ASet} h i x) = omega (arith, levels_same x)
    levels_same (item_range {h = AMap} h i x) = levels_same x
    levels_same (optional h x) = levels_same x
    levels_same (struct xs) = omega (arith, all_levels_same xs)

    pub all_levels_same : {ls : Trees A B} {ms : Trees C D} → AllLeafwise R S T ls ms → levels_all ls ≡ levels_all ms
    all_levels_same no_field = refl
    all_levels_same (field x xs) = omega (arith, levels_same x, all_levels_same xs)

  mutual
    pub bits_same : {l : Tree A B} {m : Tree C D} → Leafwise R S T l m → greatest_bits l ≡ greatest_bits m
    bits_same (leaf h) = refl
    bits_same (byte_range h i) = refl
    bits_same (item_range h i x) = refl
    bits_same (optional h x) = omega (arith, bits_same x)
    bits_same (struct xs) = all_bits_same xs

    pub all_bits_same : {ls : Trees A B} {ms : Trees C D} → AllLeafwise R S T ls ms → greatest_bits_all ls ≡ greatest_bits_all ms
    all_bits_same no_field = refl
    all_bits_same (field x xs) = omega (arith, bits_same x, all_bits_same xs)

  mutual
    pub narrow_along : {l : Tree A B} {m : Tree C D} → Leafwise R S T l m → IsNarrow l → IsNarrow m
    narrow_along (leaf h) n = tt
    narrow_along (byte_range h i) n = tt
    narrow_along (item_range h i x) n = narrow_along x n
    narrow_along (optional h x) n = (omega (arith, bits_same x, n.0), narrow_along x n.1)
    narrow_along (struct xs) n = (omega (arith, all_bits_same xs, n.0), all_narrow_along xs n.1)

    pub all_narrow_along : {ls : Trees A B} {ms : Trees C D} → AllLeafwise R S T ls ms → AllNarrow ls → AllNarrow ms
    all_narrow_along no_field n = tt
    all_narrow_along (field x xs) n = (narrow_along x n.0, all_narrow_along xs n.1)

  key_along : {l : Tree A B} {m : Tree C D} → Leafwise R S T l m → IsKey l → IsKey m
  key_along (leaf h) k = tt
  key_along (byte_range h i) k = tt
  key_along (item_range h i x) k = absurd k
  key_along (optional h x) k = absurd k
  key_along (struct xs) k = absurd k

  plain_along : {l : Tree A B} {m : Tree C D} → Leafwise R S T l m → IsPlain l → IsPlain m
  plain_along (leaf h) p = tt
  plain_along (byte_range h i) p = tt
  plain_along (item_range h i x) p = tt
  plain_along (optional h x) p = absurd p
  plain_along (struct xs) p = tt

  pair_along : {l : Tree A B} {m : Tree C D} → Leafwise R S T l m → IsItem AMap l → IsItem AMap m
  pair_along (leaf h) i = absurd i
  pair_along (byte_range h j) i = absurd i
  pair_along (item_range h j x) i = absurd i
  pair_along (optional h x) i = absurd i
  pair_along (struct no_field) i = absurd i
  pair_along (struct (field x no_field)) i = absurd i
  pair_along (struct (field x (field y no_field))) i = (i.0, key_along x i.1, i.2, plain_along y i.3)
  pair_along (struct (field x (field y (field z zs)))) i = absurd i

  item_along : (h : Holder) {l : Tree A B} {m : Tree C D} → Leafwise R S T l m → IsItem h l → IsItem h m
  item_along AList x i = plain_along x i
  item_along ASet x i = key_along x i
  item_along AMap x i = pair_along x i

  mutual
    pub formed_along : {l : Tree A B} {m : Tree C D} → Leafwise R S T l m → IsFormed l → IsFormed m
    formed_along (leaf h) f = tt
    formed_along (byte_range h i) f = tt
    formed_along (item_range {h = g} h i x) f = (item_along g x f.0, formed_along x f.1)
    formed_along (optional h x) f = (plain_along x f.0, formed_along x f.1)
    formed_along (struct xs) f = (subst (Rising 0) (ids_same xs) f.0, all_formed_along xs f.1)

    pub all_formed_along : {ls : Trees A B} {ms : Trees C D} → AllLeafwise R S T ls ms → AllFormed ls → AllFormed ms
    all_formed_along no_field f = tt
    all_formed_along (field x xs) f = (formed_along x f.0, all_formed_along xs f.1)

  pub struct_along : {l : Tree A B} {m : Tree C D} → Leafwise R S T l m → IsStruct l → IsStruct m
  struct_along (leaf h) s = absurd s
  struct_along (byte_range h i) s = absurd s
  struct_along (item_range h i x) s = absurd s
  struct_along (optional h x) s = absurd s
  struct_along (struct xs) s = tt

  pub kind_tree_along : {l : Tree A B} {m : Tree C D} → Leafwise R S T l m → IsKindTree l → IsKindTree m
  kind_tree_along x k = record {
    formed = formed_along x k.formed;
    few = omega (arith, nodes_same x, k.few);
    shallow = omega (arith, levels_same x, k.shallow);
    narrow = narrow_along x k.narrow;
  }

-- a tree and its kinds
mutual
  pub kinds_alike : {A B : Type 0} (l : Tree A B) → Alike l (kinds l)
  kinds_alike (Leaf k a) = leaf tt
  kinds_alike (ByteRange t d c) = byte_range tt tt
  kinds_alike (ItemRange h d c l) = item_range tt tt (kinds_alike l)
  kinds_alike (Optional w l) = optional tt (kinds_alike l)
  kinds_alike (Struct ls) = struct (all_kinds_alike ls)

  pub all_kinds_alike : {A B : Type 0} (ls : Trees A B) → AllLeafwise (λ (k : LeafKind) (a : A) (c : Unit {0}). Unit {0}) (λ (b : B) (d : Unit {0}). Unit {0}) (λ (b : B) (d : Unit {0}). Unit {0}) ls (kinds_all ls)
  all_kinds_alike NoField = no_field
  all_kinds_alike (Field i l ls) = field (kinds_alike l) (all_kinds_alike ls)
