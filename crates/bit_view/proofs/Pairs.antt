-- The kind of an item: a map's is a pair, and no other's is.
use Rattle.std.proofs.Common.{◌≡◌, ◌↔◌, ℕ, ◌+◌, ◌<◌, List, ◌++◌, arith, refl, ap, sym, ◌∙◌, subst, length, map}
use Rattle.std.proofs.Common.{get_or, slice_get, Option, Some, option_map, pos}
use Rattle.std.proofs.lemmas.List.{get_or_default}
use Rattle.frozen_model.specs.Trees.{LeafKind, Flag, Integer, I8, I16, I32, I64, ByteKind, Text, Binary, Holder}
use Rattle.frozen_model.specs.Trees.{AList, ASet, AMap, Leaf, ByteRange, ItemRange, Optional, Struct, Part}
use Rattle.frozen_model.specs.Trees.{IsFormed, IsItem, nodes}
use Rattle.frozen_model.specs.Layouts.{Version}
use Rattle.layout_tree.specs.declared.node.NodeSpec.{NodeSpec}
use Rattle.layout_tree.specs.declared.node.Kind.{Kind}
use Rattle.layout_tree.specs.declared.node.Kind.TheVariants as kinds
use Rattle.layout_tree.specs.Given.{shown}
use Rattle.layout_tree.specs.Listing.{Width, Noted, kind_of, kind_of_bytes, kind_of_holder, item_struct}
use Rattle.layout_tree.specs.Listing.{nodes_of, tree_of, all_nodes, IsListing, layout_in, sub, spec}
use Rattle.layout_tree.specs.Reading.{IsHolder}
use Rattle.layout_tree.proofs.Numbers.{get_listed}
use Rattle.layout_tree.proofs.Place.{At, at_part, some_nodes}
use Rattle.typed_tree.specs.Parts.{IsMap}
use Rattle.bit_view.specs.InPlace.{read_value}

-- the kind of a tree's first node, which is sk where it is a struct
abbrev first_kind : Noted → Kind → Kind
first_kind (Leaf k c) sk = kind_of k
first_kind (ByteRange t d c) sk = kind_of_bytes t
first_kind (ItemRange h d c l) sk = kind_of_holder h
first_kind (Optional w l) sk = kinds.Optional
first_kind (Struct ls) sk = sk

first_is : (t : Noted) (sk : Kind) (i p f o : ℕ) (rest : List NodeSpec) (x : NodeSpec)
    → (get_or (nodes_of t sk i p f o ++ rest) 0 x).kind ≡ first_kind t sk
first_is (Leaf k c) sk i p f o rest x = refl
first_is (ByteRange t d c) sk i p f o rest x = refl
first_is (ItemRange h d c l) sk i p f o rest x = refl
first_is (Optional w l) sk i p f o rest x = refl
first_is (Struct ls) sk i p f o rest x = refl

some_node : NodeSpec
some_node = spec kinds.Size 0 0 0 0 0 (pos 0)

-- the kind of the node of an item
abbrev ItemKind : List NodeSpec → ℕ → Kind → Type 0
ItemKind ns n k = option_map (λ (x : NodeSpec). x.kind) (slice_get (map shown (all_nodes (tree_of ns))) n)
    ≡ Some k

item_kind : (ns : List NodeSpec) (n : ℕ) (g : Holder) (d c : Width) (m : Noted) → IsListing ns
    → At ns (ItemRange g d c m) n → ItemKind ns (n + 3) (first_kind m (item_struct g))
item_kind ns n g d c m li a =
    let x = get_or ns (n + 3) some_node in
    let lt : n + 3 < length ns = omega (arith, a.within, some_nodes m) in
    let e : x.kind ≡ first_kind m (item_struct g) = ap (λ (y : NodeSpec). y.kind) (a.read 3 some_node)
    ∙ first_is m (item_struct g) _ n 3 0 a.post some_node in
    ap (option_map (λ (y : NodeSpec). y.kind)) (get_listed ns (n + 3) x li lt
    (get_or_default ns (n + 3) some_node x lt)) ∙ ap (λ (k : Kind). Some k) e

no_leaf : (k : LeafKind) → kind_of k ≡ kinds.Pair → ⊥
no_leaf Flag e = absurd cc
no_leaf (Integer I8) e = absurd cc
no_leaf (Integer I16) e = absurd cc
no_leaf (Integer I32) e = absurd cc
no_leaf (Integer I64) e = absurd cc

no_bytes : (t : ByteKind) → kind_of_bytes t ≡ kinds.Pair → ⊥
no_bytes Text e = absurd cc
no_bytes Binary e = absurd cc

no_holder : (h : Holder) → kind_of_holder h ≡ kinds.Pair → ⊥
no_holder AList e = absurd cc
no_holder ASet e = absurd cc
no_holder AMap e = absurd cc

no_pair : (t : Noted) → first_kind t kinds.Struct ≡ kinds.Pair → ⊥
no_pair (Leaf k c) e = no_leaf k e
no_pair (ByteRange t d c) e = no_bytes t e
no_pair (ItemRange h d c l) e = no_holder h e
no_pair (Optional w l) e = absurd cc
no_pair (Struct ls) e = absurd cc

a_pair : (v : Version) (t : Noted) → IsItem AMap (layout_in v t) → first_kind t kinds.Pair ≡ kinds.Pair
a_pair v (Struct ls) h = refl
a_pair v (Leaf k c) h = absurd h
a_pair v (ByteRange t d c) h = absurd h
a_pair v (ItemRange g d c l) h = absurd h
a_pair v (Optional w l) h = absurd h

same_some : (j k : Kind) → Some j ≡ Some k → j ≡ k
same_some j k e = cc

pair_by : (v : Version) (s : Noted) (ns : List NodeSpec) (n : ℕ) → IsListing ns → At ns s n
    → IsFormed (layout_in v s) → IsHolder (layout_in v s) → (bs : List ℕ) (block bit : ℕ)
    → ItemKind ns (n + 3) kinds.Pair ↔ IsMap (read_value bs (layout_in v s) block bit)
pair_by v (ItemRange AMap d c m) ns n li a f h bs block bit = (
  λ e. tt,
  λ x. item_kind ns n AMap d c m li a ∙ ap (λ (k : Kind). Some k) (a_pair v m f.0),
)
pair_by v (ItemRange AList d c m) ns n li a f h bs block bit = (
  λ e. absurd (no_pair m (same_some _ _ (sym (item_kind ns n AList d c m li a) ∙ e))),
  λ x. absurd x,
)
pair_by v (ItemRange ASet d c m) ns n li a f h bs block bit = (
  λ e. absurd (no_pair m (same_some _ _ (sym (item_kind ns n ASet d c m li a) ∙ e))),
  λ x. absurd x,
)
pair_by v (Leaf k c) ns n li a f h bs block bit = absurd h
pair_by v (ByteRange t d c) ns n li a f h bs block bit = absurd h
pair_by v (Optional w l) ns n li a f h bs block bit = absurd h
pair_by v (Struct ls) ns n li a f h bs block bit = absurd h

-- the item of a part is a pair exactly where the part is a map
pub item_pair : (v : Version) (ns : List NodeSpec) (n : ℕ) → IsListing ns
    → Part (tree_of ns) 0 (sub (tree_of ns) n) n → IsFormed (layout_in v (sub (tree_of ns) n))
    → IsHolder (layout_in v (sub (tree_of ns) n)) → (bs : List ℕ) (block bit : ℕ)
    → ItemKind ns (n + 3) kinds.Pair ↔ IsMap (read_value bs (layout_in v (sub (tree_of ns) n)) block bit)
item_pair v ns n li p f h bs block bit =
    pair_by v (sub (tree_of ns) n) ns n li (at_part ns (sub (tree_of ns) n) n li p) f h bs block bit
