-- A layout rests where each leaf has its noted width.
use Rattle.std.proofs.Common.{◌≡◌, ℕ, zero, suc, ◌+◌, ◌<◌, ◌≤◌, List, [], ◌∷◌, ◌++◌, Bool, true, false}
use Rattle.std.proofs.Common.{nat_eq, arith, refl, ap, sym, ◌∙◌, length, get_or, drop, ◌&&◌}
use Rattle.std.proofs.lemmas.Bool.Decides.{nat_tests}
use Rattle.frozen_model.specs.Trees.{Flag, Integer, I8, I16, I32, I64, Text, Binary, AList, ASet, AMap, Leaf}
use Rattle.frozen_model.specs.Trees.{ByteRange, ItemRange, Optional, Struct, NoField, Field, nodes}
use Rattle.frozen_model.specs.Layouts.{Version, Layout, Layouts, width}
use Rattle.frozen_laws.proofs.Reading.{from_eq}
use Rattle.layout_tree.specs.declared.node.NodeSpec.{NodeSpec}
use Rattle.layout_tree.specs.declared.node.Kind.{Kind}
use Rattle.layout_tree.specs.declared.node.Kind.TheVariants as kinds
use Rattle.layout_tree.specs.Listing.{Noted, AllNoted, Width, coded, layout_in, layouts_in, settled}
use Rattle.layout_tree.specs.Listing.{settled_all, inline, item_struct, nodes_of, nodes_of_all, tree_of}
use Rattle.layout_tree.specs.Listing.{IsListing}
use Rattle.layout_tree.specs.Segments.{IsStructKind}
use Rattle.layout_tree.specs.Rest.{IsLeafKind, rests_in, all_rest}
use Rattle.layout_tree.proofs.Readings.{coded_width}

pub rest_step : (xs : List NodeSpec) (i : ℕ) (d : NodeSpec) → i < length xs → all_rest (drop i xs)
    ≡ rests_in (get_or xs i d) && all_rest (drop (i + 1) xs)
rest_step [] i d h = absurd (omega arith)
rest_step (x ∷ xs) zero d h = refl
rest_step (x ∷ xs) (suc i) d h = let e : suc i + 1
    ≡ suc (i + 1) = omega arith in rest_step xs i d (omega arith)
    ∙ ap (λ k. rests_in (get_or xs i d) && all_rest (drop k (x ∷ xs))) (sym e)

and_assoc : (a b c : Bool) → (a && b) && c ≡ a && (b && c)
and_assoc true b c = refl
and_assoc false b c = refl

rest_join : (xs ys : List NodeSpec) → all_rest (xs ++ ys) ≡ all_rest xs && all_rest ys
rest_join [] ys = refl
rest_join (x ∷ xs) ys = ap (λ z. rests_in x && z) (rest_join xs ys)
    ∙ sym (and_assoc (rests_in x) (all_rest xs) (all_rest ys))

abbrev still_width : Width → Bool
still_width w = nat_eq w.bits w.wide

abbrev mutual
  still : Noted → Bool
  still (Leaf k c) = nat_eq c.bits c.wide && true
  still (ByteRange t d c) = still_width d && (still_width c && true)
  still (ItemRange h d c l) = still_width d && (still_width c && still l)
  still (Optional w l) = still_width w && still l
  still (Struct ls) = still_all ls

  still_all : AllNoted → Bool
  still_all NoField = true
  still_all (Field i l ls) = still l && still_all ls

pub struct_item : (h : _) → IsStructKind (item_struct h)
struct_item AList = tt
struct_item ASet = tt
struct_item AMap = tt

struct_kind : (k : Kind) (b : Bool) → IsStructKind k → IsLeafKind k b ≡ true
struct_kind kinds.Struct b h = refl
struct_kind kinds.Pair b h = refl
struct_kind kinds.Flag b h = absurd h
struct_kind kinds.I8 b h = absurd h
struct_kind kinds.I16 b h = absurd h
struct_kind kinds.I32 b h = absurd h
struct_kind kinds.I64 b h = absurd h
struct_kind kinds.Text b h = absurd h
struct_kind kinds.Bytes b h = absurd h
struct_kind kinds.List b h = absurd h
struct_kind kinds.Set b h = absurd h
struct_kind kinds.Map b h = absurd h
struct_kind kinds.Optional b h = absurd h
struct_kind kinds.Size b h = absurd h

mutual
  still_nodes : (t : Noted) (sk : Kind) (i p f o : ℕ) → IsStructKind sk → all_rest (nodes_of t sk i p f o)
      ≡ still t
  still_nodes (Leaf Flag c) sk i p f o h = refl
  still_nodes (Leaf (Integer I8) c) sk i p f o h = refl
  still_nodes (Leaf (Integer I16) c) sk i p f o h = refl
  still_nodes (Leaf (Integer I32) c) sk i p f o h = refl
  still_nodes (Leaf (Integer I64) c) sk i p f o h = refl
  still_nodes (ByteRange Text d c) sk i p f o h = refl
  still_nodes (ByteRange Binary d c) sk i p f o h = refl
  still_nodes (ItemRange AList d c l) sk i p f o h = ap (λ z. still_width d && (still_width c && z))
      (still_nodes l (item_struct AList) (suc (suc (suc i))) i 3 0 tt)
  still_nodes (ItemRange ASet d c l) sk i p f o h = ap (λ z. still_width d && (still_width c && z))
      (still_nodes l (item_struct ASet) (suc (suc (suc i))) i 3 0 tt)
  still_nodes (ItemRange AMap d c l) sk i p f o h = ap (λ z. still_width d && (still_width c && z))
      (still_nodes l (item_struct AMap) (suc (suc (suc i))) i 3 0 tt)
  still_nodes (Optional w l) sk i p f o h = ap (λ z. still_width w && z)
      (still_nodes l kinds.Struct (suc (suc i)) i 2 w.bits tt)
  still_nodes (Struct ls) sk i p f o h = ap (λ z. z && all_rest (nodes_of_all ls (suc i) i 0))
      (struct_kind sk _ h) ∙ still_nodes_all ls (suc i) i 0

  still_nodes_all : (ls : AllNoted) (i p o : ℕ) → all_rest (nodes_of_all ls i p o) ≡ still_all ls
  still_nodes_all NoField i p o = refl
  still_nodes_all (Field id l ls) i p o =
      rest_join (nodes_of l kinds.Struct i p id o) (nodes_of_all ls (i + nodes l) p (o + inline l))
      ∙ ap (λ z. z && all_rest (nodes_of_all ls (i + nodes l) p (o + inline l)))
      (still_nodes l kinds.Struct i p id o tt)
      ∙ ap (λ z. still l && z) (still_nodes_all ls (i + nodes l) p (o + inline l))

both_true : (a b : Bool) → a && b ≡ true → (a ≡ true) × (b ≡ true)
both_true true b e = (refl, e)
both_true false b e = absurd cc

width_same : (m n : ℕ) → n ≡ m → nat_eq m n ≡ true
width_same m n h = grind (arith, nat_tests)

mutual
  still_settled : (v : Version) (t : Noted) → still t ≡ true → layout_in v (settled t) ≡ layout_in v t
  still_settled v (Leaf k c) e = let h = from_eq c.bits c.wide
      (both_true (nat_eq c.bits c.wide) true e).0 in ap (λ w. Leaf k (coded v k c.base w)) (sym h)
  still_settled v (ByteRange t d c) e =
      let a = both_true (still_width d) (still_width c && true) e in
      let b = both_true (still_width c) true a.1 in
      ap (λ w. ByteRange t w c.wide) (sym (from_eq d.bits d.wide a.0))
      ∙ ap (λ w. ByteRange t d.bits w) (sym (from_eq c.bits c.wide b.0))
  still_settled v (ItemRange g d c l) e =
      let a = both_true (still_width d) (still_width c && still l) e in
      let b = both_true (still_width c) (still l) a.1 in
      ap (λ w. ItemRange g w c.wide (layout_in v (settled l))) (sym (from_eq d.bits d.wide a.0))
      ∙ ap (λ w. ItemRange g d.bits w (layout_in v (settled l))) (sym (from_eq c.bits c.wide b.0))
      ∙ ap (λ (m : Layout). ItemRange g d.bits c.bits m) (still_settled v l b.1)
  still_settled v (Optional w l) e =
      let a = both_true (still_width w) (still l) e in
      ap (λ z. Optional z (layout_in v (settled l))) (sym (from_eq w.bits w.wide a.0))
      ∙ ap (λ (m : Layout). Optional w.bits m) (still_settled v l a.1)
  still_settled v (Struct ls) e = ap (λ (m : Layouts). Struct m) (still_settled_all v ls e)

  still_settled_all : (v : Version) (ls : AllNoted) → still_all ls ≡ true → layouts_in v (settled_all ls)
      ≡ layouts_in v ls
  still_settled_all v NoField e = refl
  still_settled_all v (Field i l ls) e =
      let a = both_true (still l) (still_all ls) e in
      ap (λ (m : Layout). Field i m (layouts_in v (settled_all ls))) (still_settled v l a.0)
      ∙ ap (λ (m : Layouts). Field i (layout_in v l) m) (still_settled_all v ls a.1)

mutual
  settled_still : (v : Version) (t : Noted) → layout_in v (settled t) ≡ layout_in v t → still t ≡ true
  settled_still v (Leaf k c) e =
      let h : coded v k c.base c.wide ≡ coded v k c.base c.bits = cc in
      let w : c.wide ≡ c.bits = sym (coded_width v k c.base c.wide) ∙ ap width h
      ∙ coded_width v k c.base c.bits in
      ap (λ b. b && true) (width_same c.bits c.wide w)
  settled_still v (ByteRange t d c) e =
      let a : d.wide ≡ d.bits = cc in
      let b : c.wide ≡ c.bits = cc in
      ap (λ z. z && (still_width c && true)) (width_same d.bits d.wide a)
      ∙ ap (λ z. z && true) (width_same c.bits c.wide b)
  settled_still v (ItemRange g d c l) e =
      let a : d.wide ≡ d.bits = cc in
      let b : c.wide ≡ c.bits = cc in
      let m : layout_in v (settled l) ≡ layout_in v l = cc in
      ap (λ z. z && (still_width c && still l)) (width_same d.bits d.wide a)
      ∙ ap (λ z. z && still l) (width_same c.bits c.wide b) ∙ settled_still v l m
  settled_still v (Optional w l) e =
      let a : w.wide ≡ w.bits = cc in
      let m : layout_in v (settled l) ≡ layout_in v l = cc in
      ap (λ z. z && still l) (width_same w.bits w.wide a) ∙ settled_still v l m
  settled_still v (Struct ls) e = let m : layouts_in v (settled_all ls)
      ≡ layouts_in v ls = cc in settled_still_all v ls m

  settled_still_all : (v : Version) (ls : AllNoted) → layouts_in v (settled_all ls) ≡ layouts_in v ls
      → still_all ls ≡ true
  settled_still_all v NoField e = refl
  settled_still_all v (Field i l ls) e =
      let a : layout_in v (settled l) ≡ layout_in v l = cc in
      let m : layouts_in v (settled_all ls) ≡ layouts_in v ls = cc in
      ap (λ z. z && still_all ls) (settled_still v l a) ∙ settled_still_all v ls m

pub rest_settled : (v : Version) (ns : List NodeSpec) → IsListing ns → all_rest ns ≡ true
    → layout_in v (settled (tree_of ns)) ≡ layout_in v (tree_of ns)
rest_settled v ns h e = still_settled v (tree_of ns)
    (sym (still_nodes (tree_of ns) kinds.Struct 0 0 0 0 tt) ∙ sym (ap all_rest h) ∙ e)

pub settled_rest : (v : Version) (ns : List NodeSpec) → IsListing ns → layout_in v (settled (tree_of ns))
    ≡ layout_in v (tree_of ns) → all_rest ns ≡ true
settled_rest v ns h e = ap all_rest h ∙ still_nodes (tree_of ns) kinds.Struct 0 0 0 0 tt
    ∙ settled_still v (tree_of ns) e

pub rest_end : (xs : List NodeSpec) (i : ℕ) → length xs ≤ i → all_rest (drop i xs) ≡ true
rest_end [] zero h = refl
rest_end [] (suc i) h = refl
rest_end (x ∷ xs) zero h = absurd (omega arith)
rest_end (x ∷ xs) (suc i) h = rest_end xs i (omega arith)
