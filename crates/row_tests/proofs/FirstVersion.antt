-- The nodes of a layout, as nodes of version 1, list the layout of version 1 with the same widths.
use Rattle.std.proofs.Common.{◌≡◌, ℕ, suc, ◌+◌, ◌≤◌, ◌<◌, pos, false, List, [], ◌∷◌, ◌++◌, map, length, take}
use Rattle.std.proofs.Common.{get_or, slice_get, Some, arith, refl, ap, sym, ◌∙◌}
use Rattle.std.proofs.lemmas.List.{map-append, take_all, length-map}
use Rattle.std.proofs.lemmas.Option.{get_or_from_slice_get}
use Rattle.std.proofs.Math.Seq.{take-suc}
use Rattle.frozen_model.specs.Trees.{Flag, Integer, I8, I16, I32, I64, Text, Binary, AList, ASet, AMap, Leaf}
use Rattle.frozen_model.specs.Trees.{ByteRange, ItemRange, Optional, Struct, NoField, Field, Alike, nodes}
use Rattle.frozen_model.specs.Trees.{nodes_all}
use Rattle.frozen_model.specs.Values.{Value, Of, cells, cell_limit}
use Rattle.frozen_model.specs.Layouts.{Version, Version1, flag_coded, signed_coded, OfVersion, AllOfVersion}
use Rattle.frozen_model.specs.Layouts.{Legal, AllLegal, IsDescribed, stride}
use Rattle.frozen_model.specs.Packing.{bytes_for}
use Rattle.frozen_model.specs.Holding.{Based, puts_of}
use Rattle.frozen_laws.proofs.Leafwise.{leafwise_map, leafwise_chain, leafwise_flip, with_version}
use Rattle.frozen_laws.proofs.Passes.{first_based}
use Rattle.frozen_laws.proofs.Puts.{of_leafwise, puts_beside}
use Rattle.frozen_laws.proofs.Rests.{cells_same}
use Rattle.frozen_laws.proofs.SameKinds.{struct_along, kind_tree_along}
use Rattle.layout_tree.specs.declared.layouts.Layouts.{Layouts}
use Rattle.layout_tree.specs.declared.node.NodeSpec.{NodeSpec}
use Rattle.layout_tree.specs.declared.node.Kind.{Kind}
use Rattle.layout_tree.specs.declared.node.Kind.TheVariants as kinds
use Rattle.layout_tree.specs.Listing.{Noted, AllNoted, layout_in, layouts_in, inline, inline_all, item_struct}
use Rattle.layout_tree.specs.Listing.{nodes_of, nodes_of_all, all_nodes, version_of, size, spec}
use Rattle.layout_tree.specs.Nodes.{layout_of, noted_in, listed}
use Rattle.layout_tree.specs.Segments.{IsStructKind}
use Rattle.layout_tree.specs.Given.{shown, shown_wide, noted_from, all_noted_from, resting, IsListOf}
use Rattle.layout_tree.proofs.Describing.{alike_in}
use Rattle.layout_tree.proofs.Place.{length_nodes}
use Rattle.layout_tree.proofs.Readings.{coded_width}
use Rattle.measure_pass.specs.Growing.{Measurable}
use Rattle.row_tests.specs.Widths.{first_node, first_of, IsSound}

-- the tree of version 1 with the same widths
abbrev first_noted : Noted → Noted
first_noted t = noted_from (layout_in Version1 t)

abbrev all_first_noted : AllNoted → AllNoted
all_first_noted ls = all_noted_from (layouts_in Version1 ls)

mutual
  first_inline : (t : Noted) → inline (first_noted t) ≡ inline t
  first_inline (Leaf k c) = coded_width Version1 k c.base c.bits
  first_inline (ByteRange t d c) = refl
  first_inline (ItemRange h d c l) = refl
  first_inline (Optional w l) = ap (λ n. w.bits + n) (first_inline l)
  first_inline (Struct ls) = all_first_inline ls

  all_first_inline : (ls : AllNoted) → inline_all (all_first_noted ls) ≡ inline_all ls
  all_first_inline NoField = refl
  all_first_inline (Field i l ls) = omega (arith, first_inline l, all_first_inline ls)

mutual
  first_count : (t : Noted) → nodes (first_noted t) ≡ nodes t
  first_count (Leaf k c) = refl
  first_count (ByteRange t d c) = refl
  first_count (ItemRange h d c l) = ap (λ n. 3 + n) (first_count l)
  first_count (Optional w l) = ap (λ n. 2 + n) (first_count l)
  first_count (Struct ls) = ap (λ n. 1 + n) (all_first_count ls)

  all_first_count : (ls : AllNoted) → nodes_all (all_first_noted ls) ≡ nodes_all ls
  all_first_count NoField = refl
  all_first_count (Field i l ls) = omega (arith, first_count l, all_first_count ls)

struct_shown : (k : Kind) (b w : ℕ) → IsStructKind k → shown_wide k b w ≡ b
struct_shown kinds.Struct b w h = refl
struct_shown kinds.Pair b w h = refl
struct_shown kinds.Flag b w h = absurd h
struct_shown kinds.I8 b w h = absurd h
struct_shown kinds.I16 b w h = absurd h
struct_shown kinds.I32 b w h = absurd h
struct_shown kinds.I64 b w h = absurd h
struct_shown kinds.Text b w h = absurd h
struct_shown kinds.Bytes b w h = absurd h
struct_shown kinds.List b w h = absurd h
struct_shown kinds.Set b w h = absurd h
struct_shown kinds.Map b w h = absurd h
struct_shown kinds.Optional b w h = absurd h
struct_shown kinds.Size b w h = absurd h

mutual
  first_nodes : (t : Noted) (sk : Kind) (i p f o : ℕ) → IsStructKind sk
      → map first_node (nodes_of t sk i p f o) ≡ map shown (nodes_of (first_noted t) sk i p f o)
  first_nodes (Leaf Flag c) sk i p f o h = refl
  first_nodes (Leaf (Integer I8) c) sk i p f o h = refl
  first_nodes (Leaf (Integer I16) c) sk i p f o h = refl
  first_nodes (Leaf (Integer I32) c) sk i p f o h = refl
  first_nodes (Leaf (Integer I64) c) sk i p f o h = refl
  first_nodes (ByteRange Text d c) sk i p f o h = refl
  first_nodes (ByteRange Binary d c) sk i p f o h = refl
  first_nodes (ItemRange AList d c l) sk i p f o h =
      ap (λ r. spec kinds.List f p (d.bits + c.bits) (d.bits + c.bits) o (pos 0) ∷ size 1 i (resting d.bits) 0 ∷ size 2 i (resting c.bits) d.bits ∷ r)
      (first_nodes l (item_struct AList) (suc (suc (suc i))) i 3 0 tt)
  first_nodes (ItemRange ASet d c l) sk i p f o h =
      ap (λ r. spec kinds.Set f p (d.bits + c.bits) (d.bits + c.bits) o (pos 0) ∷ size 1 i (resting d.bits) 0 ∷ size 2 i (resting c.bits) d.bits ∷ r)
      (first_nodes l (item_struct ASet) (suc (suc (suc i))) i 3 0 tt)
  first_nodes (ItemRange AMap d c l) sk i p f o h =
      ap (λ r. spec kinds.Map f p (d.bits + c.bits) (d.bits + c.bits) o (pos 0) ∷ size 1 i (resting d.bits) 0 ∷ size 2 i (resting c.bits) d.bits ∷ r)
      (first_nodes l (item_struct AMap) (suc (suc (suc i))) i 3 0 tt)
  first_nodes (Optional w l) sk i p f o h =
      ap (λ r. spec kinds.Optional f p (w.bits + inline l) (w.bits + inline l) o (pos 0) ∷ spec kinds.Flag 1 i w.bits w.bits 0 (pos 0) ∷ r)
      (first_nodes l kinds.Struct (suc (suc i)) i 2 w.bits tt)
      ∙ ap (λ n. spec kinds.Optional f p (w.bits + n) (w.bits + n) o (pos 0) ∷ spec kinds.Flag 1 i w.bits w.bits 0 (pos 0) ∷ map shown (nodes_of (first_noted l) kinds.Struct (suc (suc i)) i 2 w.bits))
      (sym (first_inline l))
  first_nodes (Struct ls) sk i p f o h =
      let n = inline_all (all_first_noted ls) in
      ap (λ r. spec sk f p (inline_all ls) (inline_all ls) o (pos 0) ∷ r) (all_first_nodes ls (suc i) i 0)
      ∙ ap (λ b. spec sk f p b b o (pos 0) ∷ map shown (nodes_of_all (all_first_noted ls) (suc i) i 0))
      (sym (all_first_inline ls))
      ∙ ap (λ w. spec sk f p n w o (pos 0) ∷ map shown (nodes_of_all (all_first_noted ls) (suc i) i 0))
      (sym (struct_shown sk n (suc i + nodes_all (all_first_noted ls)) h))

  all_first_nodes : (ls : AllNoted) (i p o : ℕ)
      → map first_node (nodes_of_all ls i p o) ≡ map shown (nodes_of_all (all_first_noted ls) i p o)
  all_first_nodes NoField i p o = refl
  all_first_nodes (Field id l ls) i p o =
      let mine = nodes_of (first_noted l) kinds.Struct i p id o in
      map-append first_node (nodes_of l kinds.Struct i p id o)
      (nodes_of_all ls (i + nodes l) p (o + inline l))
      ∙ ap (λ r. r ++ map first_node (nodes_of_all ls (i + nodes l) p (o + inline l)))
      (first_nodes l kinds.Struct i p id o tt)
      ∙ ap (λ r. map shown mine ++ r) (all_first_nodes ls (i + nodes l) p (o + inline l))
      ∙ ap (λ n. map shown mine ++ map shown (nodes_of_all (all_first_noted ls) (i + n) p (o + inline l)))
      (sym (first_count l))
      ∙ ap (λ n. map shown mine ++ map shown (nodes_of_all (all_first_noted ls) (i + nodes (first_noted l)) p (o + n))) (sym (first_inline l))
      ∙ sym (map-append shown mine (nodes_of_all (all_first_noted ls) (i + nodes (first_noted l)) p (o + inline (first_noted l))))

first_of_shown : (xs : List NodeSpec) → map first_node (map shown xs) ≡ map first_node xs
first_of_shown [] = refl
first_of_shown (x ∷ xs) = ap (λ r. first_node x ∷ r) (first_of_shown xs)

mutual
  first_coded : (t : Noted) → OfVersion Version1 (layout_in Version1 t)
  first_coded (Leaf Flag c) = flag_coded
  first_coded (Leaf (Integer j) c) = signed_coded
  first_coded (ByteRange t d c) = tt
  first_coded (ItemRange h d c l) = first_coded l
  first_coded (Optional w l) = first_coded l
  first_coded (Struct ls) = all_first_coded ls

  all_first_coded : (ls : AllNoted) → AllOfVersion Version1 (layouts_in Version1 ls)
  all_first_coded NoField = tt
  all_first_coded (Field i l ls) = (first_coded l, all_first_coded ls)

mutual
  first_legal : (v : Version) (t : Noted) → Legal (layout_in v t) → Legal (layout_in Version1 t)
  first_legal v (Leaf k c) h = omega (arith, h, coded_width v k c.base c.bits, coded_width Version1 k c.base c.bits)
  first_legal v (ByteRange t d c) h = h
  first_legal v (ItemRange g d c l) h = (h.0, h.1, first_legal v l h.2)
  first_legal v (Optional w l) h = (h.0, first_legal v l h.1)
  first_legal v (Struct ls) h = all_first_legal v ls h

  all_first_legal : (v : Version) (ls : AllNoted) → AllLegal (layouts_in v ls)
      → AllLegal (layouts_in Version1 ls)
  all_first_legal v NoField h = tt
  all_first_legal v (Field i l ls) h = (first_legal v l h.0, all_first_legal v ls h.1)

-- both are of one kind tree
first_alike : (l : Layouts) → Alike (layout_of l).tree (first_of l).tree
first_alike l =
    leafwise_chain (λ k a c e x y. tt) (λ b d f x y. tt) (λ b d f x y. tt)
    (leafwise_flip (alike_in (version_of l.version) (noted_in l))) (alike_in Version1 (noted_in l))

first_described : (l : Layouts) → IsSound (layout_of l).tree → IsDescribed (first_of l)
first_described l s = record {
  relaxing = refl;
  layout = record {
    root = struct_along (first_alike l) s.root;
    kind_tree = kind_tree_along (first_alike l) s.kind_tree;
    coded = first_coded (noted_in l);
    legal = first_legal (version_of l.version) (noted_in l) s.legal;
  };
}

pub first_listed : (l : Layouts) (ns : List NodeSpec) → IsSound (layout_of l).tree
    → ns ≡ map first_node (listed l) → IsListOf (first_of l) ns (pos 1) false
first_listed l ns s e = record {
  described = first_described l s;
  numbered = refl;
  relaxes = refl;
  nodes = e ∙ first_of_shown (all_nodes (noted_in l)) ∙ first_nodes (noted_in l) kinds.Struct 0 0 0 0 tt;
}

pub first_measurable : (l : Layouts) (v : Value) → Of (layout_of l).tree v
    → cells (layout_of l).tree v ≤ cell_limit → Measurable (first_of l) v
first_measurable l v o few = record {
  form = of_leafwise o (first_alike l);
  few = let e = cells_same o (first_alike l) in omega (arith, few, e);
  based = λ h. absurd cc;
}

-- in version 1 there are no bases
pub first_bases : (l : Layouts) (v : Value) → Of (first_of l).tree v
    → Based (first_of l).tree (puts_of (first_of l).tree v)
first_bases l v o =
    leafwise_map (λ k c xs h. first_based k c xs h.1) (λ w ns h. tt) (λ w ns h. tt)
    (with_version Version1 (puts_beside o (bytes_for (stride (first_of l).tree))) (first_coded (noted_in l)))

pub long_list : (l : Layouts) → length (listed l) ≡ nodes (noted_in l)
long_list l = length-map (all_nodes (noted_in l)) shown ∙ length_nodes (noted_in l) kinds.Struct 0 0 0 0

-- the nodes up to a number, and the next one behind them
pub first_step : (xs ns : List NodeSpec) (i : ℕ) (s : NodeSpec) → i < length xs → slice_get xs i ≡ Some s
    → ns ≡ map first_node (take i xs)
    → ns ++ first_node s ∷ [] ≡ map first_node (take (i + 1) xs)
first_step xs ns i s h e is =
    let there : get_or xs i s ≡ s = get_or_from_slice_get xs i s s e in
    let one : i + 1 ≡ suc i = omega arith in
    let next : take (i + 1) xs ≡ take i xs ++ s ∷ [] =
    ap (λ k. take k xs) one ∙ take-suc xs i s h ∙ ap (λ y. take i xs ++ y ∷ []) there in
    ap (λ r. r ++ first_node s ∷ []) is ∙ sym (map-append first_node (take i xs) (s ∷ [])) ∙ ap
    (map first_node) (sym next)

pub first_end : (xs ns : List NodeSpec) (i : ℕ) → length xs ≤ i → ns ≡ map first_node (take i xs)
    → ns ≡ map first_node xs
first_end xs ns i h is = is ∙ ap (map first_node) (take_all i xs h)
