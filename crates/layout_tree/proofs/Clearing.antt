-- The nodes of a layout, once they are cleared, are those of the blank layout of its kinds.
use Rattle.std.proofs.Common.{◌≡◌, ℕ, suc, ◌+◌, pos, List, ◌∷◌, ◌++◌, map, true, arith, refl, ap, sym}
use Rattle.std.proofs.Common.{◌∙◌, subst}
use Rattle.std.proofs.lemmas.List.{map-append}
use Rattle.std.proofs.Math.Logic.{∥∥₁_map}
use Rattle.frozen_model.specs.Trees.{Integer, Flag, I8, I16, I32, I64, Text, Binary, AList, ASet, AMap}
use Rattle.frozen_model.specs.Trees.{Leaf, ByteRange, ItemRange, Optional, Struct, NoField, Field}
use Rattle.frozen_model.specs.Trees.{KindTree, KindTrees, nodes, nodes_all, kinds as kinds_of, kinds_all}
use Rattle.frozen_model.specs.Layouts.{Version, Version2, described}
use Rattle.layout_tree.specs.declared.node.NodeSpec.{NodeSpec}
use Rattle.layout_tree.specs.declared.node.FormVersion.{FormVersion}
use Rattle.layout_tree.specs.declared.node.FormVersion.TheVariants.{Second}
use Rattle.layout_tree.specs.declared.node.Kind.{Kind}
use Rattle.layout_tree.specs.declared.node.Kind.TheVariants as kinds
use Rattle.layout_tree.specs.Listing.{Noted, AllNoted, layout_in, layouts_in, settled, tree_of, nodes_of}
use Rattle.layout_tree.specs.Listing.{nodes_of_all, all_nodes, inline, item_struct, size, IsListing}
use Rattle.layout_tree.specs.Listing.{IsNotedLayout, spec}
use Rattle.layout_tree.specs.Segments.{IsStructKind}
use Rattle.layout_tree.specs.Given.{resting}
use Rattle.layout_tree.specs.Shapes.{blank, all_blank, cleared, cleared_wide}
use Rattle.layout_tree.proofs.Decode.{tree_again}
use Rattle.layout_tree.proofs.Readings.{kinds_nodes, kinds_nodes_all}
use Rattle.layout_tree.proofs.Shaped.{Shaped, blank_settled, blank_sound}
use Rattle.layout_tree.proofs.Shaping.{blank_nodes, all_blank_nodes, blank_inline, all_blank_inline}

mutual
  pub layout_kinds : (v : Version) (t : Noted) → kinds_of (layout_in v t) ≡ kinds_of t
  layout_kinds v (Leaf k c) = refl
  layout_kinds v (ByteRange t d c) = refl
  layout_kinds v (ItemRange h d c l) = ap (λ (m : KindTree). ItemRange h tt tt m) (layout_kinds v l)
  layout_kinds v (Optional w l) = ap (λ (m : KindTree). Optional tt m) (layout_kinds v l)
  layout_kinds v (Struct ls) = ap (λ (m : KindTrees). Struct m) (layouts_kinds v ls)

  layouts_kinds : (v : Version) (ls : AllNoted) → kinds_all (layouts_in v ls) ≡ kinds_all ls
  layouts_kinds v NoField = refl
  layouts_kinds v (Field i l ls) = let e = layout_kinds v l in let f = layouts_kinds v ls in cc

struct_stays : (k : Kind) (w : ℕ) → IsStructKind k → cleared_wide k w ≡ w
struct_stays kinds.Struct w h = refl
struct_stays kinds.Pair w h = refl
struct_stays kinds.Flag w h = absurd h
struct_stays kinds.I8 w h = absurd h
struct_stays kinds.I16 w h = absurd h
struct_stays kinds.I32 w h = absurd h
struct_stays kinds.I64 w h = absurd h
struct_stays kinds.Text w h = absurd h
struct_stays kinds.Bytes w h = absurd h
struct_stays kinds.List w h = absurd h
struct_stays kinds.Set w h = absurd h
struct_stays kinds.Map w h = absurd h
struct_stays kinds.Optional w h = absurd h
struct_stays kinds.Size w h = absurd h

long : (l : Noted) → nodes (blank (kinds_of l)) ≡ nodes l
long l = blank_nodes (kinds_of l) ∙ kinds_nodes l

long_all : (ls : AllNoted) → nodes_all (all_blank (kinds_all ls)) ≡ nodes_all ls
long_all ls = all_blank_nodes (kinds_all ls) ∙ kinds_nodes_all ls

mutual
  cleared_nodes : (t : Noted) (sk : Kind) (i p f o : ℕ) → IsStructKind sk
      → nodes_of (blank (kinds_of t)) sk i p f 0 ≡ map cleared (nodes_of t sk i p f o)
  cleared_nodes (Leaf Flag c) sk i p f o h = refl
  cleared_nodes (Leaf (Integer I8) c) sk i p f o h = refl
  cleared_nodes (Leaf (Integer I16) c) sk i p f o h = refl
  cleared_nodes (Leaf (Integer I32) c) sk i p f o h = refl
  cleared_nodes (Leaf (Integer I64) c) sk i p f o h = refl
  cleared_nodes (ByteRange Text d c) sk i p f o h = refl
  cleared_nodes (ByteRange Binary d c) sk i p f o h = refl
  cleared_nodes (ItemRange AList d c l) sk i p f o h =
      ap (λ n. spec kinds.List f p 0 (suc (suc (suc i)) + n) 0 (pos 0) ∷ size 1 i (resting 0) 0
      ∷ size 2 i (resting 0) 0 ∷ nodes_of (blank (kinds_of l)) (item_struct AList) (suc (suc (suc i))) i 3
      0) (long l)
      ∙ ap (λ r. spec kinds.List f p 0 (suc (suc (suc i)) + nodes l) 0 (pos 0) ∷ size 1 i (resting 0) 0
      ∷ size 2 i (resting 0) 0 ∷ r) (cleared_nodes l (item_struct AList) (suc (suc (suc i))) i 3 0 tt)
  cleared_nodes (ItemRange ASet d c l) sk i p f o h =
      ap (λ n. spec kinds.Set f p 0 (suc (suc (suc i)) + n) 0 (pos 0) ∷ size 1 i (resting 0) 0
      ∷ size 2 i (resting 0) 0 ∷ nodes_of (blank (kinds_of l)) (item_struct ASet) (suc (suc (suc i))) i 3
      0) (long l)
      ∙ ap (λ r. spec kinds.Set f p 0 (suc (suc (suc i)) + nodes l) 0 (pos 0) ∷ size 1 i (resting 0) 0
      ∷ size 2 i (resting 0) 0 ∷ r) (cleared_nodes l (item_struct ASet) (suc (suc (suc i))) i 3 0 tt)
  cleared_nodes (ItemRange AMap d c l) sk i p f o h =
      ap (λ n. spec kinds.Map f p 0 (suc (suc (suc i)) + n) 0 (pos 0) ∷ size 1 i (resting 0) 0
      ∷ size 2 i (resting 0) 0 ∷ nodes_of (blank (kinds_of l)) (item_struct AMap) (suc (suc (suc i))) i 3
      0) (long l)
      ∙ ap (λ r. spec kinds.Map f p 0 (suc (suc (suc i)) + nodes l) 0 (pos 0) ∷ size 1 i (resting 0) 0
      ∷ size 2 i (resting 0) 0 ∷ r) (cleared_nodes l (item_struct AMap) (suc (suc (suc i))) i 3 0 tt)
  cleared_nodes (Optional w l) sk i p f o h =
      let none : 0 + inline (blank (kinds_of l)) ≡ 0 = omega (arith, blank_inline (kinds_of l)) in
      ap (λ b. spec kinds.Optional f p b (suc (suc i) + nodes (blank (kinds_of l))) 0 (pos 0)
      ∷ spec kinds.Flag 1 i 0 0 0 (pos 0)
      ∷ nodes_of (blank (kinds_of l)) kinds.Struct (suc (suc i)) i 2 0) none
      ∙ ap (λ n. spec kinds.Optional f p 0 (suc (suc i) + n) 0 (pos 0) ∷ spec kinds.Flag 1 i 0 0 0 (pos 0)
      ∷ nodes_of (blank (kinds_of l)) kinds.Struct (suc (suc i)) i 2 0) (long l)
      ∙ ap (λ r. spec kinds.Optional f p 0 (suc (suc i) + nodes l) 0 (pos 0)
      ∷ spec kinds.Flag 1 i 0 0 0 (pos 0) ∷ r) (cleared_nodes l kinds.Struct (suc (suc i)) i 2 w.bits tt)
  cleared_nodes (Struct ls) sk i p f o h =
      ap (λ b. spec sk f p b (suc i + nodes_all (all_blank (kinds_all ls))) 0 (pos 0)
      ∷ nodes_of_all (all_blank (kinds_all ls)) (suc i) i 0) (all_blank_inline (kinds_all ls))
      ∙ ap (λ n. spec sk f p 0 (suc i + n) 0 (pos 0) ∷ nodes_of_all (all_blank (kinds_all ls)) (suc i) i 0)
      (long_all ls)
      ∙ ap (λ w. spec sk f p 0 w 0 (pos 0) ∷ nodes_of_all (all_blank (kinds_all ls)) (suc i) i 0)
      (sym (struct_stays sk (suc i + nodes_all ls) h))
      ∙ ap (λ r. spec sk f p 0 (cleared_wide sk (suc i + nodes_all ls)) 0 (pos 0) ∷ r)
      (cleared_fields ls (suc i) i 0)

  cleared_fields : (ls : AllNoted) (i p o : ℕ) → nodes_of_all (all_blank (kinds_all ls)) i p 0
      ≡ map cleared (nodes_of_all ls i p o)
  cleared_fields NoField i p o = refl
  cleared_fields (Field id l ls) i p o =
      let none : 0 + inline (blank (kinds_of l)) ≡ 0 = omega (arith, blank_inline (kinds_of l)) in
      ap (λ z. nodes_of (blank (kinds_of l)) kinds.Struct i p id 0
      ++ nodes_of_all (all_blank (kinds_all ls)) (i + nodes (blank (kinds_of l))) p z) none
      ∙ ap (λ n. nodes_of (blank (kinds_of l)) kinds.Struct i p id 0
      ++ nodes_of_all (all_blank (kinds_all ls)) (i + n) p 0) (long l)
      ∙ ap (λ r. r ++ nodes_of_all (all_blank (kinds_all ls)) (i + nodes l) p 0)
      (cleared_nodes l kinds.Struct i p id o tt)
      ∙ ap (λ r. map cleared (nodes_of l kinds.Struct i p id o) ++ r)
      (cleared_fields ls (i + nodes l) p (o + inline l))
      ∙ sym (map-append cleared (nodes_of l kinds.Struct i p id o) (nodes_of_all ls (i + nodes l) p (o + inline l)))

-- the cleared nodes of a layout make a layout that may be kept
pub renewed : (e : FormVersion) (v : Version) (old new : List NodeSpec) → IsListing old
    → ∥ IsNotedLayout e (tree_of old) ∥₁ → new ≡ map cleared old
    → Shaped (kinds_of (layout_in v (tree_of old))) new
renewed e v old new li so en =
    let t = tree_of old in
    let k = kinds_of t in
    let b = blank k in
    let is : new ≡ all_nodes b = en ∙ ap (λ xs. map cleared xs) li
    ∙ sym (cleared_nodes t kinds.Struct 0 0 0 0 tt) in
    let tells : tree_of new ≡ b = ap tree_of is ∙ tree_again b in
    subst (λ (m : KindTree). Shaped m new) (sym (layout_kinds v t))
    (record {
      tells = tells;
      listing = is ∙ ap all_nodes (sym tells);
      sound = subst (λ (m : Noted). ∥ IsNotedLayout Second m ∥₁) (sym tells)
          (∥∥₁_map so (λ x. blank_sound k x.kind_tree x.root));
      layout = ap (λ (m : Noted). described Version2 true (layout_in Version2 m)) tells;
      settled = ap (λ (m : Noted). described Version2 true (layout_in Version2 m))
          (ap settled tells ∙ blank_settled k ∙ sym tells);
    })
