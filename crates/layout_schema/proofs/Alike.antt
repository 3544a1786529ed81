-- The schema of what a `Layouts` shows is that of its layout: widths that are noted do not matter, nor do bases where there are
-- none.
use Rattle.std.proofs.Common.{◌≡◌, ℕ, suc, ◌+◌, Bool, true, false, ◌==◌, if◌then◌else◌, List, [], ◌∷◌, ◌++◌, ℤ, pos, refl, ap, sym, ◌∙◌, map}
use Rattle.std.proofs.lemmas.List.{map-append}
use Rattle.frozen_model.specs.Trees.{Flag, Integer, Leaf, ByteRange, ItemRange, Optional, Struct, NoField, Field, nodes, nodes_all}
use Rattle.frozen_model.specs.Layouts.{Version, Version1, Version2}
use Rattle.frozen_model.specs.Values.{Values, And}
use Rattle.typed_tree.specs.Spots.{pair}
use Rattle.layout_tree.specs.declared.node.NodeSpec.{NodeSpec}
use Rattle.layout_tree.specs.declared.node.Kind.{Kind}
use Rattle.layout_tree.specs.declared.node.Kind.TheVariants as kinds
use Rattle.layout_tree.specs.Listing.{Noted, AllNoted, layout_in, layouts_in, inline, inline_all, item_struct, nodes_of, nodes_of_all}
use Rattle.layout_tree.specs.Given.{shown, noted_from, all_noted_from}
use Rattle.layout_tree.specs.Reading.{whole_kind}
use Rattle.layout_schema.specs.Schemas.{number, base_in, child_value, children_of, layout_of_node, layouts_of}

abbrev pub plain_base : Version → NodeSpec → ℤ
plain_base Version1 s = pos 0
plain_base Version2 s = base_in s

-- a node as a schema has it
abbrev pub plain : Version → NodeSpec → NodeSpec
plain v s = record {
  kind = s.kind;
  field = s.field;
  parent = s.parent;
  bits = s.bits;
  wide = 0;
  offset = s.offset;
  base = plain_base v s;
}

plain_children : (v : Version) (p n : ℕ) (xs : List NodeSpec) → children_of p n (map (plain v) xs) ≡ children_of p n (map shown xs)
plain_children v p n [] = refl
plain_children v p n (x ∷ xs) =
    ap (λ r. if x.parent == p then And (pair (number x.field) (child_value n x)) r else r) (plain_children v p (suc n) xs)

pub twice : (b : Bool) (z : ℤ) → (if b then (if b then z else pos 0) else pos 0) ≡ (if b then z else pos 0)
twice true z = refl
twice false z = refl

plain_layout : (v : Version) (x : NodeSpec) (cs : Values) → layout_of_node v (plain v x) cs ≡ layout_of_node v (shown x) cs
plain_layout Version1 x cs = refl
plain_layout Version2 x cs = let e = twice (whole_kind x.kind) x.base in rw e refl

plain_layouts : (v : Version) (n : ℕ) (xs : List NodeSpec) → layouts_of v n (map (plain v) xs) ≡ layouts_of v n (map shown xs)
plain_layouts v n [] = refl
plain_layouts v n (x ∷ xs) =
    let first : layout_of_node v (plain v x) (children_of n (suc n) (map (plain v) xs)) ≡ layout_of_node v (shown x) (children_of n (suc n) (map shown xs)) =
    ap (layout_of_node v (plain v x)) (plain_children v n (suc n) xs) ∙ plain_layout v x (children_of n (suc n) (map shown xs)) in
    let later = plain_layouts v (suc n) xs in
    ap (λ y. And (pair (number (pos n)) y) (layouts_of v (suc n) (map (plain v) xs))) first
    ∙ ap (And (pair (number (pos n)) (layout_of_node v (shown x) (children_of n (suc n) (map shown xs))))) later

mutual
  pub same_inline : (v : Version) (t : Noted) → inline (noted_from (layout_in v t)) ≡ inline t
  same_inline v (Leaf Flag c) = refl
  same_inline Version1 (Leaf (Integer k) c) = refl
  same_inline Version2 (Leaf (Integer k) c) = refl
  same_inline v (ByteRange t d c) = refl
  same_inline v (ItemRange g d c l) = refl
  same_inline v (Optional w l) = ap (λ n. w.bits + n) (same_inline v l)
  same_inline v (Struct ls) = same_inline_all v ls

  pub same_inline_all : (v : Version) (ls : AllNoted) → inline_all (all_noted_from (layouts_in v ls)) ≡ inline_all ls
  same_inline_all v NoField = refl
  same_inline_all v (Field i l ls) = let e = same_inline v l in let f = same_inline_all v ls in cc

mutual
  pub same_count : (v : Version) (t : Noted) → nodes (noted_from (layout_in v t)) ≡ nodes t
  same_count v (Leaf k c) = refl
  same_count v (ByteRange t d c) = refl
  same_count v (ItemRange g d c l) = ap (λ n. 3 + n) (same_count v l)
  same_count v (Optional w l) = ap (λ n. 2 + n) (same_count v l)
  same_count v (Struct ls) = ap (λ n. 1 + n) (same_count_all v ls)

  pub same_count_all : (v : Version) (ls : AllNoted) → nodes_all (all_noted_from (layouts_in v ls)) ≡ nodes_all ls
  same_count_all v NoField = refl
  same_count_all v (Field i l ls) = let e = same_count v l in let f = same_count_all v ls in cc

mutual
  pub same_plain : (v : Version) (t : Noted) (sk : Kind) (i p f o : ℕ)
      → map (plain v) (nodes_of t sk i p f o) ≡ map (plain v) (nodes_of (noted_from (layout_in v t)) sk i p f o)
  same_plain Version1 (Leaf Flag c) sk i p f o = refl
  same_plain Version2 (Leaf Flag c) sk i p f o = refl
  same_plain Version1 (Leaf (Integer k) c) sk i p f o = refl
  same_plain Version2 (Leaf (Integer k) c) sk i p f o = refl
  same_plain Version1 (ByteRange t d c) sk i p f o = refl
  same_plain Version2 (ByteRange t d c) sk i p f o = refl
  same_plain Version1 (ItemRange g d c l) sk i p f o = let e = same_plain Version1 l (item_struct g) (suc (suc (suc i))) i 3 0 in rw e refl
  same_plain Version2 (ItemRange g d c l) sk i p f o = let e = same_plain Version2 l (item_struct g) (suc (suc (suc i))) i 3 0 in rw e refl
  same_plain Version1 (Optional w l) sk i p f o =
      let e = same_plain Version1 l kinds.Struct (suc (suc i)) i 2 w.bits in let b = same_inline Version1 l in rw (e, b) refl
  same_plain Version2 (Optional w l) sk i p f o =
      let e = same_plain Version2 l kinds.Struct (suc (suc i)) i 2 w.bits in let b = same_inline Version2 l in rw (e, b) refl
  same_plain Version1 (Struct ls) sk i p f o =
      let e = same_plain_all Version1 ls (suc i) i 0 in let b = same_inline_all Version1 ls in rw (e, b) refl
  same_plain Version2 (Struct ls) sk i p f o =
      let e = same_plain_all Version2 ls (suc i) i 0 in let b = same_inline_all Version2 ls in rw (e, b) refl

  pub same_plain_all : (v : Version) (ls : AllNoted) (i p o : ℕ)
      → map (plain v) (nodes_of_all ls i p o) ≡ map (plain v) (nodes_of_all (all_noted_from (layouts_in v ls)) i p o)
  same_plain_all v NoField i p o = refl
  same_plain_all v (Field id l ls) i p o =
      let m = noted_from (layout_in v l) in
      let ms = all_noted_from (layouts_in v ls) in
      map-append (plain v) (nodes_of l kinds.Struct i p id o) (nodes_of_all ls (i + nodes l) p (o + inline l))
      ∙ ap (λ r. r ++ map (plain v) (nodes_of_all ls (i + nodes l) p (o + inline l))) (same_plain v l kinds.Struct i p id o)
      ∙ ap (λ r. map (plain v) (nodes_of m kinds.Struct i p id o) ++ r) (same_plain_all v ls (i + nodes l) p (o + inline l))
      ∙ ap (λ n. map (plain v) (nodes_of m kinds.Struct i p id o) ++ map (plain v) (nodes_of_all ms (i + n) p (o + inline l))) (sym (same_count v l))
      ∙ ap (λ n. map (plain v) (nodes_of m kinds.Struct i p id o) ++ map (plain v) (nodes_of_all ms (i + nodes m) p (o + n))) (sym (same_inline v l))
      ∙ sym (map-append (plain v) (nodes_of m kinds.Struct i p id o) (nodes_of_all ms (i + nodes m) p (o + inline m)))

-- the layouts of a schema, whatever widths are noted
pub same_layouts : (v : Version) (t : Noted) (sk : Kind) (i p f o : ℕ)
    → layouts_of v i (map shown (nodes_of t sk i p f o)) ≡ layouts_of v i (map shown (nodes_of (noted_from (layout_in v t)) sk i p f o))
same_layouts v t sk i p f o =
    sym (plain_layouts v i (nodes_of t sk i p f o)) ∙ ap (layouts_of v i) (same_plain v t sk i p f o) ∙ plain_layouts v i (nodes_of (noted_from (layout_in v t)) sk i p f o)
