-- What the layouts of a schema say where they list a layout, and that the layouts which are written of it say so.
use Rattle.std.proofs.Common.{◌≡◌, ℕ, zero, suc, ◌+◌, ◌<◌, ◌≤◌, ℤ, pos, Bool, true, false, if◌then◌else◌, List, [], ◌∷◌, ◌++◌, Option, Some, None, arith, refl, ap, sym, ◌∙◌, subst, length, map, drop, append_assoc}
use Rattle.std.specs.Prelude.{neg_ℤ, nat_abs}
use Rattle.std.specs.Ordering.{int_eq}
use Rattle.std.proofs.lemmas.Bool.{false_from_ne_true}
use Rattle.std.proofs.lemmas.List.{append-nil, map-append, length-map, drop-drop}
use Rattle.std.proofs.Math.Seq.{drop-append_seam}
use Rattle.frozen_model.specs.Trees.{I8, I16, I32, I64, LeafKind, Leaf, ByteRange, ItemRange, Optional, Struct, NoField, Field, nodes, nodes_all}
use Rattle.frozen_model.specs.Values.{Values, NoValue, And}
use Rattle.frozen_model.specs.Layouts.{Version, Version1, Version2, Coded, width, IsCoded, flag_coded, signed_coded, based_coded, Layout, Layouts, OfVersion, AllOfVersion}
use Rattle.typed_tree.specs.Spots.{pair}
use Rattle.layout_tree.specs.declared.node.NodeSpec.{NodeSpec}
use Rattle.layout_tree.specs.declared.node.Kind.{Kind}
use Rattle.layout_tree.specs.declared.node.Kind.TheVariants as kinds
use Rattle.layout_tree.specs.Listing.{Noted, inline, inline_all, kind_of, kind_of_bytes, kind_of_holder, item_struct, spec, nodes_of, nodes_of_all}
use Rattle.layout_tree.specs.Given.{shown, noted_from, all_noted_from}
use Rattle.layout_tree.specs.Reading.{whole_kind, base_of}
use Rattle.layout_tree.specs.Segments.{head_node, rest_nodes}
use Rattle.layout_tree.proofs.Settling.{split_nodes}
use Rattle.layout_tree.proofs.Place.{length_nodes}
use Rattle.typed_reading.proofs.FieldLaws.{int_eq_same, int_eq_refl}
use Rattle.layout_schema.specs.Schemas.{type_name, number, child_value, children_of, layout_of_node, layouts_of}
use Rattle.layout_schema.specs.Shapes.{Child, Entry, children_in, entry_in, entry_of}
use Rattle.layout_schema.proofs.Spots.{Childless, childless_append, others, others_all, below_others, nodes_below}
use Rattle.layout_schema.proofs.Places.{same_test, shown_childless, children_past, children_none}

-- ---- tests of numbers

pub int_other : (m n : ℕ) → (m ≡ n → ⊥) → int_eq (pos m) (pos n) ≡ false
int_other m n h = false_from_ne_true (int_eq (pos m) (pos n)) (λ e. h (ap nat_abs (int_eq_same (pos m) (pos n) e)))

-- ---- what layouts say

abbrev pub child_of : ℕ → ℕ → ℕ → Child
child_of f n o = record { field = pos f; number = pos n; offset = neg_ℤ (pos o) }

abbrev pub node_entry : Kind → ℕ → List Child → ℤ → Entry
node_entry k b cs z = record { size = pos 0; bits = pos b; children = cs; name = type_name k; base = z }

abbrev pub HasSize : Values → ℕ → ℕ → Type 0
HasSize ls n w = entry_of ls n ≡ Some (node_entry kinds.Size w [] (pos 0))

-- the children of a distance or isset of d bits, and what stands beside it
abbrev pub two_children : ℕ → ℕ → List Child
two_children n d = child_of 1 (suc n) 0 ∷ child_of 2 (suc (suc n)) d ∷ []

abbrev pub three_children : ℕ → ℕ → List Child
three_children n d = child_of 1 (suc n) 0 ∷ child_of 2 (suc (suc n)) d ∷ child_of 3 (suc (suc (suc n))) 0 ∷ []

-- the fields of a struct, the first of which has the number n and the offset o
abbrev pub field_children : Layouts → ℕ → ℕ → List Child
field_children NoField n o = []
field_children (Field i l ls) n o = child_of i n o ∷ field_children ls (n + nodes (noted_from l)) (o + inline (noted_from l))

-- the layouts say this layout from the number n on, whose first node is of the kind sk where it is a struct
abbrev mutual
  pub Has : Values → Layout → Kind → ℕ → Type 0
  Has ls (Leaf k c) sk n = entry_of ls n ≡ Some (node_entry (kind_of k) (width c) [] (base_of c))
  Has ls (ByteRange t d c) sk n =
      (entry_of ls n ≡ Some (node_entry (kind_of_bytes t) (d + c) (two_children n d) (pos 0))) × HasSize ls (suc n) d × HasSize ls (suc (suc n)) c
  Has ls (ItemRange h d c l) sk n =
      (entry_of ls n ≡ Some (node_entry (kind_of_holder h) (d + c) (three_children n d) (pos 0))) × HasSize ls (suc n) d × HasSize ls (suc (suc n)) c
      × Has ls l (item_struct h) (suc (suc (suc n)))
  Has ls (Optional w l) sk n =
      (entry_of ls n ≡ Some (node_entry kinds.Optional (w + inline (noted_from l)) (two_children n w) (pos 0)))
      × (entry_of ls (suc n) ≡ Some (node_entry kinds.Flag w [] (pos 0))) × Has ls l kinds.Struct (suc (suc n))
  Has ls (Struct fs) sk n =
      (entry_of ls n ≡ Some (node_entry sk (inline_all (all_noted_from fs)) (field_children fs (suc n) 0) (pos 0))) × HasAll ls fs (suc n)

  pub HasAll : Values → Layouts → ℕ → Type 0
  HasAll ls NoField n = Unit {0}
  HasAll ls (Field i l fs) n = Has ls l kinds.Struct n × HasAll ls fs (n + nodes (noted_from l))

-- ---- layouts that are written

abbrev entry_here : Version → ℕ → List NodeSpec → Option Entry
entry_here v n [] = None
entry_here v n (s ∷ ss) = Some (entry_in (layout_of_node v s (children_of n (suc n) ss)))

entry_drop : (v : Version) (zs : List NodeSpec) (m k n : ℕ) → n ≡ m + k → entry_of (layouts_of v m zs) n ≡ entry_here v n (drop k zs)
entry_drop v [] m zero n e = refl
entry_drop v [] m (suc k) n e = refl
entry_drop v (z ∷ zs) m zero n e =
    let same : n ≡ m = omega arith in
    let t : int_eq (pos m) (pos n) ≡ true = subst (λ k. int_eq (pos m) (pos k) ≡ true) (sym same) (int_eq_refl (pos m)) in
    rw t (ap (λ k. Some (entry_in (layout_of_node v z (children_of k (suc k) zs)))) (sym same))
entry_drop v (z ∷ zs) m (suc k) n e =
    let t = int_other m n (λ x. omega arith) in
    rw t (entry_drop v zs (suc m) k n (omega arith))

zero_base : (b : Bool) → (if b then pos 0 else pos 0) ≡ pos 0
zero_base true = refl
zero_base false = refl

entry_at : (v : Version) (k : Kind) (f p b w o : ℕ) (cs : Values) → entry_in (layout_of_node v (shown (spec k f p b w o (pos 0))) cs) ≡ node_entry k b (children_in cs) (pos 0)
entry_at Version1 k f p b w o cs = refl
entry_at Version2 k f p b w o cs = ap (λ z. node_entry k b (children_in cs) z) (zero_base (whole_kind k))

leaf_at : (v : Version) (k : LeafKind) (c : Coded) (f p o : ℕ) → IsCoded v k c
    → entry_in (layout_of_node v (shown (spec (kind_of k) f p (width c) (width c) o (base_of c))) NoValue) ≡ node_entry (kind_of k) (width c) [] (base_of c)
leaf_at Version1 k c f p o flag_coded = refl
leaf_at Version2 k c f p o flag_coded = refl
leaf_at v k c f p o signed_coded = refl
leaf_at v k c f p o (based_coded {k = I8} b) = refl
leaf_at v k c f p o (based_coded {k = I16} b) = refl
leaf_at v k c f p o (based_coded {k = I32} b) = refl
leaf_at v k c f p o (based_coded {k = I64} b) = refl

drop_next : (zs : List NodeSpec) (n : ℕ) (x : NodeSpec) (rest : List NodeSpec) → drop n zs ≡ x ∷ rest → drop (suc n) zs ≡ rest
drop_next zs n x rest e = let one : suc n ≡ n + 1 = omega arith in ap (λ k. drop k zs) one ∙ sym (drop-drop 1 n zs) ∙ ap (drop 1) e

drop_past : (zs : List NodeSpec) (n m : ℕ) (xs rest : List NodeSpec) → drop n zs ≡ xs ++ rest → m ≡ n + length xs → drop m zs ≡ rest
drop_past zs n m xs rest e em = ap (λ k. drop k zs) em ∙ sym (drop-drop (length xs) n zs) ∙ ap (drop (length xs)) e ∙ drop-append_seam xs rest

-- a node with these children
node_here : (v : Version) (zs : List NodeSpec) (n : ℕ) (k : Kind) (f p b w o : ℕ) (rest : List NodeSpec) (cs : Values)
    → drop n zs ≡ shown (spec k f p b w o (pos 0)) ∷ rest → children_of n (suc n) rest ≡ cs → entry_of (layouts_of v 0 zs) n ≡ Some (node_entry k b (children_in cs) (pos 0))
node_here v zs n k f p b w o rest cs e ec =
    entry_drop v zs 0 n n (omega arith) ∙ ap (entry_here v n) e
    ∙ ap (λ r. Some (entry_in (layout_of_node v (shown (spec k f p b w o (pos 0))) r))) ec ∙ ap Some (entry_at v k f p b w o cs)

-- a tree's first node is a child, and none of those below it
tree_child : (t : Noted) (sk : Kind) (i p f o : ℕ) (post : List NodeSpec) → p < i
    → children_of p i (map shown (nodes_of t sk i p f o) ++ post) ≡ And (pair (number (pos f)) (child_value i (shown (spec sk f p 0 0 o (pos 0))))) (children_of p (i + nodes t) post)
tree_child t sk i p f o post lt =
    ap (λ r. children_of p i (map shown r ++ post)) (split_nodes t sk i p f o) ∙ go t
  where
    past : (u : Noted) → children_of p (suc i) (map shown (rest_nodes u i) ++ post) ≡ children_of p (i + nodes u) post
    past u =
        let e : suc i + length (map shown (rest_nodes u i)) ≡ i + nodes u = omega (arith, length-map (rest_nodes u i) shown, nodes_below u i) in
        children_past p (suc i) (map shown (rest_nodes u i)) post (shown_childless p (rest_nodes u i) (below_others u i p lt)) ∙ ap (λ k. children_of p k post) e

    go : (u : Noted) → children_of p i (shown (head_node u sk i p f o) ∷ (map shown (rest_nodes u i) ++ post)) ≡ And (pair (number (pos f)) (child_value i (shown (spec sk f p 0 0 o (pos 0))))) (children_of p (i + nodes u) post)
    go (Leaf k c) = let t1 = same_test p p refl in rw t1 (ap (And (pair (number (pos f)) (child_value i (shown (spec sk f p 0 0 o (pos 0)))))) (past (Leaf k c)))
    go (ByteRange t d c) = let t1 = same_test p p refl in rw t1 (ap (And (pair (number (pos f)) (child_value i (shown (spec sk f p 0 0 o (pos 0)))))) (past (ByteRange t d c)))
    go (ItemRange h d c l) = let t1 = same_test p p refl in rw t1 (ap (And (pair (number (pos f)) (child_value i (shown (spec sk f p 0 0 o (pos 0)))))) (past (ItemRange h d c l)))
    go (Optional w l) = let t1 = same_test p p refl in rw t1 (ap (And (pair (number (pos f)) (child_value i (shown (spec sk f p 0 0 o (pos 0)))))) (past (Optional w l)))
    go (Struct ls) = let t1 = same_test p p refl in rw t1 (ap (And (pair (number (pos f)) (child_value i (shown (spec sk f p 0 0 o (pos 0)))))) (past (Struct ls)))

field_children_of : (fs : Layouts) (i p o : ℕ) (post : List NodeSpec) → p < i → Childless p post
    → children_in (children_of p i (map shown (nodes_of_all (all_noted_from fs) i p o) ++ post)) ≡ field_children fs i o
field_children_of NoField i p o post lt h = ap children_in (children_none p i post h)
field_children_of (Field id l fs) i p o post lt h =
    let mine = nodes_of (noted_from l) kinds.Struct i p id o in
    let more = nodes_of_all (all_noted_from fs) (i + nodes (noted_from l)) p (o + inline (noted_from l)) in
    ap (λ r. children_in (children_of p i r)) (ap (λ r. r ++ post) (map-append shown mine more) ∙ append_assoc (map shown mine) (map shown more) post)
    ∙ ap children_in (tree_child (noted_from l) kinds.Struct i p id o (map shown more ++ post) lt)
    ∙ ap (λ r. child_of id i o ∷ r) (field_children_of fs (i + nodes (noted_from l)) p (o + inline (noted_from l)) post (omega arith) h)

-- none of these nodes has a parent among the k nodes from n on
abbrev Apart : ℕ → ℕ → List NodeSpec → Type 0
Apart n k post = (m : ℕ) → n ≤ m → m < n + k → Childless m post

mutual
  has : (v : Version) (zs : List NodeSpec) (l : Layout) (sk : Kind) (n p f o : ℕ) (post : List NodeSpec) → OfVersion v l
      → drop n zs ≡ map shown (nodes_of (noted_from l) sk n p f o) ++ post → Apart n (nodes (noted_from l)) post → Has (layouts_of v 0 zs) l sk n
  has v zs (Leaf k c) sk n p f o post of e h =
      entry_drop v zs 0 n n (omega arith) ∙ ap (entry_here v n) e
      ∙ ap (λ r. Some (entry_in (layout_of_node v (shown (spec (kind_of k) f p (width c) (width c) o (base_of c))) r))) (children_none n (suc n) post (h n (omega arith) (omega arith)))
      ∙ ap Some (leaf_at v k c f p o of)
  has v zs (ByteRange t d c) sk n p f o post of e h =
      let s1 = shown (spec kinds.Size 1 n d d 0 (pos 0)) in
      let s2 = shown (spec kinds.Size 2 n c c d (pos 0)) in
      let e1 = drop_next zs n (shown (spec (kind_of_bytes t) f p (d + c) (suc (suc (suc n))) o (pos 0))) (s1 ∷ s2 ∷ post) e in
      let e2 = drop_next zs (suc n) s1 (s2 ∷ post) e1 in
      let none = children_none n (suc (suc (suc n))) post (h n (omega arith) (omega arith)) in
      let t1 = same_test n n refl in (
        node_here v zs n (kind_of_bytes t) f p (d + c) (suc (suc (suc n))) o (s1 ∷ s2 ∷ post) (And (pair (number (pos 1)) (child_value (suc n) s1)) (And (pair (number (pos 2)) (child_value (suc (suc n)) s2)) NoValue)) e
            (rw (t1, none) refl),
        node_here v zs (suc n) kinds.Size 1 n d d 0 (s2 ∷ post) NoValue e1 (children_none (suc n) (suc (suc n)) (s2 ∷ post) (λ x. omega arith, h (suc n) (omega arith) (omega arith))),
        node_here v zs (suc (suc n)) kinds.Size 2 n c c d post NoValue e2 (children_none (suc (suc n)) (suc (suc (suc n))) post (h (suc (suc n)) (omega arith) (omega arith))),
      )
  has v zs (ItemRange g d c l) sk n p f o post of e h =
      let t = noted_from l in
      let s1 = shown (spec kinds.Size 1 n d d 0 (pos 0)) in
      let s2 = shown (spec kinds.Size 2 n c c d (pos 0)) in
      let s3 = shown (spec (item_struct g) 3 n 0 0 0 (pos 0)) in
      let item = map shown (nodes_of t (item_struct g) (suc (suc (suc n))) n 3 0) in
      let e1 = drop_next zs n (shown (spec (kind_of_holder g) f p (d + c) (suc (suc (suc n)) + nodes t) o (pos 0))) (s1 ∷ s2 ∷ (item ++ post)) e in
      let e2 = drop_next zs (suc n) s1 (s2 ∷ (item ++ post)) e1 in
      let e3 = drop_next zs (suc (suc n)) s2 (item ++ post) e2 in
      let none = children_none n (suc (suc (suc n)) + nodes t) post (h n (omega arith) (omega arith)) in
      let third = tree_child t (item_struct g) (suc (suc (suc n))) n 3 0 post (omega arith) in
      let t1 = same_test n n refl in
      let apart : (m : ℕ) → n < m → m < suc (suc (suc n)) → Childless m (item ++ post) =
      λ m a b. childless_append m item post (shown_childless m (nodes_of t (item_struct g) (suc (suc (suc n))) n 3 0) (others t (item_struct g) (suc (suc (suc n))) n 3 0 m b (λ x. omega arith)))
      (h m (omega arith) (omega arith)) in (
        node_here v zs n (kind_of_holder g) f p (d + c) (suc (suc (suc n)) + nodes t) o (s1 ∷ s2 ∷ (item ++ post))
            (And (pair (number (pos 1)) (child_value (suc n) s1)) (And (pair (number (pos 2)) (child_value (suc (suc n)) s2)) (And (pair (number (pos 3)) (child_value (suc (suc (suc n))) s3)) NoValue))) e
            (rw (t1, third, none) refl),
        node_here v zs (suc n) kinds.Size 1 n d d 0 (s2 ∷ (item ++ post)) NoValue e1 (children_none (suc n) (suc (suc n)) (s2 ∷ (item ++ post)) (λ x. omega arith, apart (suc n) (omega arith) (omega arith))),
        node_here v zs (suc (suc n)) kinds.Size 2 n c c d (item ++ post) NoValue e2 (children_none (suc (suc n)) (suc (suc (suc n))) (item ++ post) (apart (suc (suc n)) (omega arith) (omega arith))),
        has v zs l (item_struct g) (suc (suc (suc n))) n 3 0 post of e3 (λ m a b. h m (omega arith) (omega arith)),
      )
  has v zs (Optional w l) sk n p f o post of e h =
      let t = noted_from l in
      let s1 = shown (spec kinds.Flag 1 n w w 0 (pos 0)) in
      let s2 = shown (spec kinds.Struct 2 n 0 0 w (pos 0)) in
      let item = map shown (nodes_of t kinds.Struct (suc (suc n)) n 2 w) in
      let e1 = drop_next zs n (shown (spec kinds.Optional f p (w + inline t) (suc (suc n) + nodes t) o (pos 0))) (s1 ∷ (item ++ post)) e in
      let e2 = drop_next zs (suc n) s1 (item ++ post) e1 in
      let none = children_none n (suc (suc n) + nodes t) post (h n (omega arith) (omega arith)) in
      let second = tree_child t kinds.Struct (suc (suc n)) n 2 w post (omega arith) in
      let t1 = same_test n n refl in (
        node_here v zs n kinds.Optional f p (w + inline t) (suc (suc n) + nodes t) o (s1 ∷ (item ++ post))
            (And (pair (number (pos 1)) (child_value (suc n) s1)) (And (pair (number (pos 2)) (child_value (suc (suc n)) s2)) NoValue)) e
            (rw (t1, second, none) refl),
        node_here v zs (suc n) kinds.Flag 1 n w w 0 (item ++ post) NoValue e1
            (children_none (suc n) (suc (suc n)) (item ++ post)
            (childless_append (suc n) item post (shown_childless (suc n) (nodes_of t kinds.Struct (suc (suc n)) n 2 w) (others t kinds.Struct (suc (suc n)) n 2 w (suc n) (omega arith) (λ x. omega arith)))
            (h (suc n) (omega arith) (omega arith)))),
        has v zs l kinds.Struct (suc (suc n)) n 2 w post of e2 (λ m a b. h m (omega arith) (omega arith)),
      )
  has v zs (Struct fs) sk n p f o post of e h =
      let ts = all_noted_from fs in
      let below = map shown (nodes_of_all ts (suc n) n 0) in
      let e1 = drop_next zs n (shown (spec sk f p (inline_all ts) (suc n + nodes_all ts) o (pos 0))) (below ++ post) e in (
        node_here v zs n sk f p (inline_all ts) (suc n + nodes_all ts) o (below ++ post) (children_of n (suc n) (below ++ post)) e refl
            ∙ ap (λ r. Some (node_entry sk (inline_all ts) r (pos 0))) (field_children_of fs (suc n) n 0 post (omega arith) (h n (omega arith) (omega arith))),
        has_all v zs fs (suc n) n 0 post of e1 (omega arith) (λ m a b. h m (omega arith) (omega arith)),
      )

  has_all : (v : Version) (zs : List NodeSpec) (fs : Layouts) (i p o : ℕ) (post : List NodeSpec) → AllOfVersion v fs
      → drop i zs ≡ map shown (nodes_of_all (all_noted_from fs) i p o) ++ post → p < i → Apart i (nodes_all (all_noted_from fs)) post → HasAll (layouts_of v 0 zs) fs i
  has_all v zs NoField i p o post of e lt h = tt
  has_all v zs (Field id l fs) i p o post of e lt h =
      let t = noted_from l in
      let ts = all_noted_from fs in
      let mine = nodes_of t kinds.Struct i p id o in
      let more = nodes_of_all ts (i + nodes t) p (o + inline t) in
      let first : drop i zs ≡ map shown mine ++ (map shown more ++ post) =
      e ∙ ap (λ r. r ++ post) (map-append shown mine more) ∙ append_assoc (map shown mine) (map shown more) post in (
        has v zs l kinds.Struct i p id o (map shown more ++ post) of.0 first
            (λ m a b. childless_append m (map shown more) post (shown_childless m more (others_all ts (i + nodes t) p (o + inline t) m b (λ x. omega arith))) (h m a (omega arith))),
        has_all v zs fs (i + nodes t) p (o + inline t) post of.1
            (drop_past zs i (i + nodes t) (map shown mine) (map shown more ++ post) first (omega (arith, length-map mine shown, length_nodes t kinds.Struct i p id o)))
            (omega arith) (λ m a b. h m (omega arith) (omega arith)),
      )

-- the layouts of a schema say its layout
pub has_own : (v : Version) (l : Layout) → OfVersion v l → Has (layouts_of v 0 (map shown (nodes_of (noted_from l) kinds.Struct 0 0 0 0))) l kinds.Struct 0
has_own v l of =
    let zs = map shown (nodes_of (noted_from l) kinds.Struct 0 0 0 0) in
    has v zs l kinds.Struct 0 0 0 0 [] of (sym (append-nil zs)) (λ m a b. tt)
