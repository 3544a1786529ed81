-- Settling, node by node.
use Rattle.std.proofs.Common.{◌≡◌, ◌⊎◌, inl, inr, ℕ, suc, ◌+◌, ◌<◌, ◌≤◌, ◌^◌, List, [], ◌∷◌, ◌++◌, arith}
use Rattle.std.proofs.Common.{refl, ap, sym, ◌∙◌, append_assoc, length, length-append, get_or, subst}
use Rattle.std.proofs.Common.{slice_set, pos}
use Rattle.std.proofs.Math.Seq.{set-append_seam, get_or-append_seam}
use Rattle.frozen_model.specs.Trees.{I8, I16, I32, I64, LeafKind, Flag, Integer, ByteKind, Text, Binary}
use Rattle.frozen_model.specs.Trees.{Holder, AList, ASet, AMap, Leaf, ByteRange, ItemRange, Optional, Struct}
use Rattle.frozen_model.specs.Trees.{NoField, Field, nodes, nodes_all}
use Rattle.layout_tree.specs.declared.node.NodeSpec.{NodeSpec}
use Rattle.layout_tree.specs.declared.node.Kind.{Kind}
use Rattle.layout_tree.specs.declared.node.Kind.TheVariants as kinds
use Rattle.layout_tree.specs.Listing.{Noted, AllNoted, inline, inline_all, settled, settled_all, kind_of}
use Rattle.layout_tree.specs.Listing.{kind_of_bytes, kind_of_holder, item_struct, spec, size, nodes_of}
use Rattle.layout_tree.specs.Listing.{nodes_of_all}
use Rattle.layout_tree.specs.Segments.{IsStructKind, head_node, rest_nodes, total, total_all, IsHead, Segment}
use Rattle.layout_tree.specs.Segments.{PartSettled, Below, BelowSettled, Fields, AllSettled}
use Rattle.layout_tree.specs.Groups.{group, tree_group}
use Rattle.layout_tree.proofs.Decode.{item_is_struct}
use Rattle.layout_tree.proofs.Place.{length_nodes, some_nodes}
use Rattle.layout_tree.proofs.Readings.{PastAt, head_past}

pub seam_get : (ns pre post : List NodeSpec) (x d : NodeSpec) (i : ℕ) → length pre ≡ i → ns ≡ pre ++ x ∷ post
    → get_or ns i d ≡ x
seam_get ns pre post x d i e w = ap (λ r. get_or r i d) w ∙ ap (λ j. get_or (pre ++ x ∷ post) j d) (sym e)
    ∙ get_or-append_seam pre x post d

pub seam_set : (ns pre post : List NodeSpec) (x y : NodeSpec) (i : ℕ) → length pre ≡ i → ns ≡ pre ++ x ∷ post
    → slice_set ns i y ≡ pre ++ y ∷ post
seam_set ns pre post x y i e w = ap (λ r. slice_set r i y) w
    ∙ ap (λ j. slice_set (pre ++ x ∷ post) j y) (sym e) ∙ set-append_seam pre x post y

pub seam_in : (ns pre post : List NodeSpec) (x : NodeSpec) (i : ℕ) → length pre ≡ i → ns ≡ pre ++ x ∷ post → i
    < length ns
seam_in ns pre post x i e w = omega (arith, ap length w, length-append pre (x ∷ post))

-- a node at its noted width, at an offset
abbrev pub tip : NodeSpec → ℕ → NodeSpec
tip x o = record {
  kind = x.kind;
  field = x.field;
  parent = x.parent;
  bits = x.wide;
  wide = x.wide;
  offset = o;
  base = x.base;
}

abbrev pub Tipped : List NodeSpec → ℕ → ℕ → List NodeSpec → ℕ → Type 0
Tipped ns i o ms r = (pre post : List NodeSpec) (x : NodeSpec) → length pre ≡ i → ns ≡ pre ++ x ∷ post
    → (ms ≡ pre ++ tip x o ∷ post) × (r ≡ x.wide)

pub tipped : (ns : List NodeSpec) (d : NodeSpec) (i o : ℕ)
    → Tipped ns i o (slice_set ns i (tip (get_or ns i d) o)) ((get_or ns i d).wide)
tipped ns d i o pre post x e w =
    let same : get_or ns i d ≡ x = seam_get ns pre post x d i e w in
    (ap (λ y. slice_set ns i (tip y o)) same ∙ seam_set ns pre post x (tip x o) i e w, ap (λ y. y.wide) same)

-- two nodes one after another
pub two_tips : (ns ms ls pre more : List NodeSpec) (x a b : NodeSpec) (i r q : ℕ) → length pre ≡ i → ns ≡ pre
    ++ (x ∷ a ∷ b ∷ more)
    → Tipped ns (i + 1) 0 ms r → Tipped ms (i + 2) r ls q → (ls ≡ pre ++ (x ∷ tip a 0 ∷ tip b a.wide ∷ more))
    × (r + q ≡ a.wide + b.wide)
two_tips ns ms ls pre more x a b i r q e w f g =
    let one = f (pre ++ x ∷ []) (b ∷ more) a (omega (arith, length-append pre (x ∷ [])))
    (w ∙ sym (append_assoc pre (x ∷ []) (a ∷ b ∷ more))) in
    let two = g (pre ++ x ∷ tip a 0 ∷ []) more b (omega (arith, length-append pre (x ∷ tip a 0 ∷ [])))
    (one.0 ∙ append_assoc pre (x ∷ []) (tip a 0 ∷ b ∷ more)
    ∙ sym (append_assoc pre (x ∷ tip a 0 ∷ []) (b ∷ more))) in (
      two.0 ∙ append_assoc pre (x ∷ tip a 0 ∷ []) (tip b r ∷ more)
          ∙ ap (λ z. pre ++ (x ∷ tip a 0 ∷ tip b z ∷ more)) one.1,
      omega (arith, one.1, two.1),
    )

-- ---- what does not change

mutual
  pub settled_nodes : (t : Noted) → nodes (settled t) ≡ nodes t
  settled_nodes (Leaf k c) = refl
  settled_nodes (ByteRange t d c) = refl
  settled_nodes (ItemRange h d c l) = ap (λ n. 3 + n) (settled_nodes l)
  settled_nodes (Optional w l) = ap (λ n. 2 + n) (settled_nodes l)
  settled_nodes (Struct ls) = ap (λ n. 1 + n) (settled_nodes_all ls)

  pub settled_nodes_all : (ls : AllNoted) → nodes_all (settled_all ls) ≡ nodes_all ls
  settled_nodes_all NoField = refl
  settled_nodes_all (Field i l ls) = let e = settled_nodes l in let f = settled_nodes_all ls in cc

mutual
  pub inline_total : (t : Noted) → inline (settled t) ≤ total t
  inline_total (Leaf k c) = omega arith
  inline_total (ByteRange t d c) = omega arith
  inline_total (ItemRange h d c l) = omega arith
  inline_total (Optional w l) = omega (arith, inline_total l)
  inline_total (Struct ls) = inline_total_all ls

  pub inline_total_all : (ls : AllNoted) → inline_all (settled_all ls) ≤ total_all ls
  inline_total_all NoField = omega arith
  inline_total_all (Field i l ls) = omega (arith, inline_total l, inline_total_all ls)

mutual
  pub total_settled : (t : Noted) → total (settled t) ≡ total t
  total_settled (Leaf k c) = refl
  total_settled (ByteRange t d c) = refl
  total_settled (ItemRange h d c l) = ap (λ n. d.wide + c.wide + n) (total_settled l)
  total_settled (Optional w l) = ap (λ n. w.wide + n) (total_settled l)
  total_settled (Struct ls) = total_settled_all ls

  pub total_settled_all : (ls : AllNoted) → total_all (settled_all ls) ≡ total_all ls
  total_settled_all NoField = refl
  total_settled_all (Field i l ls) = let e = total_settled l in let f = total_settled_all ls in cc

-- ---- the first node and the rest

pub split_nodes : (t : Noted) (sk : Kind) (i p f o : ℕ) → nodes_of t sk i p f o ≡ head_node t sk i p f o
    ∷ rest_nodes t i
split_nodes (Leaf k c) sk i p f o = refl
split_nodes (ByteRange t d c) sk i p f o = refl
split_nodes (ItemRange h d c l) sk i p f o = refl
split_nodes (Optional w l) sk i p f o = refl
split_nodes (Struct ls) sk i p f o = refl

pub is_head : (t : Noted) (sk : Kind) → IsStructKind sk → (i p f o : ℕ) → IsHead t (head_node t sk i p f o) i
is_head (Leaf k c) sk h i p f o = (refl, refl)
is_head (ByteRange t d c) sk h i p f o = refl
is_head (ItemRange g d c l) sk h i p f o = refl
is_head (Optional w l) sk h i p f o = refl
is_head (Struct ls) sk h i p f o = (h, refl)

-- a node with other bits and offset
abbrev pub moved : NodeSpec → ℕ → ℕ → NodeSpec
moved x b o = record {
  kind = x.kind;
  field = x.field;
  parent = x.parent;
  bits = b;
  wide = x.wide;
  offset = o;
  base = x.base;
}

pub head_moved : (t : Noted) (sk : Kind) (i p f o q : ℕ)
    → moved (head_node t sk i p f o) (inline (settled t)) q ≡ head_node (settled t) sk i p f q
head_moved (Leaf k c) sk i p f o q = refl
head_moved (ByteRange t d c) sk i p f o q = refl
head_moved (ItemRange h d c l) sk i p f o q = ap
    (λ n. spec (kind_of_holder h) f p (d.wide + c.wide) (suc (suc (suc i)) + n) q (pos 0))
    (sym (settled_nodes l))
head_moved (Optional w l) sk i p f o q = ap
    (λ n. spec kinds.Optional f p (w.wide + inline (settled l)) (suc (suc i) + n) q (pos 0))
    (sym (settled_nodes l))
head_moved (Struct ls) sk i p f o q = ap
    (λ n. spec sk f p (inline_all (settled_all ls)) (suc i + n) q (pos 0)) (sym (settled_nodes_all ls))

abbrev pub below_of : {ns : List NodeSpec} {i : ℕ} → Segment ns i → Below ns i
below_of {ns} {i} g = record {
  tree = g.tree;
  number = g.number;
  head = head_node g.tree g.kind g.number g.parent g.field g.offset;
  pre = g.pre;
  post = g.post;
  first = is_head g.tree g.kind g.struct g.number g.parent g.field g.offset;
  is = g.is;
  long = g.long;
  whole = g.whole ∙ ap (λ r. g.pre ++ (r ++ g.post))
      (split_nodes g.tree g.kind g.number g.parent g.field g.offset);
  light = g.light;
}

pub segment_in : {ns : List NodeSpec} {i : ℕ} → Segment ns i → i < length ns
segment_in {ns} {i} g = let b = below_of g in seam_in ns g.pre (rest_nodes g.tree g.number ++ g.post) b.head i
    g.long b.whole

pub segment_end : {ns : List NodeSpec} {i : ℕ} → (g : Segment ns i) → i + nodes g.tree ≤ length ns
segment_end {ns} {i} g =
    let mine = nodes_of g.tree g.kind g.number g.parent g.field g.offset in
    omega (
      arith,
      ap length g.whole,
      length-append g.pre (mine ++ g.post),
      length-append mine g.post,
      length_nodes g.tree g.kind g.number g.parent g.field g.offset,
      g.long,
    )

pub below_in : {ns : List NodeSpec} {i : ℕ} → Below ns i → i < length ns
below_in {ns} {i} g = seam_in ns g.pre (rest_nodes g.tree g.number ++ g.post) g.head i g.long g.whole

-- the part once what is below its node is settled
pub part_settled : {ns : List NodeSpec} {i : ℕ} (g : Segment ns i) (ms : List NodeSpec) (b o : ℕ)
    (d : NodeSpec) → BelowSettled (below_of g) ms b
    → PartSettled g o (slice_set ms i (moved (get_or ms i d) b o)) b
part_settled {ns} {i} g ms b o d h =
    let x = head_node g.tree g.kind g.number g.parent g.field g.offset in
    let more = rest_nodes (settled g.tree) g.number ++ g.post in
    let same : get_or ms i d ≡ x = seam_get ms g.pre more x d i g.long h.0 in (
      ap (λ y. slice_set ms i (moved y b o)) same ∙ seam_set ms g.pre more x (moved x b o) i g.long h.0
          ∙ ap (λ z. g.pre ++ (moved x z o ∷ more)) h.1
          ∙ ap (λ y. g.pre ++ (y ∷ more)) (head_moved g.tree g.kind g.number g.parent g.field g.offset o)
          ∙ sym (ap (λ r. g.pre
          ++ (r ++ g.post)) (split_nodes (settled g.tree) g.kind g.number g.parent g.field o)),
      h.1,
    )

-- ---- which tree a kind has

group_leaf : (k : LeafKind) → group (kind_of k) ≡ 0
group_leaf Flag = refl
group_leaf (Integer I8) = refl
group_leaf (Integer I16) = refl
group_leaf (Integer I32) = refl
group_leaf (Integer I64) = refl

group_bytes : (t : ByteKind) → group (kind_of_bytes t) ≡ 1
group_bytes Text = refl
group_bytes Binary = refl

group_holder : (h : Holder) → group (kind_of_holder h) ≡ 2
group_holder AList = refl
group_holder ASet = refl
group_holder AMap = refl

group_struct : (k : Kind) → IsStructKind k → group k ≡ 4
group_struct kinds.Struct h = refl
group_struct kinds.Pair h = refl
group_struct kinds.Flag h = absurd h
group_struct kinds.I8 h = absurd h
group_struct kinds.I16 h = absurd h
group_struct kinds.I32 h = absurd h
group_struct kinds.I64 h = absurd h
group_struct kinds.Text h = absurd h
group_struct kinds.Bytes h = absurd h
group_struct kinds.List h = absurd h
group_struct kinds.Set h = absurd h
group_struct kinds.Map h = absurd h
group_struct kinds.Optional h = absurd h
group_struct kinds.Size h = absurd h

pub head_group : (t : Noted) (x : NodeSpec) (i : ℕ) → IsHead t x i → group x.kind ≡ tree_group t
head_group (Leaf k c) x i h = ap group h.0 ∙ group_leaf k
head_group (ByteRange t d c) x i h = ap group h ∙ group_bytes t
head_group (ItemRange g d c l) x i h = ap group h ∙ group_holder g
head_group (Optional w l) x i h = ap group h
head_group (Struct ls) x i h = group_struct x.kind h.0

-- the group of what is read at a node
pub read_group : {ns : List NodeSpec} {i : ℕ} (g : Below ns i) (d : NodeSpec) → group (get_or ns i d).kind
    ≡ tree_group g.tree
read_group {ns} {i} g d =
    ap (λ x. group x.kind) (seam_get ns g.pre (rest_nodes g.tree g.number ++ g.post) g.head d i g.long
    g.whole) ∙ head_group g.tree g.head g.number g.first

-- ---- the parts below a node, and what settling them gives

pub bytes_room : {ns : List NodeSpec} {i : ℕ} (g : Below ns i) → tree_group g.tree ≡ 1 → i + 2 < length ns
bytes_room {ns} {i} g e = go g.tree e g.whole
  where
    go : (t : Noted) → tree_group t ≡ 1 → ns ≡ g.pre ++ (g.head ∷ (rest_nodes t g.number ++ g.post)) → i + 2
        < length ns
    go (ByteRange t d c) e w = omega (
      arith,
      ap length w,
      length-append g.pre
          (g.head ∷ (rest_nodes (ByteRange t d c) g.number ++ g.post)),
      g.long,
    )
    go (Leaf k c) e w = absurd (omega arith)
    go (ItemRange h d c l) e w = absurd (omega arith)
    go (Optional x l) e w = absurd (omega arith)
    go (Struct ls) e w = absurd (omega arith)

pub bytes_step : {ns ms ls : List NodeSpec} {i r q : ℕ} (g : Below ns i) → tree_group g.tree ≡ 1
    → Tipped ns (i + 1) 0 ms r → Tipped ms (i + 2) r ls q → BelowSettled g ls (r + q)
bytes_step {ns} {ms} {ls} {i} {r} {q} g e f h = go g.tree e g.whole
  where
    go : (t : Noted) → tree_group t ≡ 1 → ns ≡ g.pre ++ (g.head ∷ (rest_nodes t g.number ++ g.post))
        → (ls ≡ g.pre ++ (g.head ∷ (rest_nodes (settled t) g.number ++ g.post)))
        × (r + q ≡ inline (settled t))
    go (ByteRange t d c) e w = two_tips ns ms ls g.pre g.post g.head (size 1 g.number d 0)
        (size 2 g.number c d.bits) i r q g.long w f h
    go (Leaf k c) e w = absurd (omega arith)
    go (ItemRange h d c l) e w = absurd (omega arith)
    go (Optional x l) e w = absurd (omega arith)
    go (Struct ls) e w = absurd (omega arith)

-- a list, set or map
pub record RangeParts (ns pre post : List NodeSpec) (x : NodeSpec) (i n : ℕ) (t : Noted) : Type 0 where
  pub item : Segment ns (i + 3)
  pub step : (ks ms ls : List NodeSpec) (b r q : ℕ) → PartSettled item 0 ks b → Tipped ks (i + 1) 0 ms r
      → Tipped ms (i + 2) r ls q
      → (ls ≡ pre ++ (x ∷ (rest_nodes (settled t) n ++ post))) × (r + q ≡ inline (settled t))

range_parts : (ns pre post : List NodeSpec) (x : NodeSpec) (i n : ℕ) (t : Noted) → n ≡ i → length pre ≡ i
    → tree_group t ≡ 2
    → ns ≡ pre ++ (x ∷ (rest_nodes t n ++ post)) → total t < 2 ^ 32 → RangeParts ns pre post x i n t
range_parts ns pre post x i n (ItemRange h d c l) e long k w light =
    let a = size 1 n d 0 in
    let b = size 2 n c d.bits in
    let front = x ∷ a ∷ b ∷ [] in
    let more = λ (t : Noted). nodes_of t (item_struct h) (suc (suc (suc n))) n 3 0 ++ post in
    record {
      item = record {
        tree = l;
        kind = item_struct h;
        struct = item_is_struct h;
        number = suc (suc (suc n));
        parent = n;
        field = 3;
        offset = 0;
        pre = pre ++ front;
        post = post;
        is = omega arith;
        long = omega (arith, length-append pre front);
        whole = w ∙ sym (append_assoc pre front (more l));
        light = omega (arith, light);
      };
      step = λ ks ms ls q r s done f g. two_tips ks ms ls pre (more (settled l)) x a b i r s long
          (done.0 ∙ append_assoc pre front (more (settled l))) f g;
    }
range_parts ns pre post x i n (Leaf y z) e long k w light = absurd (omega arith)
range_parts ns pre post x i n (ByteRange y z c) e long k w light = absurd (omega arith)
range_parts ns pre post x i n (Optional y l) e long k w light = absurd (omega arith)
range_parts ns pre post x i n (Struct ls) e long k w light = absurd (omega arith)

pub range_below : {ns : List NodeSpec} {i : ℕ} (g : Below ns i) → tree_group g.tree ≡ 2
    → RangeParts ns g.pre g.post g.head i g.number g.tree
range_below {ns} {i} g e = range_parts ns g.pre g.post g.head i g.number g.tree g.is g.long e g.whole g.light

-- an optional
pub record OptionalParts (ns pre post : List NodeSpec) (x : NodeSpec) (i n : ℕ) (t : Noted) : Type 0 where
  pub room : i + 1 < length ns
  pub inner : (ms : List NodeSpec) (r : ℕ) → Tipped ns (i + 1) 0 ms r → Segment ms (i + 2)
  pub step : (ms : List NodeSpec) (r : ℕ) (f : Tipped ns (i + 1) 0 ms r) (ls : List NodeSpec) (q : ℕ)
      → PartSettled (inner ms r f) r ls q
      → (ls ≡ pre ++ (x ∷ (rest_nodes (settled t) n ++ post))) × (r + q ≡ inline (settled t))

optional_parts : (ns pre post : List NodeSpec) (x : NodeSpec) (i n : ℕ) (t : Noted) → n ≡ i → length pre ≡ i
    → tree_group t ≡ 3
    → ns ≡ pre ++ (x ∷ (rest_nodes t n ++ post)) → total t < 2 ^ 32 → OptionalParts ns pre post x i n t
optional_parts ns pre post x i n (Optional w l) e long k is light =
    let a = spec kinds.Flag 1 n w.bits w.wide 0 (pos 0) in
    let front = x ∷ tip a 0 ∷ [] in
    let more = λ (t : Noted) (o : ℕ). nodes_of t kinds.Struct (suc (suc n)) n 2 o ++ post in
    let far : length (pre ++ x ∷ []) ≡ i + 1 = omega (arith, length-append pre (x ∷ [])) in
    let split : ns ≡ (pre ++ x ∷ []) ++ (a ∷ more l w.bits) = is
    ∙ sym (append_assoc pre (x ∷ []) (a ∷ more l w.bits)) in
    record {
      room = seam_in ns (pre ++ x ∷ []) (more l w.bits) a (i + 1) far split;
      inner = λ ms r f. record {
        tree = l;
        kind = kinds.Struct;
        struct = tt;
        number = suc (suc n);
        parent = n;
        field = 2;
        offset = w.bits;
        pre = pre ++ front;
        post = post;
        is = omega arith;
        long = omega (arith, length-append pre front);
        whole = (f (pre ++ x ∷ []) (more l w.bits) a far split).0
            ∙ append_assoc pre (x ∷ []) (tip a 0 ∷ more l w.bits)
            ∙ sym (append_assoc pre front (more l w.bits));
        light = omega (arith, light);
      };
      step = λ ms r f ls q done.
          let same : r ≡ w.wide = (f (pre ++ x ∷ []) (more l w.bits) a far split).1 in (
            done.0 ∙ append_assoc pre front (more (settled l) r)
                ∙ ap (λ z. pre ++ (x ∷ tip a 0 ∷ more (settled l) z)) same,
            omega (arith, same, done.1),
          );
    }
optional_parts ns pre post x i n (Leaf y z) e long k w light = absurd (omega arith)
optional_parts ns pre post x i n (ByteRange y z c) e long k w light = absurd (omega arith)
optional_parts ns pre post x i n (ItemRange y z c l) e long k w light = absurd (omega arith)
optional_parts ns pre post x i n (Struct ls) e long k w light = absurd (omega arith)

pub optional_below : {ns : List NodeSpec} {i : ℕ} (g : Below ns i) → tree_group g.tree ≡ 3
    → OptionalParts ns g.pre g.post g.head i g.number g.tree
optional_below {ns} {i} g e = optional_parts ns g.pre g.post g.head i g.number g.tree g.is g.long e g.whole
    g.light

-- a struct
pub record StructParts (ns pre post : List NodeSpec) (x : NodeSpec) (i n end : ℕ) (t : Noted) : Type 0 where
  pub fields : Fields ns (i + 1) end 0
  pub step : (ls : List NodeSpec) (q : ℕ) → AllSettled fields 0 ls q
      → (ls ≡ pre ++ (x ∷ (rest_nodes (settled t) n ++ post))) × (q ≡ inline (settled t))

struct_parts : (ns pre post : List NodeSpec) (x : NodeSpec) (i n end : ℕ) (t : Noted) → end ≡ x.wide
    → IsHead t x n → n ≡ i → length pre ≡ i → tree_group t ≡ 4
    → ns ≡ pre ++ (x ∷ (rest_nodes t n ++ post)) → total t < 2 ^ 32 → StructParts ns pre post x i n end t
struct_parts ns pre post x i n end (Struct fs) ee h e long k w light =
    let more = λ (fs : AllNoted). nodes_of_all fs (suc n) n 0 ++ post in
    record {
      fields = record {
        fields = fs;
        number = suc n;
        parent = n;
        offset = 0;
        pre = pre ++ x ∷ [];
        post = post;
        is = omega arith;
        long = omega (arith, length-append pre (x ∷ []));
        ends = omega (arith, h.1, ee);
        whole = w ∙ sym (append_assoc pre (x ∷ []) (more fs));
        light = omega (arith, light);
      };
      step = λ ls q done. (done.0 ∙ append_assoc pre (x ∷ []) (more (settled_all fs)), omega (arith, done.1));
    }
struct_parts ns pre post x i n end (Leaf y z) ee h e long k w light = absurd (omega arith)
struct_parts ns pre post x i n end (ByteRange y z c) ee h e long k w light = absurd (omega arith)
struct_parts ns pre post x i n end (ItemRange y z c l) ee h e long k w light = absurd (omega arith)
struct_parts ns pre post x i n end (Optional y l) ee h e long k w light = absurd (omega arith)

pub struct_below : {ns : List NodeSpec} {i : ℕ} (g : Below ns i) (end : ℕ) → end ≡ g.head.wide
    → tree_group g.tree ≡ 4 → StructParts ns g.pre g.post g.head i g.number end g.tree
struct_below {ns} {i} g end ee e = struct_parts ns g.pre g.post g.head i g.number end g.tree ee g.first g.is
    g.long e g.whole g.light

-- a leaf
pub leaf_step : {ns : List NodeSpec} {i : ℕ} (g : Below ns i) → tree_group g.tree ≡ 0
    → BelowSettled g ns g.head.wide
leaf_step {ns} {i} g e = go g.tree e g.first g.whole
  where
    go : (t : Noted) → tree_group t ≡ 0 → IsHead t g.head g.number → ns ≡ g.pre
        ++ (g.head ∷ (rest_nodes t g.number ++ g.post))
        → (ns ≡ g.pre ++ (g.head ∷ (rest_nodes (settled t) g.number ++ g.post)))
        × (g.head.wide ≡ inline (settled t))
    go (Leaf k c) e h w = (w, h.1)
    go (ByteRange t d c) e h w = absurd (omega arith)
    go (ItemRange y d c l) e h w = absurd (omega arith)
    go (Optional x l) e h w = absurd (omega arith)
    go (Struct ls) e h w = absurd (omega arith)

-- what is read at the node
pub read_head : {ns : List NodeSpec} {i : ℕ} (g : Below ns i) (d : NodeSpec) → get_or ns i d ≡ g.head
read_head {ns} {i} g d = seam_get ns g.pre (rest_nodes g.tree g.number ++ g.post) g.head d i g.long g.whole

-- ---- fields

pub no_fields : {ns : List NodeSpec} {i end o : ℕ} (g : Fields ns i end o) → end ≤ i → AllSettled g o ns o
no_fields {ns} {i} {end} {o} g le = go g.fields g.ends g.whole
  where
    go : (fs : AllNoted) → end ≡ i + nodes_all fs → ns ≡ g.pre
        ++ (nodes_of_all fs g.number g.parent g.offset ++ g.post)
        → (ns ≡ g.pre ++ (nodes_of_all (settled_all fs) g.number g.parent o ++ g.post))
        × (o ≡ o + inline_all (settled_all fs))
    go NoField e w = (w, omega arith)
    go (Field id l fs) e w = absurd (omega (arith, some_nodes l))

pub record FieldParts (ns pre post : List NodeSpec) (i end o n p : ℕ) (fs : AllNoted) : Type 0 where
  pub first : Segment ns i
  pub next : (ms : List NodeSpec) (b : ℕ) → PartSettled first o ms b → Segment ms i
  pub rest : (ms : List NodeSpec) (b j : ℕ) (h : PartSettled first o ms b) → j ≡ i + nodes (next ms b h).tree
      → Fields ms j end (o + b)
  pub fits : (ms : List NodeSpec) (b : ℕ) → PartSettled first o ms b → o + b < 2 ^ 32
  pub later : (ms : List NodeSpec) (b j : ℕ) (h : PartSettled first o ms b) → j ≡ i + nodes (next ms b h).tree
      → i < j
  pub step : (ms : List NodeSpec) (b j : ℕ) (h : PartSettled first o ms b)
      (e : j ≡ i + nodes (next ms b h).tree) (ls : List NodeSpec) (q : ℕ)
      → AllSettled (rest ms b j h e) (o + b) ls q
      → (ls ≡ pre ++ (nodes_of_all (settled_all fs) n p o ++ post)) × (q ≡ o + inline_all (settled_all fs))

field_parts : (ns pre post : List NodeSpec) (i end o n p f : ℕ) (fs : AllNoted) → n ≡ i → length pre ≡ i → end
    ≡ i + nodes_all fs → i < end
    → ns ≡ pre ++ (nodes_of_all fs n p f ++ post) → o + total_all fs < 2 ^ 32
    → FieldParts ns pre post i end o n p fs
field_parts ns pre post i end o n p f NoField e long ends lt w light = absurd (omega arith)
field_parts ns pre post i end o n p f (Field id l fs) e long ends lt w light =
    let mine = nodes_of l kinds.Struct n p id f in
    let others = nodes_of_all fs (n + nodes l) p (f + inline l) in
    let done = nodes_of (settled l) kinds.Struct n p id o in
    record {
      first = record {
        tree = l;
        kind = kinds.Struct;
        struct = tt;
        number = n;
        parent = p;
        field = id;
        offset = f;
        pre = pre;
        post = others ++ post;
        is = e;
        long = long;
        whole = w ∙ ap (λ r. pre ++ r) (append_assoc mine others post);
        light = omega (arith, light);
      };
      next = λ ms b h. record {
        tree = settled l;
        kind = kinds.Struct;
        struct = tt;
        number = n;
        parent = p;
        field = id;
        offset = o;
        pre = pre;
        post = others ++ post;
        is = e;
        long = long;
        whole = h.0;
        light = omega (arith, light, total_settled l);
      };
      rest = λ ms b j h k. record {
        fields = fs;
        number = n + nodes l;
        parent = p;
        offset = f + inline l;
        pre = pre ++ done;
        post = post;
        is = omega (arith, settled_nodes l);
        long = omega (arith, length-append pre done, length_nodes (settled l) kinds.Struct n p id o);
        ends = omega (arith, settled_nodes l);
        whole = h.0 ∙ sym (append_assoc pre done (others ++ post));
        light = omega (arith, light, h.1, inline_total l);
      };
      fits = λ ms b h. omega (arith, light, h.1, inline_total l);
      later = λ ms b j h k. omega (arith, some_nodes (settled l));
      step = λ ms b j h k ls q r.
          let more = λ (m z : ℕ). nodes_of_all (settled_all fs) (n + m) p (o + z) in (
            r.0 ∙ append_assoc pre done (more (nodes l) b ++ post)
                ∙ ap (λ m. pre ++ (done ++ (more m b ++ post))) (sym (settled_nodes l))
                ∙ ap (λ z. pre ++ (done ++ (more (nodes (settled l)) z ++ post))) h.1
                ∙ ap (λ z. pre ++ z) (sym (append_assoc done (more (nodes (settled l)) (inline (settled l)))
                post)),
            omega (arith, r.1, h.1),
          );
    }

pub first_field : {ns : List NodeSpec} {i end o : ℕ} (g : Fields ns i end o) → i < end
    → FieldParts ns g.pre g.post i end o g.number g.parent g.fields
first_field {ns} {i} {end} {o} g lt = field_parts ns g.pre g.post i end o g.number g.parent g.offset g.fields
    g.is g.long g.ends lt g.whole g.light

-- what is left to settle of fields
pub record FieldsLeft {ns : List NodeSpec} {i end o : ℕ} (g : Fields ns i end o) (cur : List NodeSpec)
    (next sum : ℕ) : Type 0 where
  pub left : Fields cur next end sum
  pub rest : (ls : List NodeSpec) (q : ℕ) → AllSettled left sum ls q → AllSettled g o ls q

pub fields_begin : {ns : List NodeSpec} {i end o : ℕ} (g : Fields ns i end o) → FieldsLeft g ns i o
fields_begin g = record { left = g; rest = λ ls q h. h }

pub fields_go_on : {ns : List NodeSpec} {i end o : ℕ} (g : Fields ns i end o) (cur ms : List NodeSpec)
    (next sum b j : ℕ) (r : FieldsLeft g cur next sum) (lt : next < end)
    (h : PartSettled (first_field r.left lt).first sum ms b) → j ≡ next
    + nodes ((first_field r.left lt).next ms b h).tree → FieldsLeft g ms j (sum + b)
fields_go_on g cur ms next sum b j r lt h e =
    let f = first_field r.left lt in
    record { left = f.rest ms b j h e; rest = λ ls q z. r.rest ls q (f.step ms b j h e ls q z) }

pub fields_over : {ns : List NodeSpec} {i end o : ℕ} (g : Fields ns i end o) (cur : List NodeSpec)
    (next sum : ℕ) (r : FieldsLeft g cur next sum) → end ≤ next → AllSettled g o cur sum
fields_over g cur next sum r le = r.rest cur sum (no_fields r.left le)

-- ---- sums fit

pub below_light : {ns : List NodeSpec} {i : ℕ} (g : Below ns i) (b : ℕ) → b ≡ inline (settled g.tree) → b
    < 2 ^ 32
below_light {ns} {i} g b e = omega (arith, e, inline_total g.tree, g.light)

pub past_segment : {ns : List NodeSpec} {i : ℕ} (g : Segment ns i) (d : NodeSpec)
    → PastAt (get_or ns i d).kind i (get_or ns i d).wide (nodes g.tree)
past_segment {ns} {i} g d =
    let b = below_of g in
    let x = head_node g.tree g.kind g.number g.parent g.field g.offset in
    let p : PastAt x.kind g.number x.wide (nodes g.tree) = subst
    (λ (ys : List NodeSpec). PastAt (get_or (ys ++ []) 0 d).kind g.number (get_or (ys ++ []) 0 d).wide
    (nodes g.tree)) (split_nodes g.tree g.kind g.number g.parent g.field g.offset)
    (head_past g.tree g.kind g.struct g.number g.parent g.field g.offset [] d) in
    subst (λ (y : NodeSpec). PastAt y.kind i y.wide (nodes g.tree)) (sym (read_head b d))
    (subst (λ n. PastAt x.kind n x.wide (nodes g.tree)) g.is p)

-- ---- the arms of a match on a kind

pub group_bytes_cases : (k : Kind) → (k ≡ kinds.Text) ⊎ (k ≡ kinds.Bytes) → group k ≡ 1
group_bytes_cases k (inl e) = ap group e
group_bytes_cases k (inr e) = ap group e

pub group_holder_cases : (k : Kind) → (k ≡ kinds.List) ⊎ ((k ≡ kinds.Set) ⊎ (k ≡ kinds.Map)) → group k ≡ 2
group_holder_cases k (inl e) = ap group e
group_holder_cases k (inr (inl e)) = ap group e
group_holder_cases k (inr (inr e)) = ap group e

pub group_struct_cases : (k : Kind) → (k ≡ kinds.Struct) ⊎ (k ≡ kinds.Pair) → group k ≡ 4
group_struct_cases k (inl e) = ap group e
group_struct_cases k (inr e) = ap group e

pub group_leaf_cases : (t : Noted) (k : Kind) → group k ≡ tree_group t → (k ≡ kinds.Text → ⊥)
    → (k ≡ kinds.Bytes → ⊥) → (k ≡ kinds.List → ⊥) → (k ≡ kinds.Set → ⊥) → (k ≡ kinds.Map → ⊥)
    → (k ≡ kinds.Optional → ⊥) → (k ≡ kinds.Struct → ⊥) → (k ≡ kinds.Pair → ⊥) → tree_group t ≡ 0
group_leaf_cases t kinds.Flag e a b c d f g h i = sym e
group_leaf_cases t kinds.I8 e a b c d f g h i = sym e
group_leaf_cases t kinds.I16 e a b c d f g h i = sym e
group_leaf_cases t kinds.I32 e a b c d f g h i = sym e
group_leaf_cases t kinds.I64 e a b c d f g h i = sym e
group_leaf_cases t kinds.Text e a b c d f g h i = absurd (a refl)
group_leaf_cases t kinds.Bytes e a b c d f g h i = absurd (b refl)
group_leaf_cases t kinds.List e a b c d f g h i = absurd (c refl)
group_leaf_cases t kinds.Set e a b c d f g h i = absurd (d refl)
group_leaf_cases t kinds.Map e a b c d f g h i = absurd (f refl)
group_leaf_cases t kinds.Optional e a b c d f g h i = absurd (g refl)
group_leaf_cases t kinds.Struct e a b c d f g h i = absurd (h refl)
group_leaf_cases t kinds.Pair e a b c d f g h i = absurd (i refl)
group_leaf_cases (Leaf k x) kinds.Size e a b c d f g h i = refl
group_leaf_cases (ByteRange y z x) kinds.Size e a b c d f g h i = absurd (omega arith)
group_leaf_cases (ItemRange y z x l) kinds.Size e a b c d f g h i = absurd (omega arith)
group_leaf_cases (Optional x l) kinds.Size e a b c d f g h i = absurd (omega arith)
group_leaf_cases (Struct ls) kinds.Size e a b c d f g h i = absurd (omega arith)
