-- Marking, node by node.
use Rattle.std.proofs.Common.{◌≡◌, ◌⊎◌, inl, inr, ℕ, suc, ◌+◌, ◌<◌, ◌≤◌, List, [], ◌∷◌, ◌++◌, true, false}
use Rattle.std.proofs.Common.{arith, refl, ap, sym, ◌∙◌, append_assoc, length, length-append, get_or}
use Rattle.std.proofs.Common.{slice_set, pos, map}
use Rattle.frozen_model.specs.Trees.{I8, I16, I32, I64, LeafKind, Flag, Integer, Leaf, ByteRange, ItemRange}
use Rattle.frozen_model.specs.Trees.{Optional, Struct, NoField, Field, nodes, nodes_all}
use Rattle.layout_tree.specs.declared.node.NodeSpec.{NodeSpec}
use Rattle.layout_tree.specs.declared.node.Kind.{Kind}
use Rattle.layout_tree.specs.declared.node.Kind.TheVariants as kinds
use Rattle.layout_tree.specs.Listing.{Noted, AllNoted, inline, inline_all, kind_of, kind_of_bytes}
use Rattle.layout_tree.specs.Listing.{kind_of_holder, item_struct, spec, size, nodes_of, nodes_of_all}
use Rattle.layout_tree.specs.Segments.{head_node, rest_nodes}
use Rattle.layout_tree.specs.Groups.{group, tree_group}
use Rattle.layout_tree.specs.Given.{shown}
use Rattle.layout_tree.specs.Marking.{is_leaf_kind, Behind, Unmarked, Marked, UnmarkedBelow, BelowMarked}
use Rattle.layout_tree.specs.Marking.{UnmarkedFields, FieldsMarked}
use Rattle.layout_tree.specs.Shapes.{marked}
use Rattle.layout_tree.proofs.Decode.{item_is_struct}
use Rattle.layout_tree.proofs.Place.{length_nodes, some_nodes}
use Rattle.layout_tree.proofs.Settling.{split_nodes, seam_get, seam_set, seam_in, head_group, is_head}

shown_append : (xs ys : List NodeSpec) → map shown (xs ++ ys) ≡ map shown xs ++ map shown ys
shown_append [] ys = refl
shown_append (x ∷ xs) ys = ap (λ r. shown x ∷ r) (shown_append xs ys)

pub shown_length : (xs : List NodeSpec) → length (map shown xs) ≡ length xs
shown_length [] = refl
shown_length (x ∷ xs) = ap suc (shown_length xs)

-- what follows a field follows what is before it
behind_more : (p n : ℕ) (post : List NodeSpec) → p < n → Behind p post → Behind n post
behind_more p n [] lt h = tt
behind_more p n (x ∷ xs) lt h = omega (arith, h)

behind_fields : (fs : AllNoted) (i p o n : ℕ) (post : List NodeSpec) → p < n → Behind p post
    → Behind n (map shown (nodes_of_all fs i p o) ++ post)
behind_fields NoField i p o n post lt h = behind_more p n post lt h
behind_fields (Field id (Leaf k c) fs) i p o n post lt h = lt
behind_fields (Field id (ByteRange t d c) fs) i p o n post lt h = lt
behind_fields (Field id (ItemRange g d c l) fs) i p o n post lt h = lt
behind_fields (Field id (Optional w l) fs) i p o n post lt h = lt
behind_fields (Field id (Struct ls) fs) i p o n post lt h = lt

-- a leaf is shown as it is
shown_leaf : (k : LeafKind) (f p b w o : ℕ) (z : _) → shown (spec (kind_of k) f p b w o z)
    ≡ spec (kind_of k) f p b w o z
shown_leaf Flag f p b w o z = refl
shown_leaf (Integer I8) f p b w o z = refl
shown_leaf (Integer I16) f p b w o z = refl
shown_leaf (Integer I32) f p b w o z = refl
shown_leaf (Integer I64) f p b w o z = refl

head_marked : (t : Noted) (sk : Kind) (i p f o e : ℕ) → (tree_group t ≡ 0 → ⊥) → e ≡ i + nodes t
    → marked (shown (head_node t sk i p f o)) e ≡ head_node t sk i p f o
head_marked (Leaf k c) sk i p f o e h q = absurd (h refl)
head_marked (ByteRange t d c) sk i p f o e h q = let s : e
    ≡ suc (suc (suc i)) = omega (arith, q) in ap
    (λ n. spec (kind_of_bytes t) f p (d.bits + c.bits) n o (pos 0)) s
head_marked (ItemRange g d c l) sk i p f o e h q = let s : e ≡ suc (suc (suc i))
    + nodes l = omega (arith, q) in ap (λ n. spec (kind_of_holder g) f p (d.bits + c.bits) n o (pos 0)) s
head_marked (Optional w l) sk i p f o e h q = let s : e ≡ suc (suc i)
    + nodes l = omega (arith, q) in ap (λ n. spec kinds.Optional f p (w.bits + inline l) n o (pos 0)) s
head_marked (Struct ls) sk i p f o e h q = let s : e ≡ suc i
    + nodes_all ls = omega (arith, q) in ap (λ n. spec sk f p (inline_all ls) n o (pos 0)) s

-- ---- a part

abbrev pub given_head : {ns : List NodeSpec} {i : ℕ} → Unmarked ns i → NodeSpec
given_head g = shown (head_node g.tree g.kind g.number g.parent g.field g.offset)

pub given_split : {ns : List NodeSpec} {i : ℕ} (g : Unmarked ns i) → ns ≡ g.pre
    ++ (given_head g ∷ (map shown (rest_nodes g.tree g.number) ++ g.post))
given_split {ns} {i} g = g.whole
    ∙ ap (λ r. g.pre ++ (map shown r ++ g.post))
    (split_nodes g.tree g.kind g.number g.parent g.field g.offset)

pub unmarked_in : {ns : List NodeSpec} {i : ℕ} → Unmarked ns i → i < length ns
unmarked_in {ns} {i} g = seam_in ns g.pre (map shown (rest_nodes g.tree g.number) ++ g.post) (given_head g) i
    g.long (given_split g)

given_read : {ns : List NodeSpec} {i : ℕ} (g : Unmarked ns i) (d : NodeSpec) → get_or ns i d ≡ given_head g
given_read {ns} {i} g d = seam_get ns g.pre (map shown (rest_nodes g.tree g.number) ++ g.post) (given_head g)
    d i g.long (given_split g)

leaf_group : (k : Kind) → is_leaf_kind k ≡ true → (group k ≡ 0) ⊎ (group k ≡ 5)
leaf_group kinds.Flag h = inl refl
leaf_group kinds.I8 h = inl refl
leaf_group kinds.I16 h = inl refl
leaf_group kinds.I32 h = inl refl
leaf_group kinds.I64 h = inl refl
leaf_group kinds.Size h = inr refl
leaf_group kinds.Text h = absurd cc
leaf_group kinds.Bytes h = absurd cc
leaf_group kinds.List h = absurd cc
leaf_group kinds.Set h = absurd cc
leaf_group kinds.Map h = absurd cc
leaf_group kinds.Pair h = absurd cc
leaf_group kinds.Struct h = absurd cc
leaf_group kinds.Optional h = absurd cc

pub group_given : {ns : List NodeSpec} {i : ℕ} (g : Unmarked ns i) → group (given_head g).kind
    ≡ tree_group g.tree
group_given g = head_group g.tree (head_node g.tree g.kind g.number g.parent g.field g.offset) g.number
    (is_head g.tree g.kind g.struct g.number g.parent g.field g.offset)

-- a leaf is as it is kept
pub leaf_marked : {ns : List NodeSpec} {i : ℕ} (g : Unmarked ns i) (d : NodeSpec)
    → is_leaf_kind (get_or ns i d).kind ≡ true → Marked g ns (i + 1)
leaf_marked {ns} {i} g d h = go g.tree g.whole
    (leaf_group (given_head g).kind (ap (λ (x : NodeSpec). is_leaf_kind x.kind) (sym (given_read g d)) ∙ h))
    (group_given g)
  where
    go : (t : Noted) → ns ≡ g.pre ++ (map shown (nodes_of t g.kind g.number g.parent g.field g.offset)
        ++ g.post) → (group (given_head g).kind ≡ 0) ⊎ (group (given_head g).kind ≡ 5)
        → group (given_head g).kind ≡ tree_group t
        → (ns ≡ g.pre ++ (nodes_of t g.kind g.number g.parent g.field g.offset ++ g.post))
        × (i + 1 ≡ i + nodes t)
    go (Leaf k c) w o e = (
      w ∙ ap (λ x. g.pre ++ (x ∷ g.post))
          (shown_leaf k g.field g.parent c.bits c.wide g.offset c.base),
      refl,
    )
    go (ByteRange t d c) w (inl o) e = absurd (omega arith)
    go (ByteRange t d c) w (inr o) e = absurd (omega arith)
    go (ItemRange k d c l) w (inl o) e = absurd (omega arith)
    go (ItemRange k d c l) w (inr o) e = absurd (omega arith)
    go (Optional x l) w (inl o) e = absurd (omega arith)
    go (Optional x l) w (inr o) e = absurd (omega arith)
    go (Struct ls) w (inl o) e = absurd (omega arith)
    go (Struct ls) w (inr o) e = absurd (omega arith)

leaf_kind_at : (k : Kind) → group k ≡ 0 → is_leaf_kind k ≡ true
leaf_kind_at kinds.Flag h = refl
leaf_kind_at kinds.I8 h = refl
leaf_kind_at kinds.I16 h = refl
leaf_kind_at kinds.I32 h = refl
leaf_kind_at kinds.I64 h = refl
leaf_kind_at kinds.Size h = absurd (omega arith)
leaf_kind_at kinds.Text h = absurd (omega arith)
leaf_kind_at kinds.Bytes h = absurd (omega arith)
leaf_kind_at kinds.List h = absurd (omega arith)
leaf_kind_at kinds.Set h = absurd (omega arith)
leaf_kind_at kinds.Map h = absurd (omega arith)
leaf_kind_at kinds.Pair h = absurd (omega arith)
leaf_kind_at kinds.Struct h = absurd (omega arith)
leaf_kind_at kinds.Optional h = absurd (omega arith)

pub not_leaf : {ns : List NodeSpec} {i : ℕ} (g : Unmarked ns i) (d : NodeSpec)
    → is_leaf_kind (get_or ns i d).kind ≡ false → is_leaf_kind (given_head g).kind ≡ false
not_leaf g d h = ap (λ (x : NodeSpec). is_leaf_kind x.kind) (sym (given_read g d)) ∙ h

abbrev pub unmarked_below : {ns : List NodeSpec} {i : ℕ} (g : Unmarked ns i) (d : NodeSpec)
    → is_leaf_kind (get_or ns i d).kind ≡ false → UnmarkedBelow ns i
unmarked_below {ns} {i} g d h = record {
  tree = g.tree;
  number = g.number;
  head = given_head g;
  pre = g.pre;
  post = g.post;
  alike = group_given g;
  some = not_leaf g d h;
  is = g.is;
  long = g.long;
  whole = given_split g;
  behind = g.behind;
  few = g.few;
}

-- the part once what is below its node is marked
pub part_marked : {ns : List NodeSpec} {i : ℕ} (g : Unmarked ns i) (d : NodeSpec)
    (h : is_leaf_kind (get_or ns i d).kind ≡ false) (ms : List NodeSpec) (e : ℕ) (x : NodeSpec)
    → BelowMarked (unmarked_below g d h) ms e → Marked g (slice_set ms i (marked (get_or ms i x) e)) e
part_marked {ns} {i} g d h ms e x done =
    let head = given_head g in
    let more = rest_nodes g.tree g.number ++ g.post in
    let same : get_or ms i x ≡ head = seam_get ms g.pre more head x i g.long done.0 in
    let inner : tree_group g.tree ≡ 0
    → ⊥ = λ z. let y = leaf_kind_at head.kind (group_given g ∙ z) in let b : true ≡ false = sym y
    ∙ not_leaf g d h in absurd cc in
    let end : e ≡ g.number + nodes g.tree = omega (arith, done.1, g.is) in (
      ap (λ y. slice_set ms i (marked y e)) same ∙ seam_set ms g.pre more head (marked head e) i g.long done.0
          ∙ ap (λ y. g.pre ++ (y ∷ more)) (head_marked g.tree g.kind g.number g.parent g.field g.offset e
          inner end)
          ∙ sym (ap (λ r. g.pre
          ++ (r ++ g.post)) (split_nodes g.tree g.kind g.number g.parent g.field g.offset)),
      done.1,
    )

pub unmarked_end : {ns : List NodeSpec} {i : ℕ} (g : Unmarked ns i) → i + nodes g.tree ≤ length ns
unmarked_end {ns} {i} g =
    let mine = nodes_of g.tree g.kind g.number g.parent g.field g.offset in
    omega (
      arith,
      ap length g.whole,
      length-append g.pre (map shown mine ++ g.post),
      length-append
          (map shown mine) g.post,
      shown_length mine,
      length_nodes g.tree g.kind g.number g.parent g.field
          g.offset,
      g.long,
    )

-- an inner node that is no range and no optional is a struct
pub struct_left : (k : Kind) → is_leaf_kind k ≡ false → (k ≡ kinds.Text → ⊥) → (k ≡ kinds.Bytes → ⊥)
    → (k ≡ kinds.List → ⊥) → (k ≡ kinds.Set → ⊥) → (k ≡ kinds.Map → ⊥) → (k ≡ kinds.Optional → ⊥) → group k
    ≡ 4
struct_left kinds.Struct h a b c d e f = refl
struct_left kinds.Pair h a b c d e f = refl
struct_left kinds.Text h a b c d e f = absurd (a refl)
struct_left kinds.Bytes h a b c d e f = absurd (b refl)
struct_left kinds.List h a b c d e f = absurd (c refl)
struct_left kinds.Set h a b c d e f = absurd (d refl)
struct_left kinds.Map h a b c d e f = absurd (e refl)
struct_left kinds.Optional h a b c d e f = absurd (f refl)
struct_left kinds.Flag h a b c d e f = absurd cc
struct_left kinds.I8 h a b c d e f = absurd cc
struct_left kinds.I16 h a b c d e f = absurd cc
struct_left kinds.I32 h a b c d e f = absurd cc
struct_left kinds.I64 h a b c d e f = absurd cc
struct_left kinds.Size h a b c d e f = absurd cc

-- ---- what is below a node

pub below_head : {ns : List NodeSpec} {i : ℕ} (g : UnmarkedBelow ns i) (d : NodeSpec) → get_or ns i d ≡ g.head
below_head {ns} {i} g d = seam_get ns g.pre (map shown (rest_nodes g.tree g.number) ++ g.post) g.head d i
    g.long g.whole

pub below_within : {ns : List NodeSpec} {i : ℕ} → UnmarkedBelow ns i → i < length ns
below_within {ns} {i} g = seam_in ns g.pre (map shown (rest_nodes g.tree g.number) ++ g.post) g.head i g.long
    g.whole

pub below_group : {ns : List NodeSpec} {i : ℕ} (g : UnmarkedBelow ns i) (d : NodeSpec)
    → group (get_or ns i d).kind ≡ tree_group g.tree
below_group g d = ap (λ (x : NodeSpec). group x.kind) (below_head g d) ∙ g.alike

pub below_struct : {ns : List NodeSpec} {i : ℕ} (g : UnmarkedBelow ns i) (d : NodeSpec)
    → let k = (get_or ns i d).kind in
    (k ≡ kinds.Text → ⊥) → (k ≡ kinds.Bytes → ⊥) → (k ≡ kinds.List → ⊥) → (k ≡ kinds.Set → ⊥)
    → (k ≡ kinds.Map → ⊥) → (k ≡ kinds.Optional → ⊥) → tree_group g.tree ≡ 4
below_struct {ns} {i} g x a b c d e f =
    sym (below_group g x) ∙ struct_left (get_or ns i x).kind
    (ap (λ (y : NodeSpec). is_leaf_kind y.kind) (below_head g x) ∙ g.some) a b c d e f

pub bytes_marked : {ns : List NodeSpec} {i : ℕ} (g : UnmarkedBelow ns i) → tree_group g.tree ≡ 1
    → BelowMarked g ns (i + 3)
bytes_marked {ns} {i} g e = go g.tree e g.whole
  where
    go : (t : Noted) → tree_group t ≡ 1 → ns ≡ g.pre
        ++ (g.head ∷ (map shown (rest_nodes t g.number) ++ g.post))
        → (ns ≡ g.pre ++ (g.head ∷ (rest_nodes t g.number ++ g.post))) × (i + 3 ≡ i + nodes t)
    go (ByteRange t d c) e w = (w, refl)
    go (Leaf k c) e w = absurd (omega arith)
    go (ItemRange h d c l) e w = absurd (omega arith)
    go (Optional x l) e w = absurd (omega arith)
    go (Struct ls) e w = absurd (omega arith)

-- one part below: the item of a range, or the value of an optional
pub record PartBelow (ns pre post : List NodeSpec) (x : NodeSpec) (i n k : ℕ) (t : Noted) : Type 0 where
  pub part : Unmarked ns (i + k)
  pub done : (ms : List NodeSpec) (e : ℕ) → Marked part ms e → (ms ≡ pre ++ (x ∷ (rest_nodes t n ++ post)))
      × (e ≡ i + nodes t)

range_part : (ns pre post : List NodeSpec) (x : NodeSpec) (i n : ℕ) (t : Noted) → n ≡ i → length pre ≡ i
    → tree_group t ≡ 2 → Behind n post → length ns ≤ 4096
    → ns ≡ pre ++ (x ∷ (map shown (rest_nodes t n) ++ post)) → PartBelow ns pre post x i n 3 t
range_part ns pre post x i n (ItemRange h d c l) e long k b few w =
    let front = x ∷ size 1 n d 0 ∷ size 2 n c d.bits ∷ [] in
    record {
      part = record {
        tree = l;
        kind = item_struct h;
        struct = item_is_struct h;
        number = suc (suc (suc n));
        parent = n;
        field = 3;
        offset = 0;
        pre = pre ++ front;
        post = post;
        is = omega arith;
        long = omega (arith, length-append pre front);
        whole = w ∙ sym (append_assoc pre front (map shown
            (nodes_of l (item_struct h) (suc (suc (suc n))) n 3 0) ++ post));
        behind = behind_more n (suc (suc (suc n))) post (omega arith) b;
        few = few;
      };
      done = λ ms q m. (
        m.0 ∙ append_assoc pre front
            (nodes_of l (item_struct h) (suc (suc (suc n))) n 3 0 ++ post),
        omega (arith, m.1),
      );
    }
range_part ns pre post x i n (Leaf y z) e long k b few w = absurd (omega arith)
range_part ns pre post x i n (ByteRange y z c) e long k b few w = absurd (omega arith)
range_part ns pre post x i n (Optional y l) e long k b few w = absurd (omega arith)
range_part ns pre post x i n (Struct ls) e long k b few w = absurd (omega arith)

optional_part : (ns pre post : List NodeSpec) (x : NodeSpec) (i n : ℕ) (t : Noted) → n ≡ i → length pre ≡ i
    → tree_group t ≡ 3 → Behind n post → length ns ≤ 4096
    → ns ≡ pre ++ (x ∷ (map shown (rest_nodes t n) ++ post)) → PartBelow ns pre post x i n 2 t
optional_part ns pre post x i n (Optional y l) e long k b few w =
    let front = x ∷ spec kinds.Flag 1 n y.bits y.wide 0 (pos 0) ∷ [] in
    record {
      part = record {
        tree = l;
        kind = kinds.Struct;
        struct = tt;
        number = suc (suc n);
        parent = n;
        field = 2;
        offset = y.bits;
        pre = pre ++ front;
        post = post;
        is = omega arith;
        long = omega (arith, length-append pre front);
        whole = w ∙ sym (append_assoc pre front (map shown (nodes_of l kinds.Struct (suc (suc n)) n 2 y.bits)
            ++ post));
        behind = behind_more n (suc (suc n)) post (omega arith) b;
        few = few;
      };
      done = λ ms q h. (
        h.0 ∙ append_assoc pre front
            (nodes_of l kinds.Struct (suc (suc n)) n 2 y.bits ++ post),
        omega (arith, h.1),
      );
    }
optional_part ns pre post x i n (Leaf y z) e long k b few w = absurd (omega arith)
optional_part ns pre post x i n (ByteRange y z c) e long k b few w = absurd (omega arith)
optional_part ns pre post x i n (ItemRange y z c l) e long k b few w = absurd (omega arith)
optional_part ns pre post x i n (Struct ls) e long k b few w = absurd (omega arith)

pub item_below : {ns : List NodeSpec} {i : ℕ} (g : UnmarkedBelow ns i) → tree_group g.tree ≡ 2
    → PartBelow ns g.pre g.post g.head i g.number 3 g.tree
item_below {ns} {i} g e = range_part ns g.pre g.post g.head i g.number g.tree g.is g.long e g.behind g.few
    g.whole

pub inner_below : {ns : List NodeSpec} {i : ℕ} (g : UnmarkedBelow ns i) → tree_group g.tree ≡ 3
    → PartBelow ns g.pre g.post g.head i g.number 2 g.tree
inner_below {ns} {i} g e = optional_part ns g.pre g.post g.head i g.number g.tree g.is g.long e g.behind g.few
    g.whole

pub record FieldsBelow (ns pre post : List NodeSpec) (x : NodeSpec) (i n : ℕ) (t : Noted) : Type 0 where
  pub fields : UnmarkedFields ns i
  pub done : (ms : List NodeSpec) (e : ℕ) → FieldsMarked fields ms e
      → (ms ≡ pre ++ (x ∷ (rest_nodes t n ++ post))) × (e ≡ i + nodes t)

struct_part : (ns pre post : List NodeSpec) (x : NodeSpec) (i n : ℕ) (t : Noted) → n ≡ i → length pre ≡ i
    → tree_group t ≡ 4 → Behind n post → length ns ≤ 4096
    → ns ≡ pre ++ (x ∷ (map shown (rest_nodes t n) ++ post)) → FieldsBelow ns pre post x i n t
struct_part ns pre post x i n (Struct fs) e long k b few w = record {
  fields = record {
    fields = fs;
    number = n;
    pre = pre ++ x ∷ [];
    post = post;
    is = e;
    long = omega (arith, length-append pre (x ∷ []));
    whole = w ∙ sym (append_assoc pre (x ∷ []) (map shown (nodes_of_all fs (suc n) n 0) ++ post));
    behind = b;
    few = few;
  };
  done = λ ms q h. (
    h.0 ∙ append_assoc pre (x ∷ []) (nodes_of_all fs (suc n) n 0 ++ post),
    omega
        (arith, h.1),
  );
}
struct_part ns pre post x i n (Leaf y z) e long k b few w = absurd (omega arith)
struct_part ns pre post x i n (ByteRange y z c) e long k b few w = absurd (omega arith)
struct_part ns pre post x i n (ItemRange y z c l) e long k b few w = absurd (omega arith)
struct_part ns pre post x i n (Optional y l) e long k b few w = absurd (omega arith)

pub fields_below : {ns : List NodeSpec} {i : ℕ} (g : UnmarkedBelow ns i) → tree_group g.tree ≡ 4
    → FieldsBelow ns g.pre g.post g.head i g.number g.tree
fields_below {ns} {i} g e = struct_part ns g.pre g.post g.head i g.number g.tree g.is g.long e g.behind g.few
    g.whole

-- ---- fields

-- what is left to mark of the fields of a struct
pub record FieldsToMark {ns : List NodeSpec} {i : ℕ} (g : UnmarkedFields ns i) (cur : List NodeSpec)
    (next : ℕ) : Type 0 where
  pub fs : AllNoted
  pub number : ℕ
  pub offset : ℕ
  pub pre : List NodeSpec
  pub is : number ≡ next
  pub long : length pre ≡ next
  pub low : g.number < number
  pub whole : cur ≡ pre ++ (map shown (nodes_of_all fs number g.number offset) ++ g.post)
  pub few : length cur ≤ 4096
  pub ends : next + nodes_all fs ≡ suc i + nodes_all g.fields
  pub rest : (ms : List NodeSpec) → ms ≡ pre ++ (nodes_of_all fs number g.number offset ++ g.post) → ms
      ≡ g.pre ++ (nodes_of_all g.fields (suc g.number) g.number 0 ++ g.post)

pub mark_start : {ns : List NodeSpec} {i : ℕ} (g : UnmarkedFields ns i) → FieldsToMark g ns (i + 1)
mark_start {ns} {i} g = record {
  fs = g.fields;
  number = suc g.number;
  offset = 0;
  pre = g.pre;
  is = omega (arith, g.is);
  long = omega (arith, g.long);
  low = omega arith;
  whole = g.whole;
  few = g.few;
  ends = omega arith;
  rest = λ ms h. h;
}

-- the next field
pub record NextField {ns : List NodeSpec} {i : ℕ} (g : UnmarkedFields ns i) (cur : List NodeSpec)
    (next : ℕ) : Type 0 where
  pub part : Unmarked cur next
  pub after : (ms : List NodeSpec) (e : ℕ) → Marked part ms e → length ms ≡ length cur → FieldsToMark g ms e
  pub later : (ms : List NodeSpec) (e : ℕ) → Marked part ms e → next < e

field_next : {ns : List NodeSpec} {i : ℕ} (g : UnmarkedFields ns i) (cur pre : List NodeSpec) (next n o : ℕ)
    (fs : AllNoted) (d : NodeSpec) → n ≡ next → length pre ≡ next → g.number < n
    → cur ≡ pre ++ (map shown (nodes_of_all fs n g.number o) ++ g.post) → length cur ≤ 4096 → next
    + nodes_all fs ≡ suc i + nodes_all g.fields
    → ((ms : List NodeSpec) → ms ≡ pre ++ (nodes_of_all fs n g.number o ++ g.post) → ms ≡ g.pre
    ++ (nodes_of_all g.fields (suc g.number) g.number 0 ++ g.post))
    → next < length cur → (get_or cur next d).parent ≡ i → NextField g cur next
field_next {ns} {i} g cur pre next n o NoField d e long low w few ends rest lt pa = absurd
    (none g.post g.behind w)
  where
    none : (post : List NodeSpec) → Behind g.number post → cur ≡ pre ++ post → ⊥
    none [] b w = omega (arith, ap length w, length-append pre [])
    none (y ∷ ys) b w =
        let same : get_or cur next d ≡ y = seam_get cur pre ys y d next long w in
        let q : y.parent ≡ i = ap (λ (x : NodeSpec). x.parent) (sym same) ∙ pa in
        omega (arith, b, q, g.is)
field_next {ns} {i} g cur pre next n o (Field id l fs) d e long low w few ends rest lt pa =
    let mine = nodes_of l kinds.Struct n g.number id o in
    let others = nodes_of_all fs (n + nodes l) g.number (o + inline l) in
    let many = length_nodes l kinds.Struct n g.number id o in
    record {
      part = record {
        tree = l;
        kind = kinds.Struct;
        struct = tt;
        number = n;
        parent = g.number;
        field = id;
        offset = o;
        pre = pre;
        post = map shown others ++ g.post;
        is = e;
        long = long;
        whole = w ∙ ap (λ r. pre ++ (r ++ g.post)) (shown_append mine others)
            ∙ ap (λ r. pre ++ r) (append_assoc (map shown mine) (map shown others) g.post);
        behind = behind_fields fs (n + nodes l) g.number (o + inline l) n g.post low g.behind;
        few = few;
      };
      after = λ ms q h same. record {
        fs = fs;
        number = n + nodes l;
        offset = o + inline l;
        pre = pre ++ mine;
        is = omega (arith, h.1, e);
        long = omega (arith, length-append pre mine, many, h.1, long);
        low = omega (arith, low);
        whole = h.0 ∙ sym (append_assoc pre mine (map shown others ++ g.post));
        few = omega (arith, same, few);
        ends = omega (arith, ends, h.1);
        rest = λ ks z. rest ks (z ∙ append_assoc pre mine (others ++ g.post)
            ∙ ap (λ r. pre ++ r) (sym (append_assoc mine others g.post)));
      };
      later = λ ms q h. omega (arith, h.1, some_nodes l);
    }

pub mark_next : {ns : List NodeSpec} {i : ℕ} (g : UnmarkedFields ns i) (cur : List NodeSpec) (next : ℕ)
    (d : NodeSpec) → FieldsToMark g cur next → next < length cur → (get_or cur next d).parent ≡ i
    → NextField g cur next
mark_next g cur next d r lt pa = field_next g cur r.pre next r.number r.offset r.fs d r.is r.long r.low
    r.whole r.few r.ends r.rest lt pa

parent_shown : (l : Noted) (n p f o : ℕ) → (shown (head_node l kinds.Struct n p f o)).parent ≡ p
parent_shown (Leaf k c) n p f o = refl
parent_shown (ByteRange t d c) n p f o = refl
parent_shown (ItemRange g d c l) n p f o = refl
parent_shown (Optional w l) n p f o = refl
parent_shown (Struct ls) n p f o = refl

-- no field is left where the list ends or what follows is no child
pub mark_end : {ns : List NodeSpec} {i : ℕ} (g : UnmarkedFields ns i) (cur : List NodeSpec) (next : ℕ)
    (d : NodeSpec) → FieldsToMark g cur next → (next < length cur → (get_or cur next d).parent ≡ i → ⊥)
    → FieldsMarked g cur next
mark_end {ns} {i} g cur next d r stop = go r.fs r.whole r.ends r.rest
  where
    go : (fs : AllNoted) → cur ≡ r.pre ++ (map shown (nodes_of_all fs r.number g.number r.offset) ++ g.post)
        → next + nodes_all fs ≡ suc i + nodes_all g.fields
        → ((ms : List NodeSpec) → ms ≡ r.pre ++ (nodes_of_all fs r.number g.number r.offset ++ g.post) → ms
        ≡ g.pre ++ (nodes_of_all g.fields (suc g.number) g.number 0 ++ g.post)) → FieldsMarked g cur next
    go NoField w ends rest = (rest cur w, omega (arith, ends))
    go (Field id l fs) w ends rest =
        let mine = nodes_of l kinds.Struct r.number g.number id r.offset in
        let others = nodes_of_all fs (r.number + nodes l) g.number (r.offset + inline l) in
        let h = shown (head_node l kinds.Struct r.number g.number id r.offset) in
        let more = map shown (rest_nodes l r.number) ++ (map shown others ++ g.post) in
        let seam : cur ≡ r.pre ++ (h ∷ more) =
        w ∙ ap (λ z. r.pre ++ (z ++ g.post)) (shown_append mine others)
        ∙ ap (λ z. r.pre ++ z) (append_assoc (map shown mine) (map shown others) g.post)
        ∙ ap (λ z. r.pre ++ (map shown z ++ (map shown others ++ g.post)))
        (split_nodes l kinds.Struct r.number g.number id r.offset) in
        let within : next < length cur = seam_in cur r.pre more h next r.long seam in
        let parent : (get_or cur next d).parent
        ≡ i = ap (λ (x : NodeSpec). x.parent) (seam_get cur r.pre more h d next r.long seam)
        ∙ parent_shown l r.number g.number id r.offset ∙ g.is in
        absurd (stop within parent)
