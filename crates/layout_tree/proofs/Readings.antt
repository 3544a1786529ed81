-- What is read at the nodes of a part.
use Rattle.std.proofs.Common.{◌≡◌, ◌⊎◌, inl, inr, ℕ, ℤ, suc, ◌+◌, ◌≤◌, List, ◌++◌, arith, refl, ap, sym, ◌∙◌}
use Rattle.std.proofs.Common.{length, get_or, subst}
use Rattle.std.proofs.Math.Logic.{∥∥₁_elim}
use Rattle.std.proofs.Math.Bridge.{le_prop}
use Rattle.frozen_model.specs.Trees.{LeafKind, Flag, Integer, I8, I16, I32, I64, Text, Binary, AList, ASet}
use Rattle.frozen_model.specs.Trees.{AMap, Tree, Trees, Leaf, ByteRange, ItemRange, Optional, Struct, NoField}
use Rattle.frozen_model.specs.Trees.{Field, nodes, nodes_all, Part, greatest_bits, greatest_bits_all}
use Rattle.frozen_model.specs.Trees.{IsFormed, AllFormed}
use Rattle.frozen_model.specs.Trees.{IsNarrow, AllNarrow, itself, in_item, in_optional, in_struct, PartAll}
use Rattle.frozen_model.specs.Trees.{in_first, in_later, kinds as kinds_of, kinds_all}
use Rattle.frozen_model.specs.Layouts.{Version, Version1, Version2, Layout, width, stride, strides}
use Rattle.frozen_model.specs.Layouts.{Legal, AllLegal}
use Rattle.frozen_laws.proofs.Limits.{greatest_small}
use Rattle.layout_tree.specs.declared.node.NodeSpec.{NodeSpec}
use Rattle.layout_tree.specs.declared.node.FormVersion.{FormVersion}
use Rattle.layout_tree.specs.declared.node.Kind.{Kind}
use Rattle.layout_tree.specs.declared.node.Kind.TheVariants as kinds
use Rattle.layout_tree.specs.Listing.{Noted, AllNoted, coded, layout_in, layouts_in, inline, inline_all}
use Rattle.layout_tree.specs.Listing.{kind_of, item_struct, nodes_of, tree_of, IsListing, version_of}
use Rattle.layout_tree.specs.Listing.{IsNotedLayout, BasesStand, AllBasesStand}
use Rattle.layout_tree.specs.Reading.{plain, kind_at, IsLeaf, IsRange, IsHolder, IsOptional, distance_width}
use Rattle.layout_tree.specs.Reading.{count_width, isset_width, item_of, base_at}
use Rattle.layout_tree.specs.Segments.{IsStructKind}
use Rattle.layout_tree.proofs.Place.{At, some_nodes, length_nodes}

pub coded_width : (v : Version) (k : LeafKind) (b : ℤ) (w : ℕ) → width (coded v k b w) ≡ w
coded_width v Flag b w = refl
coded_width Version1 (Integer k) b w = refl
coded_width Version2 (Integer k) b w = refl

mutual
  pub stride_inline : (v : Version) (t : Noted) → stride (layout_in v t) ≡ inline t
  stride_inline v (Leaf k c) = coded_width v k c.base c.bits
  stride_inline v (ByteRange t d c) = refl
  stride_inline v (ItemRange h d c l) = refl
  stride_inline v (Optional w l) = ap (λ n. w.bits + n) (stride_inline v l)
  stride_inline v (Struct ls) = strides_inline v ls

  pub strides_inline : (v : Version) (ls : AllNoted) → strides (layouts_in v ls) ≡ inline_all ls
  strides_inline v NoField = refl
  strides_inline v (Field i l ls) = let e = stride_inline v l in let f = strides_inline v ls in cc

mutual
  pub same_nodes : (v : Version) (t : Noted) → nodes (layout_in v t) ≡ nodes t
  same_nodes v (Leaf k c) = refl
  same_nodes v (ByteRange t d c) = refl
  same_nodes v (ItemRange h d c l) = ap (λ n. 3 + n) (same_nodes v l)
  same_nodes v (Optional w l) = ap (λ n. 2 + n) (same_nodes v l)
  same_nodes v (Struct ls) = ap (λ n. 1 + n) (same_nodes_all v ls)

  pub same_nodes_all : (v : Version) (ls : AllNoted) → nodes_all (layouts_in v ls) ≡ nodes_all ls
  same_nodes_all v NoField = refl
  same_nodes_all v (Field i l ls) = let e = same_nodes v l in let f = same_nodes_all v ls in cc

-- ---- a part of a legal layout

mutual
  pub legal_part : (v : Version) {t s : Noted} {i n : ℕ} → Part t i s n → Legal (layout_in v t)
      → Legal (layout_in v s)
  legal_part v itself h = h
  legal_part v (in_item p) h = legal_part v p h.2
  legal_part v (in_optional p) h = legal_part v p h.1
  legal_part v (in_struct p) h = legal_part_all v p h

  pub legal_part_all : (v : Version) {ts : AllNoted} {s : Noted} {i n : ℕ} → PartAll ts i s n
      → AllLegal (layouts_in v ts) → Legal (layout_in v s)
  legal_part_all v (in_first p) h = legal_part v p h.0
  legal_part_all v (in_later p) h = legal_part_all v p h.1

mutual
  pub narrow_part : {A B : Type 0} {t s : Tree A B} {i n : ℕ} → Part t i s n → IsNarrow (kinds_of t)
      → IsNarrow (kinds_of s)
  narrow_part itself h = h
  narrow_part (in_item p) h = narrow_part p h
  narrow_part (in_optional p) h = narrow_part p h.1
  narrow_part (in_struct p) h = narrow_part_all p h.1

  pub narrow_part_all : {A B : Type 0} {ts : Trees A B} {s : Tree A B} {i n : ℕ} → PartAll ts i s n
      → AllNarrow (kinds_all ts) → IsNarrow (kinds_of s)
  narrow_part_all (in_first p) h = narrow_part p h.0
  narrow_part_all (in_later p) h = narrow_part_all p h.1

mutual
  pub formed_part : {A B : Type 0} {t s : Tree A B} {i n : ℕ} → Part t i s n → IsFormed t → IsFormed s
  formed_part itself h = h
  formed_part (in_item p) h = formed_part p h.1
  formed_part (in_optional p) h = formed_part p h.1
  formed_part (in_struct p) h = formed_part_all p h.1

  pub formed_part_all : {A B : Type 0} {ts : Trees A B} {s : Tree A B} {i n : ℕ} → PartAll ts i s n
      → AllFormed ts → IsFormed s
  formed_part_all (in_first p) h = formed_part p h.0
  formed_part_all (in_later p) h = formed_part_all p h.1

mutual
  pub kinds_nodes : {A B : Type 0} (t : Tree A B) → nodes (kinds_of t) ≡ nodes t
  kinds_nodes (Leaf k c) = refl
  kinds_nodes (ByteRange t d c) = refl
  kinds_nodes (ItemRange h d c l) = ap (λ n. 3 + n) (kinds_nodes l)
  kinds_nodes (Optional w l) = ap (λ n. 2 + n) (kinds_nodes l)
  kinds_nodes (Struct ls) = ap (λ n. 1 + n) (kinds_nodes_all ls)

  pub kinds_nodes_all : {A B : Type 0} (ls : Trees A B) → nodes_all (kinds_all ls) ≡ nodes_all ls
  kinds_nodes_all NoField = refl
  kinds_nodes_all (Field i l ls) = let e = kinds_nodes l in let f = kinds_nodes_all ls in cc

mutual
  pub stride_greatest : (v : Version) (t : Noted) → Legal (layout_in v t) → stride (layout_in v t)
      ≤ greatest_bits (kinds_of t)
  stride_greatest v (Leaf k c) h = h
  stride_greatest v (ByteRange t d c) h = omega (arith, h.0, h.1)
  stride_greatest v (ItemRange g d c l) h = omega (arith, h.0, h.1)
  stride_greatest v (Optional w l) h = omega (arith, h.0, stride_greatest v l h.1)
  stride_greatest v (Struct ls) h = strides_greatest v ls h

  pub strides_greatest : (v : Version) (ls : AllNoted) → AllLegal (layouts_in v ls)
      → strides (layouts_in v ls) ≤ greatest_bits_all (kinds_all ls)
  strides_greatest v NoField h = omega arith
  strides_greatest v (Field i l ls) h = omega (arith, stride_greatest v l h.0, strides_greatest v ls h.1)

pub stride_small : (v : Version) (t : Noted) → Legal (layout_in v t) → IsNarrow (kinds_of t)
    → stride (layout_in v t) ≤ 32767
stride_small v (Leaf k c) h n = omega (arith, h, greatest_small k)
stride_small v (ByteRange t d c) h n = omega (arith, h.0, h.1)
stride_small v (ItemRange g d c l) h n = omega (arith, h.0, h.1)
stride_small v (Optional w l) h n = omega (arith, h.0, stride_greatest v l h.1, n.0)
stride_small v (Struct ls) h n = omega (arith, strides_greatest v ls h, n.0)

-- ---- what the invariant says of a part

pub record Sound (e : FormVersion) (s : Noted) : Type 0 where
  pub legal : Legal (layout_in (version_of e) s)
  pub narrow : IsNarrow (kinds_of s)

sound_part : (e : FormVersion) {t s : Noted} {n : ℕ} → Part t 0 s n → IsNotedLayout e t → Sound e s
sound_part e p h = record {
  legal = legal_part (version_of e) p h.legal;
  narrow = narrow_part p h.kind_tree.narrow;
}

-- a bound by what the invariant says
pub bound : (e : FormVersion) (t s : Noted) (n : ℕ) (a b : ℕ) → ∥ IsNotedLayout e t ∥₁ → Part t 0 s n
    → (Sound e s → a ≤ b) → a ≤ b
bound e t s n a b h p f = ∥∥₁_elim h le_prop (λ x. f (sound_part e p x))

pub few_nodes : (e : FormVersion) (t : Noted) → ∥ IsNotedLayout e t ∥₁ → nodes t ≤ 4096
few_nodes e t h = ∥∥₁_elim h le_prop (λ x. omega (arith, x.kind_tree.few, kinds_nodes t))

mutual
  pub bases_part : (v : Version) {t s : Noted} {i n : ℕ} → Part t i s n → BasesStand v t → BasesStand v s
  bases_part v itself h = h
  bases_part v (in_item p) h = bases_part v p h
  bases_part v (in_optional p) h = bases_part v p h
  bases_part v (in_struct p) h = bases_part_all v p h

  bases_part_all : (v : Version) {ts : AllNoted} {s : Noted} {i n : ℕ} → PartAll ts i s n
      → AllBasesStand v ts → BasesStand v s
  bases_part_all v (in_first p) h = bases_part v p h.0
  bases_part_all v (in_later p) h = bases_part_all v p h.1

-- ---- reads

pub read_first : {ns : List NodeSpec} {s : Noted} {n : ℕ} (a : At ns s n) → (d : NodeSpec) → get_or ns n d
    ≡ get_or (nodes_of s a.kind n a.parent a.field a.offset ++ a.post) 0 d
read_first {ns} {s} {n} a x = let e : n ≡ n + 0 = omega arith in ap (λ j. get_or ns j x) e ∙ a.read 0 x

plain_struct : (k : Kind) → IsStructKind k → plain k ≡ kinds.Struct
plain_struct kinds.Struct h = refl
plain_struct kinds.Pair h = refl
plain_struct kinds.Flag h = absurd h
plain_struct kinds.I8 h = absurd h
plain_struct kinds.I16 h = absurd h
plain_struct kinds.I32 h = absurd h
plain_struct kinds.I64 h = absurd h
plain_struct kinds.Text h = absurd h
plain_struct kinds.Bytes h = absurd h
plain_struct kinds.List h = absurd h
plain_struct kinds.Set h = absurd h
plain_struct kinds.Map h = absurd h
plain_struct kinds.Optional h = absurd h
plain_struct kinds.Size h = absurd h

plain_leaf : (k : LeafKind) → plain (kind_of k) ≡ kind_of k
plain_leaf Flag = refl
plain_leaf (Integer I8) = refl
plain_leaf (Integer I16) = refl
plain_leaf (Integer I32) = refl
plain_leaf (Integer I64) = refl

head_kind : (v : Version) (s : Noted) (sk : Kind) → IsStructKind sk
    → (i p f o : ℕ) (rest : List NodeSpec) (d : NodeSpec)
    → plain (get_or (nodes_of s sk i p f o ++ rest) 0 d).kind ≡ kind_at (layout_in v s)
head_kind v (Leaf k c) sk h i p f o rest x = plain_leaf k
head_kind v (ByteRange Text d c) sk h i p f o rest x = refl
head_kind v (ByteRange Binary d c) sk h i p f o rest x = refl
head_kind v (ItemRange AList d c l) sk h i p f o rest x = refl
head_kind v (ItemRange ASet d c l) sk h i p f o rest x = refl
head_kind v (ItemRange AMap d c l) sk h i p f o rest x = refl
head_kind v (Optional w l) sk h i p f o rest x = refl
head_kind v (Struct ls) sk h i p f o rest x = plain_struct sk h

pub kind_read : (v : Version) {ns : List NodeSpec} {s : Noted} {n : ℕ} → At ns s n → (d : NodeSpec)
    → plain (get_or ns n d).kind ≡ kind_at (layout_in v s)
kind_read v {ns} {s} {n} a d = ap (λ x. plain x.kind) (read_first a d)
    ∙ head_kind v s a.kind a.struct n a.parent a.field a.offset a.post d

head_bits : (s : Noted) (sk : Kind) (i p f o : ℕ) (rest : List NodeSpec) (d : NodeSpec)
    → (get_or (nodes_of s sk i p f o ++ rest) 0 d).bits ≡ inline s
head_bits (Leaf k c) sk i p f o rest x = refl
head_bits (ByteRange t d c) sk i p f o rest x = refl
head_bits (ItemRange g d c l) sk i p f o rest x = refl
head_bits (Optional w l) sk i p f o rest x = refl
head_bits (Struct ls) sk i p f o rest x = refl

pub bits_read : (v : Version) {ns : List NodeSpec} {s : Noted} {n : ℕ} → At ns s n → (d : NodeSpec)
    → (get_or ns n d).bits ≡ stride (layout_in v s)
bits_read v {ns} {s} {n} a d = ap (λ x. x.bits) (read_first a d)
    ∙ head_bits s a.kind n a.parent a.field a.offset a.post d ∙ sym (stride_inline v s)

-- a node with nodes below it keeps the number after them
abbrev pub IsBranch : Kind → Type 0
IsBranch kinds.Text = Unit {0}
IsBranch kinds.Bytes = Unit {0}
IsBranch kinds.List = Unit {0}
IsBranch kinds.Set = Unit {0}
IsBranch kinds.Map = Unit {0}
IsBranch kinds.Pair = Unit {0}
IsBranch kinds.Struct = Unit {0}
IsBranch kinds.Optional = Unit {0}
IsBranch _ = ⊥

abbrev pub IsLeafKind : Kind → Type 0
IsLeafKind kinds.Flag = Unit {0}
IsLeafKind kinds.I8 = Unit {0}
IsLeafKind kinds.I16 = Unit {0}
IsLeafKind kinds.I32 = Unit {0}
IsLeafKind kinds.I64 = Unit {0}
IsLeafKind kinds.Size = Unit {0}
IsLeafKind _ = ⊥

-- at a tip the subtree is one node; at a branch its end is kept
abbrev pub PastAt : Kind → ℕ → ℕ → ℕ → Type 0
PastAt kinds.Flag n w m = m ≡ 1
PastAt kinds.I8 n w m = m ≡ 1
PastAt kinds.I16 n w m = m ≡ 1
PastAt kinds.I32 n w m = m ≡ 1
PastAt kinds.I64 n w m = m ≡ 1
PastAt kinds.Size n w m = m ≡ 1
PastAt _ n w m = w ≡ n + m

past_struct : (k : Kind) → IsStructKind k → (n w m : ℕ) → w ≡ n + m → PastAt k n w m
past_struct kinds.Struct h n w m e = e
past_struct kinds.Pair h n w m e = e
past_struct kinds.Flag h n w m e = absurd h
past_struct kinds.I8 h n w m e = absurd h
past_struct kinds.I16 h n w m e = absurd h
past_struct kinds.I32 h n w m e = absurd h
past_struct kinds.I64 h n w m e = absurd h
past_struct kinds.Text h n w m e = absurd h
past_struct kinds.Bytes h n w m e = absurd h
past_struct kinds.List h n w m e = absurd h
past_struct kinds.Set h n w m e = absurd h
past_struct kinds.Map h n w m e = absurd h
past_struct kinds.Optional h n w m e = absurd h
past_struct kinds.Size h n w m e = absurd h

pub head_past : (s : Noted) (sk : Kind) → IsStructKind sk
    → (i p f o : ℕ) (rest : List NodeSpec) (d : NodeSpec)
    → let x = get_or (nodes_of s sk i p f o ++ rest) 0 d in PastAt x.kind i x.wide (nodes s)
head_past (Leaf Flag c) sk h i p f o rest x = refl
head_past (Leaf (Integer I8) c) sk h i p f o rest x = refl
head_past (Leaf (Integer I16) c) sk h i p f o rest x = refl
head_past (Leaf (Integer I32) c) sk h i p f o rest x = refl
head_past (Leaf (Integer I64) c) sk h i p f o rest x = refl
head_past (ByteRange Text d c) sk h i p f o rest x = omega arith
head_past (ByteRange Binary d c) sk h i p f o rest x = omega arith
head_past (ItemRange AList d c l) sk h i p f o rest x = omega arith
head_past (ItemRange ASet d c l) sk h i p f o rest x = omega arith
head_past (ItemRange AMap d c l) sk h i p f o rest x = omega arith
head_past (Optional w l) sk h i p f o rest x = omega arith
head_past (Struct ls) sk h i p f o rest x = past_struct sk h i (suc i + nodes_all ls) (1 + nodes_all ls)
    (omega arith)

pub past_read : {ns : List NodeSpec} {s : Noted} {n : ℕ} → At ns s n → (d : NodeSpec)
    → PastAt (get_or ns n d).kind n (get_or ns n d).wide (nodes s)
past_read {ns} {s} {n} a d = subst (λ (x : NodeSpec). PastAt x.kind n x.wide (nodes s)) (sym (read_first a d))
    (head_past s a.kind a.struct n a.parent a.field a.offset a.post d)

head_distance : (v : Version) (s : Noted) (sk : Kind) (i p f o : ℕ) (rest : List NodeSpec) (d : NodeSpec)
    → IsRange (layout_in v s) → (get_or (nodes_of s sk i p f o ++ rest) 1 d).bits
    ≡ distance_width (layout_in v s)
head_distance v (Leaf k c) sk i p f o rest x h = absurd h
head_distance v (ByteRange t d c) sk i p f o rest x h = refl
head_distance v (ItemRange g d c l) sk i p f o rest x h = refl
head_distance v (Optional w l) sk i p f o rest x h = absurd h
head_distance v (Struct ls) sk i p f o rest x h = absurd h

head_count : (v : Version) (s : Noted) (sk : Kind) (i p f o : ℕ) (rest : List NodeSpec) (d : NodeSpec)
    → IsRange (layout_in v s) → (get_or (nodes_of s sk i p f o ++ rest) 2 d).bits
    ≡ count_width (layout_in v s)
head_count v (Leaf k c) sk i p f o rest x h = absurd h
head_count v (ByteRange t d c) sk i p f o rest x h = refl
head_count v (ItemRange g d c l) sk i p f o rest x h = refl
head_count v (Optional w l) sk i p f o rest x h = absurd h
head_count v (Struct ls) sk i p f o rest x h = absurd h

head_isset : (v : Version) (s : Noted) (sk : Kind) (i p f o : ℕ) (rest : List NodeSpec) (d : NodeSpec)
    → IsOptional (layout_in v s) → (get_or (nodes_of s sk i p f o ++ rest) 1 d).bits
    ≡ isset_width (layout_in v s)
head_isset v (Leaf k c) sk i p f o rest x h = absurd h
head_isset v (ByteRange t d c) sk i p f o rest x h = absurd h
head_isset v (ItemRange g d c l) sk i p f o rest x h = absurd h
head_isset v (Optional w l) sk i p f o rest x h = refl
head_isset v (Struct ls) sk i p f o rest x h = absurd h

head_item : (v : Version) (s : Noted) (sk : Kind) (i p f o : ℕ) (rest : List NodeSpec) (d : NodeSpec)
    → IsHolder (layout_in v s) → (get_or (nodes_of s sk i p f o ++ rest) 3 d).bits
    ≡ stride (item_of (layout_in v s))
head_item v (Leaf k c) sk i p f o rest x h = absurd h
head_item v (ByteRange t d c) sk i p f o rest x h = absurd h
head_item v (ItemRange g d c l) sk i p f o rest x h = head_bits l (item_struct g) (suc (suc (suc i))) i 3 0
    rest x ∙ sym (stride_inline v l)
head_item v (Optional w l) sk i p f o rest x h = absurd h
head_item v (Struct ls) sk i p f o rest x h = absurd h

pub distance_read : (v : Version) {ns : List NodeSpec} {s : Noted} {n : ℕ} → At ns s n → (d : NodeSpec)
    → IsRange (layout_in v s) → (get_or ns (n + 1) d).bits ≡ distance_width (layout_in v s)
distance_read v {ns} {s} {n} a d h = ap (λ x. x.bits) (a.read 1 d)
    ∙ head_distance v s a.kind n a.parent a.field a.offset a.post d h

pub count_read : (v : Version) {ns : List NodeSpec} {s : Noted} {n : ℕ} → At ns s n → (d : NodeSpec)
    → IsRange (layout_in v s) → (get_or ns (n + 2) d).bits ≡ count_width (layout_in v s)
count_read v {ns} {s} {n} a d h = ap (λ x. x.bits) (a.read 2 d)
    ∙ head_count v s a.kind n a.parent a.field a.offset a.post d h

pub isset_read : (v : Version) {ns : List NodeSpec} {s : Noted} {n : ℕ} → At ns s n → (d : NodeSpec)
    → IsOptional (layout_in v s) → (get_or ns (n + 1) d).bits ≡ isset_width (layout_in v s)
isset_read v {ns} {s} {n} a d h = ap (λ x. x.bits) (a.read 1 d)
    ∙ head_isset v s a.kind n a.parent a.field a.offset a.post d h

pub item_read : (v : Version) {ns : List NodeSpec} {s : Noted} {n : ℕ} → At ns s n → (d : NodeSpec)
    → IsHolder (layout_in v s) → (get_or ns (n + 3) d).bits ≡ stride (item_of (layout_in v s))
item_read v {ns} {s} {n} a d h = ap (λ x. x.bits) (a.read 3 d)
    ∙ head_item v s a.kind n a.parent a.field a.offset a.post d h

pub base_read : (v : Version) {ns : List NodeSpec} {s : Noted} {n : ℕ} → At ns s n → (d : NodeSpec)
    → BasesStand v s → (get_or ns n d).base ≡ base_at (layout_in v s)
base_read v {ns} {s} {n} a d h = ap (λ x. x.base) (read_first a d)
    ∙ go s v n a.kind a.parent a.field a.offset h
  where
    go : (s : Noted) (v : Version) (i : ℕ) (sk : Kind) (p f o : ℕ) → BasesStand v s
        → (get_or (nodes_of s sk i p f o ++ a.post) 0 d).base ≡ base_at (layout_in v s)
    go (Leaf Flag c) v i sk p f o h = h
    go (Leaf (Integer j) c) Version1 i sk p f o h = h
    go (Leaf (Integer j) c) Version2 i sk p f o h = refl
    go (ByteRange t x c) v i sk p f o h = refl
    go (ItemRange g x c l) v i sk p f o h = refl
    go (Optional x l) v i sk p f o h = refl
    go (Struct ls) v i sk p f o h = refl

-- ---- how many nodes a part has at least

pub range_nodes : (v : Version) (s : Noted) → IsRange (layout_in v s) → 3 ≤ nodes s
range_nodes v (Leaf k c) h = absurd h
range_nodes v (ByteRange t d c) h = omega arith
range_nodes v (ItemRange g d c l) h = omega arith
range_nodes v (Optional w l) h = absurd h
range_nodes v (Struct ls) h = absurd h

pub holder_nodes : (v : Version) (s : Noted) → IsHolder (layout_in v s) → 4 ≤ nodes s
holder_nodes v (Leaf k c) h = absurd h
holder_nodes v (ByteRange t d c) h = absurd h
holder_nodes v (ItemRange g d c l) h = omega (arith, some_nodes l)
holder_nodes v (Optional w l) h = absurd h
holder_nodes v (Struct ls) h = absurd h

pub optional_nodes : (v : Version) (s : Noted) → IsOptional (layout_in v s) → 3 ≤ nodes s
optional_nodes v (Leaf k c) h = absurd h
optional_nodes v (ByteRange t d c) h = absurd h
optional_nodes v (ItemRange g d c l) h = absurd h
optional_nodes v (Optional w l) h = omega (arith, some_nodes l)
optional_nodes v (Struct ls) h = absurd h

-- ---- bounds on what is read

pub distance_small : (l : Layout) → Legal l → IsRange l → distance_width l ≤ 32
distance_small (Leaf k c) h r = absurd r
distance_small (ByteRange t d c) h r = h.0
distance_small (ItemRange g d c l) h r = h.0
distance_small (Optional w l) h r = absurd r
distance_small (Struct ls) h r = absurd r

pub count_small : (l : Layout) → Legal l → IsRange l → count_width l ≤ 32
count_small (Leaf k c) h r = absurd r
count_small (ByteRange t d c) h r = h.1
count_small (ItemRange g d c l) h r = h.1
count_small (Optional w l) h r = absurd r
count_small (Struct ls) h r = absurd r

pub isset_small : (l : Layout) → Legal l → IsOptional l → isset_width l ≤ 1
isset_small (Leaf k c) h r = absurd r
isset_small (ByteRange t d c) h r = absurd r
isset_small (ItemRange g d c l) h r = absurd r
isset_small (Optional w l) h r = h.0
isset_small (Struct ls) h r = absurd r

pub leaf_small : (l : Layout) → Legal l → IsLeaf l → stride l ≤ 64
leaf_small (Leaf k c) h r = omega (arith, h, greatest_small k)
leaf_small (ByteRange t d c) h r = absurd r
leaf_small (ItemRange g d c l) h r = absurd r
leaf_small (Optional w l) h r = absurd r
leaf_small (Struct ls) h r = absurd r

pub item_small : (v : Version) (t : Noted) → Legal (layout_in v t) → IsNarrow (kinds_of t)
    → IsHolder (layout_in v t) → stride (item_of (layout_in v t)) ≤ 32767
item_small v (Leaf k c) h n r = absurd r
item_small v (ByteRange t d c) h n r = absurd r
item_small v (ItemRange g d c l) h n r = stride_small v l h.2 n
item_small v (Optional w l) h n r = absurd r
item_small v (Struct ls) h n r = absurd r

pub length_listing : (ns : List NodeSpec) → IsListing ns → length ns ≡ nodes (tree_of ns)
length_listing ns e = ap length e ∙ length_nodes (tree_of ns) kinds.Struct 0 0 0 0

pub few_listed : (e : FormVersion) (ns : List NodeSpec) → IsListing ns → ∥ IsNotedLayout e (tree_of ns) ∥₁
    → length ns ≤ 4096
few_listed e ns h p = omega (arith, length_listing ns h, few_nodes e (tree_of ns) p)

pub past_leaf : (k : Kind) → IsLeafKind k → (n w m : ℕ) → PastAt k n w m → n + 1 ≡ n + m
past_leaf kinds.Flag h n w m e = omega arith
past_leaf kinds.I8 h n w m e = omega arith
past_leaf kinds.I16 h n w m e = omega arith
past_leaf kinds.I32 h n w m e = omega arith
past_leaf kinds.I64 h n w m e = omega arith
past_leaf kinds.Size h n w m e = omega arith
past_leaf kinds.Text h n w m e = absurd h
past_leaf kinds.Bytes h n w m e = absurd h
past_leaf kinds.List h n w m e = absurd h
past_leaf kinds.Set h n w m e = absurd h
past_leaf kinds.Map h n w m e = absurd h
past_leaf kinds.Pair h n w m e = absurd h
past_leaf kinds.Struct h n w m e = absurd h
past_leaf kinds.Optional h n w m e = absurd h

pub past_branch : (k : Kind) → IsBranch k → (n w m : ℕ) → PastAt k n w m → w ≡ n + m
past_branch kinds.Flag h n w m e = absurd h
past_branch kinds.I8 h n w m e = absurd h
past_branch kinds.I16 h n w m e = absurd h
past_branch kinds.I32 h n w m e = absurd h
past_branch kinds.I64 h n w m e = absurd h
past_branch kinds.Size h n w m e = absurd h
past_branch kinds.Text h n w m e = e
past_branch kinds.Bytes h n w m e = e
past_branch kinds.List h n w m e = e
past_branch kinds.Set h n w m e = e
past_branch kinds.Map h n w m e = e
past_branch kinds.Pair h n w m e = e
past_branch kinds.Struct h n w m e = e
past_branch kinds.Optional h n w m e = e

pub leaf_cases : (k : Kind) → (k ≡ kinds.Flag)
    ⊎ ((k ≡ kinds.I8) ⊎ ((k ≡ kinds.I16) ⊎ ((k ≡ kinds.I32) ⊎ ((k ≡ kinds.I64) ⊎ (k ≡ kinds.Size)))))
    → IsLeafKind k
leaf_cases k (inl e) = subst IsLeafKind (sym e) tt
leaf_cases k (inr (inl e)) = subst IsLeafKind (sym e) tt
leaf_cases k (inr (inr (inl e))) = subst IsLeafKind (sym e) tt
leaf_cases k (inr (inr (inr (inl e)))) = subst IsLeafKind (sym e) tt
leaf_cases k (inr (inr (inr (inr (inl e))))) = subst IsLeafKind (sym e) tt
leaf_cases k (inr (inr (inr (inr (inr e))))) = subst IsLeafKind (sym e) tt

pub branch_cases : (k : Kind) → (k ≡ kinds.Flag → ⊥) → (k ≡ kinds.I8 → ⊥) → (k ≡ kinds.I16 → ⊥)
    → (k ≡ kinds.I32 → ⊥) → (k ≡ kinds.I64 → ⊥) → (k ≡ kinds.Size → ⊥) → IsBranch k
branch_cases kinds.Flag a b c d e f = absurd (a refl)
branch_cases kinds.I8 a b c d e f = absurd (b refl)
branch_cases kinds.I16 a b c d e f = absurd (c refl)
branch_cases kinds.I32 a b c d e f = absurd (d refl)
branch_cases kinds.I64 a b c d e f = absurd (e refl)
branch_cases kinds.Size a b c d e f = absurd (f refl)
branch_cases kinds.Text a b c d e f = tt
branch_cases kinds.Bytes a b c d e f = tt
branch_cases kinds.List a b c d e f = tt
branch_cases kinds.Set a b c d e f = tt
branch_cases kinds.Map a b c d e f = tt
branch_cases kinds.Pair a b c d e f = tt
branch_cases kinds.Struct a b c d e f = tt
branch_cases kinds.Optional a b c d e f = tt
