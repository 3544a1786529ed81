-- Relations between trees of one kind tree, leaf by leaf.
use Rattle.std.proofs.Common.{◌≡◌, ℕ, max, List, [], ◌∷◌, ◌++◌, refl, ap, ℤ}
use Rattle.frozen_model.specs.Trees.{LeafKind, ByteKind, Holder, Tree, Trees, Leaf, ByteRange, ItemRange, Optional, Struct, NoField, Field, Leafwise, AllLeafwise, leaf, byte_range, item_range, optional, struct, no_field, field, ids_of}
use Rattle.frozen_model.specs.Layouts.{Version, IsCoded, Coded, Layout, Layouts, width, with_width, OfVersion, AllOfVersion}
use Rattle.frozen_model.specs.Holding.{Puts, AllPuts, no_puts, no_puts_all, both, both_all, widened, widened_all, greatest_need, greatest_digits, Blank, AllBlank}

-- a relation between two trees from another
mutual
  pub leafwise_map : {A B C D : Type 0} {R R' : LeafKind → A → C → Type 0} {S S' T T' : B → D → Type 0} {l : Tree A B} {m : Tree C D}
      → ((k : LeafKind) (a : A) (c : C) → R k a c → R' k a c) → ((b : B) (d : D) → S b d → S' b d) → ((b : B) (d : D) → T b d → T' b d) → Leafwise R S T l m → Leafwise R' S' T' l m
  leafwise_map f g t (leaf h) = leaf (f _ _ _ h)
  leafwise_map f g t (byte_range h i) = byte_range (g _ _ h) (t _ _ i)
  leafwise_map f g t (item_range h i x) = item_range (g _ _ h) (t _ _ i) (leafwise_map f g t x)
  leafwise_map f g t (optional h x) = optional (t _ _ h) (leafwise_map f g t x)
  leafwise_map f g t (struct xs) = struct (all_leafwise_map f g t xs)

  pub all_leafwise_map : {A B C D : Type 0} {R R' : LeafKind → A → C → Type 0} {S S' T T' : B → D → Type 0} {l : Trees A B} {m : Trees C D}
      → ((k : LeafKind) (a : A) (c : C) → R k a c → R' k a c) → ((b : B) (d : D) → S b d → S' b d) → ((b : B) (d : D) → T b d → T' b d) → AllLeafwise R S T l m → AllLeafwise R' S' T' l m
  all_leafwise_map f g t no_field = no_field
  all_leafwise_map f g t (field x xs) = field (leafwise_map f g t x) (all_leafwise_map f g t xs)

-- the other way round
mutual
  pub leafwise_flip : {A B C D : Type 0} {R : LeafKind → A → C → Type 0} {S T : B → D → Type 0} {l : Tree A B} {m : Tree C D}
      → Leafwise R S T l m → Leafwise (λ (k : LeafKind) (c : C) (a : A). R k a c) (λ (d : D) (b : B). S b d) (λ (d : D) (b : B). T b d) m l
  leafwise_flip (leaf h) = leaf h
  leafwise_flip (byte_range h i) = byte_range h i
  leafwise_flip (item_range h i x) = item_range h i (leafwise_flip x)
  leafwise_flip (optional h x) = optional h (leafwise_flip x)
  leafwise_flip (struct xs) = struct (all_leafwise_flip xs)

  pub all_leafwise_flip : {A B C D : Type 0} {R : LeafKind → A → C → Type 0} {S T : B → D → Type 0} {l : Trees A B} {m : Trees C D}
      → AllLeafwise R S T l m → AllLeafwise (λ (k : LeafKind) (c : C) (a : A). R k a c) (λ (d : D) (b : B). S b d) (λ (d : D) (b : B). T b d) m l
  all_leafwise_flip no_field = no_field
  all_leafwise_flip (field x xs) = field (leafwise_flip x) (all_leafwise_flip xs)

-- two relations, one after the other
mutual
  pub leafwise_chain : {A B C D E F : Type 0} {R : LeafKind → A → C → Type 0} {R' : LeafKind → C → E → Type 0} {R'' : LeafKind → A → E → Type 0}
      {S T : B → D → Type 0} {S' T' : D → F → Type 0} {S'' T'' : B → F → Type 0} {l : Tree A B} {m : Tree C D} {n : Tree E F}
      → ((k : LeafKind) (a : A) (c : C) (e : E) → R k a c → R' k c e → R'' k a e) → ((b : B) (d : D) (f : F) → S b d → S' d f → S'' b f) → ((b : B) (d : D) (f : F) → T b d → T' d f → T'' b f)
      → Leafwise R S T l m → Leafwise R' S' T' m n → Leafwise R'' S'' T'' l n
  leafwise_chain f g t (leaf h) (leaf h') = leaf (f _ _ _ _ h h')
  leafwise_chain f g t (byte_range h i) (byte_range h' i') = byte_range (g _ _ _ h h') (t _ _ _ i i')
  leafwise_chain f g t (item_range h i x) (item_range h' i' x') = item_range (g _ _ _ h h') (t _ _ _ i i') (leafwise_chain f g t x x')
  leafwise_chain f g t (optional h x) (optional h' x') = optional (t _ _ _ h h') (leafwise_chain f g t x x')
  leafwise_chain f g t (struct xs) (struct xs') = struct (all_leafwise_chain f g t xs xs')

  pub all_leafwise_chain : {A B C D E F : Type 0} {R : LeafKind → A → C → Type 0} {R' : LeafKind → C → E → Type 0} {R'' : LeafKind → A → E → Type 0}
      {S T : B → D → Type 0} {S' T' : D → F → Type 0} {S'' T'' : B → F → Type 0} {l : Trees A B} {m : Trees C D} {n : Trees E F}
      → ((k : LeafKind) (a : A) (c : C) (e : E) → R k a c → R' k c e → R'' k a e) → ((b : B) (d : D) (f : F) → S b d → S' d f → S'' b f) → ((b : B) (d : D) (f : F) → T b d → T' d f → T'' b f)
      → AllLeafwise R S T l m → AllLeafwise R' S' T' m n → AllLeafwise R'' S'' T'' l n
  all_leafwise_chain f g t no_field no_field = no_field
  all_leafwise_chain f g t (field x xs) (field x' xs') = field (leafwise_chain f g t x x') (all_leafwise_chain f g t xs xs')

-- a tree stands to itself so
mutual
  pub leafwise_same : {A B : Type 0} {R : LeafKind → A → A → Type 0} {S T : B → B → Type 0}
      → ((k : LeafKind) (a : A) → R k a a) → ((b : B) → S b b) → ((b : B) → T b b) → (l : Tree A B) → Leafwise R S T l l
  leafwise_same f g t (Leaf k a) = leaf (f k a)
  leafwise_same f g t (ByteRange u d c) = byte_range (g d) (t c)
  leafwise_same f g t (ItemRange h d c l) = item_range (g d) (t c) (leafwise_same f g t l)
  leafwise_same f g t (Optional w l) = optional (t w) (leafwise_same f g t l)
  leafwise_same f g t (Struct ls) = struct (all_leafwise_same f g t ls)

  pub all_leafwise_same : {A B : Type 0} {R : LeafKind → A → A → Type 0} {S T : B → B → Type 0}
      → ((k : LeafKind) (a : A) → R k a a) → ((b : B) → S b b) → ((b : B) → T b b) → (ls : Trees A B) → AllLeafwise R S T ls ls
  all_leafwise_same f g t NoField = no_field
  all_leafwise_same f g t (Field i l ls) = field (leafwise_same f g t l) (all_leafwise_same f g t ls)

pub ids_same : {A B C D : Type 0} {R : LeafKind → A → C → Type 0} {S T : B → D → Type 0} {ls : Trees A B} {ms : Trees C D} → AllLeafwise R S T ls ms → ids_of ls ≡ ids_of ms
ids_same no_field = refl
ids_same (field {i = i} x xs) = ap (λ is. i ∷ is) (ids_same xs)

-- ---- trees of numbers

-- no number at any leaf
mutual
  pub no_puts_right : {A B : Type 0} {R : LeafKind → A → List ℤ → Type 0} {S T : B → List ℕ → Type 0}
      → ((k : LeafKind) (a : A) → R k a []) → ((b : B) → S b []) → ((b : B) → T b []) → (l : Tree A B) → Leafwise R S T l (no_puts l)
  no_puts_right f g t (Leaf k a) = leaf (f k a)
  no_puts_right f g t (ByteRange u d c) = byte_range (g d) (t c)
  no_puts_right f g t (ItemRange h d c l) = item_range (g d) (t c) (no_puts_right f g t l)
  no_puts_right f g t (Optional w l) = optional (t w) (no_puts_right f g t l)
  no_puts_right f g t (Struct ls) = struct (all_no_puts_right f g t ls)

  pub all_no_puts_right : {A B : Type 0} {R : LeafKind → A → List ℤ → Type 0} {S T : B → List ℕ → Type 0}
      → ((k : LeafKind) (a : A) → R k a []) → ((b : B) → S b []) → ((b : B) → T b []) → (ls : Trees A B) → AllLeafwise R S T ls (no_puts_all ls)
  all_no_puts_right f g t NoField = no_field
  all_no_puts_right f g t (Field i l ls) = field (no_puts_right f g t l) (all_no_puts_right f g t ls)

mutual
  pub no_puts_both : {A B C D : Type 0} {R : LeafKind → A → C → Type 0} {S T : B → D → Type 0} {R' : LeafKind → List ℤ → List ℤ → Type 0} {S' T' : List ℕ → List ℕ → Type 0} {l : Tree A B} {m : Tree C D}
      → ((k : LeafKind) → R' k [] []) → S' [] [] → T' [] [] → Leafwise R S T l m → Leafwise R' S' T' (no_puts l) (no_puts m)
  no_puts_both f g t (leaf h) = leaf (f _)
  no_puts_both f g t (byte_range h i) = byte_range g t
  no_puts_both f g t (item_range h i x) = item_range g t (no_puts_both f g t x)
  no_puts_both f g t (optional h x) = optional t (no_puts_both f g t x)
  no_puts_both f g t (struct xs) = struct (all_no_puts_both f g t xs)

  pub all_no_puts_both : {A B C D : Type 0} {R : LeafKind → A → C → Type 0} {S T : B → D → Type 0} {R' : LeafKind → List ℤ → List ℤ → Type 0} {S' T' : List ℕ → List ℕ → Type 0} {l : Trees A B} {m : Trees C D}
      → ((k : LeafKind) → R' k [] []) → S' [] [] → T' [] [] → AllLeafwise R S T l m → AllLeafwise R' S' T' (no_puts_all l) (no_puts_all m)
  all_no_puts_both f g t no_field = no_field
  all_no_puts_both f g t (field x xs) = field (no_puts_both f g t x) (all_no_puts_both f g t xs)

-- the numbers of two joined, against one tree
mutual
  pub both_right : {A B : Type 0} {R R' R'' : LeafKind → A → List ℤ → Type 0} {S S' S'' T T' T'' : B → List ℕ → Type 0} {l : Tree A B} {p q : Puts}
      → ((k : LeafKind) (a : A) (xs ys : List ℤ) → R k a xs → R' k a ys → R'' k a (xs ++ ys)) → ((b : B) (ms ns : List ℕ) → S b ms → S' b ns → S'' b (ms ++ ns)) → ((b : B) (ms ns : List ℕ) → T b ms → T' b ns → T'' b (ms ++ ns))
      → Leafwise R S T l p → Leafwise R' S' T' l q → Leafwise R'' S'' T'' l (both p q)
  both_right f g t (leaf h) (leaf h') = leaf (f _ _ _ _ h h')
  both_right f g t (byte_range h i) (byte_range h' i') = byte_range (g _ _ _ h h') (t _ _ _ i i')
  both_right f g t (item_range h i x) (item_range h' i' x') = item_range (g _ _ _ h h') (t _ _ _ i i') (both_right f g t x x')
  both_right f g t (optional h x) (optional h' x') = optional (t _ _ _ h h') (both_right f g t x x')
  both_right f g t (struct xs) (struct xs') = struct (all_both_right f g t xs xs')

  pub all_both_right : {A B : Type 0} {R R' R'' : LeafKind → A → List ℤ → Type 0} {S S' S'' T T' T'' : B → List ℕ → Type 0} {l : Trees A B} {p q : AllPuts}
      → ((k : LeafKind) (a : A) (xs ys : List ℤ) → R k a xs → R' k a ys → R'' k a (xs ++ ys)) → ((b : B) (ms ns : List ℕ) → S b ms → S' b ns → S'' b (ms ++ ns)) → ((b : B) (ms ns : List ℕ) → T b ms → T' b ns → T'' b (ms ++ ns))
      → AllLeafwise R S T l p → AllLeafwise R' S' T' l q → AllLeafwise R'' S'' T'' l (both_all p q)
  all_both_right f g t no_field no_field = no_field
  all_both_right f g t (field x xs) (field x' xs') = field (both_right f g t x x') (all_both_right f g t xs xs')

-- what a relation between two trees says of their parts
pub leaf_of : {A B C D : Type 0} {R : LeafKind → A → C → Type 0} {S T : B → D → Type 0} {k k' : LeafKind} {a : A} {c : C} → Leafwise R S T (Leaf k a) (Leaf k' c) → R k a c
leaf_of (leaf h) = h

pub blob_of : {A B C D : Type 0} {R : LeafKind → A → C → Type 0} {S T : B → D → Type 0} {t t' : ByteKind} {a b : B} {c d : D} → Leafwise R S T (ByteRange t a b) (ByteRange t' c d) → S a c × T b d
blob_of (byte_range h i) = (h, i)

pub range_of : {A B C D : Type 0} {R : LeafKind → A → C → Type 0} {S T : B → D → Type 0} {g g' : Holder} {a b : B} {c d : D} {l : Tree A B} {m : Tree C D} → Leafwise R S T (ItemRange g a b l) (ItemRange g' c d m) → S a c × T b d × Leafwise R S T l m
range_of (item_range h i x) = (h, i, x)

pub optional_of : {A B C D : Type 0} {R : LeafKind → A → C → Type 0} {S T : B → D → Type 0} {w : B} {v : D} {l : Tree A B} {m : Tree C D} → Leafwise R S T (Optional w l) (Optional v m) → T w v × Leafwise R S T l m
optional_of (optional h x) = (h, x)

pub struct_of : {A B C D : Type 0} {R : LeafKind → A → C → Type 0} {S T : B → D → Type 0} {ls : Trees A B} {ms : Trees C D} → Leafwise R S T (Struct ls) (Struct ms) → AllLeafwise R S T ls ms
struct_of (struct xs) = xs

pub field_of : {A B C D : Type 0} {R : LeafKind → A → C → Type 0} {S T : B → D → Type 0} {i j : ℕ} {l : Tree A B} {m : Tree C D} {ls : Trees A B} {ms : Trees C D} → AllLeafwise R S T (Field i l ls) (Field j m ms) → Leafwise R S T l m × AllLeafwise R S T ls ms
field_of (field x xs) = (x, xs)

-- what holds of the numbers of two joined, holds of each
mutual
  pub both_parts : {A B : Type 0} {R R' : LeafKind → A → List ℤ → Type 0} {S S' T T' : B → List ℕ → Type 0} {P Q : LeafKind → A → List ℤ → Type 0} {P' P'' Q' Q'' : B → List ℕ → Type 0} {l : Tree A B} {p q : Puts}
      → ((k : LeafKind) (a : A) (xs ys : List ℤ) → R k a (xs ++ ys) → R' k a xs × R' k a ys) → ((b : B) (ms ns : List ℕ) → S b (ms ++ ns) → S' b ms × S' b ns) → ((b : B) (ms ns : List ℕ) → T b (ms ++ ns) → T' b ms × T' b ns)
      → Leafwise P P' P'' l p → Leafwise Q Q' Q'' l q → Leafwise R S T l (both p q) → Leafwise R' S' T' l p × Leafwise R' S' T' l q
  both_parts f g t (leaf h) (leaf h') r = let x = f _ _ _ _ (leaf_of r) in (leaf x.0, leaf x.1)
  both_parts f g t (byte_range h i) (byte_range h' i') r =
      let b = blob_of r in let x = g _ _ _ b.0 in let y = t _ _ _ b.1 in (byte_range x.0 y.0, byte_range x.1 y.1)
  both_parts f g t (item_range h i x) (item_range h' i' x') r =
      let b = range_of r in let y = g _ _ _ b.0 in let z = t _ _ _ b.1 in let u = both_parts f g t x x' b.2 in (item_range y.0 z.0 u.0, item_range y.1 z.1 u.1)
  both_parts f g t (optional h x) (optional h' x') r =
      let b = optional_of r in let y = t _ _ _ b.0 in let u = both_parts f g t x x' b.1 in (optional y.0 u.0, optional y.1 u.1)
  both_parts f g t (struct xs) (struct xs') r = let u = all_both_parts f g t xs xs' (struct_of r) in (struct u.0, struct u.1)

  pub all_both_parts : {A B : Type 0} {R R' : LeafKind → A → List ℤ → Type 0} {S S' T T' : B → List ℕ → Type 0} {P Q : LeafKind → A → List ℤ → Type 0} {P' P'' Q' Q'' : B → List ℕ → Type 0} {l : Trees A B} {p q : AllPuts}
      → ((k : LeafKind) (a : A) (xs ys : List ℤ) → R k a (xs ++ ys) → R' k a xs × R' k a ys) → ((b : B) (ms ns : List ℕ) → S b (ms ++ ns) → S' b ms × S' b ns) → ((b : B) (ms ns : List ℕ) → T b (ms ++ ns) → T' b ms × T' b ns)
      → AllLeafwise P P' P'' l p → AllLeafwise Q Q' Q'' l q → AllLeafwise R S T l (both_all p q) → AllLeafwise R' S' T' l p × AllLeafwise R' S' T' l q
  all_both_parts f g t no_field no_field r = (no_field, no_field)
  all_both_parts f g t (field x xs) (field x' xs') r =
      let b = field_of r in let u = both_parts f g t x x' b.0 in let us = all_both_parts f g t xs xs' b.1 in (field u.0 us.0, field u.1 us.1)

-- the numbers of two joined, against those of two others joined
mutual
  pub both_both : {P R R' R'' : LeafKind → List ℤ → List ℤ → Type 0} {P' P'' S S' S'' T T' T'' : List ℕ → List ℕ → Type 0} {p q p' q' : Puts}
      → ((k : LeafKind) (xs ys xs' ys' : List ℤ) → R k xs ys → R' k xs' ys' → R'' k (xs ++ xs') (ys ++ ys')) → ((ms ns ms' ns' : List ℕ) → S ms ns → S' ms' ns' → S'' (ms ++ ms') (ns ++ ns')) → ((ms ns ms' ns' : List ℕ) → T ms ns → T' ms' ns' → T'' (ms ++ ms') (ns ++ ns'))
      → Leafwise P P' P'' p p' → Leafwise R S T p q → Leafwise R' S' T' p' q' → Leafwise R'' S'' T'' (both p p') (both q q')
  both_both f g t (leaf z) (leaf h) (leaf h') = leaf (f _ _ _ _ _ h h')
  both_both f g t (byte_range z y) (byte_range h i) (byte_range h' i') = byte_range (g _ _ _ _ h h') (t _ _ _ _ i i')
  both_both f g t (item_range z y a) (item_range h i x) (item_range h' i' x') = item_range (g _ _ _ _ h h') (t _ _ _ _ i i') (both_both f g t a x x')
  both_both f g t (optional z a) (optional h x) (optional h' x') = optional (t _ _ _ _ h h') (both_both f g t a x x')
  both_both f g t (struct ps) (struct xs) (struct xs') = struct (all_both_both f g t ps xs xs')

  pub all_both_both : {P R R' R'' : LeafKind → List ℤ → List ℤ → Type 0} {P' P'' S S' S'' T T' T'' : List ℕ → List ℕ → Type 0} {p q p' q' : AllPuts}
      → ((k : LeafKind) (xs ys xs' ys' : List ℤ) → R k xs ys → R' k xs' ys' → R'' k (xs ++ xs') (ys ++ ys')) → ((ms ns ms' ns' : List ℕ) → S ms ns → S' ms' ns' → S'' (ms ++ ms') (ns ++ ns')) → ((ms ns ms' ns' : List ℕ) → T ms ns → T' ms' ns' → T'' (ms ++ ms') (ns ++ ns'))
      → AllLeafwise P P' P'' p p' → AllLeafwise R S T p q → AllLeafwise R' S' T' p' q' → AllLeafwise R'' S'' T'' (both_all p p') (both_all q q')
  all_both_both f g t no_field no_field no_field = no_field
  all_both_both f g t (field a ps) (field x xs) (field x' xs') = field (both_both f g t a x x') (all_both_both f g t ps xs xs')

-- ---- a pass

abbrev pub widened_leaf : Coded → List ℤ → Coded
widened_leaf c xs = with_width c (max (width c) (greatest_need c xs))

-- a layout against what a pass makes of it
mutual
  pub widened_right : {R : LeafKind → Coded → List ℤ → Type 0} {Q : LeafKind → Coded → Coded → Type 0} {S T : ℕ → List ℕ → Type 0} {U V : ℕ → ℕ → Type 0} {l : Layout} {p : Puts}
      → ((k : LeafKind) (c : Coded) (xs : List ℤ) → R k c xs → Q k c (widened_leaf c xs)) → ((w : ℕ) (ns : List ℕ) → S w ns → U w (max w (greatest_digits ns))) → ((w : ℕ) (ns : List ℕ) → T w ns → V w (max w (greatest_digits ns)))
      → Leafwise R S T l p → Leafwise Q U V l (widened l p)
  widened_right f g t (leaf h) = leaf (f _ _ _ h)
  widened_right f g t (byte_range h i) = byte_range (g _ _ h) (t _ _ i)
  widened_right f g t (item_range h i x) = item_range (g _ _ h) (t _ _ i) (widened_right f g t x)
  widened_right f g t (optional h x) = optional (t _ _ h) (widened_right f g t x)
  widened_right f g t (struct xs) = struct (all_widened_right f g t xs)

  pub all_widened_right : {R : LeafKind → Coded → List ℤ → Type 0} {Q : LeafKind → Coded → Coded → Type 0} {S T : ℕ → List ℕ → Type 0} {U V : ℕ → ℕ → Type 0} {l : Layouts} {p : AllPuts}
      → ((k : LeafKind) (c : Coded) (xs : List ℤ) → R k c xs → Q k c (widened_leaf c xs)) → ((w : ℕ) (ns : List ℕ) → S w ns → U w (max w (greatest_digits ns))) → ((w : ℕ) (ns : List ℕ) → T w ns → V w (max w (greatest_digits ns)))
      → AllLeafwise R S T l p → AllLeafwise Q U V l (widened_all l p)
  all_widened_right f g t no_field = no_field
  all_widened_right f g t (field x xs) = field (widened_right f g t x) (all_widened_right f g t xs)

-- what a pass makes of a layout, against another tree
mutual
  pub widened_chain : {E F : Type 0} {R : LeafKind → Coded → List ℤ → Type 0} {R' : LeafKind → List ℤ → E → Type 0} {Q : LeafKind → Coded → E → Type 0}
      {S T : ℕ → List ℕ → Type 0} {S' T' : List ℕ → F → Type 0} {U V : ℕ → F → Type 0} {l : Layout} {p : Puts} {m : Tree E F}
      → ((k : LeafKind) (c : Coded) (xs : List ℤ) (e : E) → R k c xs → R' k xs e → Q k (widened_leaf c xs) e)
      → ((w : ℕ) (ns : List ℕ) (e : F) → S w ns → S' ns e → U (max w (greatest_digits ns)) e) → ((w : ℕ) (ns : List ℕ) (e : F) → T w ns → T' ns e → V (max w (greatest_digits ns)) e)
      → Leafwise R S T l p → Leafwise R' S' T' p m → Leafwise Q U V (widened l p) m
  widened_chain f g t (leaf h) (leaf h') = leaf (f _ _ _ _ h h')
  widened_chain f g t (byte_range h i) (byte_range h' i') = byte_range (g _ _ _ h h') (t _ _ _ i i')
  widened_chain f g t (item_range h i x) (item_range h' i' x') = item_range (g _ _ _ h h') (t _ _ _ i i') (widened_chain f g t x x')
  widened_chain f g t (optional h x) (optional h' x') = optional (t _ _ _ h h') (widened_chain f g t x x')
  widened_chain f g t (struct xs) (struct xs') = struct (all_widened_chain f g t xs xs')

  pub all_widened_chain : {E F : Type 0} {R : LeafKind → Coded → List ℤ → Type 0} {R' : LeafKind → List ℤ → E → Type 0} {Q : LeafKind → Coded → E → Type 0}
      {S T : ℕ → List ℕ → Type 0} {S' T' : List ℕ → F → Type 0} {U V : ℕ → F → Type 0} {l : Layouts} {p : AllPuts} {m : Trees E F}
      → ((k : LeafKind) (c : Coded) (xs : List ℤ) (e : E) → R k c xs → R' k xs e → Q k (widened_leaf c xs) e)
      → ((w : ℕ) (ns : List ℕ) (e : F) → S w ns → S' ns e → U (max w (greatest_digits ns)) e) → ((w : ℕ) (ns : List ℕ) (e : F) → T w ns → T' ns e → V (max w (greatest_digits ns)) e)
      → AllLeafwise R S T l p → AllLeafwise R' S' T' p m → AllLeafwise Q U V (widened_all l p) m
  all_widened_chain f g t no_field no_field = no_field
  all_widened_chain f g t (field x xs) (field x' xs') = field (widened_chain f g t x x') (all_widened_chain f g t xs xs')

-- a layout that a pass leaves as it is
mutual
  pub widened_rests : {R R' : LeafKind → Coded → List ℤ → Type 0} {S S' T T' : ℕ → List ℕ → Type 0} {l : Layout} {p : Puts}
      → ((k : LeafKind) (c : Coded) (xs : List ℤ) → R k c xs → widened_leaf c xs ≡ c → R' k c xs) → ((w : ℕ) (ns : List ℕ) → S w ns → max w (greatest_digits ns) ≡ w → S' w ns) → ((w : ℕ) (ns : List ℕ) → T w ns → max w (greatest_digits ns) ≡ w → T' w ns)
      → Leafwise R S T l p → widened l p ≡ l → Leafwise R' S' T' l p
  widened_rests f g t (leaf h) e = leaf (f _ _ _ h cc)
  widened_rests f g t (byte_range h i) e = byte_range (g _ _ h cc) (t _ _ i cc)
  widened_rests f g t (item_range h i x) e = item_range (g _ _ h cc) (t _ _ i cc) (widened_rests f g t x cc)
  widened_rests f g t (optional h x) e = optional (t _ _ h cc) (widened_rests f g t x cc)
  widened_rests f g t (struct xs) e = struct (all_widened_rests f g t xs cc)

  pub all_widened_rests : {R R' : LeafKind → Coded → List ℤ → Type 0} {S S' T T' : ℕ → List ℕ → Type 0} {l : Layouts} {p : AllPuts}
      → ((k : LeafKind) (c : Coded) (xs : List ℤ) → R k c xs → widened_leaf c xs ≡ c → R' k c xs) → ((w : ℕ) (ns : List ℕ) → S w ns → max w (greatest_digits ns) ≡ w → S' w ns) → ((w : ℕ) (ns : List ℕ) → T w ns → max w (greatest_digits ns) ≡ w → T' w ns)
      → AllLeafwise R S T l p → widened_all l p ≡ l → AllLeafwise R' S' T' l p
  all_widened_rests f g t no_field e = no_field
  all_widened_rests f g t (field x xs) e = field (widened_rests f g t x cc) (all_widened_rests f g t xs cc)

-- ---- with what holds of each leaf

mutual
  pub with_version : {C D : Type 0} {R : LeafKind → Coded → C → Type 0} {S T : ℕ → D → Type 0} {l : Layout} {m : Tree C D} → (n : Version) → Leafwise R S T l m → OfVersion n l
      → Leafwise (λ (k : LeafKind) (c : Coded) (e : C). R k c e × IsCoded n k c) S T l m
  with_version n (leaf h) o = leaf (h, o)
  with_version n (byte_range h i) o = byte_range h i
  with_version n (item_range h i x) o = item_range h i (with_version n x o)
  with_version n (optional h x) o = optional h (with_version n x o)
  with_version n (struct xs) o = struct (all_with_version n xs o)

  pub all_with_version : {C D : Type 0} {R : LeafKind → Coded → C → Type 0} {S T : ℕ → D → Type 0} {l : Layouts} {m : Trees C D} → (n : Version) → AllLeafwise R S T l m → AllOfVersion n l
      → AllLeafwise (λ (k : LeafKind) (c : Coded) (e : C). R k c e × IsCoded n k c) S T l m
  all_with_version n no_field o = no_field
  all_with_version n (field x xs) o = field (with_version n x o.0) (all_with_version n xs o.1)

-- all widths are 0
mutual
  pub with_blank : {C D : Type 0} {R : LeafKind → Coded → C → Type 0} {S T : ℕ → D → Type 0} {l : Layout} {m : Tree C D} → Leafwise R S T l m → Blank l
      → Leafwise (λ (k : LeafKind) (c : Coded) (e : C). R k c e × (width c ≡ 0)) (λ (w : ℕ) (d : D). S w d × (w ≡ 0)) (λ (w : ℕ) (d : D). T w d × (w ≡ 0)) l m
  with_blank (leaf h) o = leaf (h, o)
  with_blank (byte_range h i) o = byte_range (h, o.0) (i, o.1)
  with_blank (item_range h i x) o = item_range (h, o.0) (i, o.1) (with_blank x o.2)
  with_blank (optional h x) o = optional (h, o.0) (with_blank x o.1)
  with_blank (struct xs) o = struct (all_with_blank xs o)

  pub all_with_blank : {C D : Type 0} {R : LeafKind → Coded → C → Type 0} {S T : ℕ → D → Type 0} {l : Layouts} {m : Trees C D} → AllLeafwise R S T l m → AllBlank l
      → AllLeafwise (λ (k : LeafKind) (c : Coded) (e : C). R k c e × (width c ≡ 0)) (λ (w : ℕ) (d : D). S w d × (w ≡ 0)) (λ (w : ℕ) (d : D). T w d × (w ≡ 0)) l m
  all_with_blank no_field o = no_field
  all_with_blank (field x xs) o = field (with_blank x o.0) (all_with_blank xs o.1)
