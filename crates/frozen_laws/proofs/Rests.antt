-- Passes stay below the widest layout, and come to rest.
use Rattle.std.proofs.Common.{◌≡◌, ℕ, zero, suc, ◌+◌, ◌*◌, ◌^◌, ◌≤◌, ◌<◌, max, List, [], ◌∷◌, length, arith, refl, ap, ◌∙◌, subst, ℤ, pos, negsuc, ◌⊎◌, inl, inr, Bool, true, false}
use Rattle.std.specs.Prelude.{◌-ℤ◌, ◌≤ℤ◌, nat_abs}
use Rattle.std.proofs.lemmas.Bool.{cases_lt}
use Rattle.std.proofs.lemmas.Int.{ints}
use Rattle.std.proofs.Math.Nat.{pow-suc}
use Rattle.std.specs.List.{AllByRecursion}
use Rattle.frozen_model.specs.Bits.{digits, need_signed}
use Rattle.frozen_model.specs.Trees.{Whole, I8, I16, I32, I64, LeafKind, Flag, Integer, Tree, Trees, Leaf, ByteRange, ItemRange, Optional, Struct, NoField, Field, Leafwise, AllLeafwise, leaf, byte_range, item_range, optional, struct, no_field, field, Alike, IsStruct, IsKindTree, greatest, value_bits, ranges, ranges_all}
use Rattle.frozen_model.specs.Values.{Atom, Truth, Number, Value, Values, count, IsOf, InBits, Of, one, bytes, items, absent, present, record_of, OfEach, none, more, OfAll, no_part, part, cells, inline_cells, inline_cells_all, range_cells, range_cells_each, range_cells_all, cell_limit}
use Rattle.frozen_model.specs.Layouts.{Version, Version1, Version2, IsCoded, flag_coded, signed_coded, based_coded, Coded, Unsigned, TwosComplement, FromBase, Layout, Layouts, OfVersion, AllOfVersion, Legal, AllLegal, Narrower, AllNarrower, width, with_width, stride, number_of, Fits, MayRelax, described}
use Rattle.frozen_model.specs.Packing.{extent, extents, extent_all, bytes_for, distance}
use Rattle.frozen_model.specs.Holding.{Puts, AllPuts, puts_of, Holds, greatest_need, greatest_digits, widened, widened_all, pass, passes, IsStart, Least}
use Rattle.frozen_laws.specs.Everywhere.{HoldsAt, HoldsEach, HoldsAll}
use Rattle.frozen_model.proofs.Digits.{digits_within}
use Rattle.frozen_laws.specs.Laws.{widest_leaf, widest, widest_all, Filled, EachDistance, EachDistanceAmong}
use Rattle.frozen_laws.proofs.Leafwise.{widened_leaf, widened_chain}
use Rattle.frozen_laws.proofs.SameKinds.{struct_along, kind_tree_along}
use Rattle.frozen_laws.proofs.Leaves.{width_with, need_with}
use Rattle.frozen_laws.proofs.Cells.{whole_cells, cells_are, distances_below}
use Rattle.frozen_laws.proofs.Holding.{fit_at}
use Rattle.frozen_laws.proofs.Puts.{of_leafwise}
use Rattle.frozen_laws.proofs.Passes.{Grown, Grows, narrower_same, narrower_chain, puts_of_grow, pass_grows, pass_under, pass_wider, passes_under, passes_wider, start_grows, start_under, rests}

-- ---- the widest layout

mutual
  pub widest_alike : (n : Version) (l : Layout) → Alike l (widest n l)
  widest_alike n (Leaf k c) = leaf tt
  widest_alike n (ByteRange t d c) = byte_range tt tt
  widest_alike n (ItemRange h d c l) = item_range tt tt (widest_alike n l)
  widest_alike n (Optional w l) = optional tt (widest_alike n l)
  widest_alike n (Struct ls) = struct (all_widest_alike n ls)

  pub all_widest_alike : (n : Version) (ls : Layouts) → AllLeafwise (λ (k : LeafKind) (c : Coded) (d : Coded). Unit {0}) (λ (v : ℕ) (w : ℕ). Unit {0}) (λ (v : ℕ) (w : ℕ). Unit {0}) ls (widest_all n ls)
  all_widest_alike n NoField = no_field
  all_widest_alike n (Field i l ls) = field (widest_alike n l) (all_widest_alike n ls)

least_of_kind : (k : Whole) → InBits (value_bits k) (pos 0 -ℤ pos (2 ^ value_bits k))
least_of_kind I8 = omega arith
least_of_kind I16 = omega arith
least_of_kind I32 = omega arith
least_of_kind I64 = omega arith

leaf_coded : (n : Version) (k : LeafKind) → IsCoded n k (widest_leaf n k)
leaf_coded n Flag = flag_coded
leaf_coded Version1 (Integer k) = signed_coded
leaf_coded Version2 (Integer k) = based_coded (least_of_kind k)

leaf_legal : (n : Version) (k : LeafKind) → width (widest_leaf n k) ≤ greatest k
leaf_legal n Flag = omega arith
leaf_legal Version1 (Integer k) = omega arith
leaf_legal Version2 (Integer k) = omega arith

mutual
  pub widest_coded : (n : Version) (l : Layout) → OfVersion n (widest n l)
  widest_coded n (Leaf k c) = leaf_coded n k
  widest_coded n (ByteRange t d c) = tt
  widest_coded n (ItemRange h d c l) = widest_coded n l
  widest_coded n (Optional w l) = widest_coded n l
  widest_coded n (Struct ls) = all_widest_coded n ls

  pub all_widest_coded : (n : Version) (ls : Layouts) → AllOfVersion n (widest_all n ls)
  all_widest_coded n NoField = tt
  all_widest_coded n (Field i l ls) = (widest_coded n l, all_widest_coded n ls)

mutual
  pub widest_legal : (n : Version) (l : Layout) → Legal (widest n l)
  widest_legal n (Leaf k c) = leaf_legal n k
  widest_legal n (ByteRange t d c) = (omega arith, omega arith)
  widest_legal n (ItemRange h d c l) = (omega arith, omega arith, widest_legal n l)
  widest_legal n (Optional w l) = (omega arith, widest_legal n l)
  widest_legal n (Struct ls) = all_widest_legal n ls

  pub all_widest_legal : (n : Version) (ls : Layouts) → AllLegal (widest_all n ls)
  all_widest_legal n NoField = tt
  all_widest_legal n (Field i l ls) = (widest_legal n l, all_widest_legal n ls)

-- a number of the kind fits
flag_fits : (b : Bool) → Fits (Unsigned 1) (number_of (Truth b))
flag_fits true = record { reached = tt; wide = digits_within 1 1 (omega arith) }
flag_fits false = record { reached = tt; wide = digits_within 0 1 (omega arith) }

signed_fits : (v : ℕ) (z : ℤ) → InBits v z → need_signed z ≤ suc v
signed_fits v (pos zero) h = omega arith
signed_fits v (pos (suc m)) h = omega (arith, digits_within (suc m) v h)
signed_fits v (negsuc m) h = omega (arith, digits_within m v h)

low_base : (v : ℕ) (z : ℤ) → InBits v z → (pos 0 -ℤ pos (2 ^ v)) ≤ℤ z
low_base v (pos m) h = omega (arith, ints)
low_base v (negsuc m) h = omega (arith, ints)

low_gap : (v : ℕ) (z : ℤ) → InBits v z → nat_abs (z -ℤ (pos 0 -ℤ pos (2 ^ v))) < 2 ^ suc v
low_gap v (pos m) h = omega (arith, ints, pow-suc 2 v)
low_gap v (negsuc m) h = omega (arith, ints, pow-suc 2 v)

leaf_fits : (n : Version) (k : LeafKind) (x : Atom) → IsOf k x → Fits (widest_leaf n k) (number_of x)
leaf_fits n Flag (Truth b) o = flag_fits b
leaf_fits n Flag (Number z) o = absurd o
leaf_fits n (Integer k) (Truth b) o = absurd o
leaf_fits Version1 (Integer k) (Number z) o = record { reached = tt; wide = signed_fits (value_bits k) z o }
leaf_fits Version2 (Integer k) (Number z) o = record { reached = low_base (value_bits k) z o; wide = digits_within (nat_abs (z -ℤ (pos 0 -ℤ pos (2 ^ value_bits k)))) (suc (value_bits k)) (low_gap (value_bits k) z o) }

distance_fits : (n at : ℕ) → at < 2 ^ 32 → digits (distance n at) ≤ 32
distance_fits zero at h = digits_within 0 32 (omega arith)
distance_fits (suc n) at h = digits_within at 32 h

count_fits : (n : ℕ) → n < 2 ^ 31 → digits n ≤ 32
count_fits n h = digits_within n 32 (omega arith)

module _ (n : Version) where
  mutual
    widest_fits : {l : Layout} {v : Value} → Of l v → (at : ℕ) → at + extent (widest n l) v < 2 ^ 32 → HoldsAt (widest n l) v at
    widest_fits (one {k = k} {x = x} o) at h = leaf_fits n k x o
    widest_fits (bytes {bs = bs} o p u) at h = (distance_fits (length bs) at (omega arith), count_fits (length bs) o)
    widest_fits (items {l = l} {vs = vs} o ri hs) at h =
        ((distance_fits (count vs) at (omega arith), count_fits (count vs) o), widest_fits_each hs (bytes_for (count vs * stride (widest n l))) (omega arith))
    widest_fits absent at h = tt
    widest_fits (present k) at h = (omega arith, widest_fits k at h)
    widest_fits (record_of e hs) at h = widest_fits_all hs at h

    widest_fits_each : {l : Layout} {vs : Values} → OfEach l vs → (at : ℕ) → at + extents (widest n l) vs < 2 ^ 32 → HoldsEach (widest n l) vs at
    widest_fits_each none at h = tt
    widest_fits_each (more {l = l} {v = v} k ks) at h = (widest_fits k at (omega arith), widest_fits_each ks (at + extent (widest n l) v) (omega arith))

    widest_fits_all : {ls : Layouts} {vs : Values} → OfAll ls vs → (at : ℕ) → at + extent_all (widest_all n ls) vs < 2 ^ 32 → HoldsAll (widest_all n ls) vs at
    widest_fits_all no_part at h = tt
    widest_fits_all (part {l = l} {v = v} k ks) at h = (widest_fits k at (omega arith), widest_fits_all ks (at + extent (widest n l) v) (omega arith))

-- cells do not turn on what stands at the leaves
mutual
  inline_same : {A B C D : Type 0} {R : LeafKind → A → C → Type 0} {S T : B → D → Type 0} {l : Tree A B} {m : Tree C D} → Leafwise R S T l m → inline_cells l ≡ inline_cells m
  inline_same (leaf h) = refl
  inline_same (byte_range h i) = refl
  inline_same (item_range h i x) = refl
  inline_same (optional h x) = omega (arith, inline_same x)
  inline_same (struct xs) = all_inline_same xs

  all_inline_same : {A B C D : Type 0} {R : LeafKind → A → C → Type 0} {S T : B → D → Type 0} {ls : Trees A B} {ms : Trees C D} → AllLeafwise R S T ls ms → inline_cells_all ls ≡ inline_cells_all ms
  all_inline_same no_field = refl
  all_inline_same (field x xs) = omega (arith, inline_same x, all_inline_same xs)

mutual
  pub range_cells_same : {A B C D : Type 0} {R : LeafKind → A → C → Type 0} {S T : B → D → Type 0} {l : Tree A B} {m : Tree C D} {v : Value} → Of l v → Leafwise R S T l m → range_cells l v ≡ range_cells m v
  range_cells_same (one o) (leaf h) = refl
  range_cells_same (bytes o p u) (byte_range h i) = refl
  range_cells_same (items {vs = vs} o ri hs) (item_range h i x) = omega (arith, ap (λ k. count vs * suc k) (inline_same x), each_range_cells_same hs x)
  range_cells_same absent (optional h x) = refl
  range_cells_same (present k) (optional h x) = range_cells_same k x
  range_cells_same (record_of e hs) (struct xs) = all_range_cells_same hs xs

  each_range_cells_same : {A B C D : Type 0} {R : LeafKind → A → C → Type 0} {S T : B → D → Type 0} {l : Tree A B} {m : Tree C D} {vs : Values} → OfEach l vs → Leafwise R S T l m → range_cells_each l vs ≡ range_cells_each m vs
  each_range_cells_same none x = refl
  each_range_cells_same (more h hs) x = omega (arith, range_cells_same h x, each_range_cells_same hs x)

  all_range_cells_same : {A B C D : Type 0} {R : LeafKind → A → C → Type 0} {S T : B → D → Type 0} {ls : Trees A B} {ms : Trees C D} {vs : Values} → OfAll ls vs → AllLeafwise R S T ls ms → range_cells_all ls vs ≡ range_cells_all ms vs
  all_range_cells_same no_part no_field = refl
  all_range_cells_same (part h hs) (field x xs) = omega (arith, range_cells_same h x, all_range_cells_same hs xs)

pub cells_same : {A B C D : Type 0} {R : LeafKind → A → C → Type 0} {S T : B → D → Type 0} {l : Tree A B} {m : Tree C D} {v : Value} → Of l v → Leafwise R S T l m → cells l v ≡ cells m v
cells_same o x = omega (arith, cells_are o, cells_are (of_leafwise o x), inline_same x, range_cells_same o x)

-- the widest layout holds the value
pub widest_holds : (n : Version) (l : Layout) (v : Value) → Of l v → cells l v ≤ cell_limit → Holds (widest n l) v
widest_holds n l v o few =
    let w = widest n l in
    let ow = of_leafwise o (widest_alike n l) in
    let at = bytes_for (stride w) in
    let small : at + extent w v < 2 ^ 32 = omega (arith, whole_cells w v ow (widest_legal n l), cells_same o (widest_alike n l)) in
    record { of_kind = ow; fits = fit_at ow at (widest_fits n o at small) }

-- what is below a legal layout is legal
mutual
  pub legal_under : {l m : Layout} → Narrower l m → Legal m → Legal l
  legal_under (leaf h) g = omega arith
  legal_under (byte_range h i) g = (omega arith, omega arith)
  legal_under (item_range h i x) g = (omega arith, omega arith, legal_under x g.2)
  legal_under (optional h x) g = (omega arith, legal_under x g.1)
  legal_under (struct xs) g = all_legal_under xs g

  all_legal_under : {ls ms : Layouts} → AllNarrower ls ms → AllLegal ms → AllLegal ls
  all_legal_under no_field g = tt
  all_legal_under (field x xs) g = (legal_under x g.0, all_legal_under xs g.1)

pub passes_legal : (n : Version) (r : ℕ) (l : Layout) (v : Value) → IsStart n l v → cells l v ≤ cell_limit → Legal (passes r l v)
passes_legal n r l v s few =
    legal_under (passes_under r l (widest n l) v (start_grows s) (start_under s (widest_alike n l)) (widest_coded n l) (widest_holds n l v s.of_kind few)) (widest_legal n l)

-- where passes rest the layout is the least
pub rest_is_least : (n : Version) (relaxed : Bool) (r : ℕ) (l : Layout) (v : Value) → MayRelax n relaxed → IsStruct l → IsKindTree l → IsStart n l v
    → cells l v ≤ cell_limit → pass (passes r l v) v ≡ passes r l v → Least (described n relaxed (passes r l v)) v
rest_is_least n relaxed r l v may root kind_tree s few e =
    let up = passes_wider r l v (start_grows s) in
    let at = rests n r l v s e in
    record {
      is_layout = record {
        relaxing = may;
        layout = record { root = struct_along up root; kind_tree = kind_tree_along up kind_tree; coded = at.coded; legal = passes_legal n r l v s few };
      };
      holds = at.holds;
      least = at.least;
      based = at.based;
      tight = at.tight;
    }

-- ---- rest

-- the sum of the widths of the distances
abbrev mutual
  pub distance_widths : Layout → ℕ
  distance_widths (Leaf k c) = 0
  distance_widths (ByteRange t d c) = d
  distance_widths (ItemRange h d c l) = d + distance_widths l
  distance_widths (Optional w l) = distance_widths l
  distance_widths (Struct ls) = distance_widths_all ls

  distance_widths_all : Layouts → ℕ
  distance_widths_all NoField = 0
  distance_widths_all (Field i l ls) = distance_widths l + distance_widths_all ls

digits_small : (ns : List ℕ) → AllByRecursion (λ (d : ℕ). d < 2 ^ 29) ns → greatest_digits ns ≤ 29
digits_small [] h = omega arith
digits_small (n ∷ ns) h = omega (arith, digits_within n 29 h.0, digits_small ns h.1)

-- distances that are as wide as distances below 2 ^ 29 need
mutual
  widths_below : {R : LeafKind → Coded → List ℤ → Type 0} {T : ℕ → List ℕ → Type 0} {l : Layout} {p : Puts} → Leafwise R (λ (w : ℕ) (ns : List ℕ). w ≤ greatest_digits ns) T l p → EachDistance (λ (d : ℕ). d < 2 ^ 29) p → distance_widths l ≤ 29 * ranges l
  widths_below (leaf h) e = omega arith
  widths_below (byte_range {d' = ds} h i) e = omega (arith, digits_small ds e)
  widths_below (item_range {d' = ds} h i x) e = omega (arith, digits_small ds e.0, widths_below x e.1)
  widths_below (optional h x) e = widths_below x e
  widths_below (struct xs) e = all_widths_below xs e

  all_widths_below : {R : LeafKind → Coded → List ℤ → Type 0} {T : ℕ → List ℕ → Type 0} {l : Layouts} {p : AllPuts} → AllLeafwise R (λ (w : ℕ) (ns : List ℕ). w ≤ greatest_digits ns) T l p → EachDistanceAmong (λ (d : ℕ). d < 2 ^ 29) p → distance_widths_all l ≤ 29 * ranges_all l
  all_widths_below no_field e = omega arith
  all_widths_below (field x xs) e = omega (arith, widths_below x e.0, all_widths_below xs e.1)

mutual
  pub ranges_same : {A B C D : Type 0} {R : LeafKind → A → C → Type 0} {S T : B → D → Type 0} {l : Tree A B} {m : Tree C D} → Leafwise R S T l m → ranges l ≡ ranges m
  ranges_same (leaf h) = refl
  ranges_same (byte_range h i) = refl
  ranges_same (item_range h i x) = omega (arith, ranges_same x)
  ranges_same (optional h x) = ranges_same x
  ranges_same (struct xs) = all_ranges_same xs

  all_ranges_same : {A B C D : Type 0} {R : LeafKind → A → C → Type 0} {S T : B → D → Type 0} {ls : Trees A B} {ms : Trees C D} → AllLeafwise R S T ls ms → ranges_all ls ≡ ranges_all ms
  all_ranges_same no_field = refl
  all_ranges_same (field x xs) = omega (arith, ranges_same x, all_ranges_same xs)

-- the same of the fields of a struct
abbrev AllFilled : Layouts → AllPuts → Type 0
AllFilled l p = AllLeafwise (λ (k : LeafKind) (c : Coded) (xs : List ℤ). greatest_need c xs ≤ width c) (λ (w : ℕ) (ns : List ℕ). Unit {0}) (λ (w : ℕ) (ns : List ℕ). greatest_digits ns ≤ w) l p

pub with_own : (c : Coded) → with_width c (width c) ≡ c
with_own (Unsigned w) = refl
with_own (TwosComplement w) = refl
with_own (FromBase b w) = refl

leaf_rests : (c : Coded) (xs : List ℤ) → greatest_need c xs ≤ width c → with_width c (max (width c) (greatest_need c xs)) ≡ c
leaf_rests c xs h = let e : max (width c) (greatest_need c xs) ≡ width c = omega arith in ap (with_width c) e ∙ with_own c

size_rests : (w n : ℕ) → n ≤ w → max w n ≡ w
size_rests w n h = omega arith

-- a pass makes no distance narrower
mutual
  widths_grow : {l : Layout} {p : Puts} → Filled l p → distance_widths l ≤ distance_widths (widened l p)
  widths_grow (leaf h) = omega arith
  widths_grow (byte_range h i) = omega arith
  widths_grow (item_range h i x) = omega (arith, widths_grow x)
  widths_grow (optional h x) = widths_grow x
  widths_grow (struct xs) = all_widths_grow xs

  all_widths_grow : {l : Layouts} {p : AllPuts} → AllFilled l p → distance_widths_all l ≤ distance_widths_all (widened_all l p)
  all_widths_grow no_field = omega arith
  all_widths_grow (field x xs) = omega (arith, widths_grow x, all_widths_grow xs)

-- it makes one wider, or changes nothing
mutual
  pub wider_or_same : {l : Layout} {p : Puts} → Filled l p → (distance_widths l < distance_widths (widened l p)) ⊎ (widened l p ≡ l)
  wider_or_same (leaf {k = k} {a = c} {c = xs} h) = inr (ap (Leaf k) (leaf_rests c xs h))
  wider_or_same (byte_range {t = t} {d = d} {c = c} {d' = ds} {c' = cs} h i) = elim (cases_lt d (greatest_digits ds)) [
    | inl lt ↦ inl (omega arith)
    | inr le ↦ inr (let e = size_rests d (greatest_digits ds) le in let f = size_rests c (greatest_digits cs) i in cc)
  ]
  wider_or_same (item_range {h = g} {d = d} {c = c} {d' = ds} {c' = cs} h i x) = elim (cases_lt d (greatest_digits ds)) [
    | inl lt ↦ inl (omega (arith, widths_grow x))
    | inr le ↦ elim (wider_or_same x) [
      | inl lt ↦ inl (omega arith)
      | inr same ↦ inr (let e = size_rests d (greatest_digits ds) le in let f = size_rests c (greatest_digits cs) i in cc)
    ]
  ]
  wider_or_same (optional {w = w} {w' = ws} h x) = elim (wider_or_same x) [
    | inl lt ↦ inl lt
    | inr same ↦ inr (let e = size_rests w (greatest_digits ws) h in cc)
  ]
  wider_or_same (struct xs) = elim (all_wider_or_same xs) [
    | inl lt ↦ inl lt
    | inr same ↦ inr (ap Struct same)
  ]

  all_wider_or_same : {l : Layouts} {p : AllPuts} → AllFilled l p → (distance_widths_all l < distance_widths_all (widened_all l p)) ⊎ (widened_all l p ≡ l)
  all_wider_or_same no_field = inr refl
  all_wider_or_same (field x xs) = elim (wider_or_same x) [
    | inl lt ↦ inl (omega (arith, all_widths_grow xs))
    | inr same ↦ elim (all_wider_or_same xs) [
      | inl lt ↦ inl (omega (arith, widths_grow x))
      | inr others ↦ inr cc
    ]
  ]

filled_leaf : (n : Version) (k : LeafKind) (c : Coded) (xs ys : List ℤ) → Grown n k c xs → xs ≡ ys → greatest_need (widened_leaf c xs) ys ≤ width (widened_leaf c xs)
filled_leaf n k c xs ys g e =
    let w = max (width c) (greatest_need c xs) in
    subst (λ zs. greatest_need (widened_leaf c xs) zs ≤ width (widened_leaf c xs)) e (omega (arith, width_with c w, need_with c w xs))

-- after one pass all but the distances are as wide as their numbers need
filled : {n : Version} {l : Layout} {v : Value} → Grows n l v → Filled (pass l v) (puts_of (pass l v) v)
filled {n} g = widened_chain (filled_leaf n) (λ w ms ns h i. tt) (λ w ms ns h e. omega (arith, ap greatest_digits e)) g.leaves (puts_of_grow g.of_kind (pass_wider g))

module _ (n : Version) (l : Layout) (v : Value) (s : IsStart n l v) (few : cells l v ≤ cell_limit) where
  -- a layout that passes reach after the first
  pub record Stage (g : Layout) : Type 0 where
    pub grows : Grows n g v
    pub wider : Narrower l g
    pub under : Narrower g (widest n l)
    pub full : Filled g (puts_of g v)

  passed : {g : Layout} → Grows n g v → Narrower l g → Narrower g (widest n l) → Stage (pass g v)
  passed g w u = record {
    grows = pass_grows g;
    wider = narrower_chain w (pass_wider g);
    under = pass_under g u (widest_coded n l) (widest_holds n l v s.of_kind few);
    full = filled g;
  }

  pub most_wide : {g : Layout} → Stage g → distance_widths g ≤ 29 * ranges l
  most_wide {g} t =
      let cells_are_same : cells l v ≡ cells g v = cells_same s.of_kind t.wider in
      let small = distances_below g v (2 ^ 29) t.grows.of_kind (legal_under t.under (widest_legal n l)) (omega arith) in
      omega (arith, widths_below t.grows.leaves small, ranges_same t.wider)

  -- the first of them, and the next
  pub first_stage : Stage (pass l v)
  first_stage = passed (start_grows s) (narrower_same l) (start_under s (widest_alike n l))

  pub next_stage : {g : Layout} → Stage g → Stage (pass g v)
  next_stage t = passed t.grows t.wider t.under

  from_stage : (k : ℕ) (g : Layout) → Stage g → 29 * ranges l ≤ distance_widths g + k → (r : ℕ) × (r ≤ k) × (pass (passes r g v) v ≡ passes r g v)
  from_stage zero g t h = elim (wider_or_same t.full) [
    | inl lt ↦ absurd (omega (arith, most_wide (next_stage t)))
    | inr same ↦ (0, omega arith, same)
  ]
  from_stage (suc k) g t h = elim (wider_or_same t.full) [
    | inl lt ↦ (let next = from_stage k (pass g v) (next_stage t) (omega arith) in (suc next.0, omega (arith, next.1), next.2))
    | inr same ↦ (0, omega arith, same)
  ]

  pub passes_rest : (r : ℕ) × (r ≤ 1 + 29 * ranges l) × (pass (passes r l v) v ≡ passes r l v)
  passes_rest =
      let first = from_stage (29 * ranges l) (pass l v) first_stage (omega arith) in
      (suc first.0, omega (arith, first.1), first.2)
