-- Passes stay below each layout that holds the value, and where they rest the layout holds it.
use Rattle.std.proofs.Common.{◌≡◌, ℕ, zero, suc, ◌≤◌, max, List, arith, ap, sym, ◌∙◌, subst, ℤ}
use Rattle.std.specs.List.{AllByRecursion}
use Rattle.frozen_model.specs.Trees.{LeafKind, Leafwise, AllLeafwise, leaf, byte_range, item_range, optional, struct, no_field, field, Alike}
use Rattle.frozen_model.specs.Values.{Value, Of}
use Rattle.frozen_model.specs.Layouts.{Version, Version1, IsCoded, flag_coded, signed_coded, Coded, Layout, Layouts, OfVersion, AllOfVersion, Narrower, width, stride, Fits}
use Rattle.frozen_model.specs.Packing.{bytes_for}
use Rattle.frozen_model.specs.Holding.{Puts, AllPuts, puts_of, Holds, IsBasedOn, greatest_need, greatest_digits, pass, passes, Blank, IsStart, Based, Tight}
use Rattle.frozen_laws.proofs.Growth.{stride_le, bytes_for_le}
use Rattle.frozen_laws.proofs.Leafwise.{leafwise_map, leafwise_chain, leafwise_flip, leafwise_same, widened_leaf, widened_right, widened_chain, widened_rests, with_version, with_blank}
use Rattle.frozen_laws.proofs.Leaves.{width_with, coded_with, need_with, based_with, need_le, tight_fits, digits_le_mono, digits_fit, fit_digits}
use Rattle.frozen_laws.proofs.Puts.{of_leafwise, puts_beside, puts_grow, AtMost}

-- a leaf that has its coding and its base, and is at most as wide as its numbers need
pub record Grown (n : Version) (k : LeafKind) (c : Coded) (xs : List ℤ) : Type 0 where
  pub coded : IsCoded n k c
  pub based : IsBasedOn c xs
  pub most : width c ≤ greatest_need c xs

mutual
  version_of : (n : Version) {R : LeafKind → Coded → List ℤ → Type 0} {S T : ℕ → List ℕ → Type 0} {l : Layout} {p : Puts}
      → ((k : LeafKind) (c : Coded) (xs : List ℤ) → R k c xs → IsCoded n k c) → Leafwise R S T l p → OfVersion n l
  version_of n f (leaf h) = f _ _ _ h
  version_of n f (byte_range h i) = tt
  version_of n f (item_range h i x) = version_of n f x
  version_of n f (optional h x) = version_of n f x
  version_of n f (struct xs) = all_version_of n f xs

  all_version_of : (n : Version) {R : LeafKind → Coded → List ℤ → Type 0} {S T : ℕ → List ℕ → Type 0} {l : Layouts} {p : AllPuts}
      → ((k : LeafKind) (c : Coded) (xs : List ℤ) → R k c xs → IsCoded n k c) → AllLeafwise R S T l p → AllOfVersion n l
  all_version_of n f no_field = tt
  all_version_of n f (field x xs) = (version_of n f x, all_version_of n f xs)

-- a layout of whose leaves that holds
pub record Grows (n : Version) (l : Layout) (v : Value) : Type 0 where
  pub of_kind : Of l v
  pub leaves : Leafwise (λ (k : LeafKind) (c : Coded) (xs : List ℤ). Grown n k c xs) (λ (w : ℕ) (ns : List ℕ). w ≤ greatest_digits ns) (λ (w : ℕ) (ns : List ℕ). w ≤ greatest_digits ns) l (puts_of l v)

pub narrower_same : (l : Layout) → Narrower l l
narrower_same l = leafwise_same (λ k c. omega arith) (λ w. omega arith) (λ w. omega arith) l

pub narrower_chain : {l m n : Layout} → Narrower l m → Narrower m n → Narrower l n
narrower_chain x y = leafwise_chain (λ k a c e h i. omega arith) (λ b d f h i. omega arith) (λ b d f h i. omega arith) x y

pub puts_of_grow : {l m : Layout} {v : Value} → Of l v → Narrower l m → AtMost (puts_of l v) (puts_of m v)
puts_of_grow {l} {m} h x = puts_grow h x (bytes_for (stride l)) (bytes_for (stride m)) (omega (arith, bytes_for_le 1 (stride l) (stride m) (stride_le x)))

widened_wider : (n : Version) (k : LeafKind) (c : Coded) (xs : List ℤ) → Grown n k c xs → width c ≤ width (widened_leaf c xs)
widened_wider n k c xs g = omega (arith, width_with c (max (width c) (greatest_need c xs)))

-- a pass only widens
pub pass_wider : {n : Version} {l : Layout} {v : Value} → Grows n l v → Narrower l (pass l v)
pass_wider {n} g = widened_right (widened_wider n) (λ w ns h. omega arith) (λ w ns h. omega arith) g.leaves

grown_again : (n : Version) (k : LeafKind) (c : Coded) (xs ys : List ℤ) → Grown n k c xs → xs ≡ ys → Grown n k (widened_leaf c xs) ys
grown_again n k c xs ys g e =
    let w = max (width c) (greatest_need c xs) in
    subst (λ zs. Grown n k (widened_leaf c xs) zs) e
    (record { coded = coded_with g.coded w; based = based_with c w xs g.based; most = omega (arith, g.most, width_with c w, need_with c w xs) })

pub pass_grows : {n : Version} {l : Layout} {v : Value} → Grows n l v → Grows n (pass l v) v
pass_grows {n} g =
    let up = pass_wider g in
    record {
      of_kind = of_leafwise g.of_kind up;
      leaves = widened_chain (grown_again n) (λ w ms ns h le. omega (arith, digits_le_mono le)) (λ w ms ns h e. omega (arith, ap greatest_digits e)) g.leaves (puts_of_grow g.of_kind up);
    }

-- numbers that fit a leaf of the version
pub record Held (n : Version) (k : LeafKind) (xs : List ℤ) (d : Coded) : Type 0 where
  pub coded : IsCoded n k d
  pub fits : AllByRecursion (Fits d) xs

pub held : (n : Version) (k : LeafKind) (xs ys : List ℤ) (d : Coded) → xs ≡ ys → AllByRecursion (Fits d) ys × IsCoded n k d → Held n k xs d
held n k xs ys d e h = record { coded = h.1; fits = subst (λ zs. AllByRecursion (Fits d) zs) (sym e) h.0 }

narrow_leaf : (n : Version) (k : LeafKind) (c : Coded) (xs : List ℤ) (d : Coded) → Grown n k c xs → Held n k xs d → width (widened_leaf c xs) ≤ width d
narrow_leaf n k c xs d g h = omega (arith, width_with c (max (width c) (greatest_need c xs)), g.most, need_le xs g.coded h.coded g.based h.fits)

-- a pass from below a layout that holds the value stays below it
pub pass_under : {n : Version} {l m : Layout} {v : Value} → Grows n l v → Narrower l m → OfVersion n m → Holds m v → Narrower (pass l v) m
pass_under {n} g x o h =
    let fit = leafwise_flip (with_version n h.fits o) in
    let down = leafwise_chain {R'' = λ (k : LeafKind) (xs : List ℤ) (d : Coded). Held n k xs d} {S'' = λ (ns : List ℕ) (w : ℕ). greatest_digits ns ≤ w} {T'' = λ (ns : List ℕ) (w : ℕ). greatest_digits ns ≤ w}
    (held n) (λ ms ns w le f. omega (arith, digits_le_mono le, digits_fit ns w f)) (λ ms ns w e f. omega (arith, ap greatest_digits e, digits_fit ns w f)) (puts_of_grow g.of_kind x) fit in
    widened_chain (narrow_leaf n) (λ w ns d h i. omega arith) (λ w ns d h i. omega arith) g.leaves down

pub passes_under : {n : Version} (r : ℕ) (l m : Layout) (v : Value) → Grows n l v → Narrower l m → OfVersion n m → Holds m v → Narrower (passes r l v) m
passes_under zero l m v g x o h = x
passes_under (suc r) l m v g x o h = passes_under r (pass l v) m v (pass_grows g) (pass_under g x o h) o h

pub passes_grow : {n : Version} (r : ℕ) (l : Layout) (v : Value) → Grows n l v → Grows n (passes r l v) v
passes_grow zero l v g = g
passes_grow (suc r) l v g = passes_grow r (pass l v) v (pass_grows g)

pub passes_wider : {n : Version} (r : ℕ) (l : Layout) (v : Value) → Grows n l v → Narrower l (passes r l v)
passes_wider zero l v g = narrower_same l
passes_wider (suc r) l v g = narrower_chain (pass_wider g) (passes_wider r (pass l v) v (pass_grows g))

start_leaf : (n : Version) (k : LeafKind) (c : Coded) (xs : List ℤ) → (IsBasedOn c xs × IsCoded n k c) × (width c ≡ 0) → Grown n k c xs
start_leaf n k c xs h = record { coded = h.0.1; based = h.0.0; most = omega (arith, h.1) }

pub start_grows : {n : Version} {l : Layout} {v : Value} → IsStart n l v → Grows n l v
start_grows {n} s = record { of_kind = s.of_kind; leaves = leafwise_map (start_leaf n) (λ w ns h. omega (arith, h.1)) (λ w ns h. omega (arith, h.1)) (with_blank (with_version n s.based s.coded) s.blank) }

pub first_based : (k : LeafKind) (c : Coded) (xs : List ℤ) → IsCoded Version1 k c → IsBasedOn c xs
first_based k c xs flag_coded = tt
first_based k c xs signed_coded = tt

-- in version 1 there are no bases
pub blank_starts : (l : Layout) (v : Value) → Of l v → OfVersion Version1 l → Blank l → IsStart Version1 l v
blank_starts l v o i b = record {
  of_kind = o;
  coded = i;
  blank = b;
  based = leafwise_map (λ k c xs h. first_based k c xs h.1) (λ w ns h. tt) (λ w ns h. tt) (with_version Version1 (puts_beside o (bytes_for (stride l))) i);
}

-- where measuring begins no leaf is wider than in another layout of its kinds
pub start_under : {n : Version} {l m : Layout} {v : Value} → IsStart n l v → Alike l m → Narrower l m
start_under s same = leafwise_map (λ k c d x. omega (arith, x.1)) (λ w d x. omega (arith, x.1)) (λ w d x. omega (arith, x.1)) (with_blank same s.blank)

tight_leaf : (n : Version) (k : LeafKind) (c : Coded) (xs : List ℤ) → Grown n k c xs → widened_leaf c xs ≡ c → IsBasedOn c xs × (width c ≡ greatest_need c xs)
tight_leaf n k c xs g e =
    let same : max (width c) (greatest_need c xs) ≡ width c = sym (width_with c (max (width c) (greatest_need c xs))) ∙ ap width e in
    (g.based, omega (arith, g.most))

tight_size : (w : ℕ) (ns : List ℕ) → w ≤ greatest_digits ns → max w (greatest_digits ns) ≡ w → w ≡ greatest_digits ns
tight_size w ns h e = omega arith

-- a layout at which passes rest is the least but for the limits
pub record AtRest (n : Version) (l : Layout) (v : Value) : Type 0 where
  pub coded : OfVersion n l
  pub holds : Holds l v
  pub least : (m : Layout) → Alike l m → OfVersion n m → Holds m v → Narrower l m
  pub based : Based l (puts_of l v)
  pub tight : Tight l (puts_of l v)

pub rests : (n : Version) (r : ℕ) (l : Layout) (v : Value) → IsStart n l v → pass (passes r l v) v ≡ passes r l v → AtRest n (passes r l v) v
rests n r l v s e =
    let f = passes r l v in
    let start = start_grows s in
    let g = passes_grow r l v start in
    let both = widened_rests {R' = λ (k : LeafKind) (c : Coded) (xs : List ℤ). IsBasedOn c xs × (width c ≡ greatest_need c xs)} {S' = λ (w : ℕ) (ns : List ℕ). w ≡ greatest_digits ns} {T' = λ (w : ℕ) (ns : List ℕ). w ≡ greatest_digits ns}
    (tight_leaf n) tight_size tight_size g.leaves e in
    record {
      coded = version_of n (λ k c xs h. h.coded) g.leaves;
      holds = record { of_kind = g.of_kind; fits = leafwise_map (λ k c xs h. tight_fits c xs h.0 (omega (arith, h.1))) (λ w ns h. fit_digits ns w (omega arith)) (λ w ns h. fit_digits ns w (omega arith)) both };
      least = λ m same o h.
          let alike : Alike l m = leafwise_chain (λ k a c d x y. tt) (λ a c d x y. tt) (λ a c d x y. tt) (passes_wider r l v start) same in
          passes_under r l m v start (start_under s alike) o h;
      based = leafwise_map (λ k c xs h. h.0) (λ w ns h. tt) (λ w ns h. tt) both;
      tight = leafwise_map (λ k c xs h. h.1) (λ w ns h. h) (λ w ns h. h) both;
    }
