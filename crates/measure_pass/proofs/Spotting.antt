-- Ranges of values, and passes over them.
use Rattle.std.proofs.Common.{◌≡◌, ℕ, ◌≤◌, List, [], ◌++◌, max, ℤ, arith, refl, ap, ◌∙◌}
use Rattle.frozen_model.specs.Trees.{LeafKind, Leaf, ByteRange, ItemRange, Optional, Struct, NoField, Field}
use Rattle.frozen_model.specs.Trees.{AllLeafwise, leaf, byte_range, item_range, optional, struct, no_field}
use Rattle.frozen_model.specs.Trees.{field}
use Rattle.frozen_model.specs.Layouts.{Coded, Layout, Layouts, width, with_width}
use Rattle.frozen_model.specs.Holding.{Puts, AllPuts, no_puts, no_puts_all, both, both_all, widened}
use Rattle.frozen_model.specs.Holding.{widened_all, greatest_need, greatest_digits}
use Rattle.frozen_laws.proofs.Puts.{Beside}
use Rattle.frozen_laws.specs.Laws.{Filled}
use Rattle.measure_pass.specs.Spots.{distances, distances_all}

abbrev AllFilled : Layouts → AllPuts → Type 0
AllFilled l p = AllLeafwise (λ (k : LeafKind) (c : Coded) (xs : List ℤ). greatest_need c xs ≤ width c)
    (λ (w : ℕ) (ns : List ℕ). Unit {0}) (λ (w : ℕ) (ns : List ℕ). greatest_digits ns ≤ w) l p

mutual
  pub distances_suffice : {l : Layout} {p : Puts} → Filled l p → widened l p ≡ widened l (distances p)
  distances_suffice (leaf {k = k} {a = c} {c = xs} h) = let e : max (width c) (greatest_need c xs)
      ≡ max (width c) 0 = omega (arith, h) in ap (λ w. Leaf k (with_width c w)) e
  distances_suffice (byte_range {t = t} {d = d} {c = c} {d' = ds} {c' = cs} h g) = let e : max c
      (greatest_digits cs) ≡ max c 0 = omega (arith, g) in ap
      (λ w. ByteRange t (max d (greatest_digits ds)) w) e
  distances_suffice (item_range {h = k} {d = d} {c = c} {d' = ds} {c' = cs} {l = l} {m = p} h g x) =
      let e : max c (greatest_digits cs) ≡ max c 0 = omega (arith, g) in
      ap (λ w. ItemRange k (max d (greatest_digits ds)) w (widened l p)) e
      ∙ ap (λ (m : Layout). ItemRange k (max d (greatest_digits ds)) (max c 0) m) (distances_suffice x)
  distances_suffice (optional {w = w} {w' = ws} {l = l} {m = p} g x) =
      let e : max w (greatest_digits ws) ≡ max w 0 = omega (arith, g) in
      ap (λ z. Optional z (widened l p)) e ∙ ap (λ (m : Layout). Optional (max w 0) m) (distances_suffice x)
  distances_suffice (struct x) = ap (λ (m : Layouts). Struct m) (all_suffice x)

  all_suffice : {l : Layouts} {p : AllPuts} → AllFilled l p → widened_all l p
      ≡ widened_all l (distances_all p)
  all_suffice no_field = refl
  all_suffice (field {i = i} {l = l} {m = p} {ls = ls} {ms = ps} x xs) =
      ap (λ (m : Layout). Field i m (widened_all ls ps)) (distances_suffice x)
      ∙ ap (λ (m : Layouts). Field i (widened l (distances p)) m) (all_suffice xs)

mutual
  pub distances_none : (l : Layout) → distances (no_puts l) ≡ no_puts l
  distances_none (Leaf k c) = refl
  distances_none (ByteRange t d c) = refl
  distances_none (ItemRange h d c l) = ap (λ (p : Puts). ItemRange h [] [] p) (distances_none l)
  distances_none (Optional w l) = ap (λ (p : Puts). Optional [] p) (distances_none l)
  distances_none (Struct ls) = ap (λ (p : AllPuts). Struct p) (distances_none_all ls)

  distances_none_all : (l : Layouts) → distances_all (no_puts_all l) ≡ no_puts_all l
  distances_none_all NoField = refl
  distances_none_all (Field i l ls) = ap (λ (p : Puts). Field i p (distances_all (no_puts_all ls)))
      (distances_none l) ∙ ap (λ (p : AllPuts). Field i (no_puts l) p) (distances_none_all ls)

abbrev AllBeside : Layouts → AllPuts → Type 0
AllBeside l p = AllLeafwise (λ (k : LeafKind) (c : Coded) (xs : List ℤ). Unit {0})
    (λ (w : ℕ) (ns : List ℕ). Unit {0}) (λ (w : ℕ) (ns : List ℕ). Unit {0}) l p

mutual
  pub distances_both : (l : Layout) {p q : Puts} → Beside l p → Beside l q → distances (both p q)
      ≡ both (distances p) (distances q)
  distances_both (Leaf k c) (leaf x) (leaf y) = refl
  distances_both (ByteRange t d c) (byte_range x y) (byte_range z w) = refl
  distances_both (ItemRange h d c l) (item_range {d' = ds} x y a) (item_range {d' = es} z w b) = ap
      (λ (p : Puts). ItemRange h (ds ++ es) [] p) (distances_both l a b)
  distances_both (Optional w l) (optional x a) (optional z b) = ap (λ (p : Puts). Optional [] p)
      (distances_both l a b)
  distances_both (Struct ls) (struct a) (struct b) = ap (λ (p : AllPuts). Struct p)
      (distances_both_all ls a b)

  distances_both_all : (l : Layouts) {p q : AllPuts} → AllBeside l p → AllBeside l q
      → distances_all (both_all p q) ≡ both_all (distances_all p) (distances_all q)
  distances_both_all NoField no_field no_field = refl
  distances_both_all (Field i l ls) (field {m = p} {ms = ps} a xs) (field {m = q} {ms = qs} b ys) =
      ap (λ (x : Puts). Field i x (distances_all (both_all ps qs))) (distances_both l a b)
      ∙ ap (λ (x : AllPuts). Field i (both (distances p) (distances q)) x) (distances_both_all ls xs ys)

mutual
  pub beside_distances : {l : Layout} {p : Puts} → Beside l p → Beside l (distances p)
  beside_distances (leaf x) = leaf tt
  beside_distances (byte_range x y) = byte_range tt tt
  beside_distances (item_range x y a) = item_range tt tt (beside_distances a)
  beside_distances (optional x a) = optional tt (beside_distances a)
  beside_distances (struct a) = struct (beside_distances_all a)

  beside_distances_all : {l : Layouts} {p : AllPuts} → AllBeside l p → AllBeside l (distances_all p)
  beside_distances_all no_field = no_field
  beside_distances_all (field a xs) = field (beside_distances a) (beside_distances_all xs)
