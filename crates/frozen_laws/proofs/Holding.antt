-- To hold a value is that each number fits, by recursion over the value.
use Rattle.std.proofs.Common.{◌≡◌, ℕ, ◌+◌, ◌*◌, ◌≤◌, List, ℤ, arith, refl}
use Rattle.std.specs.List.{AllByRecursion}
use Rattle.frozen_model.specs.Bits.{need_unsigned, digits}
use Rattle.frozen_model.specs.Trees.{LeafKind, AllLeafwise, leaf, byte_range, item_range, optional, struct, no_field, field}
use Rattle.frozen_model.specs.Values.{Value, Values, count, Of, one, bytes, items, absent, present, record_of, OfEach, none, more, OfAll, no_part, part}
use Rattle.frozen_model.specs.Layouts.{Layout, Layouts, Coded, Fits, stride}
use Rattle.frozen_model.specs.Packing.{extent, bytes_for}
use Rattle.frozen_model.specs.Holding.{AllPuts, puts, puts_each, puts_all, AllFit}
use Rattle.frozen_laws.specs.Everywhere.{HoldsAt, HoldsEach, HoldsAll}
use Rattle.frozen_laws.proofs.Leafwise.{leaf_of, blob_of, range_of, optional_of, struct_of, field_of, no_puts_right, both_right, both_parts}
use Rattle.frozen_laws.proofs.Leaves.{all_join, all_split}
use Rattle.frozen_laws.proofs.Puts.{puts_beside, puts_each_beside}

abbrev pub AllFitAmong : Layouts → AllPuts → Type 0
AllFitAmong l p = AllLeafwise (λ (k : LeafKind) (c : Coded) (xs : List ℤ). AllByRecursion (Fits c) xs) (λ (w : ℕ) (ns : List ℕ). AllByRecursion (λ (n : ℕ). need_unsigned n ≤ w) ns) (λ (w : ℕ) (ns : List ℕ). AllByRecursion (λ (n : ℕ). need_unsigned n ≤ w) ns) l p

digits_one : digits 1 ≡ 1
unfolding digits
digits_one = refl

mutual
  pub fit_at : {l : Layout} {v : Value} → Of l v → (at : ℕ) → HoldsAt l v at → AllFit l (puts l v at)
  fit_at (one o) at f = leaf (f, tt)
  fit_at (bytes o p u) at f = byte_range (f.0, tt) (f.1, tt)
  fit_at (items {l = l} {vs = vs} o ri hs) at f = item_range (f.0.0, tt) (f.0.1, tt) (fit_each hs (bytes_for (count vs * stride l)) f.1)
  fit_at (absent {l = l}) at f = optional tt (no_puts_right (λ k c. tt) (λ w. tt) (λ w. tt) l)
  fit_at (present h) at f = optional (omega (arith, digits_one, f.0), tt) (fit_at h at f.1)
  fit_at (record_of e hs) at f = struct (fit_all hs at f)

  pub fit_each : {l : Layout} {vs : Values} → OfEach l vs → (at : ℕ) → HoldsEach l vs at → AllFit l (puts_each l vs at)
  fit_each (none {l = l}) at f = no_puts_right (λ k c. tt) (λ w. tt) (λ w. tt) l
  fit_each (more {l = l} {v = v} h hs) at f =
      both_right (λ k c xs ys x y. all_join (Fits c) xs ys x y) (λ w ms ns x y. all_join (λ (n : ℕ). need_unsigned n ≤ w) ms ns x y) (λ w ms ns x y. all_join (λ (n : ℕ). need_unsigned n ≤ w) ms ns x y) (fit_at h at f.0) (fit_each hs (at + extent l v) f.1)

  pub fit_all : {ls : Layouts} {vs : Values} → OfAll ls vs → (at : ℕ) → HoldsAll ls vs at → AllFitAmong ls (puts_all ls vs at)
  fit_all no_part at f = no_field
  fit_all (part {l = l} {v = v} h hs) at f = field (fit_at h at f.0) (fit_all hs (at + extent l v) f.1)

mutual
  pub at_fit : {l : Layout} {v : Value} → Of l v → (at : ℕ) → AllFit l (puts l v at) → HoldsAt l v at
  at_fit (one o) at f = (leaf_of f).0
  at_fit (bytes o p u) at f = let b = blob_of f in (b.0.0, b.1.0)
  at_fit (items {l = l} {vs = vs} o ri hs) at f = let b = range_of f in ((b.0.0, b.1.0), each_fit hs (bytes_for (count vs * stride l)) b.2)
  at_fit absent at f = tt
  at_fit (present h) at f = let b = optional_of f in (omega (arith, digits_one, b.0.0), at_fit h at b.1)
  at_fit (record_of e hs) at f = all_fit hs at (struct_of f)

  pub each_fit : {l : Layout} {vs : Values} → OfEach l vs → (at : ℕ) → AllFit l (puts_each l vs at) → HoldsEach l vs at
  each_fit none at f = tt
  each_fit (more {l = l} {v = v} h hs) at f =
      let two = both_parts {R' = λ (k : LeafKind) (c : Coded) (xs : List ℤ). AllByRecursion (Fits c) xs} {S' = λ (w : ℕ) (ns : List ℕ). AllByRecursion (λ (n : ℕ). need_unsigned n ≤ w) ns} {T' = λ (w : ℕ) (ns : List ℕ). AllByRecursion (λ (n : ℕ). need_unsigned n ≤ w) ns}
      (λ k c xs ys x. all_split (Fits c) xs ys x) (λ w ms ns x. all_split (λ (n : ℕ). need_unsigned n ≤ w) ms ns x) (λ w ms ns x. all_split (λ (n : ℕ). need_unsigned n ≤ w) ms ns x) (puts_beside h at) (puts_each_beside hs (at + extent l v)) f in
      (at_fit h at two.0, each_fit hs (at + extent l v) two.1)

  pub all_fit : {ls : Layouts} {vs : Values} → OfAll ls vs → (at : ℕ) → AllFitAmong ls (puts_all ls vs at) → HoldsAll ls vs at
  all_fit no_part at f = tt
  all_fit (part {l = l} {v = v} h hs) at f = let b = field_of f in (at_fit h at b.0, all_fit hs (at + extent l v) b.1)
