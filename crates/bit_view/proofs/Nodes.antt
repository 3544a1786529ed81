-- The node of a part.
use Rattle.std.proofs.Common.{◌≡◌, ℕ, zero, suc, ◌+◌, ◌-◌, ◌≤◌, ◌<◌, true, false, nat_lt, arith, refl}
use Rattle.std.proofs.Common.{subst, if◌then◌else◌, Bool}
use Rattle.std.proofs.Math.Logic.{∥∥₁_elim}
use Rattle.std.proofs.Math.Bridge.{le_prop}
use Rattle.std.proofs.lemmas.Bool.Decides.{nat_tests}
use Rattle.frozen_model.specs.Trees.{Leaf, ByteRange, ItemRange, Optional, Struct, NoField, Field, nodes}
use Rattle.frozen_model.specs.Trees.{Part}
use Rattle.frozen_model.specs.Trees.{itself, in_item, in_optional, in_struct, PartAll, in_first, in_later}
use Rattle.frozen_model.specs.Layouts.{Version, Layout}
use Rattle.layout_tree.specs.Listing.{Noted, AllNoted, layout_in, sub, sub_all}
use Rattle.layout_tree.proofs.Subs.{part_low, part_low_all, part_high, below_test, above_test}
use Rattle.layout_tree.proofs.Place.{some_nodes}
use Rattle.layout_tree.proofs.Told.{told_child}

-- ---- a number is that of a part, or not

-- 1 where the k-th node after a tree's own is that of a part, else 0
abbrev mutual
  part_n : Noted → ℕ → ℕ
  part_n t zero = 1
  part_n (ItemRange h d c l) (suc (suc (suc k))) = part_n l k
  part_n (Optional w l) (suc (suc k)) = part_n l k
  part_n (Struct ls) (suc k) = part_all_n ls k
  part_n t k = 0

  part_all_n : AllNoted → ℕ → ℕ
  part_all_n NoField k = 0
  part_all_n (Field id l ls) k = if nat_lt k (nodes l) then part_n l k else part_all_n ls (k - nodes l)

record Below (m n : ℕ) (b : Bool) : Type 0 where
  yes : b ≡ true → m < n
  no : b ≡ false → n ≤ m

below : (m n : ℕ) → Below m n (nat_lt m n)
below m n = record {
  yes = λ e. grind (arith, nat_tests);
  no = λ e. grind (arith, nat_tests);
}

first_or_later : (id : ℕ) (l : Noted) (ls : AllNoted) (i k : ℕ) (b : Bool) → Below k (nodes l) b
    → (1 ≤ part_n l k → Part l i (sub l k) (i + k))
    → (1 ≤ part_all_n ls (k - nodes l)
    → PartAll ls (i + nodes l) (sub_all ls (k - nodes l)) (i + nodes l + (k - nodes l)))
    → 1 ≤ (if b then part_n l k else part_all_n ls (k - nodes l))
    → PartAll (Field id l ls) i (if b then sub l k else sub_all ls (k - nodes l)) (i + k)
first_or_later id l ls i k true w first later h = in_first (first h)
first_or_later id l ls i k false w first later h =
    let le : nodes l ≤ k = w.no refl in
    let e : i + nodes l + (k - nodes l) ≡ i + k = omega arith in
    subst (λ n. PartAll (Field id l ls) i (sub_all ls (k - nodes l)) n) e (in_later (later h))

mutual
  unfolding sub

  part_from : (t : Noted) (i k : ℕ) → 1 ≤ part_n t k → Part t i (sub t k) (i + k)
  part_from t i zero h = let e : i ≡ i + 0 = omega arith in subst (λ n. Part t i t n) e itself
  part_from (ItemRange g d c l) i (suc (suc (suc k))) h =
      let e : suc (suc (suc i)) + k ≡ i + suc (suc (suc k)) = omega arith in
      subst (λ n. Part (ItemRange g d c l) i (sub l k) n) e (in_item (part_from l (suc (suc (suc i))) k h))
  part_from (Optional w l) i (suc (suc k)) h =
      let e : suc (suc i) + k ≡ i + suc (suc k) = omega arith in
      subst (λ n. Part (Optional w l) i (sub l k) n) e (in_optional (part_from l (suc (suc i)) k h))
  part_from (Struct ls) i (suc k) h =
      let e : suc i + k ≡ i + suc k = omega arith in
      subst (λ n. Part (Struct ls) i (sub_all ls k) n) e (in_struct (part_from_all ls (suc i) k h))
  part_from (Leaf j c) i (suc k) h = absurd (omega arith)
  part_from (ByteRange t d c) i (suc k) h = absurd (omega arith)
  part_from (ItemRange g d c l) i (suc zero) h = absurd (omega arith)
  part_from (ItemRange g d c l) i (suc (suc zero)) h = absurd (omega arith)
  part_from (Optional w l) i (suc zero) h = absurd (omega arith)

  part_from_all : (ls : AllNoted) (i k : ℕ) → 1 ≤ part_all_n ls k → PartAll ls i (sub_all ls k) (i + k)
  part_from_all NoField i k h = absurd (omega arith)
  part_from_all (Field id l ls) i k h =
      first_or_later id l ls i k (nat_lt k (nodes l)) (below k (nodes l)) (part_from l i k)
      (part_from_all ls (i + nodes l) (k - nodes l)) h

mutual
  part_counts : {t s : Noted} {i n : ℕ} → Part t i s n → (k : ℕ) → n ≡ i + k → 1 ≤ part_n t k
  part_counts itself zero e = omega arith
  part_counts itself (suc k) e = absurd (omega arith)
  part_counts (in_item p) zero e = absurd (omega (arith, part_low p))
  part_counts (in_item p) (suc zero) e = absurd (omega (arith, part_low p))
  part_counts (in_item p) (suc (suc zero)) e = absurd (omega (arith, part_low p))
  part_counts (in_item p) (suc (suc (suc k))) e = part_counts p k (omega arith)
  part_counts (in_optional p) zero e = absurd (omega (arith, part_low p))
  part_counts (in_optional p) (suc zero) e = absurd (omega (arith, part_low p))
  part_counts (in_optional p) (suc (suc k)) e = part_counts p k (omega arith)
  part_counts (in_struct p) zero e = absurd (omega (arith, part_low_all p))
  part_counts (in_struct p) (suc k) e = part_counts_all p k (omega arith)

  part_counts_all : {ts : AllNoted} {s : Noted} {i n : ℕ} → PartAll ts i s n → (k : ℕ) → n ≡ i + k
      → 1 ≤ part_all_n ts k
  part_counts_all (in_first {l = l} {ls = ls} {s = s} p) k e =
      let lt : k < nodes l = omega (arith, part_high p, some_nodes s) in
      let t = below_test k (nodes l) lt in
      rw t (part_counts p k e)
  part_counts_all (in_later {l = l} {ls = ls} p) k e =
      let le : nodes l ≤ k = omega (arith, part_low_all p) in
      let t = above_test k (nodes l) le in
      rw t (part_counts_all p (k - nodes l) (omega arith))

-- a number that is that of some part under a truncation is that of one
pub node_held : {P : Type 0} (v : Version) (t : Noted) (n : ℕ) → ∥ P ∥₁
    → (P → (x : Layout) × Part (layout_in v t) 0 x n) → Part t 0 (sub t n) n
node_held {P} v t n h f =
    let some : 1 ≤ part_n t n = ∥∥₁_elim h le_prop (λ p. part_counts (told_child v t n (f p).0
    (f p).1).node n (omega arith)) in
    let e : 0 + n ≡ n = omega arith in
    subst (λ k. Part t 0 (sub t n) k) e (part_from t 0 n some)
