-- Parts by their number.
use Rattle.std.proofs.Common.{◌≡◌, ℕ, zero, suc, ◌+◌, ◌-◌, ◌<◌, ◌≤◌, true, false, nat_lt, arith, refl}
use Rattle.std.proofs.lemmas.Bool.Decides.{nat_tests}
use Rattle.frozen_model.specs.Trees.{Tree, Trees, nodes}
use Rattle.frozen_model.specs.Trees.{nodes_all, Part, itself, in_item, in_optional, in_struct, PartAll}
use Rattle.frozen_model.specs.Trees.{in_first, in_later}
use Rattle.layout_tree.specs.Listing.{sub, sub_all}
use Rattle.layout_tree.proofs.Place.{some_nodes}

mutual
  pub part_low : {A B : Type 0} {t s : Tree A B} {i n : ℕ} → Part t i s n → i ≤ n
  part_low itself = omega arith
  part_low (in_item p) = omega (arith, part_low p)
  part_low (in_optional p) = omega (arith, part_low p)
  part_low (in_struct p) = omega (arith, part_low_all p)

  pub part_low_all : {A B : Type 0} {ts : Trees A B} {s : Tree A B} {i n : ℕ} → PartAll ts i s n → i ≤ n
  part_low_all (in_first p) = part_low p
  part_low_all (in_later p) = omega (arith, part_low_all p)

mutual
  pub part_high : {A B : Type 0} {t s : Tree A B} {i n : ℕ} → Part t i s n → n + nodes s ≤ i + nodes t
  part_high itself = omega arith
  part_high (in_item p) = omega (arith, part_high p)
  part_high (in_optional p) = omega (arith, part_high p)
  part_high (in_struct p) = omega (arith, part_high_all p)

  pub part_high_all : {A B : Type 0} {ts : Trees A B} {s : Tree A B} {i n : ℕ} → PartAll ts i s n → n
      + nodes s ≤ i + nodes_all ts
  part_high_all (in_first p) = omega (arith, part_high p)
  part_high_all (in_later p) = omega (arith, part_high_all p)

pub below_test : (m n : ℕ) → m < n → nat_lt m n ≡ true
below_test m n h = grind (arith, nat_tests)

pub above_test : (m n : ℕ) → n ≤ m → nat_lt m n ≡ false
above_test m n h = grind (arith, nat_tests)

mutual
  unfolding sub

  pub part_sub : {A B : Type 0} {t s : Tree A B} {i n : ℕ} → Part t i s n → (k : ℕ) → n ≡ i + k → sub t k ≡ s
  part_sub itself zero e = refl
  part_sub itself (suc k) e = absurd (omega arith)
  part_sub (in_item p) zero e = absurd (omega (arith, part_low p))
  part_sub (in_item p) (suc zero) e = absurd (omega (arith, part_low p))
  part_sub (in_item p) (suc (suc zero)) e = absurd (omega (arith, part_low p))
  part_sub (in_item p) (suc (suc (suc k))) e = part_sub p k (omega arith)
  part_sub (in_optional p) zero e = absurd (omega (arith, part_low p))
  part_sub (in_optional p) (suc zero) e = absurd (omega (arith, part_low p))
  part_sub (in_optional p) (suc (suc k)) e = part_sub p k (omega arith)
  part_sub (in_struct p) zero e = absurd (omega (arith, part_low_all p))
  part_sub (in_struct p) (suc k) e = part_sub_all p k (omega arith)

  pub part_sub_all : {A B : Type 0} {ts : Trees A B} {s : Tree A B} {i n : ℕ} → PartAll ts i s n → (k : ℕ) → n
      ≡ i + k → sub_all ts k ≡ s
  part_sub_all (in_first {l = l} {s = s} p) k e =
      let lt : k < nodes l = omega (arith, part_high p, some_nodes s) in
      let t = below_test k (nodes l) lt in
      rw t (part_sub p k e)
  part_sub_all (in_later {l = l} {ls = ls} p) k e =
      let le : nodes l ≤ k = omega (arith, part_low_all p) in
      let t = above_test k (nodes l) le in
      rw t (part_sub_all p (k - nodes l) (omega arith))

-- a part of a part
mutual
  pub part_of_part : {A B : Type 0} {t u s : Tree A B} {i n m : ℕ} → Part t i u n → Part u n s m
      → Part t i s m
  part_of_part itself q = q
  part_of_part (in_item p) q = in_item (part_of_part p q)
  part_of_part (in_optional p) q = in_optional (part_of_part p q)
  part_of_part (in_struct p) q = in_struct (part_of_part_all p q)

  pub part_of_part_all : {A B : Type 0} {ts : Trees A B} {u s : Tree A B} {i n m : ℕ} → PartAll ts i u n
      → Part u n s m → PartAll ts i s m
  part_of_part_all (in_first p) q = in_first (part_of_part p q)
  part_of_part_all (in_later p) q = in_later (part_of_part_all p q)

-- a part of the whole, by its number
pub sub_is : {A B : Type 0} {t s : Tree A B} {n : ℕ} → Part t 0 s n → sub t n ≡ s
sub_is p = part_sub p _ (omega arith)
