-- What a stable sort by a key gives is insertion by that key, and insertion moves items.
use Rattle.std.proofs.Common.{◌≡◌, ℕ, zero, suc, ◌+◌, Bool, true, false, cond, ◌&&◌, ◌==◌, nat_lt, if◌then◌else◌, List, [], ◌∷◌, filter, Ordering, is_lt, IsPermutation, refl, sym, ap, subst, ◌∙◌, arith, inl, inr, suc-le-suc, zero-le}
use Rattle.std.specs.Prelude.{ℤ, int_lt, not}
use Rattle.std.specs.Ordering.{int_cmp, nat_cmp}
use Rattle.std.specs.declared.cmp.Ordering.TheVariants.{Less, Equal, Greater}
use Rattle.std.specs.Cmp.{IsTotalOrder, IsStrictWeakOrder}
use Rattle.std.specs.List.{AllByRecursion}
use Rattle.std.specs.List.Sorted.{ties, IsSortedBy, IsStableBy, IsSortedByKey, IsStableByKey}
use Rattle.std.proofs.Math.Path.{fun_ext}
use Rattle.std.proofs.lemmas.Bool.{cond-true, cond-false, cases_Bool}
use Rattle.std.proofs.lemmas.Cmp.{nat_cmp_total, int_cmp_total}
use Rattle.std.proofs.lemmas.List.Sorted.{ranks_by, IsPermutation-refl, IsPermutation-sym, IsPermutation-trans, IsPermutation-cons, IsPermutation-middle}
use Rattle.base_lists.specs.InOrder.{insert_by, in_order}

-- ---- tests

both_false : (a b : Bool) → (not a && not b) ≡ true → (a ≡ false) × (b ≡ false)
both_false false false h = (refl, refl)
both_false false true h = absurd cc
both_false true b h = absurd cc

neither : (a b : Bool) → a ≡ false → b ≡ false → (not a && not b) ≡ true
neither a b p q = rw (p, q) refl

module _ {X K : Type 0} (less : K → K → Bool) (key : X → K) where
  abbrev lt : X → X → Bool
  lt x y = less (key x) (key y)

  abbrev put : X → List X → List X
  put = insert_by less key

  abbrev sorted : List X → List X
  sorted = in_order less key

  -- ---- the same items

  inserted : (x : X) (ys : List X) → IsPermutation (x ∷ ys) (put x ys)
  inserted x [] = IsPermutation-refl (x ∷ [])
  inserted x (y ∷ ys) = by (inserted x ys) (lt y x)
    where
      by : IsPermutation (x ∷ ys) (put x ys) → (b : Bool) → IsPermutation (x ∷ y ∷ ys) (if b then y ∷ put x ys else x ∷ y ∷ ys)
      by rest true =
          let swapped = IsPermutation-sym (y ∷ x ∷ ys) (x ∷ y ∷ ys) (IsPermutation-middle (y ∷ []) x ys) in
          IsPermutation-trans (x ∷ y ∷ ys) (y ∷ x ∷ ys) (y ∷ put x ys) swapped (IsPermutation-cons y (x ∷ ys) (put x ys) rest)
      by rest false = IsPermutation-refl (x ∷ y ∷ ys)

  pub in_order_moves : (xs : List X) → IsPermutation xs (in_order less key xs)
  in_order_moves [] = IsPermutation-refl []
  in_order_moves (x ∷ xs) =
      IsPermutation-trans (x ∷ xs) (x ∷ sorted xs) (put x (sorted xs)) (IsPermutation-cons x xs (sorted xs) (in_order_moves xs)) (inserted x (sorted xs))

  module _ (order : IsStrictWeakOrder (λ (x y : X). less (key x) (key y))) where
    same-key : (x : X) → lt x x ≡ false
    same-key x =
        elim (cases_Bool (lt x x)) [
          | inl below ↦ order.one_way x x below
          | inr not_below ↦ not_below
        ]

    -- ---- lists that rise

    -- none of them is below x
    abbrev AtLeast : X → List X → Type 0
    AtLeast x = AllByRecursion (λ y. lt y x ≡ false)

    abbrev Rises : List X → Type 0
    Rises [] = Unit {0}
    Rises (y ∷ ys) = AtLeast y ys × Rises ys

    at_least-less : (x w : X) (ys : List X) → lt w x ≡ false → AtLeast w ys → AtLeast x ys
    at_least-less x w [] le h = tt
    at_least-less x w (y ∷ ys) le h = (order.chain y w x h.0 le, at_least-less x w ys le h.1)

    rises-sorted : (ys : List X) → IsSortedBy (λ x y. less (key x) (key y)) ys → Rises ys
    rises-sorted [] h = tt
    rises-sorted (y ∷ []) h = (tt, tt)
    rises-sorted (y ∷ z ∷ zs) h =
        let rest = rises-sorted (z ∷ zs) (λ k d low high. let e : suc k + 1 ≡ suc (k + 1) = omega arith in rw e at (h (suc k) d zero-le (omega arith))) in
        let first = h zero y zero-le (suc-le-suc (suc-le-suc zero-le)) in
        ((first, at_least-less y z zs first rest.0), rest)

    at_least-insert : (w x : X) (ys : List X) → lt x w ≡ false → AtLeast w ys → AtLeast w (put x ys)
    at_least-insert w x [] le h = (le, tt)
    at_least-insert w x (y ∷ ys) le h = by_test (at_least-insert w x ys le h.1) (lt y x)
      where
        by_test : AtLeast w (put x ys) → (b : Bool) → AtLeast w (if b then y ∷ put x ys else x ∷ y ∷ ys)
        by_test rest true = (h.0, rest)
        by_test rest false = (le, h)

    rises-insert : (x : X) (ys : List X) → Rises ys → Rises (put x ys)
    rises-insert x [] h = (tt, tt)
    rises-insert x (y ∷ ys) h = by_test (rises-insert x ys h.1) (lt y x) refl
      where
        by_test : Rises (put x ys) → (b : Bool) → lt y x ≡ b → Rises (if b then y ∷ put x ys else x ∷ y ∷ ys)
        by_test rest true is = (at_least-insert y x ys (order.one_way y x is) h.0, rest)
        by_test rest false is = ((is, at_least-less x y ys is h.0), h)

    rises-in_order : (xs : List X) → Rises (sorted xs)
    rises-in_order [] = tt
    rises-in_order (x ∷ xs) = rises-insert x (sorted xs) (rises-in_order xs)

    -- ---- the items of one key

    abbrev tied : X → X → Bool
    tied = ties (λ x y. less (key x) (key y))

    tied-first : (x : X) (xs : List X) → filter (tied x) (x ∷ xs) ≡ x ∷ filter (tied x) xs
    tied-first x xs = cond-true _ _ _ (neither (lt x x) (lt x x) (same-key x) (same-key x))

    exchange : (x y : X) (l : List X) (b c : Bool) → (b ≡ true → c ≡ true → ⊥) → cond c (y ∷ cond b (x ∷ l) l) (cond b (x ∷ l) l) ≡ cond b (x ∷ cond c (y ∷ l) l) (cond c (y ∷ l) l)
    exchange x y l true true h = absurd (h refl refl)
    exchange x y l true false h = refl
    exchange x y l false true h = refl
    exchange x y l false false h = refl

    not_both : (w x y : X) → lt y x ≡ true → tied w x ≡ true → tied w y ≡ true → ⊥
    not_both w x y is a b =
        let p = both_false (lt w x) (lt x w) a in
        let q = both_false (lt w y) (lt y w) b in
        let no : lt y x ≡ false = order.chain y w x q.1 p.0 in cc

    -- an item passes only those of other keys
    tied-insert : (w x : X) (ys : List X) → filter (tied w) (put x ys) ≡ filter (tied w) (x ∷ ys)
    tied-insert w x [] = refl
    tied-insert w x (y ∷ ys) = by_test (tied-insert w x ys) (lt y x) refl
      where
        by_test : filter (tied w) (put x ys) ≡ filter (tied w) (x ∷ ys) → (b : Bool) → lt y x ≡ b → filter (tied w) (if b then y ∷ put x ys else x ∷ y ∷ ys) ≡ filter (tied w) (x ∷ y ∷ ys)
        by_test rest true is =
            ap (λ (l : List X). cond (tied w y) (y ∷ l) l) rest
            ∙ exchange x y (filter (tied w) ys) (tied w x) (tied w y) (λ a b. not_both w x y is a b)
        by_test rest false is = refl

    tied-in_order : (w : X) (xs : List X) → filter (tied w) (sorted xs) ≡ filter (tied w) xs
    tied-in_order w [] = refl
    tied-in_order w (x ∷ xs) = tied-insert w x (sorted xs) ∙ ap (λ (l : List X). cond (tied w x) (x ∷ l) l) (tied-in_order w xs)

    -- ---- lists that rise, with the items of each key in one order, are the same

    -- where an item of this key stands among them
    at_least-found : (n x : X) (ys : List X) (w : X) (ws : List X) → AtLeast n ys → filter (tied x) ys ≡ w ∷ ws → lt x n ≡ false
    at_least-found n x [] w ws h e = cc
    at_least-found n x (y ∷ ys) w ws h e =
        elim (cases_Bool (tied x y)) [
          | inl with ↦ order.chain x y n (both_false (lt x y) (lt y x) with).0 h.0
          | inr without ↦ at_least-found n x ys w ws h.1 (sym (cond-false _ _ _ without) ∙ e)
        ]

    behind : (b : Bool) (y : X) (l k : List X) → cond b (y ∷ l) l ≡ cond b (y ∷ k) k → l ≡ k
    behind true y l k e = cc
    behind false y l k e = e

    same_ties : (ys zs : List X) → Rises ys → Rises zs → ((x : X) → filter (tied x) ys ≡ filter (tied x) zs) → ys ≡ zs
    same_ties [] [] left right same = refl
    same_ties [] (z ∷ zs) left right same = let clash = same z ∙ tied-first z zs in cc
    same_ties (y ∷ ys) [] left right same = let clash = sym (same y) ∙ tied-first y ys in cc
    same_ties (y ∷ ys) (z ∷ zs) left right same =
        let at_y = tied-first y ys in
        let at_z = tied-first z zs in
        let up : lt y z ≡ false = at_least-found z y (z ∷ zs) y _ (same-key z, right.0) (sym (same y) ∙ at_y) in
        let down : lt z y ≡ false = at_least-found y z (y ∷ ys) z _ (same-key y, left.0) (same z ∙ at_z) in
        let heads = sym at_y ∙ same y ∙ cond-true _ _ _ (neither (lt y z) (lt z y) up down) in
        let head : y ≡ z = cc in
        let tails : (x : X) → filter (tied x) ys ≡ filter (tied x) zs = λ x. behind (tied x y) y _ _ (same x ∙ ap (λ (w : X). filter (tied x) (w ∷ zs)) (sym head)) in
        ap (λ (w : X). w ∷ ys) head ∙ ap (λ (l : List X). z ∷ l) (same_ties ys zs left.1 right.1 tails)

    pub stable_in_order : (xs ys : List X) → IsSortedBy (λ x y. less (key x) (key y)) ys → IsStableBy (λ x y. less (key x) (key y)) xs ys → ys ≡ in_order less key xs
    stable_in_order xs ys up stable =
        same_ties ys (sorted xs) (rises-sorted ys up) (rises-in_order xs) (λ x. stable x ∙ sym (tied-in_order x xs))

-- ---- by a key that the code compares

module _ {X K : Type 0} (cmp : K → K → Ordering) (total : IsTotalOrder cmp) (less : K → K → Bool) (tests : (a b : K) → is_lt (cmp a b) ≡ less a b) (key : X → K) where
  abbrev compared : X → X → Bool
  compared x y = is_lt (cmp (key x) (key y))

  abbrev tested : X → X → Bool
  tested x y = less (key x) (key y)

  same_test : compared ≡ tested
  same_test = fun_ext (λ x. fun_ext (λ y. tests (key x) (key y)))

  pub sorted-in_order : (xs ys : List X) → IsSortedByKey key cmp ys → IsStableByKey key cmp xs ys → ys ≡ in_order less key xs
  sorted-in_order xs ys up stable =
      stable_in_order less key (subst (λ (t : X → X → Bool). IsStrictWeakOrder t) same_test (ranks_by total key)) xs ys
      (subst (λ (t : X → X → Bool). IsSortedBy t ys) same_test up) (subst (λ (t : X → X → Bool). IsStableBy t xs ys) same_test stable)

-- ---- by a number

pub int_test : (a b : ℤ) → is_lt (int_cmp a b) ≡ int_lt a b
int_test a b = by (int_lt a b) (int_lt b a)
  where
    by : (less more : Bool) → is_lt (cond less Less (cond more Greater Equal)) ≡ less
    by true more = refl
    by false true = refl
    by false false = refl

pub nat_test : (a b : ℕ) → is_lt (nat_cmp a b) ≡ nat_lt a b
nat_test a b = by (nat_lt a b) (a == b)
  where
    by : (less same : Bool) → is_lt (cond less Less (cond same Equal Greater)) ≡ less
    by true same = refl
    by false true = refl
    by false false = refl

-- by an integer of each
pub sorted-in_order_by_int : {X : Type 0} (key : X → ℤ) (xs ys : List X) → IsSortedByKey key int_cmp ys → IsStableByKey key int_cmp xs ys → ys ≡ in_order int_lt key xs
sorted-in_order_by_int key = sorted-in_order int_cmp int_cmp_total int_lt int_test key

-- by a natural number of each
pub sorted-in_order_by_nat : {X : Type 0} (key : X → ℕ) (xs ys : List X) → IsSortedByKey key nat_cmp ys → IsStableByKey key nat_cmp xs ys → ys ≡ in_order nat_lt key xs
sorted-in_order_by_nat key = sorted-in_order nat_cmp nat_cmp_total nat_lt nat_test key
