-- Nodes stay made as they were where a pool grows.
use Rattle.std.proofs.Common.{◌≡◌, ℕ, ◌+◌, ◌<◌, ◌≤◌, List, [], ◌∷◌, ◌++◌, true, nat_lt, nat_le, length, map, refl, sym, ap, ◌∙◌, subst, arith}
use Rattle.std.specs.List.{list_all, AllByRecursion}
use Rattle.std.proofs.Math.ListN.{get_or-append}
use Rattle.std.proofs.lemmas.Bool.{and_parts, and_from}
use Rattle.std.proofs.lemmas.List.Folds.{list_all-map}
use Rattle.frozen_model.specs.Trees.{AList, ASet, AMap, KindTree, KindTrees, Leaf, ByteRange, ItemRange, Optional, Struct, NoField, Field}
use Rattle.typed_tree.specs.declared.spot.Spot.{Spot}
use Rattle.typed_tree.specs.declared.spot.Spot.TheVariants as s
use Rattle.typed_tree.specs.declared.spot.Link.{Link}
use Rattle.typed_tree.specs.declared.spot.Run.{Run}
use Rattle.typed_tree.specs.Made.{spot_at, parts_of, ids_in, ByTurns, MadeAs, MadeAt, PairMade, AllMade}
use Rattle.typed_tree.specs.Pools.{Grows}
use Rattle.typed_tree.specs.Spots.{Store, linked, all_linked, ids_rise, fits_at, fits}
use Rattle.typed_tree.proofs.Grow.{linked-stays, fits-there, below-true}
use Rattle.typed_tree.proofs.Stack.{below, below-wider, lt-test}

-- what holds of each of some numbers below another, where it follows for all of those
pub each-follows : (n : ℕ) (P Q : ℕ → Type 0) → ((m : ℕ) → m < n → P m → Q m) → (ms : List ℕ) → below n ms → AllByRecursion P ms → AllByRecursion Q ms
each-follows n P Q f [] low h = tt
each-follows n P Q f (m ∷ ms) low h =
    let p = and_parts (nat_lt m n) (list_all (λ k. nat_lt k n) ms) low in
    (f m (below-true m n p.0) h.0, each-follows n P Q f ms p.1 h.1)

pub turns-follow : (n : ℕ) (P Q : ℕ → ℕ → Type 0) → ((m k : ℕ) → m < n → k < n → P m k → Q m k) → (ms : List ℕ) → below n ms → ByTurns P ms → ByTurns Q ms
turns-follow n P Q f [] low h = tt
turns-follow n P Q f (m ∷ []) low h = tt
turns-follow n P Q f (m ∷ k ∷ ms) low h =
    let p = and_parts (nat_lt m n) (list_all (λ k. nat_lt k n) (k ∷ ms)) low in
    let q = and_parts (nat_lt k n) (list_all (λ k. nat_lt k n) ms) p.1 in
    (f m k (below-true m n p.0) (below-true k n q.0) h.0, turns-follow n P Q f ms q.1 h.1)

-- the parts of a node stand before it
parts-below : (st : Store) (n : ℕ) (x : Spot) → fits_at st n x ≡ true → below n (parts_of st x)
parts-below st n (s.Flag b) h = refl
parts-below st n (s.Int z) h = refl
parts-below st n (s.Text at) h = refl
parts-below st n (s.Bytes at) h = refl
parts-below st n (s.List r) h = run-below st n r h
  where
    run-below : (st : Store) (n : ℕ) (r : Run) → all_linked st n r ≡ true → below n (map (λ (l : Link). l.node) (linked st r))
    run-below st n r h = list_all-map (λ k. nat_lt k n) (λ (l : Link). l.node) (linked st r) ∙ (and_parts (nat_le (r.first + r.count) (length st.links)) (list_all (λ l. nat_lt l.node n) (linked st r)) h).1
parts-below st n (s.Set r) h = list_all-map (λ k. nat_lt k n) (λ (l : Link). l.node) (linked st r) ∙ (and_parts (nat_le (r.first + r.count) (length st.links)) (list_all (λ l. nat_lt l.node n) (linked st r)) h).1
parts-below st n (s.Map r) h = list_all-map (λ k. nat_lt k n) (λ (l : Link). l.node) (linked st r) ∙ (and_parts (nat_le (r.first + r.count) (length st.links)) (list_all (λ l. nat_lt l.node n) (linked st r)) h).1
parts-below st n (s.Struct r) h =
    let g = (and_parts (all_linked st n r) (ids_rise (linked st r)) h).0 in
    list_all-map (λ k. nat_lt k n) (λ (l : Link). l.node) (linked st r) ∙ (and_parts (nat_le (r.first + r.count) (length st.links)) (list_all (λ l. nat_lt l.node n) (linked st r)) g).1
parts-below st n s.Absent h = refl
parts-below st n (s.Present k) h = and_from _ _ h refl

module _ (st st' : Store) (grows : Grows st st') where
  parts-stay : (n : ℕ) (x : Spot) → fits_at st n x ≡ true → parts_of st' x ≡ parts_of st x
  parts-stay n (s.Flag b) h = refl
  parts-stay n (s.Int z) h = refl
  parts-stay n (s.Text at) h = refl
  parts-stay n (s.Bytes at) h = refl
  parts-stay n (s.List r) h = ap (λ (ls : List Link). map (λ l. l.node) ls) (linked-stays st st' grows n r h)
  parts-stay n (s.Set r) h = ap (λ (ls : List Link). map (λ l. l.node) ls) (linked-stays st st' grows n r h)
  parts-stay n (s.Map r) h = ap (λ (ls : List Link). map (λ l. l.node) ls) (linked-stays st st' grows n r h)
  parts-stay n (s.Struct r) h = ap (λ (ls : List Link). map (λ l. l.node) ls) (linked-stays st st' grows n r (and_parts (all_linked st n r) (ids_rise (linked st r)) h).0)
  parts-stay n s.Absent h = refl
  parts-stay n (s.Present k) h = refl

  ids-stay : (n : ℕ) (x : Spot) → fits_at st n x ≡ true → ids_in st' x ≡ ids_in st x
  ids-stay n (s.Flag b) h = refl
  ids-stay n (s.Int z) h = refl
  ids-stay n (s.Text at) h = refl
  ids-stay n (s.Bytes at) h = refl
  ids-stay n (s.List r) h = refl
  ids-stay n (s.Set r) h = refl
  ids-stay n (s.Map r) h = refl
  ids-stay n (s.Struct r) h = ap (λ (ls : List Link). map (λ l. l.id) ls) (linked-stays st st' grows n r (and_parts (all_linked st n r) (ids_rise (linked st r)) h).0)
  ids-stay n s.Absent h = refl
  ids-stay n (s.Present k) h = refl

  module _ (xs ys : List Spot) (fit : fits st 0 xs ≡ true) where
    spot-stays : (n : ℕ) → n < length xs → spot_at (xs ++ ys) n ≡ spot_at xs n
    spot-stays n lt = get_or-append xs ys s.Absent n lt

    spot-fits : (n : ℕ) → n < length xs → fits_at st n (spot_at xs n) ≡ true
    spot-fits n lt = let e : 0 + n ≡ n = omega arith in subst (λ (k : ℕ). fits_at st k (spot_at xs n) ≡ true) e (fits-there st 0 xs n s.Absent fit lt)

    -- of the node with a number, where it is so of what the node is
    lift : (t : KindTree) (n : ℕ) → n < length xs → (MadeAs st xs t (spot_at xs n) → MadeAs st' (xs ++ ys) t (spot_at xs n)) → MadeAt st xs t n → MadeAt st' (xs ++ ys) t n
    lift t n lt f h = subst (MadeAs st' (xs ++ ys) t) (sym (spot-stays n lt)) (f h)

    at-most : (n : ℕ) → n < length xs → n ≤ length xs
    at-most n lt = omega (arith, lt)

    mutual
      pub made-stays : (t : KindTree) (x : Spot) (n : ℕ) → n ≤ length xs → fits_at st n x ≡ true → MadeAs st xs t x → MadeAs st' (xs ++ ys) t x
      made-stays (Leaf j a) x n le f h = h
      made-stays (ByteRange t d c) x n le f h = h
      made-stays (ItemRange AList d c l) x n le f h =
          (h.0, subst (AllByRecursion (MadeAt st' (xs ++ ys) l)) (sym (parts-stay n x f)) (each-follows (length xs) (MadeAt st xs l) (MadeAt st' (xs ++ ys) l) (λ m lt. lift l m lt (made-stays l (spot_at xs m) m (at-most m lt) (spot-fits m lt))) (parts_of st x) (below-wider n (length xs) (parts_of st x) le (parts-below st n x f)) h.1))
      made-stays (ItemRange ASet d c l) x n le f h =
          (h.0, subst (AllByRecursion (MadeAt st' (xs ++ ys) l)) (sym (parts-stay n x f)) (each-follows (length xs) (MadeAt st xs l) (MadeAt st' (xs ++ ys) l) (λ m lt. lift l m lt (made-stays l (spot_at xs m) m (at-most m lt) (spot-fits m lt))) (parts_of st x) (below-wider n (length xs) (parts_of st x) le (parts-below st n x f)) h.1))
      made-stays (ItemRange AMap d c l) x n le f h =
          (h.0, subst (ByTurns (PairMade st' (xs ++ ys) l)) (sym (parts-stay n x f)) (turns-follow (length xs) (PairMade st xs l) (PairMade st' (xs ++ ys) l) (pair-stays l) (parts_of st x) (below-wider n (length xs) (parts_of st x) le (parts-below st n x f)) h.1))
      made-stays (Optional w l) x n le f h =
          (h.0, subst (AllByRecursion (MadeAt st' (xs ++ ys) l)) (sym (parts-stay n x f)) (each-follows (length xs) (MadeAt st xs l) (MadeAt st' (xs ++ ys) l) (λ m lt. lift l m lt (made-stays l (spot_at xs m) m (at-most m lt) (spot-fits m lt))) (parts_of st x) (below-wider n (length xs) (parts_of st x) le (parts-below st n x f)) h.1))
      made-stays (Struct ls) x n le f h =
          (h.0, ids-stay n x f ∙ h.1, subst (AllMade st' (xs ++ ys) ls) (sym (parts-stay n x f)) (all-stay ls (parts_of st x) (below-wider n (length xs) (parts_of st x) le (parts-below st n x f)) h.2))

      pub pair-stays : (t : KindTree) (m n : ℕ) → m < length xs → n < length xs → PairMade st xs t m n → PairMade st' (xs ++ ys) t m n
      pair-stays (Struct ls) m n low high h = all-stay ls (m ∷ n ∷ []) (and_from _ _ (lt-test m (length xs) low) (and_from _ _ (lt-test n (length xs) high) refl)) h
      pair-stays (Leaf j a) m n low high h = absurd h
      pair-stays (ByteRange t d c) m n low high h = absurd h
      pair-stays (ItemRange g d c l) m n low high h = absurd h
      pair-stays (Optional w l) m n low high h = absurd h

      all-stay : (ls : KindTrees) (ns : List ℕ) → below (length xs) ns → AllMade st xs ls ns → AllMade st' (xs ++ ys) ls ns
      all-stay NoField [] low h = tt
      all-stay NoField (n ∷ ns) low h = absurd h
      all-stay (Field i l ls) [] low h = absurd h
      all-stay (Field i l ls) (n ∷ ns) low h =
          let p = and_parts (nat_lt n (length xs)) (list_all (λ k. nat_lt k (length xs)) ns) low in
          let lt = below-true n (length xs) p.0 in
          (lift l n lt (made-stays l (spot_at xs n) n (at-most n lt) (spot-fits n lt)) h.0, all-stay ls ns p.1 h.1)

    pub part-stays : (t : KindTree) (n : ℕ) → n < length xs → MadeAt st xs t n → MadeAt st' (xs ++ ys) t n
    part-stays t n lt h = lift t n lt (made-stays t (spot_at xs n) n (at-most n lt) (spot-fits n lt)) h

-- as the code has it
module _ (st st' : Store) (grows : Grows st st') (xs xs' ys : List Spot) (fit : fits st 0 xs ≡ true) (more : xs' ≡ xs ++ ys) where
  pub node-stays : (t : KindTree) (n : ℕ) → n < length xs → MadeAt st xs t n → MadeAt st' xs' t n
  node-stays t n lt h = subst (λ (zs : List Spot). MadeAt st' zs t n) (sym more) (part-stays st st' grows xs ys fit t n lt h)

  pub spot-stays-made : (t : KindTree) (x : Spot) → fits_at st (length xs) x ≡ true → MadeAs st xs t x → MadeAs st' xs' t x
  spot-stays-made t x f h =
      subst (λ (zs : List Spot). MadeAs st' zs t x) (sym more) (made-stays st st' grows xs ys fit t x (length xs) (omega arith) f h)

  pub pair-stays-made : (t : KindTree) (m n : ℕ) → m < length xs → n < length xs → PairMade st xs t m n → PairMade st' xs' t m n
  pair-stays-made t m n low high h = subst (λ (zs : List Spot). PairMade st' zs t m n) (sym more) (pair-stays st st' grows xs ys fit t m n low high h)
