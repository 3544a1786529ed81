-- A pool that grows: what stood there keeps its value, and every node has the value of its parts.
use Rattle.frozen_model.specs.Trees.{AList, ASet, AMap}
use Rattle.std.proofs.Common.{◌≡◌, ℕ, zero, suc, ◌+◌, ◌<◌, ◌≤◌, List, [], ◌∷◌, ◌++◌, true, nat_lt, nat_le, length, take, drop, map, get_or, refl, sym, ap, ◌∙◌, subst, arith, length-append, length-drop}
use Rattle.std.specs.List.{list_all}
use Rattle.std.proofs.Math.ListN.{get_or-append}
use Rattle.std.proofs.Math.Seq.{get_or-append_seam}
use Rattle.std.proofs.lemmas.Bool.{and_parts, and_from, le-leb, leb-true}
use Rattle.std.proofs.lemmas.Bool.Decides.{nat_tests}
use Rattle.std.proofs.lemmas.List.{take-append-le, drop-append-le}
use Rattle.frozen_model.specs.Values.{Value, Bytes, Items, Absent, Present, Record, And}
use Rattle.std.specs.Str.{is_utf8}
use Rattle.block_region.specs.Space.{Span}
use Rattle.typed_tree.specs.declared.spot.Spot.{Spot}
use Rattle.typed_tree.specs.declared.spot.Spot.TheVariants as s
use Rattle.typed_tree.specs.declared.spot.Run.{Run}
use Rattle.typed_tree.specs.declared.spot.Link.{Link}
use Rattle.typed_tree.specs.Spots.{Store, part, linked, pick, by_twos, value_of, known, all_linked, ids_rise, has_block, fits_at, fits}
use Rattle.typed_tree.specs.Pools.{Grows}

pub below-true : (m n : ℕ) → nat_lt m n ≡ true → m < n
below-true m n e = grind (arith, nat_tests)

pub length-known : (st : Store) (vs : List Value) (xs : List Spot) → length (known st vs xs) ≡ length vs + length xs
length-known st vs [] = omega arith
length-known st vs (x ∷ xs) = omega (arith, length-known st (vs ++ value_of st vs x ∷ []) xs, length-append vs (value_of st vs x ∷ []))

-- one more node: its value goes to the end
pub known-more : (st : Store) (vs : List Value) (xs : List Spot) (x : Spot) → known st vs (xs ++ x ∷ []) ≡ known st vs xs ++ value_of st (known st vs xs) x ∷ []
known-more st vs [] x = refl
known-more st vs (y ∷ ys) x = known-more st (vs ++ value_of st vs y ∷ []) ys x

-- ---- more links and bytes

range-stays : {A : Type 0} (xs more : List A) (first count : ℕ) → first + count ≤ length xs → take count (drop first (xs ++ more)) ≡ take count (drop first xs)
range-stays xs more first count h =
    let room : count ≤ length (drop first xs) = omega (arith, length-drop first xs) in
    ap (take count) (drop-append-le first xs more (omega arith)) ∙ take-append-le count (drop first xs) more room

module _ (old new : Store) (grows : Grows old new) where
  pub linked-stays : (n : ℕ) (r : Run) → all_linked old n r ≡ true → linked new r ≡ linked old r
  linked-stays n r h =
      let there = leb-true (r.first + r.count) (length old.links) (and_parts (nat_le (r.first + r.count) (length old.links)) _ h).0 in
      ap (λ (ls : List Link). take r.count (drop r.first ls)) grows.links ∙ range-stays old.links grows.more_links r.first r.count there

  all_linked-stays : (n : ℕ) (r : Run) → all_linked old n r ≡ true → all_linked new n r ≡ true
  all_linked-stays n r h =
      let p = and_parts (nat_le (r.first + r.count) (length old.links)) (list_all (λ l. nat_lt l.node n) (linked old r)) h in
      let there = leb-true (r.first + r.count) (length old.links) p.0 in
      let more = ap (λ (ls : List Link). length ls) grows.links in
      and_from _ _ (le-leb (r.first + r.count) (length new.links) (omega (arith, there, more, length-append old.links grows.more_links))) (ap (list_all (λ l. nat_lt l.node n)) (linked-stays n r h) ∙ p.1)

  part-stays : (at : Span) → has_block old at ≡ true → part new.bytes at ≡ part old.bytes at
  part-stays at h =
      let there = leb-true (at.start + at.len) (length old.bytes) h in
      ap (λ (bs : List ℕ). take at.len (drop at.start bs)) grows.bytes ∙ range-stays old.bytes grows.more_bytes at.start at.len there

  block-stays : (at : Span) → has_block old at ≡ true → has_block new at ≡ true
  block-stays at h =
      let there = leb-true (at.start + at.len) (length old.bytes) h in
      let more = ap (λ (bs : List ℕ). length bs) grows.bytes in
      le-leb (at.start + at.len) (length new.bytes) (omega (arith, there, more, length-append old.bytes grows.more_bytes))

  value-stays : (vs : List Value) (n : ℕ) (x : Spot) → fits_at old n x ≡ true → value_of new vs x ≡ value_of old vs x
  value-stays vs n (s.Flag b) h = refl
  value-stays vs n (s.Int z) h = refl
  value-stays vs n (s.Text at) h = ap Bytes (part-stays at (and_parts (has_block old at) (is_utf8 (part old.bytes at)) h).0)
  value-stays vs n (s.Bytes at) h = ap Bytes (part-stays at h)
  value-stays vs n (s.List r) h = ap (λ (ls : List Link). Items AList (pick vs ls)) (linked-stays n r h)
  value-stays vs n (s.Set r) h = ap (λ (ls : List Link). Items ASet (pick vs ls)) (linked-stays n r h)
  value-stays vs n (s.Map r) h = ap (λ (ls : List Link). Items AMap (by_twos (pick vs ls))) (linked-stays n r h)
  value-stays vs n (s.Struct r) h =
      ap (λ (ls : List Link). Record (map (λ l. l.id) ls) (pick vs ls)) (linked-stays n r (and_parts (all_linked old n r) (ids_rise (linked old r)) h).0)
  value-stays vs n s.Absent h = refl
  value-stays vs n (s.Present k) h = refl

  pub known-stays : (vs : List Value) (n : ℕ) (xs : List Spot) → fits old n xs ≡ true → known new vs xs ≡ known old vs xs
  known-stays vs n [] h = refl
  known-stays vs n (x ∷ xs) h =
      let p = and_parts (fits_at old n x) (fits old (suc n) xs) h in
      ap (λ v. known new (vs ++ v ∷ []) xs) (value-stays vs n x p.0) ∙ known-stays (vs ++ value_of old vs x ∷ []) (suc n) xs p.1

  fits_at-stays : (n : ℕ) (x : Spot) → fits_at old n x ≡ true → fits_at new n x ≡ true
  fits_at-stays n (s.Flag b) h = refl
  fits_at-stays n (s.Int z) h = refl
  fits_at-stays n (s.Text at) h =
      let p = and_parts (has_block old at) (is_utf8 (part old.bytes at)) h in
      and_from _ _ (block-stays at p.0) (ap is_utf8 (part-stays at p.0) ∙ p.1)
  fits_at-stays n (s.Bytes at) h = block-stays at h
  fits_at-stays n (s.List r) h = all_linked-stays n r h
  fits_at-stays n (s.Set r) h = all_linked-stays n r h
  fits_at-stays n (s.Map r) h = all_linked-stays n r h
  fits_at-stays n (s.Struct r) h =
      let p = and_parts (all_linked old n r) (ids_rise (linked old r)) h in
      and_from _ _ (all_linked-stays n r p.0) (ap ids_rise (linked-stays n r p.0) ∙ p.1)
  fits_at-stays n s.Absent h = refl
  fits_at-stays n (s.Present k) h = h

  pub fits-stays : (n : ℕ) (xs : List Spot) → fits old n xs ≡ true → fits new n xs ≡ true
  fits-stays n [] h = refl
  fits-stays n (x ∷ xs) h = let p = and_parts (fits_at old n x) (fits old (suc n) xs) h in and_from _ _ (fits_at-stays n x p.0) (fits-stays (suc n) xs p.1)

-- ---- more nodes

pub fits-more : (st : Store) (n : ℕ) (xs : List Spot) (x : Spot) → fits st n xs ≡ true → fits_at st (n + length xs) x ≡ true → fits st n (xs ++ x ∷ []) ≡ true
fits-more st n [] x h g = let e : n + 0 ≡ n = omega arith in and_from _ _ (subst (λ (k : ℕ). fits_at st k x ≡ true) e g) refl
fits-more st n (y ∷ ys) x h g =
    let e : n + suc (length ys) ≡ suc n + length ys = omega arith in
    let p = and_parts (fits_at st n y) (fits st (suc n) ys) h in
    and_from _ _ p.0 (fits-more st (suc n) ys x p.1 (subst (λ (k : ℕ). fits_at st k x ≡ true) e g))

-- what is known stays in front
known-front : (st : Store) (vs : List Value) (xs : List Spot) (i : ℕ) → i < length vs → get_or (known st vs xs) i Absent ≡ get_or vs i Absent
known-front st vs [] i h = refl
known-front st vs (x ∷ xs) i h =
    known-front st (vs ++ value_of st vs x ∷ []) xs i (omega (arith, length-append vs (value_of st vs x ∷ []))) ∙ get_or-append vs (value_of st vs x ∷ []) Absent i h

-- values that agree below a number
abbrev Agree : List Value → List Value → ℕ → Type 0
Agree us vs n = (i : ℕ) → i < n → get_or us i Absent ≡ get_or vs i Absent

pick-same : (us vs : List Value) (n : ℕ) (ls : List Link) → Agree us vs n → list_all (λ l. nat_lt l.node n) ls ≡ true → pick us ls ≡ pick vs ls
pick-same us vs n [] e h = refl
pick-same us vs n (l ∷ ls) e h =
    let p = and_parts (nat_lt l.node n) (list_all (λ l. nat_lt l.node n) ls) h in
    ap (λ v. And v (pick us ls)) (e l.node (below-true l.node n p.0)) ∙ ap (And (get_or vs l.node Absent)) (pick-same us vs n ls e p.1)

picked-same : (st : Store) (us vs : List Value) (n : ℕ) (r : Run) → Agree us vs n → all_linked st n r ≡ true → pick us (linked st r) ≡ pick vs (linked st r)
picked-same st us vs n r e h = pick-same us vs n (linked st r) e (and_parts (nat_le (r.first + r.count) (length st.links)) (list_all (λ l. nat_lt l.node n) (linked st r)) h).1

value-same : (st : Store) (us vs : List Value) (n : ℕ) (x : Spot) → Agree us vs n → fits_at st n x ≡ true → value_of st us x ≡ value_of st vs x
value-same st us vs n (s.Flag b) e h = refl
value-same st us vs n (s.Int z) e h = refl
value-same st us vs n (s.Text at) e h = refl
value-same st us vs n (s.Bytes at) e h = refl
value-same st us vs n (s.List r) e h = ap (Items AList) (picked-same st us vs n r e h)
value-same st us vs n (s.Set r) e h = ap (Items ASet) (picked-same st us vs n r e h)
value-same st us vs n (s.Map r) e h = ap (λ ws. Items AMap (by_twos ws)) (picked-same st us vs n r e h)
value-same st us vs n (s.Struct r) e h =
    ap (Record (map (λ l. l.id) (linked st r))) (picked-same st us vs n r e (and_parts (all_linked st n r) (ids_rise (linked st r)) h).0)
value-same st us vs n s.Absent e h = refl
value-same st us vs n (s.Present k) e h = ap Present (e k (below-true k n h))

-- a node's value, from the values of all nodes
pub known-at : (st : Store) (vs : List Value) (xs : List Spot) (i : ℕ) (d : Spot) → fits st (length vs) xs ≡ true → i < length xs
    → get_or (known st vs xs) (length vs + i) Absent ≡ value_of st (known st vs xs) (get_or xs i d)
known-at st vs [] i d h l = absurd (omega arith)
known-at st vs (x ∷ xs) zero d h l =
    let v = value_of st vs x in
    let all = known st (vs ++ v ∷ []) xs in
    let e : length vs + 0 ≡ length vs = omega arith in
    let lt : length vs < length (vs ++ v ∷ []) = omega (arith, length-append vs (v ∷ [])) in
    ap (λ k. get_or all k Absent) e ∙ known-front st (vs ++ v ∷ []) xs (length vs) lt ∙ get_or-append_seam vs v [] Absent
    ∙ value-same st vs all (length vs) x (λ j g. sym (known-front st vs (x ∷ xs) j g)) (and_parts (fits_at st (length vs) x) (fits st (suc (length vs)) xs) h).0
known-at st vs (x ∷ xs) (suc i) d h l =
    let ws = vs ++ value_of st vs x ∷ [] in
    let e : length vs + suc i ≡ length ws + i = omega (arith, length-append vs (value_of st vs x ∷ [])) in
    let n : suc (length vs) ≡ length ws = omega (arith, length-append vs (value_of st vs x ∷ [])) in
    ap (λ k. get_or (known st ws xs) k Absent) e
    ∙ known-at st ws xs i d (subst (λ (k : ℕ). fits st k xs ≡ true) n (and_parts (fits_at st (length vs) x) (fits st (suc (length vs)) xs) h).1) (omega arith)

pub fits-there : (st : Store) (n : ℕ) (xs : List Spot) (i : ℕ) (d : Spot) → fits st n xs ≡ true → i < length xs → fits_at st (n + i) (get_or xs i d) ≡ true
fits-there st n [] i d h l = absurd (omega arith)
fits-there st n (x ∷ xs) zero d h l = let e : n ≡ n + 0 = omega arith in subst (λ (k : ℕ). fits_at st k x ≡ true) e (and_parts (fits_at st n x) (fits st (suc n) xs) h).0
fits-there st n (x ∷ xs) (suc i) d h l =
    let e : suc n + i ≡ n + suc i = omega arith in
    subst (λ (k : ℕ). fits_at st k (get_or xs i d) ≡ true) e (fits-there st (suc n) xs i d (and_parts (fits_at st n x) (fits st (suc n) xs) h).1 (omega arith))
