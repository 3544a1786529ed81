-- Keys and values by turns.
use Rattle.std.proofs.Common.{◌≡◌, ℕ, zero, suc, ◌+◌, ◌*◌, ◌/◌, ◌-◌, ◌<◌, ◌≤◌, List, [], ◌∷◌, ◌++◌, length, map, get_or, refl, sym, ap, ◌∙◌, arith}
use Rattle.std.specs.List.{All, AllByRecursion}
use Rattle.std.proofs.lemmas.Bool.{and_parts, and_from}
use Rattle.std.proofs.lemmas.List.{length-map}
use Rattle.frozen_model.specs.Values.{Value, Absent, key_of}
use Rattle.typed_tree.specs.Parts.{pairs}
use Rattle.typed_tree.specs.Spots.{pair}
use Rattle.typed_tree.specs.Tables.{evens, picked, turned}
use Rattle.typed_tree.specs.Trees.{trees_in}
use Rattle.typed_tree.proofs.Keyed.{below-at, tree-at}
use Rattle.typed_tree.proofs.Stack.{below, lt-test}

twice-more : (p : ℕ) → 2 * suc p ≡ suc (suc (2 * p))
twice-more p = omega arith

pub evens-at : (ks : List ℕ) (i : ℕ) → 2 * i + 1 < length ks → get_or (evens ks) i 0 ≡ get_or ks (2 * i) 0
evens-at [] i lt = absurd (omega arith)
evens-at (k ∷ []) i lt = absurd (omega arith)
evens-at (k ∷ v ∷ ks) zero lt = refl
evens-at (k ∷ v ∷ ks) (suc i) lt = rw (twice-more i) (evens-at ks i (omega arith))

pub half-evens : (ks : List ℕ) → length (evens ks) ≡ length ks / 2
half-evens [] = refl
half-evens (k ∷ []) = refl
half-evens (k ∷ v ∷ ks) = omega (arith, half-evens ks)

-- the keys of the entries
pub keys-of-pairs : (vs : List Value) (ks : List ℕ) → trees_in vs (evens ks) ≡ map key_of (pairs (trees_in vs ks))
keys-of-pairs vs [] = refl
keys-of-pairs vs (k ∷ []) = refl
keys-of-pairs vs (k ∷ v ∷ ks) = ap (λ zs. get_or vs k Absent ∷ zs) (keys-of-pairs vs ks)

pub below-evens : (n : ℕ) (ks : List ℕ) → below n ks → below n (evens ks)
below-evens n [] h = refl
below-evens n (k ∷ []) h = refl
below-evens n (k ∷ v ∷ ks) h = let p = and_parts _ _ h in and_from _ _ p.0 (below-evens n ks (and_parts _ _ p.1).1)

pub pair-at : (us : List Value) (p : ℕ) → 2 * p + 1 < length us → get_or (pairs us) p Absent ≡ pair (get_or us (2 * p) Absent) (get_or us (2 * p + 1) Absent)
pair-at [] p lt = absurd (omega (arith, lt))
pair-at (u ∷ []) p lt = absurd (omega (arith, lt))
pair-at (u ∷ w ∷ us) zero lt = refl
pair-at (u ∷ w ∷ us) (suc p) lt =
    let a : 2 * suc p ≡ suc (suc (2 * p)) = omega arith in
    let b : 2 * suc p + 1 ≡ suc (suc (2 * p + 1)) = omega arith in
    rw (b, a) (pair-at us p (omega (arith, lt)))

-- ---- pairs at places

pub turned-push : (ks ps : List ℕ) (p : ℕ) → turned ks (ps ++ p ∷ []) ≡ (turned ks ps ++ get_or ks (2 * p) 0 ∷ []) ++ get_or ks (2 * p + 1) 0 ∷ []
turned-push ks [] p = refl
turned-push ks (q ∷ ps) p = ap (λ zs. get_or ks (2 * q) 0 ∷ get_or ks (2 * q + 1) 0 ∷ zs) (turned-push ks ps p)

-- the pairs of such nodes are the pairs at those places
module _ (vs : List Value) (ks : List ℕ) where
  pub turned-pairs : (ps : List ℕ) → AllByRecursion (λ p. 2 * p + 1 < length ks) ps → pairs (trees_in vs (turned ks ps)) ≡ picked (pairs (trees_in vs ks)) ps
  turned-pairs [] h = refl
  turned-pairs (p ∷ ps) h =
      let many = length-map ks (λ k. get_or vs k Absent) in
      let key = tree-at vs ks (2 * p) 0 (omega (arith, h.0)) in
      let value = tree-at vs ks (2 * p + 1) 0 h.0 in
      ap (λ us. pair (get_or vs (get_or ks (2 * p) 0) Absent) (get_or vs (get_or ks (2 * p + 1) 0) Absent) ∷ us) (turned-pairs ps h.1)
      ∙ ap (λ u. u ∷ picked (pairs (trees_in vs ks)) ps)
      (ap (λ k. pair k (get_or vs (get_or ks (2 * p + 1) 0) Absent)) (sym key) ∙ ap (pair (get_or (trees_in vs ks) (2 * p) Absent)) (sym value) ∙ sym (pair-at (trees_in vs ks) p (omega (arith, h.0, many))))

  pub turned-below : (n : ℕ) (ps : List ℕ) → AllByRecursion (λ p. 2 * p + 1 < length ks) ps → below n ks → below n (turned ks ps)
  turned-below n [] h b = refl
  turned-below n (p ∷ ps) h b =
      and_from _ _ (lt-test _ n (below-at n ks (2 * p) 0 b (omega (arith, h.0)))) (and_from _ _ (lt-test _ n (below-at n ks (2 * p + 1) 0 b h.0)) (turned-below n ps h.1 b))

  pub turned-even : (ps : List ℕ) → length (turned ks ps) ≡ 2 * length (pairs (trees_in vs (turned ks ps)))
  turned-even [] = refl
  turned-even (p ∷ ps) = omega (arith, turned-even ps)

-- pairs of half the trees
pub length-pairs : (ts : List Value) → length (pairs ts) ≡ length ts / 2
length-pairs [] = refl
length-pairs (t ∷ []) = refl
length-pairs (k ∷ v ∷ ts) = omega (arith, length-pairs ts)

-- places of keys are places of pairs
pub inside-turns : (vs : List Value) (ks ps es qs : List ℕ) → es ≡ evens ks → qs ≡ ps → All (λ p. p < length (trees_in vs es)) ps → All (λ p. 2 * p + 1 < length ks) qs
inside-turns vs ks ps es qs e f h k d lt =
    let many = length-map es (λ k. get_or vs k Absent) in
    let low = h k d (omega (arith, lt, ap (λ zs. length zs) f)) in
    let half = ap (λ zs. length zs) e ∙ half-evens ks in
    let at : get_or qs k d ≡ get_or ps k d = ap (λ zs. get_or zs k d) f in
    omega (arith, low, many, half, at)

-- the key of a pair, and of the one before
pub key-at : (vs : List Value) (ks : List ℕ) (i : ℕ) → 2 * i + 1 < length ks → get_or vs (get_or ks (2 * i) 0) Absent ≡ get_or vs (get_or (evens ks) i 0) Absent
key-at vs ks i lt = ap (λ k. get_or vs k Absent) (sym (evens-at ks i lt))

pub key-before-at : (vs : List Value) (ks : List ℕ) (i : ℕ) → 1 ≤ i → 2 * i + 1 < length ks → get_or vs (get_or ks (2 * i - 2) 0) Absent ≡ get_or vs (get_or (evens ks) (i - 1) 0) Absent
key-before-at vs ks i some lt =
    let at : 2 * i - 2 ≡ 2 * (i - 1) = omega (arith, some) in
    ap (λ n. get_or vs (get_or ks n 0) Absent) at ∙ key-at vs ks (i - 1) (omega (arith, some, lt))
