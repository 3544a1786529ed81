-- Numbers are taken into bounds one list after another.
use Rattle.std.proofs.Common.{◌≡◌, ℕ, zero, suc, ◌+◌, ◌<◌, List, [], ◌∷◌, ◌++◌, map, length}
use Rattle.std.proofs.Common.{get_or, slice_set, replicate, ℤ, pos, arith, refl, ap, sym, ◌∙◌, length-append}
use Rattle.std.proofs.lemmas.List.{map-append}
use Rattle.std.proofs.lemmas.List.Sums.{fold-append}
use Rattle.std.specs.Int.{int_min, int_max}
use Rattle.std.specs.List.{fold}
use Rattle.frozen_model.specs.Trees.{Leaf, ByteRange, ItemRange, Optional, Struct, NoField, Field, nodes}
use Rattle.frozen_model.specs.Trees.{nodes_all, leaf, byte_range, item_range, optional, struct, no_field}
use Rattle.frozen_model.specs.Trees.{field}
use Rattle.frozen_model.specs.Layouts.{Layout, Layouts}
use Rattle.frozen_model.specs.Holding.{Puts, AllPuts, no_puts, no_puts_all, both, both_all}
use Rattle.frozen_laws.proofs.Puts.{Beside, AllBeside}
use Rattle.value_bounds.specs.declared.bounds.Bounds.{Bounds}
use Rattle.value_bounds.specs.Seeing.{numbers, all_numbers, bounds_with, bounds_of, no_bounds, seen}
use Rattle.value_bounds.specs.Seeing.{seen_from}

-- lists of numbers joined place by place
abbrev pub joined : List (List ℤ) → List (List ℤ) → List (List ℤ)
joined [] yss = yss
joined (xs ∷ xss) [] = xs ∷ xss
joined (xs ∷ xss) (ys ∷ yss) = (xs ++ ys) ∷ joined xss yss

pub length_seen : (bs : List Bounds) (xss : List (List ℤ)) → length (seen bs xss) ≡ length bs
length_seen [] xss = refl
length_seen (b ∷ bs) [] = refl
length_seen (b ∷ bs) (xs ∷ xss) = ap suc (length_seen bs xss)

pub length_seen_from : (bs : List Bounds) (n : ℕ) (xss : List (List ℤ)) → length (seen_from bs n xss)
    ≡ length bs
length_seen_from bs zero xss = length_seen bs xss
length_seen_from [] (suc n) xss = refl
length_seen_from (b ∷ bs) (suc n) xss = ap suc (length_seen_from bs n xss)

-- ---- one after another

bounds_again : (b : Bounds) (xs ys : List ℤ) → bounds_with (bounds_with b xs) ys ≡ bounds_with b (xs ++ ys)
bounds_again b xs ys =
    let e = fold-append int_min b.least xs ys in
    let f = fold-append int_max b.greatest xs ys in
    sym (ap (λ z. record {
      least = z;
      greatest = fold int_max b.greatest (xs ++ ys);
    }) e ∙ ap (λ z. record { least = fold int_min (fold int_min b.least xs) ys; greatest = z }) f)

seen_again : (bs : List Bounds) (xss yss : List (List ℤ)) → seen (seen bs xss) yss ≡ seen bs (joined xss yss)
seen_again [] xss yss = refl
seen_again (b ∷ bs) [] yss = refl
seen_again (b ∷ bs) (xs ∷ xss) [] = refl
seen_again (b ∷ bs) (xs ∷ xss) (ys ∷ yss) = let e = bounds_again b xs ys in let f = seen_again bs xss yss in
    cc

pub seen_from_again : (bs : List Bounds) (n : ℕ) (xss yss : List (List ℤ))
    → seen_from (seen_from bs n xss) n yss ≡ seen_from bs n (joined xss yss)
seen_from_again bs zero xss yss = seen_again bs xss yss
seen_from_again [] (suc n) xss yss = refl
seen_from_again (b ∷ bs) (suc n) xss yss = ap (λ r. b ∷ r) (seen_from_again bs n xss yss)

-- ---- behind one another

nothing_seen : (bs : List Bounds) → seen bs [] ≡ bs
nothing_seen [] = refl
nothing_seen (b ∷ bs) = refl

pub nothing_seen_from : (bs : List Bounds) (n : ℕ) → seen_from bs n [] ≡ bs
nothing_seen_from bs zero = nothing_seen bs
nothing_seen_from [] (suc n) = refl
nothing_seen_from (b ∷ bs) (suc n) = ap (λ r. b ∷ r) (nothing_seen_from bs n)

seen_behind : (bs : List Bounds) (xss yss : List (List ℤ)) → seen bs (xss ++ yss)
    ≡ seen_from (seen bs xss) (length xss) yss
seen_behind [] [] yss = refl
seen_behind [] (xs ∷ xss) yss = refl
seen_behind (b ∷ bs) [] yss = refl
seen_behind (b ∷ bs) (xs ∷ xss) yss = ap (λ r. bounds_with b xs ∷ r) (seen_behind bs xss yss)

pub seen_from_behind : (bs : List Bounds) (n m : ℕ) (xss yss : List (List ℤ)) → m ≡ n + length xss
    → seen_from bs n (xss ++ yss) ≡ seen_from (seen_from bs n xss) m yss
seen_from_behind bs zero m xss yss e = let f : length xss ≡ m = omega arith in seen_behind bs xss yss
    ∙ ap (λ k. seen_from (seen bs xss) k yss) f
seen_from_behind [] (suc n) zero xss yss e = absurd (omega arith)
seen_from_behind [] (suc n) (suc m) xss yss e = refl
seen_from_behind (b ∷ bs) (suc n) zero xss yss e = absurd (omega arith)
seen_from_behind (b ∷ bs) (suc n) (suc m) xss yss e = ap (λ r. b ∷ r)
    (seen_from_behind bs n m xss yss (omega arith))

-- where there are no numbers a node stays
pub seen_past : (bs : List Bounds) (n m : ℕ) (xss : List (List ℤ)) → m ≡ suc n → seen_from bs n ([] ∷ xss)
    ≡ seen_from bs m xss
seen_past bs n m xss e = seen_from_behind bs n m ([] ∷ []) xss (omega arith)
    ∙ ap (λ r. seen_from r m xss) (stays bs n)
  where
    stays : (bs : List Bounds) (n : ℕ) → seen_from bs n ([] ∷ []) ≡ bs
    stays [] zero = refl
    stays (b ∷ bs) zero = ap (λ r. b ∷ r) (nothing_seen bs)
    stays [] (suc n) = refl
    stays (b ∷ bs) (suc n) = ap (λ r. b ∷ r) (stays bs n)

-- one number
pub one_seen : (bs : List Bounds) (n : ℕ) (x : ℤ) (d : Bounds) → n < length bs
    → slice_set bs n (bounds_with (get_or bs n d) (x ∷ [])) ≡ seen_from bs n ((x ∷ []) ∷ [])
one_seen [] n x d h = absurd (omega arith)
one_seen (b ∷ bs) zero x d h = ap (λ r. bounds_with b (x ∷ []) ∷ r) (sym (nothing_seen bs))
one_seen (b ∷ bs) (suc n) x d h = ap (λ r. b ∷ r) (one_seen bs n x d (omega arith))

-- ---- numbers of layouts

mutual
  pub none_seen : (l : Layout) (bs : List Bounds) (n : ℕ) → seen_from bs n (numbers (no_puts l)) ≡ bs
  none_seen (Leaf k c) bs n = seen_past bs n (suc n) [] refl ∙ nothing_seen_from bs (suc n)
  none_seen (ByteRange t d c) bs n = seen_past bs n (suc n) ([] ∷ [] ∷ []) refl
      ∙ seen_past bs (suc n) (suc (suc n)) ([] ∷ []) refl
      ∙ seen_past bs (suc (suc n)) (suc (suc (suc n))) [] refl ∙ nothing_seen_from bs (suc (suc (suc n)))
  none_seen (ItemRange h d c l) bs n =
      let xss = numbers (no_puts l) in
      seen_past bs n (suc n) ([] ∷ [] ∷ xss) refl ∙ seen_past bs (suc n) (suc (suc n)) ([] ∷ xss) refl
      ∙ seen_past bs (suc (suc n)) (suc (suc (suc n))) xss refl ∙ none_seen l bs (suc (suc (suc n)))
  none_seen (Optional w l) bs n = let xss = numbers (no_puts l) in seen_past bs n (suc n) ([] ∷ xss) refl
      ∙ seen_past bs (suc n) (suc (suc n)) xss refl ∙ none_seen l bs (suc (suc n))
  none_seen (Struct ls) bs n = seen_past bs n (suc n) (all_numbers (no_puts_all ls)) refl
      ∙ all_none_seen ls bs (suc n)

  pub all_none_seen : (ls : Layouts) (bs : List Bounds) (n : ℕ)
      → seen_from bs n (all_numbers (no_puts_all ls)) ≡ bs
  all_none_seen NoField bs n = nothing_seen_from bs n
  all_none_seen (Field i l ls) bs n =
      let xss = numbers (no_puts l) in
      let yss = all_numbers (no_puts_all ls) in
      seen_from_behind bs n (n + length xss) xss yss refl
      ∙ ap (λ r. seen_from r (n + length xss) yss) (none_seen l bs n)
      ∙ all_none_seen ls bs (n + length xss)

mutual
  pub length_numbers : {l : Layout} {p : Puts} → Beside l p → length (numbers p) ≡ nodes l
  length_numbers (leaf h) = refl
  length_numbers (byte_range h i) = refl
  length_numbers (item_range h i x) = omega (arith, length_numbers x)
  length_numbers (optional h x) = omega (arith, length_numbers x)
  length_numbers (struct xs) = omega (arith, length_all_numbers xs)

  pub length_all_numbers : {ls : Layouts} {ps : AllPuts} → AllBeside ls ps → length (all_numbers ps)
      ≡ nodes_all ls
  length_all_numbers no_field = refl
  length_all_numbers (field {m = p} {ms = ps} x xs) = omega
      (arith, length-append (numbers p) (all_numbers ps), length_numbers x, length_all_numbers xs)

joined_behind : (us vs ws xs : List (List ℤ)) → length us ≡ length ws → joined (us ++ vs) (ws ++ xs)
    ≡ joined us ws ++ joined vs xs
joined_behind [] vs [] xs e = refl
joined_behind [] vs (w ∷ ws) xs e = absurd (omega arith)
joined_behind (u ∷ us) vs [] xs e = absurd (omega arith)
joined_behind (u ∷ us) vs (w ∷ ws) xs e = ap (λ r. (u ++ w) ∷ r) (joined_behind us vs ws xs (omega arith))

mutual
  pub numbers_of_both : {l : Layout} {p q : Puts} → Beside l p → Beside l q → numbers (both p q)
      ≡ joined (numbers p) (numbers q)
  numbers_of_both (leaf h) (leaf h') = refl
  numbers_of_both (byte_range {c' = cs} h i) (byte_range {c' = cs'} h' i') = ap (λ r. [] ∷ [] ∷ r ∷ [])
      (map-append pos cs cs')
  numbers_of_both (item_range {c' = cs} h i x) (item_range {c' = cs'} h' i' x') = let e = map-append pos cs
      cs' in let f = numbers_of_both x x' in cc
  numbers_of_both (optional {w' = ws} h x) (optional {w' = ws'} h' x') = let e = map-append pos ws ws' in
      let f = numbers_of_both x x' in cc
  numbers_of_both (struct xs) (struct xs') = ap (λ r. [] ∷ r) (all_numbers_of_both xs xs')

  pub all_numbers_of_both : {ls : Layouts} {ps qs : AllPuts} → AllBeside ls ps → AllBeside ls qs
      → all_numbers (both_all ps qs) ≡ joined (all_numbers ps) (all_numbers qs)
  all_numbers_of_both no_field no_field = refl
  all_numbers_of_both (field {m = p} {ms = ps} x xs) (field {m = q} {ms = qs} x' xs') =
      let e = numbers_of_both x x' in
      let f = all_numbers_of_both xs xs' in
      ap (λ r. r ++ all_numbers (both_all ps qs)) e ∙ ap (λ r. joined (numbers p) (numbers q) ++ r) f
      ∙ sym (joined_behind (numbers p) (all_numbers ps) (numbers q) (all_numbers qs)
      (length_numbers x ∙ sym (length_numbers x')))

-- ---- from no bounds

pub seen_at_first : (n : ℕ) (xss : List (List ℤ)) → length xss ≡ n → seen (replicate n no_bounds) xss
    ≡ map bounds_of xss
seen_at_first zero [] e = refl
seen_at_first zero (xs ∷ xss) e = absurd (omega arith)
seen_at_first (suc n) [] e = absurd (omega arith)
seen_at_first (suc n) (xs ∷ xss) e = ap (λ r. bounds_of xs ∷ r) (seen_at_first n xss (omega arith))
