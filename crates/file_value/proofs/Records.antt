-- The fields of a record whose ids rise, and the ids put for them.
use Rattle.std.proofs.Common.{◌≡◌, ◌≢◌, ℕ, zero, suc, ◌-◌, ◌<◌, false, ℤ, List, [], ◌∷◌, ◌++◌, length, take}
use Rattle.std.proofs.Common.{drop, map, get_or, refl, sym, ap, ◌∙◌, subst, arith, nat_lt, if◌then◌else◌}
use Rattle.std.specs.Prelude.{zip}
use Rattle.std.specs.List.{AllPairs}
use Rattle.std.proofs.Math.Seq.{drop-append_seam}
use Rattle.std.proofs.lemmas.Bool.Decides.{nat_tests}
use Rattle.std.proofs.lemmas.List.{length-map, get_or-map}
use Rattle.frozen_model.specs.Trees.{Rising}
use Rattle.frozen_model.specs.Values.{Value, Record, count}
use Rattle.base_lists.specs.InOrder.{insert_by, in_order}
use Rattle.key_order.specs.InOrder.{row}
use Rattle.typed_tree.specs.Fields.{id_number, id_numbers, record_of}
use Rattle.typed_tree.specs.Parts.{IsRecord, fields_of, ids_of}
use Rattle.compact_codec.proofs.Listed.{row-listed}
use Rattle.compact_codec.proofs.Finish.{tail_is}
use Rattle.file_value.specs.Putting.{listed}
use Rattle.file_value.proofs.Rows.{length_listed}

-- ---- ids

-- the ids that were added behind the first ones
pub tail_ids : (first : ℕ) (now old ids : List ℤ) → first ≡ length old → now ≡ old ++ ids
    → take (length now - first) (drop first now) ≡ ids
tail_ids first now old ids long e =
    tail_is first now
    ∙ ap (drop first) e
    ∙ ap (λ n. drop n (old ++ ids)) long
    ∙ drop-append_seam old ids

above_low : (low : ℕ) (is : List ℕ) (i : ℕ) → Rising low is → i < length is → low < get_or is i 0
above_low low [] i r lt = absurd (omega (arith, lt))
above_low low (x ∷ xs) zero r lt = r.0
above_low low (x ∷ xs) (suc i) r lt = omega (arith, r.0, above_low x xs i r.2 (omega (arith, lt)))

rising_apart : (low : ℕ) (is : List ℕ) (i j : ℕ) → Rising low is → i < j → j < length is
    → get_or is i 0 < get_or is j 0
rising_apart low [] i j r lt inside = absurd (omega (arith, inside))
rising_apart low (x ∷ xs) i zero r lt inside = absurd (omega (arith, lt))
rising_apart low (x ∷ xs) zero (suc j) r lt inside = above_low x xs j r.2 (omega (arith, inside))
rising_apart low (x ∷ xs) (suc i) (suc j) r lt inside =
    rising_apart x xs i j r.2 (omega (arith, lt)) (omega (arith, inside))

-- ids differ where their numbers rise
ids_differ : (ids : List ℤ) → Rising 0 (id_numbers ids) → AllPairs (λ i j. i ≢ j) ids
ids_differ ids r i j d lt inside e =
    let long = length-map ids id_number in
    let first = get_or-map id_number ids i d 0 (omega (arith, lt, inside)) in
    let second = get_or-map id_number ids j d 0 inside in
    let apart = rising_apart 0 (id_numbers ids) i j r lt (omega (arith, inside, long)) in
    absurd (omega (arith, apart, first, second, ap id_number e))

-- ---- the record

put_first : (i : ℕ) (t : Value) (is : List ℕ) (ts : List Value) → Rising i is
    → insert_by nat_lt (λ (f : ℕ × Value). f.0) (i, t) (zip is ts) ≡ (i, t) ∷ zip is ts
put_first i t [] ts r = refl
put_first i t (j ∷ is) [] r = refl
put_first i t (j ∷ is) (u ∷ ts) r =
    let above = r.0 in
    let later : nat_lt j i ≡ false = grind (arith, nat_tests) in
    let rest = insert_by nat_lt (λ (f : ℕ × Value). f.0) (i, t) (zip is ts) in
    ap (λ b. if b then (j, u) ∷ rest else (i, t) ∷ (j, u) ∷ zip is ts) later

zip_order : (low : ℕ) (is : List ℕ) (ts : List Value) → Rising low is
    → in_order nat_lt (λ (f : ℕ × Value). f.0) (zip is ts) ≡ zip is ts
zip_order low [] ts r = refl
zip_order low (i ∷ is) [] r = refl
zip_order low (i ∷ is) (t ∷ ts) r =
    ap (insert_by nat_lt (λ (f : ℕ × Value). f.0) (i, t)) (zip_order i is ts r.2) ∙ put_first i t is ts r.2

firsts : (is : List ℕ) (ts : List Value) → length is ≡ length ts
    → map (λ (f : ℕ × Value). f.0) (zip is ts) ≡ is
firsts [] ts e = refl
firsts (i ∷ is) [] e = absurd (omega (arith, e))
firsts (i ∷ is) (t ∷ ts) e = ap (λ xs. i ∷ xs) (firsts is ts (omega (arith, e)))

seconds : (is : List ℕ) (ts : List Value) → length is ≡ length ts
    → map (λ (f : ℕ × Value). f.1) (zip is ts) ≡ ts
seconds [] [] e = refl
seconds [] (t ∷ ts) e = absurd (omega (arith, e))
seconds (i ∷ is) [] e = absurd (omega (arith, e))
seconds (i ∷ is) (t ∷ ts) e = ap (λ xs. t ∷ xs) (seconds is ts (omega (arith, e)))

record_is : (is : List ℕ) (ts : List Value) → Rising 0 is → length is ≡ length ts
    → record_of is ts ≡ Record is (row ts)
record_is is ts r e =
    let in_turn = zip_order 0 is ts r in
    ap (λ fs. Record (map (λ (f : ℕ × Value). f.0) fs) (row (map (λ (f : ℕ × Value). f.1) fs))) in_turn
    ∙ ap (λ xs. Record xs (row (map (λ (f : ℕ × Value). f.1) (zip is ts)))) (firsts is ts e)
    ∙ ap (λ xs. Record is (row xs)) (seconds is ts e)

record_back : (v : Value) → IsRecord v → Record (ids_of v) (fields_of v) ≡ v
record_back (Record ids vs) h = refl
record_back v h = absurd h

-- put by these ids, the fields of a struct are the struct, and the ids differ
pub record StructFields (ids : List ℤ) (v : Value) : Type 0 where
  pub many : length (listed (fields_of v)) ≡ length ids
  pub differ : AllPairs (λ i j. i ≢ j) ids
  pub whole : record_of (id_numbers ids) (listed (fields_of v)) ≡ v

-- so it is where the ids are those of the struct
pub fields_of_struct : (ids : List ℤ) (v : Value) → IsRecord v → Rising 0 (ids_of v)
    → length (ids_of v) ≡ count (fields_of v) → id_numbers ids ≡ ids_of v → StructFields ids v
fields_of_struct ids v s r many same =
    let vs = fields_of v in
    let long : length (ids_of v) ≡ length (listed vs) = omega (arith, many, length_listed vs) in record {
      many = omega (arith, long, ap length same, length-map ids id_number);
      differ = ids_differ ids (subst (Rising 0) (sym same) r);
      whole =
          ap (λ is. record_of is (listed vs)) same
          ∙ record_is (ids_of v) (listed vs) r long
          ∙ ap (Record (ids_of v)) (row-listed vs)
          ∙ record_back v s;
    }
