-- The ranges of a value can be run over.
use Rattle.std.proofs.Common.{◌≡◌, ℕ, zero, suc, ◌+◌, ◌*◌, ◌^◌, ◌≤◌, ◌<◌, List, [], ◌∷◌, ◌++◌, length}
use Rattle.std.proofs.Common.{length-append, map, append_assoc, arith, refl, ap, sym, ◌∙◌, subst}
use Rattle.std.proofs.lemmas.List.{append-nil}
use Rattle.frozen_model.specs.Trees.{ByteKind, ByteRange, ItemRange, nodes, Part, itself, in_item}
use Rattle.frozen_model.specs.Trees.{in_optional, in_struct, PartAll, in_first, in_later}
use Rattle.frozen_model.specs.Values.{Value, Values, NoValue, And, count, Of, one, bytes, items, absent}
use Rattle.frozen_model.specs.Values.{present, record_of, OfEach, none, more, OfAll, no_part, part}
use Rattle.frozen_model.specs.Layouts.{Layout, Layouts, stride}
use Rattle.frozen_model.specs.Packing.{extent, extents, extent_all, bytes_for}
use Rattle.layout_tree.specs.Reading.{IsRange}
use Rattle.layout_tree.proofs.Subs.{sub_is, part_of_part}
use Rattle.measure_pass.specs.Spots.{Spot, spot, with_spot, spots, spots_each, spots_all, unplaced}
use Rattle.measure_pass.specs.Spots.{block_bytes, start_of, Runnable}
use Rattle.measure_pass.proofs.Running.{start_kept, start_new}
use Rattle.measure_pass.proofs.Gathering.{map_join}

back : (whole : Layout) (done rest : List Spot) (at z : ℕ) → z ≡ 0 → Runnable whole (done ++ []) (at + z) rest
    → Runnable whole done at rest
back whole done rest at z e r =
    let f : at + z ≡ at = omega (arith, e) in
    subst (λ d. Runnable whole d at rest) (append-nil done)
    (subst (λ k. Runnable whole (done ++ []) k rest) f r)

here : (whole l : Layout) (i n p at : ℕ) (done : List Spot) (rest : List Spot) → Part whole 0 l i → IsRange l
    → p < length done → start_of done p ≤ at → n < 2 ^ 31 → at + block_bytes l n < 2 ^ 32
    → Runnable whole (done ++ spot i n p at ∷ []) (at + block_bytes l n) rest
    → Runnable whole done at (spot i n p 0 ∷ rest)
here whole l i n p at done rest q h lp le few lt r =
    let e = sym (sub_is q) in
    subst (λ (y : Layout). Part whole 0 y i × IsRange y × (p < length done) × (start_of done p ≤ at)
    × (n < 2 ^ 31) × (at + block_bytes y n < 2 ^ 32)
    × Runnable whole (done ++ spot i n p at ∷ []) (at + block_bytes y n) rest) e
    (q, h, lp, le, few, lt, r)

run_bytes : (whole : Layout) (k : ByteKind) (d c m : ℕ) (i p at : ℕ) (done rest : List Spot)
    → Part whole 0 (ByteRange k d c) i → p < length done → start_of done p ≤ at → m < 2 ^ 31 → at + m < 2 ^ 32
    → Runnable whole (done ++ with_spot i m p at []) (at + m) rest
    → Runnable whole done at (map unplaced (with_spot i m p at []) ++ rest)
run_bytes whole k d c zero i p at done rest q lp le few lt r = back whole done rest at 0 refl r
run_bytes whole k d c (suc m) i p at done rest q lp le few lt r = here whole (ByteRange k d c) i (suc m) p at
    done rest q tt lp le few lt r

two : (whole : Layout) (done xs ys rest : List Spot) (at a b : ℕ)
    → (Runnable whole (done ++ xs) (at + a) (map unplaced ys ++ rest)
    → Runnable whole done at (map unplaced xs ++ (map unplaced ys ++ rest)))
    → (Runnable whole (done ++ xs ++ ys) (at + a + b) rest
    → Runnable whole (done ++ xs) (at + a) (map unplaced ys ++ rest))
    → Runnable whole (done ++ (xs ++ ys)) (at + (a + b)) rest
    → Runnable whole done at (map unplaced (xs ++ ys) ++ rest)
two whole done xs ys rest at a b f g r =
    let z : at + (a + b) ≡ at + a + b = omega arith in
    let r2 = subst (λ k. Runnable whole (done ++ xs ++ ys) k rest) z
    (subst (λ d. Runnable whole d (at + (a + b)) rest) (sym (append_assoc done xs ys)) r) in
    subst (λ y. Runnable whole done at y) (sym
    (ap (λ y. y ++ rest) (map_join xs ys) ∙ append_assoc (map unplaced xs) (map unplaced ys) rest))
    (f (g r2))

mutual
  pub runnable : (whole : Layout) {l : Layout} {u : Value} (i p n at : ℕ) (done rest : List Spot) → Of l u
      → Part whole 0 l i → n ≡ length done → p < length done → start_of done p ≤ at → at + extent l u < 2 ^ 32
      → Runnable whole (done ++ spots l u i p n at) (at + extent l u) rest
      → Runnable whole done at (map unplaced (spots l u i p n at) ++ rest)
  runnable whole i p n at done rest (one o) q en lp le lt r = back whole done rest at 0 refl r
  runnable whole i p n at done rest (bytes {t = k} {d = d} {c = c} {bs = bs} a b s) q en lp le lt
      r = run_bytes whole k d c (length bs) i p at done rest q lp le a lt r
  runnable whole i p n at done rest (items {l = m} {vs = NoValue} a b o) q en lp le lt r = let z : bytes_for
      (0 * stride m) + 0 ≡ 0 = omega arith in back whole done rest at (bytes_for (0 * stride m) + 0) z r
  runnable whole i p n at done rest (items {h = h} {d = d} {c = c} {l = m} {vs = And w ws} a b o) q en lp le
      lt r =
      let vs = And w ws in
      let k = count vs in
      let s = spot i k p at in
      let blk = bytes_for (k * stride m) in
      let i3 : suc (suc (suc i)) ≡ i + 3 = omega arith in
      let q3 = subst (λ j. Part whole 0 m j) i3 (part_of_part q (in_item itself)) in
      let done2 = done ++ s ∷ [] in
      let en2 : suc n ≡ length done2 = omega (arith, en, length-append done (s ∷ [])) in
      let ln : n < length done2 = omega (arith, en2) in
      let st : start_of done2 n ≡ at = start_new done s n en in
      let ss = spots_each m vs (i + 3) n (suc n) (at + blk) in
      let z : at + (blk + extents m vs) ≡ at + blk + extents m vs = omega arith in
      let r2 = subst (λ j. Runnable whole (done2 ++ ss) j rest) z
      (subst (λ y. Runnable whole y (at + (blk + extents m vs)) rest)
      (sym (append_assoc done (s ∷ []) ss)) r) in
      here whole (ItemRange h d c m) i k p at done (map unplaced ss ++ rest) q tt lp le a (omega (arith, lt))
      (runnable_each whole (i + 3) n (suc n) (at + blk) done2 rest o q3 en2 ln (omega (arith, st))
      (omega (arith, lt)) r2)
  runnable whole i p n at done rest absent q en lp le lt r = back whole done rest at 0 refl r
  runnable whole i p n at done rest (present {l = m} o) q en lp le lt r =
      let i2 : suc (suc i) ≡ i + 2 = omega arith in
      runnable whole (i + 2) p n at done rest o
      (subst (λ j. Part whole 0 m j) i2 (part_of_part q (in_optional itself))) en lp le lt r
  runnable whole i p n at done rest (record_of {ls = ls} e os) q en lp le lt r =
      let i1 : suc i ≡ i + 1 = omega arith in
      runnable_all whole (i + 1) p n at done rest os
      (λ (x : Layout) (m : ℕ) (y : PartAll ls (i + 1) x m). part_of_part q
      (in_struct (subst (λ j. PartAll ls j x m) (sym i1) y))) en lp le lt r

  runnable_each : (whole : Layout) {l : Layout} {vs : Values} (i p n at : ℕ) (done rest : List Spot)
      → OfEach l vs → Part whole 0 l i → n ≡ length done → p < length done → start_of done p ≤ at → at
      + extents l vs < 2 ^ 32
      → Runnable whole (done ++ spots_each l vs i p n at) (at + extents l vs) rest
      → Runnable whole done at (map unplaced (spots_each l vs i p n at) ++ rest)
  runnable_each whole i p n at done rest none q en lp le lt r = back whole done rest at 0 refl r
  runnable_each whole i p n at done rest (more {l = l} {v = u} {vs = vs} o os) q en lp le lt r =
      let xs = spots l u i p n at in
      let n2 = n + length xs in
      let at2 = at + extent l u in
      let ys = spots_each l vs i p n2 at2 in
      let kept = start_kept done xs p lp in
      two whole done xs ys rest at (extent l u) (extents l vs)
      (runnable whole i p n at done (map unplaced ys ++ rest) o q en lp le (omega (arith, lt)))
      (runnable_each whole i p n2 at2 (done ++ xs) rest os q (omega (arith, en, length-append done xs))
      (omega (arith, lp, length-append done xs)) (omega (arith, kept, le)) (omega (arith, lt))) r

  runnable_all : (whole : Layout) {ls : Layouts} {vs : Values} (i p n at : ℕ) (done rest : List Spot)
      → OfAll ls vs → ((x : Layout) (m : ℕ) → PartAll ls i x m → Part whole 0 x m) → n ≡ length done → p
      < length done → start_of done p ≤ at
      → at + extent_all ls vs < 2 ^ 32
      → Runnable whole (done ++ spots_all ls vs i p n at) (at + extent_all ls vs) rest
      → Runnable whole done at (map unplaced (spots_all ls vs i p n at) ++ rest)
  runnable_all whole i p n at done rest no_part q en lp le lt r = back whole done rest at 0 refl r
  runnable_all whole i p n at done rest (part {i = id} {l = l} {ls = ls} {v = u} {vs = vs} o os) q en lp le lt
      r =
      let xs = spots l u i p n at in
      let n2 = n + length xs in
      let at2 = at + extent l u in
      let ys = spots_all ls vs (i + nodes l) p n2 at2 in
      let kept = start_kept done xs p lp in
      two whole done xs ys rest at (extent l u) (extent_all ls vs)
      (runnable whole i p n at done (map unplaced ys ++ rest) o (q l i (in_first itself)) en lp le
      (omega (arith, lt)))
      (runnable_all whole (i + nodes l) p n2 at2 (done ++ xs) rest os
      (λ (x : Layout) (m : ℕ) (y : PartAll ls (i + nodes l) x m). q x m (in_later y))
      (omega (arith, en, length-append done xs)) (omega (arith, lp, length-append done xs))
      (omega (arith, kept, le)) (omega (arith, lt))) r
