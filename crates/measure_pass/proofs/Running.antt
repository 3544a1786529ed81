-- Running over the ranges of a value is a pass over its distances.
use Rattle.std.proofs.Common.{◌≡◌, ℕ, zero, suc, ◌+◌, ◌-◌, ◌*◌, ◌^◌, ◌≤◌, ◌<◌, List, [], ◌∷◌, ◌++◌, length}
use Rattle.std.proofs.Common.{length-append, map, get_or, append_assoc, max, arith, refl, ap, sym, ◌∙◌, subst}
use Rattle.std.proofs.lemmas.List.{get_or_append_left, get_or-append_right, append-nil}
use Rattle.frozen_model.specs.Bits.{digits}
use Rattle.frozen_model.specs.Trees.{ByteKind, Holder, Leaf, ByteRange, ItemRange, Optional, Struct, NoField}
use Rattle.frozen_model.specs.Trees.{Field, nodes, Part, itself, in_item, in_optional, in_struct, PartAll}
use Rattle.frozen_model.specs.Trees.{in_first, in_later}
use Rattle.frozen_model.specs.Values.{Value, Values, One, Bytes, Items, Absent, Present, Record, NoValue, And}
use Rattle.frozen_model.specs.Values.{count, Of, one, bytes, items, absent, present, record_of, OfEach, none}
use Rattle.frozen_model.specs.Values.{more, OfAll, no_part, part}
use Rattle.frozen_model.specs.Layouts.{Version, Layout, Layouts, stride}
use Rattle.frozen_model.specs.Packing.{extent, extents, extent_all, bytes_for, distance}
use Rattle.frozen_model.specs.Holding.{Puts, puts, puts_each, puts_all, no_puts, puts_of, widened, pass}
use Rattle.frozen_model.proofs.Digits.{digits_within}
use Rattle.frozen_laws.proofs.Puts.{puts_beside, puts_each_beside}
use Rattle.layout_tree.specs.Listing.{Noted, layout_in, settled, sub}
use Rattle.layout_tree.specs.Noting.{noting}
use Rattle.layout_tree.proofs.Subs.{sub_is, part_of_part}
use Rattle.measure_pass.specs.Growing.{grown, Grew, FieldsGrew, Hole}
use Rattle.frozen_laws.specs.Laws.{Filled}
use Rattle.measure_pass.specs.Spots.{Spot, spot, root, with_spot, spots, spots_each, spots_all, unplaced}
use Rattle.measure_pass.specs.Spots.{block_bytes, start_of, noting_at, run, distances, distances_all, Runs}
use Rattle.measure_pass.specs.Spots.{spots_of}
use Rattle.measure_pass.proofs.Grown.{grown_none, grown_settled}
use Rattle.measure_pass.proofs.Holes.{no_hole, grew_none, grew_more, grew_range, grew_optional, grew_struct}
use Rattle.measure_pass.proofs.Holes.{grew_field, fields_grew_none}
use Rattle.measure_pass.proofs.Arms.{noted_whole}
use Rattle.measure_pass.proofs.Spotting.{distances_none, distances_both, beside_distances, distances_suffice}

record EachRuns (v : Version) (whole l : Layout) (vs : Values) (i p n at : ℕ) (done rest : List Spot)
    (t : Noted) : Type 0 where
  tree : Noted
  is : run whole done at t (map unplaced (spots_each l vs i p n at) ++ rest)
      ≡ run whole (done ++ spots_each l vs i p n at) (at + extents l vs) tree rest
  grew : Grew v l (distances (puts_each l vs (at - start_of done p))) t tree i

-- from a settled tree, running over the unplaced ranges of a value places them and leaves what a pass over
-- the value leaves
pub record RunPasses (v : Version) (t : Noted) (u : Value) (first : ℕ) : Type 0 where
  pub placed : (run (layout_in v t) (root ∷ []) first t
      (map unplaced (spots (layout_in v t) u 0 0 1 first))).spots ≡ spots_of (layout_in v t) u
  pub ends : (run (layout_in v t) (root ∷ []) first t
      (map unplaced (spots (layout_in v t) u 0 0 1 first))).end ≡ first + extent (layout_in v t) u
  pub passes : layout_in v (settled
      (run (layout_in v t) (root ∷ []) first t (map unplaced (spots (layout_in v t) u 0 0 1 first))).tree)
      ≡ pass (layout_in v t) u

record AllRuns (v : Version) (whole : Layout) (ls : Layouts) (vs : Values) (i p n at : ℕ)
    (done rest : List Spot) (t : Noted) : Type 0 where
  tree : Noted
  is : run whole done at t (map unplaced (spots_all ls vs i p n at) ++ rest)
      ≡ run whole (done ++ spots_all ls vs i p n at) (at + extent_all ls vs) tree rest
  grew : FieldsGrew v ls (distances_all (puts_all ls vs (at - start_of done p))) t tree i

-- nothing to run over
nothing : (whole : Layout) (done rest : List Spot) (at : ℕ) (t : Noted) → run whole done at t rest
    ≡ run whole (done ++ []) (at + 0) t rest
nothing whole done rest at t = let z : at ≡ at + 0 = omega arith in ap (λ k. run whole done k t rest) z
    ∙ ap (λ d. run whole d (at + 0) t rest) (sym (append-nil done))

-- one after another
joined : (whole : Layout) (done xs ys rest : List Spot) (at a b : ℕ) (t t1 t2 : Noted)
    → run whole done at t (map unplaced xs ++ (map unplaced ys ++ rest))
    ≡ run whole (done ++ xs) (at + a) t1 (map unplaced ys ++ rest)
    → run whole (done ++ xs) (at + a) t1 (map unplaced ys ++ rest)
    ≡ run whole (done ++ xs ++ ys) (at + a + b) t2 rest
    → run whole done at t (map unplaced (xs ++ ys) ++ rest)
    ≡ run whole (done ++ (xs ++ ys)) (at + (a + b)) t2 rest
joined whole done xs ys rest at a b t t1 t2 f g =
    let m = map_join xs ys in
    let z : at + a + b ≡ at + (a + b) = omega arith in
    ap (λ r. run whole done at t (r ++ rest)) m
    ∙ ap (λ r. run whole done at t r) (append_assoc (map unplaced xs) (map unplaced ys) rest) ∙ f ∙ g
    ∙ ap (λ k. run whole (done ++ xs ++ ys) k t2 rest) z
    ∙ ap (λ d. run whole d (at + (a + b)) t2 rest) (append_assoc done xs ys)
  where
    map_join : (xs ys : List Spot) → map unplaced (xs ++ ys) ≡ map unplaced xs ++ map unplaced ys
    map_join [] ys = refl
    map_join (x ∷ xs) ys = ap (λ r. unplaced x ∷ r) (map_join xs ys)

pub start_kept : (done xs : List Spot) (p : ℕ) → p < length done → start_of (done ++ xs) p ≡ start_of done p
start_kept done xs p h = ap (λ s. s.start) (get_or_append_left done xs root p h)

pub start_new : (done : List Spot) (s : Spot) (n : ℕ) → n ≡ length done → start_of (done ++ s ∷ []) n
    ≡ s.start
start_new done s n e =
    let le : length done ≤ n = omega arith in
    let z : n - length done ≡ 0 = omega arith in
    ap (λ x. x.start) (get_or-append_right done (s ∷ []) (length done) n root refl le
    ∙ ap (λ k. get_or (s ∷ []) k root) z)

digits_zero : digits 0 ≡ 0
unfolding digits
digits_zero = refl

-- a distance alone, at an empty range and at another
no_distance : (v : Version) (l : Layout) (t : Noted) (i : ℕ) (p : Puts)
    → ((s : Noted) → layout_in v s ≡ l → grown v s p ≡ s) → Grew v l p t t i
no_distance v l t i p f = λ whole o s e eo. eo ∙ ap whole (sym (f s e))

empty_blob : (v : Version) (k : ByteKind) (d c : ℕ) (s : Noted) → layout_in v s ≡ ByteRange k d c
    → grown v s (ByteRange k (0 ∷ []) []) ≡ s
empty_blob v k d c (ByteRange q f g) e =
    let a : max f.wide (max (digits 0) 0) ≡ f.wide = omega (arith, digits_zero) in
    let b : max g.wide 0 ≡ g.wide = omega arith in
    ap (λ w. ByteRange q (noting f w) (noting g (max g.wide 0))) a ∙ ap (λ w. ByteRange q f (noting g w)) b
empty_blob v k d c (Leaf _ _) e = absurd cc
empty_blob v k d c (ItemRange _ _ _ _) e = absurd cc
empty_blob v k d c (Optional _ _) e = absurd cc
empty_blob v k d c (Struct _) e = absurd cc

empty_range : (v : Version) (h : Holder) (d c : ℕ) (m : Layout) (s : Noted) → layout_in v s
    ≡ ItemRange h d c m → grown v s (ItemRange h (0 ∷ []) [] (no_puts m)) ≡ s
empty_range v h d c m (ItemRange q f g s) e =
    let es : layout_in v s ≡ m = cc in
    let a : max f.wide (max (digits 0) 0) ≡ f.wide = omega (arith, digits_zero) in
    let b : max g.wide 0 ≡ g.wide = omega arith in
    ap (λ w. ItemRange q (noting f w) (noting g (max g.wide 0)) (grown v s (no_puts m))) a
    ∙ ap (λ w. ItemRange q f (noting g w) (grown v s (no_puts m))) b
    ∙ ap (λ (x : Noted). ItemRange q f g x) (grown_none v s m es)
empty_range v h d c m (Leaf _ _) e = absurd cc
empty_range v h d c m (ByteRange _ _ _) e = absurd cc
empty_range v h d c m (Optional _ _) e = absurd cc
empty_range v h d c m (Struct _) e = absurd cc

blob_distance : (v : Version) (k : ByteKind) (d c x : ℕ) (t : Noted) (i : ℕ) → digits x ≤ 32
    → Grew v (ByteRange k d c) (ByteRange k (x ∷ []) []) t (noting_at t (i + 1) (digits x)) i
blob_distance v k d c x t i le = λ whole o s e eo. go whole o s e eo
  where
    go : (whole : Noted → Noted) → Hole whole i → (s : Noted) → layout_in v s ≡ ByteRange k d c → t ≡ whole s
        → noting_at t (i + 1) (digits x) ≡ whole (grown v s (ByteRange k (x ∷ []) []))
    go whole o (ByteRange q f g) e eo =
        let a : max f.wide (digits x) ≡ max f.wide (max (digits x) 0) = omega arith in
        let b : g.wide ≡ max g.wide 0 = omega arith in
        noted_whole whole i o t (noting_at t (i + 1) (digits x)) (ByteRange q f g) 1 (digits x) (digits x)
        (i + 1) refl le eo refl
        ∙ ap (λ w. whole (ByteRange q (noting f w) g)) a
        ∙ ap (λ w. whole (ByteRange q (noting f (max f.wide (max (digits x) 0))) (noting g w))) b
    go whole o (Leaf _ _) e eo = absurd cc
    go whole o (ItemRange _ _ _ _) e eo = absurd cc
    go whole o (Optional _ _) e eo = absurd cc
    go whole o (Struct _) e eo = absurd cc

range_distance : (v : Version) (h : Holder) (d c x : ℕ) (m : Layout) (t : Noted) (i : ℕ) → digits x ≤ 32
    → Grew v (ItemRange h d c m) (ItemRange h (x ∷ []) [] (no_puts m)) t (noting_at t (i + 1) (digits x)) i
range_distance v h d c x m t i le = λ whole o s e eo. go whole o s e eo
  where
    go : (whole : Noted → Noted) → Hole whole i → (s : Noted) → layout_in v s ≡ ItemRange h d c m → t
        ≡ whole s → noting_at t (i + 1) (digits x) ≡ whole (grown v s (ItemRange h (x ∷ []) [] (no_puts m)))
    go whole o (ItemRange q f g s) e eo =
        let es : layout_in v s ≡ m = cc in
        let a : max f.wide (digits x) ≡ max f.wide (max (digits x) 0) = omega arith in
        let b : g.wide ≡ max g.wide 0 = omega arith in
        noted_whole whole i o t (noting_at t (i + 1) (digits x)) (ItemRange q f g s) 1 (digits x) (digits x)
        (i + 1) refl le eo refl
        ∙ ap (λ w. whole (ItemRange q (noting f w) g s)) a
        ∙ ap (λ w. whole (ItemRange q (noting f (max f.wide (max (digits x) 0))) (noting g w) s)) b
        ∙ ap (λ (y : Noted). whole (ItemRange q (noting f (max f.wide (max (digits x) 0)))
        (noting g (max g.wide 0)) y)) (sym (grown_none v s m es))
    go whole o (Leaf _ _) e eo = absurd cc
    go whole o (ByteRange _ _ _) e eo = absurd cc
    go whole o (Optional _ _) e eo = absurd cc
    go whole o (Struct _) e eo = absurd cc

-- a distance that is not great
small_distance : (x at : ℕ) → x ≤ at → at < 2 ^ 32 → digits x ≤ 32
small_distance x at le h = digits_within x 32 (omega (arith, le, h))

run_bytes : (v : Version) (whole : Layout) (k : ByteKind) (d c : ℕ) (bs : List ℕ) (m i p n at : ℕ)
    (done rest : List Spot) (t : Noted) → m ≡ length bs → Part whole 0 (ByteRange k d c) i → at < 2 ^ 32
    → Runs v whole (ByteRange k d c) (Bytes bs) i p n at done rest t
run_bytes v whole k d c bs zero i p n at done rest t e q lt = record {
  tree = t;
  is = let z : 0 ≡ length bs = e in
      ap (λ r. run whole done at t (map unplaced r ++ rest)) (ap (λ j. with_spot i j p at []) (sym z))
      ∙ nothing whole done rest at t
      ∙ ap (λ j. run whole (done ++ with_spot i j p at []) (at + j) t rest) z;
  grew = subst (λ j. Grew v (ByteRange k d c) (ByteRange k (distance j (at - start_of done p) ∷ []) []) t t i)
      e (no_distance v (ByteRange k d c) t i (ByteRange k (0 ∷ []) []) (empty_blob v k d c));
}
run_bytes v whole k d c bs (suc m) i p n at done rest t e q lt =
    let x = at - start_of done p in
    let t2 = noting_at t (i + 1) (digits x) in
    let bb : block_bytes (sub whole i) (suc m)
    ≡ suc m = ap (λ (y : Layout). block_bytes y (suc m)) (sub_is q) in
    record {
      tree = t2;
      is = ap (λ j. run whole done at t (map unplaced (with_spot i j p at []) ++ rest)) (sym e)
          ∙ ap (λ j. run whole (done ++ spot i (suc m) p at ∷ []) (at + j) t2 rest) bb
          ∙ ap (λ j. run whole (done ++ with_spot i j p at []) (at + j) t2 rest) e;
      grew = subst (λ j. Grew v (ByteRange k d c) (ByteRange k (distance j x ∷ []) []) t t2 i) e
          (blob_distance v k d c x t i (small_distance x at (omega arith) lt));
    }

mutual
  pub runs : (v : Version) (whole l : Layout) (u : Value) (i p n at : ℕ) (done rest : List Spot) (t : Noted)
      → Of l u → Part whole 0 l i → n ≡ length done → p < length done → start_of done p ≤ at → at + extent l u
      < 2 ^ 32
      → Runs v whole l u i p n at done rest t
  runs v whole (Leaf k c) (One x) i p n at done rest t (one o) q en lp le lt = record {
    tree = t;
    is = nothing whole done rest at t;
    grew = grew_none v (Leaf k c) t i;
  }
  runs v whole (ByteRange k d c) (Bytes bs) i p n at done rest t (bytes a b s) q en lp le lt = run_bytes v
      whole k d c bs (length bs) i p n at done rest t refl q (omega (arith, lt))
  runs v whole (ItemRange h d c m) (Items g NoValue) i p n at done rest t (items a b o) q en lp le
      lt = record {
        tree = t;
        is = let z : 0 ≡ bytes_for (0 * stride m) + 0 = omega arith in nothing whole done rest at t
            ∙ ap (λ j. run whole (done ++ []) (at + j) t rest) z;
        grew = subst (λ (y : Puts). Grew v (ItemRange h d c m) (ItemRange h (0 ∷ []) [] y) t t i)
            (sym (distances_none m)) (no_distance v (ItemRange h d c m) t i
            (ItemRange h (0 ∷ []) [] (no_puts m))
            (empty_range v h d c m));
      }
  runs v whole (ItemRange h d c m) (Items g (And w ws)) i p n at done rest t (items a b o) q en lp le lt =
      let vs = And w ws in
      let k = count vs in
      let x = at - start_of done p in
      let s = spot i k p at in
      let t1 = noting_at t (i + 1) (digits x) in
      let blk = bytes_for (k * stride m) in
      let bb : block_bytes (sub whole i) k ≡ blk = ap (λ (y : Layout). block_bytes y k) (sub_is q) in
      let i3 : suc (suc (suc i)) ≡ i + 3 = omega arith in
      let q3 = subst (λ j. Part whole 0 m j) i3 (part_of_part q (in_item itself)) in
      let done2 = done ++ s ∷ [] in
      let en2 : suc n ≡ length done2 = omega (arith, en, length-append done (s ∷ [])) in
      let ln : n < length done2 = omega (arith, en2) in
      let st : start_of done2 n ≡ at = start_new done s n en in
      let r = runs_each v whole m vs (i + 3) n (suc n) (at + blk) done2 rest t1 o q3 en2 ln
      (omega (arith, st)) (omega (arith, lt)) in
      let from : at + blk - start_of done2 n ≡ blk = omega (arith, st) in
      let ss = spots_each m vs (i + 3) n (suc n) (at + blk) in
      let z : at + blk + extents m vs ≡ at + (blk + extents m vs) = omega arith in
      record {
        tree = r.tree;
        is = ap (λ j. run whole done2 (at + j) t1 (map unplaced ss ++ rest)) bb ∙ r.is
            ∙ ap (λ j. run whole (done2 ++ ss) j r.tree rest) z
            ∙ ap (λ y. run whole y (at + (blk + extents m vs)) r.tree rest) (append_assoc done (s ∷ []) ss);
        grew = grew_range v h d c m (x ∷ []) [] (distances (puts_each m vs blk)) t t1 r.tree i
            (range_distance v h d c x m t i (small_distance x at (omega arith) (omega (arith, lt))))
            (subst (λ j. Grew v m (distances (puts_each m vs j)) t1 r.tree (i + 3)) from r.grew);
      }
  runs v whole (Optional w m) Absent i p n at done rest t absent q en lp le lt = record {
    tree = t;
    is = nothing whole done rest at t;
    grew = subst (λ (y : Puts). Grew v (Optional w m) y t t i) (sym (distances_none (Optional w m)))
        (grew_none v (Optional w m) t i);
  }
  runs v whole (Optional w m) (Present y) i p n at done rest t (present o) q en lp le lt =
      let i2 : suc (suc i) ≡ i + 2 = omega arith in
      let q2 = subst (λ j. Part whole 0 m j) i2 (part_of_part q (in_optional itself)) in
      let r = runs v whole m y (i + 2) p n at done rest t o q2 en lp le lt in
      record {
        tree = r.tree;
        is = r.is;
        grew = grew_optional v w m [] (distances (puts m y (at - start_of done p))) t t r.tree i
            (grew_none v (Optional w m) t i) r.grew;
      }
  runs v whole (Struct ls) (Record ids vs) i p n at done rest t (record_of e os) q en lp le lt =
      let i1 : suc i ≡ i + 1 = omega arith in
      let r = runs_all v whole ls vs (i + 1) p n at done rest t os
      (λ (x : Layout) (m : ℕ) (y : PartAll ls (i + 1) x m). part_of_part q
      (in_struct (subst (λ j. PartAll ls j x m) (sym i1) y))) en lp le lt in
      record {
        tree = r.tree;
        is = r.is;
        grew = grew_struct v ls (distances_all (puts_all ls vs (at - start_of done p))) t r.tree i r.grew;
      }
  runs v whole (Leaf k c) (Bytes bs) i p n at done rest t x40 q en lp le lt = elim x40 [ ]
  runs v whole (Leaf k c) (Items _ _) i p n at done rest t x42 q en lp le lt = elim x42 [ ]
  runs v whole (Leaf k c) Absent i p n at done rest t x42 q en lp le lt = elim x42 [ ]
  runs v whole (Leaf k c) (Present y) i p n at done rest t x43 q en lp le lt = elim x43 [ ]
  runs v whole (Leaf k c) (Record ids vs) i p n at done rest t x44 q en lp le lt = elim x44 [ ]
  runs v whole (ByteRange k d c) (One x) i p n at done rest t x37 q en lp le lt = elim x37 [ ]
  runs v whole (ByteRange k d c) (Items _ _) i p n at done rest t x38 q en lp le lt = elim x38 [ ]
  runs v whole (ByteRange k d c) Absent i p n at done rest t x38 q en lp le lt = elim x38 [ ]
  runs v whole (ByteRange k d c) (Present y) i p n at done rest t x39 q en lp le lt = elim x39 [ ]
  runs v whole (ByteRange k d c) (Record ids vs) i p n at done rest t x40 q en lp le lt = elim x40 [ ]
  runs v whole (ItemRange h d c m) (One x) i p n at done rest t x38 q en lp le lt = elim x38 [ ]
  runs v whole (ItemRange h d c m) (Bytes bs) i p n at done rest t x38 q en lp le lt = elim x38 [ ]
  runs v whole (ItemRange h d c m) Absent i p n at done rest t x39 q en lp le lt = elim x39 [ ]
  runs v whole (ItemRange h d c m) (Present y) i p n at done rest t x40 q en lp le lt = elim x40 [ ]
  runs v whole (ItemRange h d c m) (Record ids vs) i p n at done rest t x41 q en lp le lt = elim x41 [ ]
  runs v whole (Optional w m) (One x) i p n at done rest t x39 q en lp le lt = elim x39 [ ]
  runs v whole (Optional w m) (Bytes bs) i p n at done rest t x39 q en lp le lt = elim x39 [ ]
  runs v whole (Optional w m) (Items _ _) i p n at done rest t x41 q en lp le lt = elim x41 [ ]
  runs v whole (Optional w m) (Record ids vs) i p n at done rest t x41 q en lp le lt = elim x41 [ ]
  runs v whole (Struct ls) (One x) i p n at done rest t x40 q en lp le lt = elim x40 [ ]
  runs v whole (Struct ls) (Bytes bs) i p n at done rest t x40 q en lp le lt = elim x40 [ ]
  runs v whole (Struct ls) (Items _ _) i p n at done rest t x42 q en lp le lt = elim x42 [ ]
  runs v whole (Struct ls) Absent i p n at done rest t x42 q en lp le lt = elim x42 [ ]
  runs v whole (Struct ls) (Present y) i p n at done rest t x43 q en lp le lt = elim x43 [ ]

  runs_each : (v : Version) (whole l : Layout) (vs : Values) (i p n at : ℕ) (done rest : List Spot)
      (t : Noted) → OfEach l vs → Part whole 0 l i → n ≡ length done → p < length done → start_of done p ≤ at
      → at + extents l vs < 2 ^ 32
      → EachRuns v whole l vs i p n at done rest t
  runs_each v whole l NoValue i p n at done rest t none q en lp le lt = record {
    tree = t;
    is = nothing whole done rest at t;
    grew = subst (λ (y : Puts). Grew v l y t t i) (sym (distances_none l)) (grew_none v l t i);
  }
  runs_each v whole l (And u vs) i p n at done rest t (more o os) q en lp le lt =
      let xs = spots l u i p n at in
      let n2 = n + length xs in
      let at2 = at + extent l u in
      let ys = spots_each l vs i p n2 at2 in
      let done2 = done ++ xs in
      let f = runs v whole l u i p n at done (map unplaced ys ++ rest) t o q en lp le (omega (arith, lt)) in
      let kept = start_kept done xs p lp in
      let g = runs_each v whole l vs i p n2 at2 done2 rest f.tree os q
      (omega (arith, en, length-append done xs)) (omega (arith, lp, length-append done xs))
      (omega (arith, kept, le)) (omega (arith, lt)) in
      let from = at - start_of done p in
      let shift : at2 - start_of done2 p ≡ from + extent l u = omega (arith, kept, le) in
      let bp = puts_beside o from in
      let bq = puts_each_beside os (from + extent l u) in
      record {
        tree = g.tree;
        is = joined whole done xs ys rest at (extent l u) (extents l vs) t f.tree g.tree f.is g.is;
        grew = subst (λ (y : Puts). Grew v l y t g.tree i) (sym (distances_both l bp bq))
            (grew_more v l (distances (puts l u from)) (distances (puts_each l vs (from + extent l u))) t
            f.tree g.tree i (beside_distances bp) (beside_distances bq) f.grew
            (subst (λ j. Grew v l (distances (puts_each l vs j)) f.tree g.tree i) shift g.grew));
      }

  runs_all : (v : Version) (whole : Layout) (ls : Layouts) (vs : Values) (i p n at : ℕ)
      (done rest : List Spot) (t : Noted) → OfAll ls vs
      → ((x : Layout) (m : ℕ) → PartAll ls i x m → Part whole 0 x m) → n ≡ length done → p < length done
      → start_of done p ≤ at
      → at + extent_all ls vs < 2 ^ 32 → AllRuns v whole ls vs i p n at done rest t
  runs_all v whole NoField NoValue i p n at done rest t no_part q en lp le lt = record {
    tree = t;
    is = nothing whole done rest at t;
    grew = fields_grew_none v t i;
  }
  runs_all v whole (Field id l ls) (And u vs) i p n at done rest t (part o os) q en lp le lt =
      let xs = spots l u i p n at in
      let n2 = n + length xs in
      let at2 = at + extent l u in
      let ys = spots_all ls vs (i + nodes l) p n2 at2 in
      let done2 = done ++ xs in
      let f = runs v whole l u i p n at done (map unplaced ys ++ rest) t o (q l i (in_first itself)) en lp le
      (omega (arith, lt)) in
      let kept = start_kept done xs p lp in
      let g = runs_all v whole ls vs (i + nodes l) p n2 at2 done2 rest f.tree os
      (λ (x : Layout) (m : ℕ) (y : PartAll ls (i + nodes l) x m). q x m (in_later y))
      (omega (arith, en, length-append done xs)) (omega (arith, lp, length-append done xs))
      (omega (arith, kept, le)) (omega (arith, lt)) in
      let from = at - start_of done p in
      let shift : at2 - start_of done2 p ≡ from + extent l u = omega (arith, kept, le) in
      record {
        tree = g.tree;
        is = joined whole done xs ys rest at (extent l u) (extent_all ls vs) t f.tree g.tree f.is g.is;
        grew = grew_field v id l ls (distances (puts l u from))
            (distances_all (puts_all ls vs (from + extent l u))) t f.tree g.tree i f.grew
            (subst (λ j. FieldsGrew v ls (distances_all (puts_all ls vs j)) f.tree g.tree (i + nodes l)) shift
            g.grew);
      }
  runs_all v whole NoField (And u vs) i p n at done rest t x40 q en lp le lt = elim x40 [ ]
  runs_all v whole (Field id l ls) NoValue i p n at done rest t x36 q en lp le lt = elim x36 [ ]

-- ---- a pass over the ranges is a pass over the value

pub run_passes : (v : Version) (t : Noted) (u : Value) (first : ℕ) → layout_in v (settled t) ≡ layout_in v t
    → first ≡ bytes_for (stride (layout_in v t)) → Of (layout_in v t) u
    → Filled (layout_in v t) (puts_of (layout_in v t) u)
    → first + extent (layout_in v t) u < 2 ^ 32 → RunPasses v t u first
run_passes v t u first settled_is ef o w lt =
    let l = layout_in v t in
    let xs = spots l u 0 0 1 first in
    let r = runs v l l u 0 0 1 first (root ∷ []) [] t o itself refl (omega arith) (omega arith) lt in
    let ran = ap (λ ys. run l (root ∷ []) first t ys) (sym (append-nil (map unplaced xs))) ∙ r.is in
    let from : first - start_of (root ∷ []) 0 ≡ first = omega arith in
    let whole : r.tree ≡ grown v t (distances (puts l u (first - start_of (root ∷ []) 0))) = r.grew (λ s. s)
    no_hole t refl refl in
    let w2 = subst (λ z. Filled l (puts l u z)) (sym ef) w in
    record {
      placed = ap (λ y. y.spots) ran ∙ ap (λ z. root ∷ spots l u 0 0 1 z) ef;
      ends = ap (λ y. y.end) ran;
      passes = ap (λ y. layout_in v (settled y.tree)) ran ∙ ap (λ y. layout_in v (settled y)) whole
          ∙ ap (λ z. layout_in v (settled (grown v t (distances (puts l u z))))) from
          ∙ grown_settled v t (distances (puts l u first))
          ∙ ap (λ (x : Layout). widened x (distances (puts l u first))) settled_is
          ∙ sym (distances_suffice w2) ∙ ap (λ z. widened l (puts l u z)) ef;
    }
