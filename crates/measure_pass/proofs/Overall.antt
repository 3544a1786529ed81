-- A pass over ranges as a whole.
use Rattle.std.proofs.Common.{◌≡◌, ℕ, ◌+◌, ◌-◌, ◌^◌, ◌<◌, ◌≤◌, List, [], ◌∷◌, ◌++◌, length, map, take, drop}
use Rattle.std.proofs.Common.{arith, refl, ap, sym, ◌∙◌, subst}
use Rattle.std.proofs.lemmas.List.{append-nil, drop_all, take_all}
use Rattle.frozen_model.specs.Bits.{digits}
use Rattle.frozen_model.specs.Trees.{itself}
use Rattle.frozen_model.specs.Values.{Value}
use Rattle.frozen_model.specs.Layouts.{Layout, Described, described, stride}
use Rattle.frozen_model.specs.Packing.{bytes_for, extent}
use Rattle.frozen_model.specs.Holding.{pass}
use Rattle.layout_tree.specs.declared.layouts.Layouts.{Layouts}
use Rattle.layout_tree.specs.Listing.{Noted, layout_in, settled, sub, version_of}
use Rattle.layout_tree.specs.Nodes.{layout_of, settled_of, noted_in, IsSettled}
use Rattle.measure_pass.specs.Growing.{Same, passed}
use Rattle.measure_pass.proofs.Stays.{same_version}
use Rattle.measure_pass.specs.Spots.{Spot, spot, root, start_of, noting_at, spots, spots_of, unplaced}
use Rattle.measure_pass.specs.Spots.{block_bytes, run, ran, Runnable, AreSpots}
use Rattle.measure_pass.proofs.Running.{run_passes}
use Rattle.measure_pass.proofs.Runnables.{runnable}

run_placed : (l : Layout) (done : List Spot) (at : ℕ) (t : Noted) (ss : List Spot) → run l done at t ss
    ≡ run l done at t (map unplaced ss)
run_placed l done at t [] = refl
run_placed l done at t (s ∷ ss) = run_placed l (done ++ spot s.node s.count s.parent at ∷ [])
    (at + block_bytes (sub l s.node) s.count)
    (noting_at t (s.node + 1) (digits (at - start_of done s.parent))) ss

runnable_placed : (l : Layout) (done : List Spot) (at : ℕ) (ss : List Spot)
    → Runnable l done at (map unplaced ss) → Runnable l done at ss
runnable_placed l done at [] r = tt
runnable_placed l done at (s
    ∷ ss) r = (
      r.0,
      r.1,
      r.2,
      r.3,
      r.4,
      r.5,
      runnable_placed l (done ++ spot s.node s.count s.parent at ∷ [])
          (at + block_bytes (sub l s.node) s.count) ss r.6,
    )

pub start_runnable : (l : Layout) (r : List Spot) (v : Value) (first : ℕ) → bytes_for (stride l) + extent l v
    ≤ 2 ^ 29 → first ≡ bytes_for (stride l) → AreSpots l r v → Runnable l (take 1 r) first (drop 1 r)
start_runnable l r v first small ef a =
    let b = bytes_for (stride l) in
    let all = runnable l 0 0 1 b (root ∷ []) [] a.form itself refl (omega arith) (omega arith)
    (omega (arith, small)) tt in
    let on = subst (λ y. Runnable l (root ∷ []) b y)
    (append-nil (map unplaced (spots l v 0 0 1 b)) ∙ sym a.same) all in
    subst (λ d. Runnable l d first (drop 1 r)) (sym a.first)
    (subst (λ k. Runnable l (root ∷ []) k (drop 1 r)) (sym ef)
    (runnable_placed l (root ∷ []) b (drop 1 r) on))

pub some_first : (l : Layout) (r : List Spot) (v : Value) → AreSpots l r v → 0 < length r
some_first l r v a = go r a.first
  where
    go : (r : List Spot) → take 1 r ≡ root ∷ [] → 0 < length r
    go [] e = absurd cc
    go (x ∷ xs) e = omega arith

pub record Finished (l mid : Layouts) (r1 : List Spot) (v : Value) (end : ℕ) : Type 0 where
  pub placed : r1 ≡ spots_of (layout_of l).tree v
  pub ends : end ≡ bytes_for (stride (layout_of l).tree) + extent (layout_of l).tree v
  pub passes : settled_of mid ≡ passed (layout_of l) v

pub finished : (l mid : Layouts) (r0 r1 : List Spot) (v : Value) (first end : ℕ) → IsSettled l
    → bytes_for (stride (layout_of l).tree) + extent (layout_of l).tree v ≤ 2 ^ 29 → first
    ≡ bytes_for (stride (layout_of l).tree) → AreSpots (layout_of l).tree r0 v → Same l mid
    → run (layout_of l).tree (take 1 r0) first (noted_in l) (drop 1 r0) ≡ ran r1 end (noted_in mid)
    → Finished l mid r1 v end
finished l mid r0 r1 v first end st small ef a same e =
    let n = version_of l.version in
    let t = noted_in l in
    let b = (layout_of l).tree in
    let p = run_passes n t v first (ap (λ (d : Described). d.tree) st) ef a.form a.filled
    (omega (arith, small, ef)) in
    let sp = a.same ∙ ap (λ z. map unplaced (spots b v 0 0 1 z)) (sym ef) in
    let on = sym e ∙ ap (λ d. run b d first t (drop 1 r0)) a.first
    ∙ run_placed b (root ∷ []) first t (drop 1 r0) ∙ ap (λ y. run b (root ∷ []) first t y) sp in
    record {
      placed = ap (λ y. y.spots) on ∙ p.placed;
      ends = ap (λ y. y.end) on ∙ p.ends ∙ ap (λ z. z + extent b v) ef;
      passes =
          let ev : version_of mid.version ≡ n = same_version same in
          let er : mid.relaxed ≡ l.relaxed = ap (λ (d : Described). d.relaxed) same.layout in
          let et : (settled_of mid).tree ≡ pass b v = ap (λ x. layout_in x (settled (noted_in mid))) ev
          ∙ ap (λ y. layout_in n (settled y.tree)) on ∙ p.passes in
          ap (λ x. described x mid.relaxed (settled_of mid).tree) ev
          ∙ ap (λ x. described n x (settled_of mid).tree) er
          ∙ ap (λ (x : Layout). described n l.relaxed x) et;
    }

-- what was lent whole comes back whole
pub put_back : (old new : List Spot) (n : ℕ) → length new ≡ length old → n ≡ length old
    → take n (new ++ drop (length new) old) ≡ new
put_back old new n e f = ap (λ r. take n (new ++ r)) (drop_all (length new) old (omega arith))
    ∙ ap (take n) (append-nil new) ∙ take_all n new (omega arith)
