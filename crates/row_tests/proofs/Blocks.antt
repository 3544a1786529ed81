-- The blocks of the ranges of a value are as long as its extent, and are summed one by one.
use Rattle.std.proofs.Common.{◌≡◌, ℕ, ◌+◌, ◌*◌, ◌^◌, ◌<◌, ◌≤◌, List, [], ◌∷◌, ◌++◌, length, drop, map, get_or}
use Rattle.std.proofs.Common.{◌-◌, arith, refl, ap, sym, ◌∙◌, subst}
use Rattle.std.specs.List.{AllByRecursion}
use Rattle.std.proofs.lemmas.List.{append-nil, drop_more}
use Rattle.frozen_model.specs.Bits.{digits}
use Rattle.frozen_model.specs.Trees.{Leaf, ByteRange, ItemRange, Optional, Struct, itself}
use Rattle.frozen_model.specs.Values.{Value, Of}
use Rattle.frozen_model.specs.Layouts.{Version2, Layout, stride}
use Rattle.frozen_model.specs.Packing.{bytes_for, extent}
use Rattle.layout_tree.specs.declared.layouts.Layouts.{Layouts}
use Rattle.layout_tree.specs.Listing.{Noted, sub, version_of}
use Rattle.layout_tree.specs.Nodes.{IsNode, at, layout_of, noted_in}
use Rattle.layout_tree.specs.Reading.{IsRange, item_stride}
use Rattle.measure_pass.specs.Spots.{Spot, spot, root, start_of, noting_at, spots, spots_of, unplaced}
use Rattle.measure_pass.specs.Spots.{block_bytes, run, Runnable}
use Rattle.measure_pass.proofs.Running.{runs}
use Rattle.measure_pass.proofs.Runnables.{runnable}
use Rattle.layout_tree.proofs.Told.{told_child}
use Rattle.row_tests.specs.Widths.{IsRangeOf, block_sum}

each_range : (l : Layout) (done : List Spot) (b : ℕ) (ss : List Spot) → Runnable l done b ss
    → AllByRecursion (IsRangeOf l) ss
each_range l done b [] r = tt
each_range l done b (s ∷ ss) r = ((r.0, r.1, r.4), each_range l (done ++ spot s.node s.count s.parent b ∷ []) (b + block_bytes (sub l s.node) s.count) ss r.6)

block_is : (l : Layout) (n : ℕ) → IsRange l → bytes_for (n * item_stride l) ≡ block_bytes l n
block_is (ByteRange t d c) n h = omega arith
block_is (ItemRange g d c l) n h = refl
block_is (Leaf k c) n h = absurd h
block_is (Optional w l) n h = absurd h
block_is (Struct ls) n h = absurd h

run_sum : (l : Layout) (done : List Spot) (from : ℕ) (t : Noted) (ss : List Spot)
    → AllByRecursion (IsRangeOf l) ss → (run l done from t ss).end ≡ from + block_sum l ss
run_sum l done from t [] h = omega arith
run_sum l done from t (s ∷ ss) h =
    let b = block_bytes (sub l s.node) s.count in
    let e = run_sum l (done ++ spot s.node s.count s.parent from ∷ []) (from + b)
    (noting_at t (s.node + 1) (digits (from - start_of done s.parent))) ss h.1 in
    let f = block_is (sub l s.node) s.count h.0.1 in
    omega (arith, e, f)

pub record Summed (l : Layout) (v : Value) (rest : List Spot) : Type 0 where
  pub each : AllByRecursion (IsRangeOf l) rest
  pub sum : block_sum l rest ≡ extent l v

summed : (l : Layout) (v : Value) (b : ℕ) (t : Noted) → Of l v → b + extent l v < 2 ^ 32
    → Summed l v (map unplaced (spots l v 0 0 1 b))
summed l v b t o lt =
    let ss = map unplaced (spots l v 0 0 1 b) in
    let all = subst (λ y. AllByRecursion (IsRangeOf l) y) (append-nil ss)
    (each_range l (root ∷ []) b (ss ++ []) (runnable l 0 0 1 b (root ∷ []) [] o itself refl (omega arith) (omega arith) lt tt)) in
    let r = runs Version2 l l v 0 0 1 b (root ∷ []) [] t o itself refl (omega arith) (omega arith) lt in
    let e : (run l (root ∷ []) b t ss).end ≡ b + extent l v = ap (λ y. (run l (root ∷ []) b t y).end)
    (sym (append-nil ss)) ∙ ap (λ y. y.end) r.is in
    record { each = all; sum = omega (arith, e, run_sum l (root ∷ []) b t ss all) }

pub gathered_sum : (l : Layout) (v : Value) (t : Noted) (rs : List Spot) → Of l v
    → bytes_for (stride l) + extent l v ≤ 2 ^ 29 → rs ≡ map unplaced (spots_of l v) → Summed l v (drop 1 rs)
gathered_sum l v t rs o small e = subst (λ y. Summed l v (drop 1 y)) (sym e) (summed l v (bytes_for (stride l)) t o (omega (arith, small)))

-- what is left of the ranges from a number on
pub record LenLeft (l : Layout) (xs : List Spot) (k len : ℕ) : Type 0 where
  pub each : AllByRecursion (IsRangeOf l) (drop k xs)
  pub sum : len + block_sum l (drop k xs) ≡ bytes_for (stride l) + block_sum l (drop 1 xs)

-- the next range, and what is left behind it
pub record LenStep (l : Layouts) (xs : List Spot) (k len : ℕ) (here : Spot) : Type 0 where
  pub node : IsNode l here.node
  pub item_range : IsRange (at l here.node)
  pub few : here.count < 2 ^ 31
  pub room : len + bytes_for (here.count * item_stride (at l here.node)) ≤ bytes_for (stride (layout_of l).tree) + block_sum (layout_of l).tree (drop 1 xs)
  pub next : LenLeft (layout_of l).tree xs (k + 1) (len + bytes_for (here.count * item_stride (at l here.node)))

pub len_step : (l : Layouts) (xs : List Spot) (k len : ℕ) (d : Spot) → k < length xs
    → LenLeft (layout_of l).tree xs k len → LenStep l xs k len (get_or xs k d)
len_step l xs k len d h q =
    let tree = (layout_of l).tree in
    let s = get_or xs k d in
    let more : drop k xs ≡ s ∷ drop (k + 1) xs = drop_more xs k d h in
    let each = subst (λ (y : List Spot). AllByRecursion (IsRangeOf tree) y) more q.each in
    let sum = subst (λ (y : List Spot). len + block_sum tree y ≡ bytes_for (stride tree) + block_sum tree (drop 1 xs)) more q.sum in
    let child = told_child (version_of l.version) (noted_in l) s.node (sub tree s.node) each.0.0 in
    let same : bytes_for (s.count * item_stride (at l s.node)) ≡ bytes_for
    (s.count * item_stride (sub tree s.node)) = ap (λ (x : Layout). bytes_for (s.count * item_stride x))
    child.is in
    record {
      node = child.node;
      item_range = subst (λ (x : Layout). IsRange x) (sym child.is) each.0.1;
      few = each.0.2;
      room = omega (arith, sum, same);
      next = record { each = each.1; sum = omega (arith, sum, same) };
    }
