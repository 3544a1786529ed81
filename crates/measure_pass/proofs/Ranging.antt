-- The loop over ranges.
use Rattle.std.proofs.Common.{◌≡◌, ℕ, zero, suc, ◌+◌, ◌-◌, ◌^◌, ◌≤◌, ◌<◌, List, [], ◌∷◌, ◌++◌, length}
use Rattle.std.proofs.Common.{length-append, take, drop, get_or, slice_set, append_assoc, arith, refl, ap}
use Rattle.std.proofs.Common.{sym, ◌∙◌, subst}
use Rattle.std.proofs.lemmas.List.{get_or_append_left, get_or-append_right, set-append_right, append-nil}
use Rattle.frozen_model.specs.Bits.{digits}
use Rattle.layout_tree.specs.declared.layouts.Layouts.{Layouts}
use Rattle.layout_tree.specs.Listing.{sub, version_of}
use Rattle.layout_tree.specs.Nodes.{layout_of, noted_in}
use Rattle.layout_tree.specs.Reading.{IsRange}
use Rattle.layout_tree.proofs.Children.{Child}
use Rattle.measure_pass.specs.Growing.{Same}
use Rattle.measure_pass.specs.Spots.{Spot, spot, root, block_bytes, start_of, noting_at, run, ran, Runnable}
use Rattle.layout_tree.proofs.Told.{told_child}
use Rattle.measure_pass.proofs.Stays.{same_self, same_chain, same_child}

pub record RunLeft (l0 l : Layouts) (r0 r : List Spot) (first at k : ℕ) : Type 0 where
  pub done : List Spot
  pub todo : List Spot
  pub long : length done ≡ k
  pub whole : r ≡ done ++ todo
  pub same : Same l0 l
  pub small : at < 2 ^ 32
  pub runnable : Runnable (layout_of l0).tree done at todo
  pub rest : run (layout_of l0).tree (take 1 r0) first (noted_in l0) (drop 1 r0)
      ≡ run (layout_of l0).tree done at (noted_in l) todo

pub run_start : (l : Layouts) (r : List Spot) (first : ℕ) → 0 < length r → first < 2 ^ 32
    → Runnable (layout_of l).tree (take 1 r) first (drop 1 r) → RunLeft l l r r first first 1
run_start l [] first h s ok = absurd (omega arith)
run_start l (x ∷ xs) first h s ok = record {
  done = x ∷ [];
  todo = xs;
  long = refl;
  whole = refl;
  same = same_self l;
  small = s;
  runnable = ok;
  rest = refl;
}

pub record RunStep (l0 l : Layouts) (r0 r : List Spot) (first at k : ℕ) (here : Spot) : Type 0 where
  pub node : Child (noted_in l) (version_of l.version) here.node (sub (layout_of l0).tree here.node)
  pub item_range : IsRange (sub (layout_of l0).tree here.node)
  pub few : here.count < 2 ^ 31
  pub room : at + block_bytes (sub (layout_of l0).tree here.node) here.count < 2 ^ 32
  pub parent : here.parent < k
  pub start : ℕ
  pub low : start ≤ at
  pub starts : (d : Spot)
      → (get_or (slice_set r k (spot here.node here.count here.parent at)) here.parent d).start ≡ start
  pub next : (mid : Layouts) (r2 : List Spot) (at2 k2 : ℕ) → Same l mid → noted_in mid
      ≡ noting_at (noted_in l) (here.node + 1) (digits (at - start)) → r2
      ≡ slice_set r k (spot here.node here.count here.parent at)
      → at2 ≡ at + block_bytes (sub (layout_of l0).tree here.node) here.count → k2 ≡ k + 1
      → RunLeft l0 mid r0 r2 first at2 k2

run_at : (l0 l : Layouts) (r0 r : List Spot) (first at k : ℕ) (done todo : List Spot) → length done ≡ k → r
    ≡ done ++ todo → Same l0 l → Runnable (layout_of l0).tree done at todo
    → run (layout_of l0).tree (take 1 r0) first (noted_in l0) (drop 1 r0)
    ≡ run (layout_of l0).tree done at (noted_in l) todo → k < length r → (d : Spot)
    → RunStep l0 l r0 r first at k (get_or r k d)
run_at l0 l r0 r first at k done [] long whole same ok rest lt d = absurd
    (omega (arith, lt, ap (λ z. length z) whole, length-append done [], long))
run_at l0 l r0 r first at k done (s ∷ ss) long whole same ok rest lt d =
    let s2 = spot s.node s.count s.parent at in
    let le : k ≤ k = omega arith in
    let z : k - k ≡ 0 = omega arith in
    let set : slice_set r k s2 ≡ done ++ (s2 ∷ ss) = ap (λ y. slice_set y k s2) whole
    ∙ set-append_right done (s ∷ ss) k k s2 long le ∙ ap (λ j. done ++ slice_set (s ∷ ss) j s2) z in
    let below : s.parent < length done = ok.2 in
    let is : get_or r k d ≡ s = ap (λ y. get_or y k d) whole ∙ get_or-append_right done (s ∷ ss) k k d long le
    ∙ ap (λ j. get_or (s ∷ ss) j d) z in
    subst (λ (y : Spot). RunStep l0 l r0 r first at k y) (sym is)
    (record {
      node = same_child same (told_child (version_of l0.version) (noted_in l0) s.node
          (sub (layout_of l0).tree s.node) ok.0);
      item_range = ok.1;
      few = ok.4;
      room = ok.5;
      parent = omega (arith, below, long);
      start = start_of done s.parent;
      low = ok.3;
      starts = λ d. ap (λ y. (get_or y s.parent d).start) set
          ∙ ap (λ y. y.start) (get_or_append_left done (s2 ∷ ss) d s.parent below
          ∙ get_any done s.parent d root below);
      next = λ mid r2 at2 k2 sm em er ea ek. record {
        done = done ++ s2 ∷ [];
        todo = ss;
        long = omega (arith, length-append done (s2 ∷ []), long, ek);
        whole = er ∙ set ∙ sym (append_assoc done (s2 ∷ []) ss);
        same = same_chain same sm;
        small = omega (arith, ea, ok.5);
        runnable = subst (λ j. Runnable (layout_of l0).tree (done ++ s2 ∷ []) j ss) (sym ea) ok.6;
        rest = rest ∙ ap (λ j. run (layout_of l0).tree (done ++ s2 ∷ []) j
            (noting_at (noted_in l) (s.node + 1) (digits (at - start_of done s.parent))) ss) (sym ea)
            ∙ ap (λ t. run (layout_of l0).tree (done ++ s2 ∷ []) at2 t ss) (sym em);
      };
    })
  where
    get_any : (xs : List Spot) (i : ℕ) (d e : Spot) → i < length xs → get_or xs i d ≡ get_or xs i e
    get_any [] i d e h = absurd (omega arith)
    get_any (x ∷ xs) zero d e h = refl
    get_any (x ∷ xs) (suc i) d e h = get_any xs i d e (omega arith)

pub run_step : (l0 l : Layouts) (r0 r : List Spot) (first at k : ℕ) → RunLeft l0 l r0 r first at k → k
    < length r → (d : Spot) → RunStep l0 l r0 r first at k (get_or r k d)
run_step l0 l r0 r first at k q lt d = run_at l0 l r0 r first at k q.done q.todo q.long q.whole q.same
    q.runnable q.rest lt d

pub run_end : (l0 l : Layouts) (r0 r : List Spot) (first at k : ℕ) → RunLeft l0 l r0 r first at k → length r
    ≤ k → run (layout_of l0).tree (take 1 r0) first (noted_in l0) (drop 1 r0) ≡ ran r at (noted_in l)
run_end l0 l r0 r first at k q le = go q.done q.todo q.long q.whole q.rest
  where
    go : (done todo : List Spot) → length done ≡ k → r ≡ done ++ todo
        → run (layout_of l0).tree (take 1 r0) first (noted_in l0) (drop 1 r0)
        ≡ run (layout_of l0).tree done at (noted_in l) todo
        → run (layout_of l0).tree (take 1 r0) first (noted_in l0) (drop 1 r0) ≡ ran r at (noted_in l)
    go done [] long whole rest = rest ∙ ap (λ d. ran d at (noted_in l)) (sym (whole ∙ append-nil done))
    go done (s ∷ ss) long whole rest = absurd
        (omega (arith, ap (λ z. length z) whole, length-append done (s ∷ ss), long, le))
