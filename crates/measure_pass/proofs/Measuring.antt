-- Passes over ranges come to rest at the least layout, within the bound on steps.
use Rattle.std.proofs.Common.{◌≡◌, ◌⊎◌, inl, inr, ℕ, zero, suc, ◌+◌, ◌-◌, ◌*◌, ◌≤◌, ◌<◌, List, [], ◌∷◌, map}
use Rattle.std.proofs.Common.{take, drop, Bool, true, false, arith, refl, ap, sym, ◌∙◌, subst}
use Rattle.frozen_model.specs.Trees.{LeafKind, Integer, Flag, Leaf, ByteRange, ItemRange, Optional, Struct}
use Rattle.frozen_model.specs.Trees.{NoField, Field, Tree, Trees, KindTree, KindTrees, Alike, Leafwise}
use Rattle.frozen_model.specs.Trees.{AllLeafwise, leaf, byte_range, item_range, optional, struct, no_field}
use Rattle.frozen_model.specs.Trees.{field, kinds, kinds_all, ranges}
use Rattle.frozen_model.specs.Values.{Value, Of, cells, cell_limit}
use Rattle.frozen_model.specs.Layouts.{Version, Version2, Coded, Layout, Described, described, IsDescribed}
use Rattle.frozen_model.specs.Layouts.{stride}
use Rattle.frozen_model.specs.Packing.{bytes_for}
use Rattle.frozen_model.specs.Holding.{Puts, AllPuts, IsStart, Least, pass, passes}
use Rattle.frozen_laws.proofs.Leafwise.{leafwise_map}
use Rattle.frozen_laws.proofs.Puts.{of_leafwise}
use Rattle.frozen_laws.proofs.SameKinds.{struct_along, kind_tree_along}
use Rattle.frozen_laws.proofs.Passes.{pass_wider}
use Rattle.frozen_laws.proofs.Rests.{Stage, first_stage, next_stage, most_wide, wider_or_same}
use Rattle.frozen_laws.proofs.Rests.{distance_widths, ranges_same, cells_same, rest_is_least}
use Rattle.layout_tree.specs.declared.layouts.Layouts.{Layouts as LayoutsOf}
use Rattle.layout_tree.specs.Listing.{Noted, AllNoted, layout_in, layouts_in, version_of}
use Rattle.layout_tree.specs.Nodes.{layout_of, noted_in}
use Rattle.layout_tree.specs.Shapes.{blank, shape_of}
use Rattle.layout_tree.proofs.Shaped.{blank_alike, blank_kinds, blank_widths}
use Rattle.layout_tree.proofs.Clearing.{layout_kinds}
use Rattle.value_bounds.specs.Basing.{based_on, all_based_on}
use Rattle.measure_pass.specs.Growing.{Measurable, passed}
use Rattle.measure_pass.specs.Spots.{Spot, root, spots, spots_of, unplaced, AreSpots, RangePassed}
use Rattle.measure_pass.specs.Measuring.{IsBlank, packed_length}
use Rattle.measure_pass.proofs.Gathering.{spots_same}

-- trees of one kind tree
mutual
  kinds_same : {A B C D : Type 0} {R : LeafKind → A → C → Type 0} {S T : B → D → Type 0} {l : Tree A B}
      {m : Tree C D} → Leafwise R S T l m → kinds l ≡ kinds m
  kinds_same (leaf h) = refl
  kinds_same (byte_range h i) = refl
  kinds_same (item_range {h = g} h i x) = ap (λ (k : KindTree). ItemRange g tt tt k) (kinds_same x)
  kinds_same (optional h x) = ap (λ (k : KindTree). Optional tt k) (kinds_same x)
  kinds_same (struct xs) = ap (λ (k : KindTrees). Struct k) (all_kinds_same xs)

  all_kinds_same : {A B C D : Type 0} {R : LeafKind → A → C → Type 0} {S T : B → D → Type 0} {l : Trees A B}
      {m : Trees C D} → AllLeafwise R S T l m → kinds_all l ≡ kinds_all m
  all_kinds_same no_field = refl
  all_kinds_same (field {i = i} x xs) = let e = kinds_same x in let f = all_kinds_same xs in cc

passes_more : (r : ℕ) (l : Layout) (v : Value) → pass (passes r l v) v ≡ passes (suc r) l v
passes_more zero l v = refl
passes_more (suc r) l v = passes_more r (pass l v) v

-- the ranges that are gathered, and those that a pass left, are the value's ranges under the layout then
gathered_are : (g : Layout) (r : List Spot) (v : Value) → r ≡ map unplaced (spots_of g v)
    → (take 1 r ≡ root ∷ []) × (map unplaced (drop 1 r)
    ≡ map unplaced (spots g v 0 0 1 (bytes_for (stride g))))
gathered_are g r v e =
    let ss = spots g v 0 0 1 (bytes_for (stride g)) in
    (ap (take 1) e, ap (λ z. map unplaced (drop 1 z)) e ∙ twice ss)
  where
    twice : (xs : List Spot) → map unplaced (map unplaced xs) ≡ map unplaced xs
    twice [] = refl
    twice (x ∷ xs) = ap (λ r. unplaced x ∷ r) (twice xs)

-- the start of measuring
pub record Start (d : Described) (v : Value) : Type 0 where
  pub start : IsStart d.version d.tree v
  pub few : cells d.tree v ≤ cell_limit

-- a layout that passes reached, with the value's ranges, after so many steps
pub record Reached (d0 d : Described) (v : Value) (s : Start d0 v) (r : List Spot) (before now : ℕ) : Type 0
  where
    pub version : d.version ≡ d0.version
    pub relaxed : d.relaxed ≡ d0.relaxed
    pub rounds : ℕ
    pub is : d.tree ≡ passes rounds d0.tree v
    pub stage : Stage d0.version d0.tree v s.start s.few d.tree
    pub spots : AreSpots d.tree r v
    pub steps : now ≤ before + 1 + distance_widths d.tree

pub measurable : (d : Described) (v : Value) → Start d v → Measurable d v
measurable d v s = record { form = s.start.of_kind; few = s.few; based = λ h. s.start.based }

few_here : (d0 : Described) (v : Value) (s : Start d0 v) (g : Layout)
    → Stage d0.version d0.tree v s.start s.few g → cells g v ≤ cell_limit
few_here d0 v s g t = let e : cells d0.tree v
    ≡ cells g v = cells_same s.start.of_kind t.wider in omega (arith, s.few, e)

-- after the first pass
pub reached_first : (d0 d : Described) (v : Value) (s : Start d0 v) (r : List Spot) (before now : ℕ) → d
    ≡ passed d0 v → r ≡ map unplaced (spots_of d.tree v) → now ≤ before + 1 → Reached d0 d v s r before now
reached_first d0 d v s r before now e er le =
    let g = pass d0.tree v in
    let et : d.tree ≡ g = ap (λ (x : Described). x.tree) e in
    let stage : Stage d0.version d0.tree v s.start s.few g = first_stage d0.version d0.tree v s.start s.few in
    let there = subst (λ (x : Layout). Stage d0.version d0.tree v s.start s.few x) (sym et) stage in
    let a = gathered_are d.tree r v er in
    record {
      version = ap (λ (x : Described). x.version) e;
      relaxed = ap (λ (x : Described). x.relaxed) e;
      rounds = 1;
      is = et;
      stage = there;
      spots = record {
        form = there.grows.of_kind;
        first = a.0;
        same = a.1;
        filled = there.full;
        few = few_here d0 v s d.tree there;
      };
      steps = omega (arith, le);
    }

-- after a pass that widened a distance
pub record Next (d0 d d2 : Described) (v : Value) (s : Start d0 v) (r2 : List Spot) (before now2 : ℕ) : Type 0
  where
    pub reached : Reached d0 d2 v s r2 before now2
    pub wider : distance_widths d.tree < distance_widths d2.tree
    pub bound : distance_widths d2.tree ≤ 29 * ranges d2.tree
    pub ranges : ranges d2.tree ≡ ranges d.tree

pub reached_next : (d0 d d2 : Described) (v : Value) (s : Start d0 v) (r r2 : List Spot) (before now now2 : ℕ)
    (w : Bool) → Reached d0 d v s r before now → RangePassed d d2 r2 v w → w ≡ true → now2 ≤ now + 1
    → Next d0 d d2 v s r2 before now2
reached_next d0 d d2 v s r r2 before now now2 w t p ew le = go (wider_or_same t.stage.full)
  where
    go : (distance_widths d.tree < distance_widths (pass d.tree v)) ⊎ (pass d.tree v ≡ d.tree)
        → Next d0 d d2 v s r2 before now2
    go (inr same) = absurd (let no : w ≡ false = p.rested.1 same in let z : true ≡ false = sym ew ∙ no in cc)
    go (inl lt) =
        let g2 = pass d.tree v in
        let et : d2.tree ≡ g2 = ap (λ (x : Described). x.tree) p.layout in
        let stage = next_stage d0.version d0.tree v s.start s.few t.stage in
        let there = subst (λ (x : Layout). Stage d0.version d0.tree v s.start s.few x) (sym et) stage in
        let up : Alike d.tree d2.tree = subst (λ (x : Layout). Alike d.tree x) (sym et)
        (leafwise_map (λ k c e h. tt) (λ x y h. tt) (λ x y h. tt) (pass_wider t.stage.grows)) in
        let lt2 : distance_widths d.tree
        < distance_widths d2.tree = omega (arith, lt, ap distance_widths et) in
        let a = gathered_like d.tree d2.tree r2 v up p.starts in
        record {
          reached = record {
            version = ap (λ (x : Described). x.version) p.layout ∙ t.version;
            relaxed = ap (λ (x : Described). x.relaxed) p.layout ∙ t.relaxed;
            rounds = suc t.rounds;
            is = et ∙ ap (λ (x : Layout). pass x v) t.is ∙ passes_more t.rounds d0.tree v;
            stage = there;
            spots = record {
              form = there.grows.of_kind;
              first = a.0;
              same = a.1;
              filled = there.full;
              few = few_here d0 v s d2.tree there;
            };
            steps = omega (arith, le, t.steps, lt2);
          };
          wider = lt2;
          bound = omega (arith, most_wide d0.version d0.tree v s.start s.few there, ranges_same there.wider);
          ranges = sym (ranges_same up);
        }
      where
        gathered_like : (g g2 : Layout) (r : List Spot) (v : Value) → Alike g g2 → r ≡ spots_of g v
            → (take 1 r ≡ root ∷ []) × (map unplaced (drop 1 r)
            ≡ map unplaced (spots g2 v 0 0 1 (bytes_for (stride g2))))
        gathered_like g g2 r v a e = (
          ap (take 1) e,
          ap (λ z. map unplaced (drop 1 z)) e
              ∙ spots_same a v 0 0 1 (bytes_for (stride g)) (bytes_for (stride g2)),
        )

-- ---- from the blank layout

-- the base of a leaf is for no kind to say
mutual
  based_alike : (v w : Version) (t : Noted) (p : Puts) → Alike (layout_in v t) (layout_in w (based_on t p))
  based_alike v w (Leaf Flag c) p = leaf tt
  based_alike v w (Leaf (Integer j) c) (Leaf k xs) = leaf tt
  based_alike v w (Leaf (Integer j) c) (ByteRange _ _ _) = leaf tt
  based_alike v w (Leaf (Integer j) c) (ItemRange _ _ _ _) = leaf tt
  based_alike v w (Leaf (Integer j) c) (Optional _ _) = leaf tt
  based_alike v w (Leaf (Integer j) c) (Struct _) = leaf tt
  based_alike v w (ByteRange t d c) p = byte_range tt tt
  based_alike v w (ItemRange h d c l) (ItemRange g ds cs p) = item_range tt tt (based_alike v w l p)
  based_alike v w (ItemRange h d c l) (Leaf _ _) = item_range tt tt (same_alike v w l)
  based_alike v w (ItemRange h d c l) (ByteRange _ _ _) = item_range tt tt (same_alike v w l)
  based_alike v w (ItemRange h d c l) (Optional _ _) = item_range tt tt (same_alike v w l)
  based_alike v w (ItemRange h d c l) (Struct _) = item_range tt tt (same_alike v w l)
  based_alike v w (Optional x l) (Optional ws p) = optional tt (based_alike v w l p)
  based_alike v w (Optional x l) (Leaf _ _) = optional tt (same_alike v w l)
  based_alike v w (Optional x l) (ByteRange _ _ _) = optional tt (same_alike v w l)
  based_alike v w (Optional x l) (ItemRange _ _ _ _) = optional tt (same_alike v w l)
  based_alike v w (Optional x l) (Struct _) = optional tt (same_alike v w l)
  based_alike v w (Struct ls) (Struct ps) = struct (all_based_alike v w ls ps)
  based_alike v w (Struct ls) (Leaf _ _) = struct (all_same_alike v w ls)
  based_alike v w (Struct ls) (ByteRange _ _ _) = struct (all_same_alike v w ls)
  based_alike v w (Struct ls) (ItemRange _ _ _ _) = struct (all_same_alike v w ls)
  based_alike v w (Struct ls) (Optional _ _) = struct (all_same_alike v w ls)

  all_based_alike : (v w : Version) (t : AllNoted) (p : AllPuts)
      → AllLeafwise (λ (k : LeafKind) (c : Coded) (d : Coded). Unit {0}) (λ (b : ℕ) (d : ℕ). Unit {0})
      (λ (b : ℕ) (d : ℕ). Unit {0}) (layouts_in v t) (layouts_in w (all_based_on t p))
  all_based_alike v w NoField p = no_field
  all_based_alike v w (Field i l ls) (Field j p ps) = field (based_alike v w l p) (all_based_alike v w ls ps)
  all_based_alike v w (Field i l ls) NoField = field (same_alike v w l) (all_same_alike v w ls)

  same_alike : (v w : Version) (t : Noted) → Alike (layout_in v t) (layout_in w t)
  same_alike v w (Leaf k c) = leaf tt
  same_alike v w (ByteRange t d c) = byte_range tt tt
  same_alike v w (ItemRange h d c l) = item_range tt tt (same_alike v w l)
  same_alike v w (Optional x l) = optional tt (same_alike v w l)
  same_alike v w (Struct ls) = struct (all_same_alike v w ls)

  all_same_alike : (v w : Version) (t : AllNoted)
      → AllLeafwise (λ (k : LeafKind) (c : Coded) (d : Coded). Unit {0}) (λ (b : ℕ) (d : ℕ). Unit {0})
      (λ (b : ℕ) (d : ℕ). Unit {0}) (layouts_in v t) (layouts_in w t)
  all_same_alike v w NoField = no_field
  all_same_alike v w (Field i l ls) = field (same_alike v w l) (all_same_alike v w ls)

-- the blank layout once it has bases
pub record Begun (b d : Described) (v : Value) : Type 0 where
  pub start : Start d v
  pub version : d.version ≡ Version2
  pub relaxed : d.relaxed ≡ b.relaxed
  pub alike : Alike b.tree d.tree

pub begun : (bl l : LayoutsOf) (p : Puts) (v : Value) → (layout_of bl).version ≡ Version2
    → Of (layout_of bl).tree v → cells (layout_of bl).tree v ≤ cell_limit → noted_in l
    ≡ based_on (noted_in bl) p
    → IsStart Version2 (layout_of l).tree v → (layout_of l).version ≡ (layout_of bl).version
    → (layout_of l).relaxed ≡ (layout_of bl).relaxed → Begun (layout_of bl) (layout_of l) v
begun bl l p v e2 o few e s ev er =
    let a : Alike (layout_of bl).tree (layout_of l).tree =
    subst (λ (t : Noted). Alike (layout_of bl).tree (layout_in (version_of l.version) t)) (sym e)
    (based_alike (version_of bl.version) (version_of l.version) (noted_in bl) p) in
    let same : cells (layout_of bl).tree v ≡ cells (layout_of l).tree v = cells_same o a in
    record {
      start = record {
        start = subst (λ n. IsStart n (layout_of l).tree v) (sym (ev ∙ e2)) s;
        few = omega (arith, few, same);
      };
      version = ev ∙ e2;
      relaxed = er;
      alike = a;
    }

-- the same of passes, from the blank layout
pub record InLoop (b d : Described) (v : Value) (r : List Spot) (before now : ℕ) : Type 0 where
  pub first : Described
  pub begun : Begun b first v
  pub reached : Reached first d v begun.start r before now

pub record LoopNext (b d d2 : Described) (v : Value) (r2 : List Spot) (before now2 : ℕ) : Type 0 where
  pub loop : InLoop b d2 v r2 before now2
  pub falls : 29 * ranges d2.tree - distance_widths d2.tree < 29 * ranges d.tree - distance_widths d.tree

pub loop_next : (b d d2 : Described) (v : Value) (r r2 : List Spot) (before now now2 : ℕ) (w : Bool)
    → InLoop b d v r before now → RangePassed d d2 r2 v w → w ≡ true → now2 ≤ now + 1
    → LoopNext b d d2 v r2 before now2
loop_next b d d2 v r r2 before now now2 w t p ew le =
    let n = reached_next t.first d d2 v t.begun.start r r2 before now now2 w t.reached p ew le in
    record {
      loop = record { first = t.first; begun = t.begun; reached = n.reached };
      falls = omega (arith, n.wider, n.bound, n.ranges);
    }

-- after a pass that widened nothing
pub record Done (b d2 : Described) (v : Value) (end before now2 : ℕ) : Type 0 where
  pub version : d2.version ≡ Version2
  pub relaxed : d2.relaxed ≡ b.relaxed
  pub same_kinds : kinds d2.tree ≡ kinds b.tree
  pub least : Least d2 v
  pub length : end ≡ packed_length d2.tree v
  pub steps : now2 ≤ before + 2 + 29 * ranges b.tree

pub loop_done : (b d d2 : Described) (v : Value) (r r2 : List Spot) (before now now2 end : ℕ) (w : Bool)
    → IsDescribed b → InLoop b d v r before now → RangePassed d d2 r2 v w → w ≡ false → end
    ≡ packed_length d.tree v → now2 ≤ now + 1 → Done b d2 v end before now2
loop_done b d d2 v r r2 before now now2 end w h l p ew ee le =
    let d0 = l.first in
    let s = l.begun.start in
    let t = l.reached in
    let rest : pass d.tree v ≡ d.tree = p.rested.0 ew in
    let et : d2.tree ≡ d.tree = ap (λ (x : Described). x.tree) p.layout ∙ rest in
    let ev : d2.version ≡ Version2 = ap (λ (x : Described). x.version) p.layout ∙ t.version
    ∙ l.begun.version in
    let er : d2.relaxed ≡ d0.relaxed = ap (λ (x : Described). x.relaxed) p.layout ∙ t.relaxed in
    let is2 : d2.tree ≡ passes t.rounds d0.tree v = et ∙ t.is in
    let rests : pass (passes t.rounds d0.tree v) v
    ≡ passes t.rounds d0.tree v = ap (λ (x : Layout). pass x v) (sym t.is) ∙ rest ∙ t.is in
    record {
      version = ev;
      relaxed = er ∙ l.begun.relaxed;
      same_kinds = ap (λ (x : Layout). kinds x) et ∙ sym (kinds_same t.stage.wider)
          ∙ sym (kinds_same l.begun.alike);
      least =
          let a = l.begun.alike in
          let least = rest_is_least Version2 d0.relaxed t.rounds d0.tree v tt (struct_along a h.layout.root)
          (kind_tree_along a h.layout.kind_tree) (subst (λ n. IsStart n d0.tree v) l.begun.version
          s.start) s.few rests in
          let e : described Version2 d0.relaxed (passes t.rounds d0.tree v) ≡ d2 =
          ap (λ x. described x d0.relaxed (passes t.rounds d0.tree v)) (sym ev)
          ∙ ap (λ x. described d2.version x (passes t.rounds d0.tree v)) (sym er)
          ∙ ap (λ (x : Layout). described d2.version d2.relaxed x) (sym is2) in
          subst (λ (x : Described). Least x v) e least;
      length = ee ∙ ap (λ (x : Layout). packed_length x v) (sym et);
      steps = omega (
        arith,
        le,
        t.steps,
        most_wide d0.version d0.tree v s.start s.few t.stage,
        ranges_same
            l.begun.alike,
      );
    }

-- after the first pass the layout is still of the value's kinds
pub form_after : (d0 d : Described) (v : Value) (s : Start d0 v) → d ≡ passed d0 v → Of d.tree v
form_after d0 d v s e = subst (λ (x : Layout). Of x v) (sym (ap (λ (x : Described). x.tree) e))
    (first_stage d0.version d0.tree v s.start s.few).grows.of_kind

-- ---- from the shape of a definition

pub record FromShape (d : Described) (k : KindTree) (v : Value) : Type 0 where
  pub blank : IsBlank d
  pub form : Of d.tree v
  pub few : cells d.tree v ≤ cell_limit
  pub same_kinds : kinds d.tree ≡ k
  pub same_ranges : ranges d.tree ≡ ranges k

pub from_shape : (d : Described) (k : KindTree) (v : Value) → d ≡ shape_of k → Of k v → cells k v ≤ cell_limit
    → FromShape d k v
from_shape d k v e o few =
    let a = blank_alike k in
    let same : cells k v ≡ cells (layout_in Version2 (blank k)) v = cells_same o a in
    subst (λ (x : Described). FromShape x k v) (sym e)
    (record {
      blank = record { version = refl; relaxed = refl; widths = blank_widths k };
      form = of_leafwise o a;
      few = omega (arith, few, same);
      same_kinds = layout_kinds Version2 (blank k) ∙ blank_kinds k;
      same_ranges = sym (ranges_same a);
    })
