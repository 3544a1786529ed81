-- A layout with its bases still has them once it is settled. One that a pass leaves as it is holds the value.
use Rattle.std.proofs.Common.{◌≡◌, ℕ, ◌≤◌, max, List, ℤ, arith, ap, sym, ◌∙◌, subst}
use Rattle.frozen_model.specs.Trees.{LeafKind, Flag, Integer, Leaf, ByteRange, ItemRange, Optional, Struct}
use Rattle.frozen_model.specs.Trees.{NoField, Field, AllLeafwise, leaf, byte_range, item_range, optional}
use Rattle.frozen_model.specs.Trees.{struct, no_field, field, Alike}
use Rattle.frozen_model.specs.Values.{Value}
use Rattle.frozen_model.specs.Layouts.{Version, Version1, Version2, Coded, Layout, Layouts as LayoutsOf}
use Rattle.frozen_model.specs.Layouts.{Described, IsDescribed, width}
use Rattle.frozen_model.specs.Holding.{Puts, AllPuts, puts_of, Holds, IsBasedOn, Based, greatest_need}
use Rattle.frozen_model.specs.Holding.{greatest_digits, pass}
use Rattle.frozen_laws.proofs.Leafwise.{leafwise_map, widened_leaf, widened_rests}
use Rattle.frozen_laws.proofs.Leaves.{width_with, tight_fits, fit_digits}
use Rattle.frozen_laws.proofs.Passes.{puts_of_grow, start_under}
use Rattle.frozen_laws.proofs.Puts.{of_leafwise, AtMost, AllAtMost}
use Rattle.frozen_laws.proofs.Rests.{cells_same}
use Rattle.layout_tree.specs.declared.layouts.Layouts.{Layouts}
use Rattle.layout_tree.specs.Listing.{Noted, AllNoted, coded, layout_in, layouts_in, settled, settled_all}
use Rattle.layout_tree.specs.Listing.{version_of}
use Rattle.layout_tree.specs.Nodes.{layout_of, settled_of, noted_in}
use Rattle.measure_pass.specs.Growing.{Measurable}
use Rattle.measure_pass.proofs.Measuring.{Begun}
use Rattle.row_tests.specs.Widths.{IsSound, Rests}

abbrev AllAlike : LayoutsOf → LayoutsOf → Type 0
AllAlike l m = AllLeafwise (λ (k : LeafKind) (a : Coded) (c : Coded). Unit {0}) (λ (b : ℕ) (d : ℕ). Unit {0}) (λ (b : ℕ) (d : ℕ). Unit {0}) l m

mutual
  settled_alike : (v : Version) (t : Noted) → Alike (layout_in v t) (layout_in v (settled t))
  settled_alike v (Leaf k c) = leaf tt
  settled_alike v (ByteRange t d c) = byte_range tt tt
  settled_alike v (ItemRange h d c l) = item_range tt tt (settled_alike v l)
  settled_alike v (Optional w l) = optional tt (settled_alike v l)
  settled_alike v (Struct ls) = struct (all_settled_alike v ls)

  all_settled_alike : (v : Version) (ls : AllNoted)
      → AllAlike (layouts_in v ls) (layouts_in v (settled_all ls))
  all_settled_alike v NoField = no_field
  all_settled_alike v (Field i l ls) = field (settled_alike v l) (all_settled_alike v ls)

based_leaf : (v : Version) (k : LeafKind) (b : ℤ) (m n : ℕ) (xs ys : List ℤ) → IsBasedOn (coded v k b m) xs
    → xs ≡ ys → IsBasedOn (coded v k b n) ys
based_leaf v Flag b m n xs ys h e = tt
based_leaf Version1 (Integer j) b m n xs ys h e = tt
based_leaf Version2 (Integer j) b m n xs ys h e = subst (λ zs. IsBasedOn (coded Version2 (Integer j) b n) zs) e h

abbrev AllBased : LayoutsOf → AllPuts → Type 0
AllBased l p = AllLeafwise (λ (k : LeafKind) (c : Coded) (xs : List ℤ). IsBasedOn c xs) (λ (w : ℕ) (ns : List ℕ). Unit {0}) (λ (w : ℕ) (ns : List ℕ). Unit {0}) l p

mutual
  based_settled : (v : Version) (t : Noted) {p q : Puts} → Based (layout_in v t) p → AtMost p q
      → Based (layout_in v (settled t)) q
  based_settled v (Leaf k c) (leaf h) (leaf e) = leaf (based_leaf v k c.base c.bits c.wide _ _ h e)
  based_settled v (ByteRange t d c) (byte_range x y) (byte_range z w) = byte_range tt tt
  based_settled v (ItemRange h d c l) (item_range x y a) (item_range z w b) = item_range tt tt (based_settled v l a b)
  based_settled v (Optional w l) (optional x a) (optional z b) = optional tt (based_settled v l a b)
  based_settled v (Struct ls) (struct a) (struct b) = struct (all_based_settled v ls a b)

  all_based_settled : (v : Version) (ls : AllNoted) {p q : AllPuts} → AllBased (layouts_in v ls) p
      → AllAtMost p q → AllBased (layouts_in v (settled_all ls)) q
  all_based_settled v NoField no_field no_field = no_field
  all_based_settled v (Field i l ls) (field a xs) (field b ys) = field (based_settled v l a b) (all_based_settled v ls xs ys)

-- a layout after its bases were set, once it is settled
pub settled_measurable : (b : Described) (l new : Layouts) (v : Value) → Begun b (layout_of l) v
    → layout_of new ≡ settled_of l → Measurable (layout_of new) v
settled_measurable b l new v g e =
    let n = version_of l.version in
    let t = noted_in l in
    let s = g.start.start in
    let a = settled_alike n t in
    let m : Measurable (settled_of l) v = record {
      form = of_leafwise s.of_kind a;
      few = let c = cells_same s.of_kind a in omega (arith, g.start.few, c);
      based = λ h. based_settled n t s.based (puts_of_grow s.of_kind (start_under s a));
    } in
    subst (λ (d : Described). Measurable d v) (sym e) m

rest_leaf : (k : LeafKind) (c : Coded) (xs : List ℤ) → IsBasedOn c xs → widened_leaf c xs ≡ c
    → IsBasedOn c xs × (greatest_need c xs ≤ width c)
rest_leaf k c xs h e =
    let same : max (width c) (greatest_need c xs) ≡ width c = sym
    (width_with c (max (width c) (greatest_need c xs))) ∙ ap width e in
    (h, omega arith)

rest_size : (w : ℕ) (ns : List ℕ) → Unit {0} → max w (greatest_digits ns) ≡ w → greatest_digits ns ≤ w
rest_size w ns u e = omega arith

pub rested_holds : (l : Layout) (v : Value) → Rests l v → Holds l v
rested_holds l v r =
    let x = widened_rests
    {R' = λ (k : LeafKind) (c : Coded) (xs : List ℤ). IsBasedOn c xs × (greatest_need c xs ≤ width c)}
    {S' = λ (w : ℕ) (ns : List ℕ). greatest_digits ns ≤ w}
    {T' = λ (w : ℕ) (ns : List ℕ). greatest_digits ns ≤ w}
    rest_leaf rest_size rest_size r.based r.rests in
    record { of_kind = r.form; fits = leafwise_map (λ k c xs h. tight_fits c xs h.0 h.1) (λ w ns h. fit_digits ns w h) (λ w ns h. fit_digits ns w h) x }

pub measured_rests : (d : Described) (v : Value) → Measurable d v → Based d.tree (puts_of d.tree v)
    → pass d.tree v ≡ d.tree → Rests d.tree v
measured_rests d v m b r = record { form = m.form; few = m.few; based = b; rests = r }

pub described_sound : (d : Described) → IsDescribed d → IsSound d.tree
described_sound d h = record { root = h.layout.root; kind_tree = h.layout.kind_tree; legal = h.layout.legal }
