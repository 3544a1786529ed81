-- A layout whose bases are the least numbers is what measuring begins with.
use Rattle.std.proofs.Common.{◌≡◌, ℕ, ℤ, ◌+◌, ◌*◌, List, [], ◌∷◌, ◌++◌, map, length, arith, refl, ap}
use Rattle.std.proofs.Common.{sym, ◌∙◌, subst}
use Rattle.std.proofs.lemmas.List.{length-map}
use Rattle.frozen_model.specs.Trees.{LeafKind, Flag, Integer, Leaf, ByteRange, ItemRange}
use Rattle.frozen_model.specs.Trees.{Optional, Struct, NoField, Field, nodes, AllLeafwise, leaf}
use Rattle.frozen_model.specs.Trees.{byte_range, item_range, optional, struct, no_field, field}
use Rattle.frozen_model.specs.Values.{Number, Truth, Value, Values, count, Of, one, bytes, items}
use Rattle.frozen_model.specs.Values.{absent, present, record_of, OfEach, none, more, OfAll, no_part, part}
use Rattle.frozen_model.specs.Values.{IsOf, Atom}
use Rattle.frozen_model.specs.Layouts.{Version, Version2, Coded, FromBase, flag_coded, based_coded}
use Rattle.frozen_model.specs.Layouts.{Layout, Layouts, OfVersion, AllOfVersion, Narrower, AllNarrower}
use Rattle.frozen_model.specs.Layouts.{stride, number_of}
use Rattle.frozen_model.specs.Packing.{extent, bytes_for}
use Rattle.frozen_model.specs.Holding.{Puts, AllPuts, puts, puts_each, puts_all, puts_of, no_puts}
use Rattle.frozen_model.specs.Holding.{IsBasedOn, Based, Blank, AllBlank, IsStart}
use Rattle.frozen_laws.proofs.Leafwise.{leafwise_chain, no_puts_right, both_right}
use Rattle.frozen_laws.proofs.Passes.{puts_of_grow}
use Rattle.frozen_laws.proofs.Puts.{of_leafwise, puts_beside}
use Rattle.layout_tree.specs.Listing.{Noted, AllNoted, layout_in, layouts_in, settled}
use Rattle.layout_tree.specs.Listing.{settled_all}
use Rattle.layout_tree.proofs.Readings.{same_nodes}
use Rattle.value_bounds.specs.declared.bounds.Bounds.{Bounds}
use Rattle.value_bounds.specs.Seeing.{numbers, bounds_of}
use Rattle.value_bounds.proofs.Seen.{length_numbers}
use Rattle.value_bounds.specs.Basing.{least_of, based_on, all_based_on}
use Rattle.value_bounds.proofs.Least.{least_is_least, least_in}
use Rattle.value_bounds.proofs.Steps.{AreOfKind, OfKinds, AllOfKinds, BasesTo, bases_begin}

-- ---- the numbers of a value are of its kinds

number_of_kind : (k : LeafKind) (x : Atom) → IsOf k x → AreOfKind k (number_of x ∷ [])
number_of_kind Flag x o = tt
number_of_kind (Integer j) (Number z) o = (o, tt)
number_of_kind (Integer j) (Truth b) o = absurd o

numbers_join : (k : LeafKind) (xs ys : List ℤ) → AreOfKind k xs → AreOfKind k ys → AreOfKind k (xs ++ ys)
numbers_join Flag xs ys h i = tt
numbers_join (Integer j) [] ys h i = i
numbers_join (Integer j) (x ∷ xs) ys h i = (h.0, numbers_join (Integer j) xs ys h.1 i)

no_number_of_kind : (k : LeafKind) → AreOfKind k []
no_number_of_kind Flag = tt
no_number_of_kind (Integer j) = tt

none_of_kinds : (l : Layout) → OfKinds l (no_puts l)
none_of_kinds l = no_puts_right (λ k c. no_number_of_kind k) (λ w. tt) (λ w. tt) l

mutual
  pub puts_of_kinds : {l : Layout} {v : Value} → Of l v → (at : ℕ) → OfKinds l (puts l v at)
  puts_of_kinds (one {k = k} {x = x} o) at = leaf (number_of_kind k x o)
  puts_of_kinds (bytes o p u) at = byte_range tt tt
  puts_of_kinds (items {l = l} {vs = vs} o ri hs) at = item_range tt tt
      (puts_each_of_kinds hs (bytes_for (count vs * stride l)))
  puts_of_kinds (absent {l = l}) at = optional tt (none_of_kinds l)
  puts_of_kinds (present h) at = optional tt (puts_of_kinds h at)
  puts_of_kinds (record_of e hs) at = struct (puts_all_of_kinds hs at)

  puts_each_of_kinds : {l : Layout} {vs : Values} → OfEach l vs → (at : ℕ) → OfKinds l (puts_each l vs at)
  puts_each_of_kinds (none {l = l}) at = none_of_kinds l
  puts_each_of_kinds (more {l = l} {v = v} h hs) at = both_right (λ k c xs ys x y. numbers_join k xs ys x y)
      (λ w ms ns x y. tt) (λ w ms ns x y. tt) (puts_of_kinds h at) (puts_each_of_kinds hs (at + extent l v))

  puts_all_of_kinds : {ls : Layouts} {vs : Values} → OfAll ls vs → (at : ℕ)
      → AllOfKinds ls (puts_all ls vs at)
  puts_all_of_kinds no_part at = no_field
  puts_all_of_kinds (part {l = l} {v = v} h hs) at = field (puts_of_kinds h at)
      (puts_all_of_kinds hs (at + extent l v))

-- beside the layout of a tree is beside the tree
mutual
  pub beside_noted : (v : Version) (t : Noted) {p : Puts} → OfKinds (layout_in v t) p → OfKinds t p
  beside_noted v (Leaf k c) (leaf h) = leaf h
  beside_noted v (ByteRange t d c) (byte_range h i) = byte_range tt tt
  beside_noted v (ItemRange g d c l) (item_range h i x) = item_range tt tt (beside_noted v l x)
  beside_noted v (Optional w l) (optional h x) = optional tt (beside_noted v l x)
  beside_noted v (Struct ls) (struct xs) = struct (all_beside_noted v ls xs)

  all_beside_noted : (v : Version) (ts : AllNoted) {ps : AllPuts} → AllOfKinds (layouts_in v ts) ps
      → AllOfKinds ts ps
  all_beside_noted v NoField no_field = no_field
  all_beside_noted v (Field i l ls) (field x xs) = field (beside_noted v l x) (all_beside_noted v ls xs)

-- ---- the layout with the least bases

mutual
  on_narrower : {t : Noted} {p : Puts} → OfKinds t p
      → Narrower (layout_in Version2 t) (layout_in Version2 (based_on t p))
  on_narrower (leaf {k = Flag} h) = leaf (omega arith)
  on_narrower (leaf {k = Integer j} h) = leaf (omega arith)
  on_narrower (byte_range h i) = byte_range (omega arith) (omega arith)
  on_narrower (item_range h i x) = item_range (omega arith) (omega arith) (on_narrower x)
  on_narrower (optional h x) = optional (omega arith) (on_narrower x)
  on_narrower (struct xs) = struct (all_on_narrower xs)

  all_on_narrower : {ts : AllNoted} {ps : AllPuts} → AllOfKinds ts ps
      → AllNarrower (layouts_in Version2 ts) (layouts_in Version2 (all_based_on ts ps))
  all_on_narrower no_field = no_field
  all_on_narrower (field x xs) = field (on_narrower x) (all_on_narrower xs)

mutual
  on_coded : {t : Noted} {p : Puts} → OfKinds t p → OfVersion Version2 (layout_in Version2 (based_on t p))
  on_coded (leaf {k = Flag} h) = flag_coded
  on_coded (leaf {k = Integer j} {c = xs} h) = based_coded (least_in j xs h)
  on_coded (byte_range h i) = tt
  on_coded (item_range h i x) = on_coded x
  on_coded (optional h x) = on_coded x
  on_coded (struct xs) = all_on_coded xs

  all_on_coded : {ts : AllNoted} {ps : AllPuts} → AllOfKinds ts ps
      → AllOfVersion Version2 (layouts_in Version2 (all_based_on ts ps))
  all_on_coded no_field = tt
  all_on_coded (field x xs) = (on_coded x, all_on_coded xs)

mutual
  on_blank : {t : Noted} {p : Puts} → OfKinds t p → Blank (layout_in Version2 t)
      → Blank (layout_in Version2 (based_on t p))
  on_blank (leaf {k = Flag} h) b = b
  on_blank (leaf {k = Integer j} h) b = b
  on_blank (byte_range h i) b = b
  on_blank (item_range h i x) b = (b.0, b.1, on_blank x b.2)
  on_blank (optional h x) b = (b.0, on_blank x b.1)
  on_blank (struct xs) b = all_on_blank xs b

  all_on_blank : {ts : AllNoted} {ps : AllPuts} → AllOfKinds ts ps → AllBlank (layouts_in Version2 ts)
      → AllBlank (layouts_in Version2 (all_based_on ts ps))
  all_on_blank no_field b = tt
  all_on_blank (field x xs) b = (on_blank x b.0, all_on_blank xs b.1)

abbrev AllBased : Layouts → AllPuts → Type 0
AllBased ls ps = AllLeafwise (λ (k : LeafKind) (c : Coded) (xs : List ℤ). IsBasedOn c xs)
    (λ (w : ℕ) (ns : List ℕ). Unit {0}) (λ (w : ℕ) (ns : List ℕ). Unit {0}) ls ps

mutual
  on_based : {t : Noted} {p : Puts} → OfKinds t p → Based (layout_in Version2 (based_on t p)) p
  on_based (leaf {k = Flag} h) = leaf tt
  on_based (leaf {k = Integer j} {c = xs} h) = leaf (least_is_least xs)
  on_based (byte_range h i) = byte_range tt tt
  on_based (item_range h i x) = item_range tt tt (on_based x)
  on_based (optional h x) = optional tt (on_based x)
  on_based (struct xs) = struct (all_on_based xs)

  all_on_based : {ts : AllNoted} {ps : AllPuts} → AllOfKinds ts ps
      → AllBased (layouts_in Version2 (all_based_on ts ps)) ps
  all_on_based no_field = no_field
  all_on_based (field x xs) = field (on_based x) (all_on_based xs)

based_along : (k : LeafKind) (c : Coded) (xs ys : List ℤ) → IsBasedOn c xs → xs ≡ ys → IsBasedOn c ys
based_along k c xs ys h e = subst (IsBasedOn c) e h

-- it is what measuring begins with
pub starts : (t : Noted) (v : Value) → Of (layout_in Version2 t) v → Blank (layout_in Version2 t)
    → IsStart Version2 (layout_in Version2 (based_on t (puts_of (layout_in Version2 t) v))) v
starts t v o b =
    let l = layout_in Version2 t in
    let h = beside_noted Version2 t (puts_of_kinds o (bytes_for (stride l))) in
    let up = on_narrower h in
    record {
      of_kind = of_leafwise o up;
      coded = on_coded h;
      blank = on_blank h b;
      based = leafwise_chain based_along (λ w ms ns x y. tt) (λ w ms ns x y. tt) (on_based h)
          (puts_of_grow o up);
    }

-- ---- noted widths

mutual
  pub on_settled : {t : Noted} {p : Puts} → OfKinds t p → layout_in Version2 (settled t)
      ≡ layout_in Version2 t → layout_in Version2 (settled (based_on t p)) ≡ layout_in Version2 (based_on t p)
  on_settled (leaf {k = Flag} h) e = e
  on_settled (leaf {k = Integer j} {a = c} {c = xs} h) e = let w : c.wide
      ≡ c.bits = cc in ap (λ n. Leaf (Integer j) (FromBase (least_of xs) n)) w
  on_settled (byte_range h i) e = e
  on_settled (item_range {h = g} {d = d} {c = c} {l = l} h i x) e =
      let inner : layout_in Version2 (settled l) ≡ layout_in Version2 l = cc in
      let a : d.wide ≡ d.bits = cc in
      let b : c.wide ≡ c.bits = cc in
      let f = on_settled x inner in
      cc
  on_settled (optional {w = w} {l = l} h x) e =
      let inner : layout_in Version2 (settled l) ≡ layout_in Version2 l = cc in
      let a : w.wide ≡ w.bits = cc in
      let f = on_settled x inner in
      cc
  on_settled (struct {ls = ls} xs) e =
      let inner : layouts_in Version2 (settled_all ls) ≡ layouts_in Version2 ls = cc in
      ap Struct (all_on_settled xs inner)

  all_on_settled : {ts : AllNoted} {ps : AllPuts} → AllOfKinds ts ps → layouts_in Version2 (settled_all ts)
      ≡ layouts_in Version2 ts → layouts_in Version2 (settled_all (all_based_on ts ps))
      ≡ layouts_in Version2 (all_based_on ts ps)
  all_on_settled no_field e = refl
  all_on_settled (field {l = l} {ls = ls} x xs) e =
      let first : layout_in Version2 (settled l) ≡ layout_in Version2 l = cc in
      let rest : layouts_in Version2 (settled_all ls) ≡ layouts_in Version2 ls = cc in
      let f = on_settled x first in
      let g = all_on_settled xs rest in
      cc

-- ---- the same of a layout whose version is known by an equation

pub starts_at : (n m : Version) (t s : Noted) (v : Value) → n ≡ Version2 → m ≡ n → Of (layout_in n t) v
    → Blank (layout_in n t) → s ≡ based_on t (puts_of (layout_in n t) v) → IsStart Version2 (layout_in m s) v
starts_at n m t s v en em o b es =
    let now : s ≡ based_on t (puts_of (layout_in Version2 t) v) = es
    ∙ ap (λ k. based_on t (puts_of (layout_in k t) v)) en in
    let begins = starts t v (subst (λ (k : Version). Of (layout_in k t) v) en o)
    (subst (λ (k : Version). Blank (layout_in k t)) en b) in
    subst (λ (k : Version). IsStart Version2 (layout_in k s) v) (sym (em ∙ en))
    (subst (λ (x : Noted). IsStart Version2 (layout_in Version2 x) v) (sym now) begins)

pub settled_at : (n m : Version) (t s : Noted) (v : Value) → n ≡ Version2 → m ≡ n → Of (layout_in n t) v → s
    ≡ based_on t (puts_of (layout_in n t) v) → layout_in n (settled t) ≡ layout_in n t
    → layout_in m (settled s) ≡ layout_in m s
settled_at n m t s v en em o es h =
    let l = layout_in Version2 t in
    let form : Of l v = subst (λ (k : Version). Of (layout_in k t) v) en o in
    let now : s ≡ based_on t (puts_of l v) = es ∙ ap (λ k. based_on t (puts_of (layout_in k t) v)) en in
    let rests = on_settled (beside_noted Version2 t (puts_of_kinds form (bytes_for (stride l))))
    (subst (λ (k : Version). layout_in k (settled t) ≡ layout_in k t) en h) in
    subst (λ (k : Version). layout_in k (settled s) ≡ layout_in k s) (sym (em ∙ en))
    (subst (λ (x : Noted). layout_in Version2 (settled x) ≡ layout_in Version2 x) (sym now) rests)

-- the loop over nodes begins
pub begins : (n : Version) (t : Noted) (v : Value) (bs : List Bounds) → Of (layout_in n t) v → bs
    ≡ map bounds_of (numbers (puts_of (layout_in n t) v))
    → BasesTo t 0 bs (based_on t (puts_of (layout_in n t) v))
begins n t v bs o e =
    let p = puts_of (layout_in n t) v in
    subst (λ r. BasesTo t 0 r (based_on t p)) (sym e)
    (bases_begin t p (beside_noted n t (puts_of_kinds o (bytes_for (stride (layout_in n t))))))

-- there are as many bounds as nodes
pub as_many : (n : Version) (t : Noted) (v : Value) (bs : List Bounds) → Of (layout_in n t) v → bs
    ≡ map bounds_of (numbers (puts_of (layout_in n t) v)) → length bs ≡ nodes t
as_many n t v bs o e =
    let l = layout_in n t in
    ap length e ∙ length-map (numbers (puts_of l v)) bounds_of
    ∙ length_numbers (puts_beside o (bytes_for (stride l))) ∙ same_nodes n t
