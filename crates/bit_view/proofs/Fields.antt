-- The fields of a struct, by their place from 0.
use Rattle.std.proofs.Common.{◌≡◌, ℕ, zero, suc, ◌+◌, ◌<◌, List, length, arith, refl, ap, sym, subst}
use Rattle.std.proofs.Common.{nat_eq, if◌then◌else◌, Bool, true, false}
use Rattle.frozen_model.specs.Bits.{field}
use Rattle.frozen_model.specs.Trees.{Leaf, ByteRange, ItemRange, Optional, Struct, NoField, Field}
use Rattle.frozen_model.specs.Trees.{nodes, ids_of}
use Rattle.frozen_model.specs.Values.{Value, Values, Absent, Present, count, nth, Of, one}
use Rattle.frozen_model.specs.Values.{bytes, items, absent, present, record_of, OfAll, no_part, part}
use Rattle.frozen_model.specs.Layouts.{Version, Layout, Layouts, stride}
use Rattle.frozen_model.specs.Packing.{bytes_for, extent, place, PartAt, here, field_at, PartAmong, first_at}
use Rattle.frozen_model.specs.Packing.{later_at}
use Rattle.layout_tree.specs.Listing.{Noted, AllNoted, layout_in, layouts_in}
use Rattle.layout_tree.proofs.Readings.{same_nodes}
use Rattle.layout_tree.proofs.Children.{Child, FieldsAt, struct_at, first_child, later_children}
use Rattle.typed_tree.specs.Parts.{fields_of}
use Rattle.bit_view.specs.Lying.{HasPart}
use Rattle.bit_view.specs.InPlace.{read_value, read_fields}
use Rattle.bit_view.specs.Branches.{fields_in, layout_nth, node_nth}
use Rattle.bit_view.proofs.Places.{Here, part_of_part}

-- the first bit of the field at a place, where the first one's is b
abbrev pub bit_nth : Layouts → ℕ → ℕ → ℕ
bit_nth NoField b j = b
bit_nth (Field f l ls) b zero = b
bit_nth (Field f l ls) b (suc j) = bit_nth ls (b + stride l) j

-- ---- what is read of it

pub count_all : (bs : List ℕ) (ls : Layouts) (block bit : ℕ)
    → count (read_fields bs ls block bit) ≡ length (ids_of ls)
count_all bs NoField block bit = refl
count_all bs (Field f l ls) block bit = ap suc (count_all bs ls block (bit + stride l))

pub told_nth : (bs : List ℕ) (ls : Layouts) (block bit j : ℕ) → j < length (ids_of ls)
    → read_value bs (layout_nth ls j) block (bit_nth ls bit j) ≡ nth (read_fields bs ls block bit) j
told_nth bs NoField block bit j h = absurd (omega arith)
told_nth bs (Field f l ls) block bit zero h = refl
told_nth bs (Field f l ls) block bit (suc j) h = told_nth bs ls block (bit + stride l) j (omega arith)

no_fields : (b : Bool) (x : Value) (j : ℕ) → j < count (fields_of (if b then Present x else Absent)) → ⊥
no_fields true x j h = omega (arith, h)
no_fields false x j h = omega (arith, h)

pub record StructTold (m : Layout) (bs : List ℕ) (block bit j : ℕ) : Type 0 where
  pub is : m ≡ Struct (fields_in m)
  pub values : fields_of (read_value bs m block bit) ≡ read_fields bs (fields_in m) block bit
  pub inside : j < length (ids_of (fields_in m))

pub struct_told : (m : Layout) (bs : List ℕ) (block bit j : ℕ)
    → j < count (fields_of (read_value bs m block bit)) → StructTold m bs block bit j
struct_told (Struct ls) bs block bit j h = record {
  is = refl;
  values = refl;
  inside = subst (λ n. j < n) (count_all bs ls block bit) h;
}
struct_told (Leaf k c) bs block bit j h = absurd (omega (arith, h))
struct_told (ByteRange t d c) bs block bit j h = absurd (omega (arith, h))
struct_told (ItemRange g d c l) bs block bit j h = absurd (omega (arith, h))
struct_told (Optional w l) bs block bit j h =
    absurd (no_fields (nat_eq (field bs bit w) 1) (read_value bs l block (bit + w)) j h)

-- ---- where it lies

among_nth : {ls : Layouts} {vs : Values} → OfAll ls vs → (j i start bit next : ℕ) → j < length (ids_of ls)
    → (n : ℕ) × PartAmong (layout_nth ls j) (nth vs j) (place (node_nth ls i j) start
    (bit_nth ls bit j) n) ls vs (place i start bit next)
among_nth no_part j i start bit next h = absurd (omega arith)
among_nth (part {l = l} {ls = ls} {v = v} {vs = vs} o os) zero i start bit next h = (next, first_at here)
among_nth (part {l = l} {ls = ls} {v = v} {vs = vs} o os) (suc j) i start bit next h =
    let r = among_nth os j (i + nodes l) start (bit + stride l) (next + extent l v) (omega arith) in
    (r.0, later_at r.1)

pub field_lies : {v : Version} {l m : Layout} {bs : List ℕ} {node block bit : ℕ} {u : Value}
    → Here v l m bs node block bit u → m ≡ Struct (fields_in m) → (j : ℕ) → j < length (ids_of (fields_in m))
    → HasPart l bs (node_nth (fields_in m) (suc node) j) block (bit_nth (fields_in m) bit j)
field_lies {v} {l} {bs = bs} {node = node} {block = block} {bit = bit} h is j lt =
    go h.stands.placed.of_kind is lt h.lies
  where
    go : {m : Layout} {u : Value} → Of m u → m ≡ Struct (fields_in m) → j < length (ids_of (fields_in m))
        → PartAt m u (place node block bit h.next) l h.whole (place 0 0 0 (bytes_for (stride l)))
        → HasPart l bs (node_nth (fields_in m) (suc node) j) block (bit_nth (fields_in m) bit j)
    go (record_of {ls = ls} {vs = vs} e os) is lt p =
        let r = among_nth os j (suc node) block bit h.next lt in (
          nth vs j,
          record {
            are_bytes = h.small;
            whole = h.whole;
            content = h.content;
            lies = (layout_nth ls j, r.0, part_of_part p (field_at r.1));
          },
        )
    go (one o) is lt p = absurd cc
    go (bytes a b c) is lt p = absurd cc
    go (items a b c) is lt p = absurd cc
    go absent is lt p = absurd cc
    go (present o) is lt p = absurd cc

-- ---- its node

child_nth : (t : Noted) (v : Version) (fs : AllNoted) (i j : ℕ) → FieldsAt t i fs
    → j < length (ids_of (layouts_in v fs))
    → Child t v (node_nth (layouts_in v fs) i j) (layout_nth (layouts_in v fs) j)
child_nth t v NoField i j h lt = absurd (omega arith)
child_nth t v (Field f l fs) i zero h lt = first_child t v i f l fs h
child_nth t v (Field f l fs) i (suc j) h lt =
    let e : i + nodes l ≡ i + nodes (layout_in v l) = ap (λ n. i + n) (sym (same_nodes v l)) in
    child_nth t v fs (i + nodes (layout_in v l)) j (subst (λ k. FieldsAt t k fs) e
    (later_children t i f l fs h))
    (omega arith)

pub field_child : (t : Noted) (v : Version) (n j : ℕ) (ls : Layouts) → Child t v n (Struct ls)
    → j < length (ids_of ls) → Child t v (node_nth ls (suc n) j) (layout_nth ls j)
field_child t v n j ls c lt =
    let s = struct_at t v n ls c.node c.is in
    let lt2 = subst (λ x. j < length (ids_of x)) (sym s.is) lt in
    subst (λ x. Child t v (node_nth x (suc n) j) (layout_nth x j)) s.is (child_nth t v s.fields
    (suc n) j s.there lt2)

-- ---- the first two

pub first_node : (ls : Layouts) (i : ℕ) → node_nth ls i 0 ≡ i
first_node NoField i = refl
first_node (Field f l ls) i = refl

pub first_bit : (ls : Layouts) (b : ℕ) → bit_nth ls b 0 ≡ b
first_bit NoField b = refl
first_bit (Field f l ls) b = refl

pub second_node : (ls : Layouts) (i : ℕ) → 1 < length (ids_of ls)
    → node_nth ls i 1 ≡ i + nodes (layout_nth ls 0)
second_node NoField i h = absurd (omega arith)
second_node (Field f l ls) i h = first_node ls (i + nodes l)

pub second_bit : (ls : Layouts) (b : ℕ) → 1 < length (ids_of ls)
    → bit_nth ls b 1 ≡ b + stride (layout_nth ls 0)
second_bit NoField b h = absurd (omega arith)
second_bit (Field f l ls) b h = first_bit ls (b + stride l)
