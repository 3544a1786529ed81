-- What is known of a view.
use Rattle.std.proofs.Common.{◌≡◌, ℕ, ◌+◌, ◌*◌, ◌≤◌, ◌<◌, ◌^◌, length, arith, refl, ap, sym, ◌∙◌, subst, zero}
use Rattle.std.proofs.Common.{suc, ℤ, w16, Option, Some, None, slice_get}
use Rattle.std.proofs.Math.Logic.{∥∥₁_elim, ∥∥₁_map}
use Rattle.std.proofs.Math.Bridge.{le_prop}
use Rattle.std.specs.Prelude.{FitsSigned}
use Rattle.frozen_model.specs.Bits.{field}
use Rattle.frozen_model.specs.Trees.{nodes, ids_of, IsFormed, Rising, Leaf, ByteRange, ItemRange, Optional}
use Rattle.frozen_model.specs.Trees.{Struct}
use Rattle.frozen_model.specs.Values.{Value, count, nth, Of}
use Rattle.frozen_model.specs.Layouts.{Layout, stride}
use Rattle.frozen_model.specs.Packing.{bytes_for}
use Rattle.layout_tree.specs.declared.layouts.Layouts.{Layouts}
use Rattle.layout_tree.specs.declared.node.NodeSpec.{NodeSpec}
use Rattle.layout_tree.specs.Listing.{version_of, sub}
use Rattle.layout_tree.specs.Nodes.{IsNode, IsNumber, noted_in, layout_of, at, listed}
use Rattle.layout_tree.specs.Reading.{IsRange, IsHolder, IsOptional, distance_width, count_width, isset_width}
use Rattle.layout_tree.specs.Reading.{item_stride, child_of, field_node}
use Rattle.layout_tree.proofs.Children.{Child, node_small}
use Rattle.layout_tree.proofs.Subs.{part_high}
use Rattle.layout_tree.proofs.Place.{some_nodes}
use Rattle.layout_tree.proofs.Readings.{formed_part}
use Rattle.layout_tree.proofs.Told.{part_told}
use Rattle.layout_tree.proofs.Describing.{kept_described}
use Rattle.typed_tree.specs.Parts.{IsBytes, IsRecord, fields_of, field_of}
use Rattle.typed_tree.specs.Fields.{id_number}
use Rattle.bit_view.specs.declared.view.View.{View}
use Rattle.bit_view.specs.Lying.{HasPart}
use Rattle.bit_view.specs.InPlace.{read_value, read_fields}
use Rattle.bit_view.specs.Views.{value_of_view, layout_of_view, LiesAt}
use Rattle.bit_view.proofs.Places.{Here, here_is, here_told, node_of, Bounds, bounds}
use Rattle.bit_view.proofs.Ranges.{range_room, item_lies, inner_lies}
use Rattle.bit_view.specs.Branches.{fields_in, layout_nth, field_tree, node_nth}
use Rattle.bit_view.proofs.Fields.{bit_nth, told_nth, struct_told, field_lies}
use Rattle.bit_view.proofs.Fields.{field_child, first_node, first_bit, second_node, second_bit, count_all}
use Rattle.bit_view.proofs.Offsets.{Sought, sought, some_found, none_found, RecordTold, record_told}
use Rattle.bit_view.proofs.Offsets.{offset_is, bits_before}
use Rattle.bit_view.proofs.Shapes.{far, far_of, text_n, text_of, holder_range, bytes_at}

pub view_node : (w : View) → IsNode w.layouts.now w.node
view_node w =
    let l = w.layouts.now in
    node_of (version_of l.version) (noted_in l) w.content.now w.node w.block w.bit w.lies

-- the part that lies where a view is
abbrev pub HereAt : View → Value → Type 0
HereAt w u = Here (version_of w.layouts.now.version) (layout_of w.layouts.now).tree (layout_of_view w)
    w.content.now w.node w.block w.bit u

pub view_here : (w : View) (u : Value) → LiesAt w u → HereAt w u
view_here w u p =
    let l = w.layouts.now in
    let is = (kept_described l).layout in
    here_is (version_of l.version) (noted_in l) w.content.now w.node w.block w.bit u is p

pub view_bounds : (w : View) → Bounds w.content.now (layout_of_view w) w.block w.bit
view_bounds w =
    let l = w.layouts.now in
    let is = (kept_described l).layout in
    bounds (version_of l.version) (noted_in l) w.content.now w.node w.block w.bit is w.lies

pub view_room : (w : View) → IsRange (layout_of_view w)
    → let m = layout_of_view w in
    w.block + field w.content.now w.bit (distance_width m)
    + bytes_for (field w.content.now (w.bit + distance_width m) (count_width m) * item_stride m)
    ≤ length w.content.now
view_room w r = ∥∥₁_elim w.lies le_prop (λ p. range_room (view_here w p.0 p.1) r)

-- it stands for a value of its layout
pub view_value : (w : View) → ∥ Of (layout_of_view w) (value_of_view w) ∥₁
view_value w = ∥∥₁_map w.lies (λ p.
    let h = view_here w p.0 p.1 in
    subst (λ u. Of (layout_of_view w) u) (sym (here_told h)) h.stands.placed.of_kind)

-- its number has 64 bits
pub view_far : (w : View) → far (value_of_view w) < 2 ^ 63
view_far w = ∥∥₁_elim w.lies le_prop (λ p.
    let h = view_here w p.0 p.1 in
    subst (λ u. far u < 2 ^ 63) (sym (here_told h)) (far_of h.stands.placed.of_kind))

pub view_text : (w : View) → 1 ≤ text_n (layout_of_view w) (value_of_view w)
view_text w = ∥∥₁_elim w.lies le_prop (λ p.
    let h = view_here w p.0 p.1 in
    subst (λ u. 1 ≤ text_n (layout_of_view w) u) (sym (here_told h)) (text_of h.stands.placed.of_kind))

pub view_item : (w : View) → IsHolder (layout_of_view w) → (i own : ℕ)
    → i < field w.content.now (w.bit + distance_width (layout_of_view w)) (count_width (layout_of_view w))
    → own ≡ w.block + field w.content.now w.bit (distance_width (layout_of_view w))
    → ∥ HasPart (layout_of w.layouts.now).tree w.content.now (w.node + 3) own
    (8 * own + i * item_stride (layout_of_view w)) ∥₁
view_item w r i own lt e = ∥∥₁_map w.lies (λ p. item_lies (view_here w p.0 p.1) r i lt own e)

pub view_inner : (w : View) → IsOptional (layout_of_view w)
    → field w.content.now w.bit (isset_width (layout_of_view w)) ≡ 1
    → ∥ HasPart (layout_of w.layouts.now).tree w.content.now (w.node + 2) w.block
    (w.bit + isset_width (layout_of_view w)) ∥₁
view_inner w r is = ∥∥₁_map w.lies (λ p. inner_lies (view_here w p.0 p.1) r is)

pub range_stride : (m : Layout) → IsRange m → stride m ≡ distance_width m + count_width m
range_stride (ByteRange t d c) h = refl
range_stride (ItemRange g d c l) h = refl
range_stride (Leaf k c) h = absurd h
range_stride (Optional w l) h = absurd h
range_stride (Struct ls) h = absurd h

pub optional_stride : (m : Layout) → IsOptional m → isset_width m ≤ stride m
optional_stride (Optional w l) h = omega arith
optional_stride (Leaf k c) h = absurd h
optional_stride (ByteRange t d c) h = absurd h
optional_stride (ItemRange g d c l) h = absurd h
optional_stride (Struct ls) h = absurd h

pub view_small : (w : View) → w.node ≤ 4096
view_small w =
    let l = w.layouts.now in
    let h = node_small l.version l.nodes.items (sub (noted_in l) w.node) w.node l.listing l.sound
    (view_node w) in
    omega (arith, h)

whole_bytes : (n s : ℕ) → s ≡ 8 → bytes_for (n * s) ≡ n
whole_bytes n s e = ap (λ k. bytes_for (n * k)) e ∙ eight n
  where
    eight : (n : ℕ) → bytes_for (n * 8) ≡ n
    eight n = omega arith

-- bytes lie in the content
pub view_bytes : (w : View) → IsBytes (value_of_view w)
    → let m = layout_of_view w in
    w.block + field w.content.now w.bit (distance_width m)
    + field w.content.now (w.bit + distance_width m) (count_width m) ≤ length w.content.now
view_bytes w h =
    let m = layout_of_view w in
    let n = field w.content.now (w.bit + distance_width m) (count_width m) in
    let b = bytes_at m w.content.now w.block w.bit h in
    let e = whole_bytes n (item_stride m) b.step in
    omega (arith, e, view_room w b.range)

times_below : (i n s : ℕ) → i < n → i * s + s ≤ n * s
times_below i zero s h = absurd (omega arith)
times_below zero (suc n) s h = omega arith
times_below (suc i) (suc n) s h = omega (arith, times_below i n s (omega arith))

-- an item lies in the content
pub view_item_room : (w : View) → IsHolder (layout_of_view w) → (i own step : ℕ)
    → i < field w.content.now (w.bit + distance_width (layout_of_view w)) (count_width (layout_of_view w))
    → own ≡ w.block + field w.content.now w.bit (distance_width (layout_of_view w))
    → step ≡ item_stride (layout_of_view w)
    → 8 * own + i * step ≤ 8 * length w.content.now
view_item_room w r i own step lt e es =
    let m = layout_of_view w in
    let room = view_room w (holder_range m r) in
    let at = times_below i (field w.content.now (w.bit + distance_width m) (count_width m))
    (item_stride m) lt in
    let same : i * step ≡ i * item_stride m = ap (λ k. i * k) es in
    omega (arith, room, at, e, same)

-- ---- fields

-- where the field at a place is
pub record FieldAt (w : View) (j node bit : ℕ) : Type 0 where
  pub child : Child (noted_in w.layouts.now) (version_of w.layouts.now.version) node
      (layout_nth (fields_in (layout_of_view w)) j)
  pub lies : ∥ HasPart (layout_of w.layouts.now).tree w.content.now node w.block bit ∥₁
  pub value : read_value w.content.now (at w.layouts.now node) w.block bit ≡ nth (fields_of
      (value_of_view w)) j

pub view_field : (w : View) (j : ℕ) → j < count (fields_of (value_of_view w))
    → FieldAt w j (node_nth (fields_in (layout_of_view w)) (suc w.node) j) (bit_nth (fields_in
    (layout_of_view w)) w.bit j)
view_field w j lt =
    let l = w.layouts.now in
    let m = layout_of_view w in
    let ls = fields_in m in
    let s = struct_told m w.content.now w.block w.bit j lt in
    let c = field_child (noted_in l) (version_of l.version) w.node j ls (record
    { node = view_node w; is = s.is }) s.inside in
    record {
      child = c;
      lies = ∥∥₁_map w.lies (λ p. field_lies (view_here w p.0 p.1) s.is j s.inside);
      value = ap (λ x. read_value w.content.now x w.block (bit_nth ls w.bit j)) c.is
          ∙ told_nth w.content.now ls w.block w.bit j s.inside ∙ ap (λ vs. nth vs j) (sym s.values);
    }

pub view_first : (w : View) (n b : ℕ) → 0 < count (fields_of (value_of_view w)) → n ≡ w.node + 1 → b ≡ w.bit
    → FieldAt w 0 n b
view_first w n b lt en eb =
    let ls = fields_in (layout_of_view w) in
    let e : node_nth ls (suc w.node) 0 ≡ n = first_node ls (suc w.node)
    ∙ (let x : suc w.node ≡ n = omega arith in x) in
    subst (λ k. FieldAt w 0 n k) (first_bit ls w.bit ∙ sym eb)
    (subst (λ k. FieldAt w 0 k (bit_nth ls w.bit 0)) e (view_field w 0 lt))

pub view_second : (w : View) (n b : ℕ) → 1 < count (fields_of (value_of_view w))
    → n ≡ w.node + 1 + nodes (at w.layouts.now (w.node + 1))
    → b ≡ w.bit + stride (at w.layouts.now (w.node + 1))
    → FieldAt w 1 n b
view_second w n b lt en eb =
    let l = w.layouts.now in
    let m = layout_of_view w in
    let ls = fields_in m in
    let s = struct_told m w.content.now w.block w.bit 1 lt in
    let first = view_first w (w.node + 1) w.bit (omega (arith, lt)) refl refl in
    let same = first.child.is in
    let e : node_nth ls (suc w.node) 1 ≡ n = second_node ls (suc w.node) s.inside
    ∙ (let x : suc w.node + nodes (layout_nth ls 0) ≡ n = omega (
      arith,
      ap (λ
          (y : Layout). nodes y) same,
      en,
    ) in x) in
    let f : bit_nth ls w.bit 1 ≡ b = second_bit ls w.bit s.inside
    ∙ (let x : w.bit + stride (layout_nth ls 0) ≡ b = omega (
      arith,
      ap (λ
          (y : Layout). stride y) same,
      eb,
    ) in x) in
    subst (λ k. FieldAt w 1 n k) f (subst (λ k. FieldAt w 1 k (bit_nth ls w.bit 1)) e (view_field w 1 lt))

pub node_number : (l : Layouts) (n : ℕ) → IsNode l n → IsNumber l n
node_number l n h = omega (arith, part_high h, some_nodes (sub (noted_in l) n))

-- the field with an id, whose node is n
pub record ChildHere (w : View) (id : ℤ) (n : ℕ) : Type 0 where
  pub place : ℕ
  pub value : field_of (value_of_view w) id ≡ Some (nth (fields_of (value_of_view w)) place)
  pub tree : field_tree (fields_in (layout_of_view w)) (id_number id)
      ≡ Some (layout_nth (fields_in (layout_of_view w)) place)
  pub node : IsNode w.layouts.now n
  pub there : (z : NodeSpec) (b : ℕ) → slice_get (listed w.layouts.now) n ≡ Some z → b ≡ z.offset
      → FieldAt w place n (w.bit + b)

-- no field has the id
pub record NoneHere (w : View) (id : ℤ) : Type 0 where
  pub value : field_of (value_of_view w) id ≡ None
  pub tree : field_tree (fields_in (layout_of_view w)) (id_number id) ≡ None

pub formed : (w : View) → IsFormed (layout_of_view w)
formed w =
    let l = w.layouts.now in
    formed_part (part_told (version_of l.version) (view_node w)) (kept_described l).layout.kind_tree.formed

pub rising_ids : (m : Layout) → IsFormed m → m ≡ Struct (fields_in m) → Rising 0 (ids_of (fields_in m))
rising_ids (Struct ls) h e = h.0
rising_ids (Leaf k c) h e = absurd cc
rising_ids (ByteRange t d c) h e = absurd cc
rising_ids (ItemRange g d c l) h e = absurd cc
rising_ids (Optional w l) h e = absurd cc

child_is : (m : Layout) (n : ℕ) (id : ℤ) → m ≡ Struct (fields_in m)
    → child_of m n id ≡ field_node (fields_in m) (suc n) id
child_is (Struct ls) n id e = refl
child_is (Leaf k c) n id e = absurd cc
child_is (ByteRange t d c) n id e = absurd cc
child_is (ItemRange g d c l) n id e = absurd cc
child_is (Optional w l) n id e = absurd cc

view_sought : (w : View) (id : ℤ) → FitsSigned w16 id
    → RecordTold (layout_of_view w) w.content.now w.block w.bit
    → Sought (fields_in (layout_of_view w))
    (read_fields w.content.now (fields_in (layout_of_view w)) w.block w.bit) (suc w.node) id (id_number id)
view_sought w id fits t =
    let m = layout_of_view w in
    sought w.content.now (fields_in m) w.block w.bit (suc w.node) id fits (rising_ids m (formed w) t.is)

pub view_none : (w : View) (id : ℤ) (r : Option ℕ) → FitsSigned w16 id → IsRecord (value_of_view w)
    → r ≡ child_of (layout_of_view w) w.node id → r ≡ None → NoneHere w id
view_none w id r fits is er en =
    let m = layout_of_view w in
    let t = record_told m w.content.now w.block w.bit is in
    let f = none_found (view_sought w id fits t) (sym (child_is m w.node id t.is) ∙ sym er ∙ en) in
    record { value = t.same id ∙ f.value; tree = f.tree }

pub view_child : (w : View) (id : ℤ) (r : Option ℕ) (n : ℕ) → FitsSigned w16 id → IsRecord (value_of_view w)
    → r ≡ child_of (layout_of_view w) w.node id → r ≡ Some n → ChildHere w id n
view_child w id r n fits is er en =
    let l = w.layouts.now in
    let v = version_of l.version in
    let bs = w.content.now in
    let m = layout_of_view w in
    let ls = fields_in m in
    let t = record_told m bs w.block w.bit is in
    let found : field_node ls (suc w.node) id ≡ Some n = sym (child_is m w.node id t.is) ∙ sym er ∙ en in
    let f = some_found (view_sought w id fits t) n found in
    let at : Some (node_nth ls (suc w.node) f.place) ≡ Some n = sym f.node ∙ found in
    let same : node_nth ls (suc w.node) f.place ≡ n = cc in
    let inside : f.place < count (fields_of (value_of_view w)) = subst (λ x. f.place < x)
    (sym (ap count t.values ∙ count_all bs ls w.block w.bit)) f.inside in
    let field = view_field w f.place inside in
    let moved = subst (λ x. FieldAt w f.place x (bit_nth ls w.bit f.place)) same field in
    record {
      place = f.place;
      value = t.same id ∙ f.value ∙ ap (λ vs. Some (nth vs f.place)) (sym t.values);
      tree = f.tree;
      node = moved.child.node;
      there = λ z b got eb.
          let off = offset_is v l.nodes.items w.node f.place z ls l.listing (view_node w) t.is f.inside
          (subst (λ x. slice_get (listed l) x ≡ Some z) (sym same) got) in
          subst (λ x. FieldAt w f.place n x) (bits_before ls w.bit f.place ∙ ap (λ x. w.bit + x) (sym off
          ∙ sym eb)) moved;
    }
