-- Where a value stands, each part of it stands.
use Rattle.std.proofs.Common.{◌≡◌, ℕ, zero, suc, ◌+◌, ◌-◌, ◌*◌, ◌≤◌, ◌<◌, List, [], length, arith, ap, sym, ◌∙◌, subst}
use Rattle.std.proofs.lemmas.List.{append-nil}
use Rattle.frozen_model.specs.Bits.{bits, bits_of}
use Rattle.frozen_model.specs.BitLaws.{IsBytes}
use Rattle.frozen_model.specs.Trees.{Holder, ItemRange, Optional, Struct, Field, nodes, Part, itself, in_item, in_optional, in_struct, PartAll, in_first, in_later}
use Rattle.frozen_model.specs.Values.{Value, Values, Items, Present, Record, NoValue, And, count, nth, Of, items, present, record_of, OfEach, none, more, OfAll, part}
use Rattle.frozen_model.specs.Layouts.{Layout, Layouts, stride, strides}
use Rattle.frozen_model.specs.Packing.{extent, extents_before, bytes_for, image, images, image_all, tail, tails, tail_all, pack, Packs, Stands, Place, place, PartAt, here, item_at, inner_at, field_at, PartAmong, first_at, later_at}
use Rattle.frozen_model.specs.Holding.{Holds}
use Rattle.frozen_laws.specs.Everywhere.{HoldsAt, HoldsEach, HoldsAll}
use Rattle.frozen_model.proofs.Fields.{length-bits, length_bits_of}
use Rattle.frozen_laws.specs.Laws.{StandsAt}
use Rattle.frozen_laws.proofs.Holding.{at_fit}
use Rattle.frozen_laws.proofs.Unique.{length_image}
use Rattle.frozen_laws.proofs.Lengths.{length_tail, length_block}
use Rattle.frozen_laws.proofs.Standing.{stands_left, stands_right, stands_in, stands_inside}
use Rattle.frozen_laws.proofs.Finds.{block_is}

-- where the tail of the first of several ends
tail_ends : (bs : List ℕ) {l : Layout} {v : Value} (next : ℕ) → Of l v → next ≤ length bs → Stands (bits_of bs) (8 * next) (tail l v) → next + extent l v ≤ length bs
tail_ends bs {l} {v} next o inside t = omega (arith, stands_inside (bits_of bs) (tail l v) (8 * next) (omega (arith, length_bits_of bs)) t, length_tail o, length_bits_of bs)

-- one of the items that stand in a block
nth_stands : (bs : List ℕ) {l : Layout} {vs : Values} → OfEach l vs → (start bit next : ℕ) → start ≤ next → next ≤ length bs → bit + count vs * stride l ≤ 8 * length bs
    → HoldsEach l vs (next - start) → Stands (bits_of bs) bit (images l vs (next - start)) → Stands (bits_of bs) (8 * next) (tails l vs)
    → (node j : ℕ) → j < count vs → StandsAt bs l (nth vs j) (place node start (bit + j * stride l) (next + extents_before l vs j))
nth_stands bs none start bit next past inside room f s t node j lt = absurd (omega arith)
nth_stands bs (more {l = l} {v = v} {vs = vs} h hs) start bit next past inside room f s t node zero lt =
    let at_bit : bit ≡ bit + 0 * stride l = omega arith in
    let at_next : next ≡ next + 0 = omega arith in
    subst (λ b. StandsAt bs l v (place node start b (next + 0))) at_bit (subst (λ k. StandsAt bs l v (place node start bit k)) at_next
    (record {
      placed = record { of_kind = h; holds = f.0; image_there = stands_left (bits_of bs) (image l v (next - start)) (images l vs (next - start + extent l v)) bit s; tail_there = stands_left (bits_of bs) (tail l v) (tails l vs) (8 * next) t };
      within = omega arith;
      inside = inside;
      past = past;
    }))
nth_stands bs (more {l = l} {v = v} {vs = vs} h hs) start bit next past inside room f s t node (suc j) lt =
    let nx = next + extent l v in
    let shift : next - start + extent l v ≡ nx - start = omega arith in
    let far : 8 * next + 8 * extent l v ≡ 8 * nx = omega arith in
    let t1 = stands_left (bits_of bs) (tail l v) (tails l vs) (8 * next) t in
    let t2 = subst (λ k. Stands (bits_of bs) k (tails l vs)) far (stands_right (bits_of bs) (tail l v) (tails l vs) (8 * next) (8 * extent l v) (length_tail h) t) in
    let s2 = stands_right (bits_of bs) (image l v (next - start)) (images l vs (next - start + extent l v)) bit (stride l) (length_image h (next - start)) s in
    let rest = nth_stands bs hs start (bit + stride l) nx (omega arith) (tail_ends bs next h inside t1) (omega arith) (subst (λ k. HoldsEach l vs k) shift f.1) (subst (λ k. Stands (bits_of bs) (bit + stride l) (images l vs k)) shift s2) t2 node j (omega arith) in
    let at_bit : bit + stride l + j * stride l ≡ bit + suc j * stride l = omega arith in
    let at_next : nx + extents_before l vs j ≡ next + (extent l v + extents_before l vs j) = omega arith in
    subst (λ b. StandsAt bs l (nth vs j) (place node start b (next + (extent l v + extents_before l vs j)))) at_bit
    (subst (λ k. StandsAt bs l (nth vs j) (place node start (bit + stride l + j * stride l) k)) at_next rest)

-- an item of a list, set or map
item_stands : (bs : List ℕ) → IsBytes bs → (h : Holder) (d c : ℕ) (l : Layout) (vs : Values) (q : Place) → StandsAt bs (ItemRange h d c l) (Items h vs) q
    → (node j : ℕ) → j < count vs → StandsAt bs l (nth vs j) (place node q.next (8 * q.next + j * stride l) (q.next + bytes_for (count vs * stride l) + extents_before l vs j))
item_stands bs small h d c l vs q s node j lt = go s.placed.of_kind s.placed.holds s.placed.tail_there
  where
    go : {g : Holder} → Of (ItemRange h d c l) (Items g vs) → HoldsAt (ItemRange h d c l) (Items g vs) (q.next - q.start) → Stands (bits_of bs) (8 * q.next) (tail (ItemRange h d c l) (Items g vs))
        → StandsAt bs l (nth vs j) (place node q.next (8 * q.next + j * stride l) (q.next + bytes_for (count vs * stride l) + extents_before l vs j))
    go (items o ri hs) f t =
        let b = block_is bs q.next small hs s.inside t in
        let u = count vs * stride l in
        let back : bytes_for u ≡ q.next + bytes_for u - q.next = omega arith in
        let many : u ≤ 8 * bytes_for u = omega arith in
        nth_stands bs hs q.next (8 * q.next) (q.next + bytes_for u) (omega arith) b.room (omega (arith, b.room)) (subst (λ k. HoldsEach l vs k) back f.1) (subst (λ k. Stands (bits_of bs) (8 * q.next) (images l vs k)) back b.first) b.rest node j lt

-- what a present optional has
inner_stands : (bs : List ℕ) (w : ℕ) (l : Layout) (v : Value) (i start bit next : ℕ) → StandsAt bs (Optional w l) (Present v) (place i start bit next) → (node : ℕ) → StandsAt bs l v (place node start (bit + w) next)
inner_stands bs w l v i start bit next s node = go s.placed.of_kind
  where
    go : Of (Optional w l) (Present v) → StandsAt bs l v (place node start (bit + w) next)
    go (present h) = record {
      placed = record { of_kind = h; holds = s.placed.holds.1; image_there = stands_right (bits_of bs) (bits w 1) (image l v (next - start)) bit w (length-bits w 1) s.placed.image_there; tail_there = s.placed.tail_there };
      within = omega (arith, s.within);
      inside = s.inside;
      past = s.past;
    }

-- the fields of a struct that stand from a place on
record FieldsStand (bs : List ℕ) (ls : Layouts) (vs : Values) (p : Place) : Type 0 where
  of_kind : OfAll ls vs
  holds : HoldsAll ls vs (p.next - p.start)
  image_there : Stands (bits_of bs) p.bit (image_all ls vs (p.next - p.start))
  tail_there : Stands (bits_of bs) (8 * p.next) (tail_all ls vs)
  within : p.bit + strides ls ≤ 8 * length bs
  inside : p.next ≤ length bs
  past : p.start ≤ p.next

fields_stand : (bs : List ℕ) (ls : Layouts) (ids : List ℕ) (vs : Values) (i start bit next : ℕ) → StandsAt bs (Struct ls) (Record ids vs) (place i start bit next) → (node : ℕ) → FieldsStand bs ls vs (place node start bit next)
fields_stand bs ls ids vs i start bit next s node = go s.placed.of_kind
  where
    go : Of (Struct ls) (Record ids vs) → FieldsStand bs ls vs (place node start bit next)
    go (record_of e hs) = record { of_kind = hs; holds = s.placed.holds; image_there = s.placed.image_there; tail_there = s.placed.tail_there; within = s.within; inside = s.inside; past = s.past }

first_stands : (bs : List ℕ) (id : ℕ) (l : Layout) (ls : Layouts) (v : Value) (vs : Values) (i start bit next : ℕ) → FieldsStand bs (Field id l ls) (And v vs) (place i start bit next) → StandsAt bs l v (place i start bit next)
first_stands bs id l ls v vs i start bit next s = go s.of_kind
  where
    go : OfAll (Field id l ls) (And v vs) → StandsAt bs l v (place i start bit next)
    go (part h hs) = record {
      placed = record { of_kind = h; holds = s.holds.0; image_there = stands_left (bits_of bs) (image l v (next - start)) (image_all ls vs (next - start + extent l v)) bit s.image_there; tail_there = stands_left (bits_of bs) (tail l v) (tail_all ls vs) (8 * next) s.tail_there };
      within = omega (arith, s.within);
      inside = s.inside;
      past = s.past;
    }

later_stand : (bs : List ℕ) (id : ℕ) (l : Layout) (ls : Layouts) (v : Value) (vs : Values) (i start bit next node : ℕ) → FieldsStand bs (Field id l ls) (And v vs) (place i start bit next)
    → FieldsStand bs ls vs (place node start (bit + stride l) (next + extent l v))
later_stand bs id l ls v vs i start bit next node s = go s.of_kind
  where
    go : OfAll (Field id l ls) (And v vs) → FieldsStand bs ls vs (place node start (bit + stride l) (next + extent l v))
    go (part h hs) =
        let past : start ≤ next = s.past in
        let nx = next + extent l v in
        let shift : next - start + extent l v ≡ nx - start = omega arith in
        let far : 8 * next + 8 * extent l v ≡ 8 * nx = omega arith in
        record {
          of_kind = hs;
          holds = subst (λ k. HoldsAll ls vs k) shift s.holds.1;
          image_there = subst (λ k. Stands (bits_of bs) (bit + stride l) (image_all ls vs k)) shift (stands_right (bits_of bs) (image l v (next - start)) (image_all ls vs (next - start + extent l v)) bit (stride l) (length_image h (next - start)) s.image_there);
          tail_there = subst (λ k. Stands (bits_of bs) k (tail_all ls vs)) far (stands_right (bits_of bs) (tail l v) (tail_all ls vs) (8 * next) (8 * extent l v) (length_tail h) s.tail_there);
          within = omega (arith, s.within);
          inside = tail_ends bs next h s.inside (stands_left (bits_of bs) (tail l v) (tail_all ls vs) (8 * next) s.tail_there);
          past = omega arith;
        }

module _ (bs : List ℕ) (small : IsBytes bs) where
  mutual
    pub part_stands : {m : Layout} {u : Value} {p : Place} {l : Layout} {v : Value} {q : Place} → PartAt m u p l v q → StandsAt bs l v q → StandsAt bs m u p
    part_stands here s = s
    part_stands (item_at {h = h} {d = d} {c = c} {l = l} {vs = vs} {i = i} {start = start} {bit = bit} {next = next} j lt p) s =
        part_stands p (item_stands bs small h d c l vs (place i start bit next) s (suc (suc (suc i))) j lt)
    part_stands (inner_at {w = w} {l = l} {v = v} {i = i} {start = start} {bit = bit} {next = next} p) s = part_stands p (inner_stands bs w l v i start bit next s (suc (suc i)))
    part_stands (field_at {ls = ls} {ids = ids} {vs = vs} {i = i} {start = start} {bit = bit} {next = next} p) s = among_stands p (fields_stand bs ls ids vs i start bit next s (suc i))

    among_stands : {m : Layout} {u : Value} {p : Place} {ls : Layouts} {vs : Values} {q : Place} → PartAmong m u p ls vs q → FieldsStand bs ls vs q → StandsAt bs m u p
    among_stands (first_at {id = id} {l = l} {ls = ls} {v = v} {vs = vs} {i = i} {start = start} {bit = bit} {next = next} p) s = part_stands p (first_stands bs id l ls v vs i start bit next s)
    among_stands (later_at {id = id} {l = l} {ls = ls} {v = v} {vs = vs} {i = i} {start = start} {bit = bit} {next = next} p) s =
        among_stands p (later_stand bs id l ls v vs i start bit next (i + nodes l) s)

mutual
  pub part_node : {m : Layout} {u : Value} {p : Place} {l : Layout} {v : Value} {q : Place} → PartAt m u p l v q → Part l q.node m p.node
  part_node here = itself
  part_node (item_at j lt p) = in_item (part_node p)
  part_node (inner_at p) = in_optional (part_node p)
  part_node (field_at p) = in_struct (among_node p)

  among_node : {m : Layout} {u : Value} {p : Place} {ls : Layouts} {vs : Values} {q : Place} → PartAmong m u p ls vs q → PartAll ls q.node m p.node
  among_node (first_at p) = in_first (part_node p)
  among_node (later_at p) = in_later (among_node p)

-- the packing of a value at its root
pub root_stands : (l : Layout) (v : Value) (bs : List ℕ) → IsBytes bs → Holds l v → Packs l v bs → StandsAt bs l v (place 0 0 0 (bytes_for (stride l)))
root_stands l v bs small h packed =
    let s = stride l in
    let o = h.of_kind in
    let whole : Stands (bits_of bs) 0 (pack l v) = subst (λ b. Stands b 0 (pack l v)) (append-nil (pack l v) ∙ sym packed) (stands_in [] (pack l v) []) in
    let once : 1 * s ≡ s = omega arith in
    let at : bytes_for s ≡ bytes_for s - 0 = omega arith in
    let long : length bs ≡ bytes_for s + extent l v = omega (arith, length_bits_of bs, length_block {vs = And v NoValue} (more o none), ap length packed, ap bytes_for once) in
    let b = block_is bs {l = l} {vs = And v NoValue} 0 small (more o none) (omega arith) whole in
    let image1 = subst (λ r. Stands (bits_of bs) 0 r) (append-nil (image l v (bytes_for (1 * s)))) b.first in
    let far : 8 * (0 + bytes_for (1 * s)) ≡ 8 * bytes_for s = omega (arith, ap bytes_for once) in
    let tail1 = subst (λ r. Stands (bits_of bs) (8 * (0 + bytes_for (1 * s))) r) (append-nil (tail l v)) b.rest in
    record {
      placed = record {
        of_kind = o;
        holds = subst (λ k. HoldsAt l v k) at (at_fit o (bytes_for s) h.fits);
        image_there = subst (λ k. Stands (bits_of bs) 0 (image l v k)) (ap bytes_for once ∙ at) image1;
        tail_there = subst (λ k. Stands (bits_of bs) k (tail l v)) far tail1;
      };
      within = omega arith;
      inside = omega arith;
      past = omega arith;
    }
