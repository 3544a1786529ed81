-- Where the own block of a range begins, and where its items and the value of an optional lie.
use Rattle.std.proofs.Common.{◌≡◌, ℕ, zero, suc, ◌+◌, ◌-◌, ◌*◌, ◌≤◌, ◌<◌, List, length, arith, refl, ap, sym}
use Rattle.std.proofs.Common.{◌∙◌}
use Rattle.std.proofs.Common.{subst, replicate, false}
use Rattle.std.proofs.lemmas.List.{replicate-append-replicate}
use Rattle.frozen_model.specs.Bits.{bits_of, field}
use Rattle.frozen_model.specs.Values.{Value, count, nth, Of, one, bytes, items, absent, present, record_of}
use Rattle.frozen_model.specs.Layouts.{Version, Layout, stride}
use Rattle.frozen_model.specs.Packing.{bytes_for, distance, image, tail, place, PartAt, here, item_at}
use Rattle.frozen_model.specs.Packing.{inner_at}
use Rattle.frozen_model.specs.Packing.{Stands}
use Rattle.frozen_laws.specs.Everywhere.{HoldsAt}
use Rattle.frozen_laws.proofs.Standing.{stands_left, zero_stands}
use Rattle.frozen_laws.proofs.Finds.{block_is}
use Rattle.layout_tree.specs.Reading.{IsRange, IsHolder, IsOptional, distance_width, count_width, isset_width}
use Rattle.layout_tree.specs.Reading.{item_stride}
use Rattle.bit_view.specs.Lying.{HasPart}
use Rattle.bit_view.proofs.Telling.{range_is, bytes_again}
use Rattle.bit_view.proofs.Places.{Here, part_of_part}

-- ---- room

room_from : (start next n s end : ℕ) → start ≤ next → next + bytes_for (n * s) ≤ end
    → start + distance n (next - start) + bytes_for (n * s) ≤ end
room_from start next zero s end h e = omega arith
room_from start next (suc n) s end h e = omega arith

-- the own block of a range lies in the content
pub range_room : {v : Version} {l m : Layout} {bs : List ℕ} {node block bit : ℕ} {u : Value}
    → Here v l m bs node block bit u → IsRange m
    → block + field bs bit (distance_width m)
    + bytes_for (field bs (bit + distance_width m) (count_width m) * item_stride m) ≤ length bs
range_room {bs = bs} {block = block} {bit = bit} h r =
    let s = h.stands in
    go s.placed.of_kind r s.within s.placed.holds s.placed.image_there s.placed.tail_there
  where
    go : {m : Layout} {u : Value} → Of m u → IsRange m → bit + stride m ≤ 8 * length bs
        → HoldsAt m u (h.next - block) → Stands (bits_of bs) bit (image m u (h.next - block))
        → Stands (bits_of bs) (8 * h.next) (tail m u)
        → block + field bs bit (distance_width m)
        + bytes_for (field bs (bit + distance_width m) (count_width m) * item_stride m) ≤ length bs
    go (bytes {d = d} {c = c} {bs = xs} o p w) r within f i t =
        let x = range_is bs d c (length xs) (h.next - block) bit h.small within f i in
        let e = ap (λ k. block + k + bytes_for (field bs (bit + d) c * 8)) x.found
        ∙ ap (λ k. block + distance (length xs) (h.next - block) + bytes_for (k * 8)) x.many in
        let again = bytes_again bs xs h.next h.small p h.stands.inside t in
        let room = room_from block h.next (length xs) 8 (length bs) h.stands.past (omega (arith, again.0)) in
        omega (arith, e, room)
    go (items {d = d} {c = c} {l = l} {vs = vs} o ri hs) r within f i t =
        let n = count vs in
        let x = range_is bs d c n (h.next - block) bit h.small within f.0 i in
        let e = ap (λ k. block + k + bytes_for (field bs (bit + d) c * stride l)) x.found
        ∙ ap (λ k. block + distance n (h.next - block) + bytes_for (k * stride l)) x.many in
        let b = block_is bs h.next h.small hs h.stands.inside t in
        let room = room_from block h.next n (stride l) (length bs) h.stands.past b.room in
        omega (arith, e, room)
    go (one o) r within f i t = absurd r
    go absent r within f i t = absurd r
    go (present o) r within f i t = absurd r
    go (record_of e o) r within f i t = absurd r

-- ---- parts

part_there : {m l : Layout} {u v : Value} {next a b c i j k : ℕ}
    → PartAt m u (place a b c next) l v (place 0 0 0 (bytes_for (stride l)))
    → a ≡ i → b ≡ j → c ≡ k → PartAt m u (place i j k next) l v (place 0 0 0 (bytes_for (stride l)))
part_there {m} {l} {u} {v} {next} {a} {b} {c} {i} {j} {k} p ea eb ec =
    let root = place 0 0 0 (bytes_for (stride l)) in
    subst (λ x. PartAt m u (place i j x next) l v root) ec
    (subst (λ x. PartAt m u (place i x c next) l v root) eb
    (subst (λ x. PartAt m u (place x b c next) l v root) ea p))

pub own_next : (start next n i : ℕ) → start ≤ next → i < n → next ≡ start + distance n (next - start)
own_next start next zero i h lt = absurd (omega arith)
own_next start next (suc n) i h lt = omega arith

-- an item of a range lies in its own block
pub item_lies : {v : Version} {l m : Layout} {bs : List ℕ} {node block bit : ℕ} {u : Value}
    → Here v l m bs node block bit u → IsHolder m → (i : ℕ)
    → i < field bs (bit + distance_width m) (count_width m) → (own : ℕ)
    → own ≡ block + field bs bit (distance_width m)
    → HasPart l bs (node + 3) own (8 * own + i * item_stride m)
item_lies {v} {l} {bs = bs} {node = node} {block = block} {bit = bit} h r i lt own eo =
    let s = h.stands in
    go s.placed.of_kind r s.within s.placed.holds s.placed.image_there lt eo h.lies
  where
    go : {m : Layout} {u : Value} → Of m u → IsHolder m → bit + stride m ≤ 8 * length bs
        → HoldsAt m u (h.next - block) → Stands (bits_of bs) bit (image m u (h.next - block))
        → i < field bs (bit + distance_width m) (count_width m)
        → own ≡ block + field bs bit (distance_width m)
        → PartAt m u (place node block bit h.next) l h.whole (place 0 0 0 (bytes_for (stride l)))
        → HasPart l bs (node + 3) own (8 * own + i * item_stride m)
    go (items {d = d} {c = c} {l = x} {vs = vs} o ri hs) r within f it lt eo p =
        let n = count vs in
        let w = range_is bs d c n (h.next - block) bit h.small within f.0 it in
        let some : i < n = subst (λ k. i < k) w.many lt in
        let same : h.next ≡ own = own_next block h.next n i h.stands.past some
        ∙ ap (λ k. block + k) (sym w.found) ∙ sym eo in
        let three : suc (suc (suc node)) ≡ node + 3 = omega arith in (
          nth vs i,
          record {
            are_bytes = h.small;
            whole = h.whole;
            content = h.content;
            lies = (
              x,
              _,
              part_there (part_of_part p (item_at i some here)) three same (ap
                  (λ k. 8 * k + i * stride x) same),
            );
          },
        )
    go (bytes o p w) r within f it lt eo q = absurd r
    go (one o) r within f it lt eo q = absurd r
    go absent r within f it lt eo q = absurd r
    go (present o) r within f it lt eo q = absurd r
    go (record_of e o) r within f it lt eo q = absurd r

-- the value of an optional that is there lies behind its flag
pub inner_lies : {v : Version} {l m : Layout} {bs : List ℕ} {node block bit : ℕ} {u : Value}
    → Here v l m bs node block bit u → IsOptional m → field bs bit (isset_width m) ≡ 1
    → HasPart l bs (node + 2) block (bit + isset_width m)
inner_lies {v} {l} {bs = bs} {node = node} {block = block} {bit = bit} h r is =
    let s = h.stands in
    go s.placed.of_kind r s.within s.placed.image_there is h.lies
  where
    go : {m : Layout} {u : Value} → Of m u → IsOptional m → bit + stride m ≤ 8 * length bs
        → Stands (bits_of bs) bit (image m u (h.next - block))
        → field bs bit (isset_width m) ≡ 1
        → PartAt m u (place node block bit h.next) l h.whole (place 0 0 0 (bytes_for (stride l)))
        → HasPart l bs (node + 2) block (bit + isset_width m)
    go (present {w = w} {l = x} {v = y} o) r within it is p =
        let two : suc (suc node) ≡ node + 2 = omega arith in (
          y,
          record {
            are_bytes = h.small;
            whole = h.whole;
            content = h.content;
            lies = (x, _, part_there (part_of_part p (inner_at here)) two refl refl);
          },
        )
    go (absent {w = w} {l = x}) r within it is p =
        let two = subst (λ z. Stands (bits_of bs) bit z) (sym (replicate-append-replicate w
        (stride x) false)) it in
        let flag = stands_left (bits_of bs) (replicate w false) (replicate (stride x) false) bit two in
        let zero_is = zero_stands bs bit w h.small (omega arith) flag in
        absurd (omega (arith, zero_is, is))
    go (items o ri hs) r within it is q = absurd r
    go (bytes o p w) r within it is q = absurd r
    go (one o) r within it is q = absurd r
    go (record_of e o) r within it is q = absurd r
