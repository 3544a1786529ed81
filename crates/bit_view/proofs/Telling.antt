-- Where a value stands, it is read.
use Rattle.std.proofs.Common.{◌≡◌, ℕ, suc, ◌+◌, ◌-◌, ◌*◌, ◌≤◌, ◌<◌, List, [], ◌∷◌, ◌++◌, false}
use Rattle.std.proofs.Common.{length, arith, refl, ap, sym, ◌∙◌, subst, replicate, nat_eq, take, drop}
use Rattle.std.proofs.Common.{length-take, length-drop, if◌then◌else◌}
use Rattle.std.proofs.lemmas.List.{replicate-append-replicate}
use Rattle.std.specs.List.{AllByRecursion}
use Rattle.frozen_model.specs.Bits.{bits, bits_of, field}
use Rattle.frozen_model.specs.BitLaws.{IsBytes}
use Rattle.frozen_model.specs.Values.{Value, Values, One, Bytes, Items, Absent, Present, Record, NoValue, And}
use Rattle.frozen_model.specs.Values.{count, Of, one, bytes, items, absent, present, record_of, OfEach, none}
use Rattle.frozen_model.specs.Values.{more, OfAll, no_part, part}
use Rattle.frozen_model.specs.Layouts.{Version, Layout, Layouts, OfVersion, AllOfVersion, width, stride}
use Rattle.frozen_model.specs.Layouts.{strides, meaning, stored, number_of, atom_of}
use Rattle.frozen_model.specs.Packing.{extent, bytes_for, distance, range_bits, image, images, image_all}
use Rattle.frozen_model.specs.Packing.{tail}
use Rattle.frozen_model.specs.Packing.{tails, tail_all, Stands}
use Rattle.frozen_laws.specs.Everywhere.{RangeFits, HoldsAt, HoldsEach, HoldsAll}
use Rattle.frozen_model.proofs.Digits.{digits_below}
use Rattle.frozen_model.proofs.Fields.{length-bits, length_bits_of}
use Rattle.frozen_laws.proofs.Numbers.{same_bytes, one_below, stored_fits, stored_back, atom_back}
use Rattle.frozen_laws.proofs.Unique.{length_image}
use Rattle.frozen_laws.proofs.Lengths.{length_tail}
use Rattle.frozen_laws.proofs.Standing.{stands_left, stands_right, stands_same, stands_inside, bytes_stand}
use Rattle.frozen_laws.proofs.Standing.{all_bytes, all_take, all_drop, field_is, zero_stands}
use Rattle.frozen_laws.proofs.Finds.{block_is}
use Rattle.bit_view.specs.InPlace.{read_value, read_fields, read_items}

-- the bytes that stand there
pub bytes_again : (cs bs : List ℕ) (next : ℕ) → IsBytes cs → AllByRecursion (λ b. b < 256) bs
    → next ≤ length cs → Stands (bits_of cs) (8 * next) (bits_of bs)
    → (next + length bs ≤ length cs) × (take (length bs) (drop next cs) ≡ bs)
bytes_again cs bs next hc hb h s =
    let n = length bs in
    let room : next + n ≤ length cs = omega (
      arith,
      stands_inside (bits_of cs) (bits_of bs) (8 * next)
          (omega (arith, length_bits_of cs)) s,
      length_bits_of bs,
      length_bits_of cs,
    ) in
    let part = take n (drop next cs) in
    let long : length part ≡ n = omega (arith, length-take n (drop next cs), length-drop next cs) in
    let same : bits_of part ≡ bits_of bs = stands_same (bits_of cs) (bits_of part) (bits_of bs) (8 * next)
    (omega (arith, length_bits_of part, length_bits_of bs)) (bytes_stand cs next n room) s in (
      room,
      (same_bytes part bs [] [] (all_take (λ b. b < 256) n (drop next cs) (all_drop
          (λ b. b < 256) next cs (all_bytes cs hc))) hb long (ap (λ r. r ++ []) same)).0,
    )

-- a range's two numbers
pub record RangeIs (cs : List ℕ) (d c n at bit : ℕ) : Type 0 where
  pub found : field cs bit d ≡ distance n at
  pub many : field cs (bit + d) c ≡ n

pub range_is : (cs : List ℕ) (d c n at bit : ℕ) → IsBytes cs → bit + (d + c) ≤ 8 * length cs
    → RangeFits d c n at → Stands (bits_of cs) bit (range_bits d c n at) → RangeIs cs d c n at bit
range_is cs d c n at bit small room f s =
    let s1 = stands_left (bits_of cs) (bits d (distance n at)) (bits c n) bit s in
    let s2 : Stands (bits_of cs) (bit + d) (bits c n) = stands_right (bits_of cs) (bits d (distance n at))
    (bits c n) bit d (length-bits d (distance n at)) s in
    record {
      found = field_is cs bit d (distance n at) small (omega arith) (digits_below (distance n at) d f.0) s1;
      many = field_is cs (bit + d) c n small (omega arith) (digits_below n c f.1) s2;
    }

-- the byte where a range's own block begins, where it has any
pub own_is : (start next n : ℕ) → start ≤ next → start + distance (suc n) (next - start) ≡ next
own_is start next n h = omega arith

bytes_from : (cs bs : List ℕ) (start next : ℕ) → start ≤ next → take (length bs) (drop next cs) ≡ bs
    → take (length bs) (drop (start + distance (length bs) (next - start)) cs) ≡ bs
bytes_from cs [] start next h e = refl
bytes_from cs (b ∷ bs) start next h e =
    ap (λ n. take (suc (length bs)) (drop n cs)) (own_is start next (length bs) h) ∙ e

items_from : (at : ℕ → ℕ → Value) (step : ℕ) (vs : Values) (start next : ℕ) → start ≤ next
    → read_items (at next) step (count vs) (8 * next) ≡ vs
    → read_items (at (start + distance (count vs) (next - start))) step (count vs)
    (8 * (start + distance (count vs) (next - start))) ≡ vs
items_from at step NoValue start next h e = refl
items_from at step (And v vs) start next h e =
    ap (λ n. read_items (at n) step (suc (count vs)) (8 * n)) (own_is start next (count vs) h) ∙ e

module _ (version : Version) (cs : List ℕ) (small : IsBytes cs) where
  mutual
    pub told_is : {l : Layout} {u : Value} → Of l u → OfVersion version l → (start bit next : ℕ)
        → start ≤ next → next ≤ length cs → bit + stride l ≤ 8 * length cs
        → HoldsAt l u (next - start) → Stands (bits_of cs) bit (image l u (next - start))
        → Stands (bits_of cs) (8 * next) (tail l u)
        → read_value cs l start bit ≡ u
    told_is (one {k = k} {a = c} {x = x} o) coded start bit next past inside room f i t =
        let is = field_is cs bit (width c) (stored c (number_of x)) small (omega arith)
        (stored_fits x coded o f) i in
        ap (λ z. One (atom_of k z)) (ap (meaning c) is ∙ stored_back x coded o f) ∙ ap One (atom_back k x o)
    told_is (bytes {t = s} {d = d} {c = c} {bs = bs} o p w) coded start bit next past inside room f i t =
        let r = range_is cs d c (length bs) (next - start) bit small room f i in
        let again = bytes_again cs bs next small p inside t in
        ap (λ n. Bytes (take n (drop (start + field cs bit d) cs))) r.many
        ∙ ap (λ n. Bytes (take (length bs) (drop (start + n) cs))) r.found
        ∙ ap Bytes (bytes_from cs bs start next past again.1)
    told_is (items {h = g} {d = d} {c = c} {l = l}
        {vs = vs} o ri hs) coded start bit next past inside room f i t =
        let n = count vs in
        let u = n * stride l in
        let nx = next + bytes_for u in
        let r = range_is cs d c n (next - start) bit small room f.0 i in
        let b = block_is cs next small hs inside t in
        let end : nx ≤ length cs = b.room in
        let back : bytes_for u ≡ nx - next = omega arith in
        let each = told_each_is hs coded next (8 * next) nx (omega arith) end (omega arith)
        (subst (λ k. HoldsEach l vs k) back f.1) (subst (λ k. Stands (bits_of cs) (8 * next)
        (images l vs k)) back b.first) b.rest in
        ap (λ m. Items g (read_items (read_value cs l (start + field cs bit d)) (stride l) m (8 *
        (start + field cs bit d)))) r.many
        ∙ ap (λ m. Items g (read_items (read_value cs l (start + m)) (stride l) n (8 * (start + m)))) r.found
        ∙ ap (Items g) (items_from (read_value cs l) (stride l) vs start next past each)
    told_is (absent {w = w} {l = l}) coded start bit next past inside room f i t =
        let two = subst (λ r. Stands (bits_of cs) bit r) (sym (replicate-append-replicate w
        (stride l) false)) i in
        let flag = stands_left (bits_of cs) (replicate w false) (replicate (stride l) false) bit two in
        let is : field cs bit w ≡ 0 = zero_stands cs bit w small (omega arith) flag in
        ap (λ n. if nat_eq n 1 then Present (read_value cs l start (bit + w)) else Absent) is
    told_is (present {w = w} {l = l} {v = v} h) coded start bit next past inside room f i t =
        let flag = stands_left (bits_of cs) (bits w 1) (image l v (next - start)) bit i in
        let rest : Stands (bits_of cs) (bit + w) (image l v (next - start)) = stands_right (bits_of cs)
        (bits w 1) (image l v (next - start)) bit w (length-bits w 1) i in
        let is : field cs bit w ≡ 1 = field_is cs bit w 1 small (omega arith) (one_below w f.0) flag in
        ap (λ n. if nat_eq n 1 then Present (read_value cs l start (bit + w)) else Absent) is
        ∙ ap Present (told_is h coded start (bit + w) next past inside (omega arith) f.1 rest t)
    told_is (record_of {ids = ids} {ls = ls} {vs = vs} e hs) coded start bit next past inside room f i t =
        ap (λ is. Record is (read_fields cs ls start bit)) (sym e)
        ∙ ap (Record ids) (told_all_is hs coded start bit next past inside room f i t)

    pub told_each_is : {l : Layout} {vs : Values} → OfEach l vs → OfVersion version l → (start bit next : ℕ)
        → start ≤ next → next ≤ length cs → bit + count vs * stride l ≤ 8 * length cs
        → HoldsEach l vs (next - start) → Stands (bits_of cs) bit (images l vs (next - start))
        → Stands (bits_of cs) (8 * next) (tails l vs)
        → read_items (read_value cs l start) (stride l) (count vs) bit ≡ vs
    told_each_is none coded start bit next past inside room f i t = refl
    told_each_is (more {l = l} {v = v} {vs = vs} h hs) coded start bit next past inside room f i t =
        let nx = next + extent l v in
        let shift : next - start + extent l v ≡ nx - start = omega arith in
        let t1 = stands_left (bits_of cs) (tail l v) (tails l vs) (8 * next) t in
        let far : 8 * next + 8 * extent l v ≡ 8 * nx = omega arith in
        let t2 = subst (λ k. Stands (bits_of cs) k (tails l vs)) far (stands_right (bits_of cs) (tail l v)
        (tails l vs) (8 * next) (8 * extent l v) (length_tail h) t) in
        let i1 = stands_left (bits_of cs) (image l v (next - start)) (images l vs
        (next - start + extent l v)) bit i in
        let i2 = stands_right (bits_of cs) (image l v (next - start)) (images l vs
        (next - start + extent l v)) bit (stride l) (length_image h (next - start)) i in
        let end : nx ≤ length cs = omega (
          arith,
          stands_inside (bits_of cs) (tail l v) (8 * next) (omega
              (arith, length_bits_of cs)) t1,
          length_tail h,
          length_bits_of cs,
        ) in
        let first = told_is h coded start bit next past inside (omega arith) f.0 i1 t1 in
        let rest = told_each_is hs coded start (bit + stride l) nx (omega arith) end (omega arith)
        (subst (λ k. HoldsEach l vs k) shift f.1) (subst (λ k. Stands (bits_of cs) (bit + stride l)
        (images l vs k)) shift i2) t2 in
        ap (λ x. And x (read_items (read_value cs l start) (stride l) (count vs) (bit + stride l))) first
        ∙ ap (And v) rest

    pub told_all_is : {ls : Layouts} {vs : Values} → OfAll ls vs → AllOfVersion version ls
        → (start bit next : ℕ)
        → start ≤ next → next ≤ length cs → bit + strides ls ≤ 8 * length cs
        → HoldsAll ls vs (next - start) → Stands (bits_of cs) bit (image_all ls vs (next - start))
        → Stands (bits_of cs) (8 * next) (tail_all ls vs)
        → read_fields cs ls start bit ≡ vs
    told_all_is no_part coded start bit next past inside room f i t = refl
    told_all_is (part {i = id} {l = l} {ls = ls} {v = v}
        {vs = vs} h hs) coded start bit next past inside room f i t =
        let nx = next + extent l v in
        let shift : next - start + extent l v ≡ nx - start = omega arith in
        let t1 = stands_left (bits_of cs) (tail l v) (tail_all ls vs) (8 * next) t in
        let far : 8 * next + 8 * extent l v ≡ 8 * nx = omega arith in
        let t2 = subst (λ k. Stands (bits_of cs) k (tail_all ls vs)) far (stands_right (bits_of cs)
        (tail l v) (tail_all ls vs) (8 * next) (8 * extent l v) (length_tail h) t) in
        let i1 = stands_left (bits_of cs) (image l v (next - start)) (image_all ls vs
        (next - start + extent l v)) bit i in
        let i2 = stands_right (bits_of cs) (image l v (next - start)) (image_all ls vs
        (next - start + extent l v)) bit (stride l) (length_image h (next - start)) i in
        let end : nx ≤ length cs = omega (
          arith,
          stands_inside (bits_of cs) (tail l v) (8 * next) (omega
              (arith, length_bits_of cs)) t1,
          length_tail h,
          length_bits_of cs,
        ) in
        let first = told_is h coded.0 start bit next past inside (omega arith) f.0 i1 t1 in
        let rest = told_all_is hs coded.1 start (bit + stride l) nx (omega arith) end (omega arith)
        (subst (λ k. HoldsAll ls vs k) shift f.1) (subst (λ k. Stands (bits_of cs) (bit + stride l)
        (image_all ls vs k)) shift i2) t2 in
        ap (λ x. And x (read_fields cs ls start (bit + stride l))) first ∙ ap (And v) rest
