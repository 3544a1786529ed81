-- What stands there is what the walk gives.
use Rattle.std.proofs.Common.{◌≡◌, ℕ, suc, ◌+◌, ◌-◌, ◌*◌, ◌≤◌, ◌<◌, List, [], ◌++◌, Bool, true, false, cond, length, arith, refl, ap, sym, ◌∙◌, subst, replicate, nat_eq, take, drop, Result, Ok, Option, Some, None, length-take, length-drop}
use Rattle.std.proofs.Math.ListN.{length-replicate}
use Rattle.std.proofs.lemmas.List.{replicate-append-replicate}
use Rattle.std.proofs.lemmas.Bool.{le-leb}
use Rattle.std.proofs.lemmas.Bool.Decides.{nat_tests}
use Rattle.std.proofs.lemmas.Str.{is_utf8-from_IsUtf8}
use Rattle.std.specs.List.{AllByRecursion}
use Rattle.frozen_model.specs.Bits.{bits, bits_of, field}
use Rattle.frozen_model.specs.BitLaws.{IsBytes}
use Rattle.frozen_model.specs.Trees.{LeafKind, ByteKind, Text, Binary, Holder, Struct, Keyed, HasKeys, AllHaveKeys}
use Rattle.frozen_model.specs.Values.{Atom, Value, Values, One, Bytes, Items, Absent, Record, NoValue, And, count, IsOf, IsSpelled, key_of, above, bound, Rises, Of, one, bytes, items, absent, present, record_of, OfEach, none, more, OfAll, no_part, part, inline_cells, range_cells, range_cells_each, range_cells_all, cell_limit}
use Rattle.frozen_model.specs.Layouts.{Version, IsCoded, Coded, Layout, Layouts, OfVersion, AllOfVersion, Legal, AllLegal, Fits, width, stride, strides, meaning, stored, number_of, atom_of, in_range}
use Rattle.frozen_model.specs.Packing.{extent, extents, extent_all, bytes_for, padding, distance, range_bits, image, images, image_all, tail, tails, tail_all, block, Stands}
use Rattle.frozen_laws.specs.Everywhere.{RangeFits, HoldsAt, HoldsEach, HoldsAll}
use Rattle.frozen_model.specs.Walk.{Fault, require, and_then, Walked, walk_each, range_at, bytes_at, items_at, in_order, walk, walk_all, is_spelled}
use Rattle.frozen_model.proofs.Digits.{digits_below}
use Rattle.frozen_model.proofs.Fields.{length-bits, length_bits_of}
use Rattle.frozen_laws.proofs.Numbers.{same_bytes, one_below, stored_fits, stored_back, atom_back, range_back}
use Rattle.frozen_laws.proofs.Unique.{length_image, length_images}
use Rattle.frozen_laws.proofs.Lengths.{length_tail, length_padding}
use Rattle.frozen_laws.proofs.Standing.{stands_left, stands_right, stands_same, stands_inside, bytes_stand, all_bytes, all_take, all_drop, field_is, zero_stands}
use Rattle.frozen_laws.proofs.Reading.{KeyFor, key_for}
use Rattle.frozen_laws.proofs.Sound.{first_key, first_rises, same_first}

pub require_true : {X : Type 0} (b : Bool) (e : Fault) (r s : Result X Fault) → b ≡ true → r ≡ s → require b e r ≡ s
require_true true e r s h k = k
require_true false e r s h k = absurd cc

pub then_ok : {X Y : Type 0} (r : Result X Fault) (x : X) (f : X → Result Y Fault) (s : Result Y Fault) → r ≡ Ok x → f x ≡ s → and_then r f ≡ s
then_ok r x f s e k = ap (λ q. and_then q f) e ∙ k

pub to_eq : (m n : ℕ) → m ≡ n → nat_eq m n ≡ true
to_eq m n h = grind (arith, nat_tests)

cond_true : {X : Type 0} (b : Bool) (x y s : X) → b ≡ true → x ≡ s → cond b x y ≡ s
cond_true true x y s h e = e
cond_true false x y s h e = absurd cc

cond_false : {X : Type 0} (b : Bool) (x y s : X) → b ≡ false → y ≡ s → cond b x y ≡ s
cond_false true x y s h e = absurd cc
cond_false false x y s h e = e

-- what a walk of a value gives
abbrev Given : (V : Type 0) → V → ℕ → ℕ → Walked V
Given V v next cells = Ok (v, next, cells)

same_result : {V : Type 0} (v : V) (a b c d : ℕ) → a ≡ b → c ≡ d → Given V v a c ≡ Given V v b d
same_result v a b c d e f = ap (λ k. Given _ v k c) e ∙ ap (λ k. Given _ v b k) f

in_order_goes : (key : Option Value) (bit : ℕ) (r : Walked Value) (v : Value) (next cells : ℕ) → r ≡ Ok (v, next, cells) → above key v ≡ true → and_then r (in_order key bit) ≡ Ok (v, next, cells)
in_order_goes key bit r v next cells e w = ap (λ q. and_then q (in_order key bit)) e ∙ require_true (above key v) _ _ _ w refl

-- the bytes that stand there
bytes_again : (cs bs : List ℕ) (next : ℕ) → IsBytes cs → AllByRecursion (λ b. b < 256) bs → next ≤ length cs → Stands (bits_of cs) (8 * next) (bits_of bs)
    → (next + length bs ≤ length cs) × (take (length bs) (drop next cs) ≡ bs)
bytes_again cs bs next hc hb h s =
    let n = length bs in
    let room : next + n ≤ length cs = omega (arith, stands_inside (bits_of cs) (bits_of bs) (8 * next) (omega (arith, length_bits_of cs)) s, length_bits_of bs, length_bits_of cs) in
    let part = take n (drop next cs) in
    let long : length part ≡ n = omega (arith, length-take n (drop next cs), length-drop next cs) in
    let same : bits_of part ≡ bits_of bs = stands_same (bits_of cs) (bits_of part) (bits_of bs) (8 * next) (omega (arith, length_bits_of part, length_bits_of bs)) (bytes_stand cs next n room) s in
    (room, (same_bytes part bs [] [] (all_take (λ b. b < 256) n (drop next cs) (all_drop (λ b. b < 256) next cs (all_bytes cs hc))) hb long (ap (λ r. r ++ []) same)).0)

spelled_again : (t : ByteKind) (bs cs : List ℕ) → cs ≡ bs → IsSpelled t bs → is_spelled t cs ≡ true
spelled_again Text bs cs e u = ap (is_spelled Text) e ∙ is_utf8-from_IsUtf8 bs u
spelled_again Binary bs cs e u = refl

-- a range's two numbers
record RangeIs (cs : List ℕ) (d c n at bit : ℕ) : Type 0 where
  found : field cs bit d ≡ distance n at
  many : field cs (bit + d) c ≡ n

range_is : (cs : List ℕ) (d c n at bit : ℕ) → IsBytes cs → bit + (d + c) ≤ 8 * length cs → RangeFits d c n at → Stands (bits_of cs) bit (range_bits d c n at) → RangeIs cs d c n at bit
range_is cs d c n at bit small room f s =
    let s1 = stands_left (bits_of cs) (bits d (distance n at)) (bits c n) bit s in
    let s2 : Stands (bits_of cs) (bit + d) (bits c n) = stands_right (bits_of cs) (bits d (distance n at)) (bits c n) bit d (length-bits d (distance n at)) s in
    record {
      found = field_is cs bit d (distance n at) small (omega arith) (digits_below (distance n at) d f.0) s1;
      many = field_is cs (bit + d) c n small (omega arith) (digits_below n c f.1) s2;
    }

range_goes : {V : Type 0} (cs : List ℕ) (d c n start bit next : ℕ) (go : ℕ → Walked V) (s : Walked V) → RangeIs cs d c n (next - start) bit → go n ≡ s → range_at cs d c start bit next go ≡ s
range_goes cs d c n start bit next go s r e =
    let found = field cs bit d in
    let m = field cs (bit + d) c in
    require_true (nat_eq found (distance m (next - start))) _ (go m) s (to_eq found (distance m (next - start)) (r.found ∙ ap (λ k. distance k (next - start)) (sym r.many))) (ap go r.many ∙ e)

-- the flag or number that stands at a leaf
leaf_again : {n : Version} {k : LeafKind} {c : Coded} (x : Atom) (m : ℕ) → IsCoded n k c → IsOf k x → Fits c (number_of x) → m ≡ stored c (number_of x) → meaning c m ≡ number_of x
leaf_again {c = c} x m i o f e = ap (meaning c) e ∙ stored_back x i o f

-- where the block of the items stands, and its parts
pub record BlockIs (cs : List ℕ) (l : Layout) (vs : Values) (next : ℕ) : Type 0 where
  pub room : next + bytes_for (count vs * stride l) ≤ length cs
  pub zeros : field cs (8 * next + count vs * stride l) (8 * bytes_for (count vs * stride l) - count vs * stride l) ≡ 0
  pub first : Stands (bits_of cs) (8 * next) (images l vs (bytes_for (count vs * stride l)))
  pub rest : Stands (bits_of cs) (8 * (next + bytes_for (count vs * stride l))) (tails l vs)

pub block_is : (cs : List ℕ) {l : Layout} {vs : Values} (next : ℕ) → IsBytes cs → OfEach l vs → next ≤ length cs → Stands (bits_of cs) (8 * next) (block l vs) → BlockIs cs l vs next
block_is cs {l} {vs} next small hs inside s =
    let u = count vs * stride l in
    let b = bits_of cs in
    let is = images l vs (bytes_for u) in
    let more : Stands b (8 * next + u) (padding u ++ tails l vs) = stands_right b is (padding u ++ tails l vs) (8 * next) u (length_images hs (bytes_for u)) s in
    let first = stands_left b is (padding u ++ tails l vs) (8 * next) s in
    let zs : Stands b (8 * next + u) (padding u) = stands_left b (padding u) (tails l vs) (8 * next + u) more in
    let ts : Stands b (8 * next + u + (8 * bytes_for u - u)) (tails l vs) = stands_right b (padding u) (tails l vs) (8 * next + u) (8 * bytes_for u - u) (length_padding u) more in
    let far : 8 * next + u + (8 * bytes_for u - u) ≡ 8 * (next + bytes_for u) = omega arith in
    let r1 : 8 * next + u ≤ length b = omega (arith, stands_inside b is (8 * next) (omega (arith, length_bits_of cs)) first, length_images hs (bytes_for u)) in
    record {
      room = omega (arith, stands_inside b (padding u) (8 * next + u) r1 zs, length_padding u, length_bits_of cs);
      zeros = zero_stands cs (8 * next + u) (8 * bytes_for u - u) small (omega (arith, length_bits_of cs)) zs;
      first = first;
      rest = subst (λ k. Stands b k (tails l vs)) far ts;
    }

module _ (version : Version) (cs : List ℕ) (small : IsBytes cs) where
  mutual
    pub walk_finds : {l : Layout} {u : Value} → Of l u → OfVersion version l → Legal l → HasKeys l → (start : ℕ) (key : Option Value) (bit next cells : ℕ) → KeyFor key l → above key (key_of u) ≡ true → start ≤ next → next ≤ length cs → bit + stride l ≤ 8 * length cs
        → HoldsAt l u (next - start) → Stands (bits_of cs) bit (image l u (next - start)) → Stands (bits_of cs) (8 * next) (tail l u) → cells + range_cells l u ≤ cell_limit
        → walk cs l start key bit next cells ≡ Given Value u (next + extent l u) (cells + range_cells l u)
    walk_finds (one {k = k} {a = c} {x = x} o) coded legal keys start key bit next cells kf up past inside room f i t few =
        let m = field cs bit (width c) in
        let is : m ≡ stored c (number_of x) = field_is cs bit (width c) (stored c (number_of x)) small (omega arith) (stored_fits x coded o f) i in
        let z : meaning c m ≡ number_of x = leaf_again x m coded o f is in
        require_true _ _ _ _ (ap (in_range k) z ∙ range_back k x o)
        (in_order_goes key bit (Ok (One (atom_of k (meaning c m)), next, cells)) (One x) next cells (ap (λ y. Ok (One (atom_of k y), next, cells)) z ∙ ap (λ y. Ok (One y, next, cells)) (atom_back k x o)) up
        ∙ same_result (One x) next (next + 0) cells (cells + 0) (omega arith) (omega arith))
    walk_finds (bytes {t = s} {d = d} {c = c} {bs = bs} o p w) coded legal keys start key bit next cells kf up past inside room f i t few =
        let again = bytes_again cs bs next small p inside t in
        in_order_goes key bit _ (Bytes bs) (next + length bs) (cells + length bs) (range_goes cs d c (length bs) start bit next (bytes_at cs s next cells) _ (range_is cs d c (length bs) (next - start) bit small room f i)
        (require_true _ _ _ _ (le-leb (cells + length bs) cell_limit few)
        (require_true _ _ _ _ (le-leb (next + length bs) (length cs) again.0)
        (require_true _ _ _ _ (spelled_again s bs (take (length bs) (drop next cs)) again.1 w)
        (ap (λ b. Given Value (Bytes b) (next + length bs) (cells + length bs)) again.1))))) up
    walk_finds (items {h = g} {d = d} {c = c} {l = l} {vs = vs} o ri hs) coded legal keys start key bit next cells kf up past inside room f i t few =
        let n = count vs in
        let u = n * stride l in
        let nx = next + bytes_for u in
        let b = block_is cs next small hs inside t in
        let room' : nx ≤ length cs = b.room in
        let back : bytes_for u ≡ nx - next = omega arith in
        let each = walk_each_finds hs coded legal.2 keys.1 g keys.0 next None (8 * next) nx (cells + n * suc (inline_cells l)) ri (omega arith) room' (omega arith)
        (subst (λ k. HoldsEach l vs k) back f.1) (subst (λ k. Stands (bits_of cs) (8 * next) (images l vs k)) back b.first) b.rest (omega arith) in
        range_goes cs d c n start bit next (items_at cs g (walk cs l next) (stride l) (suc (inline_cells l)) next cells) _ (range_is cs d c n (next - start) bit small room f.0 i)
        (require_true _ _ _ _ (le-leb (cells + n * suc (inline_cells l)) cell_limit (omega arith))
        (require_true _ _ _ _ (le-leb nx (length cs) room')
        (require_true _ _ _ _ (to_eq (field cs (8 * next + u) (8 * bytes_for u - u)) 0 b.zeros)
        (then_ok (walk_each g (walk cs l next) (stride l) None n (8 * next) nx (cells + n * suc (inline_cells l))) _ _ _ each (same_result (Items g vs) _ _ _ _ (omega arith) (omega arith))))))
    walk_finds (absent {w = w} {l = l}) coded legal keys start key bit next cells kf up past inside room f i t few =
        let two = subst (λ r. Stands (bits_of cs) bit r) (sym (replicate-append-replicate w (stride l) false)) i in
        let flag = stands_left (bits_of cs) (replicate w false) (replicate (stride l) false) bit two in
        let rest : Stands (bits_of cs) (bit + w) (replicate (stride l) false) = stands_right (bits_of cs) (replicate w false) (replicate (stride l) false) bit w (length-replicate w false) two in
        let is : field cs bit w ≡ 0 = zero_stands cs bit w small (omega arith) flag in
        cond_false _ _ _ _ (ap (λ k. nat_eq k 1) is)
        (require_true _ _ _ _ (to_eq (field cs (bit + w) (stride l)) 0 (zero_stands cs (bit + w) (stride l) small (omega arith) rest)) (same_result Absent next (next + 0) cells (cells + 0) (omega arith) (omega arith)))
    walk_finds (present {w = w} {l = l} {v = v} h) coded legal keys start key bit next cells kf up past inside room f i t few =
        let flag = stands_left (bits_of cs) (bits w 1) (image l v (next - start)) bit i in
        let rest : Stands (bits_of cs) (bit + w) (image l v (next - start)) = stands_right (bits_of cs) (bits w 1) (image l v (next - start)) bit w (length-bits w 1) i in
        let is : field cs bit w ≡ 1 = field_is cs bit w 1 small (omega arith) (one_below w f.0) flag in
        cond_true _ _ _ _ (ap (λ k. nat_eq k 1) is)
        (then_ok (walk cs l start None (bit + w) next cells) _ _ _ (walk_finds h coded legal.1 keys start None (bit + w) next cells tt refl past inside (omega arith) f.1 rest t few) refl)
    walk_finds (record_of {ids = ids} {ls = ls} {vs = vs} e hs) coded legal keys start key bit next cells kf up past inside room f i t few =
        then_ok (walk_all cs ls start key bit next cells) _ _ _ (walk_all_finds hs coded legal keys start key bit next cells kf (same_first key ids [] vs up) past inside room f i t few)
        (ap (λ is. Given Value (Record is vs) (next + extent_all ls vs) (cells + range_cells_all ls vs)) (sym e))

    pub walk_each_finds : {l : Layout} {vs : Values} → OfEach l vs → OfVersion version l → Legal l → HasKeys l → (h : Holder) → Keyed h l → (start : ℕ) (key : Option Value) (bit next cells : ℕ) → Rises h key vs → start ≤ next → next ≤ length cs → bit + count vs * stride l ≤ 8 * length cs
        → HoldsEach l vs (next - start) → Stands (bits_of cs) bit (images l vs (next - start)) → Stands (bits_of cs) (8 * next) (tails l vs) → cells + range_cells_each l vs ≤ cell_limit
        → walk_each h (walk cs l start) (stride l) key (count vs) bit next cells ≡ Given Values vs (next + extents l vs) (cells + range_cells_each l vs)
    walk_each_finds none coded legal keys g o start key bit next cells up past inside room f i t few = same_result NoValue next (next + 0) cells (cells + 0) (omega arith) (omega arith)
    walk_each_finds (more {l = l} {v = v} {vs = vs} h hs) coded legal keys g o start key bit next cells up past inside room f i t few =
        let nx = next + extent l v in
        let shift : next - start + extent l v ≡ nx - start = omega arith in
        let t1 = stands_left (bits_of cs) (tail l v) (tails l vs) (8 * next) t in
        let far : 8 * next + 8 * extent l v ≡ 8 * nx = omega arith in
        let t2 = subst (λ k. Stands (bits_of cs) k (tails l vs)) far (stands_right (bits_of cs) (tail l v) (tails l vs) (8 * next) (8 * extent l v) (length_tail h) t) in
        let i1 = stands_left (bits_of cs) (image l v (next - start)) (images l vs (next - start + extent l v)) bit i in
        let i2 = stands_right (bits_of cs) (image l v (next - start)) (images l vs (next - start + extent l v)) bit (stride l) (length_image h (next - start)) i in
        let end : nx ≤ length cs = omega (arith, stands_inside (bits_of cs) (tail l v) (8 * next) (omega (arith, length_bits_of cs)) t1, length_tail h, length_bits_of cs) in
        let first = walk_finds h coded legal keys start (bound g key) bit next cells (key_for g l o key) up.0 past inside (omega arith) f.0 i1 t1 (omega arith) in
        let rest = walk_each_finds hs coded legal keys g o start (Some (key_of v)) (bit + stride l) nx (cells + range_cells l v) up.1 (omega arith) end (omega arith)
        (subst (λ k. HoldsEach l vs k) shift f.1) (subst (λ k. Stands (bits_of cs) (bit + stride l) (images l vs k)) shift i2) t2 (omega arith) in
        then_ok (walk cs l start (bound g key) bit next cells) _ _ _ first
        (then_ok (walk_each g (walk cs l start) (stride l) (Some (key_of v)) (count vs) (bit + stride l) nx (cells + range_cells l v)) _ _ _ rest (same_result (And v vs) _ _ _ _ (omega arith) (omega arith)))

    pub walk_all_finds : {ls : Layouts} {vs : Values} → OfAll ls vs → AllOfVersion version ls → AllLegal ls → AllHaveKeys ls → (start : ℕ) (key : Option Value) (bit next cells : ℕ) → KeyFor key (Struct ls) → above key (key_of (Record [] vs)) ≡ true → start ≤ next → next ≤ length cs → bit + strides ls ≤ 8 * length cs
        → HoldsAll ls vs (next - start) → Stands (bits_of cs) bit (image_all ls vs (next - start)) → Stands (bits_of cs) (8 * next) (tail_all ls vs) → cells + range_cells_all ls vs ≤ cell_limit
        → walk_all cs ls start key bit next cells ≡ Given Values vs (next + extent_all ls vs) (cells + range_cells_all ls vs)
    walk_all_finds no_part coded legal keys start key bit next cells kf up past inside room f i t few = same_result NoValue next (next + 0) cells (cells + 0) (omega arith) (omega arith)
    walk_all_finds (part {i = id} {l = l} {ls = ls} {v = v} {vs = vs} h hs) coded legal keys start key bit next cells kf up past inside room f i t few =
        let nx = next + extent l v in
        let shift : next - start + extent l v ≡ nx - start = omega arith in
        let t1 = stands_left (bits_of cs) (tail l v) (tail_all ls vs) (8 * next) t in
        let far : 8 * next + 8 * extent l v ≡ 8 * nx = omega arith in
        let t2 = subst (λ k. Stands (bits_of cs) k (tail_all ls vs)) far (stands_right (bits_of cs) (tail l v) (tail_all ls vs) (8 * next) (8 * extent l v) (length_tail h) t) in
        let i1 = stands_left (bits_of cs) (image l v (next - start)) (image_all ls vs (next - start + extent l v)) bit i in
        let i2 = stands_right (bits_of cs) (image l v (next - start)) (image_all ls vs (next - start + extent l v)) bit (stride l) (length_image h (next - start)) i in
        let end : nx ≤ length cs = omega (arith, stands_inside (bits_of cs) (tail l v) (8 * next) (omega (arith, length_bits_of cs)) t1, length_tail h, length_bits_of cs) in
        let first = walk_finds h coded.0 legal.0 keys.0 start key bit next cells (first_key key id l ls kf) ((first_rises key id ls h kf).1 up) past inside (omega arith) f.0 i1 t1 (omega arith) in
        let rest = walk_all_finds hs coded.1 legal.1 keys.1 start None (bit + stride l) nx (cells + range_cells l v) tt refl (omega arith) end (omega arith)
        (subst (λ k. HoldsAll ls vs k) shift f.1) (subst (λ k. Stands (bits_of cs) (bit + stride l) (image_all ls vs k)) shift i2) t2 (omega arith) in
        then_ok (walk cs l start key bit next cells) _ _ _ first
        (then_ok (walk_all cs ls start None (bit + stride l) nx (cells + range_cells l v)) _ _ _ rest (same_result (And v vs) _ _ _ _ (omega arith) (omega arith)))
