-- What the steps of the walk give stands there.
use Rattle.std.proofs.Common.{◌≡◌, ◌≢◌, ℕ, zero, suc, ◌+◌, ◌-◌, ◌*◌, ◌≤◌, ◌<◌, List, [], ◌++◌, Bool, true, false, cond, length, arith, refl, ap, sym, ◌∙◌, subst, take, drop, nat_eq, nat_le, Result, Ok, Err, Option, Some, None, length-take, length-drop}
use Rattle.std.proofs.lemmas.Bool.Decides.{nat_tests}
use Rattle.std.proofs.lemmas.Str.{IsUtf8-from_is_utf8}
use Rattle.frozen_model.specs.Bits.{bits, bits_of, field}
use Rattle.frozen_model.specs.BitLaws.{IsBytes}
use Rattle.frozen_model.specs.Trees.{ByteKind, Text, Binary, Holder, AList, ASet, AMap, ByteRange, IsKey, IsKeyed, Keyed}
use Rattle.frozen_model.specs.Values.{Value, Values, Record, count, key_of, above, bound, Rises, IsSpelled, Of, one, bytes, items, absent, present, record_of, OfEach, none, more, OfAll, range_cells, range_cells_each, range_cells_all, cell_limit}
use Rattle.frozen_model.specs.Layouts.{Layout, Layouts, stride}
use Rattle.frozen_model.specs.Packing.{extent, extents, extent_all, bytes_for, padding, distance, range_bits, image, images, image_all, tail, tails, tail_all, block, Stands}
use Rattle.frozen_laws.specs.Everywhere.{RangeFits, HoldsAt, HoldsEach, HoldsAll}
use Rattle.frozen_model.specs.Walk.{Fault, require, and_then, Walked, walk_each, range_at, bytes_at, in_order, walk, is_spelled}
use Rattle.frozen_model.proofs.Digits.{digits_within}
use Rattle.frozen_model.proofs.Fields.{length-bits, field_fits}
use Rattle.frozen_laws.proofs.Unique.{length_image, length_images}
use Rattle.frozen_laws.proofs.Lengths.{length_tail, length_padding}
use Rattle.frozen_laws.proofs.Standing.{stands_joined, stands_field, bytes_stand, all_bytes, all_take, all_drop}

-- where it is Ok, it has P
pub data WhereOk {X : Type 0} (P : X → Type 0) : Result X Fault → Type 0 where
  is_ok : {x : X} → P x → WhereOk P (Ok x)
  is_err : {e : Fault} → WhereOk P (Err e)

pub require_ok : {X : Type 0} {P : X → Type 0} (b : Bool) (e : Fault) (r : Result X Fault) → (b ≡ true → WhereOk P r) → WhereOk P (require b e r)
require_ok true e r h = h refl
require_ok false e r h = is_err

pub and_then_ok : {X Y : Type 0} {P : X → Type 0} {Q : Y → Type 0} (r : Result X Fault) (f : X → Result Y Fault) → WhereOk P r → ((x : X) → P x → WhereOk Q (f x)) → WhereOk Q (and_then r f)
and_then_ok (Ok x) f (is_ok h) k = k x h
and_then_ok (Err e) f h k = is_err

pub cond_ok : {X : Type 0} {P : X → Type 0} (b : Bool) (x y : Result X Fault) → (b ≡ true → WhereOk P x) → (b ≡ false → WhereOk P y) → WhereOk P (cond b x y)
cond_ok true x y h k = h refl
cond_ok false x y h k = k refl

pub from_eq : (m n : ℕ) → nat_eq m n ≡ true → m ≡ n
from_eq m n h = grind (arith, nat_tests)

pub from_ne : (m n : ℕ) → nat_eq m n ≡ false → m ≢ n
from_ne m n h = grind (arith, nat_tests)

pub from_le : (m n : ℕ) → nat_le m n ≡ true → m ≤ n
from_le m n h = grind (arith, nat_tests)

-- a value that was read, with the next byte and the cells
pub record Reads (cs : List ℕ) (l : Layout) (start : ℕ) (key : Option Value) (bit next cells : ℕ) (x : Value × ℕ × ℕ) : Type 0 where
  pub of_kind : Of l x.0
  pub holds : HoldsAt l x.0 (next - start)
  pub image_there : Stands (bits_of cs) bit (image l x.0 (next - start))
  pub tail_there : Stands (bits_of cs) (8 * next) (tail l x.0)
  pub after : x.1 ≡ next + extent l x.0
  pub inside : x.1 ≤ length cs
  pub grows : x.2 ≡ cells + range_cells l x.0
  pub few : cells ≤ cell_limit → x.2 ≤ cell_limit
  pub rises : above key (key_of x.0) ≡ true

pub record ReadsEach (cs : List ℕ) (h : Holder) (l : Layout) (start : ℕ) (key : Option Value) (bit next cells n : ℕ) (x : Values × ℕ × ℕ) : Type 0 where
  pub of_kind : OfEach l x.0
  pub many : count x.0 ≡ n
  pub holds : HoldsEach l x.0 (next - start)
  pub image_there : Stands (bits_of cs) bit (images l x.0 (next - start))
  pub tail_there : Stands (bits_of cs) (8 * next) (tails l x.0)
  pub after : x.1 ≡ next + extents l x.0
  pub inside : x.1 ≤ length cs
  pub grows : x.2 ≡ cells + range_cells_each l x.0
  pub few : cells ≤ cell_limit → x.2 ≤ cell_limit
  pub rises : Rises h key x.0

pub record ReadsAll (cs : List ℕ) (ls : Layouts) (start : ℕ) (key : Option Value) (bit next cells : ℕ) (x : Values × ℕ × ℕ) : Type 0 where
  pub of_kind : OfAll ls x.0
  pub holds : HoldsAll ls x.0 (next - start)
  pub image_there : Stands (bits_of cs) bit (image_all ls x.0 (next - start))
  pub tail_there : Stands (bits_of cs) (8 * next) (tail_all ls x.0)
  pub after : x.1 ≡ next + extent_all ls x.0
  pub inside : x.1 ≤ length cs
  pub grows : x.2 ≡ cells + range_cells_all ls x.0
  pub few : cells ≤ cell_limit → x.2 ≤ cell_limit
  pub rises : above key (key_of (Record [] x.0)) ≡ true

-- two parts in the bits of bytes, one after another
pub joined : (cs : List ℕ) (bit s : ℕ) (xs ys : List Bool) → length xs ≡ s → Stands (bits_of cs) bit xs → Stands (bits_of cs) (bit + s) ys → Stands (bits_of cs) bit (xs ++ ys)
joined cs bit s xs ys e h k = stands_joined (bits_of cs) xs ys bit s e h k

-- a tree whose values stand after a key
abbrev pub KeyFor : Option Value → Layout → Type 0
KeyFor None l = Unit {0}
KeyFor (Some k) l = IsKeyed l

pub key_for : (h : Holder) (l : Layout) → Keyed h l → (key : Option Value) → KeyFor (bound h key) l
key_for AList l o key = tt
key_for ASet l o None = tt
key_for ASet l o (Some k) = o
key_for AMap l o None = tt
key_for AMap l o (Some k) = o

-- a key is its own key
pub key_is : {l : Layout} {v : Value} → Of l v → IsKey l → key_of v ≡ v
key_is (one o) k = refl
key_is (bytes o p u) k = refl
key_is (items o ri hs) k = absurd k
key_is absent k = absurd k
key_is (present h) k = absurd k
key_is (record_of e hs) k = absurd k

-- after the test of order
pub ordered_reads : (cs : List ℕ) (l : Layout) (start : ℕ) (key : Option Value) (bit next cells : ℕ) → IsKey l → (r : Walked Value) → WhereOk (Reads cs l start None bit next cells) r
    → WhereOk (Reads cs l start key bit next cells) (and_then r (in_order key bit))
ordered_reads cs l start key bit next cells k r g =
    and_then_ok r _ g (λ x px. require_ok (above key x.0) _ _ (λ e.
    is_ok (record { of_kind = px.of_kind; holds = px.holds; image_there = px.image_there; tail_there = px.tail_there; after = px.after; inside = px.inside; grows = px.grows; few = px.few; rises = ap (above key) (key_is px.of_kind k) ∙ e })))

pub each_reads : (cs : List ℕ) (g : Holder) (l : Layout) → Keyed g l → (start : ℕ) (step : Option Value → ℕ → ℕ → ℕ → Walked Value)
    → ((key : Option Value) (bit next cells : ℕ) → KeyFor key l → bit + stride l ≤ 8 * length cs → next ≤ length cs → start ≤ next → WhereOk (Reads cs l start key bit next cells) (step key bit next cells))
    → (key : Option Value) (n bit next cells : ℕ) → bit + n * stride l ≤ 8 * length cs → next ≤ length cs → start ≤ next
    → WhereOk (ReadsEach cs g l start key bit next cells n) (walk_each g step (stride l) key n bit next cells)
each_reads cs g l o start step h key zero bit next cells room inside past = is_ok (record { of_kind = none; many = refl; holds = tt; image_there = tt; tail_there = tt; after = omega arith; inside = inside; grows = omega arith; few = λ h. h; rises = tt })
each_reads cs g l o start step h key (suc n) bit next cells room inside past =
    and_then_ok (step (bound g key) bit next cells) _ (h (bound g key) bit next cells (key_for g l o key) (omega arith) inside past) (λ x px.
    and_then_ok (walk_each g step (stride l) (Some (key_of x.0)) n (bit + stride l) x.1 x.2) _ (each_reads cs g l o start step h (Some (key_of x.0)) n (bit + stride l) x.1 x.2 (omega arith) px.inside (omega (arith, px.after))) (λ y py.
    let shift : x.1 - start ≡ (next - start) + extent l x.0 = omega (arith, px.after) in
    let far : 8 * x.1 ≡ 8 * next + 8 * extent l x.0 = omega (arith, px.after) in
    is_ok (record {
      of_kind = more px.of_kind py.of_kind;
      many = ap suc py.many;
      holds = (px.holds, subst (λ k. HoldsEach l y.0 k) shift py.holds);
      image_there = joined cs bit (stride l) _ _ (length_image px.of_kind (next - start)) px.image_there (subst (λ k. Stands (bits_of cs) (bit + stride l) (images l y.0 k)) shift py.image_there);
      tail_there = joined cs (8 * next) (8 * extent l x.0) _ _ (length_tail px.of_kind) px.tail_there (subst (λ k. Stands (bits_of cs) k (tails l y.0)) far py.tail_there);
      after = omega (arith, px.after, py.after);
      inside = py.inside;
      grows = omega (arith, px.grows, py.grows);
      few = λ h. py.few (px.few h);
      rises = (px.rises, py.rises);
    })))

-- a range's distance and count
pub record RangeThere (cs : List ℕ) (d c n at bit : ℕ) : Type 0 where
  pub fits : RangeFits d c n at
  pub there : Stands (bits_of cs) bit (range_bits d c n at)

pub range_there : (cs : List ℕ) → IsBytes cs → (d c n at bit found : ℕ) → bit + (d + c) ≤ 8 * length cs → field cs bit d ≡ found → field cs (bit + d) c ≡ n → found ≡ distance n at → RangeThere cs d c n at bit
range_there cs small d c n at bit found room ef en e =
    let is : field cs bit d ≡ distance n at = ef ∙ e in
    record {
      fits = (digits_within (distance n at) d (rw (← is) (field_fits cs bit d)), digits_within n c (rw (← en) (field_fits cs (bit + d) c)));
      there = joined cs bit d (bits d (distance n at)) (bits c n) (length-bits d (distance n at))
          (rw (← is) (stands_field cs bit d small (omega arith)))
          (rw (← en) (stands_field cs (bit + d) c small (omega arith)));
    }

spelled : (t : ByteKind) (bs : List ℕ) → is_spelled t bs ≡ true → IsSpelled t bs
spelled Text bs e = IsUtf8-from_is_utf8 bs e
spelled Binary bs e = tt

bytes_read : (cs : List ℕ) → IsBytes cs → (t : ByteKind) (d c start bit next cells : ℕ) → bit + (d + c) ≤ 8 * length cs → next ≤ length cs
    → WhereOk (Reads cs (ByteRange t d c) start None bit next cells) (range_at cs d c start bit next (bytes_at cs t next cells))
bytes_read cs small t d c start bit next cells room inside =
    let found = field cs bit d in
    let n = field cs (bit + d) c in
    let part = take n (drop next cs) in
    require_ok (nat_eq found (distance n (next - start))) _ _ (λ e1.
    require_ok (nat_le (cells + n) cell_limit) _ _ (λ e2.
    require_ok (nat_le (next + n) (length cs)) _ _ (λ e3.
    require_ok (is_spelled t part) _ _ (λ e4.
    let here = range_there cs small d c n (next - start) bit found room refl refl (from_eq found (distance n (next - start)) e1) in
    let most : cells + n ≤ cell_limit = from_le (cells + n) cell_limit e2 in
    let last : next + n ≤ length cs = from_le (next + n) (length cs) e3 in
    let long : length part ≡ n = omega (arith, length-take n (drop next cs), length-drop next cs) in
    is_ok (record {
      of_kind = bytes (omega arith) (all_take (λ b. b < 256) n (drop next cs) (all_drop (λ b. b < 256) next cs (all_bytes cs small))) (spelled t part e4);
      holds = subst (λ k. RangeFits d c k (next - start)) (sym long) here.fits;
      image_there = subst (λ k. Stands (bits_of cs) bit (range_bits d c k (next - start))) (sym long) here.there;
      tail_there = bytes_stand cs next n last;
      after = omega arith;
      inside = last;
      grows = omega arith;
      few = λ h. most;
      rises = refl;
    })))))

pub bytes_reads : (cs : List ℕ) → IsBytes cs → (t : ByteKind) (d c start : ℕ) (key : Option Value) (bit next cells : ℕ) → bit + (d + c) ≤ 8 * length cs → next ≤ length cs
    → WhereOk (Reads cs (ByteRange t d c) start key bit next cells) (walk cs (ByteRange t d c) start key bit next cells)
bytes_reads cs small t d c start key bit next cells room inside = ordered_reads cs (ByteRange t d c) start key bit next cells tt _ (bytes_read cs small t d c start bit next cells room inside)

-- a block that stands there
pub block_there : (cs : List ℕ) {l : Layout} {vs : Values} (next n : ℕ) → OfEach l vs → count vs ≡ n
    → Stands (bits_of cs) (8 * next) (images l vs (bytes_for (n * stride l)))
    → Stands (bits_of cs) (8 * next + n * stride l) (padding (n * stride l))
    → Stands (bits_of cs) (8 * (next + bytes_for (n * stride l))) (tails l vs)
    → Stands (bits_of cs) (8 * next) (block l vs)
block_there cs {l} {vs} next n hs many is zs ts =
    let e : n * stride l ≡ count vs * stride l = ap (λ k. k * stride l) (sym many) in
    let u = count vs * stride l in
    let far : 8 * (next + bytes_for (n * stride l)) ≡ 8 * next + u + (8 * bytes_for u - u) = omega (arith, ap bytes_for e) in
    joined cs (8 * next) u _ _ (length_images hs (bytes_for u)) (rw e at is)
    (joined cs (8 * next + u) (8 * bytes_for u - u) _ _ (length_padding u) (rw e at zs) (rw far at ts))
