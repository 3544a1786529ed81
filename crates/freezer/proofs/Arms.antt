-- What each form of a value comes to.
use Rattle.std.proofs.Common.{◌≡◌, ℕ, suc, ◌+◌, ◌-◌, ◌*◌, ◌/◌, ◌%◌, ◌^◌, ◌≤◌, ◌<◌, List, [], ◌++◌, Bool}
use Rattle.std.proofs.Common.{true, false, cond, length, ℤ, arith, refl, ap, sym, ◌∙◌, subst, replicate}
use Rattle.std.proofs.lemmas.List.{append-nil}
use Rattle.frozen_model.specs.Bits.{bits, bits_of, digits}
use Rattle.frozen_model.specs.Trees.{LeafKind, Flag, Integer, ByteKind, Holder, Leaf, ByteRange, ItemRange}
use Rattle.frozen_model.specs.Trees.{Optional, Struct}
use Rattle.frozen_model.specs.Values.{Atom, Truth, Number, Value, Values, One, Bytes, Absent, Present}
use Rattle.frozen_model.specs.Values.{count, Of, one, OfEach}
use Rattle.frozen_model.specs.Layouts.{Version, Coded, Unsigned, Layout, Fits, stored, number_of, width}
use Rattle.frozen_model.specs.Layouts.{stride}
use Rattle.frozen_model.specs.Packing.{extent, extents, bytes_for, distance, range_bits, image, images, tail}
use Rattle.frozen_model.specs.Packing.{tails}
use Rattle.frozen_laws.specs.Everywhere.{HoldsAt, HoldsEach, RangeFits}
use Rattle.block_region.specs.Space.{Space, Span, written, overwritten}
use Rattle.block_region.proofs.Overwrites.{length-overwritten}
use Rattle.frozen_model.proofs.Fields.{length-bits, bits-add, bits-mod}
use Rattle.frozen_model.proofs.Digits.{digits_below}
use Rattle.std.proofs.lemmas.Nat.{mod_low, shr_high, pow-add}
use Rattle.std.proofs.Math.Pow.{pow_mono}
use Rattle.std.proofs.Math.Nat.{mul-le-mul_right}
use Rattle.frozen_laws.proofs.Unique.{length_range_bits}
use Rattle.frozen_model.proofs.Fields.{length_bits_of}
use Rattle.layout_tree.specs.Listing.{Noted, layout_in}
use Rattle.layout_tree.specs.Reading.{IsRange, IsHolder, distance_width, count_width, isset_width}
use Rattle.layout_tree.specs.Reading.{item_of}
use Rattle.value_bounds.proofs.Forms.{BytesAt, ItemsAt, absent_at, PresentAt}
use Rattle.freezer.specs.Writing.{Writes, Ready, Wrote, EachReady, EachWrote}
use Rattle.freezer.specs.Leaves.{StoresAt}
use mir.Val.{bool_byte}
use Rattle.freezer.proofs.Runs.{writes_zeros, writes_joined, writes_range}
use Rattle.freezer.proofs.Puts.{put, put_writes, copy_in_block}
use Rattle.typed_tree.proofs.Forms.{AreItems}

-- ---- leaves

pub number_at : (l : Layout) (z : ℤ) (at : ℕ) → Of l (One (Number z)) → HoldsAt l (One (Number z)) at
    → StoresAt l z
number_at (Leaf (Integer k) c) z at o h = record { kind = k; code = c; is = refl; fits = h }
number_at (Leaf Flag c) z at (one o) h = absurd o
number_at (ByteRange t d c) z at o h = elim o [ ]
number_at (ItemRange g d c l) z at o h = elim o [ ]
number_at (Optional w l) z at o h = elim o [ ]
number_at (Struct ls) z at o h = elim o [ ]

-- what a flag is stored as
pub flag_number : Bool → ℕ
flag_number b = cond b 1 0

pub record FlagAt (l : Layout) (b : Bool) : Type 0 where
  pub code : Coded
  pub is : l ≡ Leaf Flag code
  pub fits : Fits code (number_of (Truth b))
  pub stores : stored code (number_of (Truth b)) ≡ cond b 1 0

flag_stored : (w : ℕ) (b : Bool) → stored (Unsigned w) (number_of (Truth b)) ≡ cond b 1 0
flag_stored w true = refl
flag_stored w false = refl

pub flag_at : (v : Version) (s : Noted) (b : Bool) (at : ℕ) → Of (layout_in v s) (One (Truth b))
    → HoldsAt (layout_in v s) (One (Truth b)) at → FlagAt (layout_in v s) b
flag_at v (Leaf Flag c) b at o h = record {
  code = Unsigned c.bits;
  is = refl;
  fits = h;
  stores = flag_stored c.bits b;
}
flag_at v (Leaf (Integer k) c) b at (one o) h = absurd o
flag_at v (ByteRange t d c) b at o h = elim o [ ]
flag_at v (ItemRange g d c l) b at o h = elim o [ ]
flag_at v (Optional w l) b at o h = elim o [ ]
flag_at v (Struct ls) b at o h = elim o [ ]

leaf_wrote : (k : LeafKind) (c : Coded) (x : Atom) (n : ℕ) (old new : Space) (b : Span) (bit : ℕ) → n
    ≡ stored c (number_of x) → new.taken ≡ old.taken → length new.bytes ≡ length old.bytes
    → bits_of new.bytes ≡ put (bits_of old.bytes) (8 * b.start + bit) (width c) (bits (width c) n)
    → Wrote (Leaf k c) (One x) old new b bit
leaf_wrote k c x n old new b bit e t l w = record {
  taken = omega arith;
  length = l;
  written = put_writes (bits_of old.bytes) (bits_of new.bytes) (bits (width c) (stored c (number_of x)))
      (8 * b.start + bit) (width c) (8 * old.taken) (length-bits (width c) (stored c (number_of x)))
      (w ∙ ap (λ m. put (bits_of old.bytes) (8 * b.start + bit) (width c) (bits (width c) m)) e);
}

-- a leaf, once its number is put
pub wrote_leaf : (l : Layout) (u : Value) (k : LeafKind) (c : Coded) (x : Atom) (w n : ℕ) (old new : Space)
    (b : Span) (bit : ℕ) → l ≡ Leaf k c → u ≡ One x → w ≡ stride l → n ≡ stored c (number_of x)
    → new.taken ≡ old.taken → length new.bytes ≡ length old.bytes → bits_of new.bytes
    ≡ put (bits_of old.bytes) (8 * b.start + bit) w (bits w n) → Wrote l u old new b bit
wrote_leaf l u k c x w n old new b bit el eu ew en t ln h =
    let wide : w ≡ width c = ew ∙ ap stride el in
    subst (λ m. Wrote m u old new b bit) (sym el) (subst (λ y. Wrote (Leaf k c) y old new b bit) (sym eu)
    (leaf_wrote k c x n old new b bit en t ln
    (subst (λ z. bits_of new.bytes ≡ put (bits_of old.bytes) (8 * b.start + bit) z (bits z n)) wide h)))

-- ---- optionals

pub wrote_absent : (l : Layout) (u : Value) (old : Space) (b : Span) (bit : ℕ) → Of l u → u ≡ Absent
    → Wrote l u old old b bit
wrote_absent l u old b bit o e =
    let k = absent_at l u e o in
    subst (λ (z : Layout). Wrote z u old old b bit) (sym k.is)
    (subst (λ y. Wrote (Optional k.width k.inner) y old old b bit) (sym e)
    (record {
      taken = omega arith;
      length = refl;
      written = writes_zeros (bits_of old.bytes) (8 * b.start + bit) (k.width + stride k.inner)
          (8 * old.taken);
    }))

-- the inner layout of a present optional holds its value
present_holds : (l : Layout) (u x : Value) (at : ℕ) (p : PresentAt l x) → u ≡ Present x → HoldsAt l u at
    → HoldsAt p.inner x at
present_holds l u x at p e h =
    (subst (λ y. HoldsAt (Optional p.width p.inner) y at) e (subst (λ (z : Layout). HoldsAt z u at) p.is h)).1

pub wrote_present : (l : Layout) (u x : Value) (w : ℕ) (m : Layout) (old mid new : Space) (b : Span) (bit : ℕ)
    → l ≡ Optional w m → u ≡ Present x
    → mid.taken ≡ old.taken → length mid.bytes ≡ length old.bytes → bits_of mid.bytes
    ≡ put (bits_of old.bytes) (8 * b.start + bit) w (bits w 1)
    → Wrote m x mid new b (bit + w) → Wrote l u old new b bit
wrote_present l u x w m old mid new b bit el eu t ln h r =
    let first = put_writes (bits_of old.bytes) (bits_of mid.bytes) (bits w 1) (8 * b.start + bit) w
    (8 * old.taken) (length-bits w 1) h in
    let p : 8 * b.start + (bit + w) ≡ 8 * b.start + bit + w = omega arith in
    let at : mid.taken - b.start ≡ old.taken - b.start = ap (λ n. n - b.start) t in
    let q : 8 * mid.taken ≡ 8 * old.taken + 0 = omega arith in
    let z : 0 + 8 * extent m x ≡ 8 * extent m x = omega arith in
    let second = subst (λ n. Writes (bits_of mid.bytes) (bits_of new.bytes) n (stride m)
    (image m x (old.taken - b.start)) (8 * old.taken + 0) (8 * extent m x) (tail m x)) p
    (subst (λ n. Writes (bits_of mid.bytes) (bits_of new.bytes) (8 * b.start + (bit + w)) (stride m)
    (image m x (old.taken - b.start)) n (8 * extent m x) (tail m x)) q
    (subst (λ n. Writes (bits_of mid.bytes) (bits_of new.bytes) (8 * b.start + (bit + w)) (stride m)
    (image m x n) (8 * mid.taken) (8 * extent m x) (tail m x)) at r.written)) in
    let both = writes_joined (bits_of old.bytes) (bits_of mid.bytes) (bits_of new.bytes) (8 * b.start + bit) w
    (stride m) (8 * old.taken) 0 (8 * extent m x) (bits w 1) (image m x (old.taken - b.start)) []
    (tail m x)
    (length-bits w 1) refl first second in
    subst (λ k. Wrote k u old new b bit) (sym el) (subst (λ y. Wrote (Optional w m) y old new b bit) (sym eu)
    (record {
      taken = omega (arith, r.taken, t);
      length = r.length ∙ ln;
      written = subst (λ n. Writes (bits_of old.bytes) (bits_of new.bytes) (8 * b.start + bit) (w + stride m)
          (bits w 1 ++ image m x (old.taken - b.start)) (8 * old.taken) n (tail m x)) z both;
    }))

-- ---- lists, sets and maps

items_hold : (l : Layout) (u : Value) (vs : Values) (at : ℕ) (k : ItemsAt l vs) → AreItems u vs
    → HoldsAt l u at → RangeFits k.d k.c (count vs) at × HoldsEach k.item vs (bytes_for (count vs * stride k.item))
items_hold l u vs at k e h =
    subst (λ y. HoldsAt (ItemRange k.h k.d k.c k.item) y at) e.is
    (subst (λ (z : Layout). HoldsAt z u at) k.is h)

-- the block of the items is taken, the distance and count are written, and then the items
pub wrote_items : (u : Value) (vs : Values) (g : Holder) (d c : ℕ) (m : Layout) (old mid new : Space)
    (b inner : Span) (bit : ℕ) → OfEach m vs → AreItems u vs
    → b.start ≤ old.taken → inner.start ≡ old.taken → inner.len ≡ bytes_for (count vs * stride m)
    → mid.taken ≡ old.taken + bytes_for (count vs * stride m) → length mid.bytes ≡ length old.bytes
    → ((q : ℕ) → Writes (bits_of old.bytes) (bits_of mid.bytes) (8 * b.start + bit) (d + c)
    (range_bits d c (count vs) (inner.start - b.start)) q 0 [])
    → EachWrote m vs mid new inner 0 → Wrote (ItemRange g d c m) u old new b bit
wrote_items u vs g d c m old mid new b inner bit o eu low si li t ln f r =
    let blk = bytes_for (count vs * stride m) in
    let n = old.taken - b.start in
    let at1 : inner.start - b.start ≡ n = ap (λ z. z - b.start) si in
    let at2 : mid.taken - inner.start ≡ blk = omega (arith, t, si) in
    let p2 : 8 * inner.start + 0 ≡ 8 * old.taken = omega (arith, si) in
    let q2 : 8 * mid.taken ≡ 8 * old.taken + 8 * blk = omega (arith, t) in
    let first = subst (λ z. Writes (bits_of old.bytes) (bits_of mid.bytes) (8 * b.start + bit) (d + c)
    (range_bits d c (count vs) z) (8 * old.taken) 0 []) at1 (f (8 * old.taken)) in
    let second = subst (λ z. Writes (bits_of mid.bytes) (bits_of new.bytes) z (count vs * stride m)
    (images m vs blk) (8 * old.taken + 8 * blk) (8 * extents m vs) (tails m vs)) p2
    (subst (λ z. Writes (bits_of mid.bytes) (bits_of new.bytes) (8 * inner.start + 0) (count vs * stride m)
    (images m vs blk) z (8 * extents m vs) (tails m vs)) q2
    (subst (λ z. Writes (bits_of mid.bytes) (bits_of new.bytes) (8 * inner.start + 0) (count vs * stride m)
    (images m vs z) (8 * mid.taken) (8 * extents m vs) (tails m vs)) at2 r.written)) in
    let all = writes_range (bits_of old.bytes) (bits_of mid.bytes) (bits_of new.bytes) (8 * b.start + bit)
    (d + c) (8 * old.taken) (count vs * stride m) (8 * blk - count vs * stride m) (8 * extents m vs)
    (8 * blk)
    (range_bits d c (count vs) n) (images m vs blk) (tails m vs) (length_range_bits d c (count vs) n)
    (omega arith) first second in
    let z : 8 * blk + 8 * extents m vs ≡ 8 * (blk + extents m vs) = omega arith in
    subst (λ y. Wrote (ItemRange g d c m) y old new b bit) (sym eu.is)
    (record {
      taken = omega (arith, r.taken, t);
      length = r.length ∙ ln;
      written = subst (λ k. Writes (bits_of old.bytes) (bits_of new.bytes) (8 * b.start + bit) (d + c)
          (range_bits d c (count vs) n) (8 * old.taken) k
          (images m vs blk ++ (replicate (8 * blk - count vs * stride m) false ++ tails m vs))) z all;
    })

-- ---- a range's distance and count

pub range_stride : (l : Layout) → IsRange l → stride l ≡ distance_width l + count_width l
range_stride (Leaf k c) h = absurd h
range_stride (ByteRange t d c) h = refl
range_stride (ItemRange g d c l) h = refl
range_stride (Optional w l) h = absurd h
range_stride (Struct ls) h = absurd h

-- the distance and the count in one number
pub record Both (d c x n : ℕ) : Type 0 where
  pub fits : x + n * 2 ^ d % 2 ^ 64 < 2 ^ (d + c)
  pub room : x + n * 2 ^ d % 2 ^ 64 < 2 ^ 64
  pub bits : bits (d + c) (x + n * 2 ^ d % 2 ^ 64) ≡ bits d x ++ bits c n

pub both_in_one : (d c x n : ℕ) → d ≤ 32 → c ≤ 32 → digits x ≤ d → digits n ≤ c → Both d c x n
both_in_one d c x n hd hc hx hn =
    let bx : x < 2 ^ d = digits_below x d hx in
    let bn : n < 2 ^ c = digits_below n c hn in
    let step : suc n ≤ 2 ^ c = omega arith in
    let le : suc n * 2 ^ d ≤ 2 ^ c * 2 ^ d = mul-le-mul_right (2 ^ d) step in
    let turn : d + c ≡ c + d = omega arith in
    let pw : 2 ^ (d + c) ≡ 2 ^ c * 2 ^ d = ap (λ k. 2 ^ k) turn ∙ pow-add 2 c d in
    let least : n * 2 ^ d + x < 2 ^ (d + c) = omega (arith, le, pw, bx) in
    let few : d + c ≤ 64 = omega arith in
    let all : 2 ^ (d + c) ≤ 2 ^ 64 = pow_mono few in
    let low : n * 2 ^ d < 2 ^ 64 = omega (arith, least, all) in
    let same : x + n * 2 ^ d % 2 ^ 64 ≡ n * 2 ^ d + x = omega (arith, low) in
    record {
      fits = omega (arith, same, least);
      room = omega (arith, same, least, all);
      bits = ap (bits (d + c)) same ∙ bits-add d c (n * 2 ^ d + x)
          ∙ ap (λ r. r ++ bits c ((n * 2 ^ d + x) / 2 ^ d))
          (sym (bits-mod d (n * 2 ^ d + x)) ∙ ap (bits d) (mod_low n d x bx))
          ∙ ap (λ k. bits d x ++ bits c k) (shr_high n d x bx);
    }

pub range_written : (b0 b1 : List Bool) (p w d c x y n at q : ℕ) → w ≡ d + c → x ≡ distance n at
    → bits (d + c) y ≡ bits d x ++ bits c n
    → b1 ≡ put b0 p (d + c) (bits (d + c) y) → Writes b0 b1 p w (range_bits d c n at) q 0 []
range_written b0 b1 p w d c x y n at q ew ex h k =
    let is : bits (d + c) y ≡ range_bits d c n at = h ∙ ap (λ z. bits d z ++ bits c n) ex in
    subst (λ z. Writes b0 b1 p z (range_bits d c n at) q 0 []) (sym ew)
    (put_writes b0 b1 (range_bits d c n at) p (d + c) q (length_range_bits d c n at)
    (k ∙ ap (put b0 p (d + c)) is))

-- ---- texts and bytes

pub wrote_bytes : (u : Value) (bs : List ℕ) (g : ByteKind) (d c : ℕ) (old mid new : Space) (b inner : Span)
    (bit : ℕ) → u ≡ Bytes bs
    → inner.start ≡ old.taken → mid.taken ≡ old.taken + length bs → new.taken ≡ mid.taken → length mid.bytes
    ≡ length old.bytes → length new.bytes ≡ length mid.bytes
    → ((q : ℕ) → Writes (bits_of old.bytes) (bits_of mid.bytes) (8 * b.start + bit) (d + c)
    (range_bits d c (length bs) (inner.start - b.start)) q 0 [])
    → bits_of new.bytes ≡ put (bits_of mid.bytes) (8 * inner.start) (8 * length bs) (bits_of bs)
    → Wrote (ByteRange g d c) u old new b bit
wrote_bytes u bs g d c old mid new b inner bit eu si t t2 ln ln2 f h =
    let n = old.taken - b.start in
    let k = 8 * length bs in
    let at1 : inner.start - b.start ≡ n = ap (λ z. z - b.start) si in
    let first = subst (λ z. Writes (bits_of old.bytes) (bits_of mid.bytes) (8 * b.start + bit) (d + c)
    (range_bits d c (length bs) z) (8 * old.taken) 0 []) at1 (f (8 * old.taken)) in
    let p2 : 8 * inner.start ≡ 8 * old.taken = omega (arith, si) in
    let second = subst (λ z. Writes (bits_of mid.bytes) (bits_of new.bytes) z k (bits_of bs)
    (8 * old.taken + k) 0 []) p2
    (put_writes (bits_of mid.bytes) (bits_of new.bytes) (bits_of bs) (8 * inner.start) k (8 * old.taken + k)
    (length_bits_of bs) h) in
    let all = writes_range (bits_of old.bytes) (bits_of mid.bytes) (bits_of new.bytes) (8 * b.start + bit)
    (d + c) (8 * old.taken) k 0 0 k
    (range_bits d c (length bs) n) (bits_of bs) [] (length_range_bits d c (length bs) n) (omega arith) first
    second in
    let z : k + 0 ≡ k = omega arith in
    subst (λ y. Wrote (ByteRange g d c) y old new b bit) (sym eu)
    (record {
      taken = omega (arith, t, t2);
      length = ln2 ∙ ln;
      written = subst (λ m. Writes (bits_of old.bytes) (bits_of new.bytes) (8 * b.start + bit) (d + c)
          (range_bits d c (length bs) n) (8 * old.taken) m (bits_of bs)) z
          (subst (λ ts. Writes (bits_of old.bytes) (bits_of new.bytes) (8 * b.start + bit) (d + c)
          (range_bits d c (length bs) n) (8 * old.taken) (k + 0) ts) (append-nil (bits_of bs)) all);
    })

-- ---- the ranges, as the code takes and writes them

abbrev pub block_at : ℕ → ℕ → Span
block_at start len = record { start = start; len = len }

abbrev pub took : Space → Span → Space
took s b = record { bytes = s.bytes; taken = b.start + b.len }

-- what writing a range's distance and count does
abbrev pub RangeWrote : Layout → ℕ → Space → Space → Span → Span → ℕ → Type 0
RangeWrote l n tk mid b inner bit = (q : ℕ)
    → Writes (bits_of tk.bytes) (bits_of mid.bytes) (8 * b.start + bit) (stride l)
    (range_bits (distance_width l) (count_width l) n (inner.start - b.start)) q 0 []

pub bytes_extent : (l : Layout) (u : Value) (bs : List ℕ) → BytesAt l bs → u ≡ Bytes bs
    → extent l u ≡ length bs
bytes_extent l u bs k e = ap (λ z. extent z u) k.is ∙ ap (extent (ByteRange k.t k.d k.c)) e

pub bytes_done : (l : Layout) (u : Value) (bs : List ℕ) (k : BytesAt l bs)
    (old tk mid new : Space) (b inner : Span) (bit : ℕ) → u ≡ Bytes bs → inner
    ≡ block_at old.taken (length bs) → tk ≡ took old inner
    → mid.taken ≡ tk.taken → length mid.bytes ≡ length tk.bytes → RangeWrote l (length bs) tk mid b inner bit
    → old.taken + length bs ≤ length old.bytes → new ≡ written mid inner bs → Wrote l u old new b bit
bytes_done l u bs k old tk mid new b inner bit eu ei et t ln f room en =
    let si : inner.start ≡ old.taken = ap (λ z. z.start) ei in
    let li : inner.len ≡ length bs = ap (λ z. z.len) ei in
    let same : tk.bytes ≡ old.bytes = ap (λ z. z.bytes) et in
    let long : length mid.bytes ≡ length old.bytes = ln ∙ ap length same in
    let inside : inner.start + length bs ≤ length mid.bytes = omega (arith, si, long, room) in
    let g = subst (λ (z : Layout). RangeWrote z (length bs) tk mid b inner bit) k.is f in
    let h = subst (λ (bytes : List ℕ). (q : ℕ)
    → Writes (bits_of bytes) (bits_of mid.bytes) (8 * b.start + bit) (k.d + k.c)
    (range_bits k.d k.c (length bs) (inner.start - b.start)) q 0 []) same g in
    let nb : new.bytes ≡ overwritten mid.bytes inner.start bs = ap (λ z. z.bytes) en in
    subst (λ (z : Layout). Wrote z u old new b bit) (sym k.is)
    (wrote_bytes u bs k.t k.d k.c old mid new b inner bit eu si
    (t ∙ ap (λ z. z.taken) et ∙ omega (arith, si, li)) (ap (λ z. z.taken) en) long
    (ap length nb ∙ length-overwritten mid.bytes bs inner.start inside) h
    (ap bits_of nb ∙ copy_in_block mid.bytes bs inner.start inside))

pub items_extent : (l : Layout) (u : Value) (vs : Values) → ItemsAt l vs → AreItems u vs
    → extent l u ≡ bytes_for (count vs * stride (item_of l)) + extents (item_of l) vs
items_extent l u vs k e = ap (λ z. extent z u) k.is ∙ ap (extent (ItemRange k.h k.d k.c k.item)) e.is
    ∙ sym (ap (λ z. bytes_for (count vs * stride (item_of z)) + extents (item_of z) vs) k.is)

pub items_range : (l : Layout) (u : Value) (vs : Values) (at : ℕ) → ItemsAt l vs → AreItems u vs
    → HoldsAt l u at → IsRange l × IsHolder l × RangeFits (distance_width l) (count_width l) (count vs) at
items_range l u vs at k e h = subst (λ (z : Layout). IsRange z × IsHolder z
    × RangeFits (distance_width z) (count_width z) (count vs) at) (sym k.is)
    (tt, tt, (items_hold l u vs at k e h).0)

pub items_ready : (l : Layout) (u : Value) (vs : Values) (at blk : ℕ) (k : ItemsAt l vs)
    (old tk mid : Space) (inner : Span) → AreItems u vs → HoldsAt l u at
    → blk ≡ bytes_for (count vs * stride (item_of l))
    → inner ≡ block_at old.taken blk → tk ≡ took old inner
    → mid.taken ≡ tk.taken → length mid.bytes ≡ length tk.bytes → old.taken + extent l u ≤ length old.bytes
    → EachReady (item_of l) vs mid inner
items_ready l u vs at blk k old tk mid inner eu h eb ei et t ln room =
    let si : inner.start ≡ old.taken = ap (λ z. z.start) ei in
    let li : inner.len ≡ blk = ap (λ z. z.len) ei in
    let tt2 : tk.taken ≡ inner.start + inner.len = ap (λ z. z.taken) et in
    let same : length tk.bytes ≡ length old.bytes = ap (λ z. length z.bytes) et in
    let far : bytes_for (count vs * stride (item_of l))
    ≡ mid.taken - inner.start = omega (arith, t, tt2, li, eb) in
    let holds0 : HoldsEach (item_of l) vs (bytes_for (count vs * stride (item_of l))) = subst
    (λ (z : Layout). HoldsEach (item_of z) vs (bytes_for (count vs * stride (item_of z)))) (sym k.is)
    (items_hold l u vs at k eu h).1 in
    record {
      form = subst (λ (z : Layout). OfEach (item_of z) vs) (sym k.is) k.form;
      holds = subst (λ z. HoldsEach (item_of l) vs z) far holds0;
      room = omega (arith, room, items_extent l u vs k eu, t, tt2, si, li, eb, ln, same);
      taken = omega (arith, t, tt2);
      inside = omega (arith, li, eb);
      few = k.few;
    }

pub items_done : (l : Layout) (u : Value) (vs : Values) (blk : ℕ) (k : ItemsAt l vs)
    (old tk mid new : Space) (b inner : Span) (bit : ℕ) → AreItems u vs → blk
    ≡ bytes_for (count vs * stride (item_of l)) → inner ≡ block_at old.taken blk → tk ≡ took old inner
    → mid.taken ≡ tk.taken → length mid.bytes ≡ length tk.bytes → b.start ≤ old.taken
    → RangeWrote l (count vs) tk mid b inner bit → EachWrote (item_of l) vs mid new inner 0
    → Wrote l u old new b bit
items_done l u vs blk k old tk mid new b inner bit eu eb ei et t ln low f r =
    let si : inner.start ≡ old.taken = ap (λ z. z.start) ei in
    let same : tk.bytes ≡ old.bytes = ap (λ z. z.bytes) et in
    let item : item_of l ≡ k.item = ap item_of k.is in
    let size : bytes_for (count vs * stride (item_of l))
    ≡ bytes_for (count vs * stride k.item) = ap (λ z. bytes_for (count vs * stride z)) item in
    let li : inner.len ≡ bytes_for (count vs * stride k.item) = ap (λ z. z.len) ei ∙ eb ∙ size in
    let g = subst (λ (z : Layout). RangeWrote z (count vs) tk mid b inner bit) k.is f in
    let h = subst (λ (bytes : List ℕ). (q : ℕ)
    → Writes (bits_of bytes) (bits_of mid.bytes) (8 * b.start + bit) (k.d + k.c)
    (range_bits k.d k.c (count vs) (inner.start - b.start)) q 0 []) same g in
    let tk_is : tk.taken ≡ inner.start + inner.len = ap (λ z. z.taken) et in
    subst (λ (z : Layout). Wrote z u old new b bit) (sym k.is)
    (wrote_items u vs k.h k.d k.c k.item old mid new b inner bit k.form eu low si li
    (t ∙ tk_is ∙ omega (arith, si, li)) (ln ∙ ap length same) h
    (subst (λ (z : Layout). EachWrote z vs mid new inner 0) item r))

-- ---- forms of values

pub byte_is : (b : Bool) → bool_byte b ≡ cond b 1 0
byte_is true = refl
byte_is false = refl

pub present_width : (l : Layout) (x : Value) (w : ℕ) (p : PresentAt l x) → w ≡ isset_width l → w ≡ p.width
present_width l x w p e = e ∙ ap isset_width p.is

pub present_ready : (l : Layout) (u x : Value) (old mid : Space) (b : Span) (bit w : ℕ)
    (p : PresentAt l x) → u ≡ Present x → w ≡ isset_width l → mid.taken ≡ old.taken
    → length mid.bytes ≡ length old.bytes
    → Ready l u old b bit → Ready p.inner x mid b (bit + w)
present_ready l u x old mid b bit w p e ew t ln r =
    let same : w ≡ p.width = present_width l x w p ew in
    let bits : stride l ≡ p.width + stride p.inner = ap stride p.is in
    let tail_is : extent l u ≡ extent p.inner x = ap (λ z. extent z u) p.is
    ∙ ap (extent (Optional p.width p.inner)) e in
    let at2 : old.taken - b.start ≡ mid.taken - b.start = ap (λ z. z - b.start) (sym t) in
    record {
      form = p.form;
      holds = subst (λ z. HoldsAt p.inner x z) at2 (present_holds l u x (old.taken - b.start) p e r.holds);
      room = omega (arith, r.room, tail_is, t, ln);
      taken = omega (arith, r.taken, t);
      inside = omega (arith, r.inside, same, bits);
      small = omega (arith, r.small, same, bits);
    }

pub present_done : (l : Layout) (u x : Value) (old mid new : Space) (b : Span) (bit w : ℕ)
    (p : PresentAt l x) → u ≡ Present x → w ≡ isset_width l → mid.taken ≡ old.taken
    → length mid.bytes ≡ length old.bytes
    → bits_of mid.bytes ≡ put (bits_of old.bytes) (8 * b.start + bit) w (bits w 1)
    → Wrote p.inner x mid new b (bit + w) → Wrote l u old new b bit
present_done l u x old mid new b bit w p e ew t ln h r =
    let same : w ≡ p.width = present_width l x w p ew in
    wrote_present l u x p.width p.inner old mid new b bit p.is e t ln
    (subst (λ z. bits_of mid.bytes ≡ put (bits_of old.bytes) (8 * b.start + bit) z (bits z 1)) same h)
    (subst (λ z. Wrote p.inner x mid new b (bit + z)) same r)
