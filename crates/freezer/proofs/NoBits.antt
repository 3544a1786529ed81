-- A value in a layout of no bits takes no bytes, so there is nothing to write.
use Rattle.std.proofs.Common.{◌≡◌, ℕ, ◌+◌, ◌-◌, ◌*◌, ◌^◌, ◌≤◌, ◌<◌, List, [], ◌∷◌, Bool, length, arith, refl}
use Rattle.std.proofs.Common.{ap, sym, ◌∙◌, subst}
use Rattle.frozen_model.specs.Bits.{bits_of, digits}
use Rattle.frozen_model.specs.Values.{Value, Values, NoValue, And, count, Of, one, bytes, items, absent}
use Rattle.frozen_model.specs.Values.{present, record_of, OfEach, none, more, OfAll, no_part, part}
use Rattle.frozen_model.specs.Layouts.{Layout, Layouts, stride, strides}
use Rattle.frozen_model.specs.Packing.{extent, extents, extent_all, bytes_for, images, tails}
use Rattle.frozen_model.proofs.Digits.{digits_below}
use Rattle.frozen_laws.specs.Everywhere.{HoldsAt, HoldsEach, HoldsAll}
use Rattle.frozen_laws.proofs.Unique.{length_images}
use Rattle.frozen_laws.proofs.Lengths.{length_tails}
use Rattle.block_region.specs.Space.{Space, Span}
use Rattle.freezer.specs.Writing.{Writes, EachWrote}
use Rattle.freezer.proofs.Runs.{writes_nothing}

-- what no digit writes is 0
none_counted : (n w : ℕ) → digits n ≤ w → w ≡ 0 → n ≡ 0
none_counted n w h e = let lt : n < 2 ^ 0 = subst (λ z. n < 2 ^ z) e (digits_below n w h) in omega arith

no_items : (l : Layout) (vs : Values) → count vs ≡ 0 → bytes_for (count vs * stride l) + extents l vs ≡ 0
no_items l NoValue e = let z : 0 * stride l ≡ 0 = omega arith in ap (λ n. bytes_for n + 0) z
no_items l (And v vs) e = absurd (omega arith)

mutual
  pub no_extent : {l : Layout} {v : Value} → Of l v → (at : ℕ) → HoldsAt l v at → stride l ≡ 0 → extent l v
      ≡ 0
  no_extent (one o) at h z = refl
  no_extent (bytes {c = c} {bs = bs} few all spelled) at h z = none_counted (length bs) c h.1 (omega arith)
  no_extent (items {c = c} {l = l} {vs = vs} few rise os) at h z = no_items l vs
      (none_counted (count vs) c h.0.1 (omega arith))
  no_extent absent at h z = refl
  no_extent (present o) at h z = absurd (omega (arith, h.0, z))
  no_extent (record_of e os) at h z = no_extent_all os at h z

  no_extent_all : {ls : Layouts} {vs : Values} → OfAll ls vs → (at : ℕ) → HoldsAll ls vs at → strides ls ≡ 0
      → extent_all ls vs ≡ 0
  no_extent_all no_part at h z = refl
  no_extent_all (part {l = l} {v = v} o os) at h z = omega (
    arith,
    no_extent o at h.0 (omega (arith, z)),
    no_extent_all os (at + extent l v) h.1
        (omega (arith, z)),
  )

no_extents : {m : Layout} {vs : Values} → OfEach m vs → (at : ℕ) → HoldsEach m vs at → stride m ≡ 0
    → extents m vs ≡ 0
no_extents none at h z = refl
no_extents (more {l = l} {v = v} o os) at h z = omega
    (arith, no_extent o at h.0 z, no_extents os (at + extent l v) h.1 z)

empty : (xs : List Bool) → length xs ≡ 0 → [] ≡ xs
empty [] e = refl
empty (x ∷ xs) e = absurd (omega arith)

-- items of no bits are written by writing nothing
pub none_written : (m : Layout) (vs : Values) (s : Space) (b : Span) → OfEach m vs
    → HoldsEach m vs (s.taken - b.start) → stride m ≡ 0 → EachWrote m vs s s b 0
none_written m vs s b o h z =
    let at = s.taken - b.start in
    let none : extents m vs ≡ 0 = no_extents o at h z in
    let wide : 0 ≡ count vs * stride m = sym (ap (λ w. count vs * w) z ∙ omega arith) in
    let far : 0 ≡ 8 * extents m vs = omega (arith, none) in
    let bs = bits_of s.bytes in
    let p = 8 * b.start + 0 in
    let q = 8 * s.taken in
    let image : [] ≡ images m vs at = empty (images m vs at) (length_images o at ∙ sym wide) in
    let tail : [] ≡ tails m vs = empty (tails m vs) (length_tails o ∙ sym far) in
    record {
      taken = omega (arith, none);
      length = refl;
      written = subst (λ ts. Writes bs bs p (count vs * stride m) (images m vs at) q (8 * extents m vs) ts)
          tail
          (subst (λ xs. Writes bs bs p (count vs * stride m) xs q (8 * extents m vs) []) image
          (subst (λ t. Writes bs bs p (count vs * stride m) [] q t []) far
          (subst (λ w. Writes bs bs p w [] q 0 []) wide (writes_nothing bs p q))));
    }
