-- A packing is of one value.
use Rattle.std.proofs.Common.{◌≡◌, ℕ, zero, suc, ◌+◌, ◌*◌, ◌≤◌, List, [], ◌∷◌, ◌++◌, Bool, true, false, length, arith, refl, ap, sym, ◌∙◌, append_assoc, length-append, replicate}
use Rattle.std.proofs.Math.ListN.{length-replicate}
use Rattle.frozen_model.specs.Bits.{bits}
use Rattle.frozen_model.specs.Values.{Value, Values, One, Bytes, Items, Present, NoValue, And, count, Of, one, bytes, items, absent, present, record_of, OfEach, none, more, OfAll, no_part, part}
use Rattle.frozen_model.specs.Layouts.{Version, Layout, Layouts, OfVersion, AllOfVersion, width, stride, strides, stored, number_of}
use Rattle.frozen_model.specs.Packing.{extent, bytes_for, padding, distance, range_bits, image, images, image_all, tail, tails, tail_all, block, pack}
use Rattle.frozen_laws.specs.Everywhere.{RangeFits, HoldsAt, HoldsEach, HoldsAll}
use Rattle.frozen_model.proofs.Digits.{digits_below, bits-injective}
use Rattle.frozen_model.proofs.Fields.{length-bits}
use Rattle.frozen_laws.proofs.Numbers.{split_same, same_bytes, stored_same}

pub length_range_bits : (d c n at : ℕ) → length (range_bits d c n at) ≡ d + c
length_range_bits d c n at = simp (length-append, length-bits)

mutual
  pub length_image : {l : Layout} {v : Value} → Of l v → (at : ℕ) → length (image l v at) ≡ stride l
  length_image (one {a = c} {x = x} o) at = length-bits (width c) (stored c (number_of x))
  length_image (bytes {d = d} {c = c} {bs = bs} n o u) at = length_range_bits d c (length bs) at
  length_image (items {d = d} {c = c} {vs = vs} n ri hs) at = length_range_bits d c (count vs) at
  length_image (absent {w = w} {l = l}) at = length-replicate (w + stride l) false
  length_image (present {w = w} h) at = simp (length-append, length-bits, length_image h at)
  length_image (record_of e hs) at = length_image_all hs at

  pub length_images : {l : Layout} {vs : Values} → OfEach l vs → (at : ℕ) → length (images l vs at) ≡ count vs * stride l
  length_images none at = omega arith
  length_images (more {l = l} {v = v} h hs) at = simp (length-append, length_image h at, length_images hs (at + extent l v)) (omega arith)

  pub length_image_all : {ls : Layouts} {vs : Values} → OfAll ls vs → (at : ℕ) → length (image_all ls vs at) ≡ strides ls
  length_image_all no_part at = refl
  length_image_all (part {l = l} {v = v} h hs) at = simp (length-append, length_image h at, length_image_all hs (at + extent l v))

-- the counts of two ranges whose bits are the same
pub same_count : (d c m n at to : ℕ) → RangeFits d c m at → RangeFits d c n to → range_bits d c m at ≡ range_bits d c n to → m ≡ n
same_count d c m n at to f g e =
    let parts = split_same (bits d (distance m at)) (bits d (distance n to)) (bits c m) (bits c n) (length-bits d (distance m at) ∙ sym (length-bits d (distance n to))) e in
    bits-injective c m n (digits_below m c f.1) (digits_below n c g.1) parts.1

-- two blocks with as many items
block_parts : {l : Layout} {vs us : Values} → OfEach l vs → OfEach l us → (r s : List Bool) → count vs ≡ count us → block l vs ++ r ≡ block l us ++ s
    → (images l vs (bytes_for (count vs * stride l)) ≡ images l us (bytes_for (count us * stride l))) × (tails l vs ++ r ≡ tails l us ++ s)
block_parts {l} {vs} {us} hs ks r s n t =
    let a = bytes_for (count vs * stride l) in
    let b = bytes_for (count us * stride l) in
    let p = padding (count vs * stride l) in
    let q = padding (count us * stride l) in
    let pq : p ≡ q = ap (λ k. padding (k * stride l)) n in
    let long : length (images l vs a) ≡ length (images l us b) = length_images hs a ∙ ap (λ k. k * stride l) n ∙ sym (length_images ks b) in
    let outer = split_same (images l vs a) (images l us b) (p ++ (tails l vs ++ r)) (q ++ (tails l us ++ s)) long (simp append_assoc at t) in
    (outer.0, (split_same p q (tails l vs ++ r) (tails l us ++ s) (ap length pq) outer.1).1)

-- a present optional has its flag set
pub not_absent : (w n : ℕ) (xs : List Bool) → 1 ≤ w → replicate (w + n) false ≡ bits w 1 ++ xs → ⊥
not_absent zero n xs h e = omega arith
not_absent (suc w) n xs h e =
    let more : suc w + n ≡ suc (w + n) = omega arith in
    let e' : false ∷ replicate (w + n) false ≡ true ∷ (bits w 0 ++ xs) = ap (λ k. replicate k false) (sym more) ∙ e in
    cc

module _ (n : Version) where
  mutual
    -- two values with one image and one tail, whatever follows the tails
    pub same_value : {l : Layout} {v u : Value} → OfVersion n l → Of l v → Of l u → (a b : ℕ) (r s : List Bool) → HoldsAt l v a → HoldsAt l u b
        → image l v a ≡ image l u b → tail l v ++ r ≡ tail l u ++ s → (v ≡ u) × (r ≡ s)
    same_value i (one {x = x} o) (one {x = y} p) a b r s f g e t = (ap One (stored_same x y i o p f g e), t)
    same_value i (bytes {d = d} {c = c} {bs = bs} m o u) (bytes {bs = cs} k p w) a b r s f g e t =
        let both = same_bytes bs cs r s o p (same_count d c (length bs) (length cs) a b f g e) t in (ap Bytes both.0, both.1)
    same_value i (items {h = h} {d = d} {c = c} {l = l} {vs = vs} m ri hs) (items {vs = us} k rj ks) a b r s f g e t =
        let counts : count vs ≡ count us = same_count d c (count vs) (count us) a b f.0 g.0 e in
        let parts = block_parts hs ks r s counts t in
        let both = same_values i hs ks (bytes_for (count vs * stride l)) (bytes_for (count us * stride l)) r s f.1 g.1 counts parts.0 parts.1 in (ap (Items h) both.0, both.1)
    same_value i absent absent a b r s f g e t = (refl, t)
    same_value i (absent {w = w} {l = l}) (present {v = u} k) a b r s f g e t = absurd (not_absent w (stride l) (image l u b) g.0 e)
    same_value i (present {w = w} {l = l} {v = v} h) absent a b r s f g e t = absurd (not_absent w (stride l) (image l v a) f.0 (sym e))
    same_value i (present {w = w} {l = l} {v = v} h) (present {v = u} k) a b r s f g e t =
        let parts = split_same (bits w 1) (bits w 1) (image l v a) (image l u b) refl e in
        let both = same_value i h k a b r s f.1 g.1 parts.1 t in (ap Present both.0, both.1)
    same_value i (record_of p hs) (record_of q ks) a b r s f g e t = let both = same_all i hs ks a b r s f g e t in (let e1 = both.0 in cc, both.1)

    pub same_values : {l : Layout} {vs us : Values} → OfVersion n l → OfEach l vs → OfEach l us → (a b : ℕ) (r s : List Bool) → HoldsEach l vs a → HoldsEach l us b
        → count vs ≡ count us → images l vs a ≡ images l us b → tails l vs ++ r ≡ tails l us ++ s → (vs ≡ us) × (r ≡ s)
    same_values i none none a b r s f g m e t = (refl, t)
    same_values i none (more k ks) a b r s f g m e t = absurd (omega arith)
    same_values i (more h hs) none a b r s f g m e t = absurd (omega arith)
    same_values i (more {l = l} {v = v} {vs = vs} h hs) (more {v = u} {vs = us} k ks) a b r s f g m e t =
        let parts = split_same (image l v a) (image l u b) (images l vs (a + extent l v)) (images l us (b + extent l u)) (length_image h a ∙ sym (length_image k b)) e in
        let first = same_value i h k a b (tails l vs ++ r) (tails l us ++ s) f.0 g.0 parts.0 (rw (← append_assoc, ← append_assoc) t) in
        let rest = same_values i hs ks (a + extent l v) (b + extent l u) r s f.1 g.1 (omega arith) parts.1 first.1 in
        (let e1 = first.0 in let e2 = rest.0 in cc, rest.1)

    pub same_all : {ls : Layouts} {vs us : Values} → AllOfVersion n ls → OfAll ls vs → OfAll ls us → (a b : ℕ) (r s : List Bool) → HoldsAll ls vs a → HoldsAll ls us b
        → image_all ls vs a ≡ image_all ls us b → tail_all ls vs ++ r ≡ tail_all ls us ++ s → (vs ≡ us) × (r ≡ s)
    same_all i no_part no_part a b r s f g e t = (refl, t)
    same_all i (part {l = l} {ls = ls} {v = v} {vs = vs} h hs) (part {v = u} {vs = us} k ks) a b r s f g e t =
        let parts = split_same (image l v a) (image l u b) (image_all ls vs (a + extent l v)) (image_all ls us (b + extent l u)) (length_image h a ∙ sym (length_image k b)) e in
        let first = same_value i.0 h k a b (tail_all ls vs ++ r) (tail_all ls us ++ s) f.0 g.0 parts.0 (rw (← append_assoc, ← append_assoc) t) in
        let rest = same_all i.1 hs ks (a + extent l v) (b + extent l u) r s f.1 g.1 parts.1 first.1 in
        (let e1 = first.0 in let e2 = rest.0 in cc, rest.1)

-- one packing, one value
pub same_packing : (n : Version) {l : Layout} {v u : Value} → OfVersion n l → Of l v → Of l u → HoldsAt l v (bytes_for (stride l)) → HoldsAt l u (bytes_for (stride l)) → pack l v ≡ pack l u → v ≡ u
same_packing n {l} {v} {u} i h k f g e =
    let once : 1 * stride l ≡ stride l = omega arith in
    let f' : HoldsAt l v (bytes_for (1 * stride l)) = rw once f in
    let g' : HoldsAt l u (bytes_for (1 * stride l)) = rw once g in
    let parts = block_parts (more h none) (more k none) [] [] refl (ap (λ x. x ++ []) e) in
    let both = same_values n i (more h none) (more k none) (bytes_for (1 * stride l)) (bytes_for (1 * stride l)) [] [] (f', tt) (g', tt) refl parts.0 parts.1 in
    let same : And v NoValue ≡ And u NoValue = both.0 in
    cc
