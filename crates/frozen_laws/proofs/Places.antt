-- At one place of a packing lies one part.
use Rattle.std.proofs.Common.{◌≡◌, ℕ, zero, suc, ◌+◌, ◌-◌, ◌*◌, ◌≤◌, ◌<◌, List, [], ◌∷◌, ◌++◌, Bool, false, length, drop, arith, refl, ap, sym, ◌∙◌, subst, ◌⊎◌, inl, inr}
use Rattle.std.proofs.Math.Seq.{drop-cons}
use Rattle.frozen_model.specs.Bits.{bits, bits_of}
use Rattle.frozen_model.specs.BitLaws.{IsBytes}
use Rattle.frozen_model.specs.Trees.{Tree, Trees, Leaf, ByteRange, ItemRange, Optional, Struct, nodes, nodes_all, Part, itself, in_item, in_optional, in_struct, PartAll, in_first, in_later}
use Rattle.frozen_model.specs.Values.{Value, Values, NoValue, And, count, Of, one, bytes, items, absent, present, record_of, OfAll, no_part, part}
use Rattle.frozen_model.specs.Layouts.{Version, Layout, Layouts, OfVersion, AllOfVersion, stride}
use Rattle.frozen_model.specs.Packing.{extent, extents, extent_all, bytes_for, distance, range_bits, image, image_all, tail, packed, place, Lies, Stands}
use Rattle.frozen_model.specs.Holding.{Holds}
use Rattle.frozen_laws.specs.Everywhere.{RangeFits, HoldsAt, HoldsAll}
use Rattle.frozen_laws.specs.Laws.{StandsAt}
use Rattle.frozen_model.proofs.Digits.{digits_below, bits-injective}
use Rattle.frozen_model.proofs.Fields.{length-bits}
use Rattle.frozen_laws.proofs.Numbers.{split_same}
use Rattle.frozen_laws.proofs.Standing.{stands_same}
use Rattle.frozen_laws.proofs.Lengths.{length_tail}
use Rattle.frozen_laws.proofs.Unique.{length_image, same_count, not_absent, same_value}
use Rattle.frozen_laws.proofs.Parts.{part_stands, root_stands, part_node}
use Rattle.frozen_laws.proofs.Packed.{packed_bytes, packed_packs}

-- ---- one node, one part of the layout

nodes_some : {A B : Type 0} (t : Tree A B) → 1 ≤ nodes t
nodes_some (Leaf k a) = omega arith
nodes_some (ByteRange t d c) = omega arith
nodes_some (ItemRange h d c l) = omega arith
nodes_some (Optional w l) = omega arith
nodes_some (Struct ls) = omega arith

mutual
  part_from : {A B : Type 0} {t s : Tree A B} {i n : ℕ} → Part t i s n → (i ≤ n) × (n < i + nodes t)
  part_from (itself {t = t}) = (omega arith, omega (arith, nodes_some t))
  part_from (in_item p) = let b = part_from p in (omega arith, omega arith)
  part_from (in_optional p) = let b = part_from p in (omega arith, omega arith)
  part_from (in_struct p) = let b = part_all_from p in (omega arith, omega arith)

  part_all_from : {A B : Type 0} {ts : Trees A B} {s : Tree A B} {i n : ℕ} → PartAll ts i s n → (i ≤ n) × (n < i + nodes_all ts)
  part_all_from (in_first p) = let b = part_from p in (omega arith, omega arith)
  part_all_from (in_later p) = let b = part_all_from p in (omega arith, omega arith)

mutual
  pub part_once : {A B : Type 0} {l s t : Tree A B} {i n k : ℕ} → Part l i s n → Part l i t k → n ≡ k → s ≡ t
  part_once itself itself e = refl
  part_once itself (in_item q) e = absurd (omega (arith, part_from q))
  part_once itself (in_optional q) e = absurd (omega (arith, part_from q))
  part_once itself (in_struct q) e = absurd (omega (arith, part_all_from q))
  part_once (in_item p) itself e = absurd (omega (arith, part_from p))
  part_once (in_item p) (in_item q) e = part_once p q e
  part_once (in_optional p) itself e = absurd (omega (arith, part_from p))
  part_once (in_optional p) (in_optional q) e = part_once p q e
  part_once (in_struct p) itself e = absurd (omega (arith, part_all_from p))
  part_once (in_struct p) (in_struct q) e = part_all_once p q e

  pub part_all_once : {A B : Type 0} {ls : Trees A B} {s t : Tree A B} {i n k : ℕ} → PartAll ls i s n → PartAll ls i t k → n ≡ k → s ≡ t
  part_all_once (in_first p) (in_first q) e = part_once p q e
  part_all_once (in_first p) (in_later q) e = absurd (omega (arith, part_from p, part_all_from q))
  part_all_once (in_later p) (in_first q) e = absurd (omega (arith, part_all_from p, part_from q))
  part_all_once (in_later p) (in_later q) e = part_all_once p q e

mutual
  part_version : (v : Version) {l s : Layout} {i n : ℕ} → Part l i s n → OfVersion v l → OfVersion v s
  part_version v itself o = o
  part_version v (in_item p) o = part_version v p o
  part_version v (in_optional p) o = part_version v p o
  part_version v (in_struct p) o = part_all_version v p o

  part_all_version : (v : Version) {ls : Layouts} {s : Layout} {i n : ℕ} → PartAll ls i s n → AllOfVersion v ls → OfVersion v s
  part_all_version v (in_first p) o = part_version v p o.0
  part_all_version v (in_later p) o = part_all_version v p o.1

-- ---- one image, one place of the first own block, unless there is none

no_extents : (l : Layout) (vs : Values) → count vs ≡ 0 → extents l vs ≡ 0
no_extents l NoValue e = refl
no_extents l (And v vs) e = absurd (omega arith)

-- two ranges of one count and the same bits
same_distance : (d c m n at to : ℕ) → RangeFits d c m at → RangeFits d c n to → range_bits d c m at ≡ range_bits d c n to → m ≡ n → (at ≡ to) ⊎ (n ≡ 0)
same_distance d c m zero at to f g e k = inr refl
same_distance d c m (suc n) at to f g e k =
    let parts = split_same (bits d (distance m at)) (bits d (distance (suc n) to)) (bits c m) (bits c (suc n)) (length-bits d (distance m at) ∙ sym (length-bits d to)) e in
    let far : distance m at ≡ at = ap (λ x. distance x at) k in
    inl (sym far ∙ bits-injective d (distance m at) to (digits_below (distance m at) d f.0) (digits_below to d g.0) parts.0)

mutual
  same_next : {l : Layout} {v u : Value} → Of l v → Of l u → (a b : ℕ) → HoldsAt l v a → HoldsAt l u b → image l v a ≡ image l u b
      → (a ≡ b) ⊎ ((extent l v ≡ 0) × (extent l u ≡ 0))
  same_next (one o) (one p) a b f g e = inr (refl, refl)
  same_next (bytes {d = d} {c = c} {bs = bs} o p u) (bytes {bs = cs} k q w) a b f g e =
      let m = same_count d c (length bs) (length cs) a b f g e in
      elim (same_distance d c (length bs) (length cs) a b f g e m) [ inl same ↦ inl same | inr z ↦ inr (omega arith, omega arith) ]
  same_next (items {d = d} {c = c} {l = l} {vs = vs} o ri hs) (items {vs = us} k rj ks) a b f g e =
      let m = same_count d c (count vs) (count us) a b f.0 g.0 e in
      elim (same_distance d c (count vs) (count us) a b f.0 g.0 e m) [
        | inl same ↦ inl same
        | inr z ↦ (let y : count vs ≡ 0 = omega arith in inr (no_items l vs y, no_items l us z))
      ]
    where
      no_items : (l : Layout) (vs : Values) → count vs ≡ 0 → bytes_for (count vs * stride l) + extents l vs ≡ 0
      no_items l vs z = omega (arith, no_extents l vs z, ap (λ k. bytes_for (k * stride l)) z)
  same_next absent absent a b f g e = inr (refl, refl)
  same_next (absent {w = w} {l = l}) (present {v = u} k) a b f g e = absurd (not_absent w (stride l) (image l u b) g.0 e)
  same_next (present {w = w} {l = l} {v = v} h) absent a b f g e = absurd (not_absent w (stride l) (image l v a) f.0 (sym e))
  same_next (present {w = w} {l = l} {v = v} h) (present {v = u} k) a b f g e =
      same_next h k a b f.1 g.1 (split_same (bits w 1) (bits w 1) (image l v a) (image l u b) refl e).1
  same_next (record_of p hs) (record_of q ks) a b f g e = same_next_all hs ks a b f g e

  same_next_all : {ls : Layouts} {vs us : Values} → OfAll ls vs → OfAll ls us → (a b : ℕ) → HoldsAll ls vs a → HoldsAll ls us b → image_all ls vs a ≡ image_all ls us b
      → (a ≡ b) ⊎ ((extent_all ls vs ≡ 0) × (extent_all ls us ≡ 0))
  same_next_all no_part no_part a b f g e = inr (refl, refl)
  same_next_all (part {l = l} {ls = ls} {v = v} {vs = vs} h hs) (part {v = u} {vs = us} k ks) a b f g e =
      let parts = split_same (image l v a) (image l u b) (image_all ls vs (a + extent l v)) (image_all ls us (b + extent l u)) (length_image h a ∙ sym (length_image k b)) e in
      elim (same_next h k a b f.0 g.0 parts.0) [
        | inl same ↦ inl same
        | inr z ↦ elim (same_next_all hs ks (a + extent l v) (b + extent l u) f.1 g.1 parts.1) [ inl same ↦ inl (omega (arith, z)) | inr y ↦ inr (omega (arith, z, y), omega (arith, z, y)) ]
      ]

-- ---- one place, one part

-- what stands at a place, and what follows it
stands_rest : (b xs : List Bool) (at : ℕ) → Stands b at xs → drop at b ≡ xs ++ drop (at + length xs) b
stands_rest b [] at s = ap (λ k. drop k b) (let e : at ≡ at + 0 = omega arith in e)
stands_rest b (x ∷ xs) at s =
    let next : drop (suc at) b ≡ xs ++ drop (suc at + length xs) b = stands_rest b xs (suc at) s.2 in
    let far : suc at + length xs ≡ at + suc (length xs) = omega arith in
    drop-cons b at false s.0 ∙ ap (λ y. y ∷ drop (suc at) b) s.1 ∙ ap (λ r. x ∷ r) (next ∙ ap (λ k. xs ++ drop k b) far)

no_tail : {l : Layout} {v : Value} → Of l v → extent l v ≡ 0 → tail l v ≡ []
no_tail {l} {v} o z = empty (tail l v) (omega (arith, length_tail o))
  where
    empty : (xs : List Bool) → length xs ≡ 0 → xs ≡ []
    empty [] e = refl
    empty (x ∷ xs) e = absurd (omega arith)

module _ (n : Version) (bs : List ℕ) where
  -- two values of one layout that stand at one bit in one block
  same_here : (m : Layout) (u w : Value) (node start bit a b : ℕ) → OfVersion n m → StandsAt bs m u (place node start bit a) → StandsAt bs m w (place node start bit b) → u ≡ w
  same_here m u w node start bit a b i s t =
      let images : image m u (a - start) ≡ image m w (b - start) =
      stands_same (bits_of bs) (image m u (a - start)) (image m w (b - start)) bit (length_image s.placed.of_kind (a - start) ∙ sym (length_image t.placed.of_kind (b - start))) s.placed.image_there t.placed.image_there in
      let ou = s.placed.of_kind in
      let ow = t.placed.of_kind in
      elim (same_next ou ow (a - start) (b - start) s.placed.holds t.placed.holds images) [
        | inl same ↦
            (let far : b ≡ a = omega (arith, s.past, t.past) in
            let there : Stands (bits_of bs) (8 * a) (tail m w) = subst (λ k. Stands (bits_of bs) (8 * k) (tail m w)) far t.placed.tail_there in
            let tails = sym (stands_rest (bits_of bs) (tail m u) (8 * a) s.placed.tail_there) ∙ stands_rest (bits_of bs) (tail m w) (8 * a) there in
            (same_value n i ou ow (a - start) (b - start) _ _ s.placed.holds t.placed.holds images tails).0)
        | inr z ↦
            (let tails : tail m u ++ [] ≡ tail m w ++ [] = ap (λ r. r ++ []) (no_tail ou z.0 ∙ sym (no_tail ow z.1)) in
            (same_value n i ou ow (a - start) (b - start) [] [] s.placed.holds t.placed.holds images tails).0)
      ]

pub lies_once : (n : Version) (l : Layout) (v u w : Value) (node start bit : ℕ) → OfVersion n l → Holds l v → Lies l v node start bit u → Lies l v node start bit w → u ≡ w
lies_once n l v u w node start bit i h (m, a, p) (k, b, q) =
    let bs = packed l v in
    let small : IsBytes bs = packed_bytes h.of_kind in
    let root = root_stands l v bs small h (packed_packs h.of_kind) in
    let same : k ≡ m = part_once (part_node q) (part_node p) refl in
    let there : StandsAt bs m w (place node start bit b) = subst (λ x. StandsAt bs x w (place node start bit b)) same (part_stands bs small q root) in
    same_here n bs m u w node start bit a b (part_version n (part_node p) i) (part_stands bs small p root) there
