-- How long tails are.
use Rattle.std.proofs.Common.{◌≡◌, ℕ, ◌+◌, ◌-◌, ◌*◌, false, length, arith, refl, length-append}
use Rattle.std.proofs.Math.ListN.{length-replicate}
use Rattle.frozen_model.specs.Values.{Value, Values, count, Of, one, bytes, items, absent, present, record_of, OfEach, none, more, OfAll, no_part, part}
use Rattle.frozen_model.specs.Layouts.{Layout, Layouts, stride}
use Rattle.frozen_model.specs.Packing.{extent, extents, extent_all, bytes_for, padding, tail, tails, tail_all, block}
use Rattle.frozen_model.proofs.Fields.{length_bits_of}
use Rattle.frozen_laws.proofs.Unique.{length_images}

pub length_padding : (n : ℕ) → length (padding n) ≡ 8 * bytes_for n - n
length_padding n = length-replicate (8 * bytes_for n - n) false

mutual
  pub length_tail : {l : Layout} {v : Value} → Of l v → length (tail l v) ≡ 8 * extent l v
  length_tail (one o) = refl
  length_tail (bytes {bs = bs} n o u) = length_bits_of bs
  length_tail (items {l = l} {vs = vs} n ri hs) =
      let used = count vs * stride l in
      simp (length-append, length_images hs (bytes_for used), length_padding used, length_tails hs) (omega arith)
  length_tail absent = refl
  length_tail (present h) = length_tail h
  length_tail (record_of e hs) = length_tail_all hs

  pub length_tails : {l : Layout} {vs : Values} → OfEach l vs → length (tails l vs) ≡ 8 * extents l vs
  length_tails none = refl
  length_tails (more h hs) = simp (length-append, length_tail h, length_tails hs) (omega arith)

  pub length_tail_all : {ls : Layouts} {vs : Values} → OfAll ls vs → length (tail_all ls vs) ≡ 8 * extent_all ls vs
  length_tail_all no_part = refl
  length_tail_all (part h hs) = simp (length-append, length_tail h, length_tail_all hs) (omega arith)

pub length_block : {l : Layout} {vs : Values} → OfEach l vs → length (block l vs) ≡ 8 * (bytes_for (count vs * stride l) + extents l vs)
length_block {l} {vs} hs =
    let used = count vs * stride l in
    simp (length-append, length_images hs (bytes_for used), length_padding used, length_tails hs) (omega arith)
