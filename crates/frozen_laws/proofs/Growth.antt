-- Strides and extents grow with the widths.
use Rattle.std.proofs.Common.{ℕ, ◌*◌, ◌≤◌, arith}
use Rattle.frozen_model.specs.Trees.{leaf, byte_range, item_range, optional, struct, no_field, field}
use Rattle.frozen_model.specs.Values.{Value, Values, count, Of, one, bytes, items, absent, present, record_of, OfEach, none, more, OfAll, no_part, part}
use Rattle.frozen_model.specs.Layouts.{Layout, Layouts, Narrower, AllNarrower, stride, strides}
use Rattle.frozen_model.specs.Packing.{extent, extents, extent_all, bytes_for}

mutual
  pub stride_le : {l m : Layout} → Narrower l m → stride l ≤ stride m
  stride_le (leaf h) = h
  stride_le (byte_range hd hc) = omega arith
  stride_le (item_range hd hc h) = omega arith
  stride_le (optional hw h) = omega (arith, stride_le h)
  stride_le (struct h) = strides_le h

  pub strides_le : {ls ms : Layouts} → AllNarrower ls ms → strides ls ≤ strides ms
  strides_le no_field = omega arith
  strides_le (field h hs) = omega (arith, stride_le h, strides_le hs)

pub bytes_for_le : (n s t : ℕ) → s ≤ t → bytes_for (n * s) ≤ bytes_for (n * t)
bytes_for_le n s t h = grind arith

mutual
  pub extent_le : {l m : Layout} {v : Value} → Of l v → Narrower l m → extent l v ≤ extent m v
  extent_le (one x) (leaf h) = omega arith
  extent_le (bytes x y z) (byte_range hd hc) = omega arith
  extent_le (items {vs = vs} n ri hs) (item_range {l = l} {m = m} hd hc h) = omega (arith, bytes_for_le (count vs) (stride l) (stride m) (stride_le h), extents_le hs h)
  extent_le absent (optional hw h) = omega arith
  extent_le (present v) (optional hw h) = extent_le v h
  extent_le (record_of e vs) (struct h) = extent_all_le vs h

  pub extents_le : {l m : Layout} {vs : Values} → OfEach l vs → Narrower l m → extents l vs ≤ extents m vs
  extents_le none h = omega arith
  extents_le (more v vs) h = omega (arith, extent_le v h, extents_le vs h)

  pub extent_all_le : {ls ms : Layouts} {vs : Values} → OfAll ls vs → AllNarrower ls ms → extent_all ls vs ≤ extent_all ms vs
  extent_all_le no_part no_field = omega arith
  extent_all_le (part v vs) (field h hs) = omega (arith, extent_le v h, extent_all_le vs hs)
