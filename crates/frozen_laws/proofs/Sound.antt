-- What the walk gives stands there.
use Rattle.std.proofs.Common.{◌≡◌, ◌≢◌, ℕ, suc, ◌+◌, ◌-◌, ◌*◌, ◌^◌, ◌≤◌, ◌<◌, List, [], true, false, length, arith, refl, ap, sym, ◌∙◌, subst, replicate, nat_eq, nat_le, Ok, Option, Some, None}
use Rattle.std.proofs.Math.ListN.{length-replicate}
use Rattle.std.proofs.lemmas.List.{replicate-append-replicate}
use Rattle.frozen_model.specs.Bits.{bits, bits_of, field}
use Rattle.frozen_model.specs.BitLaws.{IsBytes}
use Rattle.frozen_model.specs.Trees.{Holder, Leaf, ByteRange, ItemRange, Optional, Struct, NoField, Field, IsKeyed, Keyed, HasKeys, AllHaveKeys, ids_of}
use Rattle.frozen_model.specs.Values.{Value, Values, One, Items, Absent, Present, Record, NoValue, And, count, key_of, above, Of, one, items, absent, present, record_of, no_part, part, inline_cells, cell_limit}
use Rattle.frozen_model.specs.Layouts.{Version, Layout, Layouts, OfVersion, AllOfVersion, Legal, AllLegal, width, stride, strides, meaning, atom_of, in_range}
use Rattle.frozen_model.specs.Packing.{extent, bytes_for, distance, range_bits, images, image_all, tail_all, Stands}
use Rattle.frozen_laws.specs.Everywhere.{RangeFits, HoldsEach, HoldsAll}
use Rattle.frozen_model.specs.Walk.{walk_each, walk, walk_all}
use Rattle.frozen_model.proofs.Fields.{length-bits, field_fits}
use Rattle.frozen_laws.proofs.Numbers.{thin_below, one_wide, leaf_read}
use Rattle.frozen_laws.proofs.Unique.{length_image}
use Rattle.frozen_laws.proofs.Lengths.{length_tail}
use Rattle.frozen_laws.proofs.Standing.{stands_field, stands_zero}
use Rattle.frozen_laws.proofs.Reading.{WhereOk, is_ok, require_ok, and_then_ok, cond_ok, Reads, ReadsAll, joined, each_reads, range_there, block_there, bytes_reads, KeyFor, key_is, ordered_reads, from_eq, from_ne, from_le}

only_none : (key : Option Value) (v : Value) → (l : Layout) → KeyFor key l → (IsKeyed l → ⊥) → above key v ≡ true
only_none None v l k n = refl
only_none (Some u) v l k n = absurd (n k)

-- the first of a struct stands after the key that the struct stands after
pub first_key : (key : Option Value) (i : ℕ) (l : Layout) (ls : Layouts) → KeyFor key (Struct (Field i l ls)) → KeyFor key l
first_key None i l ls k = tt
first_key (Some u) i (Leaf a w) ls k = tt
first_key (Some u) i (ByteRange t d c) ls k = tt
first_key (Some u) i (ItemRange g d c m) ls k = absurd k
first_key (Some u) i (Optional w m) ls k = absurd k
first_key (Some u) i (Struct ms) ls k = absurd k

pub first_rises : (key : Option Value) (i : ℕ) {l : Layout} (ls : Layouts) {v : Value} → Of l v → KeyFor key (Struct (Field i l ls)) → (above key (key_of v) ≡ true → above key v ≡ true) × (above key v ≡ true → above key (key_of v) ≡ true)
first_rises None i ls h k = (λ e. refl, λ e. refl)
first_rises (Some u) i ls h k = let e = ap (above (Some u)) (key_is h k) in (λ r. sym e ∙ r, λ r. e ∙ r)

pub same_first : (key : Option Value) (ids is : List ℕ) (vs : Values) → above key (key_of (Record ids vs)) ≡ true → above key (key_of (Record is vs)) ≡ true
same_first key ids is NoValue e = e
same_first key ids is (And v vs) e = e

items_reads : (cs : List ℕ) → IsBytes cs → (h : Holder) (d c : ℕ) (l : Layout) (start : ℕ) (key : Option Value) (bit next cells : ℕ) → Keyed h l → KeyFor key (ItemRange h d c l)
    → ((key' : Option Value) (bit' next' cells' : ℕ) → KeyFor key' l → bit' + stride l ≤ 8 * length cs → next' ≤ length cs → next ≤ next' → WhereOk (Reads cs l next key' bit' next' cells') (walk cs l next key' bit' next' cells'))
    → bit + (d + c) ≤ 8 * length cs → next ≤ length cs
    → WhereOk (Reads cs (ItemRange h d c l) start key bit next cells) (walk cs (ItemRange h d c l) start key bit next cells)
items_reads cs small h d c l start key bit next cells o kf ih room inside =
    let found = field cs bit d in
    let n = field cs (bit + d) c in
    let used = n * stride l in
    require_ok (nat_eq found (distance n (next - start))) _ _ (λ e1.
    require_ok (nat_le (cells + n * suc (inline_cells l)) cell_limit) _ _ (λ e2.
    require_ok (nat_le (next + bytes_for used) (length cs)) _ _ (λ e3.
    require_ok (nat_eq (field cs (8 * next + used) (8 * bytes_for used - used)) 0) _ _ (λ e4.
    let last : next + bytes_for used ≤ length cs = from_le (next + bytes_for used) (length cs) e3 in
    let most : cells + n * suc (inline_cells l) ≤ cell_limit = from_le (cells + n * suc (inline_cells l)) cell_limit e2 in
    and_then_ok (walk_each h (walk cs l next) (stride l) None n (8 * next) (next + bytes_for used) (cells + n * suc (inline_cells l))) _
    (each_reads cs h l o next (walk cs l next) ih None n (8 * next) (next + bytes_for used) (cells + n * suc (inline_cells l)) (omega arith) last (omega arith)) (λ x px.
    let here = range_there cs small d c n (next - start) bit found room refl refl (from_eq found (distance n (next - start)) e1) in
    let back : (next + bytes_for used) - next ≡ bytes_for used = omega arith in
    let many = px.many in
    let sizes : count x.0 * stride l ≡ used = ap (λ k. k * stride l) many in
    let units : count x.0 * suc (inline_cells l) ≡ n * suc (inline_cells l) = ap (λ k. k * suc (inline_cells l)) many in
    is_ok (record {
      of_kind = items (rw many (omega arith)) px.rises px.of_kind;
      holds = (subst (λ k. RangeFits d c k (next - start)) (sym many) here.fits, subst (λ k. HoldsEach l x.0 k) (back ∙ ap bytes_for (sym sizes)) px.holds);
      image_there = subst (λ k. Stands (bits_of cs) bit (range_bits d c k (next - start))) (sym many) here.there;
      tail_there = block_there cs next n px.of_kind many
          (subst (λ k. Stands (bits_of cs) (8 * next) (images l x.0 k)) back px.image_there)
          (stands_zero cs (8 * next + used) (8 * bytes_for used - used) small (omega arith) (from_eq (field cs (8 * next + used) (8 * bytes_for used - used)) 0 e4))
          px.tail_there;
      after = omega (arith, px.after, ap bytes_for sizes);
      inside = px.inside;
      grows = omega (arith, px.grows, units);
      few = λ h. px.few most;
      rises = only_none key (Items h x.0) (ItemRange h d c l) kf (λ k. k);
    }))))))

-- an optional that is not set
clear_reads : (cs : List ℕ) → IsBytes cs → (w : ℕ) (l : Layout) (start : ℕ) (key : Option Value) (bit next cells : ℕ) → KeyFor key (Optional w l) → w ≤ 1 → bit + (w + stride l) ≤ 8 * length cs → next ≤ length cs
    → field cs bit w ≢ 1 → field cs (bit + w) (stride l) ≡ 0 → Reads cs (Optional w l) start key bit next cells (Absent, next, cells)
clear_reads cs small w l start key bit next cells kf thin room inside unset zeros =
    let is : field cs bit w ≡ 0 = omega (arith, thin_below w (field cs bit w) thin (field_fits cs bit w)) in
    let flag : Stands (bits_of cs) bit (replicate w false) = stands_zero cs bit w small (omega arith) is in
    let whole = joined cs bit w (replicate w false) (replicate (stride l) false) (length-replicate w false) flag (stands_zero cs (bit + w) (stride l) small (omega arith) zeros) in
    record { of_kind = absent; holds = tt; image_there = subst (λ r. Stands (bits_of cs) bit r) (replicate-append-replicate w (stride l) false) whole; tail_there = tt; after = omega arith; inside = inside; grows = omega arith; few = λ h. h; rises = only_none key Absent (Optional w l) kf (λ k. k) }

module _ (version : Version) (cs : List ℕ) (small : IsBytes cs) where
  mutual
    pub walk_reads : (l : Layout) → OfVersion version l → Legal l → HasKeys l → (start : ℕ) (key : Option Value) (bit next cells : ℕ) → KeyFor key l → bit + stride l ≤ 8 * length cs → next ≤ length cs → start ≤ next
        → WhereOk (Reads cs l start key bit next cells) (walk cs l start key bit next cells)
    walk_reads (Leaf k c) coded legal keys start key bit next cells kf room inside past =
        let m = field cs bit (width c) in
        require_ok (in_range k (meaning c m)) _ _ (λ e.
        let read = leaf_read m coded legal (field_fits cs bit (width c)) e in
        ordered_reads cs (Leaf k c) start key bit next cells tt (Ok (One (atom_of k (meaning c m)), next, cells))
        (is_ok (record { of_kind = one read.of_kind; holds = read.fits; image_there = rw read.back (stands_field cs bit (width c) small room); tail_there = tt; after = omega arith; inside = inside; grows = omega arith; few = λ h. h; rises = refl })))
    walk_reads (ByteRange t d c) coded legal keys start key bit next cells kf room inside past = bytes_reads cs small t d c start key bit next cells room inside
    walk_reads (ItemRange h d c l) coded legal keys start key bit next cells kf room inside past =
        items_reads cs small h d c l start key bit next cells keys.0 kf (λ k b n s q r i p. walk_reads l coded legal.2 keys.1 next k b n s q r i p) room inside
    walk_reads (Optional w l) coded legal keys start key bit next cells kf room inside past =
        cond_ok (nat_eq (field cs bit w) 1) _ _
        (λ e. and_then_ok (walk cs l start None (bit + w) next cells) _ (walk_reads l coded legal.1 keys start None (bit + w) next cells tt (omega arith) inside past) (λ x px.
        let is : field cs bit w ≡ 1 = from_eq (field cs bit w) 1 e in
        let set : Stands (bits_of cs) bit (bits w 1) = subst (λ k. Stands (bits_of cs) bit (bits w k)) is (stands_field cs bit w small (omega arith)) in
        is_ok (record {
          of_kind = present px.of_kind;
          holds = (one_wide w (subst (λ k. k < 2 ^ w) is (field_fits cs bit w)), px.holds);
          image_there = joined cs bit w _ _ (length-bits w 1) set px.image_there;
          tail_there = px.tail_there;
          after = px.after;
          inside = px.inside;
          grows = px.grows;
          few = px.few;
          rises = only_none key (Present x.0) (Optional w l) kf (λ k. k);
        })))
        (λ e. require_ok (nat_eq (field cs (bit + w) (stride l)) 0) _ _ (λ z.
        is_ok (clear_reads cs small w l start key bit next cells kf legal.0 room inside (from_ne (field cs bit w) 1 e) (from_eq (field cs (bit + w) (stride l)) 0 z))))
    walk_reads (Struct ls) coded legal keys start key bit next cells kf room inside past =
        and_then_ok (walk_all cs ls start key bit next cells) _ (walk_all_reads ls coded legal keys start key bit next cells kf room inside past) (λ x px.
        is_ok (record { of_kind = record_of refl px.of_kind; holds = px.holds; image_there = px.image_there; tail_there = px.tail_there; after = px.after; inside = px.inside; grows = px.grows; few = px.few; rises = same_first key [] (ids_of ls) x.0 px.rises }))

    pub walk_all_reads : (ls : Layouts) → AllOfVersion version ls → AllLegal ls → AllHaveKeys ls → (start : ℕ) (key : Option Value) (bit next cells : ℕ) → KeyFor key (Struct ls) → bit + strides ls ≤ 8 * length cs → next ≤ length cs → start ≤ next
        → WhereOk (ReadsAll cs ls start key bit next cells) (walk_all cs ls start key bit next cells)
    walk_all_reads NoField coded legal keys start key bit next cells kf room inside past =
        is_ok (record { of_kind = no_part; holds = tt; image_there = tt; tail_there = tt; after = omega arith; inside = inside; grows = omega arith; few = λ h. h; rises = only_none key Absent (Struct NoField) kf (λ k. k) })
    walk_all_reads (Field i l ls) coded legal keys start key bit next cells kf room inside past =
        and_then_ok (walk cs l start key bit next cells) _ (walk_reads l coded.0 legal.0 keys.0 start key bit next cells (first_key key i l ls kf) (omega arith) inside past) (λ x px.
        and_then_ok (walk_all cs ls start None (bit + stride l) x.1 x.2) _ (walk_all_reads ls coded.1 legal.1 keys.1 start None (bit + stride l) x.1 x.2 tt (omega arith) px.inside (omega (arith, px.after))) (λ y py.
        let shift : x.1 - start ≡ (next - start) + extent l x.0 = omega (arith, px.after) in
        let far : 8 * x.1 ≡ 8 * next + 8 * extent l x.0 = omega (arith, px.after) in
        is_ok (record {
          of_kind = part px.of_kind py.of_kind;
          holds = (px.holds, subst (λ k. HoldsAll ls y.0 k) shift py.holds);
          image_there = joined cs bit (stride l) _ _ (length_image px.of_kind (next - start)) px.image_there (subst (λ k. Stands (bits_of cs) (bit + stride l) (image_all ls y.0 k)) shift py.image_there);
          tail_there = joined cs (8 * next) (8 * extent l x.0) _ _ (length_tail px.of_kind) px.tail_there (subst (λ k. Stands (bits_of cs) k (tail_all ls y.0)) far py.tail_there);
          after = omega (arith, px.after, py.after);
          inside = py.inside;
          grows = omega (arith, px.grows, py.grows);
          few = λ h. py.few (px.few h);
          rises = (first_rises key i ls px.of_kind kf).0 px.rises;
        })))
