-- The layout holds a table, and how many bytes its packing has.
use Rattle.std.proofs.Common.{◌≡◌, ℕ, zero, suc, ◌+◌, ◌*◌, ◌^◌, ◌<◌, ◌≤◌, List, [], ◌∷◌, length, refl, ap, sym, ◌∙◌, subst, pos, ◌-ℤ◌, nat_abs, arith, rules, Option, None, Some}
use Rattle.std.specs.List.{AllByRecursion}
use Rattle.frozen_model.specs.Bits.{digits}
use Rattle.frozen_model.proofs.Digits.{digits_within}
use Rattle.frozen_model.specs.Trees.{AList}
use Rattle.frozen_model.specs.Values.{Value, Values, NoValue, And, count, key_of, Rises, Of, OfEach, one, bytes, items, record_of, none, more, no_part, part}
use Rattle.frozen_model.specs.Layouts.{FromBase, Fits, stride}
use Rattle.frozen_model.specs.Packing.{extent, extents, bytes_for, distance}
use Rattle.frozen_model.specs.Holding.{Holds}
use Rattle.frozen_laws.specs.Laws.{EverywhereHolds}
use Rattle.frozen_laws.specs.Everywhere.{HoldsAt, HoldsEach, RangeFits}
use Rattle.key_order.specs.InOrder.{row}
use Rattle.pack_bench.specs.Table.{user, IsUser, table, IsTable, user_layout, table_layout, packed_bytes}

lists_rise : (k : Option Value) (vs : Values) → Rises AList k vs
lists_rise k NoValue = tt
lists_rise k (And v vs) = (refl, lists_rise (Some (key_of v)) vs)

count_row : (us : List Value) → count (row us) ≡ length us
count_row [] = refl
count_row (u ∷ us) = ap suc (count_row us)

above_zero : (n : ℕ) → nat_abs (pos n -ℤ pos 0) ≡ n
above_zero n = grind arith

number_fits : (n w : ℕ) → n < 2 ^ w → Fits (FromBase (pos 0) w) (pos n)
number_fits n w lt = record {
  reached = search rules;
  wide = subst (λ m. digits m ≤ w) (sym (above_zero n)) (digits_within n w lt);
}

user_is_of : (v : Value) → IsUser v → Of user_layout v
user_is_of v g =
    let e = g.eight in
    let a = g.small_id in
    let b = g.small_score in
    let h : Of user_layout (user g.id g.score g.name) =
    record_of refl (part (one (omega (arith, a))) (part (one (omega (arith, b))) (part (bytes (omega (arith, e)) g.bytes tt) no_part))) in
    subst (λ z. Of user_layout z) (sym g.is) h

user_extent : (v : Value) → IsUser v → extent user_layout v ≡ 8
user_extent v g = let e = g.eight in ap (extent user_layout) g.is ∙ omega (arith, e)

name_fits : (n at : ℕ) → n ≡ 8 → at < 2 ^ 21 → RangeFits 21 4 n at
name_fits n at e lt =
    let h : RangeFits 21 4 8 at = (digits_within at 21 lt, digits_within 8 4 (omega arith)) in
    subst (λ m. RangeFits 21 4 m at) (sym e) h

user_holds : (v : Value) (at : ℕ) → IsUser v → at < 2 ^ 21 → HoldsAt user_layout v at
user_holds v at g lt =
    let h : HoldsAt user_layout (user g.id g.score g.name) at =
    (number_fits g.id 17 g.small_id, (number_fits g.score 7 g.small_score, (name_fits (length g.name) (at + 0 + 0) g.eight (omega (arith, lt)), tt))) in
    subst (λ z. HoldsAt user_layout z at) (sym g.is) h

each_is_of : (us : List Value) → AllByRecursion IsUser us → OfEach user_layout (row us)
each_is_of [] hs = none
each_is_of (u ∷ us) hs = more (user_is_of u hs.0) (each_is_of us hs.1)

each_extent : (us : List Value) → AllByRecursion IsUser us → extents user_layout (row us) ≡ 8 * length us
each_extent [] hs = refl
each_extent (u ∷ us) hs =
    let a = user_extent u hs.0 in
    let b = each_extent us hs.1 in
    omega (arith, a, b)

each_holds : (us : List Value) (at : ℕ) → AllByRecursion IsUser us → at + 8 * length us ≤ 2 ^ 21 → HoldsEach user_layout (row us) at
each_holds [] at hs le = tt
each_holds (u ∷ us) at hs le =
    let e = user_extent u hs.0 in
    let here : at < 2 ^ 21 = omega (arith, le) in
    let next : at + extent user_layout u + 8 * length us ≤ 2 ^ 21 = omega (arith, le, e) in
    (user_holds u at hs.0 here, each_holds us (at + extent user_layout u) hs.1 next)

distance_le : (n at : ℕ) → distance n at ≤ at
distance_le zero at = omega arith
distance_le (suc n) at = omega arith

table_is_of : (us : List Value) → AllByRecursion IsUser us → length us ≤ 100000 → Of table_layout (table us)
table_is_of us hs le =
    let e = count_row us in
    record_of refl (part (items (omega (arith, e, le)) (lists_rise None (row us)) (each_is_of us hs)) no_part)

table_holds_at : (us : List Value) → AllByRecursion IsUser us → length us ≤ 100000 → HoldsAt table_layout (table us) (bytes_for (stride table_layout))
table_holds_at us hs le =
    let e = count_row us in
    let near = distance_le (count (row us)) 3 in
    let d : digits (distance (count (row us)) 3) ≤ 2 = digits_within (distance (count (row us)) 3) 2 (omega (arith, near)) in
    let c : digits (count (row us)) ≤ 17 = digits_within (count (row us)) 17 (omega (arith, e, le)) in
    let room : bytes_for (count (row us) * 49) + 8 * length us ≤ 2 ^ 21 = omega (arith, e, le) in
    (((d, c), each_holds us (bytes_for (count (row us) * 49)) hs room), tt)

pub table_held : EverywhereHolds → (n : ℕ) (v : Value) → n ≤ 100000 → IsTable n v → Holds table_layout v
table_held law n v le g =
    let few : length g.users ≤ 100000 = subst (λ m. m ≤ 100000) (sym g.many) le in
    let h : Holds table_layout (table g.users) =
    law table_layout (table g.users) (table_is_of g.users g.each few) (table_holds_at g.users g.each few) in
    subst (λ z. Holds table_layout z) (sym g.is) h

pub table_extent : (n : ℕ) (v : Value) → IsTable n v → bytes_for (stride table_layout) + extent table_layout v ≡ packed_bytes n
table_extent n v g =
    let e = count_row g.users in
    let m = g.many in
    let x = each_extent g.users g.each in
    ap (λ z. bytes_for (stride table_layout) + extent table_layout z) g.is ∙ omega (arith, e, m, x)
