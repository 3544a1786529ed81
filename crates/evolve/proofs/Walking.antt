-- The next of the items of a part.
use Rattle.std.proofs.Common.{◌≡◌, ℕ, zero, suc, ◌+◌, ◌<◌, ◌≤◌, arith, min, refl, ap, sym, subst, Some}
use Rattle.std.proofs.Common.{None}
use Rattle.frozen_model.specs.Values.{Value, Values, NoValue, And, count, nth}
use Rattle.idl_profile.specs.declared.kinds.TypeKind.{TypeKind}
use Rattle.idl_profile.specs.declared.kinds.TypeKind.TheVariants as k
use Rattle.frozen_model.specs.Values.{Items}
use Rattle.frozen_model.specs.Trees.{AList, ASet, AMap}
use Rattle.typed_tree.specs.Parts.{IsItems, IsRow}
use Rattle.evolve.specs.declared.items.LensItem.{LensItem}
use Rattle.evolve.specs.Lenses.{HasForm}
use Rattle.evolve.specs.LensItems.{value_of_item, from_to, IsNext}

next_some : (vs : Values) (n end : ℕ) (i : LensItem) → n < end → end ≤ count vs → value_of_item i ≡ nth vs n
    → IsNext (from_to vs n end) (Some i) (from_to vs (suc n) end)
next_some NoValue n end i lt le e = absurd (omega (arith, lt, le))
next_some (And v vs) n zero i lt le e = absurd (omega (arith, lt))
next_some (And v vs) zero (suc end) i lt le e = (e, refl)
next_some (And v vs) (suc n) (suc end) i lt le e =
    next_some vs n end i (omega (arith, lt)) (omega (arith, le)) e

pub next_is : (vs : Values) (n m end : ℕ) (i : LensItem) → n < end → end ≤ count vs → value_of_item i ≡ nth vs n
    → m ≡ n + 1
    → IsNext (from_to vs n end) (Some i) (from_to vs m end)
next_is vs n m end i lt le e em =
    let s : suc n ≡ m = omega (arith, em) in
    subst (λ k. IsNext (from_to vs n end) (Some i) (from_to vs k end)) s (next_some vs n end i lt le e)

pub none_left : (vs : Values) (n end : ℕ) → end ≤ n → from_to vs n end ≡ NoValue
none_left NoValue n end le = refl
none_left (And v vs) zero zero le = refl
none_left (And v vs) (suc n) zero le = refl
none_left (And v vs) zero (suc end) le = absurd (omega (arith, le))
none_left (And v vs) (suc n) (suc end) le = none_left vs n end (omega (arith, le))

pub none_is : (vs : Values) (n end : ℕ) → end ≤ n → IsNext (from_to vs n end) None (from_to vs n end)
none_is vs n end le =
    subst (λ us. IsNext us None us) (sym (none_left vs n end le)) refl

-- from the first place up to their number stand all of them
pub all_of : (vs : Values) (n : ℕ) → n ≡ count vs → from_to vs 0 n ≡ vs
all_of NoValue n e = refl
all_of (And v vs) zero e = absurd (omega (arith, e))
all_of (And v vs) (suc n) e = ap (λ us. And v us) (all_of vs n (omega (arith, e)))

-- and past their number there is none
pub none_past : (vs : Values) (first end n : ℕ) → n ≡ min end (count vs) → from_to vs first n ≡ from_to vs first end
none_past NoValue first end n e = refl
none_past (And v vs) zero zero zero e = refl
none_past (And v vs) (suc first) zero zero e = refl
none_past (And v vs) first (suc end) zero e = absurd (omega (arith, e))
none_past (And v vs) first zero (suc n) e = absurd (omega (arith, e))
none_past (And v vs) zero (suc end) (suc n) e =
    ap (λ us. And v us) (none_past vs zero end n (omega (arith, e)))
none_past (And v vs) (suc first) (suc end) (suc n) e = none_past vs first end n (omega (arith, e))

-- what has items and is of no map's kind is a list or a set
pub row_or_map : (kind : TypeKind) (v : Value) → HasForm kind v → IsItems v → (kind ≡ k.Map → ⊥) → IsRow v
row_or_map k.List (Items AList vs) f is ne = tt
row_or_map k.Set (Items ASet vs) f is ne = tt
row_or_map k.Map v f is ne = absurd (ne refl)
row_or_map k.List (Items AMap vs) f is ne = absurd f
row_or_map k.List (Items ASet vs) f is ne = absurd f
row_or_map k.Set (Items AMap vs) f is ne = absurd f
row_or_map k.Set (Items AList vs) f is ne = absurd f
row_or_map kind (Items g vs) f is ne = absurd f
row_or_map kind v f is ne = absurd is
