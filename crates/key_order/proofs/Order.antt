-- The order of keys as one total order on all values: by kind, then by number, then by bytes.
use Rattle.std.proofs.Common.{◌≡◌, ℕ, ◌<◌, ℤ, pos, List, [], Bool, true, false, cond, Ordering, Less, Equal, Greater, nat_cmp, is_lt, is_eq, refl, sym, ap, ◌∙◌, arith}
use Rattle.std.specs.Ordering.{int_cmp, ordering_then, ordering_reverse}
use Rattle.std.specs.Cmp.{IsTotalOrder}
use Rattle.std.specs.Cmp.Lexicographic.{slice_cmp}
use Rattle.std.proofs.lemmas.Bool.Decides.{Decides-int_eq, nat_tests}
use Rattle.std.proofs.lemmas.Cmp.{then_total, on_total, int_cmp_total, nat_list_cmp_total, nat_cmp_total, tied_itself}
use Rattle.std.proofs.lemmas.Int.{ints}
use Rattle.std.proofs.lemmas.Map.Text.{is_eq-slice_cmp}
use Rattle.std.proofs.lemmas.Slice.Eq.{bytes_eq-Decides}
use Rattle.frozen_model.specs.Values.{Truth, Number, Value, One, Bytes, key_less}
use Rattle.key_order.specs.Keys.{kind_rank, IsOneKind}

abbrev number : Value → ℤ
number (One (Truth b)) = cond b (pos 1) (pos 0)
number (One (Number z)) = z
number _ = pos 0

abbrev bytes : Value → List ℕ
bytes (Bytes bs) = bs
bytes _ = []

abbrev pub value_cmp : Value → Value → Ordering
value_cmp v u = ordering_then (nat_cmp (kind_rank v) (kind_rank u)) (ordering_then (int_cmp (number v) (number u)) (slice_cmp nat_cmp (bytes v) (bytes u)))

pub value_total : IsTotalOrder value_cmp
value_total = then_total (on_total kind_rank nat_cmp_total) (then_total (on_total number int_cmp_total) (on_total bytes nat_list_cmp_total))

-- ---- keys of one kind

pub then_equal : (o : Ordering) → ordering_then o Equal ≡ o
then_equal Less = refl
then_equal Equal = refl
then_equal Greater = refl

less_from_is_lt : (o : Ordering) → is_lt o ≡ true → o ≡ Less
less_from_is_lt Less h = refl
less_from_is_lt Equal h = absurd (cc)
less_from_is_lt Greater h = absurd (cc)

pub one_kind_from_less : (v u : Value) → key_less v u ≡ true → IsOneKind v u
one_kind_from_less (One (Truth false)) (One (Truth b)) h = tt
one_kind_from_less (One (Truth true)) _ h = absurd (cc)
one_kind_from_less (One (Number x)) (One (Number y)) h = tt
one_kind_from_less (Bytes a) (Bytes b) h = tt
one_kind_from_less _ _ h = absurd (cc)

pub one_kind-sym : (v u : Value) → IsOneKind v u → IsOneKind u v
one_kind-sym (One (Truth a)) (One (Truth b)) h = tt
one_kind-sym (One (Number x)) (One (Number y)) h = tt
one_kind-sym (Bytes a) (Bytes b) h = tt
one_kind-sym _ _ h = absurd h

pub one_kind-trans : (v u w : Value) → IsOneKind v u → IsOneKind u w → IsOneKind v w
one_kind-trans (One (Truth a)) (One (Truth b)) (One (Truth c)) h g = tt
one_kind-trans (One (Number x)) (One (Number y)) (One (Number z)) h g = tt
one_kind-trans (Bytes a) (Bytes b) (Bytes c) h g = tt
one_kind-trans (One (Truth a)) (One (Truth b)) _ h g = absurd g
one_kind-trans (One (Number x)) (One (Number y)) _ h g = absurd g
one_kind-trans (Bytes a) (Bytes b) _ h g = absurd g
one_kind-trans _ _ w h g = absurd h

pub Less_from_key_less : (v u : Value) → key_less v u ≡ true → value_cmp v u ≡ Less
Less_from_key_less (One (Truth false)) (One (Truth true)) h = refl
Less_from_key_less (One (Truth true)) _ h = absurd (cc)
Less_from_key_less (One (Number x)) (One (Number y)) h = then_equal (int_cmp x y) ∙ grind (arith, ints)
Less_from_key_less (Bytes a) (Bytes b) h = less_from_is_lt (slice_cmp nat_cmp a b) h
Less_from_key_less _ _ h = absurd (cc)

pub key_less_from_Less : (v u : Value) → IsOneKind v u → value_cmp v u ≡ Less → key_less v u ≡ true
key_less_from_Less (One (Truth false)) (One (Truth true)) k h = refl
key_less_from_Less (One (Truth false)) (One (Truth false)) k h = absurd (cc)
key_less_from_Less (One (Truth true)) (One (Truth b)) k h = absurd (by b h)
  where
    by : (b : Bool) → value_cmp (One (Truth true)) (One (Truth b)) ≡ Less → ⊥
    by true h = cc
    by false h = cc
key_less_from_Less (One (Number x)) (One (Number y)) k h = let e : int_cmp x y ≡ Less = sym (then_equal (int_cmp x y)) ∙ h in grind (arith, ints)
key_less_from_Less (Bytes a) (Bytes b) k h = ap is_lt h
key_less_from_Less _ _ k h = absurd k

pub same_from_Equal : (v u : Value) → IsOneKind v u → value_cmp v u ≡ Equal → v ≡ u
same_from_Equal (One (Truth true)) (One (Truth true)) k h = refl
same_from_Equal (One (Truth false)) (One (Truth false)) k h = refl
same_from_Equal (One (Truth true)) (One (Truth false)) k h = absurd (cc)
same_from_Equal (One (Truth false)) (One (Truth true)) k h = absurd (cc)
same_from_Equal (One (Number x)) (One (Number y)) k h = let e : int_cmp x y ≡ Equal = sym (then_equal (int_cmp x y)) ∙ h in ap (λ z. One (Number z)) ((Decides-int_eq x y).0 (ap is_eq e))
same_from_Equal (Bytes a) (Bytes b) k h = ap Bytes ((bytes_eq-Decides a b).0 (sym (is_eq-slice_cmp a b) ∙ ap is_eq h))
same_from_Equal _ _ k h = absurd k

pub Equal_from_same : (v u : Value) → v ≡ u → value_cmp v u ≡ Equal
Equal_from_same v u e = ap (value_cmp v) (sym e) ∙ tied_itself value_total v

pub Greater_from_key_less : (v u : Value) → key_less u v ≡ true → value_cmp v u ≡ Greater
Greater_from_key_less v u h = value_total.antisymm v u ∙ ap ordering_reverse (Less_from_key_less u v h)

pub key_less_from_Greater : (v u : Value) → IsOneKind v u → value_cmp v u ≡ Greater → key_less u v ≡ true
key_less_from_Greater v u k h = key_less_from_Less u v (one_kind-sym v u k) (value_total.antisymm u v ∙ ap ordering_reverse h)

-- ---- keys of two kinds

pub Less_from_kinds : (v u : Value) → kind_rank v < kind_rank u → value_cmp v u ≡ Less
Less_from_kinds v u h = let less : nat_cmp (kind_rank v) (kind_rank u) ≡ Less = grind (arith, nat_tests) in ap (λ o. ordering_then o (ordering_then (int_cmp (number v) (number u)) (slice_cmp nat_cmp (bytes v) (bytes u)))) less

pub Greater_from_kinds : (v u : Value) → kind_rank u < kind_rank v → value_cmp v u ≡ Greater
Greater_from_kinds v u h = value_total.antisymm v u ∙ ap ordering_reverse (Less_from_kinds u v h)
