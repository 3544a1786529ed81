-- The order that is derived for keys is that of the values.
use Rattle.std.proofs.Common.{rules, IsTrue, ◌↔◌, ◌≡◌, ◌<◌, ◌⊎◌, inl, inr, arith, true, false, refl, sym, Less, Equal}
use Rattle.std.specs.Ordering.{int_cmp}
use Rattle.key_order.specs.contracts.key.KeyOrd.TheImpl.{ghosts}
use Rattle.key_order.specs.contracts.key.KeyPartialEq.TheImpl.{ghosts as equal}
use Rattle.key_order.specs.declared.key.Key.{Key}
use Rattle.key_order.specs.declared.key.Key.TheVariants as key
use Rattle.key_order.specs.Keys.{value_of, kind_rank}
use Rattle.key_order.proofs.Order.{value_cmp, then_equal, same_from_Equal, key_less_from_Less}
use Rattle.frozen_model.specs.Values.{Truth, Number, One, Bytes, key_less}

pub key_cmp-is : (a b : Key) → ghosts.cmp a b ≡ value_cmp (value_of a) (value_of b)
key_cmp-is (key.Flag true) (key.Flag true) = refl
key_cmp-is (key.Flag true) (key.Flag false) = refl
key_cmp-is (key.Flag false) (key.Flag true) = refl
key_cmp-is (key.Flag false) (key.Flag false) = refl
key_cmp-is (key.Number x) (key.Number y) = sym (then_equal (int_cmp x y))
key_cmp-is (key.Bytes s) (key.Bytes t) = refl
key_cmp-is (key.Flag a) (key.Number y) = refl
key_cmp-is (key.Flag a) (key.Bytes t) = refl
key_cmp-is (key.Number x) (key.Flag b) = refl
key_cmp-is (key.Number x) (key.Bytes t) = refl
key_cmp-is (key.Bytes s) (key.Flag b) = refl
key_cmp-is (key.Bytes s) (key.Number y) = refl

-- keys that are equal in the order are one value
pub same_key : (a b : Key) → value_cmp (value_of a) (value_of b) ≡ Equal → value_of a ≡ value_of b
same_key (key.Flag a) (key.Flag b) h = same_from_Equal (One (Truth a)) (One (Truth b)) tt h
same_key (key.Number x) (key.Number y) h = same_from_Equal (One (Number x)) (One (Number y)) tt h
same_key (key.Bytes s) (key.Bytes t) h = same_from_Equal (Bytes s.now) (Bytes t.now) tt h
same_key (key.Flag a) (key.Number y) h = absurd (cc)
same_key (key.Flag a) (key.Bytes t) h = absurd (cc)
same_key (key.Number x) (key.Flag b) h = absurd (cc)
same_key (key.Number x) (key.Bytes t) h = absurd (cc)
same_key (key.Bytes s) (key.Flag b) h = absurd (cc)
same_key (key.Bytes s) (key.Number y) h = absurd (cc)

-- `==` of keys says whether they are one value
pub key_eq-Decides : (a b : Key) → IsTrue (equal.eq a b) ↔ (value_of a ≡ value_of b)
key_eq-Decides a b = search rules

-- what is less is of a lesser kind, or less among its own
pub less_splits : (a b : Key) → value_cmp (value_of a) (value_of b) ≡ Less → (kind_rank (value_of a) < kind_rank (value_of b)) ⊎ (key_less (value_of a) (value_of b) ≡ true)
less_splits (key.Flag a) (key.Flag b) h = inr (key_less_from_Less (One (Truth a)) (One (Truth b)) tt h)
less_splits (key.Number x) (key.Number y) h = inr (key_less_from_Less (One (Number x)) (One (Number y)) tt h)
less_splits (key.Bytes s) (key.Bytes t) h = inr (key_less_from_Less (Bytes s.now) (Bytes t.now) tt h)
less_splits (key.Flag a) (key.Number y) h = absurd (cc)
less_splits (key.Flag a) (key.Bytes t) h = inl (omega arith)
less_splits (key.Number x) (key.Flag b) h = inl (omega arith)
less_splits (key.Number x) (key.Bytes t) h = inl (omega arith)
less_splits (key.Bytes s) (key.Flag b) h = absurd (cc)
less_splits (key.Bytes s) (key.Number y) h = absurd (cc)
