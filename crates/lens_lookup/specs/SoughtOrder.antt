-- The order of what is looked for, as an order on keys.
use Rattle.std.specs.Prelude.{◌≡◌}
use Rattle.std.proofs.Common.{ap, refl}
use Rattle.std.specs.declared.cmp.Ordering.TheVariants.{Equal}
use Rattle.frozen_model.specs.Values.{Truth, Number, One, Bytes}
use Rattle.key_lookup.specs.Order.{IsKeyOrder}
use Rattle.key_order.proofs.Order.{value_total, same_from_Equal}
use Rattle.lens_lookup.specs.Sought.{SoughtKey, sought_number, sought_flag, sought_bytes, no_key}
use Rattle.lens_lookup.specs.Sought.{value_of_key, as_key, sought_cmp}

-- keys that are equal in the order are the same
same_sought : (a b : SoughtKey) → sought_cmp a b ≡ Equal → a ≡ b
same_sought (sought_number x) (sought_number y) h =
    ap as_key (same_from_Equal (One (Number x)) (One (Number y)) tt h)
same_sought (sought_flag x) (sought_flag y) h =
    ap as_key (same_from_Equal (One (Truth x)) (One (Truth y)) tt h)
same_sought (sought_bytes x) (sought_bytes y) h = ap as_key (same_from_Equal (Bytes x) (Bytes y) tt h)
same_sought no_key no_key h = refl
same_sought a b h = absurd cc

pub sought_order : IsKeyOrder sought_cmp
sought_order = record {
  transitive = λ a b c. value_total.trans (value_of_key a) (value_of_key b) (value_of_key c);
  exchanged = λ a b. value_total.antisymm (value_of_key a) (value_of_key b);
  equal = same_sought;
}
