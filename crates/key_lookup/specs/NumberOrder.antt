-- The order of numbers, as an order on keys.
use Rattle.std.specs.Prelude.{◌≡◌, ℕ}
use Rattle.std.specs.Ordering.{nat_cmp}
use Rattle.std.specs.declared.cmp.Ordering.TheVariants.{Equal}
use Rattle.std.proofs.lemmas.Cmp.{nat_cmp_total, ranked}
use Rattle.std.proofs.Common.{sym}
use Rattle.key_lookup.specs.Order.{IsKeyOrder}

equal_numbers : (a b : ℕ) → nat_cmp a b ≡ Equal → a ≡ b
equal_numbers a b e = ranked a b Equal (sym e)

pub nat_order : IsKeyOrder nat_cmp
nat_order = record { transitive = nat_cmp_total.trans; exchanged = nat_cmp_total.antisymm; equal = equal_numbers }
