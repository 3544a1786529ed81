use Rattle.std.proofs.Common.{◌≡◌, ◌+◌, ◌-◌, ◌<◌, ◌≤◌, ◌/◌, ◌^◌, ℕ, arith, sym, subst}
use Rattle.std.proofs.lemmas.Nat.{shr_below}
use Rattle.bit_bench.proofs.write_all.Goals as goal

high_bits : (x w : ℕ) → w ≤ 64 → x < 2 ^ 64 → x / 2 ^ (64 - w) < 2 ^ w
high_bits x w le fits = let e : 64 ≡ w + (64 - w) = omega arith in shr_below x w (64 - w) (subst (λ z. x < 2 ^ z) e fits)

pub write_bits-requires-clause-fits : goal.write_bits-requires-clause-fits
write_bits-requires-clause-fits c = high_bits _ c.loop.place.width c.loop.place.narrow (omega arith)
