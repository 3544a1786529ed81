-- What a region becomes once a loan of a block's bytes has ended.
use Rattle.std.specs.Prelude.{ℕ, List}
use Rattle.std.specs.Borrow.{Lends, MutBor, Fml, Array, u8}
use Rattle.block_region.specs.Space.{Space, Span, returned}
use Rattle.block_region.specs.contracts.region.Region.{the_row}

-- what is left behind r is what the loan leaves of the region
abbrev pub LendsBlock : MutBor Space → Span → MutBor (List ℕ) → Fml
LendsBlock s b r = Lends the_row (Array u8 0) s r (returned s.now b)
