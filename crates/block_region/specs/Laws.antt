-- Laws of writes through a block, and of blocks in a greater region.
use Rattle.std.specs.Prelude.{◌≡◌, ℕ, ◌+◌, ◌≤◌, List, length, take, drop}
use Rattle.block_region.specs.Space.{Space, Span, IsRegion, IsTaken, block_bytes, written, returned, grown}

-- a write as long as its block, in a region that has the block, leaves the bytes before and after it, and the block
-- has what was written
pub record WritesAlone (s : Space) (b : Span) (ws : List ℕ) : Type 0 where
  pub block : block_bytes (written s b ws) b ≡ ws
  pub before : take b.start (written s b ws).bytes ≡ take b.start s.bytes
  pub after : drop (b.start + b.len) (written s b ws).bytes ≡ drop (b.start + b.len) s.bytes
  pub length : length (written s b ws).bytes ≡ length s.bytes

abbrev pub WritesStayInTheirBlock : Type 0
WritesStayInTheirBlock = (s : Space) (b : Span) (ws : List ℕ) → length ws ≡ b.len → b.start + b.len ≤ length s.bytes
    → WritesAlone s b ws

-- a loan leaves what a write of the same bytes does
abbrev pub LoansAreWrites : Type 0
LoansAreWrites = (s : Space) (b : Span) (ws : List ℕ) → length ws ≡ b.len → s.taken ≤ length s.bytes → IsTaken s b
    → returned s b ws ≡ written s b ws

-- after a write all behind the part that is handed out is still zero
abbrev pub WritesKeepRegions : Type 0
WritesKeepRegions = (s : Space) (b : Span) (ws : List ℕ) → IsRegion s → IsTaken s b → length ws ≡ b.len
    → IsRegion (written s b ws)

-- a block of a region is a block of the grown one, with the same bytes
abbrev pub BlocksKeepTheirPlaces : Type 0
BlocksKeepTheirPlaces = (s : Space) (b : Span) (len : ℕ) → s.taken ≤ length s.bytes → IsTaken s b
    → IsTaken (grown s len) b × (block_bytes (grown s len) b ≡ block_bytes s b)
