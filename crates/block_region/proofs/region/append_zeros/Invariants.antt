use Rattle.std.proofs.Common.{◌-◌, ◌≡◌, ◌+◌, ◌≤◌, length, replicate, ◌++◌, vec_capacity}
use Rattle.block_region.proofs.region.append_zeros.Given as goal

-- the zeros that are left are those that are to come, and there is room for them
abbrev pub invariant-loop-left : goal.invariant-loop-left
invariant-loop-left l = (l.left ≤ l.fn.len)
    × (l.bytes.items ≡ l.fn.bytes.items ++ replicate (l.fn.len - l.left) 0)
    × (length l.bytes.items + l.left ≤ vec_capacity l.bytes)
    × (vec_capacity l.fn.bytes ≤ vec_capacity l.bytes)

abbrev pub decreases-loop-left : goal.decreases-loop-left
decreases-loop-left l = l.left
