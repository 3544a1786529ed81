-- How far a type may reach back in its list.
use Rattle.std.proofs.Common.{◌≡◌, ℕ, suc, ◌≤◌, ◌<◌, max, true, nat_lt, arith}
use Rattle.std.proofs.lemmas.Bool.{and_parts}
use Rattle.std.proofs.lemmas.Bool.Decides.{nat_tests}
use Rattle.idl_fields.specs.declared.draft.TypeNode.{TypeNode}
use Rattle.idl_fields.specs.declared.draft.TypeNode.TheVariants as v
use Rattle.idl_fields.specs.Nodes.{parts_below}

-- one more than the place of its last part
abbrev pub rank : TypeNode → ℕ
rank (v.Base b) = 0
rank (v.Enum i) = 0
rank (v.Struct i) = 0
rank (v.List x) = suc x
rank (v.Set x) = suc x
rank (v.Map x y) = suc (max x y)

lt-true : (i k : ℕ) → nat_lt i k ≡ true → i < k
lt-true i k e = grind (arith, nat_tests)

pub rank-below : (i : ℕ) (x : TypeNode) → parts_below i x ≡ true → rank x ≤ i
rank-below i (v.Base b) h = omega arith
rank-below i (v.Enum k) h = omega arith
rank-below i (v.Struct k) h = omega arith
rank-below i (v.List x) h = omega (arith, lt-true x i h)
rank-below i (v.Set x) h = omega (arith, lt-true x i h)
rank-below i (v.Map x y) h = let a = and_parts (nat_lt x i) (nat_lt y i) h in omega (arith, lt-true x i a.0, lt-true y i a.1)
