-- Definitions are a set: two of them are equal in at most one way.
use Rattle.std.proofs.Common.{List}
use Rattle.std.proofs.Math.Nat.{ℕ_set}
use Rattle.std.proofs.Math.IntN.{ℤ_set}
use Rattle.std.proofs.Math.Bool.{Bool-set}
use mathlib.Core.Sum.{⊎_set}
use mathlib.Core.List.{is_set}
use Rattle.idl_profile.specs.declared.kinds.BaseType.{BaseType}
use Rattle.idl_profile.specs.Meaning as m

scalar-set : IsSet BaseType
scalar-set = hlevel (⊎_set)

ty-set : IsSet m.Ty
ty-set = m.Ty-set scalar-set ℕ_set

pub named-set : IsSet (List m.MeantNamed)
named-set = hlevel (ℕ_set, ℤ_set, Bool-set, ⊎_set, is_set, ty-set)
