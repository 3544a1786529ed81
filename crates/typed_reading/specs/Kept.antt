-- The keys of a set or a map that are kept while it is read.
use Rattle.std.specs.Prelude.{◌≡◌, ℕ, ◌<◌, ℤ, pos, negsuc, List, ◌++◌, length}
use Rattle.std.specs.List.{AllByRecursion}
use Rattle.frozen_model.specs.Values.{Value, Truth, Number, One}
use Rattle.compact_wire.specs.declared.kind.Kind.{Kind}
use Rattle.compact_wire.specs.declared.kind.Kind.TheVariants as k
use Rattle.key_order.specs.declared.repeats.PlacedKey.{PlacedKey}
use Rattle.key_order.specs.Keys.{value_of}
use Rattle.key_order.specs.Entries.{placed}

-- ---- kinds that have few values

abbrev pub IsFlag : Value → Type 0
IsFlag (One (Truth b)) = Unit {0}
IsFlag _ = ⊥

-- from -half on, and below half
abbrev pub IsNear : ℕ → ℤ → Type 0
IsNear half (pos n) = n < half
IsNear half (negsuc n) = n < half

abbrev pub IsNumberNear : ℕ → Value → Type 0
IsNumberNear half (One (Number z)) = IsNear half z
IsNumberNear half _ = ⊥

-- a key is one of the few values that its kind has; of other kinds nothing is said
abbrev pub IsOfKind : Kind → Value → Type 0
IsOfKind k.Flag v = IsFlag v
IsOfKind k.I8 v = IsNumberNear 128 v
IsOfKind k.I16 v = IsNumberNear 32768 v
IsOfKind _ v = Unit {0}

-- so many keys are more than their kind has values
abbrev pub AreMore : Kind → ℕ → Type 0
AreMore k.Flag n = 2 < n
AreMore k.I8 n = 256 < n
AreMore k.I16 n = 65536 < n
AreMore _ n = ⊥

-- The entries are the first of these keys. Some are left out only behind more than their kind has values.
pub record AreKept (kind : Kind) (ks : List (ℕ × Value)) (es : List PlacedKey) : Type 0 where
  pub more : List (ℕ × Value)
  pub parts : ks ≡ placed es ++ more
  pub of_kind : AllByRecursion (λ e. IsOfKind kind (value_of e.key)) es
  pub enough : 0 < length more → AreMore kind (length es)
