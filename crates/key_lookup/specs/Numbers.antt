-- What contracts see of numbers that are keys.
use Rattle.std.specs.Prelude.{ℕ, List}
use Rattle.key_lookup.specs.declared.numbers.Numbers.{Numbers}

-- the numbers, the lowest first
abbrev pub numbers_of : Numbers → List ℕ
numbers_of s = s.numbers.now
