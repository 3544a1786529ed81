-- How deep a value is: what a walk over it falls by.
use Rattle.std.specs.Prelude.{ℕ, suc, max}
use Rattle.frozen_model.specs.Values.{Value, Values, One, Bytes, Items, Absent, Present, Record, NoValue, And}

abbrev mutual
  pub height : Value → ℕ
  height (One x) = 0
  height (Bytes bs) = 0
  height (Items g vs) = suc (heights vs)
  height Absent = 0
  height (Present v) = suc (height v)
  height (Record ids vs) = suc (heights vs)

  pub heights : Values → ℕ
  heights NoValue = 0
  heights (And v vs) = max (height v) (heights vs)
