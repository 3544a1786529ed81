-- The fields of a struct by rising id.
use Rattle.std.specs.Prelude.{ℕ, ℤ, List, nat_lt, map, zip}
use Rattle.std.specs.Int.{w16, cast_unsigned}
use Rattle.base_lists.specs.InOrder.{in_order}
use Rattle.frozen_model.specs.Values.{Value, Record}
use Rattle.typed_tree.specs.declared.spot.Link.{Link}
use Rattle.key_order.specs.InOrder.{row}

-- the struct of fields with these ids and values
abbrev pub record_of : List ℕ → List Value → Value
record_of ids vs = let fields = in_order nat_lt (λ f. f.0) (zip ids vs) in Record (map (λ f. f.0) fields) (row (map (λ f. f.1) fields))

-- The id of 16 bits as the natural number that it is in a value: its bits without a sign. So it is the id itself from 0
-- on, and 65,536 more below 0.
abbrev pub id_number : ℤ → ℕ
id_number id = cast_unsigned w16 id

abbrev pub id_numbers : List ℤ → List ℕ
id_numbers ids = map id_number ids

abbrev pub field_link : ℕ × ℕ → Link
field_link f = record { id = f.0; node = f.1 }
