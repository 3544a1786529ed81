use Rattle.typed_reading.proofs.Valued.{typed_is_value}
use Rattle.typed_reading.proofs.laws.typed_is_a_value.Goals as goal

pub returns : goal.returns
returns c t w b v a s spelled typed = typed_is_value t w b v a s spelled typed
