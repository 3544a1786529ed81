use Rattle.typed_reading.proofs.LeastLaws.{least_some, least_none}
use Rattle.typed_reading.proofs.laws.least_fault_is_least.Goals as goal

pub returns : goal.returns
returns c fs = record { some = least_some fs; none = least_none fs }
