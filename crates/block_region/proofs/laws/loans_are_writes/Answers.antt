use Rattle.block_region.proofs.Overwrites.{loan_is_write}
use Rattle.block_region.proofs.laws.loans_are_writes.Goals as goal

pub returns : goal.returns
returns c s b ws same le taken = λ i. record { bytes = loan_is_write s b ws same le taken i; taken = s.taken }
