use Rattle.compact_wire.proofs.DigitLaws.{unzigzag-zigzag, zigzag-unzigzag}
use Rattle.compact_wire.proofs.laws.zigzag_is_inverse.Goals as goal

pub returns-clause-signed : goal.returns-clause-signed
returns-clause-signed c = unzigzag-zigzag

pub returns-clause-unsigned : goal.returns-clause-unsigned
returns-clause-unsigned c = zigzag-unzigzag
