use Rattle.file_check.proofs.Openings.{one_file}
use Rattle.file_check.proofs.laws.files_are_unique.Goals as goal

pub returns : goal.returns
returns c = one_file c.schemas_are_exact.ensures.one c.packing_is_injective.ensures
