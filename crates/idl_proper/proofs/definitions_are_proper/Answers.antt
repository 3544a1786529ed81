use Rattle.idl_proper.proofs.Meaning.{proper-from}
use Rattle.idl_proper.proofs.definitions_are_proper.Goals as goal

pub returns : goal.returns
returns c text d u h = proper-from text d u h
