use Rattle.block_region.proofs.Overwrites.{write_alone}
use Rattle.block_region.proofs.laws.writes_stay_in_their_block.Goals as goal

pub returns : goal.returns
returns c s b ws same inside = write_alone s b ws same inside
