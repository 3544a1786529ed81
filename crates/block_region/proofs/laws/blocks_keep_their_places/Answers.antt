use Rattle.block_region.proofs.Overwrites.{block_stays}
use Rattle.block_region.proofs.laws.blocks_keep_their_places.Goals as goal

pub returns : goal.returns
returns c s b len le taken = (taken, block_stays s b len le taken)
