use Rattle.block_region.proofs.Overwrites.{write_keeps}
use Rattle.block_region.proofs.laws.writes_keep_regions.Goals as goal

pub returns : goal.returns
returns c s b ws r taken same = write_keeps s b ws r taken same
