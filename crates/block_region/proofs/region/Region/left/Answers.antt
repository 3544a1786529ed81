use Rattle.std.proofs.Common.{subst}
use Rattle.block_region.specs.Space.{Space, IsRegion}
use Rattle.block_region.proofs.Overwrites.{region_of}
use Rattle.block_region.proofs.region.Region.left.Goals as goal

pub returns-clause-region : goal.returns-clause-region
returns-clause-region c = subst (λ (s : Space). IsRegion s) c.self.view_is (region_of c.self.inside.bytes.items c.self.inside.size c.self.invariant.0)
