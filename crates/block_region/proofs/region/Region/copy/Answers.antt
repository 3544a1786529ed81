use Rattle.std.proofs.Common.{ap, ◌∙◌, arith}
use Rattle.block_region.specs.Space.{returned}
use Rattle.block_region.proofs.Overwrites.{loan_is_write, write_alone}
use Rattle.block_region.proofs.region.Region.copy.Goals as goal

pub returns-clause-after : goal.returns-clause-after
returns-clause-after c =
    let s = c.args.self.now in
    let b = c.args.block.now in
    ap (returned s b) c.copy_from_slice.ensures.after
    ∙ (λ i. record { bytes = loan_is_write s b c.args.from.now c.requires.length c.lend.ensures.region.inside c.requires.taken i; taken = s.taken })

pub returns-clause-alone : goal.returns-clause-alone
returns-clause-alone c = write_alone c.args.self.now c.args.block.now c.args.from.now c.requires.length (omega (arith, c.requires.taken, c.lend.ensures.region.inside))
