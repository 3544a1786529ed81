use Rattle.std.proofs.Common.{◌≡◌, ◌+◌, length, subst, ap, sym, ◌∙◌, arith}
use Rattle.block_region.specs.Space.{Space, Span, IsRegion}
use Rattle.block_region.proofs.Overwrites.{region_of, zeros_taken}
use Rattle.block_region.proofs.region.Region.take.Goals as goal

pub returns-then-len-self-clause-region : goal.returns-then-len-self-clause-region
returns-then-len-self-clause-region c = subst (λ (s : Space). IsRegion s) c.self.view_is (region_of c.self.inside.bytes.items c.self.inside.size c.self.invariant.0)

pub returns-clause-after : goal.returns-clause-after
returns-clause-after c =
    let xs = c.self.inside.bytes.items in
    let long : length xs ≡ c.len-start.result = omega arith in
    let both = zeros_taken xs c.append_zeros.new.bytes.items c.len-start.result c.args.len c.self.inside.size long (omega arith) c.append_zeros.ensures.items in
    let block : c.len-start.result + c.args.len ≡ c.new.result.start + c.new.result.len = ap (λ (b : Span). b.start + b.len) (sym c.new.ensures) in
    λ i. record { bytes = (both.0 ∙ ap (λ (s : Space). s.bytes) c.self.view_is) i; taken = (both.1 ∙ block) i }
