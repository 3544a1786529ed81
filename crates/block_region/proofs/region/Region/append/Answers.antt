use Rattle.std.proofs.Common.{◌≡◌, ◌++◌, length, ap, sym, ◌∙◌, arith, if◌then◌else◌, is_ok}
use Rattle.block_region.specs.Space.{Space, Span, written, handed_out}
use Rattle.block_region.proofs.Overwrites.{appended}
use Rattle.block_region.proofs.region.Region.append.Goals as goal

pub returns-clause-after : goal.returns-clause-after
returns-clause-after c =
    let xs = c.self.inside.bytes.items in
    let ws = c.args.from.now in
    let ys = c.extend_from_slice.new.self.items in
    let now : ys ≡ xs ++ ws = c.extend_from_slice.ensures.items ∙ ap (λ b. if b then xs ++ ws else xs) (ap is_ok c.unwrap.ensures) in
    let both = appended xs ys ws c.self.inside.size (omega arith) now in
    let long : length xs ≡ c.len-start.result = omega arith in
    let block : c.new.result ≡ record { start = length xs; len = length ws } = c.new.ensures ∙ (λ i. record { start = sym long i; len = length ws }) in
    (λ i. record { bytes = both.0 i; taken = both.1 i })
    ∙ ap (λ (s : Space). written (handed_out s (record { start = length xs; len = length ws })) (record { start = length xs; len = length ws }) ws) c.self.view_is
    ∙ ap (λ (b : Span). written (handed_out c.args.self.now b) b ws) (sym block)
