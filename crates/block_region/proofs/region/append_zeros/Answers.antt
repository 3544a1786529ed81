use Rattle.std.proofs.Common.{◌≡◌, ◌+◌, ◌-◌, length, replicate, ◌++◌, ap, ◌∙◌, arith, if◌then◌else◌, is_ok, take}
use Rattle.std.proofs.lemmas.List.{length-append, take-replicate}
use Rattle.block_region.proofs.Overwrites.{more_zeros}
use Rattle.block_region.proofs.region.append_zeros.Goals as goal

pub loop-left-preserved : goal.loop-left-preserved
loop-left-preserved c =
    let xs = c.loop-left.bytes.items in
    let ys = c.extend_from_slice.new.self.items in
    let now : ys ≡ xs ++ replicate 256 0 =
    c.extend_from_slice.ensures.items ∙ ap (λ b. if b then xs ++ replicate 256 0 else xs) (ap is_ok c.unwrap.ensures) in
    let sum : (c.args.len - c.loop-left.left) + 256 ≡ c.args.len - (c.loop-left.left - 256) = omega (arith, c.loop-left.invariant.0) in
    let long : length ys ≡ length xs + 256 = ap length now ∙ length-append xs (replicate 256 0) in (
      omega (arith, c.loop-left.invariant.0),
      more_zeros c.args.bytes.now.items xs ys (c.args.len - c.loop-left.left) 256 (c.args.len - (c.loop-left.left - 256)) c.loop-left.invariant.1 now sum,
      omega (arith, c.loop-left.invariant.2, long),
      omega (arith, c.loop-left.invariant.3, c.extend_from_slice.ensures.capacity),
    )

pub returns-clause-items : goal.returns-clause-items
returns-clause-items c =
    let xs = c.loop-left.bytes.items in
    let ys = c.extend_from_slice-2.new.self.items in
    let now : ys ≡ xs ++ replicate c.loop-left.left 0 =
    c.extend_from_slice-2.ensures.items
    ∙ ap (λ b. if b then xs ++ take c.loop-left.left (replicate 256 0) else xs) (ap is_ok c.unwrap-2.ensures)
    ∙ ap (λ z. xs ++ z) (take-replicate c.loop-left.left 256 0 (omega arith)) in
    more_zeros c.args.bytes.now.items xs ys (c.args.len - c.loop-left.left) c.loop-left.left c.args.len c.loop-left.invariant.1 now (omega (arith, c.loop-left.invariant.0))
