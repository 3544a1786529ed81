use Rattle.std.proofs.Common.{◌≡◌, ◌-◌, suc, arith}
use Rattle.idl_fields.proofs.types.read_key.Goals as goal

pub returns-then-depth-gt0 : goal.returns-then-depth-gt0
returns-then-depth-gt0 c =
    let d = c.args.depth in
    let e : suc (d - 1) ≡ d = omega (arith, c.if-depth-gt0.true) in
    let k = c.read_key_type.ensures (d - 1) in
    rw e at k
