use Rattle.std.proofs.Common.{◌≡◌, length, nat_lt, ap, [], arith}
use Rattle.idl_fields.specs.Nodes.{known}
use Rattle.idl_fields.proofs.NodeLaws.{length-known}
use Rattle.idl_fields.proofs.nodes.TypeNodes.has.Goals as goal

pub returns : goal.returns
returns c =
    let xs = c.args.self.now.nodes.items in
    let e : c.len.result ≡ length (known [] xs) = omega (arith, length-known [] xs, c.args.self.now.nodes.ok) in
    ap (nat_lt c.args.place) e
