use Rattle.std.proofs.Common.{ap, ◌∙◌, [], arith}
use Rattle.std.proofs.Common.{is_ok}
use Rattle.idl_fields.specs.Nodes.{known}
use Rattle.idl_fields.proofs.NodeLaws.{known-more, placed-push, length-known}
use Rattle.idl_fields.proofs.nodes.TypeNodes.push.Goals as goal

pub invariant_of-self : goal.invariant_of-self
invariant_of-self c = record { placed = placed-push c.args.self.now.nodes.items _ c.args.node (is_ok c.push.result) c.args.self.now.placed c.requires c.push.ensures.items }

pub returns-clause-place : goal.returns-clause-place
returns-clause-place c = omega (arith, length-known [] c.args.self.now.nodes.items, c.args.self.now.nodes.ok)

pub returns-clause-grows : goal.returns-clause-grows
returns-clause-grows c = ap (known []) c.in_ok-push.ensures.items ∙ known-more [] c.args.self.now.nodes.items c.args.node
