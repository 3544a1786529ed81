use Rattle.std.proofs.Common.{arith}
use Rattle.layout_tree.proofs.Readings.{few_listed, length_listing}
use Rattle.layout_tree.proofs.layouts.Layouts.count.Goals as goal

pub overflow_cast-result : goal.overflow_cast-result
overflow_cast-result c = let l = c.args.self.now in omega
    (arith, c.len.ensures, l.nodes.ok.0, few_listed l.version l.nodes.items l.listing l.sound)

pub returns : goal.returns
returns c = let l = c.args.self.now in omega
    (arith, c.len.ensures, l.nodes.ok.0, length_listing l.nodes.items l.listing)
