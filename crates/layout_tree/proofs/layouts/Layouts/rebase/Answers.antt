use Rattle.std.proofs.Common.{arith, w64}
use Rattle.std.proofs.lemmas.Int.{to_z-of_z}
use mir.Val.{to_z, of_z}
use Rattle.layout_tree.proofs.Based.{bases_as, base_in, second_of}
use Rattle.layout_tree.proofs.layouts.Layouts.rebase.Goals as goal

pub index_mut-requires : goal.index_mut-requires
index_mut-requires c =
    let l = c.args.self.now in
    omega (arith, l.nodes.ok.0, base_in l.nodes.items c.args.node c.args.base l.listing c.requires.leaf)

pub invariant_of-self : goal.invariant_of-self
invariant_of-self c =
    let l = c.args.self.now in
    let n = bases_as l.version l.nodes.items c.args.node c.args.base (to_z w64 (of_z w64 c.args.base))
    c.index_mut.result.now (to_z-of_z w64 c.args.base c.ranges.base)
    (second_of l.version c.requires.version) l.listing l.sound c.requires.leaf
    c.index_mut.ensures.value in
    record { listing = n.listing; sound = n.sound; relaxing = l.relaxing }

pub returns-clause-noted : goal.returns-clause-noted
returns-clause-noted c =
    let l = c.args.self.now in
    (bases_as l.version l.nodes.items c.args.node c.args.base (to_z w64 (of_z w64 c.args.base))
    c.index_mut.result.now (to_z-of_z w64 c.args.base c.ranges.base) (second_of l.version c.requires.version)
    l.listing l.sound c.requires.leaf c.index_mut.ensures.value).tells
