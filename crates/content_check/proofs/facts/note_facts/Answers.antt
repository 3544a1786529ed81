use Rattle.std.proofs.Common.{◌<◌, arith}
use Rattle.layout_tree.specs.Listing.{tree_of}
use Rattle.layout_tree.proofs.Numbers.{number_of_part}
use Rattle.layout_tree.proofs.Readings.{few_listed, length_listing}
use Rattle.content_check.proofs.Noting.{noted, length_noted}
use Rattle.content_check.proofs.facts.note_facts.Goals as goal

pub bounds-facts-node : goal.bounds-facts-node
bounds-facts-node c =
    let l = c.args.layouts.now in
    omega (
      arith,
      c.loop-node.invariant.1,
      c.loop-node-test.true,
      c.count-node-end.ensures,
      length_listing
          l.nodes.items l.listing,
      few_listed l.version l.nodes.items l.listing l.sound,
    )

pub loop-node-preserved : goal.loop-node-preserved
loop-node-preserved c =
    let l = c.args.layouts.now in
    let k = c.loop-node in
    let few = few_listed l.version l.nodes.items l.listing l.sound in
    let inside : k.node < 4096 = omega (
      arith,
      c.loop-node-test.true,
      c.count-node-end.ensures,
      length_listing
          l.nodes.items l.listing,
      few,
    ) in (
      noted l k.facts k.node c.facts_of.result (omega (arith, k.invariant.1, inside)) c.facts_of.ensures
          k.invariant.0,
      length_noted k.facts k.node c.facts_of.result k.invariant.1,
    )

pub returns : goal.returns
returns c n p =
    let l = c.args.layouts.now in
    c.loop-node.invariant.0 n (omega
    (arith, number_of_part (tree_of l.nodes.items) n p, c.loop-node-test.false, c.count-node-end.ensures))
    p
