use Rattle.std.proofs.Common.{arith, ap}
use Rattle.frozen_model.specs.Values.{inline_cells}
use Rattle.layout_tree.specs.Nodes.{at}
use Rattle.layout_tree.specs.Listing.{sub, tree_of, version_of}
use Rattle.layout_tree.specs.Reading.{item_of}
use Rattle.layout_tree.proofs.Children.{item_child, node_small}
use Rattle.content_check.proofs.Walks.{range_err, block_err, block_ok, block_here}
use Rattle.frozen_model.specs.Trees.{ASet}
use Rattle.content_check.proofs.SetForms.{set_at, set_holder, set_key}
use Rattle.content_check.proofs.sets.check_set.Goals as goal

pub returns-in-Err : goal.returns-in-Err
returns-in-Err c =
    let a = c.args in
    let l = at a.layouts.now a.node in
    range_err a.content.now ASet l a.start a.bit a.reach c.in-Err.fault (set_at l c.requires.set)
    c.in-Err.ensures.goes_on

pub overflow_add-node : goal.overflow_add-node
overflow_add-node c =
    let l = c.args.layouts.now in
    omega (
      arith,
      node_small l.version l.nodes.items (sub (tree_of l.nodes.items) c.args.node) c.args.node
          l.listing l.sound c.requires.node,
    )

pub cells_at-unit-requires : goal.cells_at-unit-requires
cells_at-unit-requires c =
    let y = c.args.layouts.now in
    record {
      node = (item_child (tree_of y.nodes.items) (version_of y.version) c.args.node c.requires.node
          (set_holder (at y c.args.node) c.requires.set)).node;
      facts = c.requires.facts;
    }

pub take_block-requires-clause-holder : goal.take_block-requires-clause-holder
take_block-requires-clause-holder c = set_holder (at c.args.layouts.now c.args.node) c.requires.set

pub take_block-requires-clause-unit : goal.take_block-requires-clause-unit
take_block-requires-clause-unit c =
    let y = c.args.layouts.now in
    let ch = item_child (tree_of y.nodes.items) (version_of y.version) c.args.node c.requires.node
    (set_holder (at y c.args.node) c.requires.set) in
    omega (arith, c.cells_at-unit.ensures.cells, ap inline_cells ch.is)

pub returns-in-Err-take_block : goal.returns-in-Err-take_block
returns-in-Err-take_block c =
    let a = c.args in
    let l = at a.layouts.now a.node in
    block_err a.content.now ASet l a.start a.bit c.in-Ok.n a.reach c.in-Err-take_block.fault
    (set_at l c.requires.set) c.in-Ok.ensures.goes_on c.in-Err-take_block.ensures.taken

pub check_set_items-requires : goal.check_set_items-requires
check_set_items-requires c =
    let a = c.args in
    let y = a.layouts.now in
    let l = at y a.node in
    let key = set_key y.version (tree_of y.nodes.items) (sub (tree_of y.nodes.items) a.node) a.node y.sound
    c.requires.node c.requires.set in
    record {
      node = c.requires.node;
      facts = c.requires.facts;
      holder = set_holder l c.requires.set;
      key = key;
      here = block_here a.content.now (item_of l) c.in-Ok.n a.reach c.in-Ok-take_block.inner
          c.requires.here.within c.requires.here.small c.in-Ok-take_block.ensures.lies;
    }

pub returns : goal.returns
returns c =
    let a = c.args in
    let l = at a.layouts.now a.node in
    block_ok a.content.now ASet l a.start a.bit c.in-Ok.n a.reach c.in-Ok-take_block.inner
    (set_at l c.requires.set) c.in-Ok.ensures.goes_on c.in-Ok-take_block.ensures.taken
    c.in-Ok-take_block.ensures.lies c.check_set_items.ensures
