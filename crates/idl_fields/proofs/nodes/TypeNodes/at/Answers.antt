use Rattle.idl_fields.proofs.NodeLaws.{at-node, at-below, at-none}
use Rattle.idl_fields.proofs.nodes.TypeNodes.at.Goals as goal

pub returns-in-Some-clause-means : goal.returns-in-Some-clause-means
returns-in-Some-clause-means c =
    let l = c.in-Some.ensures.lookup in
    let xs = c.args.self.now.nodes.items in
    at-node xs c.args.place c.in-Some.node.now c.args.self.now.placed (rw (← c.deref.ensures.value) l.3.0) (rw (← c.deref.ensures.value) l.1)

pub returns-in-Some-clause-below : goal.returns-in-Some-clause-below
returns-in-Some-clause-below c =
    let l = c.in-Some.ensures.lookup in
    let xs = c.args.self.now.nodes.items in
    at-below xs c.args.place c.in-Some.node.now c.args.self.now.placed (rw (← c.deref.ensures.value) l.3.0) (rw (← c.deref.ensures.value) l.1)

pub returns-in-None-clause-means : goal.returns-in-None-clause-means
returns-in-None-clause-means c =
    let l = c.in-None.ensures.lookup in
    at-none c.args.self.now.nodes.items c.args.place (rw (← c.deref.ensures.value) l.3)
