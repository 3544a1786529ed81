-- A run has as many links as it says.
use Rattle.std.proofs.Common.{◌∙◌, ap}
use Rattle.typed_tree.specs.Parts.{items_of}
use Rattle.typed_tree.specs.Pools.{store_of, values_of}
use Rattle.typed_tree.proofs.Reading.{count-run, count-run-pairs}
use Rattle.typed_tree.proofs.tree.TreeRef.len.Goals as goal

pub returns-in-Map : goal.returns-in-Map
returns-in-Map c =
    let p = c.args.self.pool.now in
    c.from-in-Map.ensures ∙ count-run-pairs (store_of p) (values_of p) c.args.self.node c.in-Map.run' _ c.in-Map.ensures.fit (ap items_of c.in-Map.ensures.value)

pub returns-in-List : goal.returns-in-List
returns-in-List c =
    let p = c.args.self.pool.now in
    c.from.ensures ∙ count-run (store_of p) (values_of p) c.args.self.node c.in-List.run' _ c.in-List.ensures.fit (ap items_of c.in-List.ensures.value)

pub returns-in-Set : goal.returns-in-Set
returns-in-Set c =
    let p = c.args.self.pool.now in
    c.from-in-Set.ensures ∙ count-run (store_of p) (values_of p) c.args.self.node c.in-Set.run' _ c.in-Set.ensures.fit (ap items_of c.in-Set.ensures.value)
