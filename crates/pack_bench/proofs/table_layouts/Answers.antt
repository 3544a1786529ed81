use Rattle.std.proofs.Common.{rules, ◌≡◌, [], ◌∷◌}
use Rattle.pack_bench.specs.Table.{described_table}
use Rattle.pack_bench.proofs.Listed.{table_listed}
use Rattle.pack_bench.proofs.table_layouts.Goals as goal

pub from_nodes-requires : goal.from_nodes-requires
from_nodes-requires c =
    let e : c.in_ok-to_vec.field-0.items ≡ c.node.result ∷ c.node-2.result ∷ c.node-3.result ∷ c.node-4.result ∷ c.node-5.result
    ∷ c.node-6.result ∷ c.node-7.result ∷ c.node-8.result ∷ c.node-9.result ∷ c.node-10.result ∷ [] =
    search (rules, c.in_ok-to_vec.ensures.items_if_clones_equal) in
    record {
      layout = described_table;
      is = table_listed _ _ _ _ _ _ _ _ _ _ _ e c.node.ensures c.node-2.ensures c.node-3.ensures c.node-4.ensures
          c.node-5.ensures c.node-6.ensures c.node-7.ensures c.node-8.ensures c.node-9.ensures c.node-10.ensures;
    }

pub returns : goal.returns
returns c =
    let e : c.in_ok-to_vec.field-0.items ≡ c.node.result ∷ c.node-2.result ∷ c.node-3.result ∷ c.node-4.result ∷ c.node-5.result
    ∷ c.node-6.result ∷ c.node-7.result ∷ c.node-8.result ∷ c.node-9.result ∷ c.node-10.result ∷ [] =
    search (rules, c.in_ok-to_vec.ensures.items_if_clones_equal) in
    c.from_nodes.ensures.layout described_table (table_listed _ _ _ _ _ _ _ _ _ _ _ e c.node.ensures c.node-2.ensures
    c.node-3.ensures c.node-4.ensures c.node-5.ensures c.node-6.ensures c.node-7.ensures c.node-8.ensures c.node-9.ensures
    c.node-10.ensures)
