use Rattle.std.proofs.Common.{◌≡◌, ◌+◌, ℕ, ap, sym, ◌∙◌, subst}
use Rattle.frozen_model.specs.Layouts.{Layout, stride}
use Rattle.frozen_model.specs.Packing.{bytes_for, extent}
use Rattle.frozen_model.specs.Holding.{Holds}
use Rattle.layout_tree.specs.Nodes.{layout_of}
use Rattle.typed_tree.specs.References.{value_of_ref, value_of_tree}
use Rattle.pack_bench.specs.Table.{table_layout}
use Rattle.pack_bench.proofs.Held.{table_held, table_extent}
use Rattle.pack_bench.proofs.pack.Goals as goal

pub freeze_into-requires-clause-holds : goal.freeze_into-requires-clause-holds
freeze_into-requires-clause-holds c =
    let v = value_of_tree c.args.tree.now in
    let e : (layout_of c.args.layouts.now).tree ≡ table_layout = ap (λ d. d.tree) c.requires.layout in
    let h : Holds table_layout v = table_held c.holding_is_everywhere.ensures.back c.args.n v c.requires.few c.requires.table in
    subst (λ z. Holds z (value_of_ref c.top.result)) (sym e) (subst (λ z. Holds table_layout z) (sym c.top.ensures.value) h)

pub freeze_into-requires-clause-left : goal.freeze_into-requires-clause-left
freeze_into-requires-clause-left c =
    let v = value_of_tree c.args.tree.now in
    let taken = c.args.region.now.taken in
    let e : (layout_of c.args.layouts.now).tree ≡ table_layout = ap (λ d. d.tree) c.requires.layout in
    let size : Layout → ℕ = λ l. bytes_for (stride l) + extent l (value_of_ref c.top.result) in
    let there : bytes_for (stride table_layout) + extent table_layout v ≡ size (layout_of c.args.layouts.now).tree =
    ap (λ z. bytes_for (stride table_layout) + extent table_layout z) (sym c.top.ensures.value) ∙ ap size (sym e) in
    c.requires.left ∙ ap (λ n. taken + n) (sym (table_extent c.args.n v c.requires.table) ∙ there)
