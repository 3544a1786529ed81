use Rattle.std.proofs.Common.{ap, ◌∙◌, rules}
use Rattle.std.proofs.lemmas.List.Sorted.{answers_always}
use Rattle.idl_fields.specs.View.{written_fields}
use Rattle.base_lists.proofs.Insertion.{sorted-in_order_by_int}
use Rattle.idl_definitions.proofs.Sorting.{id_of, insertion-is}
use Rattle.idl_definitions.proofs.collect.by_id.Goals as goal

pub returns-clause-same : goal.returns-clause-same
returns-clause-same c text es =
    let key = answers_always _ _ _ (λ f a r g h. search rules) in
    let sorted = c.in_ok-sort_by_key.ensures.sorted id_of key in
    let stable = c.sort_by_key.ensures.stable id_of key in
    ap (written_fields text es) (sorted-in_order_by_int id_of c.args.fields.items c.sort_by_key.new.self.items sorted stable) ∙ insertion-is text es c.args.fields.items
