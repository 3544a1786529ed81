use Rattle.std.proofs.Common.{rules}
use Rattle.std.proofs.lemmas.List.Sorted.{answers_always}
use Rattle.base_lists.proofs.Insertion.{sorted-in_order_by_int}
use Rattle.layout_schema.specs.Table.{number_of}
use Rattle.layout_schema.proofs.table.by_number.Goals as goal

pub returns : goal.returns
returns c =
    let key = answers_always _ _ _ (λ f a r g h. search rules) in
    let sorted = c.in_ok-sort_by_key.ensures.sorted number_of key in
    let stable = c.sort_by_key.ensures.stable number_of key in
    sorted-in_order_by_int number_of c.args.layouts.items c.sort_by_key.new.self.items sorted stable
