use Rattle.std.proofs.Common.{arith, ◌≡◌, ◌≢◌, ◌∙◌, List, [], sym, ap, subst, map, ◌++◌}
use Rattle.std.specs.List.{AllByRecursion}
use Rattle.compact_wire.specs.Bytes.{AreBytes}
use Rattle.compact_wire.specs.declared.kind.Kind.TheVariants as k
use Rattle.compact_wire.specs.Reads.{value}
use Rattle.compact_wire.proofs.ReadSteps.{AreBytes-from}
use Rattle.layout_schema.specs.declared.table.LayoutBytes.{LayoutBytes}
use Rattle.layout_schema.specs.Schemas.{layout_type}
use Rattle.layout_schema.specs.Standing.{layouts_type, meant, meant_pairs}
use Rattle.layout_schema.specs.Table.{layout_value, IsWhole, AreOf}
use Rattle.layout_schema.proofs.Deeper.{number_behind, one_behind}
use Rattle.layout_schema.proofs.TableSteps.{Layouts, ok_also, count_not, header_not, none_there, are_left, all_there}
use Rattle.layout_schema.proofs.table.read_layouts.Goals as goal

pub returns-in_default : goal.returns-in_default
returns-in_default c v clean = absurd (count_not v c.args.bytes.now clean c.in_default.field-0 c.in_default.ensures.reads)

pub returns-then-count-eq0 : goal.returns-then-count-eq0
returns-then-count-eq0 c v clean =
    subst (AreOf v (meant (layouts_type v) (value 63 k.Map c.args.bytes.now))) (sym c.new-layouts.ensures.items)
    (none_there v c.args.bytes.now clean c.in-Ok.count c.in-Ok.rest.now c.in-Ok.ensures.reads (omega arith))

pub returns-in_default-read_map_header : goal.returns-in_default-read_map_header
returns-in_default-read_map_header c v clean =
    absurd (header_not v c.args.bytes.now clean c.in-Ok.count c.in-Ok.rest.now c.in_default-read_map_header.field-0 c.in-Ok.ensures.reads (λ e. omega (arith, e)) c.in_default-read_map_header.ensures.reads)

pub returns : goal.returns
returns c = ok_also c.by_number.result _ _ c.by_number.ensures (λ ys sorted v clean.
    let b = c.args.bytes.now in
    let n = c.in-Ok.count in
    let rest = c.in-Ok.rest.now in
    let behind = c.in-Ok-read_map_header.rest.now in
    let some : n ≢ 0 = λ e. omega (arith, e) in
    let are : AreBytes behind = one_behind _ rest _ behind (number_behind b n rest (AreBytes-from b (λ i. omega (arith, c.type_inv.bytes i))) c.in-Ok.ensures.reads) c.in-Ok-read_map_header.ensures.reads in
    let left = are_left v b clean n rest behind _ c.in-Ok.ensures.reads some c.in-Ok-read_map_header.ensures.reads are in
    let made : map (layout_value (layout_type v)) c.push_layouts.new.layouts.items ≡ [] ++ meant_pairs (layout_type v) (Layouts v n behind) =
    c.in_ok-push_layouts.ensures.values v left ∙ ap (λ (xs : List LayoutBytes). map (layout_value (layout_type v)) xs ++ meant_pairs (layout_type v) (Layouts v n behind)) c.new-layouts.ensures.items in
    let whole = c.in_ok-push_layouts.ensures.whole v left (subst (AllByRecursion (IsWhole (layout_type v))) (sym c.new-layouts.ensures.items) tt) in
    all_there v b clean n rest behind _ c.in-Ok.ensures.reads some c.in-Ok-read_map_header.ensures.reads are c.push_layouts.new.layouts.items ys.items made whole sorted)
