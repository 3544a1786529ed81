use Rattle.std.proofs.Common.{◌≡◌, ◌∙◌, ◌++◌, ◌<◌, ap, sym, arith, string_bytes}
use Rattle.idl_parse.specs.Refs.{element_of}
use Rattle.frozen_model.specs.Values.{count, nth}
use Rattle.serde_json.specs.Written.{compact_text}
use Rattle.typed_tree.specs.Parts.{items_of}
use Rattle.evolve.specs.Lenses.{type_of_lens, value_of_lens}
use Rattle.json_line.specs.Json.{as_json, json}
use Rattle.json_line.proofs.Forms.{lines-row, row-form, row-items}
use Rattle.json_line.proofs.EachLine.{line-more, lines-done}
use Rattle.json_line.proofs.writing.row_lines.Goals as goal

pub len-i-end-requires : goal.len-i-end-requires
len-i-end-requires c = row-items c.args.row c.requires

pub item-requires-clause-row : goal.item-requires-clause-row
item-requires-clause-row c = row-form c.args.row c.requires

pub loop-i-preserved : goal.loop-i-preserved
loop-i-preserved c =
    let f = as_json (element_of (type_of_lens c.args.row)) in
    let vs = items_of (value_of_lens c.args.row) in
    let inside : c.loop-i.i < count vs = omega (arith, c.loop-i-test.true, c.len-i-end.ensures) in
    let out = string_bytes c.loop-i.out in
    let mid : string_bytes c.push_value.new.out ≡ out ++ compact_text (f (nth vs c.loop-i.i)) =
    c.in_ok-push_value.ensures ∙ ap (λ x. out ++ json x (value_of_lens c.item.result)) c.item.ensures.typed
    ∙ ap (λ v. out ++ compact_text (f v)) c.item.ensures.value in
    line-more f vs c.loop-i.i out (string_bytes c.push_value.new.out)
    (string_bytes c.push_str.new.self) _ inside
    mid c.in_ok-push_str.ensures.bytes c.loop-i.invariant

pub returns : goal.returns
returns c =
    let of_type = type_of_lens c.args.row in
    let v = value_of_lens c.args.row in
    lines-done (as_json (element_of of_type)) (items_of v) c.loop-i.i (string_bytes c.loop-i.out) _
    (omega (arith, c.loop-i-test.false, c.loop-i.auto.i-end, c.len-i-end.ensures)) c.loop-i.invariant
    ∙ sym (lines-row of_type v c.requires)
