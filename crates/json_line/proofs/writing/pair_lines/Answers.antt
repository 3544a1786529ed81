use Rattle.std.proofs.Common.{◌≡◌, ◌∙◌, ◌++◌, ◌<◌, ap, sym, arith, string_bytes}
use Rattle.idl_parse.specs.Refs.{key_of, value_of}
use Rattle.frozen_model.specs.Values.{count, nth}
use Rattle.serde_json.specs.Written.{compact_text}
use Rattle.typed_tree.specs.Parts.{items_of}
use Rattle.typed_tree.specs.Spots.{pair}
use Rattle.evolve.specs.Lenses.{type_of_lens, value_of_lens}
use Rattle.json_line.specs.Json.{as_json, both}
use Rattle.json_line.proofs.Forms.{lines-map, map-form, map-items}
use Rattle.json_line.proofs.EachLine.{line-more, lines-done}
use Rattle.json_line.proofs.writing.pair_lines.Goals as goal

pub len-i-end-requires : goal.len-i-end-requires
len-i-end-requires c = map-items c.args.map c.requires

pub entry-requires-clause-map : goal.entry-requires-clause-map
entry-requires-clause-map c = map-form c.args.map c.requires

pub loop-i-preserved : goal.loop-i-preserved
loop-i-preserved c =
    let of_type = type_of_lens c.args.map in
    let f = as_json (key_of of_type) in
    let g = as_json (value_of of_type) in
    let vs = items_of (value_of_lens c.args.map) in
    let key = c.entry.result.0 in
    let value = c.entry.result.1 in
    let both_of = pair (value_of_lens key) (value_of_lens value) in
    let inside : c.loop-i.i < count vs = omega (arith, c.loop-i-test.true, c.len-i-end.ensures) in
    let out = string_bytes c.loop-i.out in
    let mid : string_bytes c.push_pair.new.out ≡ out ++ compact_text (both f g (nth vs c.loop-i.i)) =
    c.in_ok-push_pair.ensures
    ∙ ap (λ x. out ++ compact_text (both (as_json x) (as_json (type_of_lens value)) both_of))
    c.entry.ensures.key
    ∙ ap (λ y. out ++ compact_text (both f (as_json y) both_of)) c.entry.ensures.typed
    ∙ ap (λ p. out ++ compact_text (both f g p)) c.entry.ensures.value in
    line-more (both f g) vs c.loop-i.i out (string_bytes c.push_pair.new.out)
    (string_bytes c.push_str.new.self) _
    inside mid c.in_ok-push_str.ensures.bytes c.loop-i.invariant

pub returns : goal.returns
returns c =
    let of_type = type_of_lens c.args.map in
    let v = value_of_lens c.args.map in
    lines-done (both (as_json (key_of of_type)) (as_json (value_of of_type))) (items_of v) c.loop-i.i
    (string_bytes c.loop-i.out) _
    (omega (arith, c.loop-i-test.false, c.loop-i.auto.i-end, c.len-i-end.ensures)) c.loop-i.invariant
    ∙ sym (lines-map of_type v c.requires)
