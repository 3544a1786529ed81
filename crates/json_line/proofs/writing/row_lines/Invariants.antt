-- What is written of the items from a place on is still to come.
use Rattle.std.proofs.Common.{◌≡◌, ◌++◌, string_bytes}
use Rattle.idl_parse.specs.Refs.{element_of}
use Rattle.typed_tree.specs.Parts.{items_of}
use Rattle.evolve.specs.Lenses.{type_of_lens, value_of_lens}
use Rattle.json_line.specs.Json.{as_json, each_line}
use Rattle.json_line.proofs.EachLine.{lines_from}
use Rattle.json_line.proofs.writing.row_lines.Given as goal

abbrev pub invariant-loop-i : goal.invariant-loop-i
invariant-loop-i l =
    let f = as_json (element_of (type_of_lens l.row)) in
    let vs = items_of (value_of_lens l.row) in
    string_bytes l.out ++ lines_from f vs l.i ≡ each_line f vs
