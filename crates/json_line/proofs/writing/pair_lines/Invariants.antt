-- What is written of the pairs from a place on is still to come.
use Rattle.std.proofs.Common.{◌≡◌, ◌++◌, string_bytes}
use Rattle.idl_parse.specs.Refs.{key_of, value_of}
use Rattle.typed_tree.specs.Parts.{items_of}
use Rattle.evolve.specs.Lenses.{type_of_lens, value_of_lens}
use Rattle.json_line.specs.Json.{as_json, both, each_line}
use Rattle.json_line.proofs.EachLine.{lines_from}
use Rattle.json_line.proofs.writing.pair_lines.Given as goal

abbrev pub invariant-loop-i : goal.invariant-loop-i
invariant-loop-i l =
    let f = both (as_json (key_of (type_of_lens l.map))) (as_json (value_of (type_of_lens l.map))) in
    let vs = items_of (value_of_lens l.map) in
    string_bytes l.out ++ lines_from f vs l.i ≡ each_line f vs
