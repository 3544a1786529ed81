use Rattle.std.specs.Prelude.{string_bytes, codes}
use Rattle.std.proofs.Common.{rules, ◌≡◌, ◌++◌, pos}
use Rattle.std.specs.Fmt.{signed_decimal}
use Rattle.layout_tree.specs.Nodes.{layout_of}
use Rattle.layout_schema.specs.Schemas.{type_name}
use Rattle.cli_texts.specs.Listing.{column, parent_columns, base_column}
use Rattle.cli_texts.proofs.Lines.{eight_joined}
use Rattle.cli_texts.proofs.line.push_line.Goals as goal

pub returns : goal.returns
returns c =
    let n = c.args.node in
    let s = c.args.spec.now in
    let v = (layout_of c.args.layouts.now).version in
    let o = string_bytes c.args.out.now in
    let e1 : string_bytes c.push_number.new.out ≡ o ++ signed_decimal (pos n) = search rules in
    let e2 : string_bytes c.push_parent.new.out ≡ string_bytes c.push_number.new.out ++ parent_columns n s =
    search rules in
    let e3 : string_bytes c.push_str.new.self ≡ string_bytes c.push_parent.new.out ++ codes " " =
    search rules in
    let e4 : string_bytes c.push_str-2.new.self ≡ string_bytes c.push_str.new.self ++ type_name s.kind =
    search rules in
    let e5 : string_bytes c.push_column.new.out ≡ string_bytes c.push_str-2.new.self ++ column (pos s.bits) =
    search rules in
    let o6 = string_bytes c.push_column-2.new.out in
    let e6 : o6 ≡ string_bytes c.push_column.new.out ++ column (pos s.offset) = search rules in
    let e7 : string_bytes c.push_base.new.out ≡ o6 ++ base_column v s =
    search rules in
    let e8 : string_bytes c.push_str-3.new.self ≡ string_bytes c.push_base.new.out ++ codes "\n" =
    search rules in
    eight_joined o (signed_decimal (pos n)) (parent_columns n s) (codes " ") (type_name s.kind)
    (column (pos s.bits)) (column (pos s.offset)) (base_column v s) (codes "\n") e1 e2 e3 e4 e5 e6 e7 e8
