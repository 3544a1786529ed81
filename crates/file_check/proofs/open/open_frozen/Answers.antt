use Rattle.std.proofs.Common.{◌≡◌, length, drop, length-drop, arith, ap, sym, subst}
use Rattle.frozen_model.specs.BitLaws.{IsBytes}
use Rattle.frozen_model.specs.Files.{schema_length, content_of}
use Rattle.layout_tree.specs.Nodes.{layout_of}
use Rattle.content_check.specs.Agreeing.{fault_of}
use Rattle.file_check.proofs.Openings.{Refuses, unparted, refused, refused_content, opens}
use Rattle.file_check.proofs.open.open_frozen.Goals as goal

pub returns-in-Err : goal.returns-in-Err
returns-in-Err c =
    let a = unparted c.schemas_are_exact.ensures.exact c.args.bytes.now c.in-Err.fault c.in-Err.ensures in
    record { file = tt; every = a.every; fault = a.first; only = a.only }

pub returns-in-Err-read_schema : goal.returns-in-Err-read_schema
returns-in-Err-read_schema c =
    let b = c.args.bytes.now in
    let p = c.in-Ok.ensures in
    let a = subst (Refuses b) (sym c.schema_fault.ensures)
    (refused c.schemas_are_exact.ensures.exact b c.in-Ok.parts.0.now c.in-Err-read_schema.fault p.0 p.1
    c.in-Err-read_schema.ensures.fault) in
    record { file = tt; every = a.every; fault = a.first; only = a.only }

pub check_content-requires : goal.check_content-requires
check_content-requires c =
    let b = c.args.bytes.now in
    let e : length c.in-Ok.parts.1.now ≡ length (content_of b) = ap length c.in-Ok.ensures.2 in
    omega (arith, e, length-drop (schema_length b) (drop 8 b), length-drop 8 b)

pub returns-in-Ok-check_content : goal.returns-in-Ok-check_content
returns-in-Ok-check_content c =
    let p = c.in-Ok.ensures in
    let a = opens c.schemas_are_exact.ensures.exact c.args.bytes.now c.in-Ok.parts.0.now c.in-Ok.parts.1.now
    (layout_of c.in-Ok-read_schema.layouts) c.in-Ok-check_content.field-0 p.0 p.1 p.2
    c.in-Ok-read_schema.ensures.layout c.in-Ok-check_content.ensures.content in
    record {
      file = record { value = a.value; file = a.file; opening = a.opening; content = p.2 };
      every = a.every;
      fault = tt;
      only = λ f x. absurd (a.never f x);
    }

pub returns : goal.returns
returns c =
    let b = c.args.bytes.now in
    let p = c.in-Ok.ensures in
    let small : IsBytes b = λ k. (c.type_inv.bytes k).fits in
    let a = subst (Refuses b) (sym c.content_fault.ensures)
    (refused_content c.schemas_are_exact.ensures.exact b c.in-Ok.parts.0.now c.in-Ok.parts.1.now
    (layout_of c.in-Ok-read_schema.layouts) (fault_of c.in-Err-check_content.fault) p.0 p.1 p.2
    c.in-Ok-read_schema.ensures.layout c.layouts_are_described.ensures.bits small
    c.in-Err-check_content.ensures.fault) in
    record { file = tt; every = a.every; fault = a.first; only = a.only }
