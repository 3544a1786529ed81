use Rattle.idl_parse.specs.Refs.{type_of_ref}
use Rattle.typed_tree.specs.References.{value_of_tree}
use Rattle.root_kinds.proofs.References.{struct_ref_is_accepted, struct_ref_is_utf8}
use Rattle.typed_reading.proofs.Valued.{typed_within}
use Rattle.compact_codec.proofs.Decoded.{few_cells, only_value, only_fault, only_memory}
use Rattle.compact_codec.proofs.decoding.decode.Goals as goal

pub build-requires : goal.build-requires
build-requires c = record { accepted = struct_ref_is_accepted c.args.ty c.requires.is_struct; value = let k = c.in-Ok.ensures.cause in (k.0, k.1) }

pub returns-in-Ok-build-clause-cause : goal.returns-in-Ok-build-clause-cause
returns-in-Ok-build-clause-cause c =
    let x = c.in-Ok-build.ensures in
    (x.0, x.1, x.2, few_cells (type_of_ref c.args.ty) c.args.bytes.now x.0 (value_of_tree c.in-Ok-build.tree) x.1 x.2 c.in-Ok.checked c.in-Ok.ensures.cause)

pub returns-in-Ok-build-clause-only : goal.returns-in-Ok-build-clause-only
returns-in-Ok-build-clause-only c =
    let x = c.in-Ok-build.ensures in
    only_value (type_of_ref c.args.ty) c.args.bytes.now x.0 (value_of_tree c.in-Ok-build.tree) x.1 x.2 c.in-Ok.checked c.in-Ok.ensures.only

pub returns-in-Ok-build-clause-kinds : goal.returns-in-Ok-build-clause-kinds
returns-in-Ok-build-clause-kinds c =
    let x = c.in-Ok-build.ensures in
    typed_within (type_of_ref c.args.ty) x.0 c.args.bytes.now (value_of_tree c.in-Ok-build.tree) (struct_ref_is_utf8 c.args.ty c.requires.is_struct) x.1 x.2
    (few_cells (type_of_ref c.args.ty) c.args.bytes.now x.0 (value_of_tree c.in-Ok-build.tree) x.1 x.2 c.in-Ok.checked c.in-Ok.ensures.cause)

pub returns-in-Err-build-clause-only : goal.returns-in-Err-build-clause-only
returns-in-Err-build-clause-only c = only_memory (type_of_ref c.args.ty) c.args.bytes.now

pub returns-in-Err-clause-only : goal.returns-in-Err-clause-only
returns-in-Err-clause-only c = only_fault (type_of_ref c.args.ty) c.args.bytes.now c.in-Err.fault c.in-Err.ensures.only
