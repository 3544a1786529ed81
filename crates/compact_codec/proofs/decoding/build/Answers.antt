use Rattle.std.proofs.Common.{ap, arith, List, length}
use Rattle.frozen_model.specs.Values.{Value}
use Rattle.idl_parse.specs.Refs.{type_of_ref}
use Rattle.typed_tree.specs.Trees.{trees}
use Rattle.typed_tree.specs.References.{value_of_tree}
use Rattle.compact_codec.proofs.Complete.{whole_clean, one_tree, typed_tree_is}
use Rattle.compact_codec.proofs.decoding.build.Goals as goal

pub build_value-requires : goal.build_value-requires
build_value-requires c = record { accepted = c.requires.accepted; clean = whole_clean (type_of_ref c.args.ty) c.args.bytes.now c.requires.value.0 c.requires.value.1 }

pub finish-requires : goal.finish-requires
finish-requires c =
    let one = one_tree (type_of_ref c.args.ty) c.args.bytes.now c.requires.value.0 c.requires.value.1 _ (trees c.build_value.new.builder) c.in_ok-build_value.field-0.now c.in_ok-builder.ensures.trees c.in_ok-build_value.ensures.built in
    omega (arith, ap (λ (zs : List Value). length zs) one)

pub returns : goal.returns
returns c =
    let x = c.requires.value in
    (x.0, x.1.spelled, typed_tree_is (type_of_ref c.args.ty) c.args.bytes.now x.0 x.1 _ (trees c.build_value.new.builder) c.in_ok-build_value.field-0.now (value_of_tree c.finish.result) c.in_ok-builder.ensures.trees c.in_ok-build_value.ensures.built c.finish.ensures.tree)
