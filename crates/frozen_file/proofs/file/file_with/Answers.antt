use Rattle.std.proofs.Common.{◌∙◌, ap}
use Rattle.block_region.specs.Space.{Space}
use Rattle.layout_tree.specs.Nodes.{layout_of}
use Rattle.typed_tree.specs.References.{value_of_ref}
use Rattle.frozen_file.proofs.Fronts.{IsPut, file_is}
use Rattle.frozen_file.proofs.file.file_with.Goals as goal

pub returns : goal.returns
returns c =
    let r0 = c.in_ok-region.region in
    let r1 = c.put.new.region in
    let r2 = c.put-2.new.region in
    let header = c.header-header.result in
    let schema = c.args.schema.now in
    let first : IsPut r0 r1 header =
    record { taken = c.put.ensures.taken; long = c.put.ensures.length; front = c.put.ensures.front } in
    let second : IsPut r1 r2 schema =
    record { taken = c.put-2.ensures.taken; long = c.put-2.ensures.length; front = c.put-2.ensures.front } in
    c.finish.ensures
    ∙ file_is (layout_of c.args.layouts.now) (value_of_ref c.args.v) schema header r0 r1 r2
    c.freeze_into.new.region (ap (λ (s : Space). s.taken) c.in_ok-region.ensures.blank)
    c.header-header.ensures
    first second c.freeze_into.ensures.before c.requires.holds.of_kind c.freeze_into.ensures.packed
    c.left-left.ensures.bytes
