use Rattle.std.proofs.Common.{rules, ◌≡◌, ◌<◌, ◌^◌, ◌++◌, [], ◌∙◌, arith, length}
use Rattle.frozen_model.specs.BitLaws.{IsBytes}
use Rattle.frozen_model.specs.Values.{Value}
use Rattle.frozen_model.specs.Packing.{Packs}
use Rattle.frozen_model.specs.Holding.{Holds}
use Rattle.frozen_model.specs.Files.{magic, four_bytes, frozen}
use Rattle.layout_tree.specs.Nodes.{layout_of}
use Rattle.layout_schema.specs.Answers.{SchemaBytes}
use Rattle.file_check.specs.Written.{written}
use Rattle.file_check.proofs.Composed.{bytes_within, composed, composed_file, small_schema}
use Rattle.file_check.proofs.composing.compose.Goals as goal

pub overflow_cast-len : goal.overflow_cast-len
overflow_cast-len c =
    omega (
      arith,
      small_schema c.schemas_are_short.ensures (layout_of c.args.layouts.now) c.in_ok-schema.schema.items
          c.layouts_are_described.ensures.bits c.in_ok-schema.ensures,
    )

pub returns : goal.returns
returns c =
    let d = layout_of c.args.layouts.now in
    let s = c.in_ok-schema.schema.items in
    let content = c.args.content.items in
    let out = c.extend_from_slice-3.new.self.items in
    let small : IsBytes content = bytes_within content (λ k h. omega arith) in
    let short : length s < 2 ^ 32 = small_schema c.schemas_are_short.ensures d s
    c.layouts_are_described.ensures.bits c.in_ok-schema.ensures in
    let joined : out ≡ (([] ++ (magic ++ four_bytes (length s))) ++ s) ++ content = search rules in
    let bytes : (v : Value) → Holds d.tree v → Packs d.tree v content → out ≡ frozen written d v =
    λ v h p. joined ∙ composed written d v s content c.in_ok-schema.ensures h small p in
    record {
      frozen = bytes;
      file = λ v k. composed_file SchemaBytes written d v s content out
          (c.written_schema_is_schema.ensures d c.layouts_are_described.ensures.bits) c.in_ok-schema.ensures
          short small k (bytes v k.holds k.packed);
    }
