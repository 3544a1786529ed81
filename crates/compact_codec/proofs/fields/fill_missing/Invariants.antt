use Rattle.std.proofs.Common.{◌≡◌, ◌++◌, drop, map, List}
use Rattle.std.specs.Prelude.{ℤ}
use Rattle.idl_profile.specs.Types.{DefField}
use Rattle.idl_parse.specs.Refs.{fields_of_refs}
use Rattle.typed_tree.specs.Sizes.{default_value}
use Rattle.typed_tree.specs.Trees.{trees}
use Rattle.typed_reading.specs.Marks.{Marked}
use Rattle.compact_codec.specs.Building.{without}
use Rattle.compact_codec.proofs.fields.fill_missing.Given as goal

abbrev pub invariant-loop-place : goal.invariant-loop-place
invariant-loop-place l =
    (known : List ℤ) → Marked (fields_of_refs l.fields) (drop l.base l.marks) known
    → (trees l.builder ++ map default_value (without known (drop l.place (fields_of_refs l.fields)))
    ≡ trees l.initial.builder ++ map default_value (without known (fields_of_refs l.fields)))
    × (l.ids.items ++ map (λ (f : DefField). f.id) (without known (drop l.place (fields_of_refs l.fields)))
    ≡ l.initial.ids.items ++ map (λ (f : DefField). f.id) (without known (fields_of_refs l.fields)))
