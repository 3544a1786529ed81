-- None of the kinds so far has the name.
use Rattle.std.proofs.Common.{◌≡◌, drop}
use Rattle.std.specs.Prelude.{find}
use Rattle.std.specs.Str.{bytes_eq}
use Rattle.layout_schema.specs.Schemas.{type_name}
use Rattle.layout_schema.specs.Shapes.{kind_named}
use Rattle.layout_schema.proofs.entering.kind_named.Given as goal

abbrev pub invariant-loop-kind : goal.invariant-loop-kind
invariant-loop-kind l = kind_named l.name ≡ find (λ k. bytes_eq l.name (type_name k)) (drop l.kind-index l.kind-items)
