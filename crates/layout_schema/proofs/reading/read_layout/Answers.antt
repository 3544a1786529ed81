use Rattle.std.proofs.Common.{◌≡◌, ◌∙◌, refl, sym, subst, ap, w32}
use Rattle.std.specs.Prelude.{ℤ}
use Rattle.std.proofs.lemmas.Int.{to_z-of_z}
use Rattle.frozen_model.specs.Layouts.{Version, Described}
use Rattle.idl_profile.specs.Types.{TypeTree}
use Rattle.layout_tree.specs.Given.{IsListOf, ListsLayout}
use Rattle.layout_tree.specs.Nodes.{layout_of}
use Rattle.layout_schema.specs.Schemas.{schema_type}
use Rattle.layout_schema.specs.Shapes.{shape_in}
use Rattle.layout_schema.specs.Standing.{spelled_as}
use Rattle.layout_schema.specs.Reading.{IsAtFault, IsSpelledSchema}
use Rattle.layout_schema.proofs.ReadSchema.{lists_layout, tells_layout, tells_fault}
use Rattle.layout_schema.proofs.SchemaParts.{spelled_clean}
use Rattle.layout_schema.proofs.reading.read_layout.Goals as goal

pub read_shape-requires : goal.read_shape-requires
read_shape-requires c =
    let v : Version = c.requires.0 in
    let b = c.args.bytes.now in
    let s = spelled_as (schema_type v) b in
    let at : IsSpelledSchema (schema_type v) b = record { version = v; typed = refl; clean = spelled_clean (schema_type v) b s c.requires.2; kinds = c.requires.3.kinds } in
    subst (λ (t : TypeTree). IsSpelledSchema t b) (sym c.requires.1) at

pub from_nodes-requires : goal.from_nodes-requires
from_nodes-requires c =
    let v : Version = c.requires.0 in
    let b = c.args.bytes.now in
    let same = to_z-of_z w32 c.args.version c.ranges.version in
    let ns = c.in-Ok.nodes.items in
    let is = ap (λ (t : TypeTree). shape_in (spelled_as t b)) (sym c.requires.1) ∙ c.in-Ok.ensures.nodes in
    subst (λ (z : ℤ). ListsLayout ns z c.args.relaxed) (sym same)
    (lists_layout v c.args.version c.args.relaxed (spelled_as (schema_type v) b) ns c.requires.3 is)

pub returns-in-Ok : goal.returns-in-Ok
returns-in-Ok c =
    let b = c.args.bytes.now in
    let same = to_z-of_z w32 c.args.version c.ranges.version in
    let ns = c.in-Ok.nodes.items in
    record {
      told = λ v typed h. tells_layout v c.args.version c.args.relaxed (spelled_as (schema_type v) b) ns h (ap (λ (t : TypeTree). shape_in (spelled_as t b)) (sym typed) ∙ c.in-Ok.ensures.nodes) c.from_nodes.result
          (subst (λ (z : ℤ). (d : Described) → IsListOf d ns z c.args.relaxed → layout_of c.from_nodes.result ≡ d) same c.from_nodes.ensures.layout);
      settled = c.from_nodes.ensures.settled;
    }

pub returns-in-Err : goal.returns-in-Err
returns-in-Err c =
    let b = c.args.bytes.now in
    record {
      told = λ v typed h. tells_fault v c.args.relaxed (spelled_as (schema_type v) b) c.in-Err.fault
          (subst (λ (t : TypeTree). IsAtFault c.in-Err.fault (shape_in (spelled_as t b))) typed c.in-Err.ensures.fault);
      settled = tt;
    }
