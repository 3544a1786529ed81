use Rattle.std.proofs.Common.{◌≡◌, arith, rules, refl, ap, sym, ◌∙◌, length, Some, None, Err, w16, w32, w64}
use Rattle.std.proofs.lemmas.Int.{to_z-of_z}
use Rattle.std.proofs.lemmas.Result.{err_from_is_err_and}
use mir.Val.{SFits, of_z}
use Rattle.frozen_model.specs.Values.{Values}
use Rattle.idl_profile.specs.Types.{scalar, i16}
use Rattle.idl_parse.specs.Refs.{type_of_ref}
use Rattle.compact_codec.specs.Wire.{number_in}
use Rattle.layout_schema.specs.Schemas.{schema_type}
use Rattle.layout_schema.specs.Shapes.{shape_in, unwalked}
use Rattle.layout_schema.specs.Standing.{spelled_as}
use Rattle.layout_schema.specs.Reading.{layouts_told}
use Rattle.layout_schema.proofs.ByNumber.{is_schema_value, root_told, are_entries, layouts_are}
use Rattle.layout_schema.proofs.ReadEntries.{schema_form, fits_32, cast_32}
use Rattle.layout_schema.proofs.ReadShape.{IsFromRoot, other_root, root_is_zero, shape_faulty, shape_left, shape_whole, err_at_fault}
use Rattle.layout_schema.proofs.walk.read_shape.Goals as goal
use Rattle.layout_schema.proofs.walk.read_shape.Goals.{After-walk_part}

pub overflow_cast-result : goal.overflow_cast-result
overflow_cast-result c =
    let s = spelled_as (type_of_ref c.args.ty) c.args.bytes.now in
    fits_32 (schema_form s (is_schema_value (type_of_ref c.args.ty) c.args.bytes.now c.requires)).root (root_told (type_of_ref c.args.ty) c.args.bytes.now c.requires c.number_of_field-root.result (λ v clean. c.number_of_field-root.ensures (schema_type v) (scalar i16) refl tt clean))

pub returns-then-root-ne0-clause-fault : goal.returns-then-root-ne0-clause-fault
returns-then-root-ne0-clause-fault c =
    let s = spelled_as (type_of_ref c.args.ty) c.args.bytes.now in
    let e = root_told (type_of_ref c.args.ty) c.args.bytes.now c.requires c.number_of_field-root.result (λ v clean. c.number_of_field-root.ensures (schema_type v) (scalar i16) refl tt clean) in
    let cast = cast_32 (schema_form s (is_schema_value (type_of_ref c.args.ty) c.args.bytes.now c.requires)).root e in
    other_root s _ (sym cast) (λ zero. c.if-root-ne0.true (ap (of_z w64) (sym (ap number_in e) ∙ sym cast ∙ zero)))

pub layout_ref-requires : goal.layout_ref-requires
layout_ref-requires c = (c.requires.version, c.requires.typed)

pub walk_part-requires-clause-layouts : goal.walk_part-requires-clause-layouts
walk_part-requires-clause-layouts c =
    are_entries (type_of_ref c.args.ty) c.args.bytes.now c.requires _ c.in_ok-layouts.layouts.items (c.layout_ref.ensures c.requires.version c.requires.typed) c.as_slice.ensures.value c.in_ok-layouts.ensures.layouts

pub unwalked-requires : goal.unwalked-requires
unwalked-requires c =
    are_entries (type_of_ref c.args.ty) c.args.bytes.now c.requires _ c.in_ok-layouts.layouts.items (c.layout_ref.ensures c.requires.version c.requires.typed) c.as_slice.ensures.value c.in_ok-layouts.ensures.layouts

abbrev told : After-walk_part → Values
told c = layouts_told (record { ty = c.layout_ref.result; layouts = c.as_slice.result })

from_root : (c : After-walk_part) → IsFromRoot (spelled_as (type_of_ref c.args.ty) c.args.bytes.now) (told c) c.new-nodes.result.items
from_root c =
    let t = type_of_ref c.args.ty in
    let b = c.args.bytes.now in
    record {
      root = root_is_zero (spelled_as t b) (is_schema_value t b c.requires) c.number_of_field-root.result (root_told (type_of_ref c.args.ty) c.args.bytes.now c.requires c.number_of_field-root.result (λ v clean. c.number_of_field-root.ensures (schema_type v) (scalar i16) refl tt clean)) c.if-root-ne0.false;
      layouts = layouts_are t b c.requires (record { ty = c.layout_ref.result; layouts = c.as_slice.result }) c.in_ok-layouts.layouts.items (c.layout_ref.ensures c.requires.version c.requires.typed) c.as_slice.ensures.value c.in_ok-layouts.ensures.layouts;
      none = c.new-nodes.ensures.items;
    }

pub returns-in_err-walk_part-clause-fault : goal.returns-in_err-walk_part-clause-fault
returns-in_err-walk_part-clause-fault c =
    let s = spelled_as (type_of_ref c.args.ty) c.args.bytes.now in
    let f = c.in_err-walk_part.field-0.0 in
    let p = err_from_is_err_and c.from_residual-in_err-walk_part.result c.from_residual-in_err-walk_part.ensures.1 in
    let w = (goal.at.returns-in_err-walk_part-clause-fault c).After-walk_part in
    err_at_fault c.from_residual-in_err-walk_part.result f p.0 (shape_in s) p.1 p.2
    (shape_faulty s (told w) c.new-nodes.result.items (from_root w) f (c.in_err-walk_part.ensures.walks 4096 (omega arith)))

pub returns-in-Some-clause-fault : goal.returns-in-Some-clause-fault
returns-in-Some-clause-fault c =
    let w = (goal.at.returns-in-Some-clause-fault c).After-walk_part in
    let ls = told w in
    let new = c.walk_part.new.nodes.items in
    let len : c.len.result ≡ length new = omega (arith, c.len.ensures, c.walk_part.new.nodes.ok.0) in
    let left : Some c.in-Some.number ≡ unwalked ls c.len.result = c.in-Some.ensures in
    let f : SFits w16 c.in-Some.number = search rules in
    let g : SFits w32 c.from.result = search rules in
    shape_left (spelled_as (type_of_ref c.args.ty) c.args.bytes.now) ls c.new-nodes.result.items (from_root w)
    new c.in_ok-walk_part.field-0 c.len.result (c.in_ok-walk_part.ensures.walks 4096 (omega arith)) len c.in-Some.number (sym left)
    ∙ ap Err (sym (to_z-of_z w32 c.from.result g ∙ c.from.ensures ∙ to_z-of_z w16 c.in-Some.number f))

pub returns-clause-nodes : goal.returns-clause-nodes
returns-clause-nodes c =
    let w = (goal.at.returns-clause-nodes c).After-walk_part in
    let ls = told w in
    let new = c.walk_part.new.nodes.items in
    let len : c.len.result ≡ length new = omega (arith, c.len.ensures, c.walk_part.new.nodes.ok.0) in
    let left : None ≡ unwalked ls c.len.result = c.in-None.ensures in
    shape_whole (spelled_as (type_of_ref c.args.ty) c.args.bytes.now) ls c.new-nodes.result.items (from_root w)
    new c.in_ok-walk_part.field-0 c.len.result (c.in_ok-walk_part.ensures.walks 4096 (omega arith)) len (sym left)
