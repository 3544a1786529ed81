use Rattle.std.proofs.Common.{◌+◌, arith, ap}
use Rattle.idl_profile.specs.Types.{TypeTree}
use Rattle.frozen_model.specs.Trees.{KindTree, nodes}
use Rattle.idl_parse.specs.Refs.{type_of_ref, field_of_ref}
use Rattle.type_kinds.specs.KindsOf.{kinds_of}
use Rattle.layout_tree.specs.Shapes.{field_kinds}
use Rattle.layout_tree.proofs.Shaping.{field_small, optional_field}
use Rattle.evolve.proofs.LackedParts.{lack_start, lack_step, lack_both, lack_then, row_kinds, map_kinds}
use Rattle.evolve.proofs.nodes.+lack.Goals as goal

pub lack_field-returns-in_ok-add_none-in-Optional : goal.lack_field-returns-in_ok-add_none-in-Optional
lack_field-returns-in_ok-add_none-in-Optional t c =
    let f = field_of_ref c.args.field in
    let e = optional_field f c.need.result c.need.ensures c.in-Optional.is in
    lack_then c.args.nodes.now.items c.add_none.new.nodes.items c.lack_type.new.nodes.items 2
    (nodes (kinds_of (type_of_ref c.ty.result))) (nodes (field_kinds f)) c.lack_type.result
    c.in_ok-add_none-in-Optional.ensures c.lack_type.ensures
    (omega (
      arith,
      ap (λ (z : KindTree). nodes z) e,
      ap (λ (z : TypeTree). nodes (kinds_of z)) c.ty.ensures,
    ))

pub lack_fields-loop-i-init : goal.lack_fields-loop-i-init
lack_fields-loop-i-init t c =
    lack_start (type_of_ref c.args.ty) c.args.nodes.now.items c.add_none.new.nodes.items c.requires
    c.in_ok-add_none.ensures

pub lack_fields-lack_field-requires : goal.lack_fields-lack_field-requires
lack_fields-lack_field-requires t c =
    let x = field_of_ref c.field_at.result in (
      omega (
        arith,
        c.decreases,
        field_small (type_of_ref c.args.ty) c.loop-i.i x c.requires
            c.field_at.ensures,
      ),
      tt,
    )

pub lack_fields-loop-i-preserved : goal.lack_fields-loop-i-preserved
lack_fields-loop-i-preserved t c =
    lack_step (type_of_ref c.args.ty) c.args.nodes.now.items c.loop-i.nodes.items c.lack_field.new.nodes.items
    c.loop-i.i (field_of_ref c.field_at.result) c.loop-i.invariant c.field_at.ensures
    c.in_ok-lack_field.ensures

pub lack_type-returns-in_ok-add_none-in-List : goal.lack_type-returns-in_ok-add_none-in-List
lack_type-returns-in_ok-add_none-in-List t c =
    let ty = type_of_ref c.args.ty in
    lack_then c.args.nodes.now.items c.add_none-in-List.new.nodes.items c.lack_type.new.nodes.items 3
    (nodes (kinds_of (type_of_ref c.element.result))) (nodes (kinds_of ty)) c.lack_type.result
    c.in_ok-add_none-in-List.ensures c.lack_type.ensures
    (omega (
      arith,
      row_kinds ty c.kind.result c.kind.ensures c.in-List.is,
      ap (λ (z : TypeTree). nodes (kinds_of z)) c.element.ensures,
    ))

pub lack_type-returns-in_ok-lack_type-in-Map : goal.lack_type-returns-in_ok-lack_type-in-Map
lack_type-returns-in_ok-lack_type-in-Map t c =
    let ty = type_of_ref c.args.ty in
    let key = nodes (kinds_of (type_of_ref c.key.result)) in
    let value = nodes (kinds_of (type_of_ref c.value.result)) in
    let a = c.args.nodes.now.items in
    let mid = c.lack_type-in-Map.new.nodes.items in
    let first = lack_both a c.add_none-in-Map.new.nodes.items mid 4 key (4 + key)
    c.in_ok-add_none-in-Map.ensures
    c.in_ok-lack_type-in-Map.ensures (omega arith) in
    lack_then a mid c.lack_type-in-Map-2.new.nodes.items (4 + key) value (nodes (kinds_of ty))
    c.lack_type-in-Map-2.result first c.lack_type-in-Map-2.ensures
    (omega (
      arith,
      map_kinds ty c.kind.result c.kind.ensures c.in-Map.is,
      ap (λ (z : TypeTree). nodes (kinds_of z)) c.key.ensures,
      ap (λ (z : TypeTree). nodes (kinds_of z)) c.value.ensures,
    ))
