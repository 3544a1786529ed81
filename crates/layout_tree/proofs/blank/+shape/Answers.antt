use Rattle.std.specs.Prelude.{IfOk}
use Rattle.std.proofs.Common.{rules, nat_abs, ℕ, ◌≡◌, ◌+◌, arith, ap, sym, ◌∙◌, subst, refl}
use Rattle.frozen_model.specs.Trees.{KindTree, Optional, nodes}
use Rattle.idl_profile.specs.Types.{TypeTree}
use Rattle.idl_profile.specs.declared.kinds.TypeKind.TheVariants as types
use Rattle.idl_parse.specs.Refs.{type_of_ref, field_of_ref}
use Rattle.type_kinds.specs.KindsOf.{kinds_of}
use Rattle.layout_tree.specs.Shapes.{Adds, CanAdd, field_kinds}
use Rattle.layout_tree.proofs.Shaping.{row_added, row_few, map_added, map_room, kinds_are, fields_start}
use Rattle.layout_tree.proofs.Shaping.{field_add, field_small, struct_added, optional_added, optional_room}
use Rattle.layout_tree.proofs.Shaping.{optional_few, closed_length, optional_field, plain_field}
use Rattle.layout_tree.proofs.blank.+shape.Goals as goal

pub add_items-close-requires-clause-few : goal.add_items-close-requires-clause-few
add_items-close-requires-clause-few t c =
    let ty = type_of_ref c.args.ty in
    let h2 = subst (λ (z : TypeTree). Adds c.add_range.new.nodes.items c.add_type.new.nodes.items (kinds_of z)
    c.len-here.result 3) c.element.ensures c.in_ok-add_type.ensures.added in
    omega (
      arith,
      c.add_type.new.nodes.ok.0,
      row_few c.args.nodes.now.items c.add_range.new.nodes.items
          c.add_type.new.nodes.items ty c.args.kind c.args.parent c.args.field c.len-here.result
          c.requires.kind
          c.requires.room c.in_ok-add_range.ensures.added h2,
    )

pub add_items-returns : goal.add_items-returns
add_items-returns t c =
    let ty = type_of_ref c.args.ty in
    let h2 = subst (λ (z : TypeTree). Adds c.add_range.new.nodes.items c.add_type.new.nodes.items (kinds_of z)
    c.len-here.result 3) c.element.ensures c.in_ok-add_type.ensures.added in
    record {
      added = row_added c.args.nodes.now.items c.add_range.new.nodes.items c.add_type.new.nodes.items
          c.close.new.nodes.items ty c.args.kind c.args.parent c.args.field c.len-here.result c.requires.kind
          (omega (arith, c.len-here.ensures, c.args.nodes.now.ok.0)) c.in_ok-add_range.ensures.added h2
          c.close.ensures;
    }

pub add_map-add_type-requires-2 : goal.add_map-add_type-requires-2
add_map-add_type-requires-2 t c =
    let ty = type_of_ref c.args.ty in
    let here = c.len-here.result in
    let l2 = c.add_node.new.nodes.items in
    let l3 = c.add_type.new.nodes.items in
    let m = map_room c.args.nodes.now.items c.add_range.new.nodes.items l2 ty c.args.parent c.args.field here
    (here + 3) (omega (arith, c.len-here.ensures, c.args.nodes.now.ok.0)) c.requires.kind c.requires.room
    c.in_ok-add_range.ensures.added c.in_ok-add_node.ensures.added in
    let h3 = subst (λ (z : TypeTree). Adds l2 l3 (kinds_of z) (here + 3) 1) c.key.ensures
    c.in_ok-add_type.ensures.added in
    let can = subst (λ (z : TypeTree). CanAdd l3 (kinds_of z)) (sym c.value.ensures) (m.value l3 h3) in (
      omega (arith, c.decreases, m.less, ap (λ (z : TypeTree). nodes (kinds_of z)) c.value.ensures),
      (can, omega arith),
    )

pub add_map-close-requires-clause-few : goal.add_map-close-requires-clause-few
add_map-close-requires-clause-few t c =
    let ty = type_of_ref c.args.ty in
    let here = c.len-here.result in
    let l2 = c.add_node.new.nodes.items in
    let l3 = c.add_type.new.nodes.items in
    let m = map_room c.args.nodes.now.items c.add_range.new.nodes.items l2 ty c.args.parent c.args.field here
    (here + 3) (omega (arith, c.len-here.ensures, c.args.nodes.now.ok.0)) c.requires.kind c.requires.room
    c.in_ok-add_range.ensures.added c.in_ok-add_node.ensures.added in
    let h3 = subst (λ (z : TypeTree). Adds l2 l3 (kinds_of z) (here + 3) 1) c.key.ensures
    c.in_ok-add_type.ensures.added in
    let l4 = c.add_type-2.new.nodes.items in
    let h4 = subst (λ (z : TypeTree). Adds l3 l4 (kinds_of z) (here + 3) 2) c.value.ensures
    c.in_ok-add_type-2.ensures.added in
    omega (arith, c.add_type-2.new.nodes.ok.0, m.few l3 l4 h3 h4)

pub add_map-close-requires-2-clause-few : goal.add_map-close-requires-2-clause-few
add_map-close-requires-2-clause-few t c =
    let ty = type_of_ref c.args.ty in
    let here = c.len-here.result in
    let l2 = c.add_node.new.nodes.items in
    let l3 = c.add_type.new.nodes.items in
    let m = map_room c.args.nodes.now.items c.add_range.new.nodes.items l2 ty c.args.parent c.args.field here
    (here + 3) (omega (arith, c.len-here.ensures, c.args.nodes.now.ok.0)) c.requires.kind c.requires.room
    c.in_ok-add_range.ensures.added c.in_ok-add_node.ensures.added in
    let h3 = subst (λ (z : TypeTree). Adds l2 l3 (kinds_of z) (here + 3) 1) c.key.ensures
    c.in_ok-add_type.ensures.added in
    let l4 = c.add_type-2.new.nodes.items in
    let h4 = subst (λ (z : TypeTree). Adds l3 l4 (kinds_of z) (here + 3) 2) c.value.ensures
    c.in_ok-add_type-2.ensures.added in
    let l5 = c.close.new.nodes.items in
    omega (
      arith,
      c.close.new.nodes.ok.0,
      m.few l3 l4 h3 h4,
      closed_length l4 l5 (here + 3)
          (m.inside l3 l4 h3 h4) c.close.ensures,
    )

pub add_map-returns : goal.add_map-returns
add_map-returns t c =
    let ty = type_of_ref c.args.ty in
    let here = c.len-here.result in
    let l2 = c.add_node.new.nodes.items in
    let l3 = c.add_type.new.nodes.items in
    let m = map_room c.args.nodes.now.items c.add_range.new.nodes.items l2 ty c.args.parent c.args.field here
    (here + 3) (omega (arith, c.len-here.ensures, c.args.nodes.now.ok.0)) c.requires.kind c.requires.room
    c.in_ok-add_range.ensures.added c.in_ok-add_node.ensures.added in
    let h3 = subst (λ (z : TypeTree). Adds l2 l3 (kinds_of z) (here + 3) 1) c.key.ensures
    c.in_ok-add_type.ensures.added in
    let l4 = c.add_type-2.new.nodes.items in
    let h4 = subst (λ (z : TypeTree). Adds l3 l4 (kinds_of z) (here + 3) 2) c.value.ensures
    c.in_ok-add_type-2.ensures.added in
    record {
      added = map_added c.args.nodes.now.items c.add_range.new.nodes.items l2 l3 l4 c.close.new.nodes.items
          c.close-2.new.nodes.items ty c.args.parent c.args.field here (here + 3)
          (kinds_are ty types.Map c.requires.kind)
          (omega (arith, c.len-here.ensures, c.args.nodes.now.ok.0)) refl c.in_ok-add_range.ensures.added
          c.in_ok-add_node.ensures.added h3 h4 c.close.ensures c.close-2.ensures;
    }

pub add_struct-loop-i-init : goal.add_struct-loop-i-init
add_struct-loop-i-init t c =
    fields_start (type_of_ref c.args.ty) c.args.nodes.now.items c.add_node.new.nodes.items c.args.field
    c.args.parent c.len-here.result (omega (arith, c.len-here.ensures, c.args.nodes.now.ok.0))
    c.requires.kind c.requires.room c.in_ok-add_node.ensures.added

pub add_struct-add_field-requires : goal.add_struct-add_field-requires
add_struct-add_field-requires t c =
    let ty = type_of_ref c.args.ty in
    let x = field_of_ref c.field_at.result in
    let st = field_add ty c.args.nodes.now.items c.args.field c.args.parent c.len-here.result
    c.loop-i.nodes.items c.loop-i.i x c.loop-i.invariant c.field_at.ensures in (
      omega (arith, c.decreases, field_small ty c.loop-i.i x c.requires.kind c.field_at.ensures),
      (st.can, st.id),
    )

pub add_struct-loop-i-preserved : goal.add_struct-loop-i-preserved
add_struct-loop-i-preserved t c =
    let ty = type_of_ref c.args.ty in
    let x = field_of_ref c.field_at.result in
    let st = field_add ty c.args.nodes.now.items c.args.field c.args.parent c.len-here.result
    c.loop-i.nodes.items c.loop-i.i x c.loop-i.invariant c.field_at.ensures in
    st.next c.add_field.new.nodes.items c.in_ok-add_field.ensures.added

pub add_struct-returns : goal.add_struct-returns
add_struct-returns t c = record {
  added = struct_added (type_of_ref c.args.ty) c.args.nodes.now.items c.args.field c.args.parent
      c.len-here.result c.loop-i.nodes.items c.close.new.nodes.items c.loop-i.i c.requires.kind
      c.loop-i.invariant (omega (arith, c.field_count-i-end.ensures)) c.close.ensures;
}

pub add_field-add_optional-requires : goal.add_field-add_optional-requires
add_field-add_optional-requires t c =
    let f = field_of_ref c.args.field in
    let e = optional_field f c.need.result c.need.ensures c.in-Optional.is in
    let k : field_kinds f ≡ Optional tt (kinds_of (type_of_ref c.ty.result)) = e
    ∙ ap (λ (z : TypeTree). Optional tt (kinds_of z)) (sym c.ty.ensures) in
    let q = c.unsigned_abs-id.ensures.value in
    let id : c.unsigned_abs-id.result ≡ nat_abs f.id = search (rules, q) in (
      omega (arith, c.decreases, ap (λ (z : KindTree). nodes z) k),
      (
        subst (λ (z : KindTree). CanAdd c.args.nodes.now.items z) k c.requires.room,
        omega
            (arith, id, c.requires.id),
      ),
    )

pub add_field-returns-in-Optional : goal.add_field-returns-in-Optional
add_field-returns-in-Optional t c =
    let f = field_of_ref c.args.field in
    let old = c.args.nodes.now.items in
    let new = c.add_optional.new.nodes.items in
    let e = optional_field f c.need.result c.need.ensures c.in-Optional.is in
    let k : field_kinds f ≡ Optional tt (kinds_of (type_of_ref c.ty.result)) = e
    ∙ ap (λ (z : TypeTree). Optional tt (kinds_of z)) (sym c.ty.ensures) in
    let q = c.unsigned_abs-id.ensures.value in
    let id : c.unsigned_abs-id.result ≡ nat_abs f.id = search (rules, q) in
    record {
      added = subst (λ (z : KindTree). IfOk c.add_optional.result
          (λ (_ : Unit {0}). Adds old new z c.args.parent (nat_abs f.id))) (sym k)
          (subst (λ (n : ℕ). IfOk c.add_optional.result
          (λ (_ : Unit {0}). Adds old new (Optional tt (kinds_of (type_of_ref c.ty.result))) c.args.parent n))
          id c.add_optional.ensures.added);
    }

pub add_field-add_type-requires : goal.add_field-add_type-requires
add_field-add_type-requires t c =
    let f = field_of_ref c.args.field in
    let e = plain_field f c.need.result c.need.ensures c.in-Plain.is in
    let k : field_kinds f ≡ kinds_of (type_of_ref c.ty-in-Plain.result) = e
    ∙ ap (λ (z : TypeTree). kinds_of z) (sym c.ty-in-Plain.ensures) in
    let q = c.unsigned_abs-id.ensures.value in
    let id : c.unsigned_abs-id.result ≡ nat_abs f.id = search (rules, q) in (
      omega (arith, c.decreases, ap (λ (z : KindTree). nodes z) k),
      (
        subst (λ (z : KindTree). CanAdd c.args.nodes.now.items z) k c.requires.room,
        omega
            (arith, id, c.requires.id),
      ),
    )

pub add_field-returns-in-Plain : goal.add_field-returns-in-Plain
add_field-returns-in-Plain t c =
    let f = field_of_ref c.args.field in
    let old = c.args.nodes.now.items in
    let new = c.add_type.new.nodes.items in
    let e = plain_field f c.need.result c.need.ensures c.in-Plain.is in
    let k : field_kinds f ≡ kinds_of (type_of_ref c.ty-in-Plain.result) = e
    ∙ ap (λ (z : TypeTree). kinds_of z) (sym c.ty-in-Plain.ensures) in
    let q = c.unsigned_abs-id.ensures.value in
    let id : c.unsigned_abs-id.result ≡ nat_abs f.id = search (rules, q) in
    record {
      added = subst (λ (z : KindTree). IfOk c.add_type.result
          (λ (_ : Unit {0}). Adds old new z c.args.parent (nat_abs f.id))) (sym k)
          (subst (λ (n : ℕ). IfOk c.add_type.result
          (λ (_ : Unit {0}). Adds old new (kinds_of (type_of_ref c.ty-in-Plain.result)) c.args.parent n)) id
          c.add_type.ensures.added);
    }

pub add_optional-close-requires-clause-few : goal.add_optional-close-requires-clause-few
add_optional-close-requires-clause-few t c =
    let x = kinds_of (type_of_ref c.args.ty) in
    let l2 = c.add_node-2.new.nodes.items in
    let l3 = c.add_type.new.nodes.items in
    let can = optional_room c.args.nodes.now.items c.add_node.new.nodes.items l2 x c.args.parent c.args.field
    c.len-here.result c.requires.room c.in_ok-add_node.ensures.added c.in_ok-add_node-2.ensures.added in
    omega (
      arith,
      c.add_type.new.nodes.ok.0,
      optional_few l2 l3 x c.len-here.result can
          c.in_ok-add_type.ensures.added,
    )

pub add_optional-returns : goal.add_optional-returns
add_optional-returns t c = record {
  added = optional_added c.args.nodes.now.items c.add_node.new.nodes.items c.add_node-2.new.nodes.items
      c.add_type.new.nodes.items c.close.new.nodes.items (kinds_of (type_of_ref c.args.ty)) c.args.parent
      c.args.field c.len-here.result
      (omega (arith, c.len-here.ensures, c.args.nodes.now.ok.0)) c.in_ok-add_node.ensures.added
      c.in_ok-add_node-2.ensures.added c.in_ok-add_type.ensures.added c.close.ensures;
}
