use Rattle.std.proofs.Common.{◌≡◌, ◌+◌, arith, rules, ap, sym, ◌∙◌, subst, refl, nat_abs, pos, Some, None, ℤ}
use Rattle.std.proofs.Common.{List, Option, ℕ, w16, true, false}
use Rattle.std.proofs.lemmas.Int.{to_z-of_z}
use mir.Val.{SFits}
use Rattle.idl_profile.specs.Types.{TypeTree, kind_of}
use Rattle.idl_parse.specs.Refs.{type_of_ref, field_of_ref}
use Rattle.type_kinds.specs.KindsOf.{kinds_of}
use Rattle.type_kinds.specs.Laws.{Any}
use Rattle.root_kinds.proofs.References.{struct_ref_is_accepted}
use Rattle.frozen_model.specs.Trees.{KindTree, nodes}
use Rattle.frozen_model.specs.Layouts.{Layout}
use Rattle.layout_tree.specs.Nodes.{at, noted_in}
use Rattle.layout_tree.specs.Listing.{version_of}
use Rattle.layout_tree.specs.Reading.{IsStruct, child_of}
use Rattle.layout_tree.proofs.Children.{item_child, inner_child}
use Rattle.layout_tree.proofs.Numbers.{number_of_part}
use Rattle.layout_tree.proofs.Shaping.{field_small, optional_field, plain_field}
use Rattle.evolve.specs.Binding.{under, type_fault}
use Rattle.evolve.specs.Plans.{nodes_at}
use Rattle.evolve.specs.BindSteps.{Adds, Tells, IsPair, fields_in, fault_at, plan_at, fault_at_pair}
use Rattle.evolve.specs.BindSteps.{plan_at_pair}
use Rattle.evolve.proofs.Fitting.{row_fits, map_fits, struct_fits, struct_is, optional_here, unfit}
use Rattle.evolve.proofs.Fitting.{range_here, bytes_here, leaf_here, leaf_left}
use Rattle.evolve.proofs.FieldSteps.{child_found, child_lacks, fields_start, field_here, fields_done}
use Rattle.evolve.proofs.LackedParts.{row_kinds, map_kinds}
use Rattle.evolve.proofs.BindParts as part
use Rattle.evolve.proofs.binding.+bind.Goals as goal

-- ---- fields

pub bind_field-child-requires : goal.bind_field-child-requires
bind_field-child-requires t c = number_of_part (noted_in c.args.layouts.now) c.args.node c.requires.node

pub bind_field-bind_optional-requires : goal.bind_field-bind_optional-requires
bind_field-bind_optional-requires t c =
    let y = c.args.layouts.now in
    let v = version_of y.version in
    let f = field_of_ref c.args.field in
    let q = c.abs.ensures.value in
    let g = c.id.ensures in
    let s : SFits w16 c.abs.result = search rules in
    let own : c.abs.result ≡ pos (nat_abs f.id) = search (rules, q, g) in
    let id = to_z-of_z w16 c.abs.result s ∙ own in
    let is = part.struct_form (at y c.args.node) c.requires.structure in
    let fd = child_found (noted_in y) v c.args.node (nat_abs f.id) c.in-Some.child c.requires.node is
    (ap (λ (z : ℤ). child_of (at y c.args.node) c.args.node z) (sym id)
    ∙ sym (c.in-Some.ensures.part c.requires.node)) in
    let e = optional_field f c.need.result c.need.ensures c.in-Optional.is in (
      omega (
        arith,
        c.decreases,
        ap (λ (z : KindTree). nodes z) e,
        ap (λ (z : TypeTree). nodes (kinds_of z)) c.ty.ensures,
      ),
      fd.child.node,
    )

pub bind_field-bind_type-requires : goal.bind_field-bind_type-requires
bind_field-bind_type-requires t c =
    let y = c.args.layouts.now in
    let v = version_of y.version in
    let f = field_of_ref c.args.field in
    let q = c.abs.ensures.value in
    let g = c.id.ensures in
    let s : SFits w16 c.abs.result = search rules in
    let own : c.abs.result ≡ pos (nat_abs f.id) = search (rules, q, g) in
    let id = to_z-of_z w16 c.abs.result s ∙ own in
    let is = part.struct_form (at y c.args.node) c.requires.structure in
    let fd = child_found (noted_in y) v c.args.node (nat_abs f.id) c.in-Some.child c.requires.node is
    (ap (λ (z : ℤ). child_of (at y c.args.node) c.args.node z) (sym id)
    ∙ sym (c.in-Some.ensures.part c.requires.node)) in
    let e = plain_field f c.need.result c.need.ensures c.in-Plain.is in (
      omega (
        arith,
        c.decreases,
        ap (λ (z : KindTree). nodes z) e,
        ap (λ (z : TypeTree). nodes (kinds_of z)) c.ty-in-Plain.ensures,
      ),
      fd.child.node,
    )

pub bind_field-returns-in-Optional : goal.bind_field-returns-in-Optional
bind_field-returns-in-Optional t c =
    let y = c.args.layouts.now in
    let v = version_of y.version in
    let f = field_of_ref c.args.field in
    let q = c.abs.ensures.value in
    let g = c.id.ensures in
    let s : SFits w16 c.abs.result = search rules in
    let own : c.abs.result ≡ pos (nat_abs f.id) = search (rules, q, g) in
    let id = to_z-of_z w16 c.abs.result s ∙ own in
    let is = part.struct_form (at y c.args.node) c.requires.structure in
    let fd = child_found (noted_in y) v c.args.node (nat_abs f.id) c.in-Some.child c.requires.node is
    (ap (λ (z : ℤ). child_of (at y c.args.node) c.args.node z) (sym id)
    ∙ sym (c.in-Some.ensures.part c.requires.node)) in
    part.optional_field_answers y.relaxed f (fields_in (at y c.args.node)) (1 + c.args.node)
    (type_of_ref c.ty.result) (at y c.in-Some.child) c.in-Some.child c.args.nodes.now.items
    c.bind_optional.new.nodes.items c.bind_optional.result (sym c.need.ensures ∙ c.in-Optional.is)
    c.ty.ensures
    (fd.tree ∙ ap (λ (z : Layout). Some z) (sym fd.child.is)) fd.node c.bind_optional.ensures

pub bind_field-returns-in-Plain : goal.bind_field-returns-in-Plain
bind_field-returns-in-Plain t c =
    let y = c.args.layouts.now in
    let v = version_of y.version in
    let f = field_of_ref c.args.field in
    let q = c.abs.ensures.value in
    let g = c.id.ensures in
    let s : SFits w16 c.abs.result = search rules in
    let own : c.abs.result ≡ pos (nat_abs f.id) = search (rules, q, g) in
    let id = to_z-of_z w16 c.abs.result s ∙ own in
    let is = part.struct_form (at y c.args.node) c.requires.structure in
    let fd = child_found (noted_in y) v c.args.node (nat_abs f.id) c.in-Some.child c.requires.node is
    (ap (λ (z : ℤ). child_of (at y c.args.node) c.args.node z) (sym id)
    ∙ sym (c.in-Some.ensures.part c.requires.node)) in
    part.plain_field_answers y.relaxed f (fields_in (at y c.args.node)) (1 + c.args.node) c.need.result
    (type_of_ref c.ty-in-Plain.result) (at y c.in-Some.child) c.in-Some.child c.args.nodes.now.items
    c.bind_type.new.nodes.items c.bind_type.result c.in-Plain.is (sym c.need.ensures) c.ty-in-Plain.ensures
    (fd.tree ∙ ap (λ (z : Layout). Some z) (sym fd.child.is)) fd.node c.bind_type.ensures

pub bind_field-returns-in-Required : goal.bind_field-returns-in-Required
bind_field-returns-in-Required t c =
    let y = c.args.layouts.now in
    let f = field_of_ref c.args.field in
    let l = at y c.args.node in
    let q = c.abs.ensures.value in
    let g = c.id.ensures in
    let s : SFits w16 c.abs.result = search rules in
    let own : c.abs.result ≡ pos (nat_abs f.id) = search (rules, q, g) in
    let id = to_z-of_z w16 c.abs.result s ∙ own in
    let lacks = child_lacks l c.args.node (nat_abs f.id) (part.struct_form l c.requires.structure)
    (ap (λ (z : ℤ). child_of l c.args.node z) (sym id) ∙ sym (c.in-None.ensures.part c.requires.node)) in
    part.absent_here (fault_at y.relaxed f (fields_in l)) c.new.result.items
    (part.required_lacked y.relaxed f (fields_in l) (sym c.need-in-None.ensures ∙ c.in-Required.is) lacks)
    c.new.ensures.items

pub bind_field-returns-in_ok-lack_field-in-Plain-need : goal.bind_field-returns-in_ok-lack_field-in-Plain-need
bind_field-returns-in_ok-lack_field-in-Plain-need t c =
    let y = c.args.layouts.now in
    let f = field_of_ref c.args.field in
    let l = at y c.args.node in
    let q = c.abs.ensures.value in
    let g = c.id.ensures in
    let s : SFits w16 c.abs.result = search rules in
    let own : c.abs.result ≡ pos (nat_abs f.id) = search (rules, q, g) in
    let id = to_z-of_z w16 c.abs.result s ∙ own in
    let lacks = child_lacks l c.args.node (nat_abs f.id) (part.struct_form l c.requires.structure)
    (ap (λ (z : ℤ). child_of l c.args.node z) (sym id) ∙ sym (c.in-None.ensures.part c.requires.node)) in
    part.other_lacked y.relaxed f (fields_in l) (1 + c.args.node) c.need-in-None.result c.args.nodes.now.items
    c.lack_field.new.nodes.items c.in-Plain-need.is (sym c.need-in-None.ensures) lacks
    c.in_ok-lack_field-in-Plain-need.ensures

-- ---- maps

pub bind_map-add_range-requires : goal.bind_map-add_range-requires
bind_map-add_range-requires t c =
    let y = c.args.layouts.now in
    let l = at y c.args.node in
    let m = map_fits y.relaxed (type_of_ref c.args.ty) l c.requires.map c.requires.fits in
    part.range_room y c.args.node c.requires.node (part.holder_range l m.holder)

pub bind_map-overflow_add-node : goal.bind_map-overflow_add-node
bind_map-overflow_add-node t c =
    omega (arith, part.node_room c.args.layouts.now c.args.node c.requires.node)

pub bind_map-bind_pair-requires : goal.bind_map-bind_pair-requires
bind_map-bind_pair-requires t c =
    let y = c.args.layouts.now in
    let v = version_of y.version in
    let l = at y c.args.node in
    let m = map_fits y.relaxed (type_of_ref c.args.ty) l c.requires.map c.requires.fits in
    let ch = item_child (noted_in y) v c.args.node c.requires.node m.holder in (
      omega (arith, c.decreases),
      (
        ch.node,
        (
          c.requires.map,
          subst (λ (z : Layout). IsPair z) (sym ch.is) (part.map_item y c.args.node c.requires.node m.map),
        ),
      ),
    )

pub bind_map-returns : goal.bind_map-returns
bind_map-returns t c =
    let y = c.args.layouts.now in
    let v = version_of y.version in
    let ty = type_of_ref c.args.ty in
    let l = at y c.args.node in
    let m = map_fits y.relaxed ty l c.requires.map c.requires.fits in
    let ch = item_child (noted_in y) v c.args.node c.requires.node m.holder in
    part.map_answers y.relaxed ty l (at y (c.args.node + 3)) c.args.node (c.args.node + 3)
    c.args.nodes.now.items c.add_range.new.nodes.items c.bind_pair.new.nodes.items c.under.result m ch.is refl
    c.in_ok-add_range.ensures
    (c.under.ensures c.add_range.new.nodes.items c.bind_pair.new.nodes.items
    (fault_at_pair y.relaxed ty (at y (c.args.node + 3)))
    (plan_at_pair ty (at y (c.args.node + 3)) (c.args.node + 3)) c.bind_pair.ensures)

pub bind_pair-add_node-requires : goal.bind_pair-add_node-requires
bind_pair-add_node-requires t c = part.node_room c.args.layouts.now c.args.node c.requires.node

pub bind_pair-overflow_add-key : goal.bind_pair-overflow_add-key
bind_pair-overflow_add-key t c =
    omega (arith, part.node_room c.args.layouts.now c.args.node c.requires.node)

pub bind_pair-bind_type-requires : goal.bind_pair-bind_type-requires
bind_pair-bind_type-requires t c =
    let y = c.args.layouts.now in
    let ty = type_of_ref c.args.ty in
    let v = version_of y.version in
    let p = part.pair_parts (noted_in y) v c.args.node c.requires.node c.requires.pair in (
      omega (
        arith,
        c.decreases,
        map_kinds ty (kind_of ty) refl c.requires.map,
        ap (λ (z : TypeTree). nodes (kinds_of z)) c.key.ensures,
      ),
      p.first.node,
    )

pub bind_pair-returns-in-Err : goal.bind_pair-returns-in-Err
bind_pair-returns-in-Err t c =
    let y = c.args.layouts.now in
    let ty = type_of_ref c.args.ty in
    let x = type_of_ref c.key.result in
    let key = c.args.node + 1 in
    let p = part.pair_parts (noted_in y) (version_of y.version) c.args.node c.requires.node c.requires.pair in
    let first = type_fault y.relaxed x (at y key) in
    let h = c.in-Err.ensures c.add_node.new.nodes.items c.bind_type.new.nodes.items first
    (nodes_at x (at y key) key) c.bind_type.ensures in
    part.pair_tells y.relaxed ty x (at y c.args.node) (at y key) c.in-Err.fault p c.key.ensures p.first.is h

pub bind_pair-past-requires : goal.bind_pair-past-requires
bind_pair-past-requires t c =
    let y = c.args.layouts.now in
    let p = part.pair_parts (noted_in y) (version_of y.version) c.args.node c.requires.node c.requires.pair in
    number_of_part (noted_in y) (c.args.node + 1) p.first.node

pub bind_pair-bind_type-requires-2 : goal.bind_pair-bind_type-requires-2
bind_pair-bind_type-requires-2 t c =
    let y = c.args.layouts.now in
    let ty = type_of_ref c.args.ty in
    let p = part.pair_parts (noted_in y) (version_of y.version) c.args.node c.requires.node c.requires.pair in
    let place = c.past.ensures.part p.first.node
    ∙ ap (λ (z : Layout). c.args.node + 1 + nodes z) p.first.is in (
      omega (
        arith,
        c.decreases,
        map_kinds ty (kind_of ty) refl c.requires.map,
        ap (λ (z : TypeTree). nodes (kinds_of z)) c.value.ensures,
      ),
      (p.second c.past.result place).node,
    )

pub bind_pair-returns : goal.bind_pair-returns
bind_pair-returns t c =
    let y = c.args.layouts.now in
    let r = y.relaxed in
    let ty = type_of_ref c.args.ty in
    let x = type_of_ref c.key.result in
    let u = type_of_ref c.value.result in
    let node = c.args.node in
    let key = node + 1 in
    let value = c.past.result in
    let l = at y node in
    let p = part.pair_parts (noted_in y) (version_of y.version) node c.requires.node c.requires.pair in
    let place = c.past.ensures.part p.first.node ∙ ap (λ (z : Layout). key + nodes z) p.first.is in
    let s = p.second value place in
    let a = c.args.nodes.now.items in
    let b = c.add_node.new.nodes.items in
    let d = c.bind_type.new.nodes.items in
    let e = c.bind_type-2.new.nodes.items in
    let h = c.in-Ok.ensures b d (type_fault r x (at y key)) (nodes_at x (at y key) key) c.bind_type.ensures in
    let g = c.under-2.ensures d e (type_fault r u (at y value)) (nodes_at u (at y value) value)
    c.bind_type-2.ensures in
    part.pair_answers r ty x u l (at y key) (at y value) node key value a b d e c.under-2.result p
    c.key.ensures
    c.value.ensures p.first.is s.is refl (c.past.ensures.part p.first.node) c.in_ok-add_node.ensures h.0 h.1 g

-- ---- lists and sets

pub bind_row-add_range-requires : goal.bind_row-add_range-requires
bind_row-add_range-requires t c =
    let y = c.args.layouts.now in
    let l = at y c.args.node in
    let m = row_fits y.relaxed (type_of_ref c.args.ty) l c.requires.row c.requires.fits in
    part.range_room y c.args.node c.requires.node (part.holder_range l m.holder)

pub bind_row-overflow_add-node : goal.bind_row-overflow_add-node
bind_row-overflow_add-node t c =
    omega (arith, part.node_room c.args.layouts.now c.args.node c.requires.node)

pub bind_row-bind_type-requires : goal.bind_row-bind_type-requires
bind_row-bind_type-requires t c =
    let y = c.args.layouts.now in
    let ty = type_of_ref c.args.ty in
    let m = row_fits y.relaxed ty (at y c.args.node) c.requires.row c.requires.fits in
    let ch = item_child (noted_in y) (version_of y.version) c.args.node c.requires.node m.holder in (
      omega (
        arith,
        c.decreases,
        row_kinds ty (kind_of ty) refl c.requires.row,
        ap (λ (z : TypeTree). nodes (kinds_of z)) c.element.ensures,
      ),
      ch.node,
    )

pub bind_row-returns : goal.bind_row-returns
bind_row-returns t c =
    let y = c.args.layouts.now in
    let ty = type_of_ref c.args.ty in
    let x = type_of_ref c.element.result in
    let l = at y c.args.node in
    let k = c.args.node + 3 in
    let m = row_fits y.relaxed ty l c.requires.row c.requires.fits in
    let ch = item_child (noted_in y) (version_of y.version) c.args.node c.requires.node m.holder in
    part.row_answers y.relaxed ty x l (at y k) c.args.node k c.args.nodes.now.items
    c.add_range.new.nodes.items c.bind_type.new.nodes.items c.under.result m c.element.ensures ch.is refl
    c.in_ok-add_range.ensures
    (c.under.ensures c.add_range.new.nodes.items c.bind_type.new.nodes.items (type_fault y.relaxed x (at y k))
    (nodes_at x (at y k) k) c.bind_type.ensures)

-- ---- optionals

pub bind_optional-add_node-requires : goal.bind_optional-add_node-requires
bind_optional-add_node-requires t c = part.node_room c.args.layouts.now c.args.node c.requires

pub bind_optional-overflow_add-node : goal.bind_optional-overflow_add-node
bind_optional-overflow_add-node t c = omega (arith, part.node_room c.args.layouts.now c.args.node c.requires)

pub bind_optional-add_node-requires-in-Optional : goal.bind_optional-add_node-requires-in-Optional
bind_optional-add_node-requires-in-Optional t c =
    let y = c.args.layouts.now in
    let o = optional_here c.kind.result (at y c.args.node) c.kind.ensures.kind c.in-Optional.is in
    omega (arith, part.optional_room y c.args.node c.requires o)

pub bind_optional-overflow_add-node-in-Optional : goal.bind_optional-overflow_add-node-in-Optional
bind_optional-overflow_add-node-in-Optional t c =
    omega (arith, part.node_room c.args.layouts.now c.args.node c.requires)

pub bind_optional-bind_type-requires : goal.bind_optional-bind_type-requires
bind_optional-bind_type-requires t c =
    let y = c.args.layouts.now in
    let o = optional_here c.kind.result (at y c.args.node) c.kind.ensures.kind c.in-Optional.is in (
      omega (arith, c.decreases),
      (inner_child (noted_in y) (version_of y.version) c.args.node o.width o.inner
          c.requires o.is).node,
    )

pub bind_optional-returns-in_ok-add_node-in-Optional-2 :
    goal.bind_optional-returns-in_ok-add_node-in-Optional-2
bind_optional-returns-in_ok-add_node-in-Optional-2 t c =
    let y = c.args.layouts.now in
    let ty = type_of_ref c.args.ty in
    let l = at y c.args.node in
    let k = c.args.node + 2 in
    let o = optional_here c.kind.result l c.kind.ensures.kind c.in-Optional.is in
    let ch = inner_child (noted_in y) (version_of y.version) c.args.node o.width o.inner c.requires o.is in
    part.optional_answers y.relaxed ty l (at y k) c.args.node (c.args.node + 1) k c.args.nodes.now.items
    c.add_node.new.nodes.items c.add_node-in-Optional.new.nodes.items c.bind_type.new.nodes.items
    c.under.result o ch.is refl refl c.in_ok-add_node-in-Optional.ensures
    c.in_ok-add_node-in-Optional-2.ensures
    (c.under.ensures c.add_node-in-Optional.new.nodes.items c.bind_type.new.nodes.items
    (type_fault y.relaxed ty (at y k)) (nodes_at ty (at y k) k) c.bind_type.ensures)

-- ---- structs

pub bind_struct-add_node-requires : goal.bind_struct-add_node-requires
bind_struct-add_node-requires t c = part.node_room c.args.layouts.now c.args.node c.requires.node

pub bind_struct-loop-i-init : goal.bind_struct-loop-i-init
bind_struct-loop-i-init t c =
    let y = c.args.layouts.now in
    let ty = type_of_ref c.args.ty in
    let l = at y c.args.node in
    fields_start y.relaxed ty l c.args.node c.args.nodes.now.items c.add_node.new.nodes.items
    (struct_is ty c.requires.struct_type) (struct_fits y.relaxed ty l c.requires.struct_type c.requires.fits)
    c.in_ok-add_node.ensures

pub bind_struct-bind_field-requires : goal.bind_struct-bind_field-requires
bind_struct-bind_field-requires t c =
    let y = c.args.layouts.now in
    let ty = type_of_ref c.args.ty in
    let l = at y c.args.node in
    let x = field_of_ref c.field_at-field.result in
    let is = struct_fits y.relaxed ty l c.requires.struct_type c.requires.fits in (
      omega (arith, c.decreases, field_small ty c.loop-i.i x c.requires.struct_type c.field_at-field.ensures),
      (
        c.requires.node,
        (
          subst (λ (z : Layout). IsStruct z) (sym is) tt,
          part.field_id_small Any ty c.loop-i.i x c.requires.struct_type
              (struct_ref_is_accepted c.args.ty c.requires.struct_type) c.field_at-field.ensures,
        ),
      ),
    )

pub bind_struct-returns-in-Err : goal.bind_struct-returns-in-Err
bind_struct-returns-in-Err t c =
    let y = c.args.layouts.now in
    let r = y.relaxed in
    let ty = type_of_ref c.args.ty in
    let node = c.args.node in
    let l = at y node in
    let ls = fields_in l in
    let k = c.loop-i in
    let x = field_of_ref c.field_at-field.result in
    let s : SFits w16 c.id.result = search rules in
    let st = field_here r ty l node c.args.nodes.now.items k.nodes.items k.i x k.invariant
    c.field_at-field.ensures in
    let h = c.in-Err.ensures k.nodes.items c.bind_field.new.nodes.items (fault_at r x ls)
    (plan_at x ls (1 + node))
    c.bind_field.ensures in
    st.err c.in-Err.fault (subst (λ (z : ℤ). Tells (under z (fault_at r x ls)) c.in-Err.fault)
    (to_z-of_z w16 c.id.result s ∙ c.id.ensures) h)

pub bind_struct-loop-i-preserved : goal.bind_struct-loop-i-preserved
bind_struct-loop-i-preserved t c =
    let y = c.args.layouts.now in
    let r = y.relaxed in
    let ty = type_of_ref c.args.ty in
    let node = c.args.node in
    let l = at y node in
    let ls = fields_in l in
    let k = c.loop-i in
    let x = field_of_ref c.field_at-field.result in
    let s : SFits w16 c.id.result = search rules in
    let st = field_here r ty l node c.args.nodes.now.items k.nodes.items k.i x k.invariant
    c.field_at-field.ensures in
    let h = c.in-Ok.ensures k.nodes.items c.bind_field.new.nodes.items (fault_at r x ls)
    (plan_at x ls (1 + node))
    c.bind_field.ensures in
    st.ok c.bind_field.new.nodes.items
    (subst (λ (z : ℤ). under z (fault_at r x ls) ≡ None)
    (to_z-of_z w16 c.id.result s ∙ c.id.ensures)
    h.0) h.1

pub bind_struct-returns : goal.bind_struct-returns
bind_struct-returns t c =
    let y = c.args.layouts.now in
    let ty = type_of_ref c.args.ty in
    fields_done y.relaxed ty (at y c.args.node) c.args.node c.args.nodes.now.items c.loop-i.nodes.items
    c.loop-i.i
    c.loop-i.invariant (omega (arith, c.field_count-i-end.ensures))

-- ---- types

pub bind_type-returns-then-not-fits : goal.bind_type-returns-then-not-fits
bind_type-returns-then-not-fits t c =
    let y = c.args.layouts.now in
    let ty = type_of_ref c.args.ty in
    let l = at y c.args.node in
    let e = part.fits_known y.relaxed c.relaxed.result ty l c.kind.result c.kind-2.result false
    c.relaxed.ensures
    c.kind.ensures c.kind-2.ensures.kind (sym c.if-not-fits.true ∙ c.fits.ensures) in
    part.changed_here (type_fault y.relaxed ty l) c.new.result.items (unfit y.relaxed ty l e)
    c.new.ensures.items

pub bind_type-add_range-requires : goal.bind_type-add_range-requires
bind_type-add_range-requires t c =
    let y = c.args.layouts.now in
    let ty = type_of_ref c.args.ty in
    let l = at y c.args.node in
    let e = part.fits_known y.relaxed c.relaxed.result ty l c.kind.result c.kind-2.result true
    c.relaxed.ensures
    c.kind.ensures c.kind-2.ensures.kind (sym c.if-not-fits.false ∙ c.fits.ensures) in
    part.range_room y c.args.node c.requires
    (range_here y.relaxed ty l c.kind-3.result c.kind-3.ensures c.in-Text.is e)

pub bind_type-add_node-requires : goal.bind_type-add_node-requires
bind_type-add_node-requires t c = part.node_room c.args.layouts.now c.args.node c.requires

pub bind_type-returns-in_ok-add_range-in-Text : goal.bind_type-returns-in_ok-add_range-in-Text
bind_type-returns-in_ok-add_range-in-Text t c =
    let y = c.args.layouts.now in
    let ty = type_of_ref c.args.ty in
    let l = at y c.args.node in
    let e = part.fits_known y.relaxed c.relaxed.result ty l c.kind.result c.kind-2.result true
    c.relaxed.ensures
    c.kind.ensures c.kind-2.ensures.kind (sym c.if-not-fits.false ∙ c.fits.ensures) in
    let f = bytes_here y.relaxed ty l c.kind-3.result c.kind-3.ensures c.in-Text.is e in (
      f.none,
      subst (λ (z : List (Option ℕ)). Adds c.args.nodes.now.items c.add_range.new.nodes.items z)
          (sym (f.nodes c.args.node)) c.in_ok-add_range-in-Text.ensures,
    )

pub bind_type-returns-in_ok-add_node-in_default : goal.bind_type-returns-in_ok-add_node-in_default
bind_type-returns-in_ok-add_node-in_default t c =
    let y = c.args.layouts.now in
    let ty = type_of_ref c.args.ty in
    let l = at y c.args.node in
    let e = part.fits_known y.relaxed c.relaxed.result ty l c.kind.result c.kind-2.result true
    c.relaxed.ensures
    c.kind.ensures c.kind-2.ensures.kind (sym c.if-not-fits.false ∙ c.fits.ensures) in
    let h = c.in_default in
    let k = leaf_left c.kind-3.result h.not-Text h.not-Bytes h.not-List h.not-Set h.not-Map h.not-Struct in
    let f = leaf_here y.relaxed ty l c.kind-3.result c.kind-3.ensures k e in (
      f.none,
      subst (λ (z : List (Option ℕ)). Adds c.args.nodes.now.items c.add_node.new.nodes.items z)
          (sym (f.nodes c.args.node)) c.in_ok-add_node-in_default.ensures,
    )
