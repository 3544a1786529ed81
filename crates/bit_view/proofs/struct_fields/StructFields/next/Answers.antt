use Rattle.std.proofs.Common.{◌≡◌, ◌+◌, arith, rules, ◌∙◌, suc}
use Rattle.std.proofs.lemmas.Int.{to_z-of_z}
use mir.Val.{SFits}
use mir.Syntax.{w16}
use Rattle.typed_tree.specs.Parts.{ids_of, fields_of}
use Rattle.bit_view.specs.Views.{value_of_view}
use Rattle.bit_view.proofs.Seen.{view_bounds, node_number}
use Rattle.bit_view.proofs.FieldCursors.{next_field, no_field_left, record_held, view_fields, as_many}
use Rattle.bit_view.proofs.FieldCursors.{place_below, cursor_inside, cursor_ended, field_here}
use Rattle.bit_view.proofs.struct_fields.StructFields.next.Goals as goal

pub returns-then-self : goal.returns-then-self
returns-then-self c =
    let s = c.args.self.now in
    let w = s.whole in
    let f = view_fields w (record_held (value_of_view w) s.fields) in
    no_field_left (ids_of (value_of_view w)) (fields_of (value_of_view w)) s.given (as_many w f)
    (cursor_ended w s.given s.node s.end f s.ends s.next s.within c.if-self.true)

pub node-spec-requires : goal.node-spec-requires
node-spec-requires c =
    let s = c.args.self.now in
    let w = s.whole in
    let f = view_fields w (record_held (value_of_view w) s.fields) in
    let lt = cursor_inside w s.given s.node s.end f s.ends s.next s.within c.if-self.false in
    node_number w.layouts.now s.node (field_here w s.given s.node f s.next lt).node

pub overflow_add-field : goal.overflow_add-field
overflow_add-field c =
    let b = view_bounds c.args.self.now.whole in
    omega (arith, b.within, b.short, c.from.ensures, c.node-spec.type_inv)

pub past-self-requires : goal.past-self-requires
past-self-requires c =
    let s = c.args.self.now in
    let w = s.whole in
    let f = view_fields w (record_held (value_of_view w) s.fields) in
    let lt = cursor_inside w s.given s.node s.end f s.ends s.next s.within c.if-self.false in
    node_number w.layouts.now s.node (field_here w s.given s.node f s.next lt).node

pub overflow_add-self : goal.overflow_add-self
overflow_add-self c =
    let s = c.args.self.now in
    let w = s.whole in
    let f = view_fields w (record_held (value_of_view w) s.fields) in
    omega (arith, place_below w s.given s.node f s.next s.within, c.fits-self)

pub invariant_of-self-clause-next : goal.invariant_of-self-clause-next
invariant_of-self-clause-next c =
    let s = c.args.self.now in
    let w = s.whole in
    let f = view_fields w (record_held (value_of_view w) s.fields) in
    let lt = cursor_inside w s.given s.node s.end f s.ends s.next s.within c.if-self.false in
    let h = field_here w s.given s.node f s.next lt in
    let more : s.given + 1 ≡ suc s.given = omega arith in
    h.step c.past-self.result (s.given + 1) (c.past-self.ensures.part h.node) more

pub invariant_of-self-clause-within : goal.invariant_of-self-clause-within
invariant_of-self-clause-within c =
    let s = c.args.self.now in
    let w = s.whole in
    let f = view_fields w (record_held (value_of_view w) s.fields) in
    let lt = cursor_inside w s.given s.node s.end f s.ends s.next s.within c.if-self.false in
    omega (arith, lt)

pub invariant_of-field-clause-lies : goal.invariant_of-field-clause-lies
invariant_of-field-clause-lies c =
    let s = c.args.self.now in
    let w = s.whole in
    let f = view_fields w (record_held (value_of_view w) s.fields) in
    let lt = cursor_inside w s.given s.node s.end f s.ends s.next s.within c.if-self.false in
    let h = field_here w s.given s.node f s.next lt in
    (h.there c.node-spec.result c.from.result c.node-spec.ensures c.from.ensures).lies

pub returns : goal.returns
returns c =
    let s = c.args.self.now in
    let w = s.whole in
    let f = view_fields w (record_held (value_of_view w) s.fields) in
    let lt = cursor_inside w s.given s.node s.end f s.ends s.next s.within c.if-self.false in
    let h = field_here w s.given s.node f s.next lt in
    let at = h.there c.node-spec.result c.from.result c.node-spec.ensures c.from.ensures in
    let fit : SFits w16 c.node-spec.result.field = search rules in
    let more : s.given + 1 ≡ suc s.given = omega arith in
    next_field (ids_of (value_of_view w)) (fields_of (value_of_view w)) s.given (s.given + 1) _ _ lt
    (as_many w f) (to_z-of_z w16 _ fit ∙ h.name c.node-spec.result c.node-spec.ensures) at.value more
