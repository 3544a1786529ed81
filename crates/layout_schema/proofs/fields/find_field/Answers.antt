use Rattle.std.proofs.Common.{rules, arith, ◌≡◌, ◌∙◌, sym, ap, subst, refl, Ok, w16}
use Rattle.std.proofs.lemmas.Int.{to_z-of_z}
use mir.Val.{SFits, to_z, of_z}
use Rattle.compact_wire.proofs.ReadSteps.{AreBytes-from}
use Rattle.layout_schema.proofs.FieldSteps.{passed_none, start_not, none_stands, field_stands, field_taken, passed_more, value_not}
use Rattle.idl_profile.specs.Types.{TypeTree}
use Rattle.layout_schema.proofs.FieldSteps.{IsStruct, Passed}
use Rattle.layout_schema.proofs.fields.find_field.Goals as goal
use Rattle.layout_schema.proofs.fields.find_field.Goals.{At-fields}

-- the fields so far
so_far : (c : At-fields) (t : TypeTree) → IsStruct t c.args.bytes.now → Passed t c.args.wanted c.args.bytes.now c.fields.before.id c.fields.rest.now
so_far c t clean =
    let f : SFits w16 c.args.wanted = search rules in
    subst (λ i. Passed t i c.args.bytes.now c.fields.before.id c.fields.rest.now) (to_z-of_z w16 c.args.wanted f) (c.fields.invariant.1 t clean)

pub fields-init : goal.fields-init
fields-init c =
    let f : SFits w16 c.args.wanted = search rules in
    let are = AreBytes-from c.args.bytes.now (λ i. omega (arith, c.type_inv.bytes i)) in
    (are, simp to_z-of_z (λ t clean. passed_none t c.args.wanted c.args.bytes.now are clean))

pub returns-in_default : goal.returns-in_default
returns-in_default c t u known clean =
    let p = so_far (goal.at.returns-in_default c).At-fields t clean in
    absurd (start_not t u c.args.wanted c.args.bytes.now c.fields.before.id c.fields.rest.now p c.in_default.field-0 c.in_default.ensures.reads)

pub returns-in_default-start : goal.returns-in_default-start
returns-in_default-start c t u known clean =
    let p = so_far (goal.at.returns-in_default-start c).At-fields t clean in
    none_stands t u c.args.wanted c.args.bytes.now c.fields.before.id c.fields.rest.now p c.in-Ok.behind.now (c.in-Ok.ensures.reads ∙ ap (λ o. Ok (o, c.in-Ok.behind.now)) c.in_default-start.is)

pub returns-then-id-wanted : goal.returns-then-id-wanted
returns-then-id-wanted c t u known clean =
    let p = so_far (goal.at.returns-then-id-wanted c).At-fields t clean in
    let f : SFits w16 c.args.wanted = search rules in
    let g : SFits w16 c.in-Some.id = search rules in
    let same : c.in-Some.id ≡ c.args.wanted = sym (to_z-of_z w16 c.in-Some.id g) ∙ ap (to_z w16) c.if-id-wanted.true ∙ to_z-of_z w16 c.args.wanted f in
    field_stands t u c.args.wanted c.args.bytes.now c.fields.before.id c.fields.rest.now p c.in-Some.id c.in-Some.field_type c.in-Ok.behind.now (c.in-Ok.ensures.reads ∙ ap (λ o. Ok (o, c.in-Ok.behind.now)) c.in-Some.is) _ refl refl same known

pub returns-in_default-skip_typed : goal.returns-in_default-skip_typed
returns-in_default-skip_typed c t u known clean =
    let p = so_far (goal.at.returns-in_default-skip_typed c).At-fields t clean in
    absurd (value_not t u c.args.wanted c.args.bytes.now c.fields.before.id c.fields.rest.now p c.in-Some.id c.in-Some.field_type c.in-Ok.behind.now (c.in-Ok.ensures.reads ∙ ap (λ o. Ok (o, c.in-Ok.behind.now)) c.in-Some.is) c.in_default-skip_typed.field-0 c.in_default-skip_typed.ensures.reads)

pub fields-smaller : goal.fields-smaller
fields-smaller c =
    (field_taken c.fields.before.id c.fields.rest.now c.in-Some.id c.in-Some.field_type c.in-Ok.behind.now _ c.in-Ok-skip_typed.after.now c.fields.invariant.0 (c.in-Ok.ensures.reads ∙ ap (λ o. Ok (o, c.in-Ok.behind.now)) c.in-Some.is) c.in-Ok-skip_typed.ensures.reads).0

pub fields-preserved : goal.fields-preserved
fields-preserved c =
    let start = c.in-Ok.ensures.reads ∙ ap (λ o. Ok (o, c.in-Ok.behind.now)) c.in-Some.is in
    let taken = field_taken c.fields.before.id c.fields.rest.now c.in-Some.id c.in-Some.field_type c.in-Ok.behind.now _ c.in-Ok-skip_typed.after.now c.fields.invariant.0 start c.in-Ok-skip_typed.ensures.reads in
    let f : SFits w16 c.args.wanted = search rules in
    let g : SFits w16 c.in-Some.id = search rules in
    let next : (t : TypeTree) → IsStruct t c.args.bytes.now → Passed t c.args.wanted c.args.bytes.now c.in-Some.id c.in-Ok-skip_typed.after.now =
    λ t clean. passed_more t t c.args.wanted c.args.bytes.now c.fields.before.id c.fields.rest.now (so_far (goal.at.fields-preserved c).At-fields t clean) c.in-Some.id c.in-Some.field_type c.in-Ok.behind.now start _ c.in-Ok-skip_typed.after.now c.in-Ok-skip_typed.ensures.reads (λ is. c.if-id-wanted.false (ap (of_z w16) is)) in
    (taken.1, simp to_z-of_z next)
