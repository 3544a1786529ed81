use Rattle.std.proofs.Common.{◌∙◌, sym, ap, rules, arith, true, false, ◌∷◌, []}
use Rattle.std.specs.Prelude.{◌&&◌, not, Bool}
use Rattle.std.proofs.lemmas.Int.{to_z-of_z}
use mir.Val.{SFits}
use mir.Syntax.{w16}
use Rattle.idl_parse.specs.Refs.{field_of_ref, fields_of_refs}
use Rattle.typed_reading.specs.declared.fault.NodeFault.TheVariants.{MissingRequired}
use Rattle.typed_reading.specs.Faults.{is_required, is_among}
use Rattle.typed_reading.proofs.FieldLaws.{missing_step, missing_done, field_there, and_false, stood_missing}
use Rattle.typed_reading.proofs.fields.first_missing.Goals.{then-not-is_marked+else-is_required, else-not-is_marked}
use Rattle.typed_reading.proofs.fields.first_missing.Goals as goal

pub loop-place-init : goal.loop-place-init
loop-place-init c ids m h = stood_missing (fields_of_refs c.args.fields) ids c.args.from h

pub returns-then-is_required : goal.returns-then-is_required
returns-then-is_required c ids m stood =
    let f : SFits w16 c.id.result = search rules in
    let fs = fields_of_refs c.args.fields in
    let g = field_of_ref c.at-field.result in
    let p = c.requires c.loop-place.place g c.at-field.ensures in
    let among = sym (m g.id c.loop-place.place p).1 ∙ sym c.is_marked.ensures ∙ c.if-not-is_marked.true in
    let needed = sym (c.is_required.ensures ∙ ap is_required c.need.ensures) ∙ c.if-is_required.true in
    let h = ap (λ (b : Bool). is_required g.need && not b) among ∙ ap (λ (b : Bool). b && true) needed in
    simp to_z-of_z (ap (λ z. MissingRequired z ∷ []) c.id.ensures ∙ sym (missing_step fs c.loop-place.place g ids true c.at-field.ensures h) ∙ c.loop-place.invariant ids m stood)

pub loop-place-preserved : goal.loop-place-preserved
loop-place-preserved c ids m stood =
    let fs = fields_of_refs c.args.fields in
    elim c.if-not-is_marked.branch [
      | then-not-is_marked+else-is_required w ↦
          let g = field_of_ref w.at-field.result in
          let needed = sym (w.is_required.ensures ∙ ap is_required w.need.ensures) ∙ w.if-is_required.false in
          let h = ap (λ (b : Bool). b && not (is_among g.id ids)) needed in
          sym (missing_step fs c.loop-place.place g ids false w.at-field.ensures h) ∙ c.loop-place.invariant ids m stood
      | else-not-is_marked w ↦
          let there = field_there fs c.loop-place.place (omega (arith, c.count-place-end.ensures, c.loop-place-test.true)) in
          let g = there.0 in
          let p = c.requires c.loop-place.place g there.1 in
          let among = sym (m g.id c.loop-place.place p).1 ∙ sym c.is_marked.ensures ∙ w.if-not-is_marked.false in
          let h = ap (λ (b : Bool). is_required g.need && not b) among ∙ and_false (is_required g.need) in
          sym (missing_step fs c.loop-place.place g ids false there.1 h) ∙ c.loop-place.invariant ids m stood
    ]

pub returns : goal.returns
returns c ids m stood =
    let fs = fields_of_refs c.args.fields in
    sym (missing_done fs c.loop-place.place ids (omega (arith, c.count-place-end.ensures, c.loop-place-test.false))) ∙ c.loop-place.invariant ids m stood
