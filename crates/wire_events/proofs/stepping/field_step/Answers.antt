use Rattle.std.proofs.Common.{Ok, [], refl, ap, ◌∙◌, arith, rules}
use Rattle.std.proofs.lemmas.Int.{to_z-of_z}
use mir.Val.{SFits}
use mir.Syntax.{w16}
use Rattle.compact_wire.proofs.ReadSteps.{AreBytes-from}
use Rattle.wire_events.proofs.Taken.{start_takes}
use Rattle.wire_events.proofs.Splits.{fields_start, no_start}
use Rattle.wire_events.proofs.stepping.field_step.Goals as goal

pub returns-in_err-start : goal.returns-in_err-start
returns-in_err-start c es end h =
    let f : SFits w16 c.args.id = search rules in
    let r = simp to_z-of_z at c.in_err-start.ensures.reads in
    absurd (no_start c.args.levels c.args.id es c.args.bytes.now end c.in_err-start.field-0.0 r h)

pub returns-in-None : goal.returns-in-None
returns-in-None c es end h =
    let f : SFits w16 c.args.id = search rules in
    let r = simp to_z-of_z at c.in_ok-start.ensures.reads in
    let s = fields_start c.args.levels c.args.id es c.args.bytes.now c.in_ok-start.rest.now end _ (r ∙ ap (λ o. Ok (o, c.in_ok-start.rest.now)) c.in-None.is) h in
    let t = start_takes c.args.levels c.args.id c.args.bytes.now _ c.in_ok-start.rest.now (AreBytes-from c.args.bytes.now (λ i. omega (arith, c.type_inv.bytes i))) (r ∙ ap (λ o. Ok (o, c.in_ok-start.rest.now)) c.in-None.is) in
    record { ins = []; outs = []; mid = c.in_ok-start.rest.now; parts = s.0; opened = (refl, refl); kept = (refl, s.1, refl); takes = t; begins = λ le q. absurd cc }

pub returns-in-Some : goal.returns-in-Some
returns-in-Some c es end h =
    let f : SFits w16 c.args.id = search rules in
    let g : SFits w16 c.in-Some.id = search rules in
    let r = simp to_z-of_z at c.in_ok-start.ensures.reads in
    let s = fields_start c.args.levels c.args.id es c.args.bytes.now c.in_ok-start.rest.now end _ (r ∙ ap (λ o. Ok (o, c.in_ok-start.rest.now)) c.in-Some.is) h in
    let t = start_takes c.args.levels c.args.id c.args.bytes.now _ c.in_ok-start.rest.now (AreBytes-from c.args.bytes.now (λ i. omega (arith, c.type_inv.bytes i))) (r ∙ ap (λ o. Ok (o, c.in_ok-start.rest.now)) c.in-Some.is) in
    simp to_z-of_z (record { ins = []; outs = s.0; mid = c.in_ok-start.rest.now; parts = s.1; opened = (refl, refl); kept = s.2; takes = t; begins = λ le q. absurd cc })
