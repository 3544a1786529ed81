use Rattle.std.proofs.Common.{◌≡◌, ℕ, ◌<◌, ◌-◌, List, [], ◌∷◌, ◌++◌, length, refl, arith, rules, sym, ap, subst, ◌∙◌}
use Rattle.std.proofs.Math.Logic.{∥∥₁_elim, ∥∥₁_map}
use Rattle.std.proofs.Math.Bridge.{le_prop}
use Rattle.compact_wire.specs.declared.kind.Kind.TheVariants as k
use Rattle.wire_events.specs.declared.frame.Frame.{Frame}
use Rattle.wire_events.specs.declared.frame.Frame.TheVariants as f
use Rattle.wire_events.specs.declared.frame.WireEvent.TheVariants as w
use Rattle.wire_events.specs.Events.{Event, event_of}
use Rattle.wire_events.specs.Frames.{Come, stack_of, pushed, GoesOn}
use Rattle.wire_events.proofs.Stacks.{none_in_front, front_steps, opened_front, length-stack, none_left, top_goes_on, top_left, top_steps, step_level, next_within, next_at_end, next_place, place_at_end, equal_lists, nothing_is}
use Rattle.wire_events.proofs.cursor.WireEvents.next.Goals as goal

pub returns-then-depth-eq0-clause-left : goal.returns-then-depth-eq0-clause-left
returns-then-depth-eq0-clause-left c es h =
    let none = none_left c.args.self.now.frames c.args.self.now.depth c.settled-depth.result es c.args.self.now.rest.now c.settled-depth.ensures.stack c.if-depth-eq0.true h in
    (none, subst (λ (z : List Event). Come 0 (stack_of c.args.self.now.frames c.args.self.now.depth) z c.args.self.now.rest.now []) none h)

pub returns-then-depth-eq0-clause-moves : goal.returns-then-depth-eq0-clause-moves
returns-then-depth-eq0-clause-moves c es h =
    let none = none_left c.args.self.now.frames c.args.self.now.depth c.settled-depth.result es c.args.self.now.rest.now c.settled-depth.ensures.stack c.if-depth-eq0.true h in
    (refl, place_at_end c.args.self.now.frames c.args.self.now.depth es c.args.self.now.bytes.now c.args.self.now.rest.now none h)

pub unreachable-requires : goal.unreachable-requires
unreachable-requires c =
    let lt : c.settled-depth.result - 1 < length c.args.self.now.frames = search (rules, arith) in
    ∥∥₁_elim c.args.self.now.goes_on nothing_is (λ (i : GoesOn c.args.self.now.frames c.args.self.now.depth c.args.self.now.rest.now).
    let t = top_left c.args.self.now.frames c.args.self.now.depth c.settled-depth.result (f.Items k.Flag 0) c.args.self.now.rest.now c.settled-depth.ensures.stack c.if-depth-eq0.false lt i.0 i.1 in
    c.in_default.ensures t.0 t.1 t.2 (top_goes_on c.args.self.now.frames c.args.self.now.depth c.settled-depth.result (f.Items k.Flag 0) c.args.self.now.rest.now c.settled-depth.ensures.stack c.if-depth-eq0.false lt))

pub push-self-requires-clause-room : goal.push-self-requires-clause-room
push-self-requires-clause-room c x e =
    let lt : c.settled-depth.result - 1 < length c.args.self.now.frames = search (rules, arith) in
    ∥∥₁_elim c.args.self.now.goes_on le_prop (λ (i : GoesOn c.args.self.now.frames c.args.self.now.depth c.args.self.now.rest.now).
    let t = top_left c.args.self.now.frames c.args.self.now.depth c.settled-depth.result (f.Items k.Flag 0) c.args.self.now.rest.now c.settled-depth.ensures.stack c.if-depth-eq0.false lt i.0 i.1 in
    let step = c.in-Ok.ensures t.0 t.1 t.2 (top_goes_on c.args.self.now.frames c.args.self.now.depth c.settled-depth.result (f.Items k.Flag 0) c.args.self.now.rest.now c.settled-depth.ensures.stack c.if-depth-eq0.false lt) in
    let level = step_level (64 - (c.settled-depth.result - 1)) t.0 c.args.self.now.rest.now t.1 c.in-Ok.step x step e in
    omega (arith, level, c.push-kept.ensures.fits))

pub invariant_of-self-2-clause-goes_on : goal.invariant_of-self-2-clause-goes_on
invariant_of-self-2-clause-goes_on c =
    let lt : c.settled-depth.result - 1 < length c.args.self.now.frames = search (rules, arith) in
    let stack : stack_of c.push-self.new.frames c.push-self.result ≡ pushed c.in-Ok.step.opened (pushed c.in-Ok.step.keep (stack_of c.args.self.now.frames (c.settled-depth.result - 1))) =
    c.push-self.ensures.stack ∙ ap (pushed c.in-Ok.step.opened) c.push-kept.ensures.stack in
    ∥∥₁_map c.args.self.now.goes_on (λ (i : GoesOn c.args.self.now.frames c.args.self.now.depth c.args.self.now.rest.now).
    let going = top_goes_on c.args.self.now.frames c.args.self.now.depth c.settled-depth.result (f.Items k.Flag 0) c.args.self.now.rest.now c.settled-depth.ensures.stack c.if-depth-eq0.false lt in
    let g = top_steps c.args.self.now.frames c.args.self.now.depth c.settled-depth.result (f.Items k.Flag 0) c.args.self.now.rest.now c.settled-depth.ensures.stack c.if-depth-eq0.false lt i.0 c.in-Ok.step i.1
    (λ ins mid h. c.in-Ok.ensures ins mid h going) in
    (g.0, subst (λ (gs : List Frame). Come 0 gs g.0 c.in-Ok.step.rest.now []) (sym stack) g.2))

pub invariant_of-self-2-clause-within : goal.invariant_of-self-2-clause-within
invariant_of-self-2-clause-within c =
    let lt : c.settled-depth.result - 1 < length c.args.self.now.frames = search (rules, arith) in
    ∥∥₁_elim c.args.self.now.goes_on le_prop (λ (i : GoesOn c.args.self.now.frames c.args.self.now.depth c.args.self.now.rest.now).
    let t = top_left c.args.self.now.frames c.args.self.now.depth c.settled-depth.result (f.Items k.Flag 0) c.args.self.now.rest.now c.settled-depth.ensures.stack c.if-depth-eq0.false lt i.0 i.1 in
    let step = c.in-Ok.ensures t.0 t.1 t.2 (top_goes_on c.args.self.now.frames c.args.self.now.depth c.settled-depth.result (f.Items k.Flag 0) c.args.self.now.rest.now c.settled-depth.ensures.stack c.if-depth-eq0.false lt) in
    next_within c.args.self.now.bytes.now c.args.self.now.rest.now c.in-Ok.step.rest.now step.takes.0 c.args.self.now.within step.takes.2)

pub invariant_of-self-2-clause-at_end : goal.invariant_of-self-2-clause-at_end
invariant_of-self-2-clause-at_end c =
    let lt : c.settled-depth.result - 1 < length c.args.self.now.frames = search (rules, arith) in
    ∥∥₁_elim c.args.self.now.goes_on (equal_lists _ _) (λ (i : GoesOn c.args.self.now.frames c.args.self.now.depth c.args.self.now.rest.now).
    let t = top_left c.args.self.now.frames c.args.self.now.depth c.settled-depth.result (f.Items k.Flag 0) c.args.self.now.rest.now c.settled-depth.ensures.stack c.if-depth-eq0.false lt i.0 i.1 in
    let step = c.in-Ok.ensures t.0 t.1 t.2 (top_goes_on c.args.self.now.frames c.args.self.now.depth c.settled-depth.result (f.Items k.Flag 0) c.args.self.now.rest.now c.settled-depth.ensures.stack c.if-depth-eq0.false lt) in
    next_at_end c.args.self.now.bytes.now c.args.self.now.rest.now c.in-Ok.step.rest.now step.takes.0 c.args.self.now.at_end step.takes.2)

pub returns-clause-left : goal.returns-clause-left
returns-clause-left c es h =
    let lt : c.settled-depth.result - 1 < length c.args.self.now.frames = search (rules, arith) in
    let stack : stack_of c.push-self.new.frames c.push-self.result ≡ pushed c.in-Ok.step.opened (pushed c.in-Ok.step.keep (stack_of c.args.self.now.frames (c.settled-depth.result - 1))) =
    c.push-self.ensures.stack ∙ ap (pushed c.in-Ok.step.opened) c.push-kept.ensures.stack in
    let going = top_goes_on c.args.self.now.frames c.args.self.now.depth c.settled-depth.result (f.Items k.Flag 0) c.args.self.now.rest.now c.settled-depth.ensures.stack c.if-depth-eq0.false lt in
    let g = top_steps c.args.self.now.frames c.args.self.now.depth c.settled-depth.result (f.Items k.Flag 0) c.args.self.now.rest.now c.settled-depth.ensures.stack c.if-depth-eq0.false lt es c.in-Ok.step h
    (λ ins mid i. c.in-Ok.ensures ins mid i going) in
    (g.0, g.1, subst (λ (gs : List Frame). Come 0 gs g.0 c.in-Ok.step.rest.now []) (sym stack) g.2)

pub returns-then-depth-eq0-clause-front : goal.returns-then-depth-eq0-clause-front
returns-then-depth-eq0-clause-front c e es end h =
    let none = none_in_front c.args.self.now.frames c.args.self.now.depth c.settled-depth.result (e ∷ es) c.args.self.now.rest.now end c.settled-depth.ensures.stack c.if-depth-eq0.true
    (record { inner = h.inner; outer = h.outer; parts = h.parts; come = h.come }) in
    absurd cc

pub returns-clause-front : goal.returns-clause-front
returns-clause-front c e es end h =
    let lt : c.settled-depth.result - 1 < length c.args.self.now.frames = search (rules, arith) in
    let stack : stack_of c.push-self.new.frames c.push-self.result ≡ pushed c.in-Ok.step.opened (pushed c.in-Ok.step.keep (stack_of c.args.self.now.frames (c.settled-depth.result - 1))) =
    c.push-self.ensures.stack ∙ ap (pushed c.in-Ok.step.opened) c.push-kept.ensures.stack in
    let going = top_goes_on c.args.self.now.frames c.args.self.now.depth c.settled-depth.result (f.Items k.Flag 0) c.args.self.now.rest.now c.settled-depth.ensures.stack c.if-depth-eq0.false lt in
    let g = front_steps c.args.self.now.frames c.args.self.now.depth c.settled-depth.result (f.Items k.Flag 0) c.args.self.now.rest.now c.settled-depth.ensures.stack c.if-depth-eq0.false lt e es end c.in-Ok.step
    (record { inner = h.inner; outer = h.outer; parts = h.parts; come = h.come }) (λ ins mid i. c.in-Ok.ensures ins mid i going) in
    (g.0, g.1, record { inner = g.2.inner; outer = g.2.outer; parts = stack ∙ g.2.parts; come = g.2.come })

pub returns-clause-opens : goal.returns-clause-opens
returns-clause-opens c es h is =
    let lt : c.settled-depth.result - 1 < length c.args.self.now.frames = search (rules, arith) in
    let stack : stack_of c.push-self.new.frames c.push-self.result ≡ pushed c.in-Ok.step.opened (pushed c.in-Ok.step.keep (stack_of c.args.self.now.frames (c.settled-depth.result - 1))) =
    c.push-self.ensures.stack ∙ ap (pushed c.in-Ok.step.opened) c.push-kept.ensures.stack in
    let t = top_left c.args.self.now.frames c.args.self.now.depth c.settled-depth.result (f.Items k.Flag 0) c.args.self.now.rest.now c.settled-depth.ensures.stack c.if-depth-eq0.false lt es h in
    let step = c.in-Ok.ensures t.0 t.1 t.2 (top_goes_on c.args.self.now.frames c.args.self.now.depth c.settled-depth.result (f.Items k.Flag 0) c.args.self.now.rest.now c.settled-depth.ensures.stack c.if-depth-eq0.false lt) in
    let l : 64 - (c.settled-depth.result - 1) ≡ 64 - length (stack_of c.args.self.now.frames (c.settled-depth.result - 1)) = omega (arith, length-stack c.args.self.now.frames (c.settled-depth.result - 1)) in
    let g = opened_front (stack_of c.args.self.now.frames (c.settled-depth.result - 1)) (64 - (c.settled-depth.result - 1)) t.0 c.args.self.now.rest.now t.1 c.in-Ok.step step l in
    let event : c.in-Ok.step.event ≡ w.Struct = cc in
    let b = step.begins (omega arith) (ap event_of event) in
    record {
      fields = b.fields;
      text = b.text;
      behind = step.mid;
      spelled = b.spelled;
      stands = c.args.self.now.at_end ∙ b.parts;
      next = record { inner = g.inner; outer = g.outer; parts = stack ∙ g.parts; come = subst (λ (z : List Event). Come (length g.outer) g.inner z c.in-Ok.step.rest.now step.mid) b.behind g.come };
    }

pub returns-clause-moves : goal.returns-clause-moves
returns-clause-moves c es h =
    let lt : c.settled-depth.result - 1 < length c.args.self.now.frames = search (rules, arith) in
    let t = top_left c.args.self.now.frames c.args.self.now.depth c.settled-depth.result (f.Items k.Flag 0) c.args.self.now.rest.now c.settled-depth.ensures.stack c.if-depth-eq0.false lt es h in
    let step = c.in-Ok.ensures t.0 t.1 t.2 (top_goes_on c.args.self.now.frames c.args.self.now.depth c.settled-depth.result (f.Items k.Flag 0) c.args.self.now.rest.now c.settled-depth.ensures.stack c.if-depth-eq0.false lt) in
    let bytes = c.args.self.now.bytes.now in
    let rest = c.in-Ok.step.rest.now in
    let behind = next_at_end bytes c.args.self.now.rest.now rest step.takes.0 c.args.self.now.at_end step.takes.2 in (
      step.takes.0,
      step.takes.1,
      next_place bytes c.args.self.now.rest.now rest step.takes.0 c.args.self.now.within step.takes.2,
      c.args.self.now.at_end ∙ step.takes.2 ∙ ap (λ (z : List ℕ). step.takes.0 ++ z) (sym behind),
    )
