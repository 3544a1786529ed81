use Rattle.std.proofs.Common.{◌≡◌, ◌-◌, ◌<◌, suc, ℕ, List, sym, ap, subst, ◌∙◌, arith}
use Rattle.compact_wire.specs.Bytes.{ByteReader}
use Rattle.compact_wire.specs.Node.{Node}
use Rattle.compact_wire.specs.Reads.{value, container}
use Rattle.compact_wire.proofs.ReadSteps.{AreBytes-from, value-zero, value-step, value-scalar, is_scalar}
use Rattle.std.specs.Prelude.{pos, ◌∷◌}
use Rattle.wire_events.specs.declared.frame.Frame.TheVariants as f
use Rattle.wire_events.specs.Events.{Event, events, struct_event, event_of}
use Rattle.wire_events.specs.Frames.{Opens, IsLeft}
use Rattle.wire_events.specs.Texts.{Takes}
use Rattle.wire_events.proofs.Openings.{scalar_opens, scalar_no, struct_opens}
use Rattle.wire_events.proofs.opening.open_value.Goals as goal

pub returns-in_err-event : goal.returns-in_err-event
returns-in_err-event c x rest is =
    let z = sym (ap (λ (r : ByteReader Node). r c.args.bytes.now) (value-zero c.args.levels c.args.kind (omega arith))) ∙ is in
    absurd (scalar_no c.args.kind c.args.bytes.now x rest c.in_err-event.field-0.0 z c.in_err-event.ensures)

pub returns-then-levels-eq0 : goal.returns-then-levels-eq0
returns-then-levels-eq0 c x rest is =
    let z = sym (ap (λ (r : ByteReader Node). r c.args.bytes.now) (value-zero c.args.levels c.args.kind (omega arith))) ∙ is in
    scalar_opens c.args.kind c.args.bytes.now x rest (event_of c.in_ok-event.event) c.in_ok-event.rest.now (AreBytes-from c.args.bytes.now (λ i. omega (arith, c.type_inv.bytes i))) z c.in_ok-event.ensures

pub returns-in_err-event-in-Flag : goal.returns-in_err-event-in-Flag
returns-in_err-event-in-Flag c x rest is =
    let z = sym (ap (λ (r : ByteReader Node). r c.args.bytes.now) (value-scalar c.args.levels c.args.kind (is_scalar c.args.kind c.in-Flag.is))) ∙ is in
    absurd (scalar_no c.args.kind c.args.bytes.now x rest c.in_err-event-in-Flag.field-0.0 z c.in_err-event-in-Flag.ensures)

pub returns-in_ok-event-in-Flag : goal.returns-in_ok-event-in-Flag
returns-in_ok-event-in-Flag c x rest is =
    let z = sym (ap (λ (r : ByteReader Node). r c.args.bytes.now) (value-scalar c.args.levels c.args.kind (is_scalar c.args.kind c.in-Flag.is))) ∙ is in
    scalar_opens c.args.kind c.args.bytes.now x rest (event_of c.in_ok-event-in-Flag.event) c.in_ok-event-in-Flag.rest.now (AreBytes-from c.args.bytes.now (λ i. omega (arith, c.type_inv.bytes i))) z c.in_ok-event-in-Flag.ensures

pub returns-in-List : goal.returns-in-List
returns-in-List c x rest is =
    let l : suc (c.args.levels - 1) ≡ c.args.levels = omega arith in
    let z = sym (ap (λ (r : ByteReader Node). r c.args.bytes.now) (value-step c.args.levels c.args.kind (omega arith) ∙ ap (container (c.args.levels - 1) (value (c.args.levels - 1))) c.in-List.is)) ∙ is in
    subst (λ (n : ℕ). Opens n x c.args.bytes.now rest c.open_list.result) l (c.open_list.ensures x rest z)

pub returns-in-Set : goal.returns-in-Set
returns-in-Set c x rest is =
    let l : suc (c.args.levels - 1) ≡ c.args.levels = omega arith in
    let z = sym (ap (λ (r : ByteReader Node). r c.args.bytes.now) (value-step c.args.levels c.args.kind (omega arith) ∙ ap (container (c.args.levels - 1) (value (c.args.levels - 1))) c.in-Set.is)) ∙ is in
    subst (λ (n : ℕ). Opens n x c.args.bytes.now rest c.open_set.result) l (c.open_set.ensures x rest z)

pub returns-in-Map : goal.returns-in-Map
returns-in-Map c x rest is =
    let l : suc (c.args.levels - 1) ≡ c.args.levels = omega arith in
    let z = sym (ap (λ (r : ByteReader Node). r c.args.bytes.now) (value-step c.args.levels c.args.kind (omega arith) ∙ ap (container (c.args.levels - 1) (value (c.args.levels - 1))) c.in-Map.is)) ∙ is in
    subst (λ (n : ℕ). Opens n x c.args.bytes.now rest c.open_map.result) l (c.open_map.ensures x rest z)

pub returns-in-Struct : goal.returns-in-Struct
returns-in-Struct c x rest is =
    let l : suc (c.args.levels - 1) ≡ c.args.levels = omega arith in
    let z = sym (ap (λ (r : ByteReader Node). r c.args.bytes.now) (value-step c.args.levels c.args.kind (omega arith) ∙ ap (container (c.args.levels - 1) (value (c.args.levels - 1))) c.in-Struct.is)) ∙ is in
    subst (λ (n : ℕ). (es : List Event) × (events x ≡ struct_event ∷ es) × ((0 < n) × IsLeft (n - 1) (f.Fields (pos 0)) es c.args.bytes.now rest) × Takes struct_event c.args.bytes.now c.args.bytes.now) l (struct_opens (c.args.levels - 1) c.args.bytes.now x rest z)
