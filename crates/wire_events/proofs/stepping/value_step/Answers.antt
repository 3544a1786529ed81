use Rattle.std.proofs.Common.{List, ◌∷◌, ◌++◌, ap, ◌∙◌, arith}
use Rattle.compact_wire.proofs.ReadSteps.{AreBytes-from}
use Rattle.wire_events.specs.Events.{Event}
use Rattle.wire_events.proofs.Openings.{struct_begins}
use Rattle.wire_events.proofs.stepping.value_step.Goals as goal

pub returns : goal.returns
returns c x es outs mid end reads parts left =
    let o = c.in_ok-event.ensures x mid reads in
    record {
      ins = o.0;
      outs = outs;
      mid = mid;
      parts = parts ∙ ap (λ (z : List Event). z ++ outs) o.1;
      opened = o.2;
      kept = left;
      takes = o.3;
      begins = λ le q. struct_begins c.args.levels c.args.kind c.args.bytes.now x mid o.0 le (AreBytes-from c.args.bytes.now (λ i. omega (arith, c.type_inv.bytes i))) reads (o.1 ∙ ap (λ (z : Event). z ∷ o.0) q);
    }
