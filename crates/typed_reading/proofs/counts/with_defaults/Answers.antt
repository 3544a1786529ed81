use Rattle.std.proofs.Common.{◌∙◌, sym, ap, arith, drop, ◌+◌}
use Rattle.idl_parse.specs.Refs.{field_of_ref, fields_of_refs}
use Rattle.typed_reading.specs.declared.counts.Checked.{Checked}
use Rattle.typed_reading.specs.Counts.{grown, default_count, defaults_beside}
use Rattle.typed_reading.proofs.FieldLaws.{field_there}
use Rattle.typed_reading.proofs.Sums.{grown_none, grown_more, first_nothing, defaults_step, defaults_done, stood_defaults}
use Rattle.typed_reading.proofs.counts.with_defaults.Goals.{then-not-is_marked, else-not-is_marked}
use Rattle.typed_reading.proofs.counts.with_defaults.Goals as goal

pub loop-place-init : goal.loop-place-init
loop-place-init c ids m h = ap (grown c.args.count) (stood_defaults (fields_of_refs c.args.fields) ids c.args.from h)

pub loop-place-preserved : goal.loop-place-preserved
loop-place-preserved c ids m h =
    let fs = fields_of_refs c.args.fields in
    let behind = defaults_beside (drop (c.loop-place.place + 1) fs) ids in
    elim c.if-not-is_marked.branch [
      | then-not-is_marked w ↦
          let f = field_of_ref w.at-field.result in
          let p = c.requires c.loop-place.place f w.at-field.ensures in
          let among = sym (m f.id c.loop-place.place p).1 ∙ sym c.is_marked.ensures ∙ w.if-not-is_marked.true in
          ap (λ (s : Checked). grown s behind) (w.all-is ∙ w.with_default-all.ensures)
          ∙ sym (grown_more c.loop-place.all (default_count f) behind)
          ∙ ap (grown c.loop-place.all) (sym (defaults_step fs c.loop-place.place f ids _ w.at-field.ensures among))
          ∙ c.loop-place.invariant ids m h
      | else-not-is_marked w ↦
          let there = field_there fs c.loop-place.place (omega (arith, c.count-place-end.ensures, c.loop-place-test.true)) in
          let p = c.requires c.loop-place.place there.0 there.1 in
          let among = sym (m there.0.id c.loop-place.place p).1 ∙ sym c.is_marked.ensures ∙ w.if-not-is_marked.false in
          ap (λ (s : Checked). grown s behind) w.all-is
          ∙ ap (grown c.loop-place.all) (sym (first_nothing behind))
          ∙ ap (grown c.loop-place.all) (sym (defaults_step fs c.loop-place.place there.0 ids _ there.1 among))
          ∙ c.loop-place.invariant ids m h
    ]

pub returns : goal.returns
returns c ids m h =
    let fs = fields_of_refs c.args.fields in
    let none = defaults_done fs c.loop-place.place ids (omega (arith, c.count-place-end.ensures, c.loop-place-test.false)) in
    sym (ap (grown c.loop-place.all) none ∙ grown_none c.loop-place.all) ∙ c.loop-place.invariant ids m h
