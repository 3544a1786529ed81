use Rattle.std.proofs.Common.{◌≡◌, ◌≤◌, true, false, rules, ap, sym, ◌∙◌, arith, zero-le}
use Rattle.std.specs.Ordering.{int_eq}
use Rattle.std.proofs.lemmas.List.{get_or_default}
use Rattle.std.proofs.lemmas.List.Sorted.{IsPartitionPoint-from_clause}
use Rattle.idl_parse.proofs.HalvingLaws.{below, partitioned, found, absent}
use Rattle.idl_parse.proofs.halving.place_in.Goals as goal

pub returns-in_default-clause-place : goal.returns-in_default-clause-place
returns-in_default-clause-place c =
    let fs = c.args.fields.now in
    let z = c.args.id.id in
    let point = IsPartitionPoint-from_clause (below z) fs c.partition_point-place.result c.partition_point-place.ensures.partitioned (partitioned z fs c.requires.rising) (λ a r f called. search rules) in
    let l = c.in_default.ensures.lookup in
    absent z fs c.partition_point-place.result c.requires.rising (λ k d lt. point.0 k d zero-le lt) (λ d lt. absurd {0} (omega (arith, l.3, lt))) c.partition_point-place.ensures.bound

pub returns-then-field-id-clause-place : goal.returns-then-field-id-clause-place
returns-then-field-id-clause-place c =
    let fs = c.args.fields.now in
    let z = c.args.id.id in
    let f = c.in-Some.field.now in
    let point = IsPartitionPoint-from_clause (below z) fs c.partition_point-place.result c.partition_point-place.ensures.partitioned (partitioned z fs c.requires.rising) (λ a r g called. search rules) in
    let l = c.in-Some.ensures.lookup in
    let same : int_eq f.id.id z ≡ true = search rules in
    found z fs c.partition_point-place.result f (λ k lt. point.0 k f zero-le lt) l.3.0
    (ap (λ g. int_eq g.id.id z) (sym l.1) ∙ same)

pub returns-else-field-id-clause-place : goal.returns-else-field-id-clause-place
returns-else-field-id-clause-place c =
    let fs = c.args.fields.now in
    let z = c.args.id.id in
    let f = c.in-Some.field.now in
    let i = c.partition_point-place.result in
    let point = IsPartitionPoint-from_clause (below z) fs i c.partition_point-place.ensures.partitioned (partitioned z fs c.requires.rising) (λ a r g called. search rules) in
    let l = c.in-Some.ensures.lookup in
    let self : i ≤ i = omega arith in
    let other : int_eq f.id.id z ≡ false = search rules in
    absent z fs i c.requires.rising (λ k d lt. point.0 k d zero-le lt) (λ d lt. (point.1 i d self lt, ap (λ g. int_eq g.id.id z) (get_or_default fs i d f lt ∙ sym l.1) ∙ other)) c.partition_point-place.ensures.bound
