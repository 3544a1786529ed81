use Rattle.std.proofs.Common.{◌≡◌, ℕ, ◌+◌, ◌*◌, ◌++◌, ◌∷◌, [], length, ap, subst, sym, ◌∙◌, arith, rules}
use Rattle.std.specs.Prelude.{ℤ, pos, List, OnOk}
use Rattle.std.proofs.lemmas.Int.{to_z-of_z}
use Rattle.std.proofs.lemmas.Bool.Decides.{nat_tests}
use mir.Val.{SFits}
use mir.Syntax.{w16}
use Rattle.compact_wire.specs.declared.wire.Wire.{Wire}
use Rattle.compact_wire.specs.declared.wire.Wire as Wire
use Rattle.compact_wire.specs.Writes.{CodesFit}
use Rattle.compact_wire.specs.Node.{Node, map, structure}
use Rattle.compact_wire.specs.View.{pairs_view, fields_view}
use Rattle.compact_wire.specs.Canon.{canon, canon_fields}
use Rattle.compact_wire.proofs.WriteSteps.{view-map, view-struct, field_done, sequence_done, map_done, on_ok}
use Rattle.compact_wire.proofs.WriteSteps.{item_fits, first_fits, second_fits, field_fits}
use Rattle.compact_wire.proofs.Weights.{item_weighs_less, pair_weighs_less, field_weighs_less, weight-map}
use Rattle.compact_wire.proofs.Weights.{weight-struct}
use Rattle.compact_wire.proofs.writing.+write.Goals as goal

pub push_sequence-returns : goal.push_sequence-returns
push_sequence-returns t c =
    on_ok c.push_items.result
    (λ written. sequence_done c.args.code c.args.items.now c.args.out.now.items
    c.push_sequence_header.new.out.items c.push_items.new.out.items c.in_ok-push_sequence_header.ensures
    written) c.push_items.ensures

pub push_map-returns : goal.push_map-returns
push_map-returns t c =
    let some : length c.args.pairs.now ≡ 0 → ⊥ = grind (arith, nat_tests) in
    let codes : c.push-2.new.self.items ≡ c.push_number.new.out.items ++ (16 * c.args.key + c.args.value)
    ∷ [] = grind arith in
    on_ok c.push_pairs.result
    (λ written. map_done c.args.key c.args.value c.args.pairs.now c.args.out.now.items
    c.push_number.new.out.items c.push-2.new.self.items c.push_pairs.new.out.items some
    c.in_ok-push_number.ensures.ok codes written) c.push_pairs.ensures

pub push_value-returns-in-Map : goal.push_value-returns-in-Map
push_value-returns-in-Map t c =
    let out : List ℕ = c.args.out.now.items in
    let here =
    subst (λ (ps : List (Wire × Wire)). OnOk c.push_map.result
    (c.push_map.new.out.items ≡ out ++ canon (map c.in-Map.key c.in-Map.value (pairs_view ps))))
    c.as_slice-in-Map.ensures c.push_map.ensures in
    subst (λ (n : Node). OnOk c.push_map.result (c.push_map.new.out.items ≡ out ++ canon n))
    (sym (view-map c.args.wire.now c.in-Map.key c.in-Map.value c.in-Map.pairs c.in-Map.is)) here

pub push_value-returns-in-Struct : goal.push_value-returns-in-Struct
push_value-returns-in-Struct t c =
    let out : List ℕ = c.args.out.now.items in
    let here =
    subst (λ (fs : List (ℤ × Wire)). OnOk c.push_fields.result
    (c.push_fields.new.out.items ≡ out ++ canon (structure (fields_view fs))))
    c.as_slice-in-Struct.ensures c.push_fields.ensures in
    subst (λ (n : Node). OnOk c.push_fields.result (c.push_fields.new.out.items ≡ out ++ canon n))
    (sym (view-struct c.args.wire.now c.in-Struct.fields c.in-Struct.is)) here

pub push_fields-loop-id-preserved : goal.push_fields-loop-id-preserved
push_fields-loop-id-preserved t c =
    let f : SFits w16 c.loop-id-item.result.0 = search rules in
    simp to_z-of_z
    (field_done c.args.fields.now c.loop-id.id-index c.loop-id-item.result c.loop-id.before.id
    c.loop-id.out.items c.push_field.new.out.items
    (c.args.out.now.items ++ canon_fields (pos 0) (fields_view c.args.fields.now)) c.loop-id-test.true
    c.loop-id-item.is (simp to_z-of_z at c.in_ok-push_field.ensures) c.loop-id.invariant.0
    c.loop-id.invariant.1)

pub push_pairs-push_value-requires-in-loop-key : goal.push_pairs-push_value-requires-in-loop-key
push_pairs-push_value-requires-in-loop-key t c = (
  omega (
    arith,
    pair_weighs_less c.args.pairs.now c.loop-key.key-index c.loop-key-item.result c.loop-key-test.true
        c.loop-key-item.is,
  ),
  second_fits c.args.pairs.now c.loop-key.key-index c.loop-key-item.result c.loop-key.invariant.1
      c.loop-key-test.true c.loop-key-item.is,
)

pub push_fields-push_field-requires : goal.push_fields-push_field-requires
push_fields-push_field-requires t c = (
  omega (
    arith,
    field_weighs_less c.args.fields.now c.loop-id.id-index c.loop-id-item.result c.loop-id-test.true
        c.loop-id-item.is,
  ),
  field_fits c.args.fields.now c.loop-id.id-index c.loop-id-item.result c.loop-id.invariant.1
      c.loop-id-test.true c.loop-id-item.is,
)

pub push_items-push_value-requires : goal.push_items-push_value-requires
push_items-push_value-requires t c = (
  omega (
    arith,
    item_weighs_less c.args.items.now c.loop-item.item-index c.item-item.result c.loop-item-test.true
        c.item-item.is,
  ),
  item_fits c.args.items.now c.loop-item.item-index c.item-item.result c.loop-item.invariant.1
      c.loop-item-test.true c.item-item.is,
)

pub push_pairs-push_value-requires : goal.push_pairs-push_value-requires
push_pairs-push_value-requires t c = (
  omega (
    arith,
    pair_weighs_less c.args.pairs.now c.loop-key.key-index c.loop-key-item.result c.loop-key-test.true
        c.loop-key-item.is,
  ),
  first_fits c.args.pairs.now c.loop-key.key-index c.loop-key-item.result c.loop-key.invariant.1
      c.loop-key-test.true c.loop-key-item.is,
)

pub push_value-push_map-requires : goal.push_value-push_map-requires
push_value-push_map-requires t c =
    let is =
    c.in-Map.is
    ∙ ap (λ (ps : List (Wire × Wire)). Wire.Map c.in-Map.key c.in-Map.value ps)
    (sym c.as_slice-in-Map.ensures) in (
      omega (arith, weight-map c.args.wire.now c.in-Map.key c.in-Map.value c.as_slice-in-Map.result.now is),
      subst CodesFit (view-map c.args.wire.now c.in-Map.key c.in-Map.value c.as_slice-in-Map.result.now is)
          c.requires,
    )

pub push_value-push_fields-requires : goal.push_value-push_fields-requires
push_value-push_fields-requires t c =
    let is =
    c.in-Struct.is ∙ ap (λ (fs : List (ℤ × Wire)). Wire.Struct fs) (sym c.as_slice-in-Struct.ensures) in (
      omega (arith, weight-struct c.args.wire.now c.as_slice-in-Struct.result.now is),
      subst CodesFit (view-struct c.args.wire.now c.as_slice-in-Struct.result.now is) c.requires,
    )
