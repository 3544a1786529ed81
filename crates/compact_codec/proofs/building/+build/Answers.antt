use Rattle.std.proofs.Common.{arith, rules, ap, sym, subst, refl, inl, inr, ◌∙◌, ◌≡◌, ◌+◌, ◌-◌, ℕ, List, [], ◌∷◌, ◌++◌, Result, Ok, Some, length, take, drop}
use Rattle.std.proofs.lemmas.Int.{to_z-of_z}
use Rattle.std.specs.Prelude.{slice_get}
use mir.Val.{SFits}
use mir.Syntax.{w16}
use Rattle.exact_reading.specs.declared.stop.Stop.{Stop}
use Rattle.exact_reading.specs.Reading.{seen}
use Rattle.frozen_model.specs.Values.{Value, Absent}
use Rattle.std.proofs.Math.Seq.{take-length}
use Rattle.wire_scan.proofs.Seen.{seen_ok, seen_err}
use Rattle.wire_scan.specs.Sizes.{size}
use Rattle.typed_reading.specs.Faults.{type_in}
use Rattle.typed_reading.proofs.FieldLaws.{place_inside}
use Rattle.typed_reading.specs.Marks.{Marked}
use Rattle.typed_reading.specs.Meaning.{given, reading, meaning}
use Rattle.compact_wire.specs.Node.{Node, list, set}
use Rattle.compact_wire.specs.Reads.{items, pairs, value, element, container, typed}
use Rattle.compact_wire.proofs.ReadSteps.{AreBytes-from, value-zero, value-step, value-scalar}
use Rattle.idl_profile.specs.declared.kinds.Need.{Need}
use Rattle.idl_profile.specs.Types.{TypeTree, DefField}
use Rattle.idl_parse.specs.Refs.{type_of_ref, field_of_ref, fields_of_refs, element_of, key_of, value_of}
use Rattle.type_kinds.specs.Accepted.{IsAccepted}
use Rattle.type_kinds.specs.Laws.{Any}
use Rattle.typed_tree.specs.Trees.{trees}
use Rattle.typed_reading.proofs.Parts.{row_kind, map_kind, leaf_kind, element_accepted, map_accepted, field_at_accepted}
use Rattle.compact_codec.specs.Building.{IsClean, with_values, with_pairs}
use Rattle.compact_codec.proofs.Clean.{on_all}
use Rattle.compact_codec.proofs.Rows.{header_not, count_not, list_clean, list_built, items_there, set_clean, set_differs, set_built, items_as, clean_as, pairs_as, pairs_clean_as, size_not, kinds_not, empty_built, map_clean, pairs_there, map_differs, map_built, key_accepted}
use Rattle.compact_codec.proofs.Loops.{item_clean, item_on, items_end, pair_key_clean, pair_value_clean, pair_on, pairs_end}
use Rattle.compact_codec.proofs.Structs.{fields_begin, left_not, left_clean, left_on, left_new, put_on, filled_on, known_clean, struct_built, holds_none, unknown_is, field_put, field_not, field_there}
use Rattle.compact_codec.proofs.building.+build.Goals as goal

pub build_items-build_value-requires : goal.build_items-build_value-requires
build_items-build_value-requires t c = (
  omega (arith, c.decreases),
  (c.requires.accepted, item_clean (type_of_ref c.args.ty) (value c.args.levels c.args.kind) c.args.count c.loop.counter c.loop.rest.now c.loop-test.true c.loop.invariant.0),
)

pub build_items-loop-preserved : goal.build_items-loop-preserved
build_items-loop-preserved t c =
    let r = item_on (type_of_ref c.args.ty) (value c.args.levels c.args.kind) c.args.count c.loop.counter c.loop.rest.now c.loop-test.true c.loop.invariant.0 (trees c.loop.builder) (trees c.build_value.new.builder) c.in_ok-rest.rest.now
    (seen (with_values (type_of_ref c.args.ty) (trees c.args.builder.now)) (items (value c.args.levels c.args.kind) c.args.count c.args.bytes.now)) c.in_ok-rest.ensures.built c.loop.invariant.1 in
    (r.0, r.1, c.in_ok-rest.ensures.ids ∙ c.loop.invariant.2, c.in_ok-rest.ensures.marks ∙ c.loop.invariant.3)

pub build_items-returns : goal.build_items-returns
build_items-returns t c = record {
  built = items_end (type_of_ref c.args.ty) (value c.args.levels c.args.kind) (trees c.loop.builder) c.args.count c.loop.counter c.loop.rest.now
      (seen (with_values (type_of_ref c.args.ty) (trees c.args.builder.now)) (items (value c.args.levels c.args.kind) c.args.count c.args.bytes.now)) c.loop-test.false c.loop.invariant.1;
  ids = c.loop.invariant.2;
  marks = c.loop.invariant.3;
}

pub build_list-unreachable-requires : goal.build_list-unreachable-requires
build_list-unreachable-requires t c = header_not list (type_of_ref c.args.ty) c.args.levels c.args.bytes.now c.requires.clean c.in_default.field-0 c.in_default.ensures.reads

pub build_list-unreachable-requires-in_default-read_count : goal.build_list-unreachable-requires-in_default-read_count
build_list-unreachable-requires-in_default-read_count t c =
    count_not list (type_of_ref c.args.ty) c.args.levels c.args.bytes.now c.requires.clean c.in-Ok.header c.in-Ok.rest.now c.in_default-read_count.field-0 c.in-Ok.ensures.reads c.in_default-read_count.ensures.reads

pub build_list-element-element-requires : goal.build_list-element-element-requires
build_list-element-element-requires t c = row_kind (type_of_ref c.args.ty) (inl (list_clean (type_of_ref c.args.ty) c.args.levels c.args.bytes.now c.in-Ok.header c.in-Ok.rest.now c.in-Ok-read_count.rest.now c.in-Ok-read_count.count c.in-Ok.ensures.reads c.in-Ok-read_count.ensures.reads c.requires.clean).0)

pub build_list-build_items-requires : goal.build_list-build_items-requires
build_list-build_items-requires t c = (
  omega (arith, c.decreases),
  (
    subst (IsAccepted Any) (sym c.element-element.ensures) (element_accepted (type_of_ref c.args.ty) c.requires.accepted),
    clean_as c.args.levels c.in-Ok-read_count.count c.in-Ok-read_count.rest.now (type_of_ref c.element-element.result) (element_of (type_of_ref c.args.ty)) c.element_of-kind.result (element c.in-Ok.header) c.element-element.ensures c.element_of-kind.ensures
        (list_clean (type_of_ref c.args.ty) c.args.levels c.args.bytes.now c.in-Ok.header c.in-Ok.rest.now c.in-Ok-read_count.rest.now c.in-Ok-read_count.count c.in-Ok.ensures.reads c.in-Ok-read_count.ensures.reads c.requires.clean).1,
  ),
)

pub build_list-list-requires : goal.build_list-list-requires
build_list-list-requires t c =
    items_there (type_of_ref c.args.ty) c.args.levels c.args.bytes.now c.in-Ok.header c.in-Ok.rest.now c.in-Ok-read_count.rest.now c.in-Ok-read_count.count c.in-Ok.ensures.reads c.in-Ok-read_count.ensures.reads (trees c.args.builder.now) (trees c.build_items.new.builder) c.in_ok-rest.rest.now
    (items_as c.args.levels c.in-Ok-read_count.count c.in-Ok-read_count.rest.now (type_of_ref c.element-element.result) (element_of (type_of_ref c.args.ty)) c.element_of-kind.result (element c.in-Ok.header) (trees c.args.builder.now) (trees c.build_items.new.builder) c.in_ok-rest.rest.now c.element-element.ensures c.element_of-kind.ensures c.in_ok-rest.ensures.built)

pub build_list-returns-clause-built : goal.build_list-returns-clause-built
build_list-returns-clause-built t c =
    list_built (type_of_ref c.args.ty) c.args.levels c.args.bytes.now c.in-Ok.header c.in-Ok.rest.now c.in-Ok-read_count.rest.now c.in-Ok-read_count.count c.in-Ok.ensures.reads c.in-Ok-read_count.ensures.reads (trees c.args.builder.now) (trees c.build_items.new.builder) (trees c.list.new.self) c.in_ok-rest.rest.now
    (items_as c.args.levels c.in-Ok-read_count.count c.in-Ok-read_count.rest.now (type_of_ref c.element-element.result) (element_of (type_of_ref c.args.ty)) c.element_of-kind.result (element c.in-Ok.header) (trees c.args.builder.now) (trees c.build_items.new.builder) c.in_ok-rest.rest.now c.element-element.ensures c.element_of-kind.ensures c.in_ok-rest.ensures.built) c.in_ok-list.ensures.joined.trees

pub build_set-unreachable-requires : goal.build_set-unreachable-requires
build_set-unreachable-requires t c = header_not set (type_of_ref c.args.ty) c.args.levels c.args.bytes.now c.requires.clean c.in_default.field-0 c.in_default.ensures.reads

pub build_set-unreachable-requires-in_default-read_count : goal.build_set-unreachable-requires-in_default-read_count
build_set-unreachable-requires-in_default-read_count t c =
    count_not set (type_of_ref c.args.ty) c.args.levels c.args.bytes.now c.requires.clean c.in-Ok.header c.in-Ok.rest.now c.in_default-read_count.field-0 c.in-Ok.ensures.reads c.in_default-read_count.ensures.reads

pub build_set-element-element-requires : goal.build_set-element-element-requires
build_set-element-element-requires t c = row_kind (type_of_ref c.args.ty) (inr (set_clean (type_of_ref c.args.ty) c.args.levels c.args.bytes.now c.in-Ok.header c.in-Ok.rest.now c.in-Ok-read_count.rest.now c.in-Ok-read_count.count c.in-Ok.ensures.reads c.in-Ok-read_count.ensures.reads c.requires.clean).0)

pub build_set-build_items-requires : goal.build_set-build_items-requires
build_set-build_items-requires t c = (
  omega (arith, c.decreases),
  (
    subst (IsAccepted Any) (sym c.element-element.ensures) (element_accepted (type_of_ref c.args.ty) c.requires.accepted),
    clean_as c.args.levels c.in-Ok-read_count.count c.in-Ok-read_count.rest.now (type_of_ref c.element-element.result) (element_of (type_of_ref c.args.ty)) c.element_of-kind.result (element c.in-Ok.header) c.element-element.ensures c.element_of-kind.ensures
        (set_clean (type_of_ref c.args.ty) c.args.levels c.args.bytes.now c.in-Ok.header c.in-Ok.rest.now c.in-Ok-read_count.rest.now c.in-Ok-read_count.count c.in-Ok.ensures.reads c.in-Ok-read_count.ensures.reads c.requires.clean).1,
  ),
)

pub build_set-join_set-requires-clause-there : goal.build_set-join_set-requires-clause-there
build_set-join_set-requires-clause-there t c =
    items_there (type_of_ref c.args.ty) c.args.levels c.args.bytes.now c.in-Ok.header c.in-Ok.rest.now c.in-Ok-read_count.rest.now c.in-Ok-read_count.count c.in-Ok.ensures.reads c.in-Ok-read_count.ensures.reads (trees c.args.builder.now) (trees c.build_items.new.builder) c.in_ok-rest.rest.now
    (items_as c.args.levels c.in-Ok-read_count.count c.in-Ok-read_count.rest.now (type_of_ref c.element-element.result) (element_of (type_of_ref c.args.ty)) c.element_of-kind.result (element c.in-Ok.header) (trees c.args.builder.now) (trees c.build_items.new.builder) c.in_ok-rest.rest.now c.element-element.ensures c.element_of-kind.ensures c.in_ok-rest.ensures.built)

pub build_set-join_set-requires-clause-kind : goal.build_set-join_set-requires-clause-kind
build_set-join_set-requires-clause-kind t c =
    (set_differs (type_of_ref c.args.ty) c.args.levels c.args.bytes.now c.in-Ok.header c.in-Ok.rest.now c.in-Ok-read_count.rest.now c.in-Ok-read_count.count c.in-Ok.ensures.reads c.in-Ok-read_count.ensures.reads c.requires.accepted c.requires.clean (trees c.args.builder.now) (trees c.build_items.new.builder) c.in_ok-rest.rest.now
    (items_as c.args.levels c.in-Ok-read_count.count c.in-Ok-read_count.rest.now (type_of_ref c.element-element.result) (element_of (type_of_ref c.args.ty)) c.element_of-kind.result (element c.in-Ok.header) (trees c.args.builder.now) (trees c.build_items.new.builder) c.in_ok-rest.rest.now c.element-element.ensures c.element_of-kind.ensures c.in_ok-rest.ensures.built)).0

pub build_set-join_set-requires-clause-differ : goal.build_set-join_set-requires-clause-differ
build_set-join_set-requires-clause-differ t c =
    (set_differs (type_of_ref c.args.ty) c.args.levels c.args.bytes.now c.in-Ok.header c.in-Ok.rest.now c.in-Ok-read_count.rest.now c.in-Ok-read_count.count c.in-Ok.ensures.reads c.in-Ok-read_count.ensures.reads c.requires.accepted c.requires.clean (trees c.args.builder.now) (trees c.build_items.new.builder) c.in_ok-rest.rest.now
    (items_as c.args.levels c.in-Ok-read_count.count c.in-Ok-read_count.rest.now (type_of_ref c.element-element.result) (element_of (type_of_ref c.args.ty)) c.element_of-kind.result (element c.in-Ok.header) (trees c.args.builder.now) (trees c.build_items.new.builder) c.in_ok-rest.rest.now c.element-element.ensures c.element_of-kind.ensures c.in_ok-rest.ensures.built)).1

pub build_set-returns-clause-built : goal.build_set-returns-clause-built
build_set-returns-clause-built t c =
    set_built (type_of_ref c.args.ty) c.args.levels c.args.bytes.now c.in-Ok.header c.in-Ok.rest.now c.in-Ok-read_count.rest.now c.in-Ok-read_count.count c.in-Ok.ensures.reads c.in-Ok-read_count.ensures.reads (trees c.args.builder.now) (trees c.build_items.new.builder) (trees c.join_set.new.builder) c.in_ok-rest.rest.now
    (items_as c.args.levels c.in-Ok-read_count.count c.in-Ok-read_count.rest.now (type_of_ref c.element-element.result) (element_of (type_of_ref c.args.ty)) c.element_of-kind.result (element c.in-Ok.header) (trees c.args.builder.now) (trees c.build_items.new.builder) c.in_ok-rest.rest.now c.element-element.ensures c.element_of-kind.ensures c.in_ok-rest.ensures.built) c.in_ok-join_set.ensures

pub build_pairs-build_value-requires : goal.build_pairs-build_value-requires
build_pairs-build_value-requires t c = (omega (arith, c.decreases), (c.requires.key, pair_key_clean (type_of_ref c.args.key_type) (type_of_ref c.args.value_type) (value c.args.levels c.args.kinds.key) (value c.args.levels c.args.kinds.value) c.args.count c.loop.counter c.loop.rest.now c.loop-test.true c.loop.invariant.0))

pub build_pairs-build_value-requires-in-loop : goal.build_pairs-build_value-requires-in-loop
build_pairs-build_value-requires-in-loop t c = (
  omega (arith, c.decreases),
  (c.requires.value, pair_value_clean (type_of_ref c.args.key_type) (type_of_ref c.args.value_type) (value c.args.levels c.args.kinds.key) (value c.args.levels c.args.kinds.value) c.args.count c.loop.counter c.loop.rest.now c.loop-test.true c.loop.invariant.0 (trees c.loop.builder) (trees c.build_value.new.builder) c.in_ok-behind.behind.now c.in_ok-behind.ensures.built),
)

pub build_pairs-loop-preserved : goal.build_pairs-loop-preserved
build_pairs-loop-preserved t c =
    let r = pair_on (type_of_ref c.args.key_type) (type_of_ref c.args.value_type) (value c.args.levels c.args.kinds.key) (value c.args.levels c.args.kinds.value) c.args.count c.loop.counter c.loop.rest.now c.loop-test.true c.loop.invariant.0 (trees c.loop.builder) (trees c.build_value.new.builder) c.in_ok-behind.behind.now c.in_ok-behind.ensures.built (trees c.build_value-in-loop.new.builder) c.in_ok-rest.rest.now
    (seen (with_pairs (type_of_ref c.args.key_type) (type_of_ref c.args.value_type) (trees c.args.builder.now)) (pairs (value c.args.levels c.args.kinds.key) (value c.args.levels c.args.kinds.value) c.args.count c.args.bytes.now)) c.in_ok-rest.ensures.built c.loop.invariant.1 in (
      r.0,
      r.1,
      c.in_ok-rest.ensures.ids ∙ c.in_ok-behind.ensures.ids ∙ c.loop.invariant.2,
      c.in_ok-rest.ensures.marks ∙ c.in_ok-behind.ensures.marks ∙ c.loop.invariant.3,
    )

pub build_pairs-returns : goal.build_pairs-returns
build_pairs-returns t c = record {
  built = pairs_end (type_of_ref c.args.key_type) (type_of_ref c.args.value_type) (value c.args.levels c.args.kinds.key) (value c.args.levels c.args.kinds.value) (trees c.loop.builder) c.args.count c.loop.counter c.loop.rest.now
      (seen (with_pairs (type_of_ref c.args.key_type) (type_of_ref c.args.value_type) (trees c.args.builder.now)) (pairs (value c.args.levels c.args.kinds.key) (value c.args.levels c.args.kinds.value) c.args.count c.args.bytes.now)) c.loop-test.false c.loop.invariant.1;
  ids = c.loop.invariant.2;
  marks = c.loop.invariant.3;
}

pub build_map-unreachable-requires : goal.build_map-unreachable-requires
build_map-unreachable-requires t c = size_not (type_of_ref c.args.ty) c.args.levels c.args.bytes.now c.requires.clean c.in_default.field-0 c.in_default.ensures.reads

pub build_map-returns-then-count-eq0-clause-built : goal.build_map-returns-then-count-eq0-clause-built
build_map-returns-then-count-eq0-clause-built t c =
    empty_built (type_of_ref c.args.ty) c.args.levels c.args.bytes.now c.requires.clean c.in-Ok.count c.in-Ok.rest.now (trees c.args.builder.now) (trees c.join_map.new.builder) c.in-Ok.ensures.reads (omega arith) c.in_ok-join_map.ensures

pub build_map-unreachable-requires-in_default-read_map_header : goal.build_map-unreachable-requires-in_default-read_map_header
build_map-unreachable-requires-in_default-read_map_header t c =
    kinds_not (type_of_ref c.args.ty) c.args.levels c.args.bytes.now c.requires.clean c.in-Ok.count c.in-Ok.rest.now c.in_default-read_map_header.field-0 c.in-Ok.ensures.reads (λ e. omega (arith, e)) c.in_default-read_map_header.ensures.reads

pub build_map-key-key_type-requires : goal.build_map-key-key_type-requires
build_map-key-key_type-requires t c = map_kind (type_of_ref c.args.ty) (map_clean (type_of_ref c.args.ty) c.args.levels c.args.bytes.now c.requires.clean c.in-Ok.count c.in-Ok.rest.now c.in-Ok-read_map_header.rest.now c.in-Ok-read_map_header.kinds c.in-Ok.ensures.reads (λ e. omega (arith, e)) c.in-Ok-read_map_header.ensures.reads).0

pub build_map-value-value_type-requires : goal.build_map-value-value_type-requires
build_map-value-value_type-requires t c = map_kind (type_of_ref c.args.ty) (map_clean (type_of_ref c.args.ty) c.args.levels c.args.bytes.now c.requires.clean c.in-Ok.count c.in-Ok.rest.now c.in-Ok-read_map_header.rest.now c.in-Ok-read_map_header.kinds c.in-Ok.ensures.reads (λ e. omega (arith, e)) c.in-Ok-read_map_header.ensures.reads).0

pub build_map-build_pairs-requires : goal.build_map-build_pairs-requires
build_map-build_pairs-requires t c =
    let m = map_clean (type_of_ref c.args.ty) c.args.levels c.args.bytes.now c.requires.clean c.in-Ok.count c.in-Ok.rest.now c.in-Ok-read_map_header.rest.now c.in-Ok-read_map_header.kinds c.in-Ok.ensures.reads (λ e. omega (arith, e)) c.in-Ok-read_map_header.ensures.reads in
    let ok = map_accepted (type_of_ref c.args.ty) m.0 c.requires.accepted in (
      omega (arith, c.decreases),
      (
        subst (IsAccepted Any) (sym c.key-key_type.ensures) (key_accepted (type_of_ref c.args.ty) c.requires.accepted),
        (
          subst (IsAccepted Any) (sym c.value-value_type.ensures) ok.1,
          pairs_clean_as (type_of_ref c.key-key_type.result) (key_of (type_of_ref c.args.ty)) (type_of_ref c.value-value_type.result) (value_of (type_of_ref c.args.ty))
              (pairs (value c.args.levels c.in-Ok-read_map_header.kinds.key) (value c.args.levels c.in-Ok-read_map_header.kinds.value) c.in-Ok.count c.in-Ok-read_map_header.rest.now) c.key-key_type.ensures c.value-value_type.ensures m.1,
        ),
      ),
    )

pub build_map-join_map-requires-2-clause-there : goal.build_map-join_map-requires-2-clause-there
build_map-join_map-requires-2-clause-there t c =
    pairs_there (type_of_ref c.args.ty) c.args.levels c.args.bytes.now c.requires.clean c.in-Ok.count c.in-Ok.rest.now c.in-Ok-read_map_header.rest.now c.in-Ok-read_map_header.kinds c.in-Ok.ensures.reads (λ e. omega (arith, e)) c.in-Ok-read_map_header.ensures.reads (trees c.args.builder.now) (trees c.build_pairs.new.builder) c.in_ok-rest.rest.now
    (pairs_as (type_of_ref c.key-key_type.result) (key_of (type_of_ref c.args.ty)) (type_of_ref c.value-value_type.result) (value_of (type_of_ref c.args.ty)) (pairs (value c.args.levels c.in-Ok-read_map_header.kinds.key) (value c.args.levels c.in-Ok-read_map_header.kinds.value) c.in-Ok.count c.in-Ok-read_map_header.rest.now) (trees c.args.builder.now) (trees c.build_pairs.new.builder) c.in_ok-rest.rest.now c.key-key_type.ensures c.value-value_type.ensures c.in_ok-rest.ensures.built)

pub build_map-join_map-requires-2-clause-kind : goal.build_map-join_map-requires-2-clause-kind
build_map-join_map-requires-2-clause-kind t c =
    (map_differs (type_of_ref c.args.ty) c.args.levels c.args.bytes.now c.requires.clean c.in-Ok.count c.in-Ok.rest.now c.in-Ok-read_map_header.rest.now c.in-Ok-read_map_header.kinds c.in-Ok.ensures.reads (λ e. omega (arith, e)) c.in-Ok-read_map_header.ensures.reads (trees c.args.builder.now) (trees c.build_pairs.new.builder) c.in_ok-rest.rest.now
    (pairs_as (type_of_ref c.key-key_type.result) (key_of (type_of_ref c.args.ty)) (type_of_ref c.value-value_type.result) (value_of (type_of_ref c.args.ty)) (pairs (value c.args.levels c.in-Ok-read_map_header.kinds.key) (value c.args.levels c.in-Ok-read_map_header.kinds.value) c.in-Ok.count c.in-Ok-read_map_header.rest.now) (trees c.args.builder.now) (trees c.build_pairs.new.builder) c.in_ok-rest.rest.now c.key-key_type.ensures c.value-value_type.ensures c.in_ok-rest.ensures.built) c.requires.accepted).0

pub build_map-join_map-requires-2-clause-differ : goal.build_map-join_map-requires-2-clause-differ
build_map-join_map-requires-2-clause-differ t c =
    (map_differs (type_of_ref c.args.ty) c.args.levels c.args.bytes.now c.requires.clean c.in-Ok.count c.in-Ok.rest.now c.in-Ok-read_map_header.rest.now c.in-Ok-read_map_header.kinds c.in-Ok.ensures.reads (λ e. omega (arith, e)) c.in-Ok-read_map_header.ensures.reads (trees c.args.builder.now) (trees c.build_pairs.new.builder) c.in_ok-rest.rest.now
    (pairs_as (type_of_ref c.key-key_type.result) (key_of (type_of_ref c.args.ty)) (type_of_ref c.value-value_type.result) (value_of (type_of_ref c.args.ty)) (pairs (value c.args.levels c.in-Ok-read_map_header.kinds.key) (value c.args.levels c.in-Ok-read_map_header.kinds.value) c.in-Ok.count c.in-Ok-read_map_header.rest.now) (trees c.args.builder.now) (trees c.build_pairs.new.builder) c.in_ok-rest.rest.now c.key-key_type.ensures c.value-value_type.ensures c.in_ok-rest.ensures.built) c.requires.accepted).1

pub build_map-returns-clause-built : goal.build_map-returns-clause-built
build_map-returns-clause-built t c =
    map_built (type_of_ref c.args.ty) c.args.levels c.args.bytes.now c.requires.clean c.in-Ok.count c.in-Ok.rest.now c.in-Ok-read_map_header.rest.now c.in-Ok-read_map_header.kinds c.in-Ok.ensures.reads (λ e. omega (arith, e)) c.in-Ok-read_map_header.ensures.reads (trees c.args.builder.now) (trees c.build_pairs.new.builder) c.in_ok-rest.rest.now
    (pairs_as (type_of_ref c.key-key_type.result) (key_of (type_of_ref c.args.ty)) (type_of_ref c.value-value_type.result) (value_of (type_of_ref c.args.ty)) (pairs (value c.args.levels c.in-Ok-read_map_header.kinds.key) (value c.args.levels c.in-Ok-read_map_header.kinds.value) c.in-Ok.count c.in-Ok-read_map_header.rest.now) (trees c.args.builder.now) (trees c.build_pairs.new.builder) c.in_ok-rest.rest.now c.key-key_type.ensures c.value-value_type.ensures c.in_ok-rest.ensures.built) (trees c.join_map-2.new.builder) c.in_ok-join_map-2.ensures

pub build_value-build_leaf-requires : goal.build_value-build_leaf-requires
build_value-build_leaf-requires t c =
    subst (λ (f : List ℕ → Result (Node × List ℕ) Stop). IsClean (type_of_ref c.args.ty) (f c.args.bytes.now)) (value-zero c.args.levels c.args.kind (omega arith)) c.requires.clean

pub build_value-returns-then-levels-eq0 : goal.build_value-returns-then-levels-eq0
build_value-returns-then-levels-eq0 t c = record {
  built = rw (value-zero c.args.levels c.args.kind (omega arith)) c.build_leaf.ensures;
  ids = on_all c.build_leaf.result _ refl;
  marks = on_all c.build_leaf.result _ refl;
}

pub build_value-build_leaf-requires-in_default : goal.build_value-build_leaf-requires-in_default
build_value-build_leaf-requires-in_default t c =
    let fit = leaf_kind c.args.kind c.in_default.not-List c.in_default.not-Set c.in_default.not-Map c.in_default.not-Struct in
    subst (λ (f : List ℕ → Result (Node × List ℕ) Stop). IsClean (type_of_ref c.args.ty) (f c.args.bytes.now)) (value-scalar c.args.levels c.args.kind fit) c.requires.clean

pub build_value-returns-in_default : goal.build_value-returns-in_default
build_value-returns-in_default t c =
    let fit = leaf_kind c.args.kind c.in_default.not-List c.in_default.not-Set c.in_default.not-Map c.in_default.not-Struct in
    record {
      built = rw (value-scalar c.args.levels c.args.kind fit) c.build_leaf-in_default.ensures;
      ids = on_all c.build_leaf-in_default.result _ refl;
      marks = on_all c.build_leaf-in_default.result _ refl;
    }

pub build_value-build_list-requires : goal.build_value-build_list-requires
build_value-build_list-requires t c = (
  omega (arith, c.decreases),
  (
    c.requires.accepted,
    subst (λ (f : List ℕ → Result (Node × List ℕ) Stop). IsClean (type_of_ref c.args.ty) (f c.args.bytes.now)) (value-step c.args.levels c.args.kind (omega arith) ∙ ap (container (c.args.levels - 1) (value (c.args.levels - 1))) c.in-List.is) c.requires.clean,
  ),
)

pub build_value-returns-in-List-clause-built : goal.build_value-returns-in-List-clause-built
build_value-returns-in-List-clause-built t c = rw (value-step c.args.levels c.args.kind (omega arith) ∙ ap (container (c.args.levels - 1) (value (c.args.levels - 1))) c.in-List.is) c.build_list.ensures.built

pub build_value-build_set-requires : goal.build_value-build_set-requires
build_value-build_set-requires t c = (
  omega (arith, c.decreases),
  (
    c.requires.accepted,
    subst (λ (f : List ℕ → Result (Node × List ℕ) Stop). IsClean (type_of_ref c.args.ty) (f c.args.bytes.now)) (value-step c.args.levels c.args.kind (omega arith) ∙ ap (container (c.args.levels - 1) (value (c.args.levels - 1))) c.in-Set.is) c.requires.clean,
  ),
)

pub build_value-returns-in-Set-clause-built : goal.build_value-returns-in-Set-clause-built
build_value-returns-in-Set-clause-built t c = rw (value-step c.args.levels c.args.kind (omega arith) ∙ ap (container (c.args.levels - 1) (value (c.args.levels - 1))) c.in-Set.is) c.build_set.ensures.built

pub build_value-build_map-requires : goal.build_value-build_map-requires
build_value-build_map-requires t c = (
  omega (arith, c.decreases),
  (
    c.requires.accepted,
    subst (λ (f : List ℕ → Result (Node × List ℕ) Stop). IsClean (type_of_ref c.args.ty) (f c.args.bytes.now)) (value-step c.args.levels c.args.kind (omega arith) ∙ ap (container (c.args.levels - 1) (value (c.args.levels - 1))) c.in-Map.is) c.requires.clean,
  ),
)

pub build_value-returns-in-Map-clause-built : goal.build_value-returns-in-Map-clause-built
build_value-returns-in-Map-clause-built t c = rw (value-step c.args.levels c.args.kind (omega arith) ∙ ap (container (c.args.levels - 1) (value (c.args.levels - 1))) c.in-Map.is) c.build_map.ensures.built

pub build_value-build_struct-requires : goal.build_value-build_struct-requires
build_value-build_struct-requires t c = (
  omega (arith, c.decreases),
  (
    c.requires.accepted,
    subst (λ (f : List ℕ → Result (Node × List ℕ) Stop). IsClean (type_of_ref c.args.ty) (f c.args.bytes.now)) (value-step c.args.levels c.args.kind (omega arith) ∙ ap (container (c.args.levels - 1) (value (c.args.levels - 1))) c.in-Struct.is) c.requires.clean,
  ),
)

pub build_value-returns-in-Struct-clause-built : goal.build_value-returns-in-Struct-clause-built
build_value-returns-in-Struct-clause-built t c = rw (value-step c.args.levels c.args.kind (omega arith) ∙ ap (container (c.args.levels - 1) (value (c.args.levels - 1))) c.in-Struct.is) c.build_struct.ensures.built

pub build_struct-each-init : goal.build_struct-each-init
build_struct-each-init t c =
    let a : c.len-first_id.result ≡ length c.args.ids.now.items = omega (arith, c.len-first_id.ensures) in
    let b : c.len-first_mark.result ≡ length c.args.marks.now.items = omega (arith, c.len-first_mark.ensures) in
    let ms = c.add_marks.new.marks.items in
    let added = subst (λ (n : ℕ). Marked (fields_of_refs c.fields-fields.result) (drop n ms) []) (sym b) c.in_ok-add_marks.ensures.added in
    (([], (fields_begin (type_of_ref c.args.ty) (fields_of_refs c.fields-fields.result) c.fields-fields.ensures c.args.levels c.args.bytes.now (AreBytes-from c.args.bytes.now (λ i. omega (arith, c.type_inv.bytes i))) c.requires.clean).1, holds_none (fields_of_refs c.fields-fields.result) (trees c.args.builder.now) c.args.ids.now.items c.len-first_id.result (drop c.len-first_mark.result ms) a added), omega (arith, a), ap (λ (n : ℕ). take n c.args.ids.now.items) a ∙ take-length c.args.ids.now.items, refl, λ i lt. absurd (omega (arith, lt)))

pub build_struct-unreachable-requires : goal.build_struct-unreachable-requires
build_struct-unreachable-requires t c = left_not c.args.levels (fields_of_refs c.fields-fields.result) c.args.bytes.now c.each.invariant.0.0 c.each.before.id c.each.rest.now c.in_default.field-0 c.each.invariant.0.1 c.in_default.ensures.reads

pub build_struct-finish_struct-requires : goal.build_struct-finish_struct-requires
build_struct-finish_struct-requires t c = record {
  accepted = record { ty = c.args.ty; are = c.fields-fields.ensures; accepted = c.requires.accepted };
  held = (trees c.args.builder.now, c.each.invariant.0.0, c.each.invariant.0.2);
  first_id = c.each.invariant.1;
  filled = c.each.invariant.4;
}

pub build_struct-returns-in_default-start-clause-built : goal.build_struct-returns-in_default-start-clause-built
build_struct-returns-in_default-start-clause-built t c =
    struct_built (type_of_ref c.args.ty) (fields_of_refs c.fields-fields.result) c.fields-fields.ensures c.args.levels c.args.bytes.now c.each.invariant.0.0 c.each.before.id c.each.rest.now c.in-Ok.behind.now c.each.invariant.0.1
    (c.in-Ok.ensures.reads ∙ ap (λ o. Ok (o, c.in-Ok.behind.now)) c.in_default-start.is) (trees c.args.builder.now) (trees c.finish_struct.new.builder)
    (c.in_ok-finish_struct.ensures.trees (trees c.args.builder.now) c.each.invariant.0.0 c.each.invariant.0.2)

pub build_struct-build_field-requires : goal.build_struct-build_field-requires
build_struct-build_field-requires t c =
    let f : SFits w16 c.in-Some.id = search rules in
    let place = simp to_z-of_z at c.place_near-place.ensures in (
      omega (arith, c.decreases),
      (record { ty = c.args.ty; are = c.fields-fields.ensures; accepted = c.requires.accepted }, (simp to_z-of_z place, simp to_z-of_z (left_clean c.args.levels (fields_of_refs c.fields-fields.result) c.args.bytes.now c.each.invariant.0.0 c.each.before.id c.each.rest.now c.in-Some.id c.in-Some.field_type c.in-Ok.behind.now c.each.invariant.0.1 (c.in-Ok.ensures.reads ∙ ap (λ o. Ok (o, c.in-Ok.behind.now)) c.in-Some.is)))),
    )

pub build_struct-each-smaller : goal.build_struct-each-smaller
build_struct-each-smaller t c =
    let f : SFits w16 c.in-Some.id = search rules in
    let put = c.in_ok-rest.ensures in
    (left_on c.args.levels (fields_of_refs c.fields-fields.result) c.args.bytes.now c.each.invariant.0.0 c.each.before.id c.each.rest.now c.in-Some.id c.in-Some.field_type c.in-Ok.behind.now c.each.invariant.0.1 (c.in-Ok.ensures.reads ∙ ap (λ o. Ok (o, c.in-Ok.behind.now)) c.in-Some.is) put.0 c.in_ok-rest.rest.now put.1).0

pub build_struct-each-preserved : goal.build_struct-each-preserved
build_struct-each-preserved t c =
    let f : SFits w16 c.in-Some.id = search rules in
    let place = simp to_z-of_z at c.place_near-place.ensures in
    let put = simp to_z-of_z at c.in_ok-rest.ensures in
    let next = (left_on c.args.levels (fields_of_refs c.fields-fields.result) c.args.bytes.now c.each.invariant.0.0 c.each.before.id c.each.rest.now c.in-Some.id c.in-Some.field_type c.in-Ok.behind.now c.each.invariant.0.1 (c.in-Ok.ensures.reads ∙ ap (λ o. Ok (o, c.in-Ok.behind.now)) c.in-Some.is) put.0 c.in_ok-rest.rest.now put.1).1 in
    let new = left_new c.args.levels (fields_of_refs c.fields-fields.result) c.args.bytes.now c.each.invariant.0.0 c.each.before.id c.each.rest.now c.in-Some.id c.in-Some.field_type c.in-Ok.behind.now c.each.invariant.0.1 (c.in-Ok.ensures.reads ∙ ap (λ o. Ok (o, c.in-Ok.behind.now)) c.in-Some.is) in
    let behind = put_on (fields_of_refs c.fields-fields.result) (trees c.args.builder.now) c.each.invariant.0.0 c.in-Some.id put.0 c.len-first_id.result c.len-first_mark.result (trees c.each.builder) (trees c.build_field.new.builder) c.each.ids.items c.build_field.new.ids.items c.each.marks.items c.build_field.new.marks.items
    c.each.invariant.0.2 c.each.invariant.1 c.place_near-place.result place new put.2 in
    let filled = filled_on (fields_of_refs c.fields-fields.result) (trees c.args.builder.now) c.each.invariant.0.0 c.in-Some.id put.0 c.len-first_id.result c.len-first_mark.result (trees c.each.builder) (trees c.build_field.new.builder) c.each.ids.items c.build_field.new.ids.items c.each.marks.items c.build_field.new.marks.items
    c.each.invariant.0.2 c.each.invariant.1 c.place_near-place.result place put.2 c.each.filled c.filled_behind-filled.result c.filled_behind-filled.ensures c.each.invariant.4 in
    ((c.each.invariant.0.0 ++ reading c.in-Some.id (type_in (fields_of_refs c.fields-fields.result) c.in-Some.id) (meaning put.0) [], simp to_z-of_z next, behind.holds), behind.long, behind.ids_below ∙ c.each.invariant.2, behind.marks_below ∙ c.each.invariant.3, filled)

pub build_field-returns-in_default : goal.build_field-returns-in_default
build_field-returns-in_default t c =
    let x = seen_ok (λ (w : Node). 0 + size w) (typed (value c.args.levels) c.args.field_type c.args.bytes.now) _ c.in-Ok.rest.now c.in-Ok.ensures.reads in
    (x.0, x.1, unknown_is (fields_of_refs c.args.fields) c.args.place c.args.id c.args.base x.0 (trees c.args.builder.now) c.args.ids.now.items c.args.marks.now.items c.in_default.is)

pub build_field-build_typed-requires : goal.build_field-build_typed-requires
build_field-build_typed-requires t c =
    let a = c.requires.accepted in
    let f = field_of_ref c.at-field.result in
    let r = typed (value c.args.levels) c.args.field_type c.args.bytes.now in (
      omega (arith, c.decreases),
      (
        subst (IsAccepted Any) (sym c.ty.ensures) (field_at_accepted (type_of_ref a.ty) c.in-Some.place f a.accepted (ap (λ (gs : List DefField). slice_get gs c.in-Some.place) (sym a.are) ∙ c.at-field.ensures)).0,
        subst (λ (u : TypeTree). IsClean u r) (sym c.ty.ensures) (known_clean (fields_of_refs c.args.fields) c.args.id c.in-Some.place f r (sym c.requires.place ∙ c.in-Some.is) c.at-field.ensures c.requires.clean),
      ),
    )

pub build_field-returns : goal.build_field-returns
build_field-returns t c =
    let f = field_of_ref c.at-field.result in
    let r = typed (value c.args.levels) c.args.field_type c.args.bytes.now in
    let fit : SFits w16 c.args.id = search rules in
    let pushed = simp to_z-of_z at c.in_ok-push.ensures.items in
    let wrapped : (zs : List Value) (v : Value) → trees c.build_typed.new.builder ≡ zs ++ v ∷ [] → trees c.wrap.new.builder ≡ zs ++ given f.need (Some v) Absent ∷ [] =
    λ zs v e. c.in_ok-wrap.ensures zs v e ∙ ap (λ (n : Need). zs ++ given n (Some v) Absent ∷ []) c.need.ensures in
    field_put (fields_of_refs c.args.fields) c.args.place c.in-Some.place c.args.id c.args.base (type_of_ref c.ty.result) f r c.in_ok-rest.rest.now (trees c.args.builder.now) (trees c.build_typed.new.builder) (trees c.wrap.new.builder)
    c.args.ids.now.items c.build_typed.new.ids.items c.args.marks.now.items c.build_typed.new.marks.items c.in-Some.is c.at-field.ensures c.ty.ensures c.in_ok-rest.ensures.built wrapped
    (c.in_ok-rest.ensures.ids ∙ pushed) (c.in_ok-rest.ensures.marks ∙ c.set_mark.ensures.new)

pub build_struct-returns-in_default-start-clause-ids : goal.build_struct-returns-in_default-start-clause-ids
build_struct-returns-in_default-start-clause-ids t c = c.in_ok-finish_struct.ensures.ids ∙ c.each.invariant.2

pub build_struct-returns-in_default-start-clause-marks : goal.build_struct-returns-in_default-start-clause-marks
build_struct-returns-in_default-start-clause-marks t c =
    let b : c.len-first_mark.result ≡ length c.args.marks.now.items = omega (arith, c.len-first_mark.ensures) in
    c.in_ok-finish_struct.ensures.marks ∙ c.each.invariant.3 ∙ ap (λ (n : ℕ). take n c.add_marks.new.marks.items) b ∙ c.in_ok-add_marks.ensures.below

pub build_field-unreachable-requires : goal.build_field-unreachable-requires
build_field-unreachable-requires t c =
    let r = typed (value c.args.levels) c.args.field_type c.args.bytes.now in
    field_not (fields_of_refs c.args.fields) c.args.id r c.in_default-skip_typed.field-0 c.requires.clean (seen_err (λ (w : Node). 0 + size w) r c.in_default-skip_typed.field-0 c.in_default-skip_typed.ensures.reads)

pub build_field-wrap-requires : goal.build_field-wrap-requires
build_field-wrap-requires t c =
    field_there (type_of_ref c.ty.result) (typed (value c.args.levels) c.args.field_type c.args.bytes.now) c.in_ok-rest.rest.now (trees c.args.builder.now) (trees c.build_typed.new.builder) c.in_ok-rest.ensures.built

pub build_field-at-field-requires : goal.build_field-at-field-requires
build_field-at-field-requires t c = place_inside (fields_of_refs c.args.fields) c.args.id c.in-Some.place (sym c.requires.place ∙ c.in-Some.is)
