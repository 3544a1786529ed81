use Rattle.std.proofs.Common.{◌≡◌, ◌<◌, ◌+◌, ◌-◌, ◌/◌, ℕ, refl, sym, length, arith}
use Rattle.std.specs.Prelude.{pos}
use Rattle.std.proofs.lemmas.Int.{ints}
use lib.Signed.{◌<ℤ◌}
use Rattle.frozen_model.specs.Values.{One, Number}
use Rattle.idl_parse.specs.Refs.{type_of_ref}
use Rattle.layout_schema.specs.Reading.{layouts_told}
use Rattle.layout_schema.specs.Standing.{spelled_as}
use Rattle.layout_schema.proofs.ByNumber.{told_map, many, at_place, inside, is_spelled, are_layouts}
use Rattle.layout_schema.proofs.ReadEntries.{found_middle, below_middle, above_middle, none_left}
use Rattle.layout_schema.proofs.entries.Entries.layout.Goals as goal

pub loop-low-init : goal.loop-low-init
loop-low-init c =
    let e = c.args.self in
    let n = many e c.requires in
    record {
      inside = omega (arith, n);
      before = λ j lt. absurd (omega (arith, lt));
      behind = λ j from to. absurd (omega (arith, from, to, n));
    }

pub layout_at-layout-requires : goal.layout_at-layout-requires
layout_at-layout-requires c = omega (arith, c.loop-low-test.true, c.loop-low.invariant.inside, many c.args.self c.requires)

pub returns-then-key-from-clause-is : goal.returns-then-key-from-clause-is
returns-then-key-from-clause-is c =
    let e = c.args.self in
    let x = c.layout_at-layout.result in
    let m : ℕ = c.loop-low.low + (c.loop-low.high - c.loop-low.low) / 2 in
    let lt : m < length e.layouts.now = omega (arith, c.loop-low-test.true, c.loop-low.invariant.inside, many e c.requires) in
    let at = at_place e c.requires m x c.layout_at-layout.ensures lt in
    let same : x.number ≡ pos c.args.number = omega (arith, ints, c.if-key-from.true, c.from.ensures, c.from-key.ensures) in
    sym (found_middle (told_map e) (are_layouts e c.requires) c.args.number m (One (Number x.number)) (spelled_as (type_of_ref e.ty) x.bytes.now) x.number (inside e c.requires m x c.layout_at-layout.ensures lt) at refl same)

pub returns-then-key-from-clause-formed : goal.returns-then-key-from-clause-formed
returns-then-key-from-clause-formed c =
    let e = c.args.self in
    let m : ℕ = c.loop-low.low + (c.loop-low.high - c.loop-low.low) / 2 in
    let lt : m < length e.layouts.now = omega (arith, c.loop-low-test.true, c.loop-low.invariant.inside, many e c.requires) in
    is_spelled e c.requires m c.layout_at-layout.result c.layout_at-layout.ensures lt

pub loop-low-preserved-then-key-from-2 : goal.loop-low-preserved-then-key-from-2
loop-low-preserved-then-key-from-2 c =
    let e = c.args.self in
    let x = c.layout_at-layout.result in
    let m : ℕ = c.loop-low.low + (c.loop-low.high - c.loop-low.low) / 2 in
    let lt : m < length e.layouts.now = omega (arith, c.loop-low-test.true, c.loop-low.invariant.inside, many e c.requires) in
    let less : x.number <ℤ pos c.args.number = omega (arith, ints, c.if-key-from-2.true, c.from-in-loop-low.ensures, c.from-key.ensures) in
    record {
      inside = c.loop-low.invariant.inside;
      before = below_middle (told_map e) (are_layouts e c.requires) c.args.number m (One (Number x.number)) (spelled_as (type_of_ref e.ty) x.bytes.now) x.number (inside e c.requires m x c.layout_at-layout.ensures lt)
          (at_place e c.requires m x c.layout_at-layout.ensures lt) refl less;
      behind = c.loop-low.invariant.behind;
    }

pub loop-low-preserved : goal.loop-low-preserved
loop-low-preserved c =
    let e = c.args.self in
    let x = c.layout_at-layout.result in
    let m : ℕ = c.loop-low.low + (c.loop-low.high - c.loop-low.low) / 2 in
    let lt : m < length e.layouts.now = omega (arith, c.loop-low-test.true, c.loop-low.invariant.inside, many e c.requires) in
    let more : pos c.args.number <ℤ x.number = omega (arith, ints, c.if-key-from.false, c.if-key-from-2.false, c.from.ensures, c.from-in-loop-low.ensures, c.from-key.ensures) in
    record {
      inside = omega (arith, inside e c.requires m x c.layout_at-layout.ensures lt);
      before = c.loop-low.invariant.before;
      behind = above_middle (told_map e) (are_layouts e c.requires) c.args.number m (One (Number x.number)) (spelled_as (type_of_ref e.ty) x.bytes.now) x.number (inside e c.requires m x c.layout_at-layout.ensures lt)
          (at_place e c.requires m x c.layout_at-layout.ensures lt) refl more;
    }

pub returns-clause-is : goal.returns-clause-is
returns-clause-is c = sym (none_left (layouts_told c.args.self) c.args.number c.loop-low.low c.loop-low.high c.loop-low-test.false c.loop-low.invariant.before c.loop-low.invariant.behind)
