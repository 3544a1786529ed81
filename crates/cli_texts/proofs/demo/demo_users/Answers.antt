use Rattle.std.proofs.Common.{rules, ◌≡◌, ◌≢◌, ◌+◌, ◌≤◌, ◌∙◌, length, arith, ap, sym, subst}
use Rattle.std.specs.Prelude.{AllPairs}
use Rattle.idl_profile.specs.Types.{root_of}
use Rattle.type_kinds.specs.KindsOf.{kinds_of}
use Rattle.frozen_model.specs.Values.{Of, cells, cell_limit}
use Rattle.key_order.specs.Keys.{AreOneKind}
use Rattle.typed_tree.specs.References.{value_of_tree}
use Rattle.typed_tree.specs.Trees.{trees}
use Rattle.cli_texts.specs.Demos.{demo, demo_definition}
use Rattle.cli_texts.proofs.Users.{turns_length, next_turn, all_turns, last_keys}
use Rattle.cli_texts.proofs.Users.{made_one_kind, made_differ, with_map, made_map, made_demo, only_one}
use Rattle.cli_texts.proofs.Formed.{demo_of, demo_few}
use Rattle.cli_texts.proofs.demo.demo_users.Goals as goal

pub loop-i-preserved : goal.loop-i-preserved
loop-i-preserved c =
    let n = c.args.n in
    let i = c.loop-i.i in
    next_turn n i (trees c.loop-i.builder) (trees c.add_user.new.builder) (omega (arith, c.loop-i-test.true))
    c.in_ok-add_user.ensures
    ∙ c.loop-i.invariant

pub join_map-requires-clause-there : goal.join_map-requires-clause-there
join_map-requires-clause-there c =
    let n = c.args.n in
    let le : n + 1 ≤ c.loop-i.i = omega (arith, c.loop-i-test.false) in
    let many : c.from-many.result ≡ n = search rules in
    let e = all_turns n c.loop-i.i (trees c.loop-i.builder) le c.loop-i.invariant in
    omega (arith, many, ap length e, turns_length 1 n)

pub join_map-requires-clause-kind : goal.join_map-requires-clause-kind
join_map-requires-clause-kind c =
    let n = c.args.n in
    let ts = trees c.loop-i.builder in
    let le : n + 1 ≤ c.loop-i.i = omega (arith, c.loop-i-test.false) in
    let many : c.from-many.result ≡ n = search rules in
    let e = all_turns n c.loop-i.i ts le c.loop-i.invariant in
    subst (λ k. AreOneKind (last_keys k ts)) (sym many) (made_one_kind n ts e)

pub join_map-requires-clause-differ : goal.join_map-requires-clause-differ
join_map-requires-clause-differ c =
    let n = c.args.n in
    let ts = trees c.loop-i.builder in
    let le : n + 1 ≤ c.loop-i.i = omega (arith, c.loop-i-test.false) in
    let many : c.from-many.result ≡ n = search rules in
    let e = all_turns n c.loop-i.i ts le c.loop-i.invariant in
    subst (λ k. AllPairs (λ x y. x ≢ y) (last_keys k ts)) (sym many) (made_differ n ts e)

pub finish-requires : goal.finish-requires
finish-requires c =
    let n = c.args.n in
    let ts = trees c.loop-i.builder in
    let le : n + 1 ≤ c.loop-i.i = omega (arith, c.loop-i-test.false) in
    let many : c.from-many.result ≡ n = search rules in
    let e = all_turns n c.loop-i.i ts le c.loop-i.invariant in
    let new = trees c.join_map.new.builder in
    let m = made_map n ts new e (subst (λ k. new ≡ with_map k ts) many c.in_ok-join_map.ensures) in
    ap length (made_demo n new (trees c.structure.new.self) m c.in_ok-structure.ensures.joined.trees)

pub returns : goal.returns
returns c =
    let n = c.args.n in
    let ts = trees c.loop-i.builder in
    let le : n + 1 ≤ c.loop-i.i = omega (arith, c.loop-i-test.false) in
    let many : c.from-many.result ≡ n = search rules in
    let e = all_turns n c.loop-i.i ts le c.loop-i.invariant in
    let new = trees c.join_map.new.builder in
    let m = made_map n ts new e (subst (λ k. new ≡ with_map k ts) many c.in_ok-join_map.ensures) in
    let d = made_demo n new (trees c.structure.new.self) m c.in_ok-structure.ensures.joined.trees in
    let v = value_of_tree c.finish.result in
    let is : v ≡ demo n = only_one v (demo n) (trees c.structure.new.self) c.finish.ensures.tree d in
    let ks = kinds_of (root_of demo_definition) in
    record {
      value = is;
      form = subst (λ r. Of ks r) (sym is) (demo_of n c.requires.few);
      few = subst (λ r. cells ks r ≤ cell_limit) (sym is) (demo_few n c.requires.few);
    }
