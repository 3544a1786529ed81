use Rattle.std.proofs.Common.{◌∙◌, pos, ap, sym, arith, w64, to_z, of_z}
use Rattle.std.proofs.lemmas.Int.{to_z-of_z}
use Rattle.cli_texts.specs.Demos.{number}
use Rattle.path_text.specs.declared.path.KeyLit.TheVariants.{Int}
use Rattle.path_text.specs.declared.path.StepKind.TheVariants.{Key}
use Rattle.path_text.specs.Steps.{int_key, key_step}
use Rattle.demo_table.proofs.Found.{keyed_steps, number_reached, number_costs_at, not_none, some_number}
use Rattle.demo_table.proofs.Found.{same_number}
use Rattle.demo_table.proofs.lookups.is_found.Goals as goal

pub returns-in-None-clause-found : goal.returns-in-None-clause-found
returns-in-None-clause-found g c =
    let p = c.requires.path in
    let key = ap (λ z. key_step (int_key z))
    (to_z-of_z w64 c.from.result (record { sfits = c.from.type_inv }) ∙ c.from.ensures) in
    let steps = keyed_steps p.first p.second p.third (record {
      place = c.index_mut.result.now.place;
      kind = Key (Int (to_z w64 (of_z w64 c.from.result)));
    }) c.args.path.now.steps.items (pos c.args.key) p.are p.users p.id key in
    let part = c.lookup.ensures.part
    ∙ number_reached _ _ _ _ _ _ c.args.n c.args.key steps c.requires.root c.requires.value c.requires.first
    c.requires.last in
    absurd (not_none c.lookup.result (number c.args.key) c.in-None.is part)

pub returns-in-None-clause-cost : goal.returns-in-None-clause-cost
returns-in-None-clause-cost g c =
    let p = c.requires.path in
    let key = ap (λ z. key_step (int_key z))
    (to_z-of_z w64 c.from.result (record { sfits = c.from.type_inv }) ∙ c.from.ensures) in
    let steps = keyed_steps p.first p.second p.third (record {
      place = c.index_mut.result.now.place;
      kind = Key (Int (to_z w64 (of_z w64 c.from.result)));
    }) c.args.path.now.steps.items (pos c.args.key) p.are p.users p.id key in
    let cost = number_costs_at _ _ _ _ _ _ c.args.n c.args.key steps c.requires.root c.requires.value
    c.requires.first c.requires.last in
    omega (arith, c.lookup.ensures.cost, cost)

pub returns-in-I32-clause-found : goal.returns-in-I32-clause-found
returns-in-I32-clause-found g c =
    let p = c.requires.path in
    let key = ap (λ z. key_step (int_key z))
    (to_z-of_z w64 c.from.result (record { sfits = c.from.type_inv }) ∙ c.from.ensures) in
    let steps = keyed_steps p.first p.second p.third (record {
      place = c.index_mut.result.now.place;
      kind = Key (Int (to_z w64 (of_z w64 c.from.result)));
    }) c.args.path.now.steps.items (pos c.args.key) p.are p.users p.id key in
    let part = c.lookup.ensures.part
    ∙ number_reached _ _ _ _ _ _ c.args.n c.args.key steps c.requires.root c.requires.value c.requires.first
    c.requires.last in
    let is = some_number c.lookup.result c.in-Some.id c.int.result c.args.key c.in-Some.is part
    c.int.ensures in
    same_number c.int.result c.from-in-I32.result (is ∙ sym c.from-in-I32.ensures)

pub returns-in-I32-clause-cost : goal.returns-in-I32-clause-cost
returns-in-I32-clause-cost g c =
    let p = c.requires.path in
    let key = ap (λ z. key_step (int_key z))
    (to_z-of_z w64 c.from.result (record { sfits = c.from.type_inv }) ∙ c.from.ensures) in
    let steps = keyed_steps p.first p.second p.third (record {
      place = c.index_mut.result.now.place;
      kind = Key (Int (to_z w64 (of_z w64 c.from.result)));
    }) c.args.path.now.steps.items (pos c.args.key) p.are p.users p.id key in
    let cost = number_costs_at _ _ _ _ _ _ c.args.n c.args.key steps c.requires.root c.requires.value
    c.requires.first c.requires.last in
    omega (arith, c.lookup.ensures.cost, cost)
