use Rattle.std.proofs.Common.{◌≡◌, true, ◌∙◌, arith}
use Rattle.std.specs.Prelude.{None, is_some}
use Rattle.std.proofs.lemmas.Grind.{common_steps}
use Rattle.name_index.specs.Names.{first_place}
use Rattle.name_index.proofs.Entering.{stood, entered}
use Rattle.name_index.proofs.index.NameIndex.push.Goals as goal
use Rattle.name_index.proofs.index.NameIndex.push.Goals.{then-is_none+in_ok-key+in_ok-insert, else-is_none}

pub returns-clause-grows : goal.returns-clause-grows
returns-clause-grows c names h =
    elim c.if-is_none.branch [
      | then-is_none+in_ok-key+in_ok-insert w ↦
          let none : first_place names c.args.name.now ≡ None = grind (arith, common_steps, c.get.ensures.value, h.places c.args.name.now) in
          record { count = grind (arith, common_steps); places = λ q. rw w.self-is (entered w.in_ok-key.key c.args.self.now.places w.insert.new.self names c.args.name.now _ w.in_ok-key.ensures.ok h.count h.places none w.in_ok-insert.ensures.updates q) }
      | else-is_none w ↦
          let some : is_some (first_place names c.args.name.now) ≡ true = grind (arith, common_steps, c.get.ensures.value, h.places c.args.name.now) in
          record { count = grind (arith, common_steps); places = λ q. rw w.self-is (h.places q ∙ stood names c.args.name.now some q) }
    ]
