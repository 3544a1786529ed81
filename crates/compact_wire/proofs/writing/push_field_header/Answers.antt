use Rattle.std.proofs.Common.{◌≡◌, ◌≤◌, ◌⊎◌, inl, inr, ◌++◌, ◌∷◌, [], ap, sym, ◌∙◌, append_assoc, arith}
use Rattle.std.proofs.Common.{rules}
use Rattle.std.specs.Prelude.{pos, ◌-ℤ◌, ◌≤ℤ◌}
use Rattle.std.proofs.lemmas.Int.{ints, to_z-of_z}
use mir.Val.{SFits}
use mir.Syntax.{w16, w64}
use Rattle.compact_wire.specs.Number.{zigzag, shortest}
use Rattle.compact_wire.specs.Canon.{id_step}
use Rattle.compact_wire.proofs.CanonLaws.{long_header}
use Rattle.compact_wire.proofs.WriteSteps.{id_step_none, id_step_large, on_ok}
use Rattle.compact_wire.proofs.writing.push_field_header.Goals as goal
use Rattle.compact_wire.proofs.writing.push_field_header.Goals.{else-step-gt0-via-then-step-gt0+else-step-lt16}
use Rattle.compact_wire.proofs.writing.push_field_header.Goals.{else-step-gt0-via-else-step-gt0}

pub returns : goal.returns
returns c =
    let long : (id_step c.args.before.id c.args.id ≡ 0) ⊎ (16 ≤ id_step c.args.before.id c.args.id) =
    elim c.else-step-gt0.branch [
      | else-step-gt0-via-then-step-gt0+else-step-lt16 w ↦ let h : pos 16 ≤ℤ (c.args.id -ℤ c.args.before.id) =
          omega (arith, ints) in inr (id_step_large c.args.before.id c.args.id h)
      | else-step-gt0-via-else-step-gt0 w ↦ let h : (c.args.id -ℤ c.args.before.id) ≤ℤ pos 0 =
          omega (arith, ints) in inl (id_step_none c.args.before.id c.args.id h)
    ] in
    let mark = long_header c.args.before.id c.args.id c.args.code long in
    let code : c.push-2.new.self.items ≡ c.args.out.now.items ++ c.args.code ∷ [] = grind arith in
    let fits : SFits w64 c.from-3.result = search rules in
    let fits_16 : SFits w16 c.args.id = record { sfits = c.ranges.id.sfits } in
    let same : c.from-3.result ≡ c.args.id = simp to_z-of_z at c.from-3.ensures in
    let number : c.zigzag.result ≡ zigzag c.args.id = (simp to_z-of_z at c.zigzag.ensures) ∙ ap zigzag same in
    on_ok c.push_number.result
    (λ written. written ∙ ap (λ z. z ++ shortest c.zigzag.result) code
    ∙ append_assoc c.args.out.now.items (c.args.code ∷ []) (shortest c.zigzag.result)
    ∙ ap (λ n. c.args.out.now.items ++ c.args.code ∷ shortest n) number
    ∙ ap (λ z. c.args.out.now.items ++ z) (sym mark))
    c.push_number.ensures.ok
