use Rattle.std.proofs.Common.{arith, ◌≡◌, ◌+◌, ◌-◌, subst, sym, ap, All, true, false, take, drop}
use Rattle.frozen_model.specs.Bits.{bits_of}
use Rattle.frozen_model.specs.Walk.{Dirty}
use Rattle.bit_field.proofs.ReadFields.{all_clear, clear_all}
use Rattle.content_check.proofs.leaf.check_zero.Goals as goal

pub returns-then-all_zero : goal.returns-then-all_zero
returns-then-all_zero c =
    let bs = c.args.content.now in
    let e : c.args.bit + c.args.n - c.args.bit ≡ c.args.n = omega arith in
    let a = subst (λ m. All (λ b. b ≡ false) (take m (drop c.args.bit (bits_of bs)))) e
    (c.all_zero.ensures.0 c.if-all_zero.true) in
    clear_all bs c.args.bit c.args.n (λ k. (c.type_inv.content k).fits) c.requires.inside a

pub returns-else-all_zero : goal.returns-else-all_zero
returns-else-all_zero c =
    let bs = c.args.content.now in
    let e : c.args.bit + c.args.n - c.args.bit ≡ c.args.n = omega arith in (
      (λ z.
          let t : c.all_zero.result ≡ true = c.all_zero.ensures.1
          (subst (λ m. All (λ b. b ≡ false) (take m (drop c.args.bit (bits_of bs)))) (sym e)
          (all_clear bs c.args.bit c.args.n (λ k. (c.type_inv.content k).fits) c.requires.inside z)) in
          let f = c.if-all_zero.false in absurd cc),
      ap Dirty c.first_dirty.ensures,
    )
