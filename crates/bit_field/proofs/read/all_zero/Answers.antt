use Rattle.std.proofs.Common.{◌≡◌, ◌-◌, ◌+◌, ℕ, true, nat_eq, ◌∙◌, sym, refl, arith, eq-eqb}
use Rattle.std.proofs.lemmas.Bool.Decides.{nat_tests}
use Rattle.frozen_model.specs.Bits.{field}
use Rattle.frozen_model.proofs.Fields.{field_none}
use Rattle.bit_field.proofs.ReadFields.{zero_step, zero_within, all_clear, clear_all}
use Rattle.bit_field.proofs.read.all_zero.Goals as goal

is_zero : (x : ℕ) → nat_eq x 0 ≡ true → x ≡ 0
is_zero x h = grind (arith, nat_tests)

pub loop-at-init : goal.loop-at-init
loop-at-init c =
    let e : c.args.from - c.args.from ≡ 0 = omega arith in
    record { after = omega arith; before = c.requires.order; zeros = rw e (field_none c.args.bytes.now c.args.from) }

pub returns-then-read_bits-ne0 : goal.returns-then-read_bits-ne0
returns-then-read_bits-ne0 c = (
  (λ h. cc),
  λ h.
      let all : field c.args.bytes.now c.args.from (c.args.to - c.args.from) ≡ 0 =
      clear_all c.args.bytes.now c.args.from (c.args.to - c.args.from) (λ k. (c.type_inv.bytes k).fits) (omega arith) h in
      let z = zero_within c.args.bytes.now c.args.from c.loop-at.at 56 c.args.to c.loop-at.invariant.after (omega arith) all in
      let q : c.read_bits.result ≡ 0 = c.read_bits.ensures.value ∙ z in
      absurd (omega arith),
)

pub loop-at-preserved : goal.loop-at-preserved
loop-at-preserved c = record {
  after = omega arith;
  before = omega arith;
  zeros = zero_step c.args.bytes.now c.args.from c.loop-at.at 56 (c.loop-at.at + 56) c.loop-at.invariant.after refl c.loop-at.invariant.zeros
      (sym c.read_bits.ensures.value ∙ c.if-read_bits-ne0.false);
}

pub returns : goal.returns
returns c = (
  (λ h. all_clear c.args.bytes.now c.args.from (c.args.to - c.args.from) (λ k. (c.type_inv.bytes k).fits) (omega arith)
      (zero_step c.args.bytes.now c.args.from c.loop-at.at (c.args.to - c.loop-at.at) c.args.to c.loop-at.invariant.after (omega arith) c.loop-at.invariant.zeros
      (sym c.read_bits-2.ensures.value ∙ is_zero c.read_bits-2.result h))),
  λ h. eq-eqb c.read_bits-2.result 0
      (c.read_bits-2.ensures.value ∙ zero_within c.args.bytes.now c.args.from c.loop-at.at (c.args.to - c.loop-at.at) c.args.to c.loop-at.invariant.after (omega arith)
      (clear_all c.args.bytes.now c.args.from (c.args.to - c.args.from) (λ k. (c.type_inv.bytes k).fits) (omega arith) h)),
)
