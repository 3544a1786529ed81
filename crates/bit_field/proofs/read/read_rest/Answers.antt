use Rattle.std.proofs.Common.{◌≡◌, ◌-◌, ◌*◌, arith, length, sym, subst}
use Rattle.frozen_model.specs.Bits.{field}
use Rattle.frozen_model.proofs.Fields.{field_none}
use Rattle.bit_field.proofs.Writes.{zeros_are_0}
use Rattle.bit_field.proofs.ReadFields.{padded_field, nine_field, fits_word}
use Rattle.bit_field.proofs.read.read_rest.Goals as goal

pub returns-then-width-eq0 : goal.returns-then-width-eq0
returns-then-width-eq0 c = subst (λ z. 0 ≡ field c.args.bytes.now c.args.bit z) (sym c.if-width-eq0.true) (sym (field_none c.args.bytes.now c.args.bit))

pub returns-then-len-lt8 : goal.returns-then-len-lt8
returns-then-len-lt8 c = padded_field c.args.bytes.now c.copy_from_slice.new.self _ c.args.bit c.args.width c.read_u64.result c.ones.result c.copy_from_slice.ensures.after
    (zeros_are_0 (length c.args.bytes.now)) (omega arith) c.read_u64.ensures c.ones.ensures (omega arith)

pub overflow_add-result : goal.overflow_add-result
overflow_add-result c = record {
  fits = fits_word c.args.bytes.now c.args.bit c.args.width _ c.requires.wide
      (nine_field c.args.bytes.now c.min-first.result (c.args.bit - 8 * c.min-first.result) (64 - (c.args.bit - 8 * c.min-first.result)) _ c.args.bit c.args.width
      c.word_at.result c.from.result c.ones-2.result c.word_at.ensures.bytes (omega arith) c.word_at.ensures.word c.from.ensures (omega arith) (omega arith) (omega arith)
      (omega arith) c.requires.wide c.ones-2.ensures);
}

pub returns : goal.returns
returns c = nine_field c.args.bytes.now c.min-first.result (c.args.bit - 8 * c.min-first.result) (64 - (c.args.bit - 8 * c.min-first.result)) _ c.args.bit c.args.width
    c.word_at.result c.from.result c.ones-2.result c.word_at.ensures.bytes (omega arith) c.word_at.ensures.word c.from.ensures (omega arith) (omega arith) (omega arith)
    (omega arith) c.requires.wide c.ones-2.ensures
