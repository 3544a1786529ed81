use Rattle.std.proofs.Common.{◌-◌, ◌*◌, arith, length, refl}
use Rattle.bit_field.proofs.Writes.{padded_written, zeros_are_0, nine_written, high_part}
use Rattle.bit_field.proofs.write.write_rest.Goals as goal

pub returns-then-len-lt8 : goal.returns-then-len-lt8
returns-then-len-lt8 c = padded_written c.args.bytes.now c.copy_from_slice.new.self _ c.write_word.new.bytes c.copy_from_slice-then-len-lt8.new.self c.args.bit c.args.width c.args.x
    c.copy_from_slice.ensures.after (zeros_are_0 (length c.args.bytes.now)) c.write_word.ensures c.requires.inside c.requires.fits c.write_word.auto.bytes
    c.copy_from_slice-then-len-lt8.ensures.after

pub write_word-requires-else-width-seen-2-clause-fits : goal.write_word-requires-else-width-seen-2-clause-fits
write_word-requires-else-width-seen-2-clause-fits c =
    high_part c.args.x c.args.width (64 - (c.args.bit - 8 * c.min-first.result)) (omega arith) c.requires.fits

pub returns-else-width-seen : goal.returns-else-width-seen
returns-else-width-seen c = nine_written c.args.bytes.now c.write_word-else-width-seen.new.bytes c.write_word-else-width-seen-2.new.bytes _ _ c.args.bit _ _ c.args.width _ _ c.args.x
    c.ones.result (omega arith) (omega arith) (omega arith) c.ones.ensures refl refl c.write_word-else-width-seen.ensures c.write_word-else-width-seen-2.ensures
