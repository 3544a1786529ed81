use Rattle.std.proofs.Common.{arith}
use Rattle.bit_field.proofs.Writes.{bits_written}
use Rattle.bit_field.proofs.write.write_bits.Goals as goal

pub returns-then-first-bytes : goal.returns-then-first-bytes
returns-then-first-bytes c = bits_written c.args.bytes.now c.write_word.new.bytes _ c.args.bit c.args.width c.args.x c.write_word.ensures (omega arith)
    (λ k. (c.type_inv.bytes k).fits) (omega arith) c.requires.inside c.requires.fits

pub returns-then-width-gt0 : goal.returns-then-width-gt0
returns-then-width-gt0 c = bits_written c.args.bytes.now c.write_rest.new.bytes _ c.args.bit c.args.width c.args.x c.write_rest.ensures (omega arith)
    (λ k. (c.type_inv.bytes k).fits) (omega arith) c.requires.inside c.requires.fits
