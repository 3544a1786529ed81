use Rattle.std.proofs.Common.{length, arith}
use Rattle.std.proofs.lemmas.Slice.{between_to_end}
use Rattle.bit_field.proofs.Writes.{replaced_fits, word_written}
use Rattle.bit_field.proofs.word.write_word.Goals as goal

pub overflow_add-others : goal.overflow_add-others
overflow_add-others c = record {
  fits = replaced_fits c.word_at.result c.args.width c.args.shift c.ones.result c.args.x c.ones.ensures c.requires.inside c.requires.fits (omega arith);
}

pub returns : goal.returns
returns c = word_written c.args.bytes.now c.write_u64.new.buf _ c.args.first c.args.shift c.args.width c.args.x c.word_at.result c.ones.result
    c.word_at.ensures.bytes c.word_at.ensures.word (omega arith) c.requires.room c.ones.ensures c.requires.inside c.requires.fits
    (between_to_end c.args.bytes.now c.args.first (length c.args.bytes.now) (omega arith)) c.write_u64.ensures
