use Rattle.bit_field.proofs.Words.{word_field}
use Rattle.bit_field.proofs.word.read_word.Goals as goal

pub returns : goal.returns
returns c = word_field c.args.bytes.now c.args.first c.args.shift c.args.width c.word_at.result c.ones.result c.word_at.ensures.bytes c.word_at.ensures.word c.ones.ensures c.requires.inside
