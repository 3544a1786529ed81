use Rattle.std.proofs.Common.{arith, refl}
use Rattle.bit_field.proofs.ReadFields.{value_fits, value_bits}
use Rattle.bit_field.proofs.read.read_bits.Goals as goal

pub returns-then-first-bytes-clause-fits : goal.returns-then-first-bytes-clause-fits
returns-then-first-bytes-clause-fits c = value_fits c.args.bytes.now _ c.args.width c.read_word.result c.read_word.ensures

pub returns-then-first-bytes-clause-bits : goal.returns-then-first-bytes-clause-bits
returns-then-first-bytes-clause-bits c = value_bits c.args.bytes.now _ c.args.bit c.args.width c.read_word.result (λ k. (c.type_inv.bytes k).fits) c.requires.inside
    (omega arith) c.read_word.ensures

pub returns-else-width-le57-clause-fits : goal.returns-else-width-le57-clause-fits
returns-else-width-le57-clause-fits c = value_fits c.args.bytes.now _ c.args.width c.read_rest.result c.read_rest.ensures

pub returns-else-width-le57-clause-bits : goal.returns-else-width-le57-clause-bits
returns-else-width-le57-clause-bits c = value_bits c.args.bytes.now _ c.args.bit c.args.width c.read_rest.result (λ k. (c.type_inv.bytes k).fits) c.requires.inside refl
    c.read_rest.ensures
