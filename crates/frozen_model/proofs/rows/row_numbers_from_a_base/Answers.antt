use Rattle.std.proofs.Common.{refl}
use Rattle.std.specs.Str.{is_utf8, chars}
use lib.Utf8.{encode}
use Rattle.frozen_model.specs.Bits.{field, digits}
use Rattle.frozen_model.proofs.rows.row_numbers_from_a_base.Goals as goal

pub returns-clause-packed : goal.returns-clause-packed
unfolding field digits is_utf8 chars encode
returns-clause-packed c = record { packed = refl; opened = refl }

pub returns-clause-measured : goal.returns-clause-measured
unfolding field digits is_utf8 chars encode
returns-clause-measured c = record { reached = refl; rests = refl }

pub returns-clause-range : goal.returns-clause-range
unfolding field digits is_utf8 chars encode
returns-clause-range c = refl
