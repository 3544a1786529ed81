use Rattle.std.proofs.Common.{refl}
use Rattle.std.specs.Str.{is_utf8, chars}
use lib.Utf8.{encode}
use Rattle.frozen_model.specs.Bits.{field, digits}
use Rattle.frozen_model.proofs.rows.row_two_fields.Goals as goal

pub returns-clause-first : goal.returns-clause-first
unfolding field digits is_utf8 chars encode
returns-clause-first c = record { packed = refl; opened = refl }

pub returns-clause-measured : goal.returns-clause-measured
unfolding field digits is_utf8 chars encode
returns-clause-measured c = record { reached = refl; rests = refl }

pub returns-clause-second : goal.returns-clause-second
unfolding field digits is_utf8 chars encode
returns-clause-second c = record { packed = refl; opened = refl }
