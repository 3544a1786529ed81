use Rattle.std.proofs.Common.{refl}
use Rattle.std.specs.Str.{is_utf8, chars}
use lib.Utf8.{encode}
use Rattle.frozen_model.specs.Bits.{field, digits}
use Rattle.frozen_model.proofs.rows.row_damaged_content.Goals as goal

pub returns-clause-distance : goal.returns-clause-distance
unfolding field digits is_utf8 chars encode
returns-clause-distance c = refl

pub returns-clause-short : goal.returns-clause-short
unfolding field digits is_utf8 chars encode
returns-clause-short c = refl

pub returns-clause-long : goal.returns-clause-long
unfolding field digits is_utf8 chars encode
returns-clause-long c = refl

pub returns-clause-dirty : goal.returns-clause-dirty
unfolding field digits is_utf8 chars encode
returns-clause-dirty c = refl

pub returns-clause-text : goal.returns-clause-text
unfolding field digits is_utf8 chars encode
returns-clause-text c = refl
