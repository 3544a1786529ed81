use Rattle.std.proofs.Common.{refl}
use Rattle.std.specs.Str.{is_utf8, chars}
use lib.Utf8.{encode}
use Rattle.frozen_model.specs.Bits.{field, digits}
use Rattle.frozen_model.proofs.rows.row_keys_out_of_order.Goals as goal

pub returns : goal.returns
unfolding field digits is_utf8 chars encode
returns c = refl
