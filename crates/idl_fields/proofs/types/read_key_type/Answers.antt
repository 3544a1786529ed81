use Rattle.std.proofs.Common.{nat_lt, rules}
use Rattle.idl_profile.specs.Text.{inner}
use Rattle.idl_fields.proofs.types.read_key_type.Goals as goal

pub returns-in_err-word : goal.returns-in_err-word
unfolding inner
returns-in_err-word c depth = let k = c.in_err-word.ensures (nat_lt 0 depth) in search rules

pub returns-in_err-rest : goal.returns-in_err-rest
unfolding inner
returns-in_err-rest c depth = let k = c.in_ok-word.ensures (nat_lt 0 depth) in search rules

pub returns : goal.returns
unfolding inner
returns c depth = let k = c.in_ok-word.ensures (nat_lt 0 depth) in search rules
