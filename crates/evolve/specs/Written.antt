-- What a written default is as a flag, a number or bytes: false, 0 or none where none is written.
use Rattle.std.specs.Prelude.{ℕ, ℤ, pos, List, [], Bool, false}
use Rattle.idl_profile.specs.Types.{Default, flag_default, int_default, text_default}

abbrev pub flag_in : Default → Bool
flag_in (flag_default b) = b
flag_in d = false

abbrev pub int_in : Default → ℤ
int_in (int_default z) = z
int_in d = pos 0

abbrev pub bytes_in : Default → List ℕ
bytes_in (text_default x) = x
bytes_in d = []
