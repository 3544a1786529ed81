-- Codes of types.
use Rattle.std.proofs.Common.{◌≡◌, refl}
use Rattle.idl_profile.specs.Types.{TypeTree, scalar, text, bytes, list_of, set_of, map_of, named, enum_of, struct_of, kind_of, flag, i8, i16, i32, i64}
use Rattle.typed_reading.specs.Codes.{code}
use Rattle.typed_reading.specs.Progress.{kind_code}

pub code_is : (t : TypeTree) → kind_code (kind_of t) ≡ code t
code_is (scalar flag) = refl
code_is (scalar i8) = refl
code_is (scalar i16) = refl
code_is (scalar i32) = refl
code_is (scalar i64) = refl
code_is text = refl
code_is bytes = refl
code_is (list_of t) = refl
code_is (set_of t) = refl
code_is (map_of k v) = refl
code_is (named (enum_of n ms)) = refl
code_is (named (struct_of n fs)) = refl
