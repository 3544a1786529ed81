-- What the default of a field is, where the field is not optional.
use Rattle.std.proofs.Common.{◌≡◌, ◌≢◌, [], false, pos, refl}
use Rattle.idl_profile.specs.declared.kinds.Need.{Need}
use Rattle.idl_profile.specs.declared.kinds.Need.TheVariants.{Plain, Required, Optional}
use Rattle.idl_profile.specs.Types.{TypeTree, scalar, text, bytes, list_of, set_of, map_of, named, enum_of}
use Rattle.idl_profile.specs.Types.{struct_of, flag, i8, i16, i32, i64, DefField, Default, without}
use Rattle.idl_profile.specs.Types.{flag_default, int_default, text_default, empty_default}
use Rattle.frozen_model.specs.Values.{One, Bytes, NoValue, Truth, Number}
use Rattle.type_kinds.specs.Defaults.{default_of, default_field, written}
use Rattle.typed_tree.specs.Parts.{IsFlag, IsInt, IsBytes, items_of}
use Rattle.typed_tree.specs.Sizes.{default_value}
use Rattle.evolve.specs.Written.{flag_in, int_in, bytes_in}

-- it is what is written, or what its type has of itself
pub given : (f : DefField) → f.need ≢ Optional → default_value f ≡ written f.default (default_of f.type)
given f ne = by f.need ne
  where
    by : (n : Need) → n ≢ Optional → default_field n f.type f.default ≡ written f.default (default_of f.type)
    by Plain ne = refl
    by Required ne = refl
    by Optional ne = absurd (ne refl)

own_flag : (t : TypeTree) → IsFlag (default_of t) → default_of t ≡ One (Truth false)
own_flag (scalar flag) h = refl
own_flag (scalar i8) h = absurd h
own_flag (scalar i16) h = absurd h
own_flag (scalar i32) h = absurd h
own_flag (scalar i64) h = absurd h
own_flag (named (enum_of w ms)) h = absurd h
own_flag (named (struct_of w fs)) h = absurd h
own_flag t h = absurd h

pub written_flag : (t : TypeTree) (d : Default) → IsFlag (written d (default_of t))
    → written d (default_of t) ≡ One (Truth (flag_in d))
written_flag t (flag_default b) h = refl
written_flag t without h = own_flag t h
written_flag t empty_default h = own_flag t h
written_flag t d h = absurd h

own_int : (t : TypeTree) → IsInt (default_of t) → default_of t ≡ One (Number (pos 0))
own_int (scalar flag) h = absurd h
own_int (scalar i8) h = refl
own_int (scalar i16) h = refl
own_int (scalar i32) h = refl
own_int (scalar i64) h = refl
own_int (named (enum_of w ms)) h = refl
own_int (named (struct_of w fs)) h = absurd h
own_int t h = absurd h

pub written_int : (t : TypeTree) (d : Default) → IsInt (written d (default_of t))
    → written d (default_of t) ≡ One (Number (int_in d))
written_int t (int_default z) h = refl
written_int t without h = own_int t h
written_int t empty_default h = own_int t h
written_int t d h = absurd h

own_bytes : (t : TypeTree) → IsBytes (default_of t) → default_of t ≡ Bytes []
own_bytes text h = refl
own_bytes bytes h = refl
own_bytes (scalar flag) h = absurd h
own_bytes (scalar i8) h = absurd h
own_bytes (scalar i16) h = absurd h
own_bytes (scalar i32) h = absurd h
own_bytes (scalar i64) h = absurd h
own_bytes (named (enum_of w ms)) h = absurd h
own_bytes (named (struct_of w fs)) h = absurd h
own_bytes t h = absurd h

pub written_bytes : (t : TypeTree) (d : Default) → IsBytes (written d (default_of t))
    → written d (default_of t) ≡ Bytes (bytes_in d)
written_bytes t (text_default x) h = refl
written_bytes t without h = own_bytes t h
written_bytes t empty_default h = own_bytes t h
written_bytes t d h = absurd h

own_items : (t : TypeTree) → items_of (default_of t) ≡ NoValue
own_items (scalar flag) = refl
own_items (scalar i8) = refl
own_items (scalar i16) = refl
own_items (scalar i32) = refl
own_items (scalar i64) = refl
own_items text = refl
own_items bytes = refl
own_items (list_of x) = refl
own_items (set_of x) = refl
own_items (map_of x y) = refl
own_items (named (enum_of w ms)) = refl
own_items (named (struct_of w fs)) = refl

-- no default has items
pub written_items : (t : TypeTree) (d : Default) → items_of (written d (default_of t)) ≡ NoValue
written_items t (flag_default b) = refl
written_items t (int_default z) = refl
written_items t (text_default x) = refl
written_items t without = own_items t
written_items t empty_default = own_items t
