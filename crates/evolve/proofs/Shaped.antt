-- Of which form a value of a type is, told through a truncation.
use Rattle.std.proofs.Common.{◌≡◌, ℕ, ◌≤◌, Bool, true, false, if◌then◌else◌, refl, subst, sym, arith}
use Rattle.std.proofs.Math.Logic.{∥∥₁_elim}
use Rattle.std.proofs.Math.Bridge.{le_prop}
use Rattle.std.specs.Str.{is_utf8}
use Rattle.std.proofs.lemmas.Str.{IsUtf8-from_is_utf8, is_utf8-from_IsUtf8}
use Rattle.idl_profile.specs.declared.kinds.TypeKind.{TypeKind}
use Rattle.idl_profile.specs.declared.kinds.TypeKind.TheVariants as k
use Rattle.idl_profile.specs.Types.{TypeTree, scalar, text, bytes, list_of, set_of, map_of, named, enum_of}
use Rattle.idl_profile.specs.Types.{struct_of, flag, i8, i16, i32, i64, kind_of}
use Rattle.frozen_model.specs.Trees.{AList, ASet, AMap}
use Rattle.frozen_model.specs.Values as is
use Rattle.frozen_model.specs.Values.{Truth, Number, Value, One, Bytes, Items, Record, Of, one, items}
use Rattle.frozen_model.specs.Values.{record_of}
use Rattle.type_kinds.specs.KindsOf.{kinds_of}
use Rattle.evolve.specs.Lenses.{HasForm}

-- 1 where a value of a type of this kind is of its form, else 0
abbrev pub form_n : TypeKind → Value → ℕ
form_n k.Flag (One (Truth b)) = 1
form_n k.I8 (One (Number z)) = 1
form_n k.I16 (One (Number z)) = 1
form_n k.I32 (One (Number z)) = 1
form_n k.I64 (One (Number z)) = 1
form_n k.Enum (One (Number z)) = 1
form_n k.Text (Bytes bs) = if is_utf8 bs then 1 else 0
form_n k.Bytes (Bytes bs) = 1
form_n k.List (Items AList vs) = 1
form_n k.Set (Items ASet vs) = 1
form_n k.Map (Items AMap vs) = 1
form_n k.Struct (Record ids vs) = 1
form_n kind v = 0

utf8_if : (b : Bool) → 1 ≤ (if b then 1 else 0) → b ≡ true
utf8_if true h = refl
utf8_if false h = absurd (omega arith)

has_form : (kind : TypeKind) (v : Value) → 1 ≤ form_n kind v → HasForm kind v
has_form k.Flag (One (Truth b)) h = tt
has_form k.I8 (One (Number z)) h = tt
has_form k.I16 (One (Number z)) h = tt
has_form k.I32 (One (Number z)) h = tt
has_form k.I64 (One (Number z)) h = tt
has_form k.Enum (One (Number z)) h = tt
has_form k.Text (Bytes bs) h = IsUtf8-from_is_utf8 bs (utf8_if (is_utf8 bs) h)
has_form k.Bytes (Bytes bs) h = tt
has_form k.List (Items AList vs) h = tt
has_form k.Set (Items ASet vs) h = tt
has_form k.Map (Items AMap vs) h = tt
has_form k.Struct (Record ids vs) h = tt
has_form kind v h = absurd (omega (arith, h))

of_form : (t : TypeTree) {v : Value} → Of (kinds_of t) v → 1 ≤ form_n (kind_of t) v
of_form (scalar flag) (one {x = Truth b} o) = omega arith
of_form (scalar flag) (one {x = Number z} o) = absurd o
of_form (scalar i8) (one {x = Number z} o) = omega arith
of_form (scalar i8) (one {x = Truth b} o) = absurd o
of_form (scalar i16) (one {x = Number z} o) = omega arith
of_form (scalar i16) (one {x = Truth b} o) = absurd o
of_form (scalar i32) (one {x = Number z} o) = omega arith
of_form (scalar i32) (one {x = Truth b} o) = absurd o
of_form (scalar i64) (one {x = Number z} o) = omega arith
of_form (scalar i64) (one {x = Truth b} o) = absurd o
of_form text (is.bytes {bs = bs} a b w) =
    subst (λ x. 1 ≤ (if x then 1 else 0)) (sym (is_utf8-from_IsUtf8 bs w)) (omega arith)
of_form bytes (is.bytes a b w) = omega arith
of_form (list_of x) (items n r hs) = omega arith
of_form (set_of x) (items n r hs) = omega arith
of_form (map_of x y) (items n r hs) = omega arith
of_form (named (enum_of w ms)) (one {x = Number z} o) = omega arith
of_form (named (enum_of w ms)) (one {x = Truth b} o) = absurd o
of_form (named (struct_of w fs)) (record_of e hs) = omega arith

-- a value of a type is of the form of its kind
pub formed : (t : TypeTree) (v : Value) → ∥ Of (kinds_of t) v ∥₁ → HasForm (kind_of t) v
formed t v h = has_form (kind_of t) v (∥∥₁_elim h le_prop (λ o. of_form t o))
