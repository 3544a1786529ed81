use Rattle.std.proofs.Common.{◌≡◌, refl}
use Rattle.std.specs.Str.{IsUtf8}
use Rattle.idl_profile.specs.declared.kinds.TypeKind.TheVariants as kinds
use Rattle.idl_profile.specs.Types.{TypeTree, scalar, text, bytes, list_of, set_of, map_of, named, enum_of, struct_of, flag, i8, i16, i32, i64, root_of, kind_of}
use Rattle.frozen_model.specs.Trees.{IsStruct}
use Rattle.type_kinds.specs.KindsOf.{kinds_of}
use Rattle.type_kinds.specs.Laws.{Any}
use Rattle.root_kinds.proofs.Proper.{root_is_within, root_is_struct}
use Rattle.root_kinds.proofs.ShortTexts.{root_is_short}
use Rattle.root_kinds.proofs.roots_are_accepted.Goals as goal

struct_kind : (t : TypeTree) → IsStruct (kinds_of t) → kind_of t ≡ kinds.Struct
struct_kind (scalar flag) h = absurd h
struct_kind (scalar i8) h = absurd h
struct_kind (scalar i16) h = absurd h
struct_kind (scalar i32) h = absurd h
struct_kind (scalar i64) h = absurd h
struct_kind text h = absurd h
struct_kind bytes h = absurd h
struct_kind (list_of x) h = absurd h
struct_kind (set_of x) h = absurd h
struct_kind (map_of x y) h = absurd h
struct_kind (named (enum_of w ms)) h = absurd h
struct_kind (named (struct_of w fs)) h = refl

pub returns-clause-within : goal.returns-clause-within
returns-clause-within c w d h = (struct_kind (root_of d) (root_is_struct w d h), root_is_within Any (λ x l. tt) w d h)

pub returns-clause-accepted : goal.returns-clause-accepted
returns-clause-accepted c w d h = (root_is_within IsUtf8 (λ x l. l.1) w d h).accepted

pub returns-clause-short : goal.returns-clause-short
returns-clause-short c w d h small = root_is_short w d h small
