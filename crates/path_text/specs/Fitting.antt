-- Where the steps of a path lead in a type, and the first of them that does not fit.
use Rattle.std.specs.Prelude.{ℕ, ℤ, pos, negsuc, ◌^◌, Bool, true, false, nat_lt, if◌then◌else◌, List, [], ◌∷◌, Option, Some, None, Result, Ok, Err, find}
use Rattle.std.specs.Str.{bytes_eq}
use Rattle.idl_profile.specs.declared.kinds.TypeKind.{TypeKind}
use Rattle.idl_profile.specs.declared.kinds.TypeKind.TheVariants as kinds
use Rattle.idl_profile.specs.Types.{TypeTree, list_of, set_of, map_of, named, struct_of, DefField, field_list, kind_of}
use Rattle.path_text.specs.declared.fault.PathFault.{PathFault}
use Rattle.path_text.specs.declared.fault.PathFault.TheVariants.{NoField, NotAStep, BadKey}
use Rattle.path_text.specs.Steps.{PathKey, int_key, flag_key, text_key, bytes_key, PathStep, field_step, index_step, key_step, PlacedStep, WholePath}

-- whether a number is one of so many bits, and a sign
abbrev pub has_bits : ℕ → ℤ → Bool
has_bits n (pos z) = nat_lt z (2 ^ n)
has_bits n (negsuc z) = nat_lt z (2 ^ n)

-- whether a key literal is a key of this kind; an enum has the numbers of i32
abbrev pub is_key_of : TypeKind → PathKey → Bool
is_key_of kinds.Flag (flag_key b) = true
is_key_of kinds.I8 (int_key z) = has_bits 7 z
is_key_of kinds.I16 (int_key z) = has_bits 15 z
is_key_of kinds.I32 (int_key z) = has_bits 31 z
is_key_of kinds.I64 (int_key z) = has_bits 63 z
is_key_of kinds.Enum (int_key z) = has_bits 31 z
is_key_of kinds.Text (text_key s) = true
is_key_of kinds.Bytes (bytes_key bs) = true
is_key_of kind key = false

-- the type of a field that was looked for
abbrev pub field_to : ℕ → Option DefField → Result TypeTree PathFault
field_to at None = Err (NoField at)
field_to at (Some f) = Ok f.type

-- what a container has at a key, where its keys are of this type
abbrev pub key_to : ℕ → PathKey → TypeTree → TypeTree → Result TypeTree PathFault
key_to at key keys to = if is_key_of (kind_of keys) key then Ok to else Err (BadKey at)

-- where a step that begins at this byte leads from a type, or why it does not fit
abbrev pub step_to : ℕ → PathStep → TypeTree → Result TypeTree PathFault
step_to at (field_step name) (named (struct_of n fs)) = field_to at (find (λ f. bytes_eq f.name name) (field_list fs))
step_to at (index_step i) (list_of x) = Ok x
step_to at (key_step key) (set_of x) = key_to at key x x
step_to at (key_step key) (map_of x y) = key_to at key x y
step_to at s t = Err (NotAStep at)

abbrev pub and_then : Result TypeTree PathFault → (TypeTree → Result TypeTree PathFault) → Result TypeTree PathFault
and_then (Ok t) next = next t
and_then (Err e) next = Err e

-- where steps lead from a type, one after the other
abbrev pub steps_to : List PlacedStep → TypeTree → Result TypeTree PathFault
steps_to [] t = Ok t
steps_to (s ∷ ss) t = and_then (step_to s.place s.step t) (λ u. steps_to ss u)

-- the type that a path leads to from a type, or its misfit: the first of its steps that does not fit
abbrev pub fitted : TypeTree → WholePath → Result TypeTree PathFault
fitted t p = steps_to p.steps t

-- whether values of this kind have items: lists, sets and maps
abbrev pub is_container : TypeKind → Bool
is_container kinds.List = true
is_container kinds.Set = true
is_container kinds.Map = true
is_container kind = false

-- the same for a scan: where the type at the path has no items, the misfit is at the path's end
abbrev pub scanned : TypeTree → WholePath → Result TypeTree PathFault
scanned t p = and_then (fitted t p) (λ u. if is_container (kind_of u) then Ok u else Err (NotAStep p.len))
