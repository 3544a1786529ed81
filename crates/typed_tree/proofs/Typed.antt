-- Types as finite trees: their fields are smaller, and sums over them go field by field.
use Rattle.std.proofs.Common.{◌≡◌, ℕ, zero, suc, ◌+◌, ◌<◌, ◌≤◌, List, [], length, take, get_or, Some, refl, sym, ap, ◌∙◌, arith}
use Rattle.std.specs.List.{sum_by, slice_get}
use Rattle.std.specs.Prelude.{ℤ}
use Rattle.std.proofs.lemmas.List.{take_more}
use Rattle.std.proofs.lemmas.List.Sums.{sum_by-cons, sum_by_push}
use Rattle.idl_profile.specs.declared.kinds.Need.{Need}
use Rattle.idl_profile.specs.Types.{Default}
use Rattle.std.proofs.lemmas.Option.{slice_get_within, get_or_from_slice_get}
use Rattle.idl_profile.specs.declared.kinds.Need.TheVariants.{Plain, Required, Optional}
use Rattle.idl_profile.specs.declared.kinds.TypeKind.TheVariants as kinds
use Rattle.idl_profile.specs.Types.{TypeTree, scalar, text, bytes, list_of, set_of, map_of, named, Named, enum_of, struct_of, Fields, no_fields, field, DefField, field_list, fields_of, kind_of, flag, i8, i16, i32, i64}
use Rattle.frozen_model.specs.Values.{inline_cells, inline_cells_all, cells, cells_all}
use Rattle.type_kinds.specs.KindsOf.{kinds_of, kinds_of_fields}
use Rattle.type_kinds.specs.Defaults.{default_of, defaults_of, by_need, written}
use Rattle.typed_tree.specs.declared.room.Room.{Room}
use Rattle.typed_tree.specs.Rooms.{room_of}
use Rattle.typed_tree.specs.Sizes.{capped, capped_room, field_kinds, used_by, nodes_of, nodes_of_all, bytes_of, bytes_of_all, default_value, cells_of_default}

-- a measure that falls from a struct to its fields and from a container to its parts
abbrev mutual
  pub size : TypeTree → ℕ
  size (scalar s) = 1
  size text = 1
  size bytes = 1
  size (list_of x) = suc (size x)
  size (set_of x) = suc (size x)
  size (map_of x y) = suc (size x + size y)
  size (named n) = size_named n

  pub size_named : Named → ℕ
  size_named (enum_of w ms) = 1
  size_named (struct_of w fs) = suc (size_fields fs)

  pub size_fields : Fields → ℕ
  size_fields no_fields = 0
  size_fields (field i w n t d fs) = size t + size_fields fs

field-within : (fs : Fields) (i : ℕ) (d : DefField) → i < length (field_list fs) → size (get_or (field_list fs) i d).type ≤ size_fields fs
field-within no_fields i d lt = absurd (omega (arith, lt))
field-within (field j w n t e fs) zero d lt = omega arith
field-within (field j w n t e fs) (suc i) d lt = let rest = field-within fs i d (omega (arith, lt)) in omega (arith, rest)

-- a field is smaller than its struct
pub field-smaller : (t : TypeTree) (i : ℕ) (f : DefField) → slice_get (fields_of t) i ≡ Some f → size f.type < size t
field-smaller (named (struct_of w fs)) i f e =
    let lt = slice_get_within (field_list fs) i f e in
    let within = field-within fs i f lt in
    let is = ap (λ (g : DefField). size g.type) (get_or_from_slice_get (field_list fs) i f f e) in
    omega (arith, within, is)
field-smaller (named (enum_of w ms)) i f e = absurd (omega (arith, slice_get_within [] i f e))
field-smaller (scalar s) i f e = absurd (omega (arith, slice_get_within [] i f e))
field-smaller text i f e = absurd (omega (arith, slice_get_within [] i f e))
field-smaller bytes i f e = absurd (omega (arith, slice_get_within [] i f e))
field-smaller (list_of x) i f e = absurd (omega (arith, slice_get_within [] i f e))
field-smaller (set_of x) i f e = absurd (omega (arith, slice_get_within [] i f e))
field-smaller (map_of x y) i f e = absurd (omega (arith, slice_get_within [] i f e))

-- ---- sums over fields

abbrev pub inline_of : DefField → ℕ
inline_of f = inline_cells (field_kinds f.need f.type)

abbrev as_field : ℤ → List ℕ → Need → TypeTree → Default → DefField
as_field i w n t d = record { id = i; name = w; need = n; type = t; default = d }

inline-sum : (fs : Fields) → inline_cells_all (kinds_of_fields fs) ≡ sum_by inline_of (field_list fs)
inline-sum no_fields = refl
inline-sum (field i w Optional t d fs) = ap (λ n. 1 + inline_cells (kinds_of t) + n) (inline-sum fs) ∙ sym (sum_by-cons inline_of (as_field i w Optional t d) (field_list fs))
inline-sum (field i w Plain t d fs) = ap (λ n. inline_cells (kinds_of t) + n) (inline-sum fs) ∙ sym (sum_by-cons inline_of (as_field i w Plain t d) (field_list fs))
inline-sum (field i w Required t d fs) = ap (λ n. inline_cells (kinds_of t) + n) (inline-sum fs) ∙ sym (sum_by-cons inline_of (as_field i w Required t d) (field_list fs))

pub inline-struct : (t : TypeTree) → kind_of t ≡ kinds.Struct → inline_cells (kinds_of t) ≡ sum_by inline_of (fields_of t)
inline-struct (named (struct_of w fs)) e = inline-sum fs
inline-struct (named (enum_of w ms)) e = absurd (cc)
inline-struct (scalar flag) e = absurd (cc)
inline-struct (scalar i8) e = absurd (cc)
inline-struct (scalar i16) e = absurd (cc)
inline-struct (scalar i32) e = absurd (cc)
inline-struct (scalar i64) e = absurd (cc)
inline-struct text e = absurd (cc)
inline-struct bytes e = absurd (cc)
inline-struct (list_of x) e = absurd (cc)
inline-struct (set_of x) e = absurd (cc)
inline-struct (map_of x y) e = absurd (cc)

pub sum-push : {X : Type 0} (f : X → ℕ) (xs : List X) (i : ℕ) (d : X) → i < length xs → sum_by f (take (i + 1) xs) ≡ sum_by f (take i xs) + f (get_or xs i d)
sum-push f xs i d lt = ap (sum_by f) (take_more xs i d lt) ∙ sum_by_push f (take i xs) (get_or xs i d)

-- one more number in a sum that is capped
pub capped-more : (total next a b : ℕ) → total ≡ capped a → next ≡ capped b → capped (total + next) ≡ capped (a + b)
capped-more total next a b e f = omega (arith, e, f)

pub inline-more : (t : TypeTree) (i total next sum : ℕ) (f : DefField) → slice_get (fields_of t) i ≡ Some f → total ≡ capped (sum_by inline_of (take i (fields_of t))) → next ≡ capped (inline_of f) → sum ≡ capped (total + next)
    → sum ≡ capped (sum_by inline_of (take (i + 1) (fields_of t)))
inline-more t i total next sum f at so_far one is =
    let push = sum-push inline_of (fields_of t) i f (slice_get_within (fields_of t) i f at) ∙ ap (λ (g : DefField). sum_by inline_of (take i (fields_of t)) + inline_of g) (get_or_from_slice_get (fields_of t) i f f at) in
    is ∙ capped-more total next _ (inline_of f) so_far one ∙ ap capped (sym push)

-- ---- the room of defaults

abbrev pub used_of : DefField → Room
used_of f = used_by (default_value f)

abbrev pub nodes_used : DefField → ℕ
nodes_used f = nodes_of (default_value f)

abbrev pub bytes_used : DefField → ℕ
bytes_used f = bytes_of (default_value f)

nodes-sum : (fs : Fields) → nodes_of_all (defaults_of fs) ≡ sum_by nodes_used (field_list fs)
nodes-sum no_fields = refl
nodes-sum (field i w n t d fs) = ap (λ m. nodes_of (by_need n d (default_of t)) + m) (nodes-sum fs) ∙ sym (sum_by-cons nodes_used (as_field i w n t d) (field_list fs))

bytes-sum : (fs : Fields) → bytes_of_all (defaults_of fs) ≡ sum_by bytes_used (field_list fs)
bytes-sum no_fields = refl
bytes-sum (field i w n t d fs) = ap (λ m. bytes_of (by_need n d (default_of t)) + m) (bytes-sum fs) ∙ sym (sum_by-cons bytes_used (as_field i w n t d) (field_list fs))

-- one node, and those of the first so many fields
abbrev pub used_before : TypeTree → ℕ → Room
used_before t i = room_of (1 + sum_by nodes_used (take i (fields_of t))) (sum_by bytes_used (take i (fields_of t)))

pub used-struct : (t : TypeTree) → kind_of t ≡ kinds.Struct → used_by (default_of t) ≡ room_of (1 + sum_by nodes_used (fields_of t)) (sum_by bytes_used (fields_of t))
used-struct (named (struct_of w fs)) e = ap (λ n. room_of (1 + n) (bytes_of_all (defaults_of fs))) (nodes-sum fs) ∙ ap (room_of (1 + sum_by nodes_used (field_list fs))) (bytes-sum fs)
used-struct (named (enum_of w ms)) e = absurd (cc)
used-struct (scalar flag) e = absurd (cc)
used-struct (scalar i8) e = absurd (cc)
used-struct (scalar i16) e = absurd (cc)
used-struct (scalar i32) e = absurd (cc)
used-struct (scalar i64) e = absurd (cc)
used-struct text e = absurd (cc)
used-struct bytes e = absurd (cc)
used-struct (list_of x) e = absurd (cc)
used-struct (set_of x) e = absurd (cc)
used-struct (map_of x y) e = absurd (cc)

pub used-more : (t : TypeTree) (i : ℕ) (room next sum : Room) (f : DefField) → slice_get (fields_of t) i ≡ Some f → room ≡ capped_room (used_before t i) → next ≡ capped_room (used_of f) → sum ≡ capped_room (room_of (room.nodes + next.nodes) (room.bytes + next.bytes))
    → sum ≡ capped_room (used_before t (i + 1))
used-more t i room next sum f at so_far one is =
    let fs = fields_of t in
    let lt = slice_get_within fs i f at in
    let here = get_or_from_slice_get fs i f f at in
    let nodes = sum-push nodes_used fs i f lt ∙ ap (λ (g : DefField). sum_by nodes_used (take i fs) + nodes_used g) here in
    let bytes = sum-push bytes_used fs i f lt ∙ ap (λ (g : DefField). sum_by bytes_used (take i fs) + bytes_used g) here in
    let n : capped (room.nodes + next.nodes) ≡ capped (1 + sum_by nodes_used (take (i + 1) fs)) = omega (arith, nodes, ap (λ (r : Room). r.nodes) so_far, ap (λ (r : Room). r.nodes) one) in
    let b : capped (room.bytes + next.bytes) ≡ capped (sum_by bytes_used (take (i + 1) fs)) = omega (arith, bytes, ap (λ (r : Room). r.bytes) so_far, ap (λ (r : Room). r.bytes) one) in
    is ∙ ap (λ m. room_of m (capped (room.bytes + next.bytes))) n ∙ ap (room_of (capped (1 + sum_by nodes_used (take (i + 1) fs)))) b

-- ---- the cells of defaults

cells-sum : (fs : Fields) → cells_all (kinds_of_fields fs) (defaults_of fs) ≡ sum_by cells_of_default (field_list fs)
cells-sum no_fields = refl
cells-sum (field i w Optional t d fs) = ap (λ m. 1 + inline_cells (kinds_of t) + m) (cells-sum fs) ∙ sym (sum_by-cons cells_of_default (as_field i w Optional t d) (field_list fs))
cells-sum (field i w Plain t d fs) = ap (λ m. cells (kinds_of t) (written d (default_of t)) + m) (cells-sum fs) ∙ sym (sum_by-cons cells_of_default (as_field i w Plain t d) (field_list fs))
cells-sum (field i w Required t d fs) = ap (λ m. cells (kinds_of t) (written d (default_of t)) + m) (cells-sum fs) ∙ sym (sum_by-cons cells_of_default (as_field i w Required t d) (field_list fs))

pub cells-struct : (t : TypeTree) → kind_of t ≡ kinds.Struct → cells (kinds_of t) (default_of t) ≡ sum_by cells_of_default (fields_of t)
cells-struct (named (struct_of w fs)) e = cells-sum fs
cells-struct (named (enum_of w ms)) e = absurd (cc)
cells-struct (scalar flag) e = absurd (cc)
cells-struct (scalar i8) e = absurd (cc)
cells-struct (scalar i16) e = absurd (cc)
cells-struct (scalar i32) e = absurd (cc)
cells-struct (scalar i64) e = absurd (cc)
cells-struct text e = absurd (cc)
cells-struct bytes e = absurd (cc)
cells-struct (list_of x) e = absurd (cc)
cells-struct (set_of x) e = absurd (cc)
cells-struct (map_of x y) e = absurd (cc)

pub cells-more : (t : TypeTree) (i total next sum : ℕ) (f : DefField) → slice_get (fields_of t) i ≡ Some f → total ≡ capped (sum_by cells_of_default (take i (fields_of t))) → next ≡ capped (cells_of_default f) → sum ≡ capped (total + next)
    → sum ≡ capped (sum_by cells_of_default (take (i + 1) (fields_of t)))
cells-more t i total next sum f at so_far one is =
    let push = sum-push cells_of_default (fields_of t) i f (slice_get_within (fields_of t) i f at) ∙ ap (λ (g : DefField). sum_by cells_of_default (take i (fields_of t)) + cells_of_default g) (get_or_from_slice_get (fields_of t) i f f at) in
    is ∙ capped-more total next _ (cells_of_default f) so_far one ∙ ap capped (sym push)
