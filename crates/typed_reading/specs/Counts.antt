-- The cells, the nodes and the bytes of the value of a wire tree, as they are counted over the tree.
use Rattle.std.specs.Prelude.{◌≡◌, ℕ, ◌+◌, max, List, [], ◌∷◌, length, ℤ, Option, Some, None, Result, Ok, cond, nat_eq, find}
use Rattle.frozen_model.specs.Values.{cells}
use Rattle.compact_wire.specs.Node.{Node, binary, list, set, map, structure, Nodes, no_nodes, node}
use Rattle.compact_wire.specs.Node.{Pairs, no_pairs, pair, Fields, no_fields, field}
use Rattle.idl_profile.specs.Types.{TypeTree, DefField, fields_of}
use Rattle.idl_profile.specs.declared.kinds.Need.{Need}
use Rattle.idl_profile.specs.declared.kinds.Need.TheVariants as need
use Rattle.idl_parse.specs.Refs.{element_of, key_of, value_of}
use Rattle.type_kinds.specs.KindsOf.{kinds_of}
use Rattle.typed_tree.specs.Rooms.{room_of}
use Rattle.typed_tree.specs.Sizes.{capped, capped_room, used_by, nodes_of, bytes_of, default_value, cells_of_default}
use Rattle.exact_reading.specs.declared.stop.Stop.{Stop}
use Rattle.typed_reading.specs.declared.counts.Checked.{Checked}
use Rattle.typed_reading.specs.declared.progress.Progress.{Progress}
use Rattle.typed_reading.specs.Codes.{code, code_of_node}
use Rattle.typed_reading.specs.Faults.{has_id, is_among, ids_after}
use Rattle.typed_reading.specs.Meaning.{meaning}

-- so many cells, and room for so many nodes and bytes
abbrev pub count_of : ℕ → ℕ → ℕ → Checked
count_of cells nodes bytes = record { cells = cells; room = room_of nodes bytes }

-- ---- the count of a value

-- the cells of the value of a tree
abbrev pub cells_as : TypeTree → Node → ℕ
cells_as t w = cells (kinds_of t) (meaning w t)

-- what is told of the value of a tree, in numbers of 64 bits
abbrev pub checked_as : TypeTree → Node → Checked
checked_as t w = record { cells = capped (cells_as t w); room = capped_room (used_by (meaning w t)) }

-- ---- sums

abbrev pub nothing : Checked
nothing = count_of 0 0 0

abbrev pub together : Checked → Checked → Checked
together a b = count_of (a.cells + b.cells) (a.room.nodes + b.room.nodes) (a.room.bytes + b.room.bytes)

-- a number and so much more, 2 ^ 64 - 1 where that is more; one that is more stays
abbrev pub raised : ℕ → ℕ → ℕ
raised n more = max n (capped (n + more))

-- a count in numbers of 64 bits, and more
abbrev pub grown : Checked → Checked → Checked
grown a b = count_of (raised a.cells b.cells) (raised a.room.nodes b.room.nodes) (raised a.room.bytes b.room.bytes)

-- ---- what each node adds

-- a flag or number; also what is added to a value that is present
abbrev pub a_scalar : Checked
a_scalar = count_of 1 1 0

abbrev pub some_bytes : ℕ → Checked
some_bytes n = count_of (2 + n) 1 n

-- a list, a set or a map without its items
abbrev pub a_holder : Checked
a_holder = count_of 2 1 0

-- an item, or a pair, beside its parts
abbrev pub an_item : Checked
an_item = count_of 1 0 0

-- a struct without its fields
abbrev pub a_struct : Checked
a_struct = count_of 0 1 0

abbrev pub by_need : Need → Checked
by_need need.Optional = a_scalar
by_need need.Plain = nothing
by_need need.Required = nothing

-- what a field has that does not stand
abbrev pub default_count : DefField → Checked
default_count f = count_of (cells_of_default f) (nodes_of (default_value f)) (bytes_of (default_value f))

-- of the fields that are not among these ids
abbrev pub defaults_beside : List DefField → List ℤ → Checked
defaults_beside [] ids = nothing
defaults_beside (f ∷ fs) ids = together (cond (is_among f.id ids) nothing (default_count f)) (defaults_beside fs ids)

-- the value of a field, where it is known
abbrev pub of_known : Option DefField → (TypeTree → Checked) → Checked
of_known None count_as = nothing
of_known (Some f) count_as = together (by_need f.need) (count_as f.type)

-- a node of another code than its type's adds nothing
abbrev pub where_coded : ℕ → TypeTree → Checked → Checked
where_coded n t count = cond (nat_eq n (code t)) count nothing

-- ---- trees

abbrev mutual
  pub total : Node → TypeTree → Checked
  total (binary b) t = where_coded 8 t (some_bytes (length b))
  total (list c xs) t = where_coded 9 t (together a_holder (totals xs (element_of t)))
  total (set c xs) t = where_coded 10 t (together a_holder (totals xs (element_of t)))
  total (map a b xs) t = where_coded 11 t (together a_holder (totals_of_pairs xs (key_of t) (value_of t)))
  total (structure xs) t =
      where_coded 12 t
      (together (together a_struct (totals_of_fields xs (fields_of t))) (defaults_beside (fields_of t) (ids_after xs [])))
  total w t = where_coded (code_of_node w) t a_scalar

  pub totals : Nodes → TypeTree → Checked
  totals no_nodes t = nothing
  totals (node x xs) t = together (together an_item (total x t)) (totals xs t)

  pub totals_of_pairs : Pairs → TypeTree → TypeTree → Checked
  totals_of_pairs no_pairs k v = nothing
  totals_of_pairs (pair x y xs) k v =
      together (together (together an_item (total x k)) (total y v)) (totals_of_pairs xs k v)

  pub totals_of_fields : Fields → List DefField → Checked
  totals_of_fields no_fields fs = nothing
  totals_of_fields (field id x xs) fs = together (of_known (find (has_id id) fs) (total x)) (totals_of_fields xs fs)

-- ---- what is known behind parts, where so much was counted before

abbrev pub counted : TypeTree → Checked → Node → Checked
counted t s w = grown s (total w t)

abbrev pub counted_items : TypeTree → Checked → Nodes → Checked
counted_items t s xs = grown s (totals xs t)

abbrev pub counted_pairs : TypeTree → TypeTree → Checked → Pairs → Checked
counted_pairs k v s xs = grown s (totals_of_pairs xs k v)

-- behind an item
abbrev pub counted_item : TypeTree → Checked → Node → Checked
counted_item t s x = grown (grown s an_item) (total x t)

-- the count and the ids that stood
abbrev pub Counting : Type 0
Counting = Checked × List ℤ

abbrev pub counted_field : List DefField → Counting → ℤ → Node → Counting
counted_field fs s id x = (grown s.0 (of_known (find (has_id id) fs) (total x)), id ∷ s.1)

abbrev pub counted_fields : List DefField → Counting → Fields → Counting
counted_fields fs s xs = (grown s.0 (totals_of_fields xs fs), ids_after xs s.1)

-- where no fault was found, what is read counts to these sums, with that rest behind it
abbrev pub IsCount : Progress → Checked → List ℕ → Result (Checked × List ℕ) Stop → Type 0
IsCount known sums rest read = known.found ≡ None → read ≡ Ok (sums, rest)

-- a list or a set is made of items
abbrev pub IsHolder : TypeTree → (ℕ → Nodes → Node) → Type 0
IsHolder t make = (c : ℕ) (xs : Nodes) → total (make c xs) t ≡ together a_holder (totals xs (element_of t))
