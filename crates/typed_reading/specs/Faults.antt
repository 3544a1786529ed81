-- What is wrong with a wire tree that is read as a type: its faulty nodes, each with its faults, and the least of them.
-- Nodes are numbered in preorder from 0, those of unknown fields too: the fields of a struct and the items of a list or
-- set as they stand, keys and values by turns.
use Rattle.std.specs.Prelude.{◌≡◌, ℕ, suc, ◌+◌, ◌*◌, ◌≤◌, List, [], ◌∷◌, ◌++◌, Bool, true, false, ◌&&◌, ◌||◌, not}
use Rattle.std.specs.Prelude.{nat_lt, cond, ℤ, Option, Some, None, option_map, find}
use Rattle.std.specs.Ordering.{int_eq}
use Rattle.std.specs.Str.{is_utf8}
use Rattle.std.specs.List.{Contains}
use Rattle.frozen_model.specs.Values.{Value}
use Rattle.compact_wire.specs.Node.{Node, binary, list, set, map, structure, Nodes, no_nodes, node}
use Rattle.compact_wire.specs.Node.{Pairs, no_pairs, pair, Fields, no_fields, field}
use Rattle.wire_scan.specs.Sizes.{size}
use Rattle.idl_profile.specs.Types.{TypeTree, text, DefField, fields_of}
use Rattle.idl_profile.specs.declared.kinds.Need.{Need}
use Rattle.idl_profile.specs.declared.kinds.Need.TheVariants as need
use Rattle.idl_parse.specs.Refs.{element_of, key_of, value_of}
use Rattle.typed_reading.specs.declared.fault.NodeFault.{NodeFault}
use Rattle.typed_reading.specs.declared.fault.NodeFault.TheVariants.{RepeatedField, MissingRequired, WrongType}
use Rattle.typed_reading.specs.declared.fault.NodeFault.TheVariants.{BadText, RepeatedKey}
use Rattle.typed_reading.specs.declared.fault.Found.{Found}
use Rattle.typed_reading.specs.Codes.{meets}
use Rattle.typed_reading.specs.Keys.{same_key, keys_in, keys_in_pairs}

-- ---- fields

abbrev pub has_id : ℤ → DefField → Bool
has_id id f = int_eq f.id id

abbrev pub type_of_field : DefField → TypeTree
type_of_field f = f.type

-- the type of the field with an id; a field is known where there is one
abbrev pub type_in : List DefField → ℤ → Option TypeTree
type_in fs id = option_map type_of_field (find (has_id id) fs)

abbrev pub is_among : ℤ → List ℤ → Bool
is_among id [] = false
is_among id (i ∷ is) = int_eq id i || is_among id is

-- the ids of the fields behind those with these ids, the last first
abbrev pub ids_after : Fields → List ℤ → List ℤ
ids_after no_fields before = before
ids_after (field id x xs) before = ids_after xs (id ∷ before)

abbrev pub is_required : Need → Bool
is_required need.Required = true
is_required need.Plain = false
is_required need.Optional = false

-- ---- the faults that a node has of itself

-- the least id of a required field that is not among these
abbrev pub missing : List DefField → List ℤ → List NodeFault
missing [] ids = []
missing (f ∷ fs) ids = cond (is_required f.need && not (is_among f.id ids)) (MissingRequired f.id ∷ []) (missing fs ids)

-- bytes that are a text's, and are not UTF-8
abbrev pub bad_text : TypeTree → List ℕ → List NodeFault
bad_text text b = cond (is_utf8 b) [] (BadText ∷ [])
bad_text t b = []

-- of a node that meets its type
abbrev pub inner : TypeTree → Node → List NodeFault
inner t (structure xs) = missing (fields_of t) (ids_after xs [])
inner t (binary b) = bad_text t b
inner t _ = []

abbrev pub own : TypeTree → Node → List NodeFault
own t w = cond (meets t w) (inner t w) (WrongType ∷ [])

-- ---- all faults, in no order that matters

abbrev pub here : ℕ → NodeFault → Found
here at k = record { node = at; fault = k }

abbrev pub all_here : ℕ → List NodeFault → List Found
all_here at [] = []
all_here at (k ∷ ks) = here at k ∷ all_here at ks

abbrev pub if_here : Bool → ℕ → NodeFault → List Found
if_here true at k = here at k ∷ []
if_here false at k = []

abbrev pub is_key_among : Value → List Value → Bool
is_key_among k [] = false
is_key_among k (l ∷ ls) = same_key k l || is_key_among k ls

-- the keys that stand at an earlier node too, behind these
abbrev pub repeats : List (ℕ × Value) → List Value → List Found
repeats [] before = []
repeats (k ∷ ks) before = if_here (is_key_among k.1 before) k.0 RepeatedKey ++ repeats ks (k.1 ∷ before)

-- Of a container with these faults below it: where it does not meet its type, nothing below it has a fault.
abbrev pub with_below : TypeTree → Node → ℕ → List Found → List Found
with_below t w at below = cond (meets t w) below [] ++ all_here at (own t w)

-- Of the value of a field of this type, which is again where its id stood before. An unknown field has none, and below a
-- repeated one there are none.
abbrev pub of_field : Option TypeTree → Bool → Node → (TypeTree → List Found) → ℕ → List Found
of_field None again x faults_as at = []
of_field (Some t) true x faults_as at = here at RepeatedField ∷ all_here at (own t x)
of_field (Some t) false x faults_as at = faults_as t

abbrev mutual
  -- of a node with that number, and of those below it
  pub faults : Node → TypeTree → ℕ → List Found
  faults (list c xs) t at = with_below t (list c xs) at (faults_in xs (element_of t) (suc at))
  faults (set c xs) t at =
      with_below t (set c xs) at (faults_in xs (element_of t) (suc at) ++ repeats (keys_in xs (suc at)) [])
  faults (map a b xs) t at =
      with_below t (map a b xs) at
      (faults_in_pairs xs (key_of t) (value_of t) (suc at) ++ repeats (keys_in_pairs xs (suc at)) [])
  faults (structure xs) t at = with_below t (structure xs) at (faults_in_fields xs (fields_of t) [] (suc at))
  faults w t at = all_here at (own t w)

  pub faults_in : Nodes → TypeTree → ℕ → List Found
  faults_in no_nodes t at = []
  faults_in (node x xs) t at = faults x t at ++ faults_in xs t (at + size x)

  pub faults_in_pairs : Pairs → TypeTree → TypeTree → ℕ → List Found
  faults_in_pairs no_pairs k v at = []
  faults_in_pairs (pair x y xs) k v at =
      faults x k at ++ (faults y v (at + size x) ++ faults_in_pairs xs k v (at + size x + size y))

  -- of the fields behind those with these ids
  pub faults_in_fields : Fields → List DefField → List ℤ → ℕ → List Found
  faults_in_fields no_fields fs before at = []
  faults_in_fields (field id x xs) fs before at =
      of_field (type_in fs id) (is_among id before) x (λ t. faults x t at) at
      ++ faults_in_fields xs fs (id ∷ before) (at + size x)

-- node n of the tree has the fault
abbrev pub Faulty : TypeTree → Node → ℕ → NodeFault → Type 0
Faulty t w n k = Contains (faults w t 0) (here n k)

-- ---- the least of them

abbrev pub number : NodeFault → ℕ
number RepeatedField = 1
number (MissingRequired id) = 2
number WrongType = 3
number BadText = 4
number RepeatedKey = 5

-- the order of faults: by node, and at one node by number
abbrev pub rank : Found → ℕ
rank f = 8 * f.node + number f.fault

abbrev pub is_less : Found → Found → Bool
is_less f g = nat_lt (rank f) (rank g)

abbrev pub lesser : Option Found → Option Found → Option Found
lesser None g = g
lesser (Some f) None = Some f
lesser (Some f) (Some g) = cond (is_less g f) (Some g) (Some f)

abbrev pub least : List Found → Option Found
least [] = None
least (f ∷ fs) = lesser (Some f) (least fs)

-- the least of the faults
pub record IsLeast (fs : List Found) (f : Found) : Type 0 where
  pub among : Contains fs f
  pub lowest : (g : Found) → Contains fs g → rank f ≤ rank g

-- `least` is the least of the faults, and is none where there are none
pub record LeastIsLeast (fs : List Found) : Type 0 where
  pub some : (f : Found) → least fs ≡ Some f → IsLeast fs f
  pub none : least fs ≡ None → fs ≡ []
