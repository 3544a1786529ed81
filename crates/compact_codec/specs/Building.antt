-- What is read where no node has a fault, and the trees that stand on a builder's stack for it.
use Rattle.std.specs.Prelude.{◌≡◌, ◌⊎◌, ◌≤◌, ◌<◌, ◌+◌, ℕ, ℤ, pos, negsuc, List, [], ◌∷◌, ◌++◌, map}
use Rattle.std.specs.Prelude.{slice_get, slice_set, slice_index_or, Bool, true, false, cond}
use Rattle.std.specs.Prelude.{Option, Some, None, Result, Ok, Err}
use Rattle.std.specs.Ordering.{int_eq}
use Rattle.exact_reading.specs.declared.stop.Stop.{Stop}
use Rattle.frozen_model.specs.Values.{Value, Absent}
use Rattle.compact_wire.specs.Node.{Node, Nodes, Pairs, no_pairs, pair}
use Rattle.idl_profile.specs.Types.{TypeTree, DefField, fields_of}
use Rattle.idl_parse.specs.declared.definition.FieldRefs.{FieldRefs}
use Rattle.idl_parse.specs.declared.definition.TypeRef.{TypeRef}
use Rattle.idl_parse.specs.Refs.{type_of_ref, fields_of_refs}
use Rattle.type_kinds.specs.Accepted.{IsAccepted}
use Rattle.type_kinds.specs.Laws.{Any}
use Rattle.idl_profile.specs.declared.kinds.Need.{Need}
use Rattle.idl_profile.specs.declared.kinds.Need.TheVariants.{Plain}
use Rattle.typed_reading.specs.Faults.{faults, faults_in, faults_in_pairs, of_field}
use Rattle.typed_reading.specs.Faults.{type_in, has_id, is_among}
use Rattle.std.specs.List.{AllByRecursion}
use Rattle.typed_reading.specs.Marks.{Marked}
use Rattle.typed_reading.specs.Meaning.{meaning, meanings, given}

-- ---- what is read has no fault

abbrev pub IsClean : TypeTree → Result (Node × List ℕ) Stop → Type 0
IsClean t (Ok p) = (at : ℕ) × (faults p.0 t at ≡ [])
IsClean t (Err e) = ⊥

abbrev pub AreClean : TypeTree → Result (Nodes × List ℕ) Stop → Type 0
AreClean t (Ok p) = (at : ℕ) × (faults_in p.0 t at ≡ [])
AreClean t (Err e) = ⊥

abbrev pub ArePairsClean : TypeTree → TypeTree → Result (Pairs × List ℕ) Stop → Type 0
ArePairsClean k v (Ok p) = (at : ℕ) × (faults_in_pairs p.0 k v at ≡ [])
ArePairsClean k v (Err e) = ⊥

-- the value of a field with an id, where these are the fields of the type: no fault at it or below it
abbrev pub IsFieldClean : List DefField → ℤ → Result (Node × List ℕ) Stop → Type 0
IsFieldClean fs id (Ok p) =
    (at : ℕ) × (again : Bool) × (of_field (type_in fs id) again p.0 (λ t. faults p.0 t at) at ≡ [])
IsFieldClean fs id (Err e) = ⊥

-- ---- trees, and behind them what is read

abbrev pub with_value : TypeTree → List Value → Node → List Value
with_value t vs w = vs ++ meaning w t ∷ []

abbrev pub with_values : TypeTree → List Value → Nodes → List Value
with_values t vs xs = vs ++ meanings xs t

-- keys and values by turns
abbrev pub by_turns : Pairs → TypeTree → TypeTree → List Value
by_turns no_pairs k v = []
by_turns (pair x y xs) k v = meaning x k ∷ meaning y v ∷ by_turns xs k v

abbrev pub with_pairs : TypeTree → TypeTree → List Value → Pairs → List Value
with_pairs k v vs xs = vs ++ by_turns xs k v

-- ---- the fields of a struct

-- the need of the field with an id
abbrev pub need_in : List DefField → ℤ → Need
need_in [] id = Plain
need_in (f ∷ fs) id = cond (has_id id f) f.need (need_in fs id)

-- the tree of a field that stood with this id and value
abbrev pub standing : List DefField → (ℤ × Value) → Value
standing fs r = given (need_in fs r.0) (Some r.1) Absent

abbrev pub ids_of : List (ℤ × Value) → List ℤ
ids_of rs = map (λ r. r.0) rs

-- the fields whose ids are not among these
abbrev pub without : List ℤ → List DefField → List DefField
without ids [] = []
without ids (f ∷ fs) = cond (is_among f.id ids) (without ids fs) (f ∷ without ids fs)

-- no id stands among those before it
abbrev pub AreFresh : List ℤ → List ℤ → Type 0
AreFresh before [] = Unit {0}
AreFresh before (id ∷ ids) = (is_among id before ≡ false) × AreFresh (id ∷ before) ids

-- each is the id of one of the fields
abbrev pub IsKnown : List DefField → ℤ → Type 0
IsKnown [] id = ⊥
IsKnown (f ∷ fs) id = (int_eq f.id id ≡ true) ⊎ IsKnown fs id

abbrev pub IsFromOne : ℤ → Type 0
IsFromOne (pos n) = n ≤ 32767
IsFromOne (negsuc n) = ⊥

-- The trees behind those in front are of fields that stood, in that order, and these are their ids. A field
-- is marked where it stood.
pub record Holds (fs : List DefField) (front : List Value) (rs : List (ℤ × Value)) (vs : List Value)
    (ids : List ℤ) (marks : List Bool) : Type 0 where
  pub trees : vs ≡ front ++ map (standing fs) rs
  pub ids_are : ids ≡ ids_of rs
  pub marked : Marked fs marks (ids_of rs)
  pub known : AllByRecursion (IsKnown fs) (ids_of rs)
  pub fresh : AreFresh [] (ids_of rs)

abbrev pub AreHeld : List DefField → List Value → List ℤ → List Bool → Type 0
AreHeld fs vs ids marks = (front : List Value) × (rs : List (ℤ × Value)) × Holds fs front rs vs ids marks

-- What reading on over a field, which is at this place if it is known, puts: its tree, its id, and its mark
-- above a base.
abbrev pub IsPut : List DefField → Option ℕ → ℤ → ℕ → Node → List Value → List Value → List ℤ → List ℤ
    → List Bool → List Bool → Type 0
IsPut fs None id base w vs us is js ms ns = (us ≡ vs) × (js ≡ is) × (ns ≡ ms)
IsPut fs (Some i) id base w vs us is js ms ns =
    (f : DefField) × (slice_get fs i ≡ Some f)
    × (us ≡ vs ++ given f.need (Some (meaning w f.type)) Absent ∷ []) × (js ≡ is ++ id ∷ [])
    × (ns ≡ slice_set ms (base + i) true)

-- these are the fields of an accepted type
pub record AreOfAccepted (fields : FieldRefs) : Type 0 where
  pub ty : TypeRef
  pub are : fields_of_refs fields ≡ fields_of (type_of_ref ty)
  pub accepted : IsAccepted Any (type_of_ref ty)

-- so many leading marks are set
abbrev pub AreSet : ℕ → List Bool → Type 0
AreSet n marks = (i : ℕ) → i < n → slice_index_or marks i false ≡ true

-- the number of leading fields that stood is the same, or one more where the field stands behind them
abbrev pub IsBehind : Option ℕ → ℕ → ℕ → Type 0
IsBehind place n m = (m ≡ n) ⊎ ((place ≡ Some n) × (m ≡ n + 1))
