-- The part of a value at a path.
use Rattle.std.specs.Prelude.{ℕ, zero, suc, List, [], ◌∷◌, Bool, true, false, not, if◌then◌else◌, nat_abs}
use Rattle.std.specs.Prelude.{Option, Some, None, option_map, option_and_then, find}
use Rattle.std.specs.Ordering.{int_eq}
use Rattle.std.specs.Str.{bytes_eq}
use Rattle.idl_profile.specs.Types.{TypeTree, list_of, set_of, map_of, named, struct_of, DefField, field_list}
use Rattle.frozen_model.specs.Values.{Truth, Number, Value, One, Bytes, Items, Absent, Present, Record}
use Rattle.frozen_model.specs.Values.{Values, NoValue, And, key_of}
use Rattle.typed_tree.specs.Parts.{find_field}
use Rattle.path_text.specs.Steps.{PathKey, int_key, flag_key, text_key, bytes_key, PathStep, field_step}
use Rattle.path_text.specs.Steps.{index_step, key_step, PlacedStep}

-- a value, and the type that it is of
pub record Typed : Type 0 where
  pub type : TypeTree
  pub value : Value

abbrev pub typed : TypeTree → Value → Typed
typed t v = record { type = t; value = v }

-- whether a value is this key
abbrev pub is_key : PathKey → Value → Bool
is_key (int_key z) (One (Number x)) = int_eq z x
is_key (flag_key true) (One (Truth b)) = b
is_key (flag_key false) (One (Truth b)) = not b
is_key (text_key s) (Bytes bs) = bytes_eq s bs
is_key (bytes_key s) (Bytes bs) = bytes_eq s bs
is_key key v = false

-- the value at a place, counted from 0, where there is one
abbrev pub item_at : Values → ℕ → Option Value
item_at NoValue i = None
item_at (And v vs) zero = Some v
item_at (And v vs) (suc i) = item_at vs i

-- the first item of a set, or pair of a map, whose key this is
abbrev pub item_with : PathKey → Values → Option Value
item_with key NoValue = None
item_with key (And v vs) = if is_key key (key_of v) then Some v else item_with key vs

-- the second of a pair
abbrev pub second : Value → Option Value
second (Record ids (And k (And v vs))) = Some v
second v = None

-- what a field has: what a present optional has, and of an absent one nothing
abbrev pub held : Value → Option Value
held Absent = None
held (Present v) = Some v
held v = Some v

-- the part of a struct that is a field of this name
abbrev pub part_of_field : Option DefField → List ℕ → Values → Option Typed
part_of_field None ids vs = None
part_of_field (Some f) ids vs =
    option_map (typed f.type) (option_and_then held (find_field ids vs (nat_abs f.id)))

-- the part of a value of a type at a step: a field, an item, or the item or value at a key
abbrev pub step_at : PathStep → TypeTree → Value → Option Typed
step_at (field_step name) (named (struct_of w fs)) (Record ids vs) =
    part_of_field (find (λ f. bytes_eq f.name name) (field_list fs)) ids vs
step_at (index_step i) (list_of x) (Items h vs) = option_map (typed x) (item_at vs i)
step_at (key_step key) (set_of x) (Items h vs) = option_map (typed x) (item_with key vs)
step_at (key_step key) (map_of x y) (Items h vs) =
    option_map (typed y) (option_and_then second (item_with key vs))
step_at s t v = None

-- the part of a value of a type behind steps, or nothing
abbrev pub at : List PlacedStep → TypeTree → Value → Option Value
at [] t v = Some v
at (s ∷ ss) t v = option_and_then (λ p. at ss p.type p.value) (step_at s.step t v)
