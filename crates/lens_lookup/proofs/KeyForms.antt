-- The forms of keys, and of what has keys.
use Rattle.std.proofs.Common.{◌≡◌, ◌≢◌, ℕ, ◌<◌, Bool, true, false, refl, sym, ap, ◌∙◌, Option, Some, None}
use Rattle.std.proofs.Common.{get_or}
use Rattle.std.proofs.Math.Logic.{∥∥₁_elim}
use Rattle.std.proofs.Math.Bool.{Bool-set}
use Rattle.key_order.specs.contracts.key.KeyOrd.TheImpl.{ghosts}
use Rattle.key_order.specs.declared.key.Key.{Key}
use Rattle.key_order.specs.declared.key.Key.TheVariants as key
use Rattle.key_order.specs.Keys.{value_of}
use Rattle.key_order.proofs.KeyCmp.{key_cmp-is}
use Rattle.key_order.proofs.Order.{value_cmp}
use Rattle.idl_profile.specs.declared.kinds.TypeKind.{TypeKind}
use Rattle.idl_profile.specs.declared.kinds.TypeKind.TheVariants as kinds
use Rattle.idl_profile.specs.Types.{TypeTree, scalar, flag, text, bytes, set_of, map_of, named, enum_of}
use Rattle.idl_profile.specs.Types.{kind_of}
use Rattle.idl_parse.specs.Refs.{element_of, key_of as key_type_of}
use Rattle.frozen_model.specs.Trees.{Tree, Holder, AList, ASet, AMap}
use Rattle.frozen_model.specs.Values as is
use Rattle.frozen_model.specs.Values.{Value, Values, One, Bytes, Items, NoValue, And, count, nth, key_of}
use Rattle.frozen_model.specs.Values.{Rises, Of}
use Rattle.type_kinds.specs.KindsOf.{kinds_of}
use Rattle.type_kinds.specs.Accepted.{IsKeyType}
use Rattle.typed_tree.specs.Parts.{IsFlag, IsInt, IsText, IsBytes, IsSet, IsMap, IsRow, IsItems, items_of}
use Rattle.evolve.specs.declared.lens.Lens.{Lens}
use Rattle.evolve.specs.Lenses.{type_of_lens, value_of_lens, HasForm}
use Rattle.evolve.proofs.Known.{lens_value, lens_form, lens_accepted}
use Rattle.evolve.proofs.Rows.{key_part, key_known}
use Rattle.lens_lookup.specs.declared.keys.KeySort.{KeySort}
use Rattle.lens_lookup.specs.declared.keys.KeySort.TheVariants as sort
use Rattle.lens_lookup.specs.KeySorts.{is_sort_of, is_keyed}
use Rattle.lens_lookup.specs.Sought.{SoughtKey, as_key, value_of_key, keys_in, sought_cmp}
use Rattle.lens_lookup.proofs.Finding.{key_at}

-- ---- keys

pub number_form : (k : TypeKind) (v : Value) → is_sort_of sort.Number k ≡ true → HasForm k v → IsInt v
number_form kinds.I8 v e f = f
number_form kinds.I16 v e f = f
number_form kinds.I32 v e f = f
number_form kinds.I64 v e f = f
number_form kinds.Enum v e f = f
number_form k v e f = absurd cc

pub flag_form : (k : TypeKind) (v : Value) → is_sort_of sort.Flag k ≡ true → HasForm k v → IsFlag v
flag_form kinds.Flag v e f = f
flag_form k v e f = absurd cc

text_bytes : (v : Value) → IsText v → IsBytes v
text_bytes (Bytes bs) h = tt
text_bytes v h = absurd h

pub bytes_form : (k : TypeKind) (v : Value) → is_sort_of sort.Bytes k ≡ true → HasForm k v → IsBytes v
bytes_form kinds.Text v e f = text_bytes v f
bytes_form kinds.Bytes v e f = f
bytes_form k v e f = absurd cc

own_int : (v : Value) → IsInt v → key_of v ≡ v
own_int (One a) h = refl
own_int v h = absurd h

own_flag : (v : Value) → IsFlag v → key_of v ≡ v
own_flag (One a) h = refl
own_flag v h = absurd h

own_bytes : (v : Value) → IsBytes v → key_of v ≡ v
own_bytes (Bytes bs) h = refl
own_bytes v h = absurd h

-- a value of a type of keys is its own key
pub own_key : (s : KeySort) (k : TypeKind) (v : Value) → is_sort_of s k ≡ true → HasForm k v → key_of v ≡ v
own_key sort.Number k v e f = own_int v (number_form k v e f)
own_key sort.Flag k v e f = own_flag v (flag_form k v e f)
own_key sort.Bytes k v e f = own_bytes v (bytes_form k v e f)

-- keys of the type of a lens are read so
pub lens_sort : (s x : KeySort) (l : Lens) (t : TypeTree) → x ≡ s → type_of_lens l ≡ t
    → is_sort_of x (kind_of t) ≡ true → is_sort_of s (kind_of (type_of_lens l)) ≡ true
lens_sort s x l t e f h =
    ap (λ z. is_sort_of z (kind_of (type_of_lens l))) (sym e) ∙ ap (λ z. is_sort_of x (kind_of z)) f ∙ h

-- whether values of the kind may be keys
abbrev pub is_kind_of_keys : TypeKind → Bool
is_kind_of_keys kinds.List = false
is_kind_of_keys kinds.Set = false
is_kind_of_keys kinds.Map = false
is_kind_of_keys kinds.Struct = false
is_kind_of_keys k = true

pub keys_have_kinds : (t : TypeTree) → IsKeyType t → is_kind_of_keys (kind_of t) ≡ true
keys_have_kinds (scalar flag) h = refl
keys_have_kinds (scalar s) h = refl
keys_have_kinds text h = refl
keys_have_kinds bytes h = refl
keys_have_kinds (named (enum_of w ms)) h = refl
keys_have_kinds t h = absurd h

set_key_part : (t : TypeTree) → kind_of t ≡ kinds.Set → IsKeyType (key_part t) → IsKeyType (element_of t)
set_key_part (set_of x) e h = h
set_key_part (scalar flag) e h = absurd cc
set_key_part (named (enum_of w ms)) e h = absurd cc
set_key_part t e h = absurd cc

map_key_part : (t : TypeTree) → kind_of t ≡ kinds.Map → IsKeyType (key_part t) → IsKeyType (key_type_of t)
map_key_part (map_of x y) e h = h
map_key_part (scalar flag) e h = absurd cc
map_key_part (named (enum_of w ms)) e h = absurd cc
map_key_part t e h = absurd cc

pub set_keys : (l : Lens) → kind_of (type_of_lens l) ≡ kinds.Set → IsKeyType (element_of (type_of_lens l))
set_keys l e = set_key_part (type_of_lens l) e (key_known (type_of_lens l) (lens_accepted l))

pub map_keys : (l : Lens) → kind_of (type_of_lens l) ≡ kinds.Map → IsKeyType (key_type_of (type_of_lens l))
map_keys l e = map_key_part (type_of_lens l) e (key_known (type_of_lens l) (lens_accepted l))

-- ---- sets and maps

abbrev pub IsHeld : Bool → Value → Type 0
IsHeld true v = IsMap v
IsHeld false v = IsSet v

abbrev pub holder : Bool → Holder
holder true = AMap
holder false = ASet

pub no_list : (map : Bool) → holder map ≢ AList
no_list true e = absurd cc
no_list false e = absurd cc

keyed_form : (map : Bool) (k : TypeKind) (v : Value) → is_keyed map k ≡ true → HasForm k v → IsHeld map v
keyed_form true kinds.Map v e f = f
keyed_form false kinds.Set v e f = f
keyed_form map k v e f = absurd cc

pub lens_held : (map : Bool) (l : Lens) → is_keyed map (kind_of (type_of_lens l)) ≡ true
    → IsHeld map (value_of_lens l)
lens_held map l e = keyed_form map (kind_of (type_of_lens l)) (value_of_lens l) e (lens_form l)

pub held_row : (v : Value) → IsHeld false v → IsRow v
held_row (Items ASet vs) h = tt
held_row v h = absurd h

pub held_items : (map : Bool) (v : Value) → IsHeld map v → IsItems v
held_items true (Items AMap vs) h = tt
held_items false (Items ASet vs) h = tt
held_items true v h = absurd h
held_items false v h = absurd h

rises_prop : (h : Holder) (k : Option Value) (vs : Values) → IsProp (Rises h k vs)
rises_prop h k NoValue = hlevel
rises_prop h k (And v vs) = hlevel (Bool-set, rises_prop h (Some (key_of v)) vs)

of_rises : {A B : Type 0} {t : Tree A B} {h : Holder} {vs : Values} → Of t (Items h vs) → Rises h None vs
of_rises (is.items n r hs) = r

held_rises : (map : Bool) (t : TypeTree) (v : Value) → ∥ Of (kinds_of t) v ∥₁ → IsHeld map v
    → Rises (holder map) None (items_of v)
held_rises true t (Items AMap vs) o h = ∥∥₁_elim o (rises_prop AMap None vs) (λ p. of_rises p)
held_rises false t (Items ASet vs) o h = ∥∥₁_elim o (rises_prop ASet None vs) (λ p. of_rises p)
held_rises true t v o h = absurd h
held_rises false t v o h = absurd h

pub lens_rises : (map : Bool) (l : Lens) → is_keyed map (kind_of (type_of_lens l)) ≡ true
    → Rises (holder map) None (items_of (value_of_lens l))
lens_rises map l e = held_rises map (type_of_lens l) (value_of_lens l) (lens_value l) (lens_held map l e)

-- ---- comparing

read_key : (k : Key) → value_of_key (as_key (value_of k)) ≡ value_of k
read_key (key.Flag b) = refl
read_key (key.Number z) = refl
read_key (key.Bytes s) = refl

-- how two keys compare is how they stand in the order
pub compared : (a b : Key) (vs : Values) (i : ℕ) (m : SoughtKey) → i < count vs
    → value_of a ≡ key_of (nth vs i)
    → value_of b ≡ value_of_key m → ghosts.cmp a b ≡ sought_cmp (get_or (keys_in vs) i m) m
compared a b vs i m lt first second =
    key_cmp-is a b
    ∙ ap (λ z. value_cmp z (value_of b)) (sym (read_key a) ∙ ap (λ z. value_of_key (as_key z)) first
    ∙ ap value_of_key (sym (key_at vs i m lt)))
    ∙ ap (λ z. value_cmp (value_of_key (get_or (keys_in vs) i m)) z) second
