-- Items of lists and sets and pairs of maps, projected one by one.
use Rattle.std.proofs.Common.{◌≡◌, ℕ, zero, suc, ◌<◌, ◌≤◌, Bool, List, refl, ap, sym, ◌∙◌, arith, ◌⊎◌, inl}
use Rattle.std.proofs.Common.{inr}
use Rattle.std.specs.Str.{IsUtf8}
use Rattle.std.proofs.Math.Logic.{∥∥₁_elim}
use Rattle.std.proofs.Math.Bridge.{le_prop}
use Rattle.idl_profile.specs.declared.kinds.TypeKind.TheVariants as k
use Rattle.idl_profile.specs.Types.{TypeTree, scalar, text, bytes, list_of, set_of, map_of, named, enum_of}
use Rattle.idl_profile.specs.Types.{struct_of, flag, i8, i16, i32, i64, kind_of}
use Rattle.idl_parse.specs.Refs.{element_of, key_of, value_of}
use Rattle.frozen_model.specs.Trees.{AList, ASet, AMap, ItemRange, Struct, NoField, Field}
use Rattle.frozen_model.specs.Values.{Value, Values, Items, Record, NoValue, And, count, nth}
use Rattle.frozen_model.specs.Layouts.{Layout}
use Rattle.type_kinds.specs.Accepted.{IsAccepted, IsKeyType, HasShortTexts}
use Rattle.layout_tree.specs.Reading.{item_of}
use Rattle.typed_tree.specs.Parts.{IsRow, IsMap, IsItems, items_of, fields_of}
use Rattle.typed_tree.specs.Spots.{pair}
use Rattle.bit_view.specs.Branches.{fields_in, layout_nth}
use Rattle.evolve.specs.Binding.{BindsPair, Binds}
use Rattle.evolve.specs.Projection.{each, with_second, proj}
use Rattle.evolve.specs.Lenses.{HasForm}
use Rattle.evolve.proofs.Projected.{count_each, key_stays}
use Rattle.evolve.proofs.Tags.{flag_tag, int_tag, bytes_tag, text_tag, items_tag, row_tag, map_tag}
use Rattle.evolve.proofs.Tags.{record_tag, tag_items, proj_tag, proj_items, items_proj}

-- ---- types of rows and maps

-- a list or a set
abbrev pub IsRowType : TypeTree → Type 0
IsRowType (list_of x) = Unit {0}
IsRowType (set_of x) = Unit {0}
IsRowType t = ⊥

abbrev pub IsMapType : TypeTree → Type 0
IsMapType (map_of x y) = Unit {0}
IsMapType t = ⊥

not_both : (v : Value) → IsMap v → IsRow v → ⊥
not_both (Items AList vs) m r = m
not_both (Items ASet vs) m r = m
not_both (Items AMap vs) m r = r
not_both v m r = m

pub row_type : (t : TypeTree) (v : Value) → HasForm (kind_of t) v → IsRow v → IsRowType t
row_type (list_of x) v f r = tt
row_type (set_of x) v f r = tt
row_type (map_of x y) v f r = absurd (not_both v f r)
row_type (scalar flag) v f r = absurd (omega (arith, flag_tag v f, row_tag v r))
row_type (scalar i8) v f r = absurd (omega (arith, int_tag v f, row_tag v r))
row_type (scalar i16) v f r = absurd (omega (arith, int_tag v f, row_tag v r))
row_type (scalar i32) v f r = absurd (omega (arith, int_tag v f, row_tag v r))
row_type (scalar i64) v f r = absurd (omega (arith, int_tag v f, row_tag v r))
row_type text v f r = absurd (omega (arith, text_tag v f, row_tag v r))
row_type bytes v f r = absurd (omega (arith, bytes_tag v f, row_tag v r))
row_type (named (enum_of w ms)) v f r = absurd (omega (arith, int_tag v f, row_tag v r))
row_type (named (struct_of w fs)) v f r = absurd (omega (arith, record_tag v f, row_tag v r))

no_list : (v : Value) → HasForm k.List v → IsMap v → ⊥
no_list (Items AMap vs) f m = f
no_list v f m = absurd m

no_set : (v : Value) → HasForm k.Set v → IsMap v → ⊥
no_set (Items AMap vs) f m = f
no_set v f m = absurd m

pub map_type : (t : TypeTree) (v : Value) → HasForm (kind_of t) v → IsMap v → IsMapType t
map_type (map_of x y) v f m = tt
map_type (list_of x) v f m = absurd (no_list v f m)
map_type (set_of x) v f m = absurd (no_set v f m)
map_type (scalar flag) v f m = absurd (omega (arith, flag_tag v f, map_tag v m))
map_type (scalar i8) v f m = absurd (omega (arith, int_tag v f, map_tag v m))
map_type (scalar i16) v f m = absurd (omega (arith, int_tag v f, map_tag v m))
map_type (scalar i32) v f m = absurd (omega (arith, int_tag v f, map_tag v m))
map_type (scalar i64) v f m = absurd (omega (arith, int_tag v f, map_tag v m))
map_type text v f m = absurd (omega (arith, text_tag v f, map_tag v m))
map_type bytes v f m = absurd (omega (arith, bytes_tag v f, map_tag v m))
map_type (named (enum_of w ms)) v f m = absurd (omega (arith, int_tag v f, map_tag v m))
map_type (named (struct_of w fs)) v f m = absurd (omega (arith, record_tag v f, map_tag v m))

pub row_kind : (t : TypeTree) → IsRowType t → (kind_of t ≡ k.List) ⊎ (kind_of t ≡ k.Set)
row_kind (list_of x) h = inl refl
row_kind (set_of x) h = inr refl
row_kind t h = absurd h

pub map_kind : (t : TypeTree) → IsMapType t → kind_of t ≡ k.Map
map_kind (map_of x y) h = refl
map_kind t h = absurd h

-- ---- keys

-- the type of a set's items or of a map's keys; of other types none
abbrev pub key_part : TypeTree → TypeTree
key_part (set_of x) = x
key_part (map_of x y) = x
key_part t = text

-- 1 where it is a type of keys, else 0
abbrev key_n : TypeTree → ℕ
key_n (scalar s) = 1
key_n text = 1
key_n bytes = 1
key_n (named (enum_of w ms)) = 1
key_n t = 0

of_keys : (t : TypeTree) → 1 ≤ key_n t → IsKeyType t
of_keys (scalar s) h = tt
of_keys text h = tt
of_keys bytes h = tt
of_keys (named (enum_of w ms)) h = tt
of_keys t h = absurd (omega (arith, h))

is_of_keys : (t : TypeTree) → IsKeyType t → 1 ≤ key_n t
is_of_keys (scalar s) h = omega arith
is_of_keys text h = omega arith
is_of_keys bytes h = omega arith
is_of_keys (named (enum_of w ms)) h = omega arith
is_of_keys t h = absurd h

accepted_key : (P : List ℕ → Type 0) (t : TypeTree) → IsAccepted P t → IsKeyType (key_part t)
accepted_key P (set_of x) a = a.0
accepted_key P (map_of x y) a = a.0
accepted_key P t a = tt

pub key_known : (t : TypeTree) → ∥ IsAccepted IsUtf8 t ∥₁ → IsKeyType (key_part t)
key_known t h =
    of_keys (key_part t) (∥∥₁_elim h le_prop (λ a. is_of_keys (key_part t) (accepted_key IsUtf8 t a)))

-- ---- items

pub items_before : (t : TypeTree) (v : Value) → IsItems (proj t v) → IsItems v
items_before t v h = tag_items v (omega (arith, proj_tag t v, items_tag (proj t v) h))

same_count : (t : TypeTree) (vs : Values) → count (proj_items t vs) ≡ count vs
same_count (list_of x) vs = count_each (λ v. proj x v) vs
same_count (map_of x y) vs = count_each (with_second (λ v. proj y v)) vs
same_count (scalar s) vs = refl
same_count text vs = refl
same_count bytes vs = refl
same_count (set_of x) vs = refl
same_count (named n) vs = refl

pub proj_count : (t : TypeTree) (v : Value) → IsItems v → count (items_of (proj t v)) ≡ count (items_of v)
proj_count t (Items h vs) is = ap (λ u. count (items_of u)) (items_proj t h vs) ∙ same_count t vs
proj_count t v is = absurd is

nth_each : (f : Value → Value) (vs : Values) (i : ℕ) → i < count vs → nth (each f vs) i ≡ f (nth vs i)
nth_each f NoValue i lt = absurd (omega (arith, lt))
nth_each f (And v vs) zero lt = refl
nth_each f (And v vs) (suc i) lt = nth_each f vs i (omega (arith, lt))

row_nth : (t : TypeTree) (vs : Values) (i : ℕ) → IsRowType t → IsKeyType (key_part t) → i < count vs
    → proj (element_of t) (nth vs i) ≡ nth (proj_items t vs) i
row_nth (list_of x) vs i r key lt = sym (nth_each (λ v. proj x v) vs i lt)
row_nth (set_of x) vs i r key lt = key_stays x (nth vs i) key
row_nth t vs i r key lt = absurd r

pub row_item : (t : TypeTree) (v : Value) (i : ℕ) → IsItems v → IsRowType t → IsKeyType (key_part t)
    → i < count (items_of v) → proj (element_of t) (nth (items_of v) i) ≡ nth (items_of (proj t v)) i
row_item t (Items h vs) i is r key lt =
    row_nth t vs i r key lt ∙ ap (λ u. nth (items_of u) i) (sym (items_proj t h vs))
row_item t v i is r key lt = absurd is

two_fields : (f : Value → Value) (u : Value) → count (fields_of u) ≡ 2
    → with_second f u ≡ pair (nth (fields_of u) 0) (f (nth (fields_of u) 1))
two_fields f (Record ids (And k (And v NoValue))) e = refl
two_fields f u e = absurd (omega (arith, e))

map_nth : (t : TypeTree) (vs : Values) (i : ℕ) → IsMapType t → IsKeyType (key_part t) → i < count vs
    → count (fields_of (nth vs i)) ≡ 2
    → pair (proj (key_of t) (nth (fields_of (nth vs i)) 0)) (proj (value_of t) (nth (fields_of (nth vs i)) 1))
    ≡ nth (proj_items t vs) i
map_nth (map_of x y) vs i m key lt e =
    let u = nth vs i in
    ap (λ z. pair z (proj y (nth (fields_of u) 1))) (key_stays x (nth (fields_of u) 0) key)
    ∙ sym (two_fields (λ v. proj y v) u e)
    ∙ sym (nth_each (with_second (λ v. proj y v)) vs i lt)
map_nth t vs i m key lt e = absurd m

pub map_item : (t : TypeTree) (v : Value) (i : ℕ) → IsItems v → IsMapType t → IsKeyType (key_part t)
    → i < count (items_of v) → count (fields_of (nth (items_of v) i)) ≡ 2
    → let u = nth (items_of v) i in
    pair (proj (key_of t) (nth (fields_of u) 0)) (proj (value_of t) (nth (fields_of u) 1))
    ≡ nth (items_of (proj t v)) i
map_item t (Items h vs) i is m key lt e =
    map_nth t vs i m key lt e ∙ ap (λ u. nth (items_of u) i) (sym (items_proj t h vs))
map_item t v i is m key lt e = absurd is

-- ---- binding

pub row_binds : (r : Bool) (t : TypeTree) (m : Layout) → IsRowType t → Binds r t m
    → Binds r (element_of t) (item_of m)
row_binds r (list_of x) (ItemRange AList d c l) h b = b
row_binds r (set_of x) (ItemRange ASet d c l) h b = b
row_binds r (list_of x) m h b = absurd b
row_binds r (set_of x) m h b = absurd b
row_binds r t m h b = absurd h

two_bind : (first second : Layout → Type 0) (l : Layout) → BindsPair first second l
    → first (layout_nth (fields_in l) 0) × second (layout_nth (fields_in l) 1)
two_bind first second (Struct (Field i k (Field j v NoField))) b = b
two_bind first second l b = absurd b

pub map_binds : (r : Bool) (t : TypeTree) (m : Layout) → IsMapType t → Binds r t m
    → Binds r (key_of t) (layout_nth (fields_in (item_of m)) 0)
    × Binds r (value_of t) (layout_nth (fields_in (item_of m)) 1)
map_binds r (map_of x y) (ItemRange AMap d c l) h b =
    two_bind (λ (k : Layout). Binds r x k) (λ (v : Layout). Binds r y v) l b
map_binds r (map_of x y) m h b = absurd b
map_binds r t m h b = absurd h

-- ---- accepted types

pub row_accepted : (P : List ℕ → Type 0) (t : TypeTree) → IsRowType t → IsAccepted P t
    → IsAccepted P (element_of t)
row_accepted P (list_of x) h a = a
row_accepted P (set_of x) h a = a.1
row_accepted P t h a = absurd h

pub map_accepted : (P : List ℕ → Type 0) (t : TypeTree) → IsMapType t → IsAccepted P t
    → IsAccepted P (key_of t) × IsAccepted P (value_of t)
map_accepted P (map_of x y) h a = (a.1, a.2)
map_accepted P t h a = absurd h

pub row_short : (t : TypeTree) → IsRowType t → HasShortTexts t → HasShortTexts (element_of t)
row_short (list_of x) h s = s
row_short (set_of x) h s = s
row_short t h s = absurd h

pub map_short : (t : TypeTree) → IsMapType t → HasShortTexts t
    → HasShortTexts (key_of t) × HasShortTexts (value_of t)
map_short (map_of x y) h s = s
map_short t h s = absurd h
