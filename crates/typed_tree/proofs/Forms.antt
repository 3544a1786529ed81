-- What form a value has by its kind, and that its parts are less deep.
use Rattle.std.proofs.Common.{◌≡◌, ◌⊎◌, inl, inr, ℕ, zero, suc, ◌≤◌, arith, refl, subst}
use Rattle.frozen_model.specs.Trees.{AList, ASet, AMap, Holder}
use Rattle.frozen_model.specs.Values.{Value, Values, One, Bytes, Items, Absent, Present, Record, NoValue, And, nth}
use Rattle.typed_tree.specs.Heights.{height, heights}
use Rattle.typed_tree.specs.Parts.{IsText, IsBytes, IsList, IsSet, IsRow, IsMap, IsItems, IsRecord, items_of, fields_of}
use Rattle.typed_tree.specs.References.{HasForm}
use Rattle.typed_tree.specs.declared.tree.TreeKind.{TreeKind}
use Rattle.typed_tree.specs.declared.tree.TreeKind.TheVariants as kinds

-- the value is these items, of a list, a set or a map
pub record AreItems (u : Value) (vs : Values) : Type 0 where
  pub holder : Holder
  pub is : u ≡ Items holder vs

pub items_form : (u : Value) → IsItems u → AreItems u (items_of u)
items_form (Items g vs) h = record { holder = g; is = refl }
items_form (One x) h = absurd h
items_form (Bytes x) h = absurd h
items_form Absent h = absurd h
items_form (Present x) h = absurd h
items_form (Record ids x) h = absurd h

pub row_is : (u : Value) → IsRow u → IsItems u
row_is (Items AList vs) h = tt
row_is (Items ASet vs) h = tt
row_is (Items AMap vs) h = absurd h
row_is (One x) h = absurd h
row_is (Bytes x) h = absurd h
row_is Absent h = absurd h
row_is (Present x) h = absurd h
row_is (Record ids x) h = absurd h

pub map_is : (u : Value) → IsMap u → IsItems u
map_is (Items AMap vs) h = tt
map_is (Items AList vs) h = absurd h
map_is (Items ASet vs) h = absurd h
map_is (One x) h = absurd h
map_is (Bytes x) h = absurd h
map_is Absent h = absurd h
map_is (Present x) h = absurd h
map_is (Record ids x) h = absurd h

list_row : (u : Value) → IsList u → IsRow u
list_row (Items AList vs) h = tt
list_row (Items ASet vs) h = absurd h
list_row (Items AMap vs) h = absurd h
list_row (One x) h = absurd h
list_row (Bytes x) h = absurd h
list_row Absent h = absurd h
list_row (Present x) h = absurd h
list_row (Record ids x) h = absurd h

set_row : (u : Value) → IsSet u → IsRow u
set_row (Items ASet vs) h = tt
set_row (Items AList vs) h = absurd h
set_row (Items AMap vs) h = absurd h
set_row (One x) h = absurd h
set_row (Bytes x) h = absurd h
set_row Absent h = absurd h
set_row (Present x) h = absurd h
set_row (Record ids x) h = absurd h

text_bytes : (u : Value) → IsText u → IsBytes u
text_bytes (Bytes x) h = tt
text_bytes (Items g vs) h = absurd h
text_bytes (One x) h = absurd h
text_bytes Absent h = absurd h
text_bytes (Present x) h = absurd h
text_bytes (Record ids x) h = absurd h

-- forms by kinds
pub row_kind : (k : TreeKind) (u : Value) → HasForm k u → (k ≡ kinds.List) ⊎ ((k ≡ kinds.Set) ⊎ (k ≡ kinds.Map)) → (k ≡ kinds.Map → ⊥) → IsRow u
row_kind k u h (inl e) f = list_row u (subst (λ z. HasForm z u) e h)
row_kind k u h (inr (inl e)) f = set_row u (subst (λ z. HasForm z u) e h)
row_kind k u h (inr (inr e)) f = absurd (f e)

pub map_kind : (k : TreeKind) (u : Value) → HasForm k u → k ≡ kinds.Map → IsMap u
map_kind k u h e = subst (λ z. HasForm z u) e h

pub bytes_kind : (k : TreeKind) (u : Value) → HasForm k u → (k ≡ kinds.Text) ⊎ (k ≡ kinds.Bytes) → IsBytes u
bytes_kind k u h (inl e) = text_bytes u (subst (λ z. HasForm z u) e h)
bytes_kind k u h (inr e) = subst (λ z. HasForm z u) e h

pub items_kind : (k : TreeKind) (u : Value) → HasForm k u → (k ≡ kinds.List) ⊎ ((k ≡ kinds.Set) ⊎ (k ≡ kinds.Map)) → IsItems u
items_kind k u h (inl e) = row_is u (list_row u (subst (λ z. HasForm z u) e h))
items_kind k u h (inr (inl e)) = row_is u (set_row u (subst (λ z. HasForm z u) e h))
items_kind k u h (inr (inr e)) = map_is u (subst (λ z. HasForm z u) e h)

-- ---- heights

pub height_nth : (vs : Values) (i : ℕ) → height (nth vs i) ≤ heights vs
height_nth NoValue i = omega arith
height_nth (And v vs) zero = omega arith
height_nth (And v vs) (suc i) = omega (arith, height_nth vs i)

pub height_items : (u : Value) → IsItems u → height u ≡ suc (heights (items_of u))
height_items (Items g vs) h = refl
height_items (One x) h = absurd h
height_items (Bytes x) h = absurd h
height_items Absent h = absurd h
height_items (Present x) h = absurd h
height_items (Record ids x) h = absurd h

pub height_fields : (u : Value) → IsRecord u → height u ≡ suc (heights (fields_of u))
height_fields (Record ids vs) h = refl
height_fields (One x) h = absurd h
height_fields (Bytes x) h = absurd h
height_fields (Items g x) h = absurd h
height_fields Absent h = absurd h
height_fields (Present x) h = absurd h
