-- The fields of a struct put one after the other, and joined.
use Rattle.std.proofs.Common.{◌≡◌, ℕ, suc, ◌≤◌, ℤ, pos, List, [], ◌∷◌, ◌++◌, map, refl, sym, ap, ◌∙◌, subst}
use Rattle.std.proofs.Common.{arith, Some, None, append_assoc}
use Rattle.std.proofs.lemmas.Int.{ints}
use Rattle.frozen_model.specs.Trees.{Rising}
use Rattle.frozen_model.specs.Values.{Value, One, Bytes, Items, Absent, Present, Record, NoValue, And}
use Rattle.frozen_model.specs.Values.{count}
use Rattle.typed_tree.specs.Fields.{id_number, id_numbers}
use Rattle.typed_tree.specs.Heights.{height, heights}
use Rattle.typed_tree.specs.Parts.{IsRecord, IsPresent, fields_of, ids_of}
use Rattle.bit_view.specs.declared.view.View.{View}
use Rattle.bit_view.specs.FieldCursor.{IsNextField}
use Rattle.bit_view.specs.Views.{value_of_view, IsOption}
use Rattle.bit_view.proofs.FieldCursors.{view_fields, view_rising, as_many}
use Rattle.file_value.specs.Putting.{listed}
use Rattle.file_value.proofs.Records.{StructFields, fields_of_struct}

-- ---- optionals

-- an optional that is not there is absent
pub absent_is : (v : Value) → IsOption v → (IsPresent v → ⊥) → v ≡ Absent
absent_is Absent o not = refl
absent_is (Present v) o not = absurd (not tt)
absent_is (One x) o not = absurd o
absent_is (Bytes bs) o not = absurd o
absent_is (Items g vs) o not = absurd o
absent_is (Record ids vs) o not = absurd o

-- ---- ids

small_id : (n : ℕ) → n ≤ 32767 → id_number (pos n) ≡ n
small_id n le = grind (arith, ints)

numbers_are : (low : ℕ) (is : List ℕ) → Rising low is → id_numbers (map pos is) ≡ is
numbers_are low [] r = refl
numbers_are low (i ∷ is) r =
    ap (λ x. x ∷ id_numbers (map pos is)) (small_id i r.1) ∙ ap (λ xs. i ∷ xs) (numbers_are i is r.2)

-- the fields of a struct have ids that differ, and by their ids they are the struct
pub struct_parts : (w : View) → IsRecord (value_of_view w)
    → StructFields (map pos (ids_of (value_of_view w))) (value_of_view w)
struct_parts w h =
    let v = value_of_view w in
    let f = view_fields w h in
    let r = view_rising w f in
    fields_of_struct (map pos (ids_of v)) v h r (as_many w f) (numbers_are 0 (ids_of v) r)

-- ---- the fields that are left

-- the first of the fields that were left, and the others
pub record IsFirstField (old : Value) (id : ℤ) (v left : Value) : Type 0 where
  pub fields : listed (fields_of old) ≡ v ∷ listed (fields_of left)
  pub ids : map pos (ids_of old) ≡ id ∷ map pos (ids_of left)
  pub fewer : suc (count (fields_of left)) ≡ count (fields_of old)
  pub lower : (height v ≤ heights (fields_of old)) × (heights (fields_of left) ≤ heights (fields_of old))

pub first_field : (old : Value) (id : ℤ) (w : View) (left : Value) → IsNextField old (Some (id, w)) left
    → IsFirstField old id (value_of_view w) left
first_field (Record (i ∷ is) (And v vs)) id w left h =
    let e = h.0 in
    let same = h.1 in
    let rest = h.2 in
    subst (λ x. IsFirstField (Record (i ∷ is) (And v vs)) id (value_of_view w) x) (sym rest)
    (subst (λ x. IsFirstField (Record (i ∷ is) (And v vs)) id x (Record is vs)) (sym same)
    (subst (λ x. IsFirstField (Record (i ∷ is) (And v vs)) x v (Record is vs)) (sym e) (record {
      fields = refl;
      ids = refl;
      fewer = refl;
      lower = (omega arith, omega arith);
    })))
first_field (Record [] NoValue) id w left h = absurd h
first_field (Record [] (And v vs)) id w left h = absurd h
first_field (Record (i ∷ is) NoValue) id w left h = absurd h
first_field (One x) id w left h = absurd h
first_field (Bytes bs) id w left h = absurd h
first_field (Items g vs) id w left h = absurd h
first_field Absent id w left h = absurd h
first_field (Present v) id w left h = absurd h

pub record NoneLeft (old : Value) : Type 0 where
  pub fields : listed (fields_of old) ≡ []
  pub ids : map pos (ids_of old) ≡ []

pub none_left : (old left : Value) → IsNextField old None left → NoneLeft old
none_left (Record [] NoValue) left h = record { fields = refl; ids = refl }
none_left (Record [] (And v vs)) left h = absurd h
none_left (Record (i ∷ is) NoValue) left h = absurd h
none_left (Record (i ∷ is) (And v vs)) left h = absurd h
none_left (One x) left h = absurd h
none_left (Bytes bs) left h = absurd h
none_left (Items g vs) left h = absurd h
none_left Absent left h = absurd h
none_left (Present v) left h = absurd h

-- one more is put of those that were left
pub moved_on : {A : Type 0} (now new all left rest : List A) (x : A) → now ++ left ≡ all → left ≡ x ∷ rest
    → new ≡ now ++ x ∷ [] → new ++ rest ≡ all
moved_on now new all left rest x so_far more put =
    ap (λ (zs : List _). zs ++ rest) put ∙ append_assoc now (x ∷ []) rest ∙ ap (λ zs. now ++ zs) (sym more)
    ∙ so_far
