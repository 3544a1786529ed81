-- The struct of the fields that stood, with the defaults of the others.
use Rattle.std.proofs.Common.{◌≡◌, ◌≢◌, ℕ, zero, suc, ◌+◌, ◌-◌, ◌≤◌, ◌<◌, inl, inr, refl, List, [], ◌∷◌, ◌++◌, length, map, drop, take, Bool, true, false, cond, Some, sym, ap, subst, ◌∙◌, arith, append_assoc, length-append, length-drop}
use Rattle.std.specs.Prelude.{ℤ, pos, negsuc, nat_abs, slice_get, slice_index_or}
use Rattle.std.specs.List.{AllByRecursion, AllPairs}
use Rattle.std.proofs.lemmas.Int.{ints}
use Rattle.std.proofs.lemmas.Bool.{cases_lt}
use Rattle.std.proofs.lemmas.Bool.Decides.{nat_tests}
use Rattle.std.proofs.lemmas.List.{length-map}
use Rattle.std.proofs.Math.Seq.{take-length}
use Rattle.frozen_model.specs.Trees.{Rising}
use Rattle.frozen_model.specs.Values.{Value}
use Rattle.idl_profile.specs.Types.{TypeTree, DefField, Fields, no_fields, field, field_list, fields_of, scalar, text, bytes, list_of, set_of, map_of, named, enum_of, struct_of}
use Rattle.idl_profile.proofs.Ids.{id_fits}
use Rattle.type_kinds.specs.Accepted.{IsAccepted}
use Rattle.type_kinds.specs.Laws.{Any}
use Rattle.type_kinds.specs.Defaults.{ids_of_fields}
use Rattle.typed_tree.specs.Fields.{record_of, id_number, id_numbers}
use Rattle.typed_tree.specs.Filled.{struct_with}
use Rattle.typed_tree.specs.Sizes.{default_value}
use Rattle.typed_tree.specs.Trees.{last, but_last}
use Rattle.typed_reading.specs.Faults.{is_among}
use Rattle.typed_reading.specs.Meaning.{field_value}
use Rattle.typed_reading.proofs.FieldLaws.{drop_get, drop_all, place_at}
use Rattle.typed_reading.specs.Marks.{place_in, Marked}
use Rattle.idl_parse.specs.declared.definition.FieldRefs.{FieldRefs}
use Rattle.idl_parse.specs.Refs.{type_of_ref, fields_of_refs}
use Rattle.root_kinds.proofs.Numbered.{type_ref_has_ids}
use Rattle.compact_codec.specs.Building.{standing, ids_of, without, IsFromOne, Holds, AreOfAccepted, AreSet}
use Rattle.compact_codec.proofs.Gathered.{Up, no_more, struct_is, fresh_all, fresh_differ}
use Rattle.compact_codec.proofs.Joins.{last_is, front_is}

-- ---- ids

from_one : (id : ℤ) → id_fits id ≡ true → IsFromOne id
from_one (pos n) e = grind (arith, ints, nat_tests)
from_one (negsuc n) e = absurd (grind (arith, ints, nat_tests))

number_of : (id : ℤ) → id_fits id ≡ true → id_number id ≡ nat_abs id
number_of (pos n) e = let le : n ≤ 32767 = from_one (pos n) e in grind (arith, ints)
number_of (negsuc n) e = absurd (from_one (negsuc n) e)

all_from_one : (fs : List DefField) → AllByRecursion (λ (f : DefField). id_fits f.id ≡ true) fs → AllByRecursion (λ (f : DefField). IsFromOne f.id) fs
all_from_one [] h = tt
all_from_one (f ∷ fs) h = (from_one f.id h.0, all_from_one fs h.1)

rise : (low : ℕ) (fs : Fields) → Rising low (ids_of_fields fs) → AllByRecursion (λ (f : DefField). id_fits f.id ≡ true) (field_list fs) → Up low (field_list fs)
rise low no_fields up h = tt
rise low (field i w n t d fs) up h =
    let same = number_of i h.0 in
    (omega (arith, up.0, same), subst (λ (m : ℕ). Up m (field_list fs)) (sym same) (rise (nat_abs i) fs up.2 h.1))

pub fields_rise : (t : TypeTree) → IsAccepted Any t → AllByRecursion (λ (f : DefField). id_fits f.id ≡ true) (fields_of t) → Up 0 (fields_of t)
fields_rise (named (struct_of w fs)) a h = rise 0 fs a.0 h
fields_rise (named (enum_of w ms)) a h = tt
fields_rise text a h = tt
fields_rise bytes a h = tt
fields_rise (scalar s) a h = tt
fields_rise (list_of t) a h = tt
fields_rise (set_of t) a h = tt
fields_rise (map_of k v) a h = tt

-- each field stands at the place of its id
abbrev Placed : List DefField → Type 0
Placed fs = (i : ℕ) (f : DefField) → slice_get fs i ≡ Some f → place_in fs f.id ≡ Some i

-- what holds of the fields of an accepted type
pub record Proper (fs : List DefField) : Type 0 where
  pub fit : AllByRecursion (λ (f : DefField). id_fits f.id ≡ true) fs
  pub up : Up 0 fs
  pub placed : Placed fs

pub proper : (r : FieldRefs) → AreOfAccepted r → Proper (fields_of_refs r)
proper r a =
    let t = type_of_ref a.ty in
    let fit = type_ref_has_ids a.ty in
    subst Proper (sym a.are) (record { fit = fit; up = fields_rise t a.accepted fit; placed = λ i f e. place_at t i f a.accepted e })

-- ---- defaults put one after the other

there_is : (fs : List DefField) (i : ℕ) → i < length fs → (f : DefField) × (slice_get fs i ≡ Some f)
there_is [] i lt = absurd (omega arith)
there_is (f ∷ fs) zero lt = (f, refl)
there_is (f ∷ fs) (suc i) lt = there_is fs i (omega arith)

pub left_step : (ids : List ℤ) (fs : List DefField) (i : ℕ) (f : DefField) (b : Bool) → slice_get fs i ≡ Some f → is_among f.id ids ≡ b → without ids (drop i fs) ≡ cond b (without ids (drop (i + 1) fs)) (f ∷ without ids (drop (i + 1) fs))
left_step ids fs i f b e h = ap (without ids) (drop_get fs i f e) ∙ ap (λ (c : Bool). cond c (without ids (drop (i + 1) fs)) (f ∷ without ids (drop (i + 1) fs))) h

-- a field that is marked is passed over
pub passed : (fs : List DefField) → Proper fs → (ids : List ℤ) (ms : List Bool) (i : ℕ) → Marked fs ms ids → i < length fs → slice_index_or ms i false ≡ true → without ids (drop i fs) ≡ without ids (drop (i + 1) fs)
passed fs p ids ms i m lt e =
    let f = there_is fs i lt in
    left_step ids fs i f.0 true f.1 (sym (m f.0.id i (p.placed i f.0 f.1)).1 ∙ e)

-- leading ones that are marked are passed over
pub all_passed : (fs : List DefField) → Proper fs → (ids : List ℤ) (ms : List Bool) (n : ℕ) → Marked fs ms ids → AreSet n ms → without ids (drop n fs) ≡ without ids fs
all_passed fs p ids ms zero m set = refl
all_passed fs p ids ms (suc n) m set =
    let before = all_passed fs p ids ms n m (λ i lt. set i (omega (arith, lt))) in
    elim (cases_lt n (length fs)) [
      | inl lt ↦ (let z : n + 1 ≡ suc n = omega arith in ap (λ (k : ℕ). without ids (drop k fs)) (sym z) ∙ sym (passed fs p ids ms n m lt (set n (omega arith))) ∙ before)
      | inr le ↦ (let z : length fs ≤ suc n = omega (arith, le) in ap (without ids) (drop_all fs (suc n) z) ∙ sym (ap (without ids) (drop_all fs n le)) ∙ before)
    ]

pub left_end : (ids : List ℤ) (fs : List DefField) (i : ℕ) → length fs ≤ i → without ids (drop i fs) ≡ []
left_end ids fs i le = ap (without ids) (drop_all fs i le)

-- one more that is put
pub one_put : {A : Type 0} (us vs more all : List A) (x : A) → us ≡ vs ++ x ∷ [] → vs ++ x ∷ more ≡ all → us ++ more ≡ all
one_put us vs more all x e h = ap (λ (zs : List _). zs ++ more) e ∙ append_assoc vs (x ∷ []) more ∙ h

-- ---- the struct

module _ (fs : List DefField) (proper : Proper fs) (front : List Value) (rs : List (ℤ × Value)) (vs us : List Value) (is js : List ℤ) (ms : List Bool) (h : Holds fs front rs vs is ms)
    (put : us ≡ vs ++ map default_value (without (ids_of rs) fs)) (added : js ≡ is ++ map (λ (f : DefField). f.id) (without (ids_of rs) fs)) where
  abbrev gs : List DefField
  gs = without (ids_of rs) fs

  abbrev all_ids : List ℤ
  all_ids = ids_of rs ++ map (λ (f : DefField). f.id) gs

  abbrev all_values : List Value
  all_values = map (standing fs) rs ++ map default_value gs

  ids_is : js ≡ all_ids
  ids_is = added ∙ ap (λ (zs : List ℤ). zs ++ map (λ (f : DefField). f.id) gs) h.ids_are

  values_is : us ≡ front ++ all_values
  values_is = put ∙ ap (λ (zs : List Value). zs ++ map default_value gs) h.trees ∙ append_assoc front (map (standing fs) rs) (map default_value gs)

  as_many : length all_values ≡ length js
  as_many = omega (
    arith,
    ap (λ (zs : List ℤ). length zs) ids_is,
    length-append (ids_of rs) (map (λ (f : DefField). f.id) gs),
    length-append (map (standing fs) rs) (map default_value gs),
    length-map rs (λ (r : ℤ × Value). r.0),
    length-map rs (standing fs),
    length-map gs (λ (f : DefField). f.id),
    length-map gs default_value,
  )

  pub differ : AllPairs (λ i j. i ≢ j) js
  differ = subst (AllPairs (λ i j. i ≢ j)) (sym ids_is) (fresh_differ [] all_ids (fresh_all fs 0 proper.up (ids_of rs) (ids_of rs) [] h.fresh (λ id. no_more (is_among id (ids_of rs)))))

  pub there : length js ≤ length us
  there = omega (arith, as_many, ap (λ (zs : List Value). length zs) values_is, length-append front all_values)

  pub joined_is : (new : List Value) → new ≡ but_last (length js) us ++ record_of (id_numbers js) (last (length js) us) ∷ [] → new ≡ front ++ struct_with fs (map (field_value rs) fs) ∷ []
  joined_is new e =
      e ∙ ap (λ (zs : List Value). but_last (length js) zs ++ record_of (id_numbers js) (last (length js) zs) ∷ []) values_is
      ∙ ap (λ (zs : List Value). zs ++ record_of (id_numbers js) (last (length js) (front ++ all_values)) ∷ []) (front_is (length js) front all_values as_many)
      ∙ ap (λ (zs : List Value). front ++ record_of (id_numbers js) zs ∷ []) (last_is (length js) front all_values as_many)
      ∙ ap (λ (zs : List ℤ). front ++ record_of (id_numbers zs) all_values ∷ []) ids_is
      ∙ ap (λ (v : Value). front ++ v ∷ []) (struct_is fs 0 proper.up (all_from_one fs proper.fit) rs h.fresh h.known)

-- what `&ids[first..]` gives
pub tail_is : {A : Type 0} (n : ℕ) (xs : List A) → take (length xs - n) (drop n xs) ≡ drop n xs
tail_is n xs = ap (λ k. take k (drop n xs)) (sym (length-drop n xs)) ∙ take-length (drop n xs)
