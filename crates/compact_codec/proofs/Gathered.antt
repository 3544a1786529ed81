-- Fields that stand in any order, and defaults of those that did not stand, are by rising id the fields of the struct.
use Rattle.std.proofs.Common.{◌≡◌, ◌≢◌, inl, inr, ℕ, ◌≤◌, ◌<◌, nat_lt, List, [], ◌∷◌, ◌++◌, map, Bool, true, false, ◌||◌, cond, Option, Some, None, refl, sym, ap, ◌∙◌, arith}
use Rattle.std.specs.Prelude.{ℤ, pos, negsuc, unsigned_abs, zip}
use Rattle.std.specs.List.{AllByRecursion, AllPairs}
use Rattle.std.specs.Ordering.{int_eq}
use Rattle.std.proofs.lemmas.Bool.{or_parts}
use Rattle.std.proofs.lemmas.Bool.Decides.{nat_tests}
use Rattle.std.proofs.lemmas.Int.{ints}
use Rattle.std.proofs.lemmas.List.Elements.{All-from_recursion}
use Rattle.std.proofs.lemmas.List.Kept.{AllPairs-cons}
use Rattle.base_lists.specs.InOrder.{insert_by, in_order}
use Rattle.frozen_model.specs.Values.{Value, Record, Absent}
use Rattle.idl_profile.specs.Types.{DefField}
use Rattle.idl_profile.specs.declared.kinds.Need.{Need}
use Rattle.idl_profile.specs.declared.kinds.Need.TheVariants.{Plain, Required, Optional}
use Rattle.key_order.specs.InOrder.{row}
use Rattle.typed_tree.specs.Fields.{record_of, id_number, id_numbers}
use Rattle.typed_tree.specs.Filled.{natural_ids, struct_with}
use Rattle.typed_tree.specs.Sizes.{default_value}
use Rattle.typed_reading.specs.Faults.{is_among}
use Rattle.typed_reading.specs.Meaning.{given, under, field_value}
use Rattle.typed_reading.proofs.FieldLaws.{int_eq_same, int_eq_refl}
use Rattle.compact_codec.specs.Building.{need_in, standing, ids_of, without, AreFresh, IsKnown, IsFromOne}

abbrev Entry : Type 0
Entry = ℕ × Value

abbrev first : Entry → ℕ
first e = e.0

-- a field that stood, and one that did not, as they are put
abbrev stood : List DefField → (ℤ × Value) → Entry
stood fs r = (id_number r.0, standing fs r)

abbrev filled : DefField → Entry
filled f = (id_number f.id, default_value f)

-- a field as the struct has it
abbrev entry : List (ℤ × Value) → DefField → Entry
entry rs f = (id_number f.id, field_value rs f)

-- ids rise from above one
abbrev pub Up : ℕ → List DefField → Type 0
Up low [] = Unit {0}
Up low (f ∷ fs) = (low < id_number f.id) × Up (id_number f.id) fs

up_lower : (low high : ℕ) (fs : List DefField) → low ≤ high → Up high fs → Up low fs
up_lower low high [] le up = tt
up_lower low high (f ∷ fs) le up = (omega (arith, le, up.0), up.1)

pub int_other : (x y : ℤ) → (x ≡ y → ⊥) → int_eq x y ≡ false
int_other x y ne = by (int_eq x y) refl
  where
    by : (b : Bool) → int_eq x y ≡ b → b ≡ false
    by true p = absurd (ne (int_eq_same x y p))
    by false p = refl

other_flips : (x y : ℤ) → int_eq x y ≡ false → int_eq y x ≡ false
other_flips x y e = int_other y x (λ p. let q : int_eq x y ≡ true = ap (int_eq x) p ∙ int_eq_refl x in (let d : true ≡ false = sym q ∙ e in absurd cc))

above_other : (x y : ℤ) → id_number y < id_number x → int_eq x y ≡ false
above_other x y lt = int_other x y (λ p. omega (arith, lt, ap id_number p))

-- ---- needs

same_given : (n : Need) (v d c : Value) → given n (Some v) d ≡ given n (Some v) c
same_given Plain v d c = refl
same_given Required v d c = refl
same_given Optional v d c = refl

default_given : (n : Need) (d : Value) → n ≡ n → given n None d ≡ d
default_given Plain d e = refl
default_given Required d e = refl
default_given Optional d e = refl

-- ---- an entry put among the others

-- in front of those above it
in_front : (x : Entry) (rs : List (ℤ × Value)) (gone : List ℤ) (fs : List DefField) → Up (first x) fs → insert_by nat_lt first x (map (entry rs) (without gone fs)) ≡ x ∷ map (entry rs) (without gone fs)
in_front x rs gone [] up = refl
in_front x rs gone (f ∷ fs) up = by (is_among f.id gone) (in_front x rs gone fs (up_lower (first x) (id_number f.id) fs (omega (arith, up.0)) up.1))
  where
    by : (b : Bool) → insert_by nat_lt first x (map (entry rs) (without gone fs)) ≡ x ∷ map (entry rs) (without gone fs)
        → insert_by nat_lt first x (map (entry rs) (cond b (without gone fs) (f ∷ without gone fs))) ≡ x ∷ map (entry rs) (cond b (without gone fs) (f ∷ without gone fs))
    by true more = more
    by false more = let q : nat_lt (id_number f.id) (first x) ≡ false = (let lt = up.0 in grind (arith, nat_tests)) in rw q refl

-- a value under an id counts for no other field
other_entry : (r : ℤ × Value) (rs : List (ℤ × Value)) (f : DefField) → int_eq f.id r.0 ≡ false → entry rs f ≡ entry (r ∷ rs) f
other_entry r rs f e = ap (λ (o : Option Value). (id_number f.id, given f.need o (default_value f))) (sym (ap (λ (b : Bool). cond b (Some r.1) (under f.id rs)) (other_flips f.id r.0 e)))

-- behind a field of the id no other has it
same_behind : (r : ℤ × Value) (rs : List (ℤ × Value)) (gone : List ℤ) (fs : List DefField) (low : ℕ) → id_number r.0 ≤ low → Up low fs
    → map (entry rs) (without (r.0 ∷ gone) fs) ≡ map (entry (r ∷ rs)) (without gone fs)
same_behind r rs gone [] low le up = refl
same_behind r rs gone (f ∷ fs) low le up =
    let other = above_other f.id r.0 (omega (arith, le, up.0)) in
    ap (λ (b : Bool). map (entry rs) (cond (b || is_among f.id gone) (without (r.0 ∷ gone) fs) (f ∷ without (r.0 ∷ gone) fs))) other
    ∙ by (is_among f.id gone) other (same_behind r rs gone fs (id_number f.id) (omega (arith, le, up.0)) up.1)
  where
    by : (b : Bool) → int_eq f.id r.0 ≡ false → map (entry rs) (without (r.0 ∷ gone) fs) ≡ map (entry (r ∷ rs)) (without gone fs)
        → map (entry rs) (cond b (without (r.0 ∷ gone) fs) (f ∷ without (r.0 ∷ gone) fs)) ≡ map (entry (r ∷ rs)) (cond b (without gone fs) (f ∷ without gone fs))
    by true other more = more
    by false other more = ap (λ (e : Entry). e ∷ map (entry rs) (without (r.0 ∷ gone) fs)) (other_entry r rs f other) ∙ ap (λ (es : List Entry). entry (r ∷ rs) f ∷ es) more

known_above : (low : ℕ) (fs : List DefField) (id : ℤ) → Up low fs → IsKnown fs id → low < id_number id
known_above low [] id up k = absurd k
known_above low (f ∷ fs) id up (inl e) = omega (arith, up.0, ap id_number (int_eq_same f.id id e))
known_above low (f ∷ fs) id up (inr k) = let h = known_above (id_number f.id) fs id up.1 k in omega (arith, up.0, h)

inserted : (r : ℤ × Value) (rs : List (ℤ × Value)) (gone : List ℤ) (fs : List DefField) (low : ℕ) → Up low fs → is_among r.0 gone ≡ false → IsKnown fs r.0
    → insert_by nat_lt first (stood fs r) (map (entry rs) (without (r.0 ∷ gone) fs)) ≡ map (entry (r ∷ rs)) (without gone fs)
inserted r rs gone [] low up new k = absurd k
inserted r rs gone (f ∷ fs) low up new k = by (int_eq f.id r.0) refl k (λ later. inserted r rs gone fs (id_number f.id) up.1 new later)
  where
    -- what is put, and among what, by whether this field has the id
    put : Bool → Bool → List Entry
    put b c =
        insert_by nat_lt first (id_number r.0, given (cond b f.need (need_in fs r.0)) (Some r.1) Absent)
        (map (entry rs) (cond (b || c) (without (r.0 ∷ gone) fs) (f ∷ without (r.0 ∷ gone) fs)))

    here_is : int_eq f.id r.0 ≡ true → put true (is_among f.id gone) ≡ map (entry (r ∷ rs)) (cond (is_among f.id gone) (without gone fs) (f ∷ without gone fs))
    here_is e =
        let same = int_eq_same f.id r.0 e in
        let not_gone : is_among f.id gone ≡ false = ap (λ (z : ℤ). is_among z gone) same ∙ new in
        let x : Entry = (id_number r.0, given f.need (Some r.1) Absent) in
        let found : int_eq r.0 f.id ≡ true = ap (int_eq r.0) same ∙ int_eq_refl r.0 in
        let this : x ≡ entry (r ∷ rs) f =
        ap (λ (z : ℤ). (id_number z, given f.need (Some r.1) Absent)) (sym same)
        ∙ ap (λ (v : Value). (id_number f.id, v)) (same_given f.need r.1 Absent (default_value f))
        ∙ ap (λ (b : Bool). (id_number f.id, given f.need (cond b (Some r.1) (under f.id rs)) (default_value f))) (sym found) in
        let low_is : id_number r.0 ≤ id_number f.id = omega (arith, ap id_number same) in
        in_front x rs (r.0 ∷ gone) fs (up_lower (id_number r.0) (id_number f.id) fs low_is up.1)
        ∙ ap (λ (es : List Entry). x ∷ es) (same_behind r rs gone fs (id_number f.id) low_is up.1)
        ∙ ap (λ (e : Entry). e ∷ map (entry (r ∷ rs)) (without gone fs)) this
        ∙ ap (λ (b : Bool). map (entry (r ∷ rs)) (cond b (without gone fs) (f ∷ without gone fs))) (sym not_gone)

    further : (b : Bool) → int_eq f.id r.0 ≡ false → id_number f.id < id_number r.0
        → insert_by nat_lt first (stood fs r) (map (entry rs) (without (r.0 ∷ gone) fs)) ≡ map (entry (r ∷ rs)) (without gone fs)
        → put false b ≡ map (entry (r ∷ rs)) (cond b (without gone fs) (f ∷ without gone fs))
    further true other lt more = more
    further false other lt more =
        let q : nat_lt (id_number f.id) (id_number r.0) ≡ true = grind (arith, nat_tests) in
        let step : put false false ≡ entry rs f ∷ insert_by nat_lt first (stood fs r) (map (entry rs) (without (r.0 ∷ gone) fs)) = rw q refl in
        step ∙ ap (λ (es : List Entry). entry rs f ∷ es) more ∙ ap (λ (e : Entry). e ∷ map (entry (r ∷ rs)) (without gone fs)) (other_entry r rs f other)

    known_behind : int_eq f.id r.0 ≡ false → IsKnown (f ∷ fs) r.0 → IsKnown fs r.0
    known_behind e (inl p) = absurd (let d : true ≡ false = sym p ∙ e in cc)
    known_behind e (inr p) = p

    by : (b : Bool) → int_eq f.id r.0 ≡ b → IsKnown (f ∷ fs) r.0
        → (IsKnown fs r.0 → insert_by nat_lt first (stood fs r) (map (entry rs) (without (r.0 ∷ gone) fs)) ≡ map (entry (r ∷ rs)) (without gone fs))
        → put (int_eq f.id r.0) (is_among f.id gone) ≡ map (entry (r ∷ rs)) (without gone (f ∷ fs))
    by true e k more = ap (λ (b : Bool). put b (is_among f.id gone)) e ∙ here_is e
    by false e k more =
        let later = known_behind e k in
        ap (λ (b : Bool). put b (is_among f.id gone)) e
        ∙ further (is_among f.id gone) e (known_above (id_number f.id) fs r.0 up.1 later) (more later)

-- ---- all of them

same_without : (ids gone : List ℤ) (fs : List DefField) → ((id : ℤ) → is_among id ids ≡ is_among id gone) → without ids fs ≡ without gone fs
same_without ids gone [] same = refl
same_without ids gone (f ∷ fs) same = ap (λ (b : Bool). cond b (without ids fs) (f ∷ without ids fs)) (same f.id) ∙ ap (λ (gs : List DefField). cond (is_among f.id gone) gs (f ∷ gs)) (same_without ids gone fs same)

filled_are : (fs : List DefField) → map filled fs ≡ map (entry []) fs
filled_are [] = refl
filled_are (f ∷ fs) = ap (λ (v : Value). (id_number f.id, v) ∷ map filled fs) (sym (default_given f.need (default_value f) refl)) ∙ ap (λ (es : List Entry). entry [] f ∷ es) (filled_are fs)

in_order_already : (gone : List ℤ) (fs : List DefField) (low : ℕ) → Up low fs → in_order nat_lt first (map (entry []) (without gone fs)) ≡ map (entry []) (without gone fs)
in_order_already gone [] low up = refl
in_order_already gone (f ∷ fs) low up = by (is_among f.id gone) (in_order_already gone fs (id_number f.id) up.1)
  where
    by : (b : Bool) → in_order nat_lt first (map (entry []) (without gone fs)) ≡ map (entry []) (without gone fs)
        → in_order nat_lt first (map (entry []) (cond b (without gone fs) (f ∷ without gone fs))) ≡ map (entry []) (cond b (without gone fs) (f ∷ without gone fs))
    by true more = more
    by false more = ap (insert_by nat_lt first (entry [] f)) more ∙ in_front (entry [] f) [] gone fs up.1

turned : (a b c : Bool) → ((a || b) || c) ≡ (b || (a || c))
turned true true c = refl
turned true false c = refl
turned false true c = refl
turned false false c = refl

gathered : (fs : List DefField) (low : ℕ) → Up low fs → (ids : List ℤ) (rs : List (ℤ × Value)) (gone : List ℤ) → AreFresh gone (ids_of rs) → AllByRecursion (IsKnown fs) (ids_of rs)
    → ((id : ℤ) → is_among id ids ≡ (is_among id (ids_of rs) || is_among id gone))
    → in_order nat_lt first (map (stood fs) rs ++ map filled (without ids fs)) ≡ map (entry rs) (without gone fs)
gathered fs low up ids [] gone fresh known same =
    ap (λ (gs : List DefField). in_order nat_lt first (map filled gs)) (same_without ids gone fs same)
    ∙ ap (in_order nat_lt first) (filled_are (without gone fs)) ∙ in_order_already gone fs low up
gathered fs low up ids (r ∷ rs) gone fresh known same =
    ap (insert_by nat_lt first (stood fs r)) (gathered fs low up ids rs (r.0 ∷ gone) fresh.1 known.1 (λ id. same id ∙ turned (int_eq id r.0) (is_among id (ids_of rs)) (is_among id gone)))
    ∙ inserted r rs gone fs low up fresh.0 known.0

all_left : (fs : List DefField) → without [] fs ≡ fs
all_left [] = refl
all_left (f ∷ fs) = ap (λ (gs : List DefField). f ∷ gs) (all_left fs)

pub no_more : (b : Bool) → b ≡ (b || false)
no_more true = refl
no_more false = refl

-- ---- the struct of them

zip_filled : (gs : List DefField) → zip (id_numbers (map (λ (f : DefField). f.id) gs)) (map default_value gs) ≡ map filled gs
zip_filled [] = refl
zip_filled (g ∷ gs) = ap (λ (es : List Entry). filled g ∷ es) (zip_filled gs)

zip_stood : (fs : List DefField) (rs : List (ℤ × Value)) (gs : List DefField)
    → zip (id_numbers (ids_of rs ++ map (λ (f : DefField). f.id) gs)) (map (standing fs) rs ++ map default_value gs) ≡ map (stood fs) rs ++ map filled gs
zip_stood fs [] gs = zip_filled gs
zip_stood fs (r ∷ rs) gs = ap (λ (es : List Entry). stood fs r ∷ es) (zip_stood fs rs gs)

firsts : (rs : List (ℤ × Value)) (fs : List DefField) → map first (map (entry rs) fs) ≡ map (λ (f : DefField). id_number f.id) fs
firsts rs [] = refl
firsts rs (f ∷ fs) = ap (λ (is : List ℕ). id_number f.id ∷ is) (firsts rs fs)

seconds : (rs : List (ℤ × Value)) (fs : List DefField) → map (λ (e : Entry). e.1) (map (entry rs) fs) ≡ map (field_value rs) fs
seconds rs [] = refl
seconds rs (f ∷ fs) = ap (λ (vs : List Value). field_value rs f ∷ vs) (seconds rs fs)

number_is : (id : ℤ) → IsFromOne id → id_number id ≡ unsigned_abs id
number_is (pos n) h = grind (arith, ints)
number_is (negsuc n) h = absurd h

numbers_are : (fs : List DefField) → AllByRecursion (λ (f : DefField). IsFromOne f.id) fs → map (λ (f : DefField). id_number f.id) fs ≡ natural_ids fs
numbers_are [] h = refl
numbers_are (f ∷ fs) h = ap (λ (n : ℕ). n ∷ map (λ (f : DefField). id_number f.id) fs) (number_is f.id h.0) ∙ ap (λ (ns : List ℕ). unsigned_abs f.id ∷ ns) (numbers_are fs h.1)

-- fields that stood, and defaults of the others, are the struct
pub struct_is : (fs : List DefField) (low : ℕ) → Up low fs → AllByRecursion (λ (f : DefField). IsFromOne f.id) fs → (rs : List (ℤ × Value)) → AreFresh [] (ids_of rs) → AllByRecursion (IsKnown fs) (ids_of rs)
    → record_of (id_numbers (ids_of rs ++ map (λ (f : DefField). f.id) (without (ids_of rs) fs))) (map (standing fs) rs ++ map default_value (without (ids_of rs) fs)) ≡ struct_with fs (map (field_value rs) fs)
struct_is fs low up from rs fresh known =
    let order : in_order nat_lt first (zip (id_numbers (ids_of rs ++ map (λ (f : DefField). f.id) (without (ids_of rs) fs))) (map (standing fs) rs ++ map default_value (without (ids_of rs) fs))) ≡ map (entry rs) fs =
    ap (in_order nat_lt first) (zip_stood fs rs (without (ids_of rs) fs))
    ∙ gathered fs low up (ids_of rs) rs [] fresh known (λ id. no_more (is_among id (ids_of rs)))
    ∙ ap (map (entry rs)) (all_left fs) in
    ap (λ (es : List Entry). Record (map first es) (row (map (λ (e : Entry). e.1) es))) order
    ∙ ap (λ (is : List ℕ). Record is (row (map (λ (e : Entry). e.1) (map (entry rs) fs)))) (firsts rs fs ∙ numbers_are fs from)
    ∙ ap (λ (vs : List Value). Record (natural_ids fs) (row vs)) (seconds rs fs)

-- ---- ids that differ

fresh_among : (before ids : List ℤ) → AreFresh before ids → AllByRecursion (λ i. is_among i before ≡ false) ids
fresh_among before [] h = tt
fresh_among before (i ∷ ids) h = (h.0, fewer ids (fresh_among (i ∷ before) ids h.1))
  where
    fewer : (js : List ℤ) → AllByRecursion (λ j. is_among j (i ∷ before) ≡ false) js → AllByRecursion (λ j. is_among j before ≡ false) js
    fewer [] g = tt
    fewer (j ∷ js) g = ((or_parts (int_eq j i) (is_among j before) g.0).1, fewer js g.1)

pub fresh_differ : (before ids : List ℤ) → AreFresh before ids → AllPairs (λ i j. i ≢ j) ids
fresh_differ before [] h = λ i j d lt g. absurd (omega (arith, g))
fresh_differ before (i ∷ ids) h =
    AllPairs-cons (λ i j. i ≢ j) i ids (All-from_recursion (λ j. i ≢ j) ids (others ids (fresh_among (i ∷ before) ids h.1))) (fresh_differ (i ∷ before) ids h.1)
  where
    others : (js : List ℤ) → AllByRecursion (λ j. is_among j (i ∷ before) ≡ false) js → AllByRecursion (λ j. i ≢ j) js
    others [] g = tt
    others (j ∷ js) g = (λ e. (let o = (or_parts (int_eq j i) (is_among j before) g.0).0 in let q : int_eq j i ≡ true = ap (int_eq j) e ∙ int_eq_refl j in let d : true ≡ false = sym q ∙ o in cc), others js g.1)

pub fresh_more : (before ids : List ℤ) (id : ℤ) → AreFresh before ids → is_among id ids ≡ false → is_among id before ≡ false → AreFresh before (ids ++ id ∷ [])
fresh_more before [] id h e f = (f, tt)
fresh_more before (i ∷ ids) id h e f =
    let p = or_parts (int_eq id i) (is_among id ids) e in
    (h.0, fresh_more (i ∷ before) ids id h.1 p.1 (ap (λ (b : Bool). b || is_among id before) p.0 ∙ f))

-- those of the fields that did not stand are fresh too
fresh_left : (ids before : List ℤ) (fs : List DefField) (low : ℕ) → Up low fs → ((id : ℤ) → low < id_number id → is_among id ids ≡ false → is_among id before ≡ false) → AreFresh before (map (λ (f : DefField). f.id) (without ids fs))
fresh_left ids before [] low up h = tt
fresh_left ids before (f ∷ fs) low up h =
    by (is_among f.id ids) refl (fresh_left ids before fs (id_number f.id) up.1 (λ id lt g. h id (omega (arith, lt, up.0)) g))
    (fresh_left ids (f.id ∷ before) fs (id_number f.id) up.1 (λ id lt g. ap (λ (b : Bool). b || is_among id before) (above_other id f.id lt) ∙ h id (omega (arith, lt, up.0)) g))
  where
    by : (b : Bool) → is_among f.id ids ≡ b → AreFresh before (map (λ (g : DefField). g.id) (without ids fs)) → AreFresh (f.id ∷ before) (map (λ (g : DefField). g.id) (without ids fs))
        → AreFresh before (map (λ (g : DefField). g.id) (cond b (without ids fs) (f ∷ without ids fs)))
    by true e same more = same
    by false e same more = (h f.id up.0 e, more)

pub fresh_all : (fs : List DefField) (low : ℕ) → Up low fs → (all ids before : List ℤ) → AreFresh before ids → ((id : ℤ) → is_among id all ≡ (is_among id ids || is_among id before))
    → AreFresh before (ids ++ map (λ (f : DefField). f.id) (without all fs))
fresh_all fs low up all [] before h same = fresh_left all before fs low up (λ id lt e. sym (same id) ∙ e)
fresh_all fs low up all (i ∷ ids) before h same = (h.0, fresh_all fs low up all ids (i ∷ before) h.1 (λ id. same id ∙ turned (int_eq id i) (is_among id ids) (is_among id before)))
