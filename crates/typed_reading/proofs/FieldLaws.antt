-- Fields of a type by their ids, and marks of those that stood.
use Rattle.std.proofs.Common.{◌≡◌, ◌≢◌, ℕ, zero, suc, ◌+◌, ◌<◌, ◌≤◌, nat_lt, List, [], ◌∷◌, length, drop, set, replicate, get_or, Bool, true, false, ◌||◌, cond, ◌⊎◌, inl, inr, Option, Some, None, refl, sym, ap, ◌∙◌, arith}
use Rattle.std.specs.Prelude.{ℤ, nat_abs, slice_get, option_map, IfSome, find, ◌&&◌, not}
use Rattle.std.specs.List.{position_or_len}
use Rattle.std.specs.Ordering.{int_eq}
use Rattle.std.proofs.lemmas.Bool.Decides.{Decides-int_eq, nat_tests}
use Rattle.std.proofs.lemmas.List.{get_or-set_same, get_or-set_other, length-set, get_or-replicate, length-replicate}
use Rattle.idl_profile.specs.Types.{DefField, TypeTree, Fields, no_fields, field, field_list, fields_of, scalar, text, bytes, list_of, set_of, map_of, named, enum_of, struct_of}
use Rattle.frozen_model.specs.Trees.{Rising}
use Rattle.type_kinds.specs.Accepted.{IsAccepted}
use Rattle.type_kinds.specs.Defaults.{ids_of_fields}
use Rattle.type_kinds.specs.Laws.{Any}
use Rattle.typed_reading.specs.declared.fault.NodeFault.TheVariants.{MissingRequired}
use Rattle.typed_reading.specs.Faults.{has_id, is_among, missing, is_required}
use Rattle.typed_reading.specs.Marks.{place_in, Marked, ArePlaced, HaveStood}

-- ---- places

counted : (m n : ℕ) → cond (nat_lt (1 + m) (suc n)) (Some (1 + m)) None ≡ option_map suc (cond (nat_lt m n) (Some m) None)
counted m n = by (nat_lt m n) refl
  where
    by : (b : Bool) → nat_lt m n ≡ b → cond (nat_lt (1 + m) (suc n)) (Some (1 + m)) None ≡ option_map suc (cond (nat_lt m n) (Some m) None)
    by true p = let q : nat_lt (1 + m) (suc n) ≡ true = grind (arith, nat_tests) in let e : 1 + m ≡ suc m = omega arith in rw (p, q) (ap Some e)
    by false p = let q : nat_lt (1 + m) (suc n) ≡ false = grind (arith, nat_tests) in rw (p, q) refl

-- the place of an id among one more field
pub place_cons : (f : DefField) (fs : List DefField) (id : ℤ) → place_in (f ∷ fs) id ≡ cond (int_eq f.id id) (Some 0) (option_map suc (place_in fs id))
place_cons f fs id = by (int_eq f.id id) refl
  where
    at : Bool → ℕ
    at b = cond (not b) (1 + position_or_len (has_id id) fs) 0

    by : (b : Bool) → int_eq f.id id ≡ b → cond (nat_lt (at (int_eq f.id id)) (suc (length fs))) (Some (at (int_eq f.id id))) None ≡ cond (int_eq f.id id) (Some 0) (option_map suc (place_in fs id))
    by true p = let q : nat_lt 0 (suc (length fs)) ≡ true = grind (arith, nat_tests) in rw (p, q) refl
    by false p = rw p (counted (position_or_len (has_id id) fs) (length fs))

pub drop_get : (fs : List DefField) (i : ℕ) (f : DefField) → slice_get fs i ≡ Some f → drop i fs ≡ f ∷ drop (i + 1) fs
drop_get [] i f e = absurd cc
drop_get (g ∷ gs) zero f e = let k : g ≡ f = cc in ap (λ (h : DefField). h ∷ gs) k
drop_get (g ∷ gs) (suc i) f e = let s : suc i + 1 ≡ suc (i + 1) = omega arith in rw s (drop_get gs i f e)

pub field_there : (fs : List DefField) (i : ℕ) → i < length fs → (f : DefField) × (slice_get fs i ≡ Some f)
field_there [] i l = absurd (omega (arith, l))
field_there (g ∷ gs) zero l = (g, refl)
field_there (g ∷ gs) (suc i) l = field_there gs i (omega (arith, l))

pub drop_all : (fs : List DefField) (i : ℕ) → length fs ≤ i → drop i fs ≡ []
drop_all [] zero h = refl
drop_all [] (suc i) h = refl
drop_all (f ∷ fs) zero h = absurd (omega arith)
drop_all (f ∷ fs) (suc i) h = drop_all fs i (omega arith)

-- ---- what a place is

later_in : (n i : ℕ) (o : Option ℕ) → ((j : ℕ) → o ≡ Some j → j < n) → option_map suc o ≡ Some i → i < suc n
later_in n i None h q = absurd cc
later_in n i (Some j) h q = let k : suc j ≡ i = cc in omega (arith, k, h j refl)

pub place_inside : (fs : List DefField) (id : ℤ) (i : ℕ) → place_in fs id ≡ Some i → i < length fs
place_inside [] id i e = absurd cc
place_inside (f ∷ fs) id i e = by (int_eq f.id id) (λ j. place_inside fs id j) (sym (place_cons f fs id) ∙ e)
  where
    by : (b : Bool) → ((j : ℕ) → place_in fs id ≡ Some j → j < length fs) → cond b (Some 0) (option_map suc (place_in fs id)) ≡ Some i → i < suc (length fs)
    by true h q = let k : 0 ≡ i = cc in omega (arith, k)
    by false h q = later_in (length fs) i (place_in fs id) h q

pub place_fits : (fs : List DefField) (id : ℤ) (o : Option ℕ) → o ≡ place_in fs id → IfSome o (λ i. i < length fs)
place_fits fs id None e = tt
place_fits fs id (Some i) e = place_inside fs id i (sym e)

-- an id is that of the field at its place, which is the one that is found
abbrev IsAt : List DefField → ℤ → ℕ → Type 0
IsAt fs id i = (f : DefField) × (slice_get fs i ≡ Some f) × (int_eq f.id id ≡ true) × (find (has_id id) fs ≡ Some f)

later_at : (g : DefField) (fs : List DefField) (id : ℤ) (i : ℕ) (o : Option ℕ) → int_eq g.id id ≡ false → ((j : ℕ) → o ≡ Some j → IsAt fs id j) → option_map suc o ≡ Some i → IsAt (g ∷ fs) id i
later_at g fs id i None p h q = absurd cc
later_at g fs id i (Some j) p h q =
    let k : suc j ≡ i = cc in
    let r = h j refl in
    (r.0, ap (slice_get (g ∷ fs)) (sym k) ∙ r.1, r.2, ap (λ (b : Bool). cond b (Some g) (find (has_id id) fs)) p ∙ r.3)

pub place_is : (fs : List DefField) (id : ℤ) (i : ℕ) → place_in fs id ≡ Some i → IsAt fs id i
place_is [] id i e = absurd cc
place_is (f ∷ fs) id i e = by (int_eq f.id id) refl (λ j. place_is fs id j) (sym (place_cons f fs id) ∙ e)
  where
    by : (b : Bool) → int_eq f.id id ≡ b → ((j : ℕ) → place_in fs id ≡ Some j → IsAt fs id j) → cond b (Some 0) (option_map suc (place_in fs id)) ≡ Some i → IsAt (f ∷ fs) id i
    by true p h q = let k : 0 ≡ i = cc in (f, ap (slice_get (f ∷ fs)) (sym k), p, ap (λ (b : Bool). cond b (Some f) (find (has_id id) fs)) p)
    by false p h q = later_at f fs id i (place_in fs id) p h q

same_get : (fs : List DefField) (i : ℕ) (f g : DefField) → slice_get fs i ≡ Some f → slice_get fs i ≡ Some g → f ≡ g
same_get fs i f g p q = let h : Some f ≡ Some g = sym p ∙ q in cc

-- the field at the place of an id is the one that is found
pub place_find : (fs : List DefField) (id : ℤ) (i : ℕ) (f : DefField) → place_in fs id ≡ Some i → slice_get fs i ≡ Some f → find (has_id id) fs ≡ Some f
place_find fs id i f e g = let r = place_is fs id i e in r.3 ∙ ap Some (same_get fs i r.0 f r.1 g)

map_none : (o : Option ℕ) → option_map suc o ≡ None → o ≡ None
map_none None q = refl
map_none (Some j) q = absurd cc

-- a field is found only where it has a place
pub place_found : (fs : List DefField) (id : ℤ) → place_in fs id ≡ None → find (has_id id) fs ≡ None
place_found [] id e = refl
place_found (f ∷ fs) id e = by (int_eq f.id id) refl (place_found fs id) (sym (place_cons f fs id) ∙ e)
  where
    by : (b : Bool) → int_eq f.id id ≡ b → (place_in fs id ≡ None → find (has_id id) fs ≡ None) → cond b (Some 0) (option_map suc (place_in fs id)) ≡ None → find (has_id id) (f ∷ fs) ≡ None
    by true p h q = absurd cc
    by false p h q = rw p (h (map_none (place_in fs id) q))

pub int_eq_same : (x y : ℤ) → int_eq x y ≡ true → x ≡ y
int_eq_same x y e = (Decides-int_eq x y).0 e

pub int_eq_refl : (x : ℤ) → int_eq x x ≡ true
int_eq_refl x = (Decides-int_eq x x).1 refl

-- ---- where ids rise, each field stands at the place of its id

above_all : (n : ℕ) (fs : Fields) (i : ℕ) (f : DefField) → Rising n (ids_of_fields fs) → slice_get (field_list fs) i ≡ Some f → n < nat_abs f.id
above_all n no_fields i f r e = absurd cc
above_all n (field id w need t d fs) zero f r e = let same : id ≡ f.id = cc in omega (arith, r.0, ap nat_abs same)
above_all n (field id w need t d fs) (suc i) f r e = let h = above_all (nat_abs id) fs i f r.2 e in omega (arith, h, r.0)

other_id : (x y : ℤ) → nat_abs x < nat_abs y → int_eq x y ≡ false
other_id x y lt = by (int_eq x y) refl
  where
    by : (b : Bool) → int_eq x y ≡ b → b ≡ false
    by true p = absurd (omega (arith, lt, ap nat_abs (int_eq_same x y p)))
    by false p = refl

place_among : (n : ℕ) (fs : Fields) (i : ℕ) (f : DefField) → Rising n (ids_of_fields fs) → slice_get (field_list fs) i ≡ Some f → place_in (field_list fs) f.id ≡ Some i
place_among n no_fields i f r e = absurd cc
place_among n (field id w need t d fs) zero f r e =
    let same : id ≡ f.id = cc in
    place_cons (record { id = id; name = w; need = need; type = t; default = d }) (field_list fs) f.id
    ∙ ap (λ (b : Bool). cond b (Some 0) (option_map suc (place_in (field_list fs) f.id))) (ap (λ (z : ℤ). int_eq z f.id) same ∙ int_eq_refl f.id)
place_among n (field id w need t d fs) (suc i) f r e =
    place_cons (record { id = id; name = w; need = need; type = t; default = d }) (field_list fs) f.id
    ∙ ap (λ (b : Bool). cond b (Some 0) (option_map suc (place_in (field_list fs) f.id))) (other_id id f.id (above_all (nat_abs id) fs i f r.2 e))
    ∙ ap (option_map suc) (place_among (nat_abs id) fs i f r.2 e)

pub place_at : (t : TypeTree) (i : ℕ) (f : DefField) → IsAccepted Any t → slice_get (fields_of t) i ≡ Some f → place_in (fields_of t) f.id ≡ Some i
place_at (named (struct_of w fs)) i f a e = place_among 0 fs i f a.0 e
place_at (named (enum_of w ms)) i f a e = absurd cc
place_at text i f a e = absurd cc
place_at bytes i f a e = absurd cc
place_at (scalar s) i f a e = absurd cc
place_at (list_of t) i f a e = absurd cc
place_at (set_of t) i f a e = absurd cc
place_at (map_of k v) i f a e = absurd cc

pub fields_placed : (t : TypeTree) → IsAccepted Any t → ArePlaced (fields_of t)
fields_placed t a i f e = place_at t i f a e

-- ---- fields from the first on that stood

pub and_false : (b : Bool) → (b && false) ≡ false
and_false true = refl
and_false false = refl

pub stood_none : (fs : List DefField) (ids : List ℤ) → HaveStood fs ids 0
stood_none fs ids i f l e = absurd (omega (arith, l))

pub stood_beside : (fs : List DefField) (ids : List ℤ) (id : ℤ) (n : ℕ) → HaveStood fs ids n → HaveStood fs (id ∷ ids) n
stood_beside fs ids id n h i f l e = or_true (int_eq f.id id) (is_among f.id ids) (h i f l e)
  where
    or_true : (a b : Bool) → b ≡ true → (a || b) ≡ true
    or_true true b e = refl
    or_true false b e = e

pub below_or : (a b : ℕ) → (a < b) ⊎ (b ≤ a)
below_or a zero = inr (omega arith)
below_or zero (suc b) = inl (omega arith)
below_or (suc a) (suc b) = raise (below_or a b)
  where
    raise : (a < b) ⊎ (b ≤ a) → (suc a < suc b) ⊎ (suc b ≤ suc a)
    raise (inl x) = inl (omega (arith, x))
    raise (inr x) = inr (omega (arith, x))

-- the next one stands too
pub stood_more : (fs : List DefField) (ids : List ℤ) (id : ℤ) (n more : ℕ) → place_in fs id ≡ Some n → more ≤ n + 1 → HaveStood fs ids n → HaveStood fs (id ∷ ids) more
stood_more fs ids id n more p le h i f l e = by (below_or i n)
  where
    at : i ≡ n → (int_eq f.id id || is_among f.id ids) ≡ true
    at same =
        let r = place_is fs id n p in
        let g : r.0 ≡ f = same_get fs n r.0 f r.1 (sym (ap (slice_get fs) same) ∙ e) in
        let q : int_eq f.id id ≡ true = sym (ap (λ (x : DefField). int_eq x.id id) g) ∙ r.2 in
        ap (λ (b : Bool). b || is_among f.id ids) q

    by : (i < n) ⊎ (n ≤ i) → (int_eq f.id id || is_among f.id ids) ≡ true
    by (inl x) = stood_beside fs ids id n h i f x e
    by (inr x) = at (omega (arith, x, l, le))

pub stood_missing : (fs : List DefField) (ids : List ℤ) (n : ℕ) → HaveStood fs ids n → missing (drop n fs) ids ≡ missing fs ids
stood_missing [] ids zero h = refl
stood_missing [] ids (suc n) h = refl
stood_missing (f ∷ fs) ids zero h = refl
stood_missing (f ∷ fs) ids (suc n) h =
    let among : is_among f.id ids ≡ true = h 0 f (omega arith) refl in
    stood_missing fs ids n (λ i g l e. h (suc i) g (omega (arith, l)) e)
    ∙ sym (ap (λ (b : Bool). cond b (MissingRequired f.id ∷ []) (missing fs ids)) (ap (λ (b : Bool). is_required f.need && not b) among ∙ and_false (is_required f.need)))

-- ---- marks

pub missing_step : (fs : List DefField) (i : ℕ) (f : DefField) (ids : List ℤ) (b : Bool) → slice_get fs i ≡ Some f → (is_required f.need && not (is_among f.id ids)) ≡ b → missing (drop i fs) ids ≡ cond b (MissingRequired f.id ∷ []) (missing (drop (i + 1) fs) ids)
missing_step fs i f ids b e h = ap (λ (gs : List DefField). missing gs ids) (drop_get fs i f e) ∙ ap (λ (c : Bool). cond c (MissingRequired f.id ∷ []) (missing (drop (i + 1) fs) ids)) h

pub missing_done : (fs : List DefField) (i : ℕ) (ids : List ℤ) → length fs ≤ i → missing (drop i fs) ids ≡ []
missing_done fs i ids h = ap (λ (gs : List DefField). missing gs ids) (drop_all fs i h)

-- one place is of one id
one_id : (fs : List DefField) (id other : ℤ) (i : ℕ) → place_in fs id ≡ Some i → place_in fs other ≡ Some i → other ≡ id
one_id fs id other i p q =
    let a = place_is fs id i p in
    let b = place_is fs other i q in
    let same : a.0 ≡ b.0 = same_get fs i a.0 b.0 a.1 b.1 in
    sym (int_eq_same b.0.id other b.2) ∙ sym (ap (λ (f : DefField). f.id) same) ∙ int_eq_same a.0.id id a.2

-- a field that stands is marked
pub marked_more : (fs : List DefField) (marks : List Bool) (ids : List ℤ) (id : ℤ) (i : ℕ) → Marked fs marks ids → place_in fs id ≡ Some i → Marked fs (set marks i true) (id ∷ ids)
marked_more fs marks ids id i m e other j p = by (int_eq other id) refl
  where
    by : (b : Bool) → int_eq other id ≡ b → (j < length (set marks i true)) × (get_or (set marks i true) j false ≡ (int_eq other id || is_among other ids))
    by true h =
        let same : other ≡ id = int_eq_same other id h in
        let k : Some j ≡ Some i = sym p ∙ ap (place_in fs) same ∙ e in
        let at : j ≡ i = cc in
        let lt = (m id i e).0 in (
          omega (arith, at, lt, length-set marks i true),
          ap (λ (n : ℕ). get_or (set marks i true) n false) at ∙ get_or-set_same marks i true false lt ∙ sym (ap (λ (b : Bool). b || is_among other ids) h),
        )
    by false h =
        let ne : j ≢ i = λ k. (let q : int_eq other id ≡ true = ap (λ (z : ℤ). int_eq z id) (one_id fs id other i e (p ∙ ap Some k)) ∙ int_eq_refl id in cc) in
        let was = m other j p in (
          omega (arith, was.0, length-set marks i true),
          get_or-set_other marks i j true false ne ∙ was.1 ∙ sym (ap (λ (b : Bool). b || is_among other ids) h),
        )

-- and one that the type does not have marks nothing
pub marked_unknown : (fs : List DefField) (marks : List Bool) (ids : List ℤ) (id : ℤ) → Marked fs marks ids → place_in fs id ≡ None → Marked fs marks (id ∷ ids)
marked_unknown fs marks ids id m e other j p = by (int_eq other id) refl
  where
    by : (b : Bool) → int_eq other id ≡ b → (j < length marks) × (get_or marks j false ≡ (int_eq other id || is_among other ids))
    by true h = let k : Some j ≡ None = sym p ∙ ap (place_in fs) (int_eq_same other id h) ∙ e in absurd cc
    by false h = let was = m other j p in (was.0, was.1 ∙ sym (ap (λ (b : Bool). b || is_among other ids) h))

-- marks that are all unset
pub unmarked : (fs : List DefField) (marks : List Bool) (n : ℕ) → marks ≡ replicate n false → n ≡ length fs → Marked fs marks []
unmarked fs marks n all len id i e =
    let lt : i < n = omega (arith, len, place_inside fs id i e) in
    (omega (arith, ap length all, length-replicate n false, lt), ap (λ (ms : List Bool). get_or ms i false) all ∙ get_or-replicate n i false false lt)
