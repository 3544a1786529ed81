-- The fields of a struct without faults, as they are read and put.
use Rattle.std.proofs.Common.{◌≡◌, ◌⊎◌, inl, inr, ℕ, zero, suc, ◌+◌, ◌-◌, ◌≤◌, ◌<◌, List, [], ◌∷◌, ◌++◌, length, map, take, drop, set, get_or, Bool, true, false, ◌||◌, cond, Option, Some, None, Result, Ok, Err, refl, sym, ap, subst, ◌∙◌, arith, length-append, append_assoc, append-nil}
use Rattle.std.specs.Prelude.{ℤ, pos, slice_get, find, option_map}
use Rattle.std.specs.List.{AllByRecursion}
use Rattle.std.specs.Ordering.{int_eq}
use Rattle.std.proofs.lemmas.Bool.{cases_lt}
use Rattle.std.proofs.lemmas.List.{get_or-set_same, drop-set-add, take-set-le, take-append-le, map-append}
use Rattle.exact_reading.specs.declared.stop.Stop.{Stop}
use Rattle.exact_reading.specs.Reading.{◌>>=◌, and_then, pure, seen}
use Rattle.exact_reading.proofs.Items.{ok_is, bind_ok}
use Rattle.frozen_model.specs.Values.{Value, Absent}
use Rattle.compact_wire.specs.declared.header.FieldType.{FieldType}
use Rattle.compact_wire.specs.Bytes.{AreBytes}
use Rattle.compact_wire.specs.Node.{Node, structure, Fields, no_fields, field}
use Rattle.compact_wire.specs.Reads.{value, typed, fields, all_fields, field_start}
use Rattle.compact_wire.proofs.ReadSteps.{rest_of, unroll, field_takes}
use Rattle.wire_scan.specs.Sizes.{size}
use Rattle.wire_scan.proofs.Seen.{seen_ok}
use Rattle.idl_profile.specs.Types.{TypeTree, DefField, fields_of}
use Rattle.idl_profile.specs.declared.kinds.Need.{Need}
use Rattle.typed_tree.specs.Filled.{struct_with}
use Rattle.typed_reading.specs.Codes.{code}
use Rattle.typed_reading.specs.Faults.{has_id, type_of_field, type_in, is_among, faults, faults_in_fields, of_field}
use Rattle.typed_reading.specs.Marks.{Marked, place_in}
use Rattle.typed_reading.specs.Meaning.{given, field_value, reading, readings, meaning}
use Rattle.typed_reading.proofs.FieldLaws.{place_is, place_find, place_found, marked_more}
use Rattle.typed_reading.proofs.Valued.{none_of, clean_below}
use Rattle.compact_codec.specs.Building.{IsClean, IsFieldClean, with_value, need_in, standing, ids_of, AreFresh, IsKnown, Holds, IsPut, IsBehind, AreSet}
use Rattle.compact_codec.proofs.Clean.{clean_code}
use Rattle.compact_codec.proofs.Gathered.{fresh_more, int_other}

not_ok : (d : Stop) (p : Fields × List ℕ) → ◌≡◌ {A = Result (Fields × List ℕ) Stop} (Err d) (Ok p) → ⊥
not_ok d p e = cc

-- ---- what is still read

module _ (levels : ℕ) (fs : List DefField) (bytes : List ℕ) where
  -- of all fields the values so far are known, and the others are still to be read
  pub record Left (rs : List (ℤ × Value)) (before : ℤ) (rest : List ℕ) : Type 0 where
    pub whole : Fields
    pub end : List ℕ
    pub whole_is : all_fields levels (value levels) bytes ≡ Ok (whole, end)
    pub turns : ℕ
    pub enough : length rest < turns
    pub bytes_left : AreBytes rest
    pub others : Fields
    pub read : fields levels (value levels) turns before rest ≡ Ok (others, end)
    pub stood : List ℤ
    pub at : ℕ
    pub clean : faults_in_fields others fs stood at ≡ []
    pub split : readings whole fs ≡ rs ++ readings others fs
    pub same : (id : ℤ) → IsKnown fs id → is_among id stood ≡ is_among id (ids_of rs)

  read_is : (rs : List (ℤ × Value)) (before : ℤ) (rest : List ℕ) (l : Left rs before rest) → (field_start levels before rest >>= λ q. rest_of levels (l.turns - 1) q.0 q.1) ≡ Ok (l.others, l.end)
  read_is rs before rest l =
      let t : l.turns ≡ suc (l.turns - 1) = omega (arith, l.enough) in
      sym (unroll levels (l.turns - 1) before rest) ∙ ap (λ (n : ℕ). fields levels (value levels) n before rest) (sym t) ∙ l.read

  pub left_not : (rs : List (ℤ × Value)) (before : ℤ) (rest : List ℕ) (d : Stop) → Left rs before rest → field_start levels before rest ≡ Err d → ⊥
  left_not rs before rest d l h =
      not_ok d (l.others, l.end) (ap (λ o. o >>= λ q. rest_of levels (l.turns - 1) q.0 q.1) (sym h) ∙ read_is rs before rest l)

  pub left_done : (rs : List (ℤ × Value)) (before : ℤ) (rest after : List ℕ) (l : Left rs before rest) → field_start levels before rest ≡ Ok (None, after) → (l.end ≡ after) × (readings l.whole fs ≡ rs)
  left_done rs before rest after l h =
      let e : Ok (no_fields, after) ≡ Ok (l.others, l.end) = ap (λ o. o >>= λ q. rest_of levels (l.turns - 1) q.0 q.1) (sym h) ∙ read_is rs before rest l in
      let p = ok_is no_fields l.others after l.end e in
      (sym p.1, l.split ∙ ap (λ (xs : Fields). rs ++ readings xs fs) (sym p.0) ∙ append-nil rs)

  -- a field, and the others behind it
  pub record Next (rs : List (ℤ × Value)) (before : ℤ) (rest : List ℕ) (id : ℤ) (ty : FieldType) (mid : List ℕ) (l : Left rs before rest) : Type 0 where
    pub x : Node
    pub after : List ℕ
    pub xs : Fields
    pub reads : typed (value levels) ty mid ≡ Ok (x, after)
    pub reads_on : fields levels (value levels) (l.turns - 1) id after ≡ Ok (xs, l.end)
    pub is : l.others ≡ field id x xs

  pub left_next : (rs : List (ℤ × Value)) (before : ℤ) (rest : List ℕ) (id : ℤ) (ty : FieldType) (mid : List ℕ) (l : Left rs before rest) → field_start levels before rest ≡ Ok (Some (id, ty), mid) → Next rs before rest id ty mid l
  left_next rs before rest id ty mid l h =
      let e : (typed (value levels) ty mid >>= λ p. fields levels (value levels) (l.turns - 1) id p.1 >>= λ q. Ok (field id p.0 q.0, q.1)) ≡ Ok (l.others, l.end) =
      ap (λ o. o >>= λ q. rest_of levels (l.turns - 1) q.0 q.1) (sym h) ∙ read_is rs before rest l in
      let a = bind_ok (typed (value levels) ty mid) (λ p. fields levels (value levels) (l.turns - 1) id p.1 >>= λ q. Ok (field id p.0 q.0, q.1)) (l.others, l.end) e in
      let b = bind_ok (fields levels (value levels) (l.turns - 1) id a.0.1) (λ q. Ok (field id a.0.0 q.0, q.1)) (l.others, l.end) a.2 in
      let p = ok_is (field id a.0.0 b.0.0) l.others b.0.1 l.end b.2 in
      record {
        x = a.0.0;
        after = a.0.1;
        xs = b.0.0;
        reads = a.1;
        reads_on = b.1 ∙ ap (λ (r : List ℕ). Ok (b.0.0, r)) p.1;
        is = sym p.0;
      }

  field_clean : (rs : List (ℤ × Value)) (before : ℤ) (rest : List ℕ) (id : ℤ) (ty : FieldType) (mid : List ℕ) (l : Left rs before rest) (n : Next rs before rest id ty mid l)
      → (of_field (type_in fs id) (is_among id l.stood) n.x (λ t. faults n.x t l.at) l.at ≡ []) × (faults_in_fields n.xs fs (id ∷ l.stood) (l.at + size n.x) ≡ [])
  field_clean rs before rest id ty mid l n =
      none_of (of_field (type_in fs id) (is_among id l.stood) n.x (λ t. faults n.x t l.at) l.at) (faults_in_fields n.xs fs (id ∷ l.stood) (l.at + size n.x))
      (sym (ap (λ (xs : Fields). faults_in_fields xs fs l.stood l.at) n.is) ∙ l.clean)

  pub left_clean : (rs : List (ℤ × Value)) (before : ℤ) (rest : List ℕ) (id : ℤ) (ty : FieldType) (mid : List ℕ) (l : Left rs before rest) → field_start levels before rest ≡ Ok (Some (id, ty), mid) → IsFieldClean fs id (typed (value levels) ty mid)
  left_clean rs before rest id ty mid l h =
      let n = left_next rs before rest id ty mid l h in
      subst (IsFieldClean fs id) (sym n.reads) (l.at, is_among id l.stood, (field_clean rs before rest id ty mid l n).0)

-- ---- known and unknown fields

pub known_at : (fs : List DefField) (id : ℤ) (i : ℕ) → place_in fs id ≡ Some i → IsKnown fs id
known_at fs id i e = let p = place_is fs id i e in by fs p.0 p.3
  where
    by : (gs : List DefField) (f : DefField) → find (has_id id) gs ≡ Some f → IsKnown gs id
    by [] f q = absurd cc
    by (g ∷ gs) f q = split (int_eq g.id id) refl q (by gs f)
      where
        split : (b : Bool) → int_eq g.id id ≡ b → cond b (Some g) (find (has_id id) gs) ≡ Some f → (find (has_id id) gs ≡ Some f → IsKnown gs id) → IsKnown (g ∷ gs) id
        split true e q more = inl e
        split false e q more = inr (more q)

unknown_at : (fs : List DefField) (id : ℤ) → find (has_id id) fs ≡ None → IsKnown fs id → ⊥
unknown_at [] id e k = k
unknown_at (f ∷ fs) id e k = by (int_eq f.id id) refl e k (unknown_at fs id)
  where
    by : (b : Bool) → int_eq f.id id ≡ b → cond b (Some f) (find (has_id id) fs) ≡ None → (int_eq f.id id ≡ true) ⊎ IsKnown fs id → (find (has_id id) fs ≡ None → IsKnown fs id → ⊥) → ⊥
    by true e q k more = cc
    by false e q (inl p) more = let d : true ≡ false = sym p ∙ e in cc
    by false e q (inr p) more = more q p

need_is : (fs : List DefField) (id : ℤ) (f : DefField) → find (has_id id) fs ≡ Some f → need_in fs id ≡ f.need
need_is [] id f e = absurd cc
need_is (g ∷ gs) id f e = by (int_eq g.id id) e (need_is gs id f)
  where
    by : (b : Bool) → cond b (Some g) (find (has_id id) gs) ≡ Some f → (find (has_id id) gs ≡ Some f → need_in gs id ≡ f.need) → cond b g.need (need_in gs id) ≡ f.need
    by true q more = let same : g ≡ f = cc in ap (λ (h : DefField). h.need) same
    by false q more = more q

among_more : (id x : ℤ) (is : List ℤ) → is_among x (is ++ id ∷ []) ≡ (int_eq x id || is_among x is)
among_more id x [] = refl
among_more id x (i ∷ is) = ap (λ (b : Bool). int_eq x i || b) (among_more id x is) ∙ swap (int_eq x i) (int_eq x id) (is_among x is)
  where
    swap : (a b c : Bool) → (a || (b || c)) ≡ (b || (a || c))
    swap true true c = refl
    swap true false c = refl
    swap false true c = refl
    swap false false c = refl

ids_more : (rs : List (ℤ × Value)) (id : ℤ) (v : Value) → ids_of (rs ++ (id, v) ∷ []) ≡ ids_of rs ++ id ∷ []
ids_more rs id v = map-append (λ (r : ℤ × Value). r.0) rs ((id, v) ∷ [])

-- ---- from the first field on

pub left_begin : (t : TypeTree) (levels : ℕ) (bytes : List ℕ) → AreBytes bytes → IsClean t (and_then (all_fields levels (value levels)) (λ xs. pure (structure xs)) bytes)
    → (code t ≡ 12) × Left levels (fields_of t) bytes [] (pos 0) bytes
left_begin t levels bytes h clean = by (all_fields levels (value levels) bytes) refl clean
  where
    by : (r : Result (Fields × List ℕ) Stop) → all_fields levels (value levels) bytes ≡ r → IsClean t (r >>= λ p. Ok (structure p.0, p.1)) → (code t ≡ 12) × Left levels (fields_of t) bytes [] (pos 0) bytes
    by (Ok p) e g =
        let c = clean_below t (structure p.0) g.0 (faults_in_fields p.0 (fields_of t) [] (suc g.0)) g.1 in (
          sym (clean_code t (structure p.0) c.0),
          record {
            whole = p.0;
            end = p.1;
            whole_is = e;
            turns = suc (length bytes);
            enough = omega arith;
            bytes_left = h;
            others = p.0;
            read = e;
            stood = [];
            at = suc g.0;
            clean = c.1;
            split = refl;
            same = λ id k. refl;
          },
        )
    by (Err d) e g = absurd g

-- the same where the fields of the type are told on their own
pub fields_begin : (t : TypeTree) (fs : List DefField) → fs ≡ fields_of t → (levels : ℕ) (bytes : List ℕ) → AreBytes bytes → IsClean t (and_then (all_fields levels (value levels)) (λ xs. pure (structure xs)) bytes)
    → (code t ≡ 12) × Left levels fs bytes [] (pos 0) bytes
fields_begin t fs same levels bytes h clean =
    let r = left_begin t levels bytes h clean in
    (r.0, subst (λ (gs : List DefField). Left levels gs bytes [] (pos 0) bytes) (sym same) r.1)

read_more : (rs qs : List (ℤ × Value)) (id : ℤ) (o : Option TypeTree) (f : TypeTree → Value) → rs ++ reading id o f qs ≡ (rs ++ reading id o f []) ++ qs
read_more rs qs id None f = ap (λ (zs : List (ℤ × Value)). zs ++ qs) (sym (append-nil rs))
read_more rs qs id (Some t) f = sym (append_assoc rs ((id, f t) ∷ []) qs)

-- whether an id stood, with one more that did
same_more : (fs : List DefField) (rs : List (ℤ × Value)) (stood : List ℤ) (id : ℤ) (f : TypeTree → Value) → ((x : ℤ) → IsKnown fs x → is_among x stood ≡ is_among x (ids_of rs))
    → (x : ℤ) → IsKnown fs x → is_among x (id ∷ stood) ≡ is_among x (ids_of (rs ++ reading id (type_in fs id) f []))
same_more fs rs stood id f same x k = by (find (has_id id) fs) refl
  where
    by : (o : Option DefField) → find (has_id id) fs ≡ o → (int_eq x id || is_among x stood) ≡ is_among x (ids_of (rs ++ reading id (option_map type_of_field o) f []))
    by None e =
        let other = int_other x id (λ p. unknown_at fs id e (subst (IsKnown fs) p k)) in
        ap (λ (b : Bool). b || is_among x stood) other ∙ same x k ∙ ap (λ (zs : List (ℤ × Value)). is_among x (ids_of zs)) (sym (append-nil rs))
    by (Some g) e =
        ap (λ (b : Bool). int_eq x id || b) (same x k) ∙ sym (among_more id x (ids_of rs)) ∙ ap (is_among x) (sym (ids_more rs id (f g.type)))

module _ (levels : ℕ) (fs : List DefField) (bytes : List ℕ) (rs : List (ℤ × Value)) (before : ℤ) (rest : List ℕ) (id : ℤ) (ty : FieldType) (mid : List ℕ) (l : Left levels fs bytes rs before rest)
    (h : field_start levels before rest ≡ Ok (Some (id, ty), mid)) where
  -- behind a field
  pub left_on : (w : Node) (after : List ℕ) → typed (value levels) ty mid ≡ Ok (w, after) → (length after < length rest) × Left levels fs bytes (rs ++ reading id (type_in fs id) (meaning w) []) id after
  left_on w after e =
      let n = left_next levels fs bytes rs before rest id ty mid l h in
      let p = ok_is n.x w n.after after (sym n.reads ∙ e) in
      let takes = field_takes levels before rest id ty mid w after l.bytes_left h e in
      let c = field_clean levels fs bytes rs before rest id ty mid l n in (
        takes.0,
        record {
          whole = l.whole;
          end = l.end;
          whole_is = l.whole_is;
          turns = l.turns - 1;
          enough = omega (arith, l.enough, takes.0);
          bytes_left = takes.1;
          others = n.xs;
          read = ap (fields levels (value levels) (l.turns - 1) id) (sym p.1) ∙ n.reads_on;
          stood = id ∷ l.stood;
          at = l.at + size n.x;
          clean = c.1;
          split = l.split ∙ ap (λ (xs : Fields). rs ++ readings xs fs) n.is
              ∙ ap (λ (x : Node). rs ++ reading id (type_in fs id) (meaning x) (readings n.xs fs)) p.0
              ∙ read_more rs (readings n.xs fs) id (type_in fs id) (meaning w);
          same = same_more fs rs l.stood id (meaning w) l.same;
        },
      )

  -- a known field did not stand before
  pub left_new : IsKnown fs id → is_among id (ids_of rs) ≡ false
  left_new k =
      let n = left_next levels fs bytes rs before rest id ty mid l h in
      sym (l.same id k) ∙ by n.x (find (has_id id) fs) refl (is_among id l.stood) (field_clean levels fs bytes rs before rest id ty mid l n).0
    where
      by : (x : Node) (o : Option DefField) → find (has_id id) fs ≡ o → (b : Bool) → of_field (option_map type_of_field o) b x (λ t. faults x t l.at) l.at ≡ [] → b ≡ false
      by x None e b q = absurd (unknown_at fs id e k)
      by x (Some f) e true q = absurd cc
      by x (Some f) e false q = refl

-- ---- marks that are set

set_kept : (ms : List Bool) (i j : ℕ) → get_or ms j false ≡ true → get_or (set ms i true) j false ≡ true
set_kept [] i j e = absurd cc
set_kept (m ∷ ms) zero zero e = refl
set_kept (m ∷ ms) zero (suc j) e = e
set_kept (m ∷ ms) (suc i) zero e = e
set_kept (m ∷ ms) (suc i) (suc j) e = set_kept ms i j e

set_there : (ms : List Bool) (i j : ℕ) → i ≡ j → i < length ms → get_or (set ms i true) j false ≡ true
set_there ms i j e lt = ap (λ (k : ℕ). get_or (set ms i true) k false) (sym e) ∙ get_or-set_same ms i true false lt

-- ---- fields that are put

pub marked_as : (fs : List DefField) (ms : List Bool) (is js : List ℤ) → ((x : ℤ) → is_among x is ≡ is_among x js) → Marked fs ms is → Marked fs ms js
marked_as fs ms is js same m id i e = let r = m id i e in (r.0, r.1 ∙ same id)

known_more : (fs : List DefField) (is : List ℤ) (id : ℤ) → AllByRecursion (IsKnown fs) is → IsKnown fs id → AllByRecursion (IsKnown fs) (is ++ id ∷ [])
known_more fs [] id h k = (k, tt)
known_more fs (i ∷ is) id h k = (h.0, known_more fs is id h.1 k)

pub drop_more : {A : Type 0} (n : ℕ) (xs ys : List A) → n ≤ length xs → drop n (xs ++ ys) ≡ drop n xs ++ ys
drop_more zero xs ys h = refl
drop_more (suc n) [] ys h = absurd (omega arith)
drop_more (suc n) (x ∷ xs) ys h = drop_more n xs ys (omega arith)

module _ (fs : List DefField) (front : List Value) (rs : List (ℤ × Value)) (id : ℤ) (w : Node) (b1 b2 : ℕ) (vs us : List Value) (is js : List ℤ) (ms ns : List Bool) (h : Holds fs front rs vs (drop b1 is) (drop b2 ms)) (le : b1 ≤ length is) where
  abbrev more : List (ℤ × Value)
  more = rs ++ reading id (type_in fs id) (meaning w) []

  -- what holds behind a field that was put, or passed over
  pub record Behind : Type 0 where
    pub holds : Holds fs front more us (drop b1 js) (drop b2 ns)
    pub long : b1 ≤ length js
    pub ids_below : take b1 js ≡ take b1 is
    pub marks_below : take b2 ns ≡ take b2 ms

  unknown_put : place_in fs id ≡ None → us ≡ vs → js ≡ is → ns ≡ ms → Behind
  unknown_put none e f g =
      let unknown : type_in fs id ≡ None = ap (option_map type_of_field) (place_found fs id none) in
      let same : more ≡ rs = ap (λ (o : Option TypeTree). rs ++ reading id o (meaning w) []) unknown ∙ append-nil rs in
      record {
        holds = subst (λ (z : List (ℤ × Value)). Holds fs front z us (drop b1 js) (drop b2 ns)) (sym same)
            (subst (λ (z : List Value). Holds fs front rs z (drop b1 js) (drop b2 ns)) (sym e)
            (subst (λ (z : List ℤ). Holds fs front rs vs (drop b1 z) (drop b2 ns)) (sym f) (subst (λ (z : List Bool). Holds fs front rs vs (drop b1 is) (drop b2 z)) (sym g) h)));
        long = subst (λ (z : List ℤ). b1 ≤ length z) (sym f) le;
        ids_below = ap (take b1) f;
        marks_below = ap (take b2) g;
      }

  known_put : (i : ℕ) → place_in fs id ≡ Some i → is_among id (ids_of rs) ≡ false → (f : DefField) → slice_get fs i ≡ Some f → us ≡ vs ++ given f.need (Some (meaning w f.type)) Absent ∷ [] → js ≡ is ++ id ∷ [] → ns ≡ set ms (b2 + i) true → Behind
  known_put i place new f there e g k =
      let found = place_find fs id i f place there in
      let v = meaning w f.type in
      let same : more ≡ rs ++ (id, v) ∷ [] = ap (λ (o : Option DefField). rs ++ reading id (option_map type_of_field o) (meaning w) []) found in
      let ids = ap ids_of same ∙ ids_more rs id v in
      let stands : standing fs (id, v) ≡ given f.need (Some v) Absent = ap (λ (n : Need). given n (Some v) Absent) (need_is fs id f found) in
      let marks : drop b2 ns ≡ set (drop b2 ms) i true = ap (drop b2) k ∙ drop-set-add b2 ms i true in
      record {
        holds = record {
          trees = e ∙ ap (λ (zs : List Value). zs ++ given f.need (Some v) Absent ∷ []) h.trees ∙ append_assoc front (map (standing fs) rs) (given f.need (Some v) Absent ∷ [])
              ∙ ap (λ (z : Value). front ++ (map (standing fs) rs ++ z ∷ [])) (sym stands)
              ∙ ap (λ (zs : List Value). front ++ zs) (sym (map-append (standing fs) rs ((id, v) ∷ [])))
              ∙ ap (λ (zs : List (ℤ × Value)). front ++ map (standing fs) zs) (sym same);
          ids_are = ap (drop b1) g ∙ drop_more b1 is (id ∷ []) le ∙ ap (λ (zs : List ℤ). zs ++ id ∷ []) h.ids_are ∙ sym ids;
          marked = subst (λ (zs : List ℤ). Marked fs (drop b2 ns) zs) (sym ids)
              (subst (λ (zs : List Bool). Marked fs zs (ids_of rs ++ id ∷ [])) (sym marks)
              (marked_as fs (set (drop b2 ms) i true) (id ∷ ids_of rs) (ids_of rs ++ id ∷ []) (λ x. sym (among_more id x (ids_of rs))) (marked_more fs (drop b2 ms) (ids_of rs) id i h.marked place)));
          known = subst (AllByRecursion (IsKnown fs)) (sym ids) (known_more fs (ids_of rs) id h.known (known_at fs id i place));
          fresh = subst (AreFresh []) (sym ids) (fresh_more [] (ids_of rs) id h.fresh new refl);
        };
        long = subst (λ (z : List ℤ). b1 ≤ length z) (sym g) (omega (arith, le, length-append is (id ∷ [])));
        ids_below = ap (take b1) g ∙ take-append-le b1 is (id ∷ []) le;
        marks_below = ap (take b2) k ∙ take-set-le b2 ms (b2 + i) true (omega arith);
      }

  pub put_on : (place : Option ℕ) → place ≡ place_in fs id → (IsKnown fs id → is_among id (ids_of rs) ≡ false) → IsPut fs place id b2 w vs us is js ms ns → Behind
  put_on None p new put = unknown_put (sym p) put.0 put.1 put.2
  put_on (Some i) p new put = known_put i (sym p) (new (known_at fs id i (sym p))) put.0 put.1 put.2 put.3 put.4

  -- the leading fields that stood, behind it
  pub filled_on : (place : Option ℕ) → place ≡ place_in fs id → IsPut fs place id b2 w vs us is js ms ns → (n m : ℕ) → IsBehind place n m → AreSet n (drop b2 ms) → AreSet m (drop b2 ns)
  filled_on None p put n m (inl same) set i lt = ap (λ (zs : List Bool). get_or (drop b2 zs) i false) put.2 ∙ set i (omega (arith, lt, same))
  filled_on None p put n m (inr q) set i lt = absurd (let no : None ≡ Some n = q.0 in cc)
  filled_on (Some j) p put n m (inl same) set i lt =
      ap (λ (zs : List Bool). get_or (drop b2 zs) i false) put.4 ∙ ap (λ (zs : List Bool). get_or zs i false) (drop-set-add b2 ms j true)
      ∙ set_kept (drop b2 ms) j i (set i (omega (arith, lt, same)))
  filled_on (Some j) p put n m (inr q) set i lt =
      let here : j ≡ n = cc in
      ap (λ (zs : List Bool). get_or (drop b2 zs) i false) put.4 ∙ ap (λ (zs : List Bool). get_or zs i false) (drop-set-add b2 ms j true)
      ∙ elim (cases_lt i n) [
        | inl old ↦ set_kept (drop b2 ms) j i (set i old)
        | inr le ↦ (let this : j ≡ i = omega (arith, here, le, lt, q.1) in set_there (drop b2 ms) j i this (h.marked id j (sym p)).0)
      ]

-- ---- a field's own value

of_none : (o : Option DefField) (f : DefField) (again : Bool) (x : Node) (at : ℕ) → o ≡ Some f → of_field (option_map type_of_field o) again x (λ t. faults x t at) at ≡ [] → faults x f.type at ≡ []
of_none None f again x at e q = absurd cc
of_none (Some g) f true x at e q = absurd cc
of_none (Some g) f false x at e q = let same : g ≡ f = cc in subst (λ (h : DefField). faults x h.type at ≡ []) same q

-- the value of a known field has no fault
pub known_clean : (fs : List DefField) (id : ℤ) (i : ℕ) (f : DefField) (r : Result (Node × List ℕ) Stop) → place_in fs id ≡ Some i → slice_get fs i ≡ Some f → IsFieldClean fs id r → IsClean f.type r
known_clean fs id i f (Ok p) place there h = (h.0, of_none (find (has_id id) fs) f h.1 p.0 h.0 (place_find fs id i f place there) h.2)
known_clean fs id i f (Err e) place there h = absurd h

pub field_not : (fs : List DefField) (id : ℤ) (r : Result (Node × List ℕ) Stop) (e : Stop) → IsFieldClean fs id r → r ≡ Err e → ⊥
field_not fs id r e h q = subst (IsFieldClean fs id) q h

-- ---- the whole struct

pub struct_built : (t : TypeTree) (fs : List DefField) → fs ≡ fields_of t → (levels : ℕ) (bytes : List ℕ) (rs : List (ℤ × Value)) (before : ℤ) (rest after : List ℕ) (l : Left levels fs bytes rs before rest) → field_start levels before rest ≡ Ok (None, after) → (vs us : List Value)
    → us ≡ vs ++ struct_with fs (map (field_value rs) fs) ∷ [] → seen (with_value t vs) (and_then (all_fields levels (value levels)) (λ xs. pure (structure xs)) bytes) ≡ Ok (us, after)
struct_built t fs same levels bytes rs before rest after l h vs us e =
    let d = left_done levels fs bytes rs before rest after l h in
    let all : readings l.whole (fields_of t) ≡ rs = ap (readings l.whole) (sym same) ∙ d.1 in
    let put : us ≡ vs ++ struct_with (fields_of t) (map (field_value rs) (fields_of t)) ∷ [] = e ∙ ap (λ (gs : List DefField). vs ++ struct_with gs (map (field_value rs) gs) ∷ []) same in
    ap (λ (r : Result (Fields × List ℕ) Stop). seen (with_value t vs) (r >>= λ p. Ok (structure p.0, p.1))) l.whole_is
    ∙ ap (λ (qs : List (ℤ × Value)). Ok (vs ++ struct_with (fields_of t) (map (field_value qs) (fields_of t)) ∷ [], l.end)) all
    ∙ ap (λ (b : List ℕ). Ok (vs ++ struct_with (fields_of t) (map (field_value rs) (fields_of t)) ∷ [], b)) d.0 ∙ ap (λ (zs : List Value). Ok (zs, after)) (sym put)

-- ---- nothing stood, and nothing was put

drop_past : {A : Type 0} (xs : List A) → drop (length xs) xs ≡ []
drop_past [] = refl
drop_past (x ∷ xs) = drop_past xs

pub holds_none : (fs : List DefField) (vs : List Value) (is : List ℤ) (n : ℕ) (ms : List Bool) → n ≡ length is → Marked fs ms [] → Holds fs vs [] vs (drop n is) ms
holds_none fs vs is n ms e m = record {
  trees = sym (append-nil vs);
  ids_are = ap (λ (k : ℕ). drop k is) e ∙ drop_past is;
  marked = m;
  known = tt;
  fresh = tt;
}

pub unknown_is : (fs : List DefField) (place : Option ℕ) (id : ℤ) (base : ℕ) (w : Node) (vs : List Value) (is : List ℤ) (ms : List Bool) → place ≡ None → IsPut fs place id base w vs vs is is ms ms
unknown_is fs place id base w vs is ms e = subst (λ (o : Option ℕ). IsPut fs o id base w vs vs is is ms ms) (sym e) (refl, refl, refl)

-- the tree of a known field, which was put and wrapped
pub field_put : (fs : List DefField) (place : Option ℕ) (i : ℕ) (id : ℤ) (base : ℕ) (u : TypeTree) (f : DefField) (r : Result (Node × List ℕ) Stop) (rest : List ℕ) (vs us ws : List Value) (is js : List ℤ) (ms ns : List Bool)
    → place ≡ Some i → slice_get fs i ≡ Some f → u ≡ f.type → seen (with_value u vs) r ≡ Ok (us, rest) → ((zs : List Value) (v : Value) → us ≡ zs ++ v ∷ [] → ws ≡ zs ++ given f.need (Some v) Absent ∷ [])
    → js ≡ is ++ id ∷ [] → ns ≡ set ms (base + i) true
    → (w : Node) × (r ≡ Ok (w, rest)) × IsPut fs place id base w vs ws is js ms ns
field_put fs place i id base u f r rest vs us ws is js ms ns e there same built wrapped ids marks =
    let x = seen_ok (with_value u vs) r us rest built in
    let v : ws ≡ vs ++ given f.need (Some (meaning x.0 f.type)) Absent ∷ [] =
    wrapped vs (meaning x.0 u) (sym x.2) ∙ ap (λ (z : TypeTree). vs ++ given f.need (Some (meaning x.0 z)) Absent ∷ []) same in
    (x.0, x.1, subst (λ (o : Option ℕ). IsPut fs o id base x.0 vs ws is js ms ns) (sym e) (f, there, v, ids, marks))

-- a tree was put
pub field_there : (u : TypeTree) (r : Result (Node × List ℕ) Stop) (rest : List ℕ) (vs us : List Value) → seen (with_value u vs) r ≡ Ok (us, rest) → 0 < length us
field_there u r rest vs us built =
    let x = seen_ok (with_value u vs) r us rest built in
    omega (arith, ap (λ (zs : List Value). length zs) x.2, length-append vs (meaning x.0 u ∷ []))
