-- The first field of an id, found by going from field to field, and its flag or number.
use Rattle.std.proofs.Common.{◌≡◌, ◌≢◌, ℕ, suc, ◌+◌, ◌<◌, List, [], ◌∷◌, ◌++◌, length, Bool, true, false, cond, Option, Some, None, Result, Ok, Err, refl, sym, ap, subst, ◌∙◌, arith}
use Rattle.std.specs.Prelude.{ℤ, pos}
use Rattle.std.specs.Ordering.{int_eq}
use Rattle.exact_reading.specs.declared.stop.Stop.{Stop}
use Rattle.exact_reading.specs.Reading.{◌>>=◌, and_then, pure, seen, meaning as read_meaning}
use Rattle.exact_reading.proofs.Items.{admitted-back, bind_ok, ok_is}
use Rattle.exact_reading.proofs.Combinators.{meaning_ok}
use Rattle.frozen_model.specs.Values.{Value}
use Rattle.compact_wire.specs.declared.header.FieldType.{FieldType}
use Rattle.compact_wire.specs.declared.header.FieldType.TheVariants.{Given as given_flag, Of as of_kind}
use Rattle.compact_wire.specs.declared.kind.Kind.{Kind}
use Rattle.compact_wire.specs.declared.kind.Kind.TheVariants as k
use Rattle.compact_wire.specs.Bytes.{IsByte, AreBytes}
use Rattle.compact_wire.specs.Codes.{code_of}
use Rattle.compact_wire.specs.Node.{Node, flag, i8, i16, i32, i64, double, binary, list, set, map as map_node, structure, Fields}
use Rattle.compact_wire.specs.Reads.{value, scalar, typed, all_fields, field_header, field_start, start_tail}
use Rattle.compact_wire.specs.Spells.{Spells, is_true, is_false, is_i8, is_i16, is_i32, is_i64, is_double, is_binary, is_list, is_set, is_no_map, is_map, is_struct}
use Rattle.compact_wire.proofs.ReadSteps.{value-step, value-scalar, field_takes, start_is}
use Rattle.compact_wire.proofs.StructLaws.{header_is}
use Rattle.wire_scan.specs.Sizes.{size}
use Rattle.wire_scan.proofs.Seen.{seen_ok}
use Rattle.idl_profile.specs.Types.{TypeTree, fields_of}
use Rattle.type_kinds.specs.Accepted.{IsKeyType}
use Rattle.key_order.specs.declared.key.Key.{Key}
use Rattle.key_order.specs.declared.key.Key.TheVariants as key
use Rattle.key_order.specs.Keys.{value_of}
use Rattle.typed_reading.specs.Codes.{code, code_of_node}
use Rattle.typed_reading.specs.Faults.{type_in, faults, faults_in, faults_in_pairs, faults_in_fields, repeats, of_field}
use Rattle.typed_reading.specs.Keys.{key_value, keys_in, keys_in_pairs}
use Rattle.idl_parse.specs.Refs.{element_of, key_of as key_type, value_of as value_type}
use Rattle.typed_reading.specs.Marks.{IsKeyKind}
use Rattle.typed_reading.specs.Meaning.{reading, readings, under, meaning}
use Rattle.typed_reading.proofs.FieldLaws.{int_eq_refl}
use Rattle.typed_reading.proofs.Parts.{key_kind, key_is_leaf}
use Rattle.typed_reading.proofs.Leaves.{scalar_leaf}
use Rattle.typed_reading.proofs.Valued.{Clean, clean_own, clean_below}
use Rattle.compact_codec.specs.Building.{IsClean, IsFieldClean}
use Rattle.compact_codec.proofs.Clean.{clean_code, key_is, clean_ok}
use Rattle.compact_codec.proofs.Gathered.{int_other}
use Rattle.compact_codec.proofs.Structs.{Left, left_begin, left_not, left_done, left_next, left_clean, left_on}
use Rattle.layout_schema.specs.declared.fields.Standing.{Standing}
use Rattle.layout_schema.specs.Standing.{is_key_kind, rows_in, IsAt, Stands}
use Rattle.layout_schema.proofs.Deeper.{value_spelled}

-- ---- values under ids

pub under_behind : (id : ℤ) (rs qs : List (ℤ × Value)) → under id rs ≡ None → under id (rs ++ qs) ≡ under id qs
under_behind id [] qs none = refl
under_behind id (r ∷ rs) qs none = by (int_eq r.0 id) none (under_behind id rs qs)
  where
    by : (b : Bool) → cond b (Some r.1) (under id rs) ≡ None → (under id rs ≡ None → under id (rs ++ qs) ≡ under id qs) → cond b (Some r.1) (under id (rs ++ qs)) ≡ under id qs
    by true e more = absurd cc
    by false e more = more e

-- a field of another id is passed over
pub still_none : (id other : ℤ) (rs : List (ℤ × Value)) (o : Option TypeTree) (f : TypeTree → Value) → under id rs ≡ None → other ≢ id → under id (rs ++ reading other o f []) ≡ None
still_none id other rs None f none differ = under_behind id rs [] none
still_none id other rs (Some t) f none differ =
    under_behind id rs ((other, f t) ∷ []) none ∙ ap (λ b. cond b (Some (f t)) None) (int_other other id differ)

-- and where the id is found its value is the first
first_under : (id : ℤ) (rs qs : List (ℤ × Value)) (v : Value) → under id rs ≡ None → under id (rs ++ (id, v) ∷ qs) ≡ Some v
first_under id rs qs v none = under_behind id rs ((id, v) ∷ qs) none ∙ ap (λ b. cond b (Some v) (under id qs)) (int_eq_refl id)

-- ---- from field to field

abbrev pub IsStruct : TypeTree → List ℕ → Type 0
IsStruct t b = IsClean t (value 64 k.Struct b)

pub as_fields : (b : List ℕ) → value 64 k.Struct b ≡ and_then (all_fields 63 (value 63)) (λ xs. pure (structure xs)) b
as_fields b = ap (λ f. f b) (value-step 64 k.Struct (omega arith))

-- bytes behind a header
start_behind : (before : ℤ) (rest : List ℕ) (id : ℤ) (ty : FieldType) (mid : List ℕ) → AreBytes rest → field_start 63 before rest ≡ Ok (Some (id, ty), mid) → AreBytes mid
unfolding field_start
start_behind before [] id ty mid h e = absurd cc
start_behind before (c ∷ b) id ty mid h e =
    let a = bind_ok (read_meaning (field_header 63 before c) b) (λ p. start_tail p.0 p.1) (Some (id, ty), mid) e in
    let m = meaning_ok IsByte (field_header 63 before c) b a.0.0 a.0.1 a.1 in
    let h2 : AreBytes a.0.1 = subst AreBytes m.1 h.1 in
    let s = start_is 63 before c a.0.0 a.0.1 id ty mid h2 (header_is 63 before c a.0.0 m.0) a.2 in
    admitted-back IsByte s.0.0 mid (subst AreBytes s.0.1 h2)

-- the fields up to the rest have another id
pub record Passed (t : TypeTree) (id : ℤ) (b : List ℕ) (before : ℤ) (rest : List ℕ) : Type 0 where
  pub rows : List (ℤ × Value)
  pub left : Left 63 (fields_of t) b rows before rest
  pub none : under id rows ≡ None

pub passed_none : (t : TypeTree) (id : ℤ) (b : List ℕ) → AreBytes b → IsStruct t b → Passed t id b (pos 0) b
passed_none t id b are clean = record {
  rows = [];
  left = (left_begin t 63 b are (subst (IsClean t) (as_fields b) clean)).1;
  none = refl;
}

module _ (t u : TypeTree) (id : ℤ) (b : List ℕ) (before : ℤ) (rest : List ℕ) (p : Passed t id b before rest) where
  pub start_not : (d : Stop) → field_start 63 before rest ≡ Err d → ⊥
  start_not d e = left_not 63 (fields_of t) b p.rows before rest d p.left e

  rows_are : rows_in t (value 64 k.Struct b) ≡ readings p.left.whole (fields_of t)
  rows_are = ap (rows_in t) (as_fields b ∙ ap (λ (r : Result (Fields × List ℕ) Stop). r >>= λ q. Ok (structure q.0, q.1)) p.left.whole_is)

  pub none_stands : (after : List ℕ) → field_start 63 before rest ≡ Ok (None, after) → Stands t u id (value 64 k.Struct b) None
  none_stands after e =
      ap (under id) (rows_are ∙ (left_done 63 (fields_of t) b p.rows before rest after p.left e).1) ∙ p.none

  module _ (other : ℤ) (ty : FieldType) (mid : List ℕ) (e : field_start 63 before rest ≡ Ok (Some (other, ty), mid)) where
    pub field_stands : (s : Standing) → s.field_type ≡ ty → s.bytes.now ≡ mid → other ≡ id → type_in (fields_of t) id ≡ Some u → Stands t u id (value 64 k.Struct b) (Some s)
    field_stands s same_ty same_bytes same known =
        let n = left_next 63 (fields_of t) b p.rows before rest other ty mid p.left e in
        let c = left_clean 63 (fields_of t) b p.rows before rest other ty mid p.left e in
        let clean : IsFieldClean (fields_of t) other (Ok (n.x, n.after)) = subst (IsFieldClean (fields_of t) other) n.reads c in
        let is_known : type_in (fields_of t) other ≡ Some u = ap (type_in (fields_of t)) same ∙ known in
        let v = meaning n.x u in
        let row : reading other (type_in (fields_of t) other) (meaning n.x) (readings n.xs (fields_of t)) ≡ (id, v) ∷ readings n.xs (fields_of t) =
        ap (λ o. reading other o (meaning n.x) (readings n.xs (fields_of t))) is_known ∙ ap (λ i. (i, v) ∷ readings n.xs (fields_of t)) same in
        let whole : readings p.left.whole (fields_of t) ≡ p.rows ++ (id, v) ∷ readings n.xs (fields_of t) =
        p.left.split ∙ ap (λ (xs : Fields). p.rows ++ readings xs (fields_of t)) n.is ∙ ap (λ rs. p.rows ++ rs) row in
        let q = field_fault (type_in (fields_of t) other) u clean.1 n.x clean.0 is_known clean.2 in (
          v,
          ap (under id) (rows_are ∙ whole) ∙ first_under id p.rows (readings n.xs (fields_of t)) v p.none,
          record {
            node = n.x;
            after = n.after;
            reads = ap (λ ft. typed (value 63) ft s.bytes.now) same_ty ∙ ap (typed (value 63) ty) same_bytes ∙ n.reads;
            bytes = subst AreBytes (sym same_bytes) (start_behind before rest other ty mid p.left.bytes_left e);
            number = clean.0;
            clean = q;
            is = refl;
          },
        )
      where
        field_fault : (o : Option TypeTree) (u : TypeTree) (again : Bool) (x : Node) (at : ℕ) → o ≡ Some u → of_field o again x (λ t. faults x t at) at ≡ [] → faults x u at ≡ []
        field_fault None u again x at same f = absurd cc
        field_fault (Some w) u true x at same f = absurd cc
        field_fault (Some w) u false x at same f = let is : w ≡ u = cc in subst (λ z. faults x z at ≡ []) is f

    module _ (n : ℕ) (after : List ℕ) (skipped : seen (λ (w : Node). 0 + size w) (typed (value 63) ty mid) ≡ Ok (n, after)) where
      pub passed_more : other ≢ id → Passed t id b other after
      passed_more differ =
          let x = seen_ok (λ (w : Node). 0 + size w) (typed (value 63) ty mid) n after skipped in
          record {
            rows = p.rows ++ reading other (type_in (fields_of t) other) (meaning x.0) [];
            left = (left_on 63 (fields_of t) b p.rows before rest other ty mid p.left e x.0 after x.1).1;
            none = still_none id other p.rows (type_in (fields_of t) other) (meaning x.0) p.none differ;
          }

    pub value_not : (d : Stop) → seen (λ (w : Node). 0 + size w) (typed (value 63) ty mid) ≡ Err d → ⊥
    value_not d h =
        let n = left_next 63 (fields_of t) b p.rows before rest other ty mid p.left e in
        let q = sym (ap (seen (λ (w : Node). 0 + size w)) n.reads) ∙ h in absurd cc

-- a field takes some bytes
pub field_taken : (before : ℤ) (rest : List ℕ) (id : ℤ) (ty : FieldType) (mid : List ℕ) (n : ℕ) (after : List ℕ) → AreBytes rest → field_start 63 before rest ≡ Ok (Some (id, ty), mid)
    → seen (λ (w : Node). 0 + size w) (typed (value 63) ty mid) ≡ Ok (n, after) → (length after < length rest) × AreBytes after
field_taken before rest id ty mid n after are e skipped =
    let x = seen_ok (λ (w : Node). 0 + size w) (typed (value 63) ty mid) n after skipped in
    field_takes 63 before rest id ty mid x.0 after are e x.1

-- ---- kinds of what has no fault

code_spelled : (l : ℕ) (kind : Kind) (w : Node) (t : List ℕ) → Spells l kind w t → code_of_node w ≡ code_of kind
code_spelled l kind w t (is_true _ _ e) = refl
code_spelled l kind w t (is_false _ b _ z e) = refl
code_spelled l kind w t (is_i8 _ z b _ s e) = refl
code_spelled l kind w t (is_i16 _ z _ n) = refl
code_spelled l kind w t (is_i32 _ z _ n) = refl
code_spelled l kind w t (is_i64 _ z _ n) = refl
code_spelled l kind w t (is_double _ _ n are) = refl
code_spelled l kind w t (is_binary _ x _ h n are e) = refl
code_spelled l kind w t (is_list m i n xs _ h u header its e) = refl
code_spelled l kind w t (is_set m i n xs _ h u header its e) = refl
code_spelled l kind w t (is_no_map m _ n) = refl
code_spelled l kind w t (is_map m a b n c d xs _ h u count low lower first second its e) = refl
code_spelled l kind w t (is_struct m xs _ its) = refl

pub clean_of : (t : TypeTree) (w : Node) (at : ℕ) → faults w t at ≡ [] → Clean t w
clean_of t (flag x) at f = clean_own t (flag x) at f
clean_of t (i8 x) at f = clean_own t (i8 x) at f
clean_of t (i16 x) at f = clean_own t (i16 x) at f
clean_of t (i32 x) at f = clean_own t (i32 x) at f
clean_of t (i64 x) at f = clean_own t (i64 x) at f
clean_of t (double x) at f = clean_own t (double x) at f
clean_of t (binary x) at f = clean_own t (binary x) at f
clean_of t (list c xs) at f = (clean_below t (list c xs) at (faults_in xs (element_of t) (suc at)) f).0
clean_of t (set c xs) at f = (clean_below t (set c xs) at (faults_in xs (element_of t) (suc at) ++ repeats (keys_in xs (suc at)) []) f).0
clean_of t (map_node c d xs) at f =
    (clean_below t (map_node c d xs) at (faults_in_pairs xs (key_type t) (value_type t) (suc at) ++ repeats (keys_in_pairs xs (suc at)) []) f).0
clean_of t (structure xs) at f = (clean_below t (structure xs) at (faults_in_fields xs (fields_of t) [] (suc at)) f).0

-- what is read without fault is of the type's code
pub kind_code : (l : ℕ) (kind : Kind) (b : List ℕ) (u : TypeTree) → AreBytes b → IsClean u (value (suc l) kind b) → code_of kind ≡ code u
kind_code l kind b u are clean =
    let c = clean_ok u (value (suc l) kind b) clean in
    let s = value_spelled l kind b c.0 c.1 are c.2 in
    sym (code_spelled (suc l) kind c.0 s.0 s.1) ∙ clean_code u c.0 (clean_of u c.0 c.3 c.4)

-- ---- a flag, a number or bytes

pub key_kind_is : (kind : Kind) → is_key_kind kind ≡ true → IsKeyKind kind
key_kind_is k.Flag e = tt
key_kind_is k.I8 e = tt
key_kind_is k.I16 e = tt
key_kind_is k.I32 e = tt
key_kind_is k.I64 e = tt
key_kind_is k.Binary e = tt
key_kind_is k.Double e = absurd cc
key_kind_is k.List e = absurd cc
key_kind_is k.Set e = absurd cc
key_kind_is k.Map e = absurd cc
key_kind_is k.Struct e = absurd cc

key_kind_not : (kind : Kind) → is_key_kind kind ≡ false → IsKeyKind kind → ⊥
key_kind_not k.Flag e h = cc
key_kind_not k.I8 e h = cc
key_kind_not k.I16 e h = cc
key_kind_not k.I32 e h = cc
key_kind_not k.I64 e h = cc
key_kind_not k.Binary e h = cc
key_kind_not k.Double e h = h
key_kind_not k.List e h = h
key_kind_not k.Set e h = h
key_kind_not k.Map e h = h
key_kind_not k.Struct e h = h

module _ (u : TypeTree) (s : Standing) (v : Value) (of_key : IsKeyType u) (at : IsAt u s v) where
  pub flag_there : (x : Bool) → s.field_type ≡ given_flag x → Some (value_of (key.Flag x)) ≡ Some v
  flag_there x same =
      let e : Ok (flag x, s.bytes.now) ≡ Ok (at.node, at.after) = ap (λ ft. typed (value 63) ft s.bytes.now) (sym same) ∙ at.reads in
      ap (λ (w : Node). Some (meaning w u)) (ok_is (flag x) at.node s.bytes.now at.after e).0 ∙ ap Some at.is

  module _ (kind : Kind) (same : s.field_type ≡ of_kind kind) where
    kind_read : value 63 kind s.bytes.now ≡ Ok (at.node, at.after)
    kind_read = ap (λ ft. typed (value 63) ft s.bytes.now) (sym same) ∙ at.reads

    key_is_there : IsKeyKind kind
    key_is_there = key_kind u kind of_key (kind_code 62 kind s.bytes.now u at.bytes (subst (IsClean u) (sym kind_read) (at.number, at.clean)))

    scalar_read : scalar kind s.bytes.now ≡ Ok (at.node, at.after)
    scalar_read = sym (ap (λ f. f s.bytes.now) (value-scalar 63 kind (key_is_leaf kind key_is_there))) ∙ kind_read

    pub no_other_kind : is_key_kind kind ≡ false → ⊥
    no_other_kind e = key_kind_not kind e key_is_there

    pub key_there : (found : Key) (rest : List ℕ) → seen key_value (scalar kind s.bytes.now) ≡ Ok (value_of found, rest) → Some (value_of found) ≡ Some v
    key_there found rest e =
        let x = seen_ok key_value (scalar kind s.bytes.now) (value_of found) rest e in
        let one : x.0 ≡ at.node = (ok_is x.0 at.node rest at.after (sym x.1 ∙ scalar_read)).0 in
        ap Some (sym x.2 ∙ ap key_value one ∙ key_is kind at.node u key_is_there (scalar_leaf kind s.bytes.now at.node at.after scalar_read) ∙ at.is)

    pub key_not : (d : Stop) → seen key_value (scalar kind s.bytes.now) ≡ Err d → ⊥
    key_not d e = let q = sym (ap (seen key_value) scalar_read) ∙ e in absurd cc
