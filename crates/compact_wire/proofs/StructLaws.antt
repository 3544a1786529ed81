-- Structs are read exactly, and with them each value.
use Rattle.std.proofs.Common.{◌≡◌, ℕ, zero, suc, ◌+◌, ◌-◌, ◌*◌, ◌/◌, ◌%◌, ◌^◌, ◌<◌, ◌⊎◌, inl, inr, Bool, true}
use Rattle.std.proofs.Common.{false, cond, eqb, List, [], ◌∷◌, ◌++◌, length, Option, Some, None, Err, refl}
use Rattle.std.proofs.Common.{sym, ap, subst, ◌∙◌, arith}
use Rattle.std.specs.Prelude.{ℤ, pos, ◌+ℤ◌, ◌<ℤ◌, int_lt, option_and_then}
use lib.Signed.{lt_z_yes}
use Rattle.std.proofs.Math.Dec.{T}
use Rattle.std.proofs.lemmas.Bool.Decides.{nat_tests}
use Rattle.std.proofs.lemmas.Bool.{eqb-true, eqb-false}
use Rattle.std.proofs.lemmas.List.{append-nil}
use Rattle.exact_reading.specs.declared.stop.Stop.TheVariants.{Ended}
use Rattle.compact_wire.specs.declared.kind.Kind.{Kind}
use Rattle.compact_wire.specs.declared.kind.Kind.TheVariants as k
use Rattle.compact_wire.specs.Node.{Node, flag, Fields, no_fields, field, structure, map, no_pairs}
use Rattle.compact_wire.specs.Bytes.{IsByte, ByteReader, OneByte}
use Rattle.exact_reading.specs.Reading.{and_then, pure, one}
use Rattle.compact_wire.specs.Reads.{signed, kind_at, fits, of_kind, field_type, header_of, field_header}
use Rattle.compact_wire.specs.Reads.{typed, with_field, field_tail, fields, all_fields, container, value}
use Rattle.compact_wire.specs.declared.header.FieldType.{FieldType}
use Rattle.compact_wire.specs.declared.header.FieldType.TheVariants.{Given as given, Of as of}
use Rattle.compact_wire.specs.declared.header.FieldHeader.{FieldHeader}
use Rattle.compact_wire.specs.declared.header.FieldHeader.TheVariants.{End as stop, Step as step}
use Rattle.compact_wire.specs.declared.header.FieldHeader.TheVariants.{Long as long}
use Rattle.compact_wire.specs.Codes.{kind_of}
use Rattle.compact_wire.specs.Spells.{Spells, SpellsFields, the_end, flag_field, other_field, IsFieldCode}
use Rattle.compact_wire.specs.Spells.{true_code, false_code, other_code, IsFieldHeader, step_field_header}
use Rattle.compact_wire.specs.Spells.{long_field_header, is_no_map, is_struct}
use Rattle.exact_reading.proofs.Items.{before_none}
use Rattle.exact_reading.specs.Exact.{Exact, Then, Pure, Follows}
use Rattle.exact_reading.proofs.Combinators.{pure_exact, one_exact, mapped_exact, then_exact, same_exact}
use Rattle.compact_wire.proofs.NumberLaws.{zero_is}
use Rattle.compact_wire.proofs.Signed.{IsSigned, signed_exact}
use Rattle.compact_wire.proofs.ScalarLaws.{scalar_exact, scalar_some}
use Rattle.compact_wire.proofs.SequenceLaws.{Layer, spells_fits, and_then_some, fits_scalar, list_exact}
use Rattle.compact_wire.proofs.SequenceLaws.{list_some, set_exact, set_some}
use Rattle.compact_wire.proofs.MapLaws.{kind_at_is, kind_at_again, mapping_exact}

-- ---- the code of a field

unfoldable pub TypeIs : ℕ → ℕ → FieldType → Type 0
TypeIs l c (given x) = IsFieldCode c (Some x) k.Flag
TypeIs l c (of kind) = IsFieldCode c None kind × (fits l kind ≡ true)

no_kind_zero : (kind : Kind) → kind_of 0 ≡ Some kind → ⊥
unfolding kind_of
no_kind_zero kind e = cc

type_of_code : (l c : ℕ) (ty : FieldType) → 2 < c → option_and_then of_kind (kind_at l c) ≡ Some ty
    → TypeIs l c ty
unfolding TypeIs
type_of_code l c (given x) lt e =
    let a = and_then_some (kind_at l c) of_kind (given x) e in let b = a.2 in absurd cc
type_of_code l c (of kind) lt e =
    let a = and_then_some (kind_at l c) of_kind (of kind) e in
    let b : Some (of a.0) ≡ Some (of kind) = a.2 in
    let same : a.0 ≡ kind = cc in
    let f = kind_at_is l c kind (a.1 ∙ ap (λ (z : Kind). Some z) same) in
    (other_code c kind lt f.0, f.1)

type_is : (l c : ℕ) (ty : FieldType) → field_type l c ≡ Some ty → TypeIs l c ty
unfolding field_type TypeIs
type_is l zero ty e =
    let a = and_then_some (kind_at l 0) of_kind ty e in absurd (no_kind_zero a.0 (kind_at_is l 0 a.0 a.1).0)
type_is l (suc zero) ty e = let h : given true ≡ ty = cc in subst (TypeIs l 1) h true_code
type_is l (suc (suc zero)) ty e = let h : given false ≡ ty = cc in subst (TypeIs l 2) h false_code
type_is l (suc (suc (suc c))) ty e =
    let a : eqb (suc (suc (suc c))) 1 ≡ false = grind (arith, nat_tests) in
    let b : eqb (suc (suc (suc c))) 2 ≡ false = grind (arith, nat_tests) in
    type_of_code l (suc (suc (suc c))) ty (omega arith) (rw (a, b) at e)

type_again : (l c : ℕ) (o : Option Bool) (kind : Kind) → IsFieldCode c o kind → fits l kind ≡ true
    → (field_type l c ≡ Some (elim o [ Some x ↦ given x | None ↦ of kind ])) × (0 < c)
unfolding field_type
type_again l c o kind true_code fit = (refl, omega arith)
type_again l c o kind false_code fit = (refl, omega arith)
type_again l c o kind (other_code _ _ lt is) fit =
    let a : eqb c 1 ≡ false = grind (arith, nat_tests) in
    let b : eqb c 2 ≡ false = grind (arith, nat_tests) in
    (rw (a, b, kind_at_again l c kind is fit) refl, omega arith)

-- ---- the header of a field

unfoldable pub HeaderIs : ℕ → ℤ → ℕ → FieldHeader → Type 0
HeaderIs l before b stop = b ≡ 0
HeaderIs l before b (step id ty) =
    (0 < b / 16) × (id ≡ before +ℤ pos (b / 16)) × ((before +ℤ pos (b / 16)) <ℤ pos 32768)
    × TypeIs l (b % 16) ty
HeaderIs l before b (long ty) = (b / 16 ≡ 0) × TypeIs l (b % 16) ty

chosen : (is_zero low : Bool) (id : ℤ) (ty : FieldType) (h : FieldHeader)
    → cond is_zero (Some (long ty)) (cond low (Some (step id ty)) None) ≡ Some h
    → ((is_zero ≡ true) × (long ty ≡ h)) ⊎ ((is_zero ≡ false) × (low ≡ true) × (step id ty ≡ h))
chosen true low id ty h e = inl (refl, cc)
chosen false true id ty h e = inr (refl, refl, cc)
chosen false false id ty h e = absurd cc

pub header_is : (l : ℕ) (before : ℤ) (b : ℕ) (h : FieldHeader) → field_header l before b ≡ Some h
    → HeaderIs l before b h
unfolding field_header HeaderIs
header_is l before zero h e = let s : stop ≡ h = cc in subst (HeaderIs l before 0) s refl
header_is l before (suc b) h e =
    let n : ℕ = suc b in
    let not_zero : eqb n 0 ≡ false = grind (arith, nat_tests) in
    let a = and_then_some (field_type l (n % 16)) (header_of before (n / 16)) h (rw not_zero at e) in
    let ty = type_is l (n % 16) a.0 a.1 in
    elim (chosen (eqb (n / 16) 0) (int_lt (before +ℤ pos (n / 16)) (pos 32768)) (before +ℤ pos (n / 16)) a.0 h
    a.2) [
      | inl c ↦ subst (HeaderIs l before n) c.1 (eqb-true _ _ c.0, ty)
      | inr c ↦
          subst (HeaderIs l before n) c.2
          (let d = eqb-false _ _ c.0 in omega arith, refl, lt_z_yes (subst T (sym c.1) tt), ty)
    ]

is_so : (b : Bool) → T b → b ≡ true
is_so true t = refl
is_so false t = absurd t

step_again : (l : ℕ) (before : ℤ) (delta c : ℕ) (ty : FieldType) → 0 < delta → delta < 16 → c < 16
    → (before +ℤ pos delta) <ℤ pos 32768 → field_type l c ≡ Some ty
    → field_header l before (16 * delta + c) ≡ Some (step (before +ℤ pos delta) ty)
unfolding field_header
step_again l before delta c ty some lt c_lt low is =
    let q : (16 * delta + c) / 16 ≡ delta = omega arith in
    let r : (16 * delta + c) % 16 ≡ c = omega arith in
    let not_zero : eqb (16 * delta + c) 0 ≡ false = grind (arith, nat_tests) in
    let no_delta : eqb delta 0 ≡ false = grind (arith, nat_tests) in
    let is_low : int_lt (before +ℤ pos delta) (pos 32768) ≡ true =
    is_so (int_lt (before +ℤ pos delta) (pos 32768)) low.lt in
    rw (not_zero, q, r, is, no_delta, is_low) refl

long_again : (l : ℕ) (before : ℤ) (c : ℕ) (ty : FieldType) → 0 < c → c < 16 → field_type l c ≡ Some ty
    → field_header l before c ≡ Some (long ty)
unfolding field_header
long_again l before c ty some c_lt is =
    let q : c / 16 ≡ 0 = omega arith in
    let r : c % 16 ≡ c = omega arith in
    let not_zero : eqb c 0 ≡ false = grind (arith, nat_tests) in
    rw (not_zero, q, r, is) refl

-- ---- fields

module _ (l : ℕ) (read : Kind → ByteReader Node) (layer : Layer l read) where
  abbrev Typed : FieldType → Node → List ℕ → Type 0
  Typed (given x) = Pure (flag x)
  Typed (of kind) = Spells l kind

  abbrev LastThen : ℤ → Node → Fields → List ℕ → Type 0
  LastThen id x = Then (SpellsFields l id) (λ xs. Pure (field id x xs))

  abbrev WithField : FieldType → ℤ → Fields → List ℕ → Type 0
  WithField ty id = Then (Typed ty) (λ x. LastThen id x)

  abbrev FieldTail : FieldHeader → Fields → List ℕ → Type 0
  FieldTail stop = Pure no_fields
  FieldTail (step id ty) = WithField ty id
  FieldTail (long ty) = Then (IsSigned 3 (2 ^ 16 - 1)) (WithField ty)

  abbrev FieldsThen : ℤ → Fields → List ℕ → Type 0
  FieldsThen before = Then (OneByte (field_header l before)) FieldTail

  -- a field by its header, of either form
  field_to : (before id : ℤ) (c : ℕ) (ty : FieldType) (w : Fields) (t h b : List ℕ) → TypeIs l c ty
      → IsFieldHeader before id c h → WithField ty id w b → t ≡ h ++ b → SpellsFields l before w t
  unfolding TypeIs
  field_to before id c (given y) w t h b ty header
      (x, a, u, (x_is, a_is), (xs, v, v2, p, (w_is, v2_is), e3), e2) e =
      let tail : b ≡ v = e2 ∙ ap (λ (z : List ℕ). z ++ u) a_is ∙ before_none u v v2 v2_is e3 in
      let w_is2 : w ≡ field id (flag y) xs = w_is ∙ ap (λ (z : Node). field id z xs) x_is in
      subst (λ (z : Fields). SpellsFields l before z t) (sym w_is2)
      (flag_field l before id c y xs t h v header ty p (e ∙ ap (λ (z : List ℕ). h ++ z) tail))
  field_to before id c (of kind) w t h b ty header (x, a, u, is, (xs, v, v2, p, (w_is, v2_is), e3), e2) e =
      let tail : b ≡ a ++ v = e2 ∙ ap (λ (z : List ℕ). a ++ z) (before_none u v v2 v2_is e3) in
      subst (λ (z : Fields). SpellsFields l before z t) (sym w_is)
      (other_field l before id c kind x xs t h a v header ty.0 is p
      (e ∙ ap (λ (z : List ℕ). h ++ z) tail))

  fields_to : (before : ℤ) (w : Fields) (t : List ℕ) → FieldsThen before w t → SpellsFields l before w t
  unfolding HeaderIs
  fields_to before w t (stop, a, b, (c, byte, means, a_is), (w_is, b_is), e) =
      let h = header_is l before c stop means in
      subst (λ (z : Fields). SpellsFields l before z t) (sym w_is)
      (the_end l before t (before_none t a b b_is e ∙ a_is ∙ ap (λ (z : ℕ). z ∷ []) h))
  fields_to before w t (step id ty, a, b, (c, byte, means, a_is), tail, e) =
      let h = header_is l before c (step id ty) means in
      let header : IsFieldHeader before (before +ℤ pos (c / 16)) (c % 16) (c ∷ []) =
      step_field_header before (c / 16) (c % 16) (c ∷ []) h.0 (omega arith) (omega arith) h.2
      (ap (λ (z : ℕ). z ∷ []) (omega arith)) in
      field_to before id (c % 16) ty w t (c ∷ []) b h.3
      (subst (λ (z : ℤ). IsFieldHeader before z (c % 16) (c ∷ [])) (sym h.1) header) tail
      (e ∙ ap (λ (z : List ℕ). z ++ b) a_is)
  fields_to before w t (long ty, a, b, (c, byte, means, a_is), (id, u, v, number_is, tail, e2), e) =
      let h = header_is l before c (long ty) means in
      let c_is : c ≡ c % 16 = omega (arith, h.0) in
      let header : IsFieldHeader before id (c % 16) (c ∷ u) =
      long_field_header before id (c % 16) (c ∷ u) u (omega arith) number_is (ap (λ (z : ℕ). z ∷ u) c_is)
      in
      field_to before id (c % 16) ty w t (c ∷ u) v h.1 header tail
      (e ∙ ap (λ (z : List ℕ). z ++ b) a_is ∙ ap (λ (z : List ℕ). c ∷ z) e2)

  field_from : (before id : ℤ) (c : ℕ) (ty : FieldType) (w : Fields) (t h b : List ℕ)
      → field_type l c ≡ Some ty → 0 < c → IsFieldHeader before id c h → WithField ty id w b → t ≡ h ++ b
      → FieldsThen before w t
  field_from before id c ty w t h b ty_is some (step_field_header _ delta _ _ d_some d_lt c_lt low h_is) tail
      e = (
        step (before +ℤ pos delta) ty,
        (16 * delta + c) ∷ [],
        b,
        (16 * delta + c, omega arith, step_again l before delta c ty d_some d_lt c_lt low ty_is, refl),
        tail,
        e ∙ ap (λ (z : List ℕ). z ++ b) h_is,
      )
  field_from before id c ty w t h b ty_is some (long_field_header _ _ _ _ u c_lt number_is h_is) tail e = (
    long ty,
    c ∷ [],
    u ++ b,
    (c, omega arith, long_again l before c ty some c_lt ty_is, refl),
    (id, u, b, number_is, tail, refl),
    e ∙ ap (λ (z : List ℕ). z ++ b) h_is,
  )

  fields_from : (before : ℤ) (w : Fields) (t : List ℕ) → SpellsFields l before w t → FieldsThen before w t
  unfolding field_header
  fields_from before w t (the_end _ _ _ e) = (stop, 0 ∷ [], [], (0, omega arith, refl, refl), (refl, refl), e)
  fields_from before w t (flag_field _ _ id c x xs _ h v header code p e) =
      let ty = type_again l c (Some x) k.Flag code (fits_scalar l k.Flag refl) in
      field_from before id c (given x) (field id (flag x) xs) t h v ty.0 ty.1 header
      (flag x, [], v, (refl, refl), (xs, v, [], p, (refl, refl), sym (append-nil v)), refl) e
  fields_from before w t (other_field _ _ id c kind x xs _ h u v header code is p e) =
      let ty = type_again l c None kind code (spells_fits l kind x u is) in
      field_from before id c (of kind) (field id x xs) t h (u ++ v) ty.0 ty.1 header
      (x, u, v, is, (xs, v, [], p, (refl, refl), sym (append-nil v)), refl) e

  typed_exact : (ty : FieldType) (c : ℕ) → TypeIs l c ty → (n : ℕ) → Exact IsByte n (Typed ty) (typed read ty)
  unfolding TypeIs
  typed_exact (given x) c is n = pure_exact IsByte (flag x) n
  typed_exact (of kind) c is n = layer.exact kind is.1 n

  typed_some : (ty : FieldType) (c : ℕ) → TypeIs l c ty → (x : Node) × (t : List ℕ) × Typed ty x t
  unfolding TypeIs
  typed_some (given x) c is = (flag x, [], (refl, refl))
  typed_some (of kind) c is = layer.some kind is.1

  module _ (n : ℕ) (next : ℤ → ByteReader Fields)
      (next_exact : (before : ℤ) → Exact IsByte n (SpellsFields l before) (next before)) where
    last_follows : (id : ℤ) (x : Node)
        → Follows IsByte n (LastThen id x) (and_then (next id) (λ xs. pure (field id x xs)))
    last_follows id x = record {
      exact = mapped_exact IsByte (SpellsFields l id) (next id) (λ xs. field id x xs) n (next_exact id);
      some = (
        field id x no_fields,
        0 ∷ [],
        (no_fields, 0 ∷ [], [], the_end l id (0 ∷ []) refl, (refl, refl), refl),
      );
    }

    with_follows : (ty : FieldType) (c : ℕ) → TypeIs l c ty → (id : ℤ)
        → Follows IsByte n (WithField ty id) (with_field next (typed read ty) id)
    with_follows ty c is id =
        let s = typed_some ty c is in
        let r = (last_follows id s.0).some in
        record {
          exact = then_exact IsByte (Typed ty) (λ x. LastThen id x) (typed read ty)
              (λ x. and_then (next id) (λ xs. pure (field id x xs))) n n (typed_exact ty c is)
              (λ x t p. last_follows id x) (λ x t p. omega arith);
          some = (r.0, s.1 ++ r.1, (s.0, s.1, r.1, s.2, r.2, refl));
        }

    tail_follows : (h : FieldHeader) (c : ℕ) (before : ℤ) → HeaderIs l before c h
        → Follows IsByte n (FieldTail h) (field_tail read next h)
    unfolding HeaderIs
    tail_follows stop c before is =
        record { exact = pure_exact IsByte no_fields n; some = (no_fields, [], (refl, refl)) }
    tail_follows (step id ty) c before is = with_follows ty (c % 16) is.3 id
    tail_follows (long ty) c before is =
        let r = (with_follows ty (c % 16) is.1 (pos 0)).some in
        record {
          exact = then_exact IsByte (IsSigned 3 (2 ^ 16 - 1)) (WithField ty) (signed 2 (2 ^ 16 - 1))
              (λ id. with_field next (typed read ty) id) n n (signed_exact 2 (2 ^ 16 - 1))
              (λ id t p. with_follows ty (c % 16) is.1 id) (λ id t p. omega arith);
          some = (r.0, 0 ∷ r.1, (pos 0, 0 ∷ [], r.1, zero_is 2 (2 ^ 16 - 1), r.2, refl));
        }

    header_zero : (before : ℤ) → field_header l before 0 ≡ Some stop
    unfolding field_header
    header_zero before = refl

    fields_step : (before : ℤ)
        → Exact IsByte (suc n) (SpellsFields l before)
        (and_then (one (field_header l before)) (field_tail read next))
    fields_step before =
        same_exact IsByte (FieldsThen before) (SpellsFields l before)
        (and_then (one (field_header l before)) (field_tail read next))
        (record { to = fields_to before; from = fields_from before }) (suc n)
        (then_exact IsByte (OneByte (field_header l before)) FieldTail (one (field_header l before))
        (field_tail read next) (suc n) n
        (one_exact IsByte (field_header l before) 0 stop (omega arith) (header_zero before))
        (λ h t p. tail_follows h p.0 before (header_is l before p.0 h p.2))
        (λ h t p. omega (arith, ap length p.3)))

  nothing_exact : (before : ℤ) (r : ByteReader Fields) → Exact IsByte 0 (SpellsFields l before) r
  nothing_exact before r = record {
    admitted = λ x t is lt. absurd (omega arith);
    sound = λ b x rest h lt e. absurd (omega arith);
    complete = λ x t rest is lt. absurd (omega arith);
    ends = λ b h lt e. absurd (omega arith);
    refuses = λ b left h lt e. absurd (omega arith);
  }

  fields_exact : (n : ℕ) (before : ℤ) → Exact IsByte n (SpellsFields l before) (fields l read n before)
  unfolding fields
  fields_exact zero before = nothing_exact before (λ b. Err Ended)
  fields_exact (suc n) before = fields_step n (fields l read n) (fields_exact n) before

  -- with as many turns as there are bytes
  all_exact : (n : ℕ) → Exact IsByte n (SpellsFields l (pos 0)) (all_fields l read)
  all_exact n = record {
    admitted = λ x t is lt. (fields_exact (suc (length t)) (pos 0)).admitted x t is (omega arith);
    sound = λ b x rest h lt e. (fields_exact (suc (length b)) (pos 0)).sound b x rest h (omega arith) e;
    complete =
        λ x t rest is lt. (fields_exact (suc (length (t ++ rest))) (pos 0)).complete x t rest is
        (omega arith);
    ends = λ b h lt e. (fields_exact (suc (length b)) (pos 0)).ends b h (omega arith) e;
    refuses = λ b left h lt e. (fields_exact (suc (length b)) (pos 0)).refuses b left h (omega arith) e;
  }

  struct_to : (w : Node) (t : List ℕ) → Then (SpellsFields l (pos 0)) (λ xs. Pure (structure xs)) w t
      → Spells (suc l) k.Struct w t
  struct_to w t (xs, a, u, p, (w_is, u_is), e) =
      subst (λ (z : Node). Spells (suc l) k.Struct z t) (sym w_is)
      (is_struct l xs t (subst (SpellsFields l (pos 0) xs) (sym (before_none t a u u_is e)) p))

  struct_from : (w : Node) (t : List ℕ) → Spells (suc l) k.Struct w t
      → Then (SpellsFields l (pos 0)) (λ xs. Pure (structure xs)) w t
  struct_from w t (is_struct _ xs _ p) = (xs, t, [], p, (refl, refl), sym (append-nil t))

  struct_exact : (n : ℕ)
      → Exact IsByte n (Spells (suc l) k.Struct) (and_then (all_fields l read) (λ xs. pure (structure xs)))
  struct_exact n =
      same_exact IsByte (Then (SpellsFields l (pos 0)) (λ xs. Pure (structure xs))) (Spells (suc l) k.Struct)
      (and_then (all_fields l read) (λ xs. pure (structure xs)))
      (record { to = struct_to; from = struct_from }) n
      (mapped_exact IsByte (SpellsFields l (pos 0)) (all_fields l read) structure n (all_exact n))

-- ---- each value

container_exact : (l : ℕ) (read : Kind → ByteReader Node) → Layer l read → (kind : Kind) (n : ℕ)
    → Exact IsByte n (Spells (suc l) kind) (container l read kind)
container_exact l read layer k.Flag n = scalar_exact (suc l) k.Flag n refl
container_exact l read layer k.I8 n = scalar_exact (suc l) k.I8 n refl
container_exact l read layer k.I16 n = scalar_exact (suc l) k.I16 n refl
container_exact l read layer k.I32 n = scalar_exact (suc l) k.I32 n refl
container_exact l read layer k.I64 n = scalar_exact (suc l) k.I64 n refl
container_exact l read layer k.Double n = scalar_exact (suc l) k.Double n refl
container_exact l read layer k.Binary n = scalar_exact (suc l) k.Binary n refl
container_exact l read layer k.List n = list_exact l read layer n
container_exact l read layer k.Set n = set_exact l read layer n
container_exact l read layer k.Map n = mapping_exact l read layer n
container_exact l read layer k.Struct n = struct_exact l read layer n

container_some : (l : ℕ) (read : Kind → ByteReader Node) → Layer l read → (kind : Kind)
    → (x : Node) × (t : List ℕ) × Spells (suc l) kind x t
container_some l read layer k.Flag = scalar_some (suc l) k.Flag refl
container_some l read layer k.I8 = scalar_some (suc l) k.I8 refl
container_some l read layer k.I16 = scalar_some (suc l) k.I16 refl
container_some l read layer k.I32 = scalar_some (suc l) k.I32 refl
container_some l read layer k.I64 = scalar_some (suc l) k.I64 refl
container_some l read layer k.Double = scalar_some (suc l) k.Double refl
container_some l read layer k.Binary = scalar_some (suc l) k.Binary refl
container_some l read layer k.List = list_some l read layer
container_some l read layer k.Set = set_some l read layer
container_some l read layer k.Map = (map 0 0 no_pairs, 0 ∷ [], is_no_map l (0 ∷ []) (zero_is 4 (2 ^ 31 - 1)))
container_some l read layer k.Struct =
    (structure no_fields, 0 ∷ [], is_struct l no_fields (0 ∷ []) (the_end l (pos 0) (0 ∷ []) refl))

pub value_layer : (l : ℕ) → Layer l (value l)
unfolding value
value_layer zero =
    record { exact = λ kind fit n. scalar_exact 0 kind n fit; some = λ kind fit. scalar_some 0 kind fit }
value_layer (suc l) =
    let below =
    value_layer l in
    record {
      exact = λ kind fit n. container_exact l (value l) below kind n;
      some = λ kind fit. container_some l (value l) below kind;
    }
