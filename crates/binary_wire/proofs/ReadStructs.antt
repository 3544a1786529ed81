-- Structs are read exactly, and with them each value.
use Rattle.std.proofs.Common.{◌≡◌, ℕ, zero, suc, ◌<◌, Bool, true, false, cond, eqb, List, [], ◌∷◌, ◌++◌, length, Option, Some, None, Err, refl, sym, ap, subst, ◌∙◌, arith}
use Rattle.std.specs.Prelude.{ℤ, option_and_then}
use Rattle.std.proofs.lemmas.Bool.Decides.{nat_tests}
use Rattle.std.proofs.lemmas.List.{append-nil}
use Rattle.std.specs.Int.{w16}
use Rattle.exact_reading.specs.declared.stop.Stop.TheVariants.{Ended}
use Rattle.exact_reading.specs.Reading.{and_then, pure, one}
use Rattle.exact_reading.specs.Exact.{Exact, Then, Pure, Follows}
use Rattle.exact_reading.proofs.Items.{before_none}
use Rattle.exact_reading.proofs.Combinators.{one_exact, pure_exact, mapped_exact, then_exact, same_exact}
use Rattle.compact_wire.specs.declared.kind.Kind.{Kind}
use Rattle.compact_wire.specs.declared.kind.Kind.TheVariants as k
use Rattle.compact_wire.specs.Bytes.{IsByte, ByteReader, OneByte}
use Rattle.compact_wire.specs.Node.{Node, Fields, no_fields, field, structure, list, set}
use Rattle.compact_wire.specs.Reads.{fits, if_fits}
use Rattle.compact_wire.proofs.SequenceLaws.{and_then_some}
use Rattle.binary_wire.specs.BinaryCodes.{binary_code, binary_kind}
use Rattle.binary_wire.specs.BinaryNumbers.{Made, IsSigned}
use Rattle.binary_wire.specs.BinaryGrammar.{SpellsFields, SpellsBy, SpellsValue}
use Rattle.binary_wire.specs.BinaryReads.{signed, kind_found, field_code, with_field, field_tail, fields, all_fields, container, value}
use Rattle.binary_wire.proofs.ReadParts.{Layer, made_some, signed_exact, signed_some}
use Rattle.binary_wire.proofs.ReadScalars.{scalar_exact, scalar_some, scalar_fits}
use Rattle.binary_wire.proofs.ReadRows.{row_exact, row_some}
use Rattle.binary_wire.proofs.ReadMaps.{mapping_exact, map_some}

-- ---- codes

pub kind_code : (kind : Kind) → (binary_kind (binary_code kind) ≡ Some kind) × (0 < binary_code kind) × (binary_code kind < 16)
unfolding binary_kind
kind_code k.Flag = (refl, omega arith, omega arith)
kind_code k.I8 = (refl, omega arith, omega arith)
kind_code k.I16 = (refl, omega arith, omega arith)
kind_code k.I32 = (refl, omega arith, omega arith)
kind_code k.I64 = (refl, omega arith, omega arith)
kind_code k.Double = (refl, omega arith, omega arith)
kind_code k.Binary = (refl, omega arith, omega arith)
kind_code k.List = (refl, omega arith, omega arith)
kind_code k.Set = (refl, omega arith, omega arith)
kind_code k.Map = (refl, omega arith, omega arith)
kind_code k.Struct = (refl, omega arith, omega arith)

pub code_is : (c : ℕ) (kind : Kind) → binary_kind c ≡ Some kind → c ≡ binary_code kind
unfolding binary_kind
code_is c k.Flag e = grind (arith, nat_tests)
code_is c k.I8 e = grind (arith, nat_tests)
code_is c k.I16 e = grind (arith, nat_tests)
code_is c k.I32 e = grind (arith, nat_tests)
code_is c k.I64 e = grind (arith, nat_tests)
code_is c k.Double e = grind (arith, nat_tests)
code_is c k.Binary e = grind (arith, nat_tests)
code_is c k.List e = grind (arith, nat_tests)
code_is c k.Set e = grind (arith, nat_tests)
code_is c k.Map e = grind (arith, nat_tests)
code_is c k.Struct e = grind (arith, nat_tests)

-- ---- the first byte of a field

abbrev CodeIs : ℕ → ℕ → Option Kind → Type 0
CodeIs l c None = c ≡ 0
CodeIs l c (Some kind) = (c ≡ binary_code kind) × (fits l kind ≡ true)

if_fits_is : (fit : Bool) (a b : Kind) → cond fit (Some a) None ≡ Some b → (fit ≡ true) × (a ≡ b)
if_fits_is true a b e = (refl, cc)
if_fits_is false a b e = absurd cc

found_is : (l c : ℕ) (o : Option Kind) → option_and_then kind_found (option_and_then (if_fits l) (binary_kind c)) ≡ Some o → CodeIs l c o
found_is l c o e =
    let a = and_then_some (option_and_then (if_fits l) (binary_kind c)) kind_found o e in
    let b = and_then_some (binary_kind c) (if_fits l) a.0 a.1 in
    let f = if_fits_is (fits l b.0) b.0 a.0 b.2 in
    let same : Some a.0 ≡ o = let g : Some (Some a.0) ≡ Some o = a.2 in cc in
    subst (CodeIs l c) same (code_is c a.0 (b.1 ∙ ap (λ (z : Kind). Some z) f.1), subst (λ (z : Kind). fits l z ≡ true) f.1 f.0)

field_code_is : (l c : ℕ) (o : Option Kind) → field_code l c ≡ Some o → CodeIs l c o
unfolding field_code
field_code_is l zero o e = let h : None ≡ o = cc in subst (CodeIs l 0) h refl
field_code_is l (suc c) o e =
    let not_zero : eqb (suc c) 0 ≡ false = grind (arith, nat_tests) in
    found_is l (suc c) o (rw not_zero at e)

field_code_again : (l : ℕ) (kind : Kind) → fits l kind ≡ true → field_code l (binary_code kind) ≡ Some (Some kind)
unfolding field_code
field_code_again l kind fit =
    let c = kind_code kind in
    let some = c.1 in
    let not_zero : eqb (binary_code kind) 0 ≡ false = grind (arith, nat_tests) in
    rw (not_zero, c.0, fit) refl

field_code_end : (l : ℕ) → field_code l 0 ≡ Some None
unfolding field_code
field_code_end l = refl

-- ---- fields

module _ (l : ℕ) (S : Kind → Node → List ℕ → Type 0) (read : Kind → ByteReader Node) (layer : Layer l S read) where
  abbrev Last : ℤ → Node → Fields → List ℕ → Type 0
  Last id x = Made (field id x) (SpellsFields S)

  abbrev WithField : Kind → ℤ → Fields → List ℕ → Type 0
  WithField kind id = Then (S kind) (Last id)

  abbrev FieldTail : Option Kind → Fields → List ℕ → Type 0
  FieldTail None = Pure no_fields
  FieldTail (Some kind) = Then (IsSigned w16 2) (WithField kind)

  abbrev FieldsThen : Fields → List ℕ → Type 0
  FieldsThen = Then (OneByte (field_code l)) FieldTail

  fields_to : (w : Fields) (t : List ℕ) → FieldsThen w t → SpellsFields S w t
  fields_to w t (None, a, b, (c, byte, means, a_is), (w_is, b_is), e) =
      let zero_is : c ≡ 0 = field_code_is l c None means in
      subst (λ (z : Fields). SpellsFields S z t) (sym w_is)
      (before_none t a b b_is e ∙ a_is ∙ ap (λ (z : ℕ). z ∷ []) zero_is)
  fields_to w t (Some kind, a, b, (c, byte, means, a_is), (id, h, r, number, (x, u, r2, is, (xs, v, r3, p, (w_is, r3_is), e4), e3), e2), e) =
      let code : (c ≡ binary_code kind) × (fits l kind ≡ true) = field_code_is l c (Some kind) means in
      let tail : b ≡ h ++ (u ++ v) =
      e2 ∙ ap (λ (z : List ℕ). h ++ z) (e3 ∙ ap (λ (z : List ℕ). u ++ z) (before_none r2 v r3 r3_is e4)) in
      let t_is : t ≡ binary_code kind ∷ (h ++ (u ++ v)) =
      e ∙ ap (λ (z : List ℕ). z ++ b) a_is ∙ ap (λ (z : ℕ). z ∷ b) code.0 ∙ ap (λ (z : List ℕ). binary_code kind ∷ z) tail in
      subst (λ (z : Fields). SpellsFields S z t) (sym w_is) (kind, h, u, v, number, is, p, t_is)

  fields_from : (w : Fields) (t : List ℕ) → SpellsFields S w t → FieldsThen w t
  fields_from no_fields t e = (None, 0 ∷ [], [], (0, omega arith, field_code_end l, refl), (refl, refl), e)
  fields_from (field id x xs) t (kind, h, u, v, number, is, p, e) =
      let c = kind_code kind in
      let low = c.2 in
      let fit = layer.only kind x u is in (
        Some kind,
        binary_code kind ∷ [],
        h ++ (u ++ v),
        (binary_code kind, omega (arith, low), field_code_again l kind fit, refl),
        (id, h, u ++ v, number, (x, u, v, is, (xs, v, [], p, (refl, refl), sym (append-nil v)), refl), refl),
        e,
      )

  module _ (n : ℕ) (next : ByteReader Fields) (next_exact : Exact IsByte n (SpellsFields S) next) where
    last_follows : (id : ℤ) (x : Node) → Follows IsByte n (Last id x) (and_then next (λ xs. pure (field id x xs)))
    last_follows id x = record {
      exact = mapped_exact IsByte (SpellsFields S) next (λ xs. field id x xs) n next_exact;
      some = made_some (field id x) (SpellsFields S) (no_fields, 0 ∷ [], refl);
    }

    with_follows : (kind : Kind) → fits l kind ≡ true → (id : ℤ) → Follows IsByte n (WithField kind id) (with_field read next kind id)
    with_follows kind fit id =
        let s = layer.some kind fit in
        let r = (last_follows id s.0).some in
        record {
          exact = then_exact IsByte (S kind) (Last id) (read kind) (λ x. and_then next (λ xs. pure (field id x xs))) n n (layer.exact kind fit)
              (λ x t p. last_follows id x) (λ x t p. omega arith);
          some = (r.0, s.1 ++ r.1, (s.0, s.1, r.1, s.2, r.2, refl));
        }

    tail_follows : (o : Option Kind) (c : ℕ) → CodeIs l c o → Follows IsByte n (FieldTail o) (field_tail read next o)
    tail_follows None c is = record { exact = pure_exact IsByte no_fields n; some = (no_fields, [], (refl, refl)) }
    tail_follows (Some kind) c is =
        let s = signed_some w16 2 in
        let r = (with_follows kind is.1 s.0).some in
        record {
          exact = then_exact IsByte (IsSigned w16 2) (WithField kind) (signed w16 2) (with_field read next kind) n n (signed_exact w16 2)
              (λ id t p. with_follows kind is.1 id) (λ id t p. omega arith);
          some = (r.0, s.1 ++ r.1, (s.0, s.1, r.1, s.2, r.2, refl));
        }

    fields_step : Exact IsByte (suc n) (SpellsFields S) (and_then (one (field_code l)) (field_tail read next))
    fields_step =
        same_exact IsByte FieldsThen (SpellsFields S) (and_then (one (field_code l)) (field_tail read next))
        (record { to = fields_to; from = fields_from }) (suc n)
        (then_exact IsByte (OneByte (field_code l)) FieldTail (one (field_code l)) (field_tail read next) (suc n) n
        (one_exact IsByte (field_code l) 0 None (omega arith) (field_code_end l))
        (λ o t p. tail_follows o p.0 (field_code_is l p.0 o p.2)) (λ o t p. omega (arith, ap length p.3)))

  nothing_exact : (r : ByteReader Fields) → Exact IsByte 0 (SpellsFields S) r
  nothing_exact r = record {
    admitted = λ x t is lt. absurd (omega arith);
    sound = λ b x rest h lt e. absurd (omega arith);
    complete = λ x t rest is lt. absurd (omega arith);
    ends = λ b h lt e. absurd (omega arith);
    refuses = λ b left h lt e. absurd (omega arith);
  }

  fields_exact : (n : ℕ) → Exact IsByte n (SpellsFields S) (fields l read n)
  unfolding fields
  fields_exact zero = nothing_exact (λ b. Err Ended)
  fields_exact (suc n) = fields_step n (fields l read n) (fields_exact n)

  -- with as many turns as there are bytes
  all_exact : (n : ℕ) → Exact IsByte n (SpellsFields S) (all_fields l read)
  all_exact n = record {
    admitted = λ x t is lt. (fields_exact (suc (length t))).admitted x t is (omega arith);
    sound = λ b x rest h lt e. (fields_exact (suc (length b))).sound b x rest h (omega arith) e;
    complete = λ x t rest is lt. (fields_exact (suc (length (t ++ rest)))).complete x t rest is (omega arith);
    ends = λ b h lt e. (fields_exact (suc (length b))).ends b h (omega arith) e;
    refuses = λ b left h lt e. (fields_exact (suc (length b))).refuses b left h (omega arith) e;
  }

  -- ---- each value

  container_exact : (kind : Kind) (n : ℕ) → Exact IsByte n (SpellsBy S kind) (container l read kind)
  container_exact k.Flag n = scalar_exact k.Flag n refl
  container_exact k.I8 n = scalar_exact k.I8 n refl
  container_exact k.I16 n = scalar_exact k.I16 n refl
  container_exact k.I32 n = scalar_exact k.I32 n refl
  container_exact k.I64 n = scalar_exact k.I64 n refl
  container_exact k.Double n = scalar_exact k.Double n refl
  container_exact k.Binary n = scalar_exact k.Binary n refl
  container_exact k.List n = row_exact l S read layer list n
  container_exact k.Set n = row_exact l S read layer set n
  container_exact k.Map n = mapping_exact l S read layer n
  container_exact k.Struct n = mapped_exact IsByte (SpellsFields S) (all_fields l read) structure n (all_exact n)

  container_some : (kind : Kind) → (x : Node) × (t : List ℕ) × SpellsBy S kind x t
  container_some k.Flag = scalar_some k.Flag refl
  container_some k.I8 = scalar_some k.I8 refl
  container_some k.I16 = scalar_some k.I16 refl
  container_some k.I32 = scalar_some k.I32 refl
  container_some k.I64 = scalar_some k.I64 refl
  container_some k.Double = scalar_some k.Double refl
  container_some k.Binary = scalar_some k.Binary refl
  container_some k.List = row_some l S read layer list
  container_some k.Set = row_some l S read layer set
  container_some k.Map = map_some l S read layer
  container_some k.Struct = made_some structure (SpellsFields S) (no_fields, 0 ∷ [], refl)

pub value_layer : (l : ℕ) → Layer l (SpellsValue l) (value l)
unfolding value SpellsValue
value_layer zero = record { exact = λ kind fit n. scalar_exact kind n fit; some = scalar_some; only = scalar_fits }
value_layer (suc l) =
    let below = value_layer l in
    record {
      exact = λ kind fit n. container_exact l (SpellsValue l) (value l) below kind n;
      some = λ kind fit. container_some l (SpellsValue l) (value l) below kind;
      only = λ kind x t p. refl;
    }
