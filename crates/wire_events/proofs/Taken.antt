-- What is read as an event's header or scalar are the bytes that spell it.
use Rattle.std.proofs.Common.{◌≡◌, ◌≢◌, ℕ, zero, suc, ◌+◌, ◌-◌, ◌*◌, ◌/◌, ◌%◌, ◌^◌, ◌<◌, ◌≤◌, ◌⊎◌, inl, inr, List, [], ◌∷◌, ◌++◌, length, Bool, true, false, ◌||◌, cond, eqb, Option, Some, None, Result, Ok, Err, refl, sym, ap, subst, ◌∙◌, append_assoc, arith}
use Rattle.std.proofs.lemmas.Bool.{eqb-true, eqb-false}
use Rattle.std.specs.Prelude.{ℤ, option_and_then}
use Rattle.exact_reading.specs.declared.stop.Stop.{Stop}
use Rattle.exact_reading.specs.Reading.{one, seen}
use Rattle.exact_reading.proofs.Items.{ok_is, bind_ok, admitted-back}
use Rattle.exact_reading.proofs.Combinators.{meaning_ok}
use Rattle.compact_wire.specs.declared.kind.Kind.{Kind}
use Rattle.compact_wire.specs.declared.kind.Kind.TheVariants as k
use Rattle.compact_wire.specs.declared.header.ListHeader.{ListHeader}
use Rattle.compact_wire.specs.declared.header.ListHeader.TheVariants.{Sized as sized, Counted as counted}
use Rattle.compact_wire.specs.declared.header.PairKinds.{PairKinds}
use Rattle.compact_wire.specs.declared.header.FieldType.{FieldType}
use Rattle.compact_wire.specs.declared.header.FieldHeader.{FieldHeader}
use Rattle.compact_wire.specs.declared.header.FieldHeader.TheVariants.{End as stop, Step as step, Long as long}
use Rattle.compact_wire.specs.Bytes.{IsByte, AreBytes}
use Rattle.compact_wire.specs.Codes.{code_of, kind_of}
use Rattle.compact_wire.specs.Node.{Node}
use Rattle.compact_wire.specs.Number.{IsNumber}
use Rattle.compact_wire.specs.Reads.{scalar, fits, most_bytes, list_header, list_header_of, element, count, number, signed, kind_at, kinds_of, pair_kinds, map_header, field_start, field_header, start_tail}
use Rattle.compact_wire.specs.Spells.{IsListHeader, short_list_header, long_list_header, IsFieldHeader, step_field_header, long_field_header}
use Rattle.compact_wire.proofs.NumberLaws.{number_exact}
use Rattle.compact_wire.proofs.Signed.{signed_exact}
use Rattle.compact_wire.proofs.ScalarLaws.{scalar_exact}
use Rattle.compact_wire.proofs.SequenceLaws.{and_then_some}
use Rattle.compact_wire.proofs.MapLaws.{kind_at_is}
use Rattle.compact_wire.proofs.StructLaws.{HeaderIs, header_is}
use Rattle.wire_events.specs.Events.{first_event, field_event, end_event, list_event, set_event, map_event}
use Rattle.wire_events.specs.Texts.{SpellsEvent, field_text, end_text, scalar_text, list_text, set_text, no_map_text, map_text, Takes}

-- ---- scalars

scalar_fits : (kind : Kind) (b : List ℕ) (w : Node) (rest : List ℕ) → scalar kind b ≡ Ok (w, rest) → fits 0 kind ≡ true
unfolding scalar
scalar_fits k.Flag b w rest e = refl
scalar_fits k.I8 b w rest e = refl
scalar_fits k.I16 b w rest e = refl
scalar_fits k.I32 b w rest e = refl
scalar_fits k.I64 b w rest e = refl
scalar_fits k.Double b w rest e = refl
scalar_fits k.Binary b w rest e = refl
scalar_fits k.List b w rest e = absurd cc
scalar_fits k.Set b w rest e = absurd cc
scalar_fits k.Map b w rest e = absurd cc
scalar_fits k.Struct b w rest e = absurd cc

pub scalar_takes : (kind : Kind) (b : List ℕ) (w : Node) (rest : List ℕ) → AreBytes b → scalar kind b ≡ Ok (w, rest)
    → Takes (first_event w) b rest
scalar_takes kind b w rest bytes e =
    let s = (scalar_exact 0 kind (suc (length b)) (scalar_fits kind b w rest e)).sound b w rest bytes (omega arith) e in
    (s.0, scalar_text kind w s.0 s.1, s.2)

-- ---- numbers

-- the bytes of a number, and the rest
abbrev NumberAt : ℕ → ℕ → ℕ → List ℕ → List ℕ → Type 0
NumberAt most greatest n b rest = (t : List ℕ) × IsNumber most greatest n t × (b ≡ t ++ rest)

number_at : (room greatest : ℕ) (b : List ℕ) (n : ℕ) (rest : List ℕ) → AreBytes b
    → number room greatest b ≡ Ok (n, rest) → NumberAt (suc room) greatest n b rest
number_at room greatest b n rest bytes e =
    (number_exact room greatest (suc (length b))).sound b n rest bytes (omega arith) e

-- ---- lists and sets

-- what is read of a header byte
abbrev RowIs : ℕ → ListHeader → Type 0
RowIs b (sized kind size) = (b / 16 ≢ 15) × (size ≡ b / 16) × (kind_of (b % 16) ≡ Some kind)
RowIs b (counted kind) = (b / 16 ≡ 15) × (kind_of (b % 16) ≡ Some kind)

row_chosen : (b : ℕ) (kind : Kind) (fifteen fit : Bool) (h : ListHeader) → eqb (b / 16) 15 ≡ fifteen
    → kind_of (b % 16) ≡ Some kind
    → cond fifteen (Some (counted kind)) (cond (eqb (b / 16) 0 || fit) (Some (sized kind (b / 16))) None) ≡ Some h
    → RowIs b h
row_chosen b kind true fit h at is e =
    let same : counted kind ≡ h = cc in subst (RowIs b) same (eqb-true _ _ at, is)
row_chosen b kind false fit h at is e = by (eqb (b / 16) 0 || fit) e
  where
    by : (o : Bool) → cond o (Some (sized kind (b / 16))) None ≡ Some h → RowIs b h
    by true j = let same : sized kind (b / 16) ≡ h = cc in subst (RowIs b) same (eqb-false _ _ at, refl, is)
    by false j = absurd cc

row_header : (levels b : ℕ) (h : ListHeader) → list_header levels b ≡ Some h → RowIs b h
unfolding list_header
row_header levels b h e =
    let a = and_then_some (kind_of (b % 16)) (list_header_of levels (b / 16)) h e in
    row_chosen b a.0 (eqb (b / 16) 15) (fits levels a.0) h refl a.1 a.2

most_of : (fit : Bool) (n : ℕ) → n ≤ cond fit most_bytes 0 → n ≤ 2 ^ 31 - 1
most_of true n le = le
most_of false n le = omega arith

-- the bytes of a list's header, and the rest
abbrev pub RowAt : Kind → ℕ → List ℕ → List ℕ → Type 0
RowAt kind n b rest = (t : List ℕ) × IsListHeader kind n t × (b ≡ t ++ rest)

row_by : (levels c : ℕ) (h : ListHeader) (r : List ℕ) (n : ℕ) (q : List ℕ) → IsByte c → AreBytes r → RowIs c h
    → count levels h r ≡ Ok (n, q) → RowAt (element h) n (c ∷ r) q
row_by levels c (sized kind size) r n q byte bytes is e =
    let o = ok_is size n r q e in
    let n_is : n ≡ c / 16 = sym o.0 ∙ is.1 in (
      c ∷ [],
      short_list_header kind n (c % 16) (c ∷ []) (omega (arith, n_is, is.0)) (omega arith) is.2
          (ap (λ (z : ℕ). z ∷ []) (omega (arith, n_is))),
      ap (λ (z : List ℕ). c ∷ z) o.1,
    )
row_by levels c (counted kind) r n q byte bytes is e =
    let a = number_at 4 (cond (fits levels kind) most_bytes 0) r n q bytes e in
    let most : IsNumber 5 (2 ^ 31 - 1) n a.0 = record {
      short_enough = a.1.short_enough;
      small_enough = most_of (fits levels kind) n a.1.small_enough;
      digits = a.1.digits;
    } in (
      c ∷ a.0,
      long_list_header kind n (c % 16) (c ∷ a.0) a.0 (omega arith) is.1 most
          (ap (λ (z : ℕ). z ∷ a.0) (omega (arith, is.0))),
      ap (λ (z : List ℕ). c ∷ z) a.2,
    )

pub row_at : (levels : ℕ) (b : List ℕ) (h : ListHeader) (r : List ℕ) (n : ℕ) (q : List ℕ) → AreBytes b
    → one (list_header levels) b ≡ Ok (h, r) → count levels h r ≡ Ok (n, q) → RowAt (element h) n b q
row_at levels [] h r n q bytes e g = absurd cc
row_at levels (c ∷ b) h r n q bytes e g =
    let m = meaning_ok IsByte (list_header levels c) b h r e in
    subst (λ (z : List ℕ). RowAt (element h) n (c ∷ z) q) (sym m.1)
    (row_by levels c h r n q bytes.0 (subst AreBytes m.1 bytes.1) (row_header levels c h m.0) g)

-- ---- maps

kinds_are : (o p : Option Kind) (h : PairKinds) → kinds_of o p ≡ Some h → (o ≡ Some h.key) × (p ≡ Some h.value)
kinds_are (Some c) (Some d) h e =
    let same : pair_kinds c d ≡ h = cc in
    (ap (λ (z : PairKinds). Some z.key) same, ap (λ (z : PairKinds). Some z.value) same)
kinds_are (Some c) None h e = absurd cc
kinds_are None p h e = absurd cc

heads : (levels c : ℕ) (h : PairKinds) → map_header levels c ≡ Some h
    → (kind_of (c / 16) ≡ Some h.key) × (kind_of (c % 16) ≡ Some h.value)
unfolding map_header
heads levels c h e =
    let t = kinds_are (kind_at levels (c / 16)) (kind_at levels (c % 16)) h e in
    ((kind_at_is levels (c / 16) h.key t.0).0, (kind_at_is levels (c % 16) h.value t.1).0)

pub no_map_takes : (b : List ℕ) (n : ℕ) (q : List ℕ) → AreBytes b → number 4 most_bytes b ≡ Ok (n, q) → n ≡ 0
    → Takes (map_event 0 0 0) b q
no_map_takes b n q bytes e none =
    let a = number_at 4 most_bytes b n q bytes e in
    (a.0, no_map_text a.0 (subst (λ (m : ℕ). IsNumber 5 (2 ^ 31 - 1) m a.0) none a.1), a.2)

map_by : (levels n : ℕ) (b q : List ℕ) (kinds : PairKinds) (p : List ℕ) → AreBytes q → n ≢ 0
    → NumberAt 5 (2 ^ 31 - 1) n b q → one (map_header levels) q ≡ Ok (kinds, p)
    → Takes (map_event (code_of kinds.key) (code_of kinds.value) n) b p
map_by levels n b [] kinds p bytes some a e = absurd cc
map_by levels zero b (c ∷ q) kinds p bytes some a e = absurd (some refl)
map_by levels (suc n) b (c ∷ q) kinds p bytes some a e =
    let m = meaning_ok IsByte (map_header levels c) q kinds p e in
    let f = heads levels c kinds m.0 in
    let byte : c < 256 = bytes.0 in
    let c_is : c ≡ 16 * (c / 16) + c % 16 = omega arith in (
      a.0 ++ c ∷ [],
      map_text kinds.key kinds.value n (c / 16) (c % 16) (a.0 ++ c ∷ []) a.0 a.1 (omega arith) (omega arith) f.0 f.1
          (ap (λ (z : ℕ). a.0 ++ z ∷ []) c_is),
      a.2 ∙ ap (λ (z : List ℕ). a.0 ++ c ∷ z) m.1 ∙ sym (append_assoc a.0 (c ∷ []) p),
    )

rest_bytes : (t b rest : List ℕ) → b ≡ t ++ rest → AreBytes b → AreBytes rest
rest_bytes t b rest e bytes = admitted-back IsByte t rest (subst AreBytes e bytes)

pub map_takes : (levels : ℕ) (b : List ℕ) (n : ℕ) (q : List ℕ) (kinds : PairKinds) (p : List ℕ) → AreBytes b
    → number 4 most_bytes b ≡ Ok (n, q) → n ≢ 0 → one (map_header levels) q ≡ Ok (kinds, p)
    → Takes (map_event (code_of kinds.key) (code_of kinds.value) n) b p
map_takes levels b n q kinds p bytes e some g =
    let a = number_at 4 most_bytes b n q bytes e in
    map_by levels n b q kinds p (rest_bytes a.0 b q a.2 bytes) some a g

-- ---- fields

-- the end of a struct, or a field's header
abbrev pub StartTakes : Option (ℤ × FieldType) → List ℕ → List ℕ → Type 0
StartTakes None b rest = Takes end_event b rest
StartTakes (Some p) b rest = Takes (field_event p.0) b rest

start_by : (levels : ℕ) (before : ℤ) (c : ℕ) (h : FieldHeader) (r : List ℕ) (o : Option (ℤ × FieldType))
    (q : List ℕ) → IsByte c → AreBytes r → HeaderIs levels before c h → start_tail h r ≡ Ok (o, q)
    → StartTakes o (c ∷ r) q
unfolding HeaderIs
start_by levels before c stop r o q byte bytes is e =
    let s = ok_is None o r q e in
    subst (λ (z : Option (ℤ × FieldType)). StartTakes z (c ∷ r) q) s.0
    (c ∷ [], end_text (c ∷ []) (ap (λ (z : ℕ). z ∷ []) is), ap (λ (z : List ℕ). c ∷ z) s.1)
start_by levels before c (step id type) r o q byte bytes is e =
    let s = ok_is (Some (id, type)) o r q e in
    let c_is : c ≡ 16 * (c / 16) + c % 16 = omega arith in
    let header = step_field_header before (c / 16) (c % 16) (c ∷ []) is.0 (omega arith) (omega arith) is.2
    (ap (λ (z : ℕ). z ∷ []) c_is) in
    subst (λ (z : Option (ℤ × FieldType)). StartTakes z (c ∷ r) q) s.0 (
      c ∷ [],
      field_text before id (c % 16) (c ∷ [])
          (subst (λ (z : ℤ). IsFieldHeader before z (c % 16) (c ∷ [])) (sym is.1) header),
      ap (λ (z : List ℕ). c ∷ z) s.1,
    )
start_by levels before c (long type) r o q byte bytes is e =
    let a = bind_ok (signed 2 (2 ^ 16 - 1) r) (λ p. Ok (Some (p.0, type), p.1)) (o, q) e in
    let s = ok_is (Some (a.0.0, type)) o a.0.1 q a.2 in
    let n = (signed_exact 2 (2 ^ 16 - 1) (suc (length r))).sound r a.0.0 a.0.1 bytes (omega arith) a.1 in
    let low : c / 16 ≡ 0 = is.0 in
    subst (λ (z : Option (ℤ × FieldType)). StartTakes z (c ∷ r) q) s.0 (
      c ∷ n.0,
      field_text before a.0.0 c (c ∷ n.0) (long_field_header before a.0.0 c (c ∷ n.0) n.0 (omega arith) n.1 refl),
      ap (λ (z : List ℕ). c ∷ z) (n.2 ∙ ap (λ (z : List ℕ). n.0 ++ z) s.1),
    )

pub start_takes : (levels : ℕ) (before : ℤ) (b : List ℕ) (o : Option (ℤ × FieldType)) (q : List ℕ) → AreBytes b
    → field_start levels before b ≡ Ok (o, q) → StartTakes o b q
unfolding field_start
start_takes levels before [] o q bytes e = absurd cc
start_takes levels before (c ∷ b) o q bytes e =
    let a = bind_ok (one (field_header levels before) (c ∷ b)) (λ p. start_tail p.0 p.1) (o, q) e in
    let m = meaning_ok IsByte (field_header levels before c) b a.0.0 a.0.1 a.1 in
    subst (λ (z : List ℕ). StartTakes o (c ∷ z) q) (sym m.1)
    (start_by levels before c a.0.0 a.0.1 o q bytes.0 (subst AreBytes m.1 bytes.1)
    (header_is levels before c a.0.0 m.0) a.2)
