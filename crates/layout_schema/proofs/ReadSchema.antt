-- The answer for the bytes of a schema, from the steps of reading them.
use Rattle.std.proofs.Common.{◌≡◌, ◌≢◌, ◌⊎◌, inl, inr, rules, ℕ, Bool, true, false, if◌then◌else◌, List, Some, Result, Ok, Err, refl, sym, ap, ◌∙◌, subst}
use mir.Val.{SFits, to_z, of_z}
use mir.Syntax.{w32, w64}
use Rattle.std.specs.Prelude.{ℤ, pos, negsuc, IfOk, IfErr}
use Rattle.std.specs.Ordering.{int_eq}
use Rattle.std.specs.Str.{IsUtf8}
use Rattle.std.proofs.Math.Facts.{sfits_widen}
use Rattle.std.proofs.lemmas.Int.{to_z-of_z}
use Rattle.frozen_model.specs.Values.{Value, InBits, Of}
use Rattle.frozen_model.specs.Layouts.{Version, Version1, Version2, Described, described}
use Rattle.compact_wire.specs.declared.fault.WireFault.{WireFault}
use Rattle.compact_wire.specs.declared.fault.WireFault.TheVariants.{Truncated, Malformed, Trailing, NoMemory}
use Rattle.compact_wire.specs.Node.{Node}
use Rattle.compact_wire.specs.Spells.{SpellsWire}
use Rattle.compact_wire.proofs.WireLaws.{one_node}
use Rattle.wire_scan.specs.Scanned.{IsScanned}
use Rattle.wire_scan.proofs.ScanLaws.{scanned_only}
use Rattle.idl_profile.specs.Types.{TypeTree}
use Rattle.type_kinds.specs.KindsOf.{kinds_of}
use Rattle.typed_reading.specs.declared.fault.NodeFault.{NodeFault}
use Rattle.typed_reading.specs.declared.fault.ValueFault.{ValueFault}
use Rattle.typed_reading.specs.declared.fault.ValueFault.TheVariants as value
use Rattle.typed_reading.specs.Answers.{IsLeastFault, IsCaused}
use Rattle.typed_reading.specs.Faults.{faults, here, least}
use Rattle.typed_reading.specs.Meaning.{meaning, Typed}
use Rattle.typed_reading.proofs.Valued.{typed_is_value}
use Rattle.layout_tree.specs.declared.layouts.Layouts.{Layouts}
use Rattle.layout_tree.specs.declared.node.NodeSpec.{NodeSpec}
use Rattle.layout_tree.specs.Given.{IsListOf, ListsLayout}
use Rattle.layout_tree.specs.Listing.{layout_in, tree_of}
use Rattle.layout_tree.specs.Nodes.{layout_of}
use Rattle.typed_reading.proofs.FieldLaws.{int_eq_same}
use Rattle.layout_schema.specs.declared.fault.SchemaFault.{SchemaFault}
use Rattle.layout_schema.specs.declared.fault.SchemaFault.TheVariants as fault
use Rattle.layout_schema.specs.Schemas.{schema_type}
use Rattle.layout_schema.specs.Shapes.{relaxes_in, version_in, shape_in}
use Rattle.layout_schema.specs.Answers.{with_fields, with_shape, with_version, schema_in, IsSaid, IsSchemaFault}
use Rattle.layout_schema.specs.Reading.{IsSchemaValue, IsAtFault}
use Rattle.layout_schema.specs.Telling.{fault_told, IsFaultyAt, IsSpelled, IsReadAs, IsSchemaOf, Tells, IsAnswer}
use Rattle.layout_schema.proofs.ReadEntries.{in_bits, schema_form}
use Rattle.layout_schema.proofs.OwnSchema.{schema_accepted, schema_short}
use Rattle.layout_schema.proofs.Shape.{listed_again, shape_sound}
use Rattle.layout_schema.proofs.Versions.{versions_agree}
use Rattle.layout_schema.proofs.Exact.{own_rows, second, second_or, by_version, second_version}

-- ---- a fault of a value is one of a schema

least_told : (t : TypeTree) (b : List ℕ) (n : ℕ) (k : NodeFault) → IsLeastFault t b n k → IsFaultyAt t b n
least_told t b n k h = (h.0, here n k, h.1, h.2, refl)

pub read_fault : (t : TypeTree) (b : List ℕ) (f : ValueFault) → IsCaused t b (Err f) → IsReadAs t b (Err (fault_told f))
read_fault t b (value.Wire f) h = h
read_fault t b (value.RepeatedField n) h = least_told t b n _ h
read_fault t b (value.MissingRequired n id) h = least_told t b n _ h
read_fault t b (value.WrongType n) h = least_told t b n _ h
read_fault t b (value.BadText n) h = least_told t b n _ h
read_fault t b (value.RepeatedKey n) h = least_told t b n _ h
read_fault t b (value.TooManyCells c) h = absurd h
read_fault t b value.NoMemory h = tt

-- ---- the layout of a value

pub schema_value : (v : Version) (z : ℤ) (r : Bool) (s : Value) → IsSchemaOf v z r s → IsSchemaValue s
schema_value v z r s h = (v, h.kinds)

module _ (v : Version) (z : ℤ) (r : Bool) (s : Value) (ns : List NodeSpec) (h : IsSchemaOf v z r s) (e : shape_in s ≡ Ok ns) where
  lists : (d : Described) × (IsListOf d ns z r) × (with_shape v r (shape_in s) ≡ Ok d)
  lists =
      let said = shape_sound v s ns (own_rows v) h.kinds (h.tells ∙ h.numbered) e in
      let l = said.tree in (
        described v r l,
        record { described = record { relaxing = h.relaxing; layout = said.layout }; numbered = h.numbered; relaxes = refl; nodes = said.nodes },
        ap (with_shape v r) e ∙ ap (λ (xs : List NodeSpec). Ok (described v r (layout_in v (tree_of xs)))) said.nodes ∙ ap (λ m. Ok (described v r m)) (listed_again v l said.layout.coded),
      )

  pub lists_layout : ListsLayout ns z r
  lists_layout = record { layout = lists.0; is = lists.1 }

  pub tells_layout : (layouts : Layouts) → ((d : Described) → IsListOf d ns z r → layout_of layouts ≡ d) → Tells (Ok layouts) (with_shape v r (shape_in s))
  tells_layout layouts of = lists.2 ∙ ap Ok (sym (of lists.0 lists.1))

pub tells_fault : (v : Version) (r : Bool) (s : Value) (f : SchemaFault) → IsAtFault f (shape_in s) → Tells (Err f) (with_shape v r (shape_in s))
tells_fault v r s (fault.Shape n) h = ap (with_shape v r) h
tells_fault v r s fault.NoMemory h = tt
tells_fault v r s (fault.Spelling f) h = absurd h
tells_fault v r s (fault.Fields n) h = absurd h
tells_fault v r s (fault.Version n) h = absurd h

-- ---- parts of a value of the type of version 1

within_32 : (z : ℤ) → InBits 31 z → SFits w32 z
within_32 (pos n) h = search rules
within_32 (negsuc n) h = search rules

-- the version that calls have told as z, by its bits too
pub record IsVersion (s : Value) (z : ℤ) : Type 0 where
  pub is : version_in s ≡ z
  pub by_bits : (n : ℕ) → of_z w64 z ≡ n → version_in s ≡ to_z w64 n
  pub fits : SFits w32 (to_z w64 (of_z w64 z))
  pub cast : to_z w32 (of_z w32 (to_z w64 (of_z w64 z))) ≡ z

version_is : (s : Value) (z : ℤ) → version_in s ≡ z → SFits w32 z → IsVersion s z
version_is s z is fits =
    let word : to_z w64 (of_z w64 z) ≡ z = to_z-of_z w64 z (sfits_widen tt fits) in
    record {
      is = is;
      by_bits = λ n e. is ∙ sym word ∙ ap (to_z w64) e;
      fits = subst (SFits w32) (sym word) fits;
      cast = ap (λ y. to_z w32 (of_z w32 y)) word ∙ to_z-of_z w32 z fits;
    }

pub told_version : (s : Value) → IsSchemaValue s → (z : ℤ) → version_in s ≡ z → IsVersion s z
told_version s h z is = version_is s z is (within_32 z (subst (InBits 31) is (in_bits (schema_form s h).version)))

module _ (b : List ℕ) where
  value_of : (v : Version) (s : Value) → IsSpelled (schema_type v) b s → Of (kinds_of (schema_type v)) s
  value_of v s h = typed_is_value (schema_type v) h.0 b s (schema_accepted IsUtf8 v) (schema_short v) h.1 h.2

  pub is_schema : (v : Version) (s : Value) → IsSpelled (schema_type v) b s → IsSchemaValue s
  is_schema v s h = (v, value_of v s h)

  -- ---- what is not both

  not_scanned : (w : Node) (f : WireFault) → SpellsWire w b → IsScanned b (Err f) → ⊥
  not_scanned w f s c = let e = (scanned_only b (Err f) c).spelled w s in cc

  same_scanned : (f g : WireFault) → IsScanned b (Err f) → IsScanned b (Err g) → f ≡ g
  same_scanned f Truncated c d = let e = (scanned_only b (Err f) c).truncated d in cc
  same_scanned f (Malformed p) c d = let e = (scanned_only b (Err f) c).malformed p d in cc
  same_scanned f (Trailing p) c d = let e = (scanned_only b (Err f) c).trailing p d in cc
  same_scanned f NoMemory c d = absurd d

  said_once : (r q : Result Described SchemaFault) → IsSaid b r → IsSaid b q → r ≡ q
  said_once r q x y = sym x.2 ∙ ap schema_in (one_node x.0 y.0 b x.1 y.1) ∙ y.2

  -- ---- the answer where the bytes are no value of the type of version 1

  pub first_faulty : (f : SchemaFault) → IsReadAs (schema_type Version1) b (Err f) → IsAnswer b (Err f)
  first_faulty (fault.Spelling f) h = inl h
  first_faulty (fault.Fields n) (w, f, s, e, is) =
      inl (w, s, ap (λ o. with_fields o (with_version w (meaning w (schema_type Version1)))) e ∙ ap (λ m. Err (fault.Fields m)) is)
  first_faulty fault.NoMemory h = inr refl
  first_faulty (fault.Version n) h = absurd h
  first_faulty (fault.Shape n) h = absurd h

  -- ---- the answer where they are the value s

  answer_told : (w : Node) (answer : Result Described SchemaFault) → SpellsWire w b → schema_in w ≡ answer → (r : Result Layouts SchemaFault) → Tells r answer → IsAnswer b r
  answer_told w answer s e (Ok layouts) t = (w, s, e ∙ t)
  answer_told w answer s e (Err (fault.Shape n)) t = inl (w, s, e ∙ t)
  answer_told w answer s e (Err fault.NoMemory) t = inr refl
  answer_told w answer s e (Err (fault.Spelling f)) t = absurd t
  answer_told w answer s e (Err (fault.Fields n)) t = absurd t
  answer_told w answer s e (Err (fault.Version n)) t = absurd t

  module _ (s : Value) (h : IsSpelled (schema_type Version1) b s) where
    said_by_version : schema_in h.0 ≡ with_version h.0 s
    said_by_version =
        ap (λ o. with_fields o (with_version h.0 (meaning h.0 (schema_type Version1)))) (ap least h.2.clean) ∙ ap (with_version h.0) h.2.is

    -- version 1
    pub first_schema : version_in s ≡ pos 1 → IsSchemaOf Version1 (pos 1) false s
    first_schema e = record { numbered = refl; kinds = value_of Version1 s h; tells = e; relaxing = refl }

    pub first_told : version_in s ≡ pos 1 → (r : Result Layouts SchemaFault) → Tells r (with_shape Version1 false (shape_in s)) → IsAnswer b r
    first_told e r t =
        let is = by_version h.0 s ∙ ap (λ z. if int_eq z (pos 1) then with_shape Version1 false (shape_in s) else second_or z h.0 (relaxes_in s)) e in
        answer_told h.0 (with_shape Version1 false (shape_in s)) h.1 (said_by_version ∙ is) r t

    -- version 2
    said_second : version_in s ≡ pos 2 → schema_in h.0 ≡ second h.0 (relaxes_in s)
    said_second e = said_by_version ∙ second_version h.0 s e

    pub second_faulty : version_in s ≡ pos 2 → (f : SchemaFault) → IsReadAs (schema_type Version2) b (Err f) → IsAnswer b (Err f)
    second_faulty e (fault.Spelling f) c = absurd (not_scanned h.0 f h.1 c)
    second_faulty e (fault.Fields n) (w, f, spelled, faulty, is) =
        let same = one_node h.0 w b h.1 spelled in
        let here : least (faults h.0 (schema_type Version2) 0) ≡ Some f = ap (λ x. least (faults x (schema_type Version2) 0)) same ∙ faulty in
        inl (
          h.0,
          h.1,
          said_second e ∙ ap (λ o. with_fields o (with_shape Version2 (relaxes_in s) (shape_in (meaning h.0 (schema_type Version2))))) here ∙ ap (λ m. Err (fault.Fields m)) is,
        )
    second_faulty e fault.NoMemory c = inr refl
    second_faulty e (fault.Version n) c = absurd c
    second_faulty e (fault.Shape n) c = absurd c

    module _ (u : Value) (k : IsSpelled (schema_type Version2) b u) where
      typed_here : Typed (schema_type Version2) h.0 u
      typed_here = subst (λ x. Typed (schema_type Version2) x u) (one_node k.0 h.0 b k.1 h.1) k.2

      pub second_schema : version_in s ≡ pos 2 → (r : Bool) → IsSchemaOf Version2 (pos 2) r u
      second_schema e r = record {
        numbered = refl;
        kinds = value_of Version2 u k;
        tells = ap version_in (sym typed_here.is) ∙ sym (versions_agree h.0) ∙ ap version_in h.2.is ∙ e;
        relaxing = tt;
      }

      pub second_told : version_in s ≡ pos 2 → (relaxed : Bool) → relaxes_in s ≡ relaxed → (r : Result Layouts SchemaFault) → Tells r (with_shape Version2 relaxed (shape_in u)) → IsAnswer b r
      second_told e relaxed same r t =
          let is : second h.0 (relaxes_in s) ≡ with_shape Version2 relaxed (shape_in u) =
          ap (λ o. with_fields o (with_shape Version2 (relaxes_in s) (shape_in (meaning h.0 (schema_type Version2))))) (ap least typed_here.clean)
          ∙ ap (λ y. with_shape Version2 (relaxes_in s) (shape_in y)) typed_here.is
          ∙ ap (λ x. with_shape Version2 x (shape_in u)) same in
          answer_told h.0 (with_shape Version2 relaxed (shape_in u)) h.1 (said_second e ∙ is) r t

    -- another version
    pub other_version : (z : ℤ) → version_in s ≡ z → z ≢ pos 1 → z ≢ pos 2 → IsAnswer b (Err (fault.Version z))
    other_version z e not_one not_two = inl (h.0, h.1, said_by_version ∙ by_version h.0 s ∙ ap (λ y. if int_eq y (pos 1) then with_shape Version1 false (shape_in s) else second_or y h.0 (relaxes_in s)) e ∙ other (int_eq z (pos 1)) (int_eq z (pos 2)) refl refl)
      where
        other : (m n : Bool) → int_eq z (pos 1) ≡ m → int_eq z (pos 2) ≡ n → (if int_eq z (pos 1) then with_shape Version1 false (shape_in s) else second_or z h.0 (relaxes_in s)) ≡ Err (fault.Version z)
        other true n em en = absurd (not_one (int_eq_same z (pos 1) em))
        other false true em en = absurd (not_two (int_eq_same z (pos 2) en))
        other false false em en = rw em (rw en refl)

  -- ---- what an answer tells

  pub layout_answer : (r : Result Layouts SchemaFault) → IsAnswer b r → IfOk r (λ layouts. IsSaid b (Ok (layout_of layouts)))
  layout_answer (Ok layouts) h = h
  layout_answer (Err f) h = tt

  pub fault_answer : (r : Result Layouts SchemaFault) → IsAnswer b r → IfErr r (λ f. IsSchemaFault b f ⊎ (f ≡ fault.NoMemory))
  fault_answer (Ok layouts) h = tt
  fault_answer (Err f) h = h

  -- ---- no other answer

  -- a fault of the spelling, or one that a tree says
  abbrev Faulty : SchemaFault → Type 0
  Faulty f = ((g : WireFault) × (f ≡ fault.Spelling g) × IsScanned b (Err g)) ⊎ IsSaid b (Err f)

  faulty : (f : SchemaFault) → IsSchemaFault b f → Faulty f
  faulty (fault.Spelling g) h = inl (g, refl, h)
  faulty (fault.Fields n) h = inr h
  faulty (fault.Version n) h = inr h
  faulty (fault.Shape n) h = inr h
  faulty fault.NoMemory h = absurd h

  same_fault : (f g : SchemaFault) → Faulty f → Faulty g → f ≡ g
  same_fault f g (inl (x, e, c)) (inl (y, d, k)) = e ∙ ap (λ z. fault.Spelling z) (same_scanned x y c k) ∙ sym d
  same_fault f g (inl (x, e, c)) (inr said) = absurd (not_scanned said.0 x said.1 c)
  same_fault f g (inr said) (inl (y, d, k)) = absurd (not_scanned said.0 y said.1 k)
  same_fault f g (inr said) (inr other) = let e = said_once (Err f) (Err g) said other in cc

  not_fault : (d : Described) (f : SchemaFault) → IsSaid b (Ok d) → Faulty f → ⊥
  not_fault d f said (inl (g, e, c)) = not_scanned said.0 g said.1 c
  not_fault d f said (inr other) = let e = said_once (Ok d) (Err f) said other in cc

  pub only_answer : (r : Result Layouts SchemaFault) → IsAnswer b r → (f : SchemaFault) → IsSchemaFault b f → (r ≡ Err f) ⊎ (r ≡ Err fault.NoMemory)
  only_answer (Ok layouts) said f h = absurd (not_fault (layout_of layouts) f said (faulty f h))
  only_answer (Err g) (inl k) f h = inl (ap Err (same_fault g f (faulty g k) (faulty f h)))
  only_answer (Err g) (inr full) f h = inr (ap Err full)
