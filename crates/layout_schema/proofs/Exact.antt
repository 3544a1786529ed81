-- Bytes are a schema of a layout exactly where reading says this layout.
use Rattle.std.proofs.Common.{◌≡◌, ℕ, ℤ, pos, List, [], Bool, true, false, if◌then◌else◌, Option, None, Some, Result, Ok, Err, refl, ap, sym, ◌∙◌, subst}
use Rattle.std.specs.Str.{IsUtf8}
use Rattle.std.specs.Ordering.{int_eq}
use Rattle.frozen_model.specs.Trees.{Struct, NoField}
use Rattle.frozen_model.specs.Values.{Value, OfEach}
use Rattle.frozen_model.specs.Layouts.{Version, Version1, Version2, Described, described, Layout, IsLayout, MayRelax}
use Rattle.compact_wire.specs.Node.{Node}
use Rattle.compact_wire.specs.Spells.{SpellsWire}
use Rattle.typed_reading.specs.declared.fault.Found.{Found}
use Rattle.typed_reading.specs.Faults.{faults, least}
use Rattle.typed_reading.specs.Meaning.{meaning, Typed}
use Rattle.typed_reading.specs.Laws.{TypedIsValue}
use Rattle.typed_reading.proofs.LeastLaws.{least_none}
use Rattle.layout_tree.specs.declared.node.NodeSpec.{NodeSpec}
use Rattle.layout_tree.specs.Listing.{layout_in, tree_of, version_number}
use Rattle.typed_reading.proofs.FieldLaws.{int_eq_same}
use Rattle.layout_schema.specs.declared.fault.SchemaFault.{SchemaFault}
use Rattle.layout_schema.specs.declared.fault.SchemaFault.TheVariants as fault
use Rattle.layout_schema.specs.Schemas.{schema_type, schema_with, schema_of}
use Rattle.layout_schema.specs.Shapes.{relaxes_in, version_in, layouts_in as rows_in, shape_in}
use Rattle.layout_schema.specs.Answers.{IsRelaxedAs, SchemaBytes, with_fields, with_shape, with_version, schema_in, IsSaid}
use Rattle.layout_schema.proofs.OwnSchema.{keyed, layout_kinds, schema_accepted, schema_short, schema_is_value}
use Rattle.layout_schema.proofs.Shape.{listed_again, shape_complete, OwnRows, parts, shape_sound}
use Rattle.layout_schema.proofs.Versions.{schema_weaker, versions_agree, relaxes_agree}

-- ---- a schema is said

none_least : (fs : List Found) → fs ≡ [] → least fs ≡ None
none_least fs e = ap least e

-- what a tree with this relaxTypeChecks says whose version is 2
abbrev pub second : Node → Bool → Result Described SchemaFault
second w r = with_fields (least (faults w (schema_type Version2) 0)) (with_shape Version2 r (shape_in (meaning w (schema_type Version2))))

-- what it says whose version z is not 1
abbrev pub second_or : ℤ → Node → Bool → Result Described SchemaFault
second_or z w r = if int_eq z (pos 2) then second w r else Err (fault.Version z)

-- what a tree says whose Schema of version 1 is s, by its version
pub by_version : (w : Node) (s : Value) → with_version w s ≡ (if int_eq (version_in s) (pos 1) then with_shape Version1 false (shape_in s) else second_or (version_in s) w (relaxes_in s))
by_version w s = refl

pub second_version : (w : Node) (s : Value) → version_in s ≡ pos 2 → with_version w s ≡ second w (relaxes_in s)
second_version w s e = by_version w s ∙ ap (λ z. if int_eq z (pos 1) then with_shape Version1 false (shape_in s) else second_or z w (relaxes_in s)) e

module _ (w : Node) (relaxes : Bool) (l : Layout) where
  first_said : IsLayout Version1 l → Typed (schema_type Version1) w (schema_with relaxes Version1 l) → schema_in w ≡ Ok (described Version1 false l)
  first_said h t =
      ap (λ o. with_fields o (with_version w (meaning w (schema_type Version1)))) (none_least (faults w (schema_type Version1) 0) t.clean)
      ∙ ap (with_version w) t.is
      ∙ ap (with_shape Version1 false) (shape_complete Version1 relaxes l h)
      ∙ ap (λ m. Ok (described Version1 false m)) (listed_again Version1 l h.coded)

  second_said : IsLayout Version2 l → Typed (schema_type Version2) w (schema_with relaxes Version2 l) → schema_in w ≡ Ok (described Version2 relaxes l)
  second_said h t =
      let s = meaning w (schema_type Version1) in
      let u = meaning w (schema_type Version2) in
      let version : version_in s ≡ pos 2 = versions_agree w ∙ ap version_in t.is in
      ap (λ o. with_fields o (with_version w s)) (none_least (faults w (schema_type Version1) 0) (schema_weaker w 0 t.clean))
      ∙ second_version w s version
      ∙ ap (second w) (relaxes_agree w)
      ∙ ap (λ o. with_fields o (with_shape Version2 (relaxes_in u) (shape_in u))) (none_least (faults w (schema_type Version2) 0) t.clean)
      ∙ ap (λ y. with_shape Version2 (relaxes_in y) (shape_in y)) t.is
      ∙ ap (with_shape Version2 relaxes) (shape_complete Version2 relaxes l h)
      ∙ ap (λ m. Ok (described Version2 relaxes m)) (listed_again Version2 l h.coded)

said_by : (w : Node) (relaxes : Bool) (v : Version) (r : Bool) (l : Layout) → MayRelax v r → IsLayout v l → IsRelaxedAs (described v r l) relaxes
    → Typed (schema_type v) w (schema_with relaxes v l) → schema_in w ≡ Ok (described v r l)
said_by w relaxes Version1 r l may h kept t = first_said w relaxes l h t ∙ ap (λ b. Ok (described Version1 b l)) (sym may)
said_by w relaxes Version2 r l may h kept t = second_said w relaxes l h t ∙ ap (λ b. Ok (described Version2 b l)) (kept refl)

pub schema_said : (b : List ℕ) (d : Described) → SchemaBytes b d → IsSaid b (Ok d)
schema_said b d h = (h.tree, h.spelled, said_by h.tree h.relaxes d.version d.relaxed d.tree h.within.relaxing h.within.layout h.kept h.typed)

-- ---- what is said is a schema

pub own_rows : (v : Version) → OwnRows v
own_rows Version1 l h =
    let d = described Version1 false l in
    let p = parts Version1 (schema_of d) (schema_is_value d (record { relaxing = refl; layout = h })) in
    subst (OfEach (keyed (layout_kinds Version1))) (sym (ap rows_in p.is)) p.each
own_rows Version2 l h =
    let d = described Version2 false l in
    let p = parts Version2 (schema_of d) (schema_is_value d (record { relaxing = tt; layout = h })) in
    subst (OfEach (keyed (layout_kinds Version2))) (sym (ap rows_in p.is)) p.each

-- what an answer holds
abbrev described_in : Result Described SchemaFault → Described
described_in (Ok d) = d
described_in (Err f) = described Version1 false (Struct NoField)

fields_ok : (o : Option Found) (r : Result Described SchemaFault) (d : Described) → with_fields o r ≡ Ok d → (o ≡ None) × (r ≡ Ok d)
fields_ok None r d e = (refl, e)
fields_ok (Some f) r d e = absurd cc

shape_ok : (v : Version) (r : Bool) (a : Result (List NodeSpec) ℤ) (d : Described) → with_shape v r a ≡ Ok d → (ns : List NodeSpec) × (a ≡ Ok ns) × (described v r (layout_in v (tree_of ns)) ≡ d)
shape_ok v r (Ok ns) d e = (ns, refl, ap described_in e)
shape_ok v r (Err z) d e = absurd cc

module _ (values : TypedIsValue) (b : List ℕ) (w : Node) (spelled : SpellsWire w b) where
  -- read as a Schema of a version
  of_version : (v : Version) (r : Bool) (d : Described) → faults w (schema_type v) 0 ≡ [] → version_in (meaning w (schema_type v)) ≡ version_number v → MayRelax v r
      → (v ≡ Version2 → relaxes_in (meaning w (schema_type v)) ≡ r) → with_shape v r (shape_in (meaning w (schema_type v))) ≡ Ok d → SchemaBytes b d
  of_version v r d clean version may kept e =
      let s = meaning w (schema_type v) in
      let a = shape_ok v r (shape_in s) d e in
      let typed : Typed (schema_type v) w s = record { clean = clean; is = refl } in
      let of = values (schema_type v) w b s (schema_accepted IsUtf8 v) (schema_short v) spelled typed in
      let said = shape_sound v s a.0 (own_rows v) of version a.1 in
      let l = said.tree in
      let is : described v r l ≡ d = ap (λ m. described v r m) (sym (ap (λ (ns : List NodeSpec). layout_in v (tree_of ns)) said.nodes ∙ listed_again v l said.layout.coded)) ∙ a.2 in
      subst (SchemaBytes b) is (record {
        within = record { relaxing = may; layout = said.layout };
        tree = w;
        spelled = spelled;
        relaxes = relaxes_in s;
        kept = kept;
        typed = record { clean = clean; is = said.is };
      })

  -- of a tree whose Schema of version 1 is s, by its version
  of_versions : (d : Described) (s : Value) → meaning w (schema_type Version1) ≡ s → faults w (schema_type Version1) 0 ≡ [] → with_version w s ≡ Ok d → SchemaBytes b d
  of_versions d s is clean e = go (int_eq (version_in s) (pos 1)) (int_eq (version_in s) (pos 2)) refl refl (sym (by_version w s) ∙ e)
    where
      go : (m n : Bool) → int_eq (version_in s) (pos 1) ≡ m → int_eq (version_in s) (pos 2) ≡ n
          → (if m then with_shape Version1 false (shape_in s) else (if n then second w (relaxes_in s) else Err (fault.Version (version_in s)))) ≡ Ok d → SchemaBytes b d
      go true n em en h =
          of_version Version1 false d clean (ap version_in is ∙ int_eq_same (version_in s) (pos 1) em) refl (λ q. absurd cc) (ap (λ y. with_shape Version1 false (shape_in y)) is ∙ h)
      go false true em en h =
          let u = meaning w (schema_type Version2) in
          let two = fields_ok (least (faults w (schema_type Version2) 0)) (with_shape Version2 (relaxes_in s) (shape_in u)) d h in
          of_version Version2 (relaxes_in s) d (least_none (faults w (schema_type Version2) 0) two.0)
          (sym (versions_agree w) ∙ ap version_in is ∙ int_eq_same (version_in s) (pos 2) en) tt (λ q. sym (relaxes_agree w) ∙ ap relaxes_in is) two.1
      go false false em en h = absurd cc

  pub said_schema : (d : Described) → schema_in w ≡ Ok d → SchemaBytes b d
  said_schema d e =
      let s = meaning w (schema_type Version1) in
      let one = fields_ok (least (faults w (schema_type Version1) 0)) (with_version w s) d e in
      of_versions d s refl (least_none (faults w (schema_type Version1) 0) one.0) one.1

-- ---- one layout at most

pub of_one : (b : List ℕ) (d e : Described) → ((v w : Node) (s : List ℕ) → SpellsWire v s → SpellsWire w s → v ≡ w) → IsSaid b (Ok d) → IsSaid b (Ok e) → d ≡ e
of_one b d e unique x y = ap described_in (sym x.2 ∙ ap schema_in (unique x.0 y.0 b x.1 y.1) ∙ y.2)
