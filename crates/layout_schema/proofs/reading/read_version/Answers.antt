use Rattle.std.proofs.Common.{List, ℕ, ◌≡◌, ◌≢◌, ◌∙◌, Err, refl, sym, ap, subst}
use mir.Val.{of_z}
use mir.Syntax.{w64}
use Rattle.std.specs.Prelude.{ℤ, pos}
use Rattle.frozen_model.specs.Layouts.{Version1, Version2}
use Rattle.compact_wire.specs.declared.kind.Kind.TheVariants as k
use Rattle.compact_wire.specs.Reads.{value}
use Rattle.compact_codec.specs.Wire.{number_in}
use Rattle.typed_reading.specs.Meaning.{given, under}
use Rattle.idl_profile.specs.declared.kinds.Need.TheVariants.{Plain}
use Rattle.idl_profile.specs.Types.{TypeTree, scalar, i32, flag}
use Rattle.idl_parse.specs.Refs.{type_of_ref}
use Rattle.layout_schema.specs.declared.fault.SchemaFault.TheVariants as fault
use Rattle.layout_schema.specs.Schemas.{schema_type, number}
use Rattle.layout_schema.specs.Shapes.{relaxes_in, version_in}
use Rattle.layout_schema.specs.Standing.{spelled_as, rows_in}
use Rattle.layout_schema.specs.Telling.{IsSpelled, IsReadAs, IsAnswer}
use Rattle.layout_schema.proofs.ReadSchema.{IsVersion, is_schema, told_version, first_schema, first_told, second_faulty, second_schema, second_told, other_version}
use Rattle.layout_schema.proofs.FieldSteps.{IsStruct}
use Rattle.layout_schema.proofs.SchemaParts.{spelled_clean, version_part, relaxes_part}
use Rattle.layout_schema.proofs.reading.read_version.Goals as goal

-- the version as the call has told it
told : (b : List ℕ) → IsSpelled (schema_type Version1) b (spelled_as (schema_type Version1) b) → (z : ℤ)
    → (IsStruct (schema_type Version1) b → number_in (given Plain (under (pos 4) (rows_in (schema_type Version1) (value 64 k.Struct b))) (number (pos 0))) ≡ z) → IsVersion (spelled_as (schema_type Version1) b) z
told b h z e =
    let s = spelled_as (schema_type Version1) b in
    let clean = spelled_clean (schema_type Version1) b s h in
    told_version s (is_schema b Version1 s h) z (version_part Version1 b clean ∙ e clean)

pub read_layout-requires : goal.read_layout-requires
read_layout-requires c =
    let b = c.args.bytes.now in
    let s = spelled_as (schema_type Version1) b in
    let version : version_in s ≡ pos 1 = (told c.args.bytes.now c.requires.spelled c.number_of_field-version.result (λ clean. c.number_of_field-version.ensures (schema_type Version1) (scalar i32) refl tt clean)).by_bits 1 c.if-version-eq1.true in
    (Version1, c.requires.typed, c.requires.spelled, first_schema b s c.requires.spelled version)

pub returns-then-version-eq1-clause-answer : goal.returns-then-version-eq1-clause-answer
returns-then-version-eq1-clause-answer c =
    let b = c.args.bytes.now in
    let s = spelled_as (schema_type Version1) b in
    let version : version_in s ≡ pos 1 = (told c.args.bytes.now c.requires.spelled c.number_of_field-version.result (λ clean. c.number_of_field-version.ensures (schema_type Version1) (scalar i32) refl tt clean)).by_bits 1 c.if-version-eq1.true in
    first_told b s c.requires.spelled version c.read_layout.result (c.read_layout.ensures.told Version1 c.requires.typed (first_schema b s c.requires.spelled version))

pub overflow_cast-result : goal.overflow_cast-result
overflow_cast-result c = (told c.args.bytes.now c.requires.spelled c.number_of_field-version.result (λ clean. c.number_of_field-version.ensures (schema_type Version1) (scalar i32) refl tt clean)).fits

pub returns-then-version-ne2-clause-answer : goal.returns-then-version-ne2-clause-answer
returns-then-version-ne2-clause-answer c =
    let b = c.args.bytes.now in
    let s = spelled_as (schema_type Version1) b in
    let z = c.number_of_field-version.result in
    let v = (told c.args.bytes.now c.requires.spelled c.number_of_field-version.result (λ clean. c.number_of_field-version.ensures (schema_type Version1) (scalar i32) refl tt clean)) in
    let not_one : z ≢ pos 1 = λ is. c.if-version-eq1.false (ap (of_z w64) is) in
    let not_two : z ≢ pos 2 = λ is. c.if-version-ne2.true (ap (of_z w64) is) in
    subst (λ (y : ℤ). IsAnswer b (Err (fault.Version y))) (sym v.cast) (other_version b s c.requires.spelled z v.is not_one not_two)

pub read_layout-requires-in-Ok : goal.read_layout-requires-in-Ok
read_layout-requires-in-Ok c =
    let b = c.args.bytes.now in
    let s = spelled_as (schema_type Version1) b in
    let u = spelled_as (schema_type Version2) b in
    let version : version_in s ≡ pos 2 = (told c.args.bytes.now c.requires.spelled c.number_of_field-version.result (λ clean. c.number_of_field-version.ensures (schema_type Version1) (scalar i32) refl tt clean)).by_bits 2 c.if-version-ne2.false in
    let is : type_of_ref c.root-ty.result ≡ schema_type Version2 = c.root-ty.ensures.tree ∙ c.in_ok-types.ensures.root in
    let k : IsSpelled (schema_type Version2) b u = subst (λ (t : TypeTree). IsSpelled t b (spelled_as t b)) is c.in-Ok.ensures in
    (Version2, is, k, second_schema b s c.requires.spelled u k version c.flag_of_field-relaxed.result)

pub returns-in-Ok-clause-answer : goal.returns-in-Ok-clause-answer
returns-in-Ok-clause-answer c =
    let b = c.args.bytes.now in
    let s = spelled_as (schema_type Version1) b in
    let u = spelled_as (schema_type Version2) b in
    let r = c.flag_of_field-relaxed.result in
    let version : version_in s ≡ pos 2 = (told c.args.bytes.now c.requires.spelled c.number_of_field-version.result (λ clean. c.number_of_field-version.ensures (schema_type Version1) (scalar i32) refl tt clean)).by_bits 2 c.if-version-ne2.false in
    let is : type_of_ref c.root-ty.result ≡ schema_type Version2 = c.root-ty.ensures.tree ∙ c.in_ok-types.ensures.root in
    let k : IsSpelled (schema_type Version2) b u = subst (λ (t : TypeTree). IsSpelled t b (spelled_as t b)) is c.in-Ok.ensures in
    let clean = spelled_clean (schema_type Version1) b s c.requires.spelled in
    let relaxed : relaxes_in s ≡ r = relaxes_part Version1 b clean ∙ c.flag_of_field-relaxed.ensures (schema_type Version1) (scalar flag) refl tt clean in
    second_told b s c.requires.spelled u k version r relaxed c.read_layout-in-Ok.result
    (c.read_layout-in-Ok.ensures.told Version2 is (second_schema b s c.requires.spelled u k version r))

pub returns-clause-answer : goal.returns-clause-answer
returns-clause-answer c =
    let b = c.args.bytes.now in
    let s = spelled_as (schema_type Version1) b in
    let version : version_in s ≡ pos 2 = (told c.args.bytes.now c.requires.spelled c.number_of_field-version.result (λ clean. c.number_of_field-version.ensures (schema_type Version1) (scalar i32) refl tt clean)).by_bits 2 c.if-version-ne2.false in
    let is : type_of_ref c.root-ty.result ≡ schema_type Version2 = c.root-ty.ensures.tree ∙ c.in_ok-types.ensures.root in
    second_faulty b s c.requires.spelled version c.in-Err.fault (subst (λ (t : TypeTree). IsReadAs t b (Err c.in-Err.fault)) is c.in-Err.ensures)
