-- The parts of a schema, as they stand in its bytes.
use Rattle.std.proofs.Common.{◌≡◌, ℕ, List, [], Some, None, Result, Ok, Err, false, refl, sym, ap, subst, ◌∙◌, arith}
use Rattle.std.specs.Prelude.{ℤ, pos}
use Rattle.exact_reading.specs.declared.stop.Stop.{Stop}
use Rattle.exact_reading.specs.Reading.{◌>>=◌}
use Rattle.exact_reading.proofs.Items.{ok_is}
use Rattle.frozen_model.specs.Trees.{AMap}
use Rattle.frozen_model.specs.Values.{Value, Truth, One, Items, NoValue}
use Rattle.frozen_model.specs.Layouts.{Version}
use Rattle.compact_wire.specs.declared.header.FieldType.{FieldType}
use Rattle.compact_wire.specs.declared.header.FieldType.TheVariants.{Given as given_flag, Of as of_kind}
use Rattle.compact_wire.specs.declared.kind.Kind.TheVariants as k
use Rattle.compact_wire.specs.Node.{Node, flag, structure, Fields}
use Rattle.compact_wire.specs.Reads.{value, typed, all_fields}
use Rattle.compact_wire.specs.Spells.{SpellsWire}
use Rattle.idl_profile.specs.Types.{TypeTree}
use Rattle.idl_profile.specs.declared.kinds.Need.TheVariants.{Plain}
use Rattle.typed_reading.specs.Answers.{IsValue}
use Rattle.typed_reading.specs.Faults.{faults}
use Rattle.typed_reading.specs.Meaning.{given, under, meaning}
use Rattle.compact_codec.specs.Building.{IsClean}
use Rattle.compact_codec.specs.Wire.{flag_in, number_in}
use Rattle.compact_codec.proofs.Clean.{clean_code}
use Rattle.compact_codec.proofs.Complete.{whole_clean}
use Rattle.layout_schema.specs.declared.fields.Standing.{Standing}
use Rattle.layout_schema.specs.declared.table.LayoutBytes.{LayoutBytes}
use Rattle.layout_schema.specs.Schemas.{schema_type, number}
use Rattle.layout_schema.specs.Shapes.{part, relaxes_in, root_in, version_in}
use Rattle.layout_schema.specs.Standing.{layouts_type, meant, spelled_as, rows_in, IsAt, Stands}
use Rattle.layout_schema.specs.Table.{AreOf}
use Rattle.layout_schema.specs.Telling.{IsSpelled}
use Rattle.layout_schema.proofs.Deeper.{wire_read}
use Rattle.layout_schema.proofs.FieldSteps.{IsStruct, as_fields, kind_code, clean_of}
use Rattle.layout_schema.proofs.TableSteps.{kind_11}

-- ---- bytes without fault spell their value

pub spelled_is : (t : TypeTree) (b : List ℕ) (w : Node) → SpellsWire w b → spelled_as t b ≡ meaning w t
spelled_is t b w s = ap (meant t) (wire_read b w s)

pub value_spelled_as : (t : TypeTree) (b : List ℕ) (w : Node) → IsValue t b w → IsSpelled t b (spelled_as t b)
value_spelled_as t b w is = (w, is.spelled, record { clean = is.clean; is = sym (spelled_is t b w is.spelled) })

pub spelled_clean : (t : TypeTree) (b : List ℕ) (s : Value) → IsSpelled t b s → IsStruct t b
spelled_clean t b s h = whole_clean t b h.0 (record { spelled = h.1; clean = h.2.clean })

-- ---- the parts

-- what is read without fault is a struct
record IsFields (r : Result (Node × List ℕ) Stop) : Type 0 where
  pub its : Fields
  pub end : List ℕ
  pub are : r ≡ Ok (structure its, end)

fields_read : (t : TypeTree) (b : List ℕ) → IsStruct t b → IsFields (value 64 k.Struct b)
fields_read t b clean = by (all_fields 63 (value 63) b) refl (subst (IsClean t) (as_fields b) clean)
  where
    by : (r : Result (Fields × List ℕ) Stop) → all_fields 63 (value 63) b ≡ r → IsClean t (r >>= λ p. Ok (structure p.0, p.1)) → IsFields (value 64 k.Struct b)
    by (Ok p) e g = record { its = p.0; end = p.1; are = as_fields b ∙ ap (λ (r : Result (Fields × List ℕ) Stop). r >>= λ q. Ok (structure q.0, q.1)) e }
    by (Err d) e g = absurd g

module _ (v : Version) (b : List ℕ) (clean : IsStruct (schema_type v) b) where
  abbrev its_rows : List (ℤ × Value)
  its_rows = rows_in (schema_type v) (value 64 k.Struct b)

  fs : IsFields (value 64 k.Struct b)
  fs = fields_read (schema_type v) b clean

  pub relaxes_part : relaxes_in (spelled_as (schema_type v) b) ≡ flag_in (given Plain (under (pos 1) its_rows) (One (Truth false)))
  relaxes_part = subst (λ r. relaxes_in (meant (schema_type v) r) ≡ flag_in (given Plain (under (pos 1) (rows_in (schema_type v) r)) (One (Truth false)))) (sym fs.are) refl

  pub layouts_part : part (spelled_as (schema_type v) b) 1 ≡ given Plain (under (pos 2) its_rows) (Items AMap NoValue)
  layouts_part = subst (λ r. part (meant (schema_type v) r) 1 ≡ given Plain (under (pos 2) (rows_in (schema_type v) r)) (Items AMap NoValue)) (sym fs.are) refl

  pub root_part : root_in (spelled_as (schema_type v) b) ≡ number_in (given Plain (under (pos 3) its_rows) (number (pos 0)))
  root_part = subst (λ r. root_in (meant (schema_type v) r) ≡ number_in (given Plain (under (pos 3) (rows_in (schema_type v) r)) (number (pos 0)))) (sym fs.are) refl

  pub version_part : version_in (spelled_as (schema_type v) b) ≡ number_in (given Plain (under (pos 4) its_rows) (number (pos 0)))
  version_part = subst (λ r. version_in (meant (schema_type v) r) ≡ number_in (given Plain (under (pos 4) (rows_in (schema_type v) r)) (number (pos 0)))) (sym fs.are) refl

  -- ---- the layouts

  pub no_layouts : Stands (schema_type v) (layouts_type v) (pos 2) (value 64 k.Struct b) None → AreOf v (part (spelled_as (schema_type v) b) 1) []
  no_layouts none = record { are = layouts_part ∙ ap (λ o. given Plain o (Items AMap NoValue)) none; whole = tt }

  module _ (s : Standing) (there : Stands (schema_type v) (layouts_type v) (pos 2) (value 64 k.Struct b) (Some s)) where
    abbrev at : IsAt (layouts_type v) s there.0
    at = there.2

    of_map : (ty : FieldType) → typed (value 63) ty s.bytes.now ≡ Ok (at.node, at.after) → value 63 k.Map s.bytes.now ≡ Ok (at.node, at.after)
    of_map (given_flag x) e =
        let same : flag x ≡ at.node = (ok_is (flag x) at.node s.bytes.now at.after e).0 in
        let f : faults (flag x) (layouts_type v) at.number ≡ [] = subst (λ w. faults w (layouts_type v) at.number ≡ []) (sym same) at.clean in
        absurd (let c = clean_code (layouts_type v) (flag x) (clean_of (layouts_type v) (flag x) at.number f) in omega (arith, c))
    of_map (of_kind kind) e =
        let c : IsClean (layouts_type v) (value 63 kind s.bytes.now) = subst (IsClean (layouts_type v)) (sym e) (at.number, at.clean) in
        let is = kind_11 kind (kind_code 62 kind s.bytes.now (layouts_type v) at.bytes c) in
        ap (λ z. value 63 z s.bytes.now) (sym is) ∙ e

    map_read : value 63 k.Map s.bytes.now ≡ Ok (at.node, at.after)
    map_read = of_map s.field_type at.reads

    pub map_clean_there : IsClean (layouts_type v) (value 63 k.Map s.bytes.now)
    map_clean_there = subst (IsClean (layouts_type v)) (sym map_read) (at.number, at.clean)

    pub layouts_there : (xs : List LayoutBytes) → AreOf v (meant (layouts_type v) (value 63 k.Map s.bytes.now)) xs → AreOf v (part (spelled_as (schema_type v) b) 1) xs
    layouts_there xs h = record {
      are = layouts_part ∙ ap (λ o. given Plain o (Items AMap NoValue)) there.1 ∙ sym at.is ∙ sym (ap (meant (layouts_type v)) map_read) ∙ h.are;
      whole = h.whole;
    }
