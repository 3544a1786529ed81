-- The layouts of a schema by their places, in the order of their numbers.
use Rattle.std.proofs.Common.{◌≡◌, ℕ, zero, suc, ◌<◌, List, [], ◌∷◌, length, map, Option, Some, None, refl, sym, ap, ◌∙◌, subst, arith}
use Rattle.std.specs.Prelude.{ℤ, pos, slice_get}
use Rattle.std.specs.List.{AllByRecursion}
use Rattle.frozen_model.specs.Trees.{AMap, Whole}
use Rattle.compact_wire.specs.declared.kind.Kind.TheVariants as k
use Rattle.compact_wire.specs.Reads.{value}
use Rattle.frozen_model.specs.Values.{Value, One, Number, Items, count, nth}
use Rattle.frozen_model.specs.Layouts.{Version}
use Rattle.idl_profile.specs.Types.{TypeTree, DefField, scalar, flag, kind_of, fields_of as fields_of_type}
use Rattle.idl_profile.specs.declared.kinds.TypeKind.TheVariants as kind
use Rattle.idl_profile.specs.declared.kinds.Need.TheVariants.{Plain}
use Rattle.typed_reading.specs.Meaning.{given, under}
use Rattle.compact_codec.specs.Wire.{number_in}
use Rattle.idl_parse.specs.Refs.{type_of_ref}
use Rattle.key_order.specs.InOrder.{row}
use Rattle.typed_tree.specs.Parts.{items_of, fields_of}
use Rattle.typed_tree.specs.Spots.{pair}
use Rattle.layout_schema.specs.declared.entries.Entries.{Entries}
use Rattle.layout_schema.specs.declared.table.LayoutBytes.{LayoutBytes}
use Rattle.layout_schema.specs.Schemas.{layout_type, schema_type, number}
use Rattle.layout_schema.specs.Shapes as shapes
use Rattle.layout_schema.specs.Shapes.{layouts_in, root_in}
use Rattle.layout_schema.specs.Standing.{layouts_type, spelled_as, rows_in}
use Rattle.layout_schema.specs.Table.{layout_value, IsWhole, AreOf}
use Rattle.layout_schema.specs.Reading.{AreEntries, AreLayouts, IsSchemaValue, IsSpelledLayout, IsSpelledSchema, layouts_told}
use Rattle.layout_schema.proofs.FieldSteps.{IsStruct}
use Rattle.layout_schema.proofs.ReadEntries.{keyed, IsKeyed, IsNumber, schema_form}
use Rattle.layout_schema.proofs.SchemaParts.{root_part}

row_count : {X : Type 0} (f : X → Value) (xs : List X) → count (row (map f xs)) ≡ length xs
row_count f [] = refl
row_count f (x ∷ xs) = ap suc (row_count f xs)

row_at : {X : Type 0} (f : X → Value) (xs : List X) (i : ℕ) (x : X) → slice_get xs i ≡ Some x → nth (row (map f xs)) i ≡ f x
row_at f [] i x e = absurd cc
row_at f (y ∷ ys) zero x e = let same : y ≡ x = cc in ap f same
row_at f (y ∷ ys) (suc i) x e = row_at f ys i x e

all_at : {X : Type 0} (P : X → Type 0) (xs : List X) (i : ℕ) (x : X) → AllByRecursion P xs → slice_get xs i ≡ Some x → P x
all_at P [] i x h e = absurd cc
all_at P (y ∷ ys) zero x h e = let same : y ≡ x = cc in subst P same h.0
all_at P (y ∷ ys) (suc i) x h e = all_at P ys i x h.1 e

abbrev pub told_map : Entries → Value
told_map e = Items AMap (layouts_told e)

module _ (e : Entries) (are : AreEntries e) where
  pub are_layouts : AreLayouts (told_map e)
  are_layouts = are.layouts

  pub many : count (layouts_told e) ≡ length e.layouts.now
  many = row_count (layout_value (type_of_ref e.ty)) e.layouts.now

  module _ (i : ℕ) (x : LayoutBytes) (here : slice_get e.layouts.now i ≡ Some x) (lt : i < length e.layouts.now) where
    pub at_place : nth (layouts_told e) i ≡ pair (One (Number x.number)) (spelled_as (type_of_ref e.ty) x.bytes.now)
    at_place = row_at (layout_value (type_of_ref e.ty)) e.layouts.now i x here

    pub inside : i < count (items_of (told_map e))
    inside = omega (arith, lt, many)

    pub its : IsKeyed (One (Number x.number)) (spelled_as (type_of_ref e.ty) x.bytes.now)
    its = keyed (told_map e) are_layouts i (One (Number x.number)) (spelled_as (type_of_ref e.ty) x.bytes.now) inside at_place

    pub is_spelled : IsSpelledLayout e x
    is_spelled = record {
      version = are.version;
      typed = are.typed;
      whole = all_at (IsWhole (type_of_ref e.ty)) e.layouts.now i x are.whole here;
      layout = its.layout;
    }

-- ---- the type of the layouts

abbrev type_in_field : Option DefField → TypeTree
type_in_field None = scalar flag
type_in_field (Some f) = f.type

pub layouts_field : (t : TypeTree) (v : Version) (f : DefField) → t ≡ schema_type v → slice_get (fields_of_type t) 1 ≡ Some f → f.type ≡ layouts_type v
layouts_field t v f is got = sym (ap type_in_field (ap (λ u. slice_get (fields_of_type u) 1) (sym is) ∙ got))

pub two_fields : (t : TypeTree) (v : Version) → t ≡ schema_type v → 1 < length (fields_of_type t)
two_fields t v is = subst (λ u. 1 < length (fields_of_type u)) (sym is) (omega arith)

pub is_struct_type : (t : TypeTree) (v : Version) → t ≡ schema_type v → kind_of t ≡ kind.Struct
is_struct_type t v is = ap kind_of is

-- ---- the layouts of a schema's bytes

is_number : {k : Whole} {v : Value} → IsNumber k v → (z : ℤ) → number_in v ≡ z → v ≡ One (Number z)
is_number n z is = n.is ∙ ap (λ y. One (Number y)) (sym (ap number_in n.is) ∙ is)

module _ (t : TypeTree) (b : List ℕ) (h : IsSpelledSchema t b) where
  abbrev pub schema : Value
  schema = spelled_as t b

  pub is_schema_value : IsSchemaValue schema
  is_schema_value = (h.version, h.kinds)

  clean : IsStruct (schema_type h.version) b
  clean = subst (λ u. IsStruct u b) h.typed h.clean

  -- the root's number as a call tells it
  pub root_told : (z : ℤ) → ((v : Version) → IsStruct (schema_type v) b → number_in (given Plain (under (pos 3) (rows_in (schema_type v) (value 64 k.Struct b))) (number (pos 0))) ≡ z) → nth (fields_of schema) 2 ≡ One (Number z)
  root_told z e = is_number (schema_form schema is_schema_value).root z (ap (λ u. root_in (spelled_as u b)) h.typed ∙ root_part h.version b clean ∙ e h.version clean)

  module _ (e : Entries) (xs : List LayoutBytes) (typed : type_of_ref e.ty ≡ layout_type h.version) (same : e.layouts.now ≡ xs)
      (of : (v : Version) → IsStruct (schema_type v) b → AreOf v (shapes.part (spelled_as (schema_type v) b) 1) xs) where
    its_layouts : shapes.part schema 1 ≡ told_map e
    its_layouts =
        ap (λ u. shapes.part (spelled_as u b) 1) h.typed ∙ (of h.version clean).are
        ∙ ap (λ u. Items AMap (row (map (layout_value u) xs))) (sym typed)
        ∙ ap (λ ys. Items AMap (row (map (layout_value (type_of_ref e.ty)) ys))) (sym same)

    pub are_entries : AreEntries e
    are_entries = record {
      version = h.version;
      typed = typed;
      layouts = subst AreLayouts its_layouts (schema_form schema is_schema_value).layouts;
      whole = subst (λ ys. AllByRecursion (IsWhole (type_of_ref e.ty)) ys) (sym same) (subst (λ u. AllByRecursion (IsWhole u) xs) (sym typed) (of h.version clean).whole);
    }

    pub layouts_are : layouts_told e ≡ layouts_in schema
    layouts_are = sym (ap items_of its_layouts)
