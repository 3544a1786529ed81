-- What is known of the part of a lens, by whether the file has it.
use Rattle.std.proofs.Common.{◌≡◌, ℕ, ◌≤◌, ◌<◌, ap, sym, subst, ◌∙◌, arith, ◌⊎◌, Bool}
use Rattle.idl_profile.specs.declared.kinds.TypeKind.TheVariants as k
use Rattle.idl_profile.specs.Types.{TypeTree, kind_of}
use Rattle.idl_parse.specs.Refs.{type_of_ref, field_of_ref}
use Rattle.frozen_model.specs.Values.{Value, One, Bytes, NoValue, Truth, Number, count}
use Rattle.frozen_model.specs.Layouts.{Layout}
use Rattle.type_kinds.specs.Defaults.{default_of, written}
use Rattle.type_kinds.specs.Accepted.{IsKeyType}
use Rattle.typed_tree.specs.Parts.{IsFlag, IsInt, IsText, IsBytes, IsRow, IsMap, IsItems, items_of}
use Rattle.bit_view.specs.Views.{value_of_view}
use Rattle.evolve.specs.declared.lens.Stored.{Stored}
use Rattle.evolve.specs.declared.lens.Lacked.{Lacked}
use Rattle.evolve.specs.declared.lens.Lens.{Lens}
use Rattle.evolve.specs.declared.lens.Lens.TheVariants as lens
use Rattle.evolve.specs.Binding.{Binds}
use Rattle.evolve.specs.Lenses.{value_of_lens}
use Rattle.evolve.specs.Written.{flag_in, int_in, bytes_in}
use Rattle.evolve.proofs.Tags.{tag, proj_tag, proj_stays, row_tag, map_tag, tag_items, map_before}
use Rattle.evolve.proofs.Rows.{IsRowType, IsMapType, row_type, map_type, row_kind, map_kind, key_part}
use Rattle.evolve.proofs.Rows.{key_known, items_before, proj_count}
use Rattle.evolve.proofs.Lacking.{given, written_flag, written_int, written_bytes, written_items}
use Rattle.evolve.proofs.Known.{lens_form}

pub rebound : {r q : Bool} {t u : TypeTree} {m n : Layout} → q ≡ r → u ≡ t → n ≡ m → Binds r t m → Binds q u n
rebound {r} {q} {t} {u} {m} {n} er et em b =
    subst (λ (x : Bool). Binds x u n) (sym er) (subst (λ (x : TypeTree). Binds r x n) (sym et)
    (subst (λ (x : Layout). Binds r t x) (sym em) b))

-- ---- what the file has

-- a flag, a number, a text and bytes are what the file has
pub stored_stays : (l : Lens) (s : Stored) → l ≡ lens.Stored s → tag (value_of_lens l) ≤ 1
    → value_of_lens l ≡ value_of_view s.view
stored_stays l s e h =
    let same = ap value_of_lens e in
    let few : tag (value_of_lens (lens.Stored s)) ≤ 1 = subst (λ v. tag v ≤ 1) same h in
    same ∙ proj_stays (type_of_ref s.ty) (value_of_view s.view)
    (omega (arith, few, proj_tag (type_of_ref s.ty) (value_of_view s.view)))

pub stored_items : (l : Lens) (s : Stored) → l ≡ lens.Stored s → IsItems (value_of_lens l)
    → IsItems (value_of_view s.view)
stored_items l s e h =
    items_before (type_of_ref s.ty) (value_of_view s.view) (subst IsItems (ap value_of_lens e) h)

pub stored_count : (l : Lens) (s : Stored) → l ≡ lens.Stored s → IsItems (value_of_lens l)
    → count (items_of (value_of_view s.view)) ≡ count (items_of (value_of_lens l))
stored_count l s e h =
    sym (ap (λ l. count (items_of (value_of_lens l))) e
    ∙ proj_count (type_of_ref s.ty) (value_of_view s.view) (stored_items l s e h))

pub row_has_items : (v : Value) → IsRow v → IsItems v
row_has_items v h = tag_items v (row_tag v h)

pub map_has_items : (v : Value) → IsMap v → IsItems v
map_has_items v h = tag_items v (map_tag v h)

pub record RowAt (s : Stored) (i : ℕ) : Type 0 where
  pub type : IsRowType (type_of_ref s.ty)
  pub kind : (kind_of (type_of_ref s.ty) ≡ k.List) ⊎ (kind_of (type_of_ref s.ty) ≡ k.Set)
  pub key : IsKeyType (key_part (type_of_ref s.ty))
  pub items : IsItems (value_of_view s.view)
  pub inside : i < count (items_of (value_of_view s.view))

pub row_at : (l : Lens) (s : Stored) (i : ℕ) → l ≡ lens.Stored s → IsRow (value_of_lens l)
    → i < count (items_of (value_of_lens l)) → RowAt s i
row_at l s i e row lt =
    let t = type_of_ref s.ty in
    let type = row_type t (value_of_lens (lens.Stored s)) (lens_form (lens.Stored s))
    (subst IsRow (ap value_of_lens e) row) in
    let items = row_has_items (value_of_lens l) row in
    record {
      type = type;
      kind = row_kind t type;
      key = key_known t s.accepted;
      items = stored_items l s e items;
      inside = subst (λ n. i < n) (sym (stored_count l s e items)) lt;
    }

pub record MapAt (s : Stored) (i : ℕ) : Type 0 where
  pub type : IsMapType (type_of_ref s.ty)
  pub kind : kind_of (type_of_ref s.ty) ≡ k.Map
  pub key : IsKeyType (key_part (type_of_ref s.ty))
  pub map : IsMap (value_of_view s.view)
  pub items : IsItems (value_of_view s.view)
  pub inside : i < count (items_of (value_of_view s.view))

pub map_at : (l : Lens) (s : Stored) (i : ℕ) → l ≡ lens.Stored s → IsMap (value_of_lens l)
    → i < count (items_of (value_of_lens l)) → MapAt s i
map_at l s i e map lt =
    let t = type_of_ref s.ty in
    let here = subst IsMap (ap value_of_lens e) map in
    let type = map_type t (value_of_lens (lens.Stored s)) (lens_form (lens.Stored s)) here in
    let items = map_has_items (value_of_lens l) map in
    record {
      type = type;
      kind = map_kind t type;
      key = key_known t s.accepted;
      map = map_before t (value_of_view s.view) here;
      items = stored_items l s e items;
      inside = subst (λ n. i < n) (sym (stored_count l s e items)) lt;
    }

-- ---- defaults

pub lacked_is : (l : Lens) (d : Lacked) → l ≡ lens.Default d
    → let f = field_of_ref d.field in value_of_lens l ≡ written f.default (default_of f.type)
lacked_is l d e = ap value_of_lens e ∙ given (field_of_ref d.field) d.needed

pub lacked_flag : (l : Lens) (d : Lacked) → l ≡ lens.Default d → IsFlag (value_of_lens l)
    → value_of_lens l ≡ One (Truth (flag_in (field_of_ref d.field).default))
lacked_flag l d e h =
    let f = field_of_ref d.field in
    let is = lacked_is l d e in
    is ∙ written_flag f.type f.default (subst IsFlag is h)

pub lacked_int : (l : Lens) (d : Lacked) → l ≡ lens.Default d → IsInt (value_of_lens l)
    → value_of_lens l ≡ One (Number (int_in (field_of_ref d.field).default))
lacked_int l d e h =
    let f = field_of_ref d.field in
    let is = lacked_is l d e in
    is ∙ written_int f.type f.default (subst IsInt is h)

pub lacked_bytes : (l : Lens) (d : Lacked) → l ≡ lens.Default d → IsBytes (value_of_lens l)
    → value_of_lens l ≡ Bytes (bytes_in (field_of_ref d.field).default)
lacked_bytes l d e h =
    let f = field_of_ref d.field in
    let is = lacked_is l d e in
    is ∙ written_bytes f.type f.default (subst IsBytes is h)

pub lacked_items : (l : Lens) (d : Lacked) → l ≡ lens.Default d → items_of (value_of_lens l) ≡ NoValue
lacked_items l d e =
    let f = field_of_ref d.field in
    ap items_of (lacked_is l d e) ∙ written_items f.type f.default

pub text_is_bytes : (v : Value) → IsText v → IsBytes v
text_is_bytes (Bytes bs) h = tt
text_is_bytes v h = absurd h

-- a default has no item
pub no_item : (l : Lens) (d : Lacked) (i : ℕ) → l ≡ lens.Default d → i < count (items_of (value_of_lens l))
    → ⊥
no_item l d i e lt = absurd (omega (arith, lt, ap count (lacked_items l d e)))
