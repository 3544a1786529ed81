-- Values of flat types have the inline cells alone; so the cells of their lists are a product.
use Rattle.std.proofs.Common.{◌≡◌, ℕ, zero, suc, ◌+◌, ◌*◌, ◌<◌, List, length, get_or, slice_get, Some, refl}
use Rattle.std.proofs.Common.{sym}
use Rattle.std.proofs.Common.{ap, ◌∙◌, subst, arith, inl, inr}
use Rattle.std.proofs.lemmas.Bool.{cases_lt}
use Rattle.std.proofs.lemmas.Option.{slice_get_within, get_or_from_slice_get}
use Rattle.idl_profile.specs.declared.kinds.Need.TheVariants.{Plain, Required, Optional}
use Rattle.idl_profile.specs.declared.kinds.TypeKind.TheVariants as kinds
use Rattle.idl_profile.specs.Types.{TypeTree, scalar, text, bytes, list_of, set_of, map_of, named, enum_of}
use Rattle.idl_profile.specs.Types.{struct_of}
use Rattle.idl_profile.specs.Types.{Fields, no_fields, field, DefField, field_list, fields_of, kind_of}
use Rattle.idl_profile.specs.Types.{flag, i8, i16, i32, i64}
use Rattle.idl_parse.specs.Refs.{element_of, key_of, value_of}
use Rattle.frozen_model.specs.Trees.{KindTree, KindTrees, Leaf, Optional as optional}
use Rattle.frozen_model.specs.Values as is
use Rattle.frozen_model.specs.Values.{Value, Values, Of, one, absent, present, record_of, OfEach, none, more}
use Rattle.frozen_model.specs.Values.{OfAll}
use Rattle.frozen_model.specs.Values.{no_part, part, count, cells, cells_each, cells_all, inline_cells}
use Rattle.frozen_model.specs.Values.{inline_cells_all}
use Rattle.type_kinds.specs.KindsOf.{kinds_of, kinds_of_fields}
use Rattle.typed_tree.specs.Sizes.{capped}
use Rattle.typed_tree.proofs.Celled.{all_fields, HasItems, HasPairs}
use Rattle.typed_tree.specs.Parts.{items_of}
use Rattle.typed_tree.specs.Ranges.{pair_kinds}
use Rattle.lens_values.specs.Flat.{IsLeaf, IsFlat, AreFlat}

pub listed : (t : TypeTree) → fields_of t ≡ field_list (all_fields t)
listed (named (struct_of w fs)) = refl
listed (named (enum_of w ms)) = refl
listed (scalar s) = refl
listed text = refl
listed bytes = refl
listed (list_of x) = refl
listed (set_of x) = refl
listed (map_of x y) = refl

-- ---- the fields of a struct, one after the other

-- the first so many fields are flat
abbrev pub FlatBefore : Fields → ℕ → Type 0
FlatBefore no_fields n = Unit {0}
FlatBefore (field i w a t d fs) zero = Unit {0}
FlatBefore (field i w a t d fs) (suc n) = IsFlat (kinds_of t) × FlatBefore fs n

pub flat_none : (fs : Fields) → FlatBefore fs 0
flat_none no_fields = tt
flat_none (field i w a t d fs) = tt

flat_next : (fs : Fields) (i : ℕ) (d : DefField) → i < length (field_list fs) → FlatBefore fs i
    → IsFlat (kinds_of (get_or (field_list fs) i d).type) → FlatBefore fs (suc i)
flat_next no_fields i d lt before h = tt
flat_next (field j w a t e fs) zero d lt before h = (h, flat_none fs)
flat_next (field j w a t e fs) (suc i) d lt before h =
    (before.0, flat_next fs i d (omega (arith, lt)) before.1 h)

pub flat_more : (t : TypeTree) (i : ℕ) (f : DefField) → slice_get (fields_of t) i ≡ Some f
    → FlatBefore (all_fields t) i → IsFlat (kinds_of f.type) → FlatBefore (all_fields t) (i + 1)
flat_more t i f at before h =
    let fs = all_fields t in
    let here = subst (λ (gs : List DefField). slice_get gs i ≡ Some f) (listed t) at in
    let same = get_or_from_slice_get (field_list fs) i f f here in
    let flat = subst (λ (g : DefField). IsFlat (kinds_of g.type)) (sym same) h in
    let next : suc i ≡ i + 1 = omega arith in
    subst (FlatBefore fs) next (flat_next fs i f (slice_get_within (field_list fs) i f here) before flat)

flat_all : (fs : Fields) → FlatBefore fs (length (field_list fs)) → AreFlat (kinds_of_fields fs)
flat_all no_fields h = tt
flat_all (field i w Optional t d fs) h = (h.0, flat_all fs h.1)
flat_all (field i w Plain t d fs) h = (h.0, flat_all fs h.1)
flat_all (field i w Required t d fs) h = (h.0, flat_all fs h.1)

pub flat_struct : (t : TypeTree) → kind_of t ≡ kinds.Struct → FlatBefore (all_fields t) (length (fields_of t))
    → IsFlat (kinds_of t)
flat_struct (named (struct_of w fs)) e h = flat_all fs h
flat_struct (named (enum_of w ms)) e h = absurd (cc)
flat_struct (scalar flag) e h = absurd (cc)
flat_struct (scalar i8) e h = absurd (cc)
flat_struct (scalar i16) e h = absurd (cc)
flat_struct (scalar i32) e h = absurd (cc)
flat_struct (scalar i64) e h = absurd (cc)
flat_struct text e h = absurd (cc)
flat_struct bytes e h = absurd (cc)
flat_struct (list_of x) e h = absurd (cc)
flat_struct (set_of x) e h = absurd (cc)
flat_struct (map_of x y) e h = absurd (cc)

-- ---- their cells

mutual
  pub flat_cells : {k : KindTree} {v : Value} → Of k v → IsFlat k → cells k v ≡ inline_cells k
  flat_cells (one o) f = refl
  flat_cells (is.bytes o p u) f = absurd f
  flat_cells (is.items o ri hs) f = absurd f
  flat_cells absent f = refl
  flat_cells (present h) f = ap (λ n. 1 + n) (flat_cells h f)
  flat_cells (record_of e hs) f = flat_cells_all hs f

  flat_cells_all : {ks : KindTrees} {vs : Values} → OfAll ks vs → AreFlat ks
      → cells_all ks vs ≡ inline_cells_all ks
  flat_cells_all no_part f = refl
  flat_cells_all (part h hs) f = omega (arith, flat_cells h f.0, flat_cells_all hs f.1)

pub flat_each : {k : KindTree} {vs : Values} → OfEach k vs → IsFlat k
    → cells_each k vs ≡ count vs * (1 + inline_cells k)
flat_each none f = omega arith
flat_each (more h hs) f = omega (arith, flat_cells h f, flat_each hs f)

-- ---- flags and numbers

inline_leaf : (k : KindTree) → IsLeaf k → inline_cells k ≡ 1
inline_leaf (Leaf k a) h = refl
inline_leaf k h = absurd h

-- in a field that is not optional, and in one that is
pub leaf_one : (k : KindTree) (v : Value) → IsLeaf k → cells k v ≡ 1
leaf_one (Leaf k a) v h = refl
leaf_one k v h = absurd h

pub leaf_two : (k : KindTree) {v : Value} → Of (optional tt k) v → IsLeaf k → cells (optional tt k) v ≡ 2
leaf_two k absent h = ap (λ n. 1 + n) (inline_leaf k h)
leaf_two k (present {v = v} o) h = ap (λ n. 1 + n) (leaf_one k v h)

-- ---- products that are capped

pub capped_product : (n u : ℕ) → capped (2 + n * (1 + capped u)) ≡ capped (2 + n * (1 + u))
capped_product zero u = omega arith
capped_product (suc m) u = elim (cases_lt u 18446744073709551615) [
  | inl few ↦ (let same : capped u ≡ u = omega (arith, few) in ap (λ x. capped (2 + suc m * (1 + x))) same)
  | inr many ↦ (let same : capped u ≡ 18446744073709551615 = omega (arith, many) in omega (arith, many, same))
]

-- the cells of a list or a set of flat items, and of a map of flat keys and values
pub row_range : (t : TypeTree) (v : Value) (n item x : ℕ) → HasItems t v → IsFlat (kinds_of (element_of t))
    → n ≡ count (items_of v) → item ≡ capped (inline_cells (kinds_of (element_of t)))
    → x ≡ capped (2 + n * (1 + item)) → x ≡ capped (cells (kinds_of t) v)
row_range t v n item x h f e is all =
    let k = kinds_of (element_of t) in
    all
    ∙ ap (λ p. capped (2 + n * (1 + p))) is
    ∙ capped_product n (inline_cells k)
    ∙ ap (λ m. capped (2 + m * (1 + inline_cells k))) e
    ∙ ap (λ m. capped (2 + m)) (sym (flat_each h.items f))
    ∙ ap capped (sym h.cells)

pub map_range : (t : TypeTree) (v : Value) (n first second both x : ℕ) → HasPairs t v
    → IsFlat (kinds_of (key_of t))
    → IsFlat (kinds_of (value_of t)) → n ≡ count (items_of v)
    → first ≡ capped (inline_cells (kinds_of (key_of t)))
    → second ≡ capped (inline_cells (kinds_of (value_of t))) → both ≡ capped (first + second)
    → x ≡ capped (2 + n * (1 + both)) → x ≡ capped (cells (kinds_of t) v)
map_range t v n first second both x h fk fv e is also sum all =
    let k = pair_kinds (kinds_of (key_of t)) (kinds_of (value_of t)) in
    let flat : IsFlat k = (fk, (fv, tt)) in
    let pair : both ≡ capped (inline_cells k) = omega (arith, is, also, sum) in
    all
    ∙ ap (λ p. capped (2 + n * (1 + p))) pair
    ∙ capped_product n (inline_cells k)
    ∙ ap (λ m. capped (2 + m * (1 + inline_cells k))) e
    ∙ ap (λ m. capped (2 + m)) (sym (flat_each h.items flat))
    ∙ ap capped (sym h.cells)
