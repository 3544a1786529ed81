-- The parts of a value and the fields of a struct from a place on.
use Rattle.std.proofs.Common.{◌≡◌, ℕ, zero, suc, ◌<◌, List, [], ◌∷◌, length, Some, refl, ap, arith}
use Rattle.std.specs.Prelude.{ℤ}
use Rattle.std.specs.List.{slice_get}
use Rattle.std.proofs.lemmas.Option.{slice_get_within, get_or_from_slice_get}
use Rattle.idl_profile.specs.declared.kinds.Need.{Need}
use Rattle.idl_profile.specs.Types as types
use Rattle.idl_profile.specs.Types.{TypeTree, DefField, field_list}
use Rattle.frozen_model.specs.Values.{Values, NoValue, And, count, nth}

-- the values from a place on
abbrev pub from : Values → ℕ → Values
from vs zero = vs
from NoValue (suc i) = NoValue
from (And v vs) (suc i) = from vs i

pub from-next : (vs : Values) (i : ℕ) → i < count vs → from vs i ≡ And (nth vs i) (from vs (suc i))
from-next NoValue i lt = absurd (omega (arith, lt))
from-next (And v vs) zero lt = refl
from-next (And v vs) (suc i) lt = from-next vs i (omega (arith, lt))

pub from-end : (vs : Values) (i : ℕ) → i ≡ count vs → from vs i ≡ NoValue
from-end NoValue zero e = refl
from-end NoValue (suc i) e = refl
from-end (And v vs) zero e = absurd (omega (arith, e))
from-end (And v vs) (suc i) e = from-end vs i (omega (arith, e))

-- the fields from a place on
abbrev pub fields_from : types.Fields → ℕ → types.Fields
fields_from fs zero = fs
fields_from types.no_fields (suc i) = types.no_fields
fields_from (types.field id w n t d fs) (suc i) = fields_from fs i

abbrev as_field : ℤ → List ℕ → Need → TypeTree → types.Default → DefField
as_field i w n t d = record { id = i; name = w; need = n; type = t; default = d }

pub fields-next : (fs : types.Fields) (i : ℕ) (f : DefField) → slice_get (field_list fs) i ≡ Some f
    → fields_from fs i ≡ types.field f.id f.name f.need f.type f.default (fields_from fs (suc i))
fields-next types.no_fields i f e = absurd (omega (arith, slice_get_within [] i f e))
fields-next (types.field id w n t d fs) zero f e =
    let same : as_field id w n t d ≡ f = get_or_from_slice_get (as_field id w n t d
    ∷ field_list fs) 0 f f e in
    ap (λ (g : DefField). types.field g.id g.name g.need g.type g.default fs) same
fields-next (types.field id w n t d fs) (suc i) f e = fields-next fs i f e

pub fields-end : (fs : types.Fields) (i : ℕ) → i ≡ length (field_list fs) → fields_from fs i ≡ types.no_fields
fields-end types.no_fields zero e = refl
fields-end types.no_fields (suc i) e = refl
fields-end (types.field id w n t d fs) zero e = absurd (omega (arith, e))
fields-end (types.field id w n t d fs) (suc i) e = fields-end fs i (omega (arith, e))
