-- A field of a struct's type, by where it stands among the fields.
use Rattle.std.proofs.Common.{◌≡◌, ◌≢◌, ℕ, zero, suc, ◌<◌, Bool, true, false, ℤ, pos, negsuc, nat_abs, cond}
use Rattle.std.proofs.Common.{refl, ap, sym, subst, ◌∙◌, arith, List, [], ◌∷◌, length, get_or, slice_get}
use Rattle.std.proofs.Common.{Option, Some, eq-eqb, if◌then◌else◌}
use Rattle.std.specs.Prelude.{find}
use Rattle.std.specs.List.{Contains, AllByRecursion}
use Rattle.std.proofs.Math.Logic.{∥∥₁_elim}
use Rattle.std.proofs.Math.Bridge.{le_prop}
use Rattle.std.proofs.lemmas.Bool.Decides.{nat_tests}
use Rattle.std.proofs.lemmas.Int.{ints}
use Rattle.std.proofs.lemmas.Option.{slice_get_within, get_or_from_slice_get}
use Rattle.std.specs.Str.{IsUtf8}
use Rattle.idl_profile.specs.declared.kinds.Need.{Need}
use Rattle.idl_profile.specs.declared.kinds.Need.TheVariants.{Plain, Required, Optional}
use Rattle.idl_profile.specs.Types.{TypeTree, named, struct_of, Fields, no_fields, field, DefField}
use Rattle.idl_profile.specs.Types.{field_list, fields_of, Default, without, empty_default}
use Rattle.idl_profile.proofs.Ids.{id_fits}
use Rattle.frozen_model.specs.Trees.{Trees, Rising, Struct}
use Rattle.frozen_model.specs.Values.{Value, Values, NoValue, And, Record, Of, OfAll, part, record_of}
use Rattle.frozen_model.specs.Layouts.{Layout}
use Rattle.type_kinds.specs.KindsOf.{kinds_of, kinds_of_fields}
use Rattle.type_kinds.specs.Defaults.{default_of, defaults_of, default_field, written, ids_of_fields}
use Rattle.type_kinds.specs.Accepted.{IsAccepted, AreAccepted, HasShortTexts, HaveShortTexts}
use Rattle.type_kinds.proofs.Forms.{default_is, accepted_short}
use Rattle.typed_tree.specs.Fields.{id_number}
use Rattle.typed_tree.specs.Parts.{IsRecord, find_field, field_of, fields_of as values_of}
use Rattle.typed_tree.specs.Sizes.{default_value}
use Rattle.bit_view.specs.Branches.{fields_in, field_tree}
use Rattle.evolve.specs.Binding.{BindsField, Binds, BindFields}
use Rattle.evolve.specs.Projection.{found_or, proj, proj_fields}
use Rattle.evolve.proofs.Itself.{apart}

abbrev pub def_field : ℤ → List ℕ → Need → TypeTree → Default → DefField
def_field i w n t d = record { id = i; name = w; need = n; type = t; default = d }

pub data Member : Fields → DefField → Type 0 where
  first : {i : ℤ} {w : List ℕ} {n : Need} {t : TypeTree} {d : Default} {fs : Fields}
      → Member (field i w n t d fs) (def_field i w n t d)
  later : {i : ℤ} {w : List ℕ} {n : Need} {t : TypeTree} {d : Default} {fs : Fields} {f : DefField}
      → Member fs f
      → Member (field i w n t d fs) f

listed : (fs : Fields) (f : DefField) (k : ℕ) → k < length (field_list fs) → get_or (field_list fs) k f ≡ f
    → Member fs f
listed no_fields f k lt e = absurd (omega (arith, lt))
listed (field i w n t d fs) f zero lt e = subst (Member (field i w n t d fs)) e first
listed (field i w n t d fs) f (suc k) lt e = later (listed fs f k (omega (arith, lt)) e)

-- ---- the fields of a type

abbrev pub IsStructType : TypeTree → Type 0
IsStructType (named (struct_of w fs)) = Unit {0}
IsStructType t = ⊥

abbrev pub struct_fields : TypeTree → Fields
struct_fields (named (struct_of w fs)) = fs
struct_fields t = no_fields

pub record FieldOf (t : TypeTree) (f : DefField) : Type 0 where
  pub struct : IsStructType t
  pub member : Member (struct_fields t) f

pub field_in_type : (t : TypeTree) (f : DefField) → Contains (fields_of t) f → FieldOf t f
field_in_type (named (struct_of w fs)) f c = record { struct = tt; member = listed fs f c.0 c.1 c.2 }
field_in_type t f c = absurd (omega (arith, c.1))

-- a list contains what it has at a place, and what is found in it
pub contains_at : {X : Type 0} (xs : List X) (i : ℕ) (x : X) → slice_get xs i ≡ Some x → Contains xs x
contains_at xs i x e = (i, slice_get_within xs i x e, get_or_from_slice_get xs i x x e)

contains_later : {X : Type 0} (y : X) (xs : List X) (x : X) → Contains xs x → Contains (y ∷ xs) x
contains_later y xs x c = (suc c.0, omega (arith, c.1), c.2)

found_or_later : {X : Type 0} (b : Bool) (y : X) (xs : List X) (x : X) (rest : Option X)
    → (rest ≡ Some x → Contains xs x) → cond b (Some y) rest ≡ Some x → Contains (y ∷ xs) x
found_or_later true y xs x rest f e = let same : y ≡ x = cc in (0, omega arith, same)
found_or_later false y xs x rest f e = contains_later y xs x (f e)

pub contains_found : {X : Type 0} (p : X → Bool) (xs : List X) (x : X) → find p xs ≡ Some x → Contains xs x
contains_found p [] x e = absurd cc
contains_found p (y ∷ xs) x e = found_or_later (p y) y xs x (find p xs) (contains_found p xs x) e

-- ---- what is so of each field

pub member_accepted : (P : List ℕ → Type 0) {fs : Fields} {f : DefField} → Member fs f → AreAccepted P fs
    → IsAccepted P f.type
member_accepted P first a = a.0
member_accepted P (later m) a = member_accepted P m a.2

pub member_short : {fs : Fields} {f : DefField} → Member fs f → HaveShortTexts fs → HasShortTexts f.type
member_short first h = h.0
member_short (later m) h = member_short m h.2

pub member_binds : {A B : Type 0} (r : Bool) (ls : Trees A B) {fs : Fields} {f : DefField} → Member fs f
    → BindFields r fs ls → BindsField f.need (λ l. Binds r f.type l) (field_tree ls (nat_abs f.id))
member_binds r ls first b = b.0
member_binds r ls (later m) b = member_binds r ls m b.1

pub member_id : {fs : Fields} {f : DefField} → Member fs f
    → AllByRecursion (λ (g : DefField). id_fits g.id ≡ true) (field_list fs) → id_fits f.id ≡ true
member_id first h = h.0
member_id (later m) h = member_id m h.1

-- the default of one that is not optional is a value of its type
pub member_default : {fs : Fields} {f : DefField} → Member fs f → OfAll (kinds_of_fields fs) (defaults_of fs)
    → f.need ≢ Optional → Of (kinds_of f.type) (default_value f)
member_default (first {n = Plain}) (part h hs) ne = h
member_default (first {n = Required}) (part h hs) ne = h
member_default (first {n = Optional}) (part h hs) ne = absurd (ne refl)
member_default (later {n = Plain} m) (part h hs) ne = member_default m hs ne
member_default (later {n = Required} m) (part h hs) ne = member_default m hs ne
member_default (later {n = Optional} m) (part h hs) ne = member_default m hs ne

-- ---- ids

pub id_same : (z : ℤ) → id_fits z ≡ true → id_number z ≡ nat_abs z
id_same (pos n) h = grind (arith, ints, nat_tests)
id_same (negsuc n) h = absurd (grind (arith, ints, nat_tests))

rising_prop : (b : ℕ) (is : List ℕ) → IsProp (Rising b is)
rising_prop b [] = hlevel le_prop
rising_prop b (i ∷ is) = hlevel (le_prop, rising_prop i is)

accepted_rising : (P : List ℕ → Type 0) (t : TypeTree) → IsAccepted P t
    → Rising 0 (ids_of_fields (struct_fields t))
accepted_rising P (named (struct_of w fs)) a = a.0
accepted_rising P t a = tt

pub rising_ids : (t : TypeTree) → ∥ IsAccepted IsUtf8 t ∥₁ → Rising 0 (ids_of_fields (struct_fields t))
rising_ids t h =
    ∥∥₁_elim h (rising_prop 0 (ids_of_fields (struct_fields t))) (λ a. accepted_rising IsUtf8 t a)

-- ---- what a projected struct has in a field

pub member_found : (ids : List ℕ) (vs : Values) (b : ℕ) {fs : Fields} {f : DefField} → Member fs f
    → Rising b (ids_of_fields fs)
    → (b < nat_abs f.id) × (find_field (ids_of_fields fs) (proj_fields fs ids vs) (nat_abs f.id)
    ≡ Some (found_or (default_value f) f.need (λ v. proj f.type v) (find_field ids vs (nat_abs f.id))))
member_found ids vs b (first {i = i} {n = n} {t = t} {d = d} {fs = fs}) r = (
  r.0,
  ap (λ c. if c then Some (found_or (default_field n t d) n (λ v. proj t v) (find_field ids vs (nat_abs i)))
      else find_field (ids_of_fields fs) (proj_fields fs ids vs) (nat_abs i))
      (eq-eqb (nat_abs i) (nat_abs i) refl),
)
member_found ids vs b (later {i = i} {n = n} {t = t} {d = d} {fs = fs} {f = f} m) r =
    let rest = member_found ids vs (nat_abs i) m r.2 in
    let other = apart (nat_abs i) (nat_abs f.id) rest.0 in (
      omega (arith, r.0, rest.0),
      ap (λ c. if c then Some (found_or (default_field n t d) n (λ v. proj t v)
          (find_field ids vs (nat_abs i)))
          else find_field (ids_of_fields fs) (proj_fields fs ids vs) (nat_abs f.id)) other ∙ rest.1,
    )

pub part_found : (t : TypeTree) (v : Value) (f : DefField) → FieldOf t f
    → Rising 0 (ids_of_fields (struct_fields t))
    → id_fits f.id ≡ true → IsRecord v
    → field_of (proj t v) f.id ≡ Some
    (found_or (default_value f) f.need (λ u. proj f.type u) (field_of v f.id))
part_found (named (struct_of w fs)) (Record ids vs) f h r e is =
    let same = id_same f.id e in
    ap (find_field (ids_of_fields fs) (proj_fields fs ids vs)) same
    ∙ (member_found ids vs 0 h.member r).1
    ∙ ap (λ k. Some (found_or (default_value f) f.need (λ u. proj f.type u) (find_field ids vs k))) (sym same)
part_found (named (struct_of w fs)) v f h r e is = absurd is
part_found t v f h r e is = absurd h.struct

-- ---- defaults of structs

defaults_projected : (fs : Fields) → defaults_of fs ≡ proj_fields fs [] NoValue
defaults_projected no_fields = refl
defaults_projected (field i w n t d fs) = ap (And (default_field n t d)) (defaults_projected fs)

struct_default : (t : TypeTree) → IsStructType t → default_of t ≡ proj t (Record [] NoValue)
struct_default (named (struct_of w fs)) h = ap (Record (ids_of_fields fs)) (defaults_projected fs)
struct_default t h = absurd h

written_struct : (t : TypeTree) (d : Default) → IsStructType t → IsRecord (written d (default_of t))
    → written d (default_of t) ≡ proj t (Record [] NoValue)
written_struct t without s h = struct_default t s
written_struct t empty_default s h = struct_default t s
written_struct t d s h = absurd h

-- the default of a field is that of a struct without fields
pub lacked_struct : (f : DefField) → f.need ≢ Optional → IsStructType f.type → IsRecord (default_value f)
    → default_value f ≡ proj f.type (Record [] NoValue)
lacked_struct f ne s h = by f.need ne h
  where
    by : (n : Need) → n ≢ Optional → IsRecord (default_field n f.type f.default)
        → default_field n f.type f.default ≡ proj f.type (Record [] NoValue)
    by Plain ne h = written_struct f.type f.default s h
    by Required ne h = written_struct f.type f.default s h
    by Optional ne h = absurd (ne refl)

-- ---- from a type to its fields

pub struct_accepted : (P : List ℕ → Type 0) (t : TypeTree) (f : DefField) → FieldOf t f → IsAccepted P t
    → IsAccepted P f.type
struct_accepted P (named (struct_of w fs)) f h a = member_accepted P h.member a.2
struct_accepted P t f h a = absurd h.struct

pub struct_short : (t : TypeTree) (f : DefField) → FieldOf t f → HasShortTexts t → HasShortTexts f.type
struct_short (named (struct_of w fs)) f h a = member_short h.member a
struct_short t f h a = absurd h.struct

pub struct_id : (t : TypeTree) (f : DefField) → FieldOf t f
    → AllByRecursion (λ (g : DefField). id_fits g.id ≡ true) (fields_of t) → id_fits f.id ≡ true
struct_id (named (struct_of w fs)) f h a = member_id h.member a
struct_id t f h a = absurd h.struct

fields_in_value : {A B : Type 0} {ls : Trees A B} {v : Value} → Of (Struct ls) v → OfAll ls (values_of v)
fields_in_value (record_of e hs) = hs

pub field_default : (t : TypeTree) (f : DefField) → FieldOf t f → IsAccepted IsUtf8 t → HasShortTexts t
    → f.need ≢ Optional → Of (kinds_of f.type) (default_value f)
field_default (named (struct_of w fs)) f h a s ne =
    member_default h.member
    (fields_in_value (default_is (named (struct_of w fs)) (accepted_short (named (struct_of w fs)) a s))) ne
field_default t f h a s ne = absurd h.struct

pub struct_binds : (r : Bool) (t : TypeTree) (m : Layout) (f : DefField) → FieldOf t f → Binds r t m
    → BindsField f.need (λ l. Binds r f.type l) (field_tree (fields_in m) (nat_abs f.id))
struct_binds r (named (struct_of w fs)) (Struct ls) f h b = member_binds r ls h.member b
struct_binds r (named (struct_of w fs)) m f h b = absurd b
struct_binds r t m f h b = absurd h.struct
