-- What a value has at one step.
use Rattle.std.proofs.Common.{◌≡◌, ◌≢◌, ℕ, zero, suc, ◌<◌, ◌≤◌, Bool, true, false, List, length, slice_get}
use Rattle.std.proofs.Common.{refl, sym, ap, ◌∙◌, arith, Option, Some, None, Ok, Err, cond, nat_abs}
use Rattle.std.specs.Prelude.{option_map, option_and_then, find, IfSome}
use Rattle.std.specs.List.{Contains}
use Rattle.std.specs.Str.{bytes_eq}
use Rattle.idl_profile.specs.declared.kinds.TypeKind.TheVariants as kinds
use Rattle.idl_profile.specs.Types.{TypeTree, scalar, flag, list_of, set_of, map_of, named, enum_of}
use Rattle.idl_profile.specs.Types.{struct_of}
use Rattle.idl_profile.specs.Types.{DefField, field_list, fields_of, kind_of}
use Rattle.idl_parse.specs.Refs.{element_of, value_of}
use Rattle.frozen_model.specs.Bits.{digits}
use Rattle.frozen_model.specs.Trees.{AList, ASet, AMap}
use Rattle.frozen_model.specs.Values.{Value, Values, NoValue, And, Items, Record, count, nth, Rises}
use Rattle.typed_tree.specs.Parts.{IsItems, items_of, find_field, field_of}
use Rattle.typed_tree.specs.Spots.{pair}
use Rattle.root_kinds.proofs.Numbered.{HaveIds}
use Rattle.path_text.specs.declared.fault.PathFault.{PathFault}
use Rattle.path_text.specs.Steps.{PathKey, PathStep, field_step, index_step, key_step}
use Rattle.path_text.specs.Fitting.{field_to, step_to, is_key_of}
use Rattle.evolve.specs.declared.lens.Lens.{Lens}
use Rattle.evolve.specs.Costs.{step_cost}
use Rattle.evolve.specs.Lenses.{type_of_lens, value_of_lens, HasForm}
use Rattle.evolve.specs.Parts.{Typed, typed, held, item_at, item_with, second, part_of_field, step_at}
use Rattle.evolve.proofs.Members.{id_same, struct_id, field_in_type, contains_found}
use Rattle.lens_lookup.specs.TypedParts.{typed_of_lens}
use Rattle.lens_lookup.specs.Sought.{sought, keys_in}
use Rattle.lens_lookup.specs.KeySorts.{is_keyed}
use Rattle.lens_lookup.proofs.Finding.{found, lacking, keys_counted}
use Rattle.lens_lookup.proofs.KeyForms.{held_items, lens_held}

-- ---- lenses as typed values

pub typed_is : (l : Lens) (t : TypeTree) (v : Value) → type_of_lens l ≡ t → value_of_lens l ≡ v
    → typed_of_lens l ≡ typed t v
typed_is l t v e f = ap (λ z. typed z (value_of_lens l)) e ∙ ap (typed t) f

pub typed_part : (r : Option Lens) (t : TypeTree) (q : Option Value) → option_map value_of_lens r ≡ q
    → IfSome r (λ l. type_of_lens l ≡ t) → option_map typed_of_lens r ≡ option_map (typed t) q
typed_part None t q e h = ap (option_map (typed t)) e
typed_part (Some l) t q e h = ap (λ z. Some (typed z (value_of_lens l))) h ∙ ap (option_map (typed t)) e

-- ---- a field

-- what a value has in a field that was looked for
abbrev pub part_in : Value → Option DefField → Option Typed
part_in v None = None
part_in v (Some f) = option_map (typed f.type) (option_and_then held (field_of v f.id))

found_part : (w : List ℕ) (fs : _) (name : List ℕ) (ids : List ℕ) (vs : Values) (o : Option DefField)
    → HaveIds (named (struct_of w fs)) → find (λ f. bytes_eq f.name name) (field_list fs) ≡ o
    → step_at (field_step name) (named (struct_of w fs)) (Record ids vs) ≡ part_in (Record ids vs) o
found_part w fs name ids vs None h e = ap (λ z. part_of_field z ids vs) e
found_part w fs name ids vs (Some f) h e =
    let t = named (struct_of w fs) in
    let there = contains_found (λ g. bytes_eq g.name name) (fields_of t) f e in
    let same = id_same f.id (struct_id t f (field_in_type t f there) h) in
    ap (λ z. part_of_field z ids vs) e
    ∙ ap (λ n. option_map (typed f.type) (option_and_then held (find_field ids vs n))) (sym same)

pub field_part : (name : List ℕ) (t : TypeTree) (v : Value) (o : Option DefField) → kind_of t ≡ kinds.Struct
    → HasForm (kind_of t) v → HaveIds t → find (λ f. bytes_eq f.name name) (fields_of t) ≡ o
    → step_at (field_step name) t v ≡ part_in v o
field_part name (named (struct_of w fs)) (Record ids vs) o k f h e = found_part w fs name ids vs o h e
field_part name (named (struct_of w fs)) v o k f h e = absurd f
field_part name (named (enum_of w ms)) v o k f h e = absurd cc
field_part name (scalar flag) v o k f h e = absurd cc
field_part name t v o k f h e = absurd cc

pub no_field : (name : List ℕ) (t : TypeTree) (v : Value) → kind_of t ≢ kinds.Struct
    → step_at (field_step name) t v ≡ None
no_field name (named (struct_of w fs)) v n = absurd (n refl)
no_field name t v n = refl

-- ---- an index

item_there : (vs : Values) (i : ℕ) → i < count vs → item_at vs i ≡ Some (nth vs i)
item_there NoValue i lt = absurd (omega (arith, lt))
item_there (And v vs) zero lt = refl
item_there (And v vs) (suc i) lt = item_there vs i (omega (arith, lt))

item_past : (vs : Values) (i : ℕ) → count vs ≤ i → item_at vs i ≡ None
item_past NoValue i le = refl
item_past (And v vs) zero le = absurd (omega (arith, le))
item_past (And v vs) (suc i) le = item_past vs i (omega (arith, le))

pub index_part : (i : ℕ) (t : TypeTree) (v : Value) → kind_of t ≡ kinds.List → HasForm (kind_of t) v
    → i < count (items_of v) → step_at (index_step i) t v ≡ Some (typed (element_of t) (nth (items_of v) i))
index_part i (list_of x) (Items AList vs) k f lt = ap (option_map (typed x)) (item_there vs i lt)
index_part i (list_of x) v k f lt = absurd f
index_part i (named (enum_of w ms)) v k f lt = absurd cc
index_part i (scalar flag) v k f lt = absurd cc
index_part i t v k f lt = absurd cc

pub index_past : (i : ℕ) (t : TypeTree) (v : Value) → kind_of t ≡ kinds.List → HasForm (kind_of t) v
    → count (items_of v) ≤ i → step_at (index_step i) t v ≡ None
index_past i (list_of x) (Items AList vs) k f le = ap (option_map (typed x)) (item_past vs i le)
index_past i (list_of x) v k f le = absurd f
index_past i (named (enum_of w ms)) v k f le = absurd cc
index_past i (scalar flag) v k f le = absurd cc
index_past i t v k f le = absurd cc

pub no_index : (i : ℕ) (t : TypeTree) (v : Value) → kind_of t ≢ kinds.List → step_at (index_step i) t v ≡ None
no_index i (list_of x) v n = absurd (n refl)
no_index i t v n = refl

-- ---- a key

pub set_part : (key : PathKey) (t : TypeTree) (v : Value) (i : ℕ) → kind_of t ≡ kinds.Set
    → HasForm (kind_of t) v → Rises ASet None (items_of v)
    → slice_get (keys_in (items_of v)) i ≡ Some (sought key)
    → step_at (key_step key) t v ≡ Some (typed (element_of t) (nth (items_of v) i))
set_part key (set_of x) (Items ASet vs) i k f r e =
    ap (option_map (typed x)) (found ASet key None vs i (λ s. absurd cc) r e)
set_part key (set_of x) v i k f r e = absurd f
set_part key (named (enum_of w ms)) v i k f r e = absurd cc
set_part key (scalar flag) v i k f r e = absurd cc
set_part key t v i k f r e = absurd cc

pub set_lacks : (key : PathKey) (t : TypeTree) (v : Value) → kind_of t ≡ kinds.Set → HasForm (kind_of t) v
    → (Contains (keys_in (items_of v)) (sought key) → ⊥) → step_at (key_step key) t v ≡ None
set_lacks key (set_of x) (Items ASet vs) k f n = ap (option_map (typed x)) (lacking key vs n)
set_lacks key (set_of x) v k f n = absurd f
set_lacks key (named (enum_of w ms)) v k f n = absurd cc
set_lacks key (scalar flag) v k f n = absurd cc
set_lacks key t v k f n = absurd cc

pub map_part : (key : PathKey) (t : TypeTree) (v first w : Value) (i : ℕ) → kind_of t ≡ kinds.Map
    → HasForm (kind_of t) v → Rises AMap None (items_of v)
    → slice_get (keys_in (items_of v)) i ≡ Some (sought key) → pair first w ≡ nth (items_of v) i
    → step_at (key_step key) t v ≡ Some (typed (value_of t) w)
map_part key (map_of x y) (Items AMap vs) first w i k f r e p =
    ap (λ q. option_map (typed y) (option_and_then second q))
    (found AMap key None vs i (λ s. absurd cc) r e ∙ ap (λ z. Some z) (sym p))
map_part key (map_of x y) v first w i k f r e p = absurd f
map_part key (named (enum_of n ms)) v first w i k f r e p = absurd cc
map_part key (scalar flag) v first w i k f r e p = absurd cc
map_part key t v first w i k f r e p = absurd cc

pub map_lacks : (key : PathKey) (t : TypeTree) (v : Value) → kind_of t ≡ kinds.Map → HasForm (kind_of t) v
    → (Contains (keys_in (items_of v)) (sought key) → ⊥) → step_at (key_step key) t v ≡ None
map_lacks key (map_of x y) (Items AMap vs) k f n =
    ap (λ q. option_map (typed y) (option_and_then second q)) (lacking key vs n)
map_lacks key (map_of x y) v k f n = absurd f
map_lacks key (named (enum_of w ms)) v k f n = absurd cc
map_lacks key (scalar flag) v k f n = absurd cc
map_lacks key t v k f n = absurd cc

pub no_key : (key : PathKey) (t : TypeTree) (v : Value) → kind_of t ≢ kinds.Set → kind_of t ≢ kinds.Map
    → step_at (key_step key) t v ≡ None
no_key key (set_of x) v n m = absurd (n refl)
no_key key (map_of x y) v n m = absurd (m refl)
no_key key t v n m = refl

key_cost : (key : PathKey) (v : Value) → IsItems v
    → digits (length (keys_in (items_of v))) ≡ step_cost (key_step key) v
key_cost key (Items h vs) is = ap digits (keys_counted vs)
key_cost key v is = absurd is

-- what a search in the items of a set or the pairs of a map may cost
pub search_cost : (map : Bool) (key : PathKey) (l : Lens) (vs : Values)
    → is_keyed map (kind_of (type_of_lens l)) ≡ true → vs ≡ items_of (value_of_lens l)
    → digits (length (keys_in vs)) ≡ step_cost (key_step key) (value_of_lens l)
search_cost map key l vs e same =
    ap (λ us. digits (length (keys_in us))) same
    ∙ key_cost key (value_of_lens l) (held_items map (value_of_lens l) (lens_held map l e))

-- ---- the type that a step leads to

type_of_part : (t : TypeTree) (q : Option Value) (p : Typed) → option_map (typed t) q ≡ Some p → p.type ≡ t
type_of_part t None p e = absurd cc
type_of_part t (Some v) p e = let same : p ≡ typed t v = cc in ap (λ z. z.type) same

field_type : (n : ℕ) (o : Option DefField) (ids : List ℕ) (vs : Values) (u : TypeTree) (p : Typed)
    → field_to n o ≡ Ok u → part_of_field o ids vs ≡ Some p → p.type ≡ u
field_type n None ids vs u p e q = absurd cc
field_type n (Some f) ids vs u p e q =
    let same : f.type ≡ u = cc in
    type_of_part f.type (option_and_then held (find_field ids vs (nat_abs f.id))) p q ∙ same

if_fits : (c : Bool) (t u : TypeTree) (e : PathFault) → cond c (Ok t) (Err e) ≡ Ok u → t ≡ u
if_fits true t u e h = cc
if_fits false t u e h = absurd cc

pub step_type : (n : ℕ) (s : PathStep) (t u : TypeTree) (v : Value) (p : Typed) → step_to n s t ≡ Ok u
    → step_at s t v ≡ Some p → p.type ≡ u
step_type n (field_step name) (named (struct_of w fs)) u (Record ids vs) p e q =
    field_type n (find (λ f. bytes_eq f.name name) (field_list fs)) ids vs u p e q
step_type n (index_step i) (list_of x) u (Items h vs) p e q =
    let same : x ≡ u = cc in type_of_part x (item_at vs i) p q ∙ same
step_type n (key_step key) (set_of x) u (Items h vs) p e q =
    type_of_part x (item_with key vs) p q ∙ if_fits (is_key_of (kind_of x) key) x u _ e
step_type n (key_step key) (map_of x y) u (Items h vs) p e q =
    type_of_part y (option_and_then second (item_with key vs)) p q
    ∙ if_fits (is_key_of (kind_of x) key) y u _ e
step_type n s t u v p e q = absurd cc
