-- Links to the fields of a struct type, and the struct of them.
use Rattle.typed_tree.specs.Sizes.{field_kinds}
use Rattle.typed_tree.specs.Made.{MadeAt, MadeAs, PairMade, AllMade, ByTurns, parts_of}
use Rattle.std.proofs.Common.{◌≡◌, ℕ, suc, ◌+◌, ◌<◌, ◌≤◌, List, [], ◌∷◌, true, ◌&&◌, nat_lt, length, map, get_or, Some, refl, sym, ap, subst, ◌∙◌, arith}
use Rattle.std.specs.Prelude.{unsigned_abs, slice_get}
use Rattle.std.specs.List.{list_all, AllByRecursion}
use Rattle.std.proofs.lemmas.Bool.{and_from, le-leb}
use Rattle.std.proofs.lemmas.List.{get_or-map}
use Rattle.std.proofs.lemmas.Option.{slice_get_within, get_or_from_slice_get}
use Rattle.idl_profile.specs.Types.{TypeTree, scalar, flag, i8, i16, i32, i64, text, bytes, list_of, set_of, map_of, named, enum_of, struct_of, Fields, no_fields, field, DefField, field_list, fields_of, kind_of}
use Rattle.idl_profile.specs.declared.kinds.TypeKind.TheVariants as kinds
use Rattle.idl_profile.specs.declared.kinds.Need.TheVariants.{Plain, Required, Optional}
use Rattle.frozen_model.specs.Trees.{Rising, Binary, ByteRange, KindTree, AList, ASet, AMap, ItemRange, Struct, NoField, Field, ids_of}
use Rattle.frozen_model.specs.Values.{Value, Absent, Record, And}
use Rattle.key_order.specs.InOrder.{row}
use Rattle.type_kinds.specs.Accepted.{IsAccepted}
use Rattle.type_kinds.specs.Laws.{Any}
use Rattle.type_kinds.specs.Defaults.{ids_of_fields}
use Rattle.type_kinds.specs.KindsOf.{kinds_of, kinds_of_fields}
use Rattle.typed_tree.specs.declared.spot.Link.{Link}
use Rattle.typed_tree.specs.declared.spot.Spot.{Spot}
use Rattle.typed_tree.specs.declared.spot.Spot.TheVariants as s
use Rattle.typed_tree.specs.declared.spot.Run.{Run}
use Rattle.typed_tree.specs.Spots.{Store, linked, all_linked, ids_rise, pick}
use Rattle.typed_tree.specs.Filled.{natural_ids, links_of, struct_with, made_as}
use Rattle.typed_tree.specs.References.{spot_kind}
use Rattle.typed_tree.specs.declared.tree.TreeKind.TheVariants as made
use Rattle.typed_tree.specs.Trees.{trees_in}
use Rattle.typed_tree.proofs.Stack.{below, lt-test}
use Rattle.typed_tree.proofs.Structs.{below-fields}

-- the id of the field at a place
pub id-at : (fs : List DefField) (i : ℕ) (f : DefField) → slice_get fs i ≡ Some f → get_or (natural_ids fs) i 0 ≡ unsigned_abs f.id
id-at fs i f e =
    get_or-map (λ (g : DefField). unsigned_abs g.id) fs i f 0 (slice_get_within fs i f e) ∙ ap (λ (g : DefField). unsigned_abs g.id) (get_or_from_slice_get fs i f f e)

-- each link of fields whose ids rise from here on is above what is not
rise-above : (m n : ℕ) (fs : Fields) (ks : List ℕ) → m ≤ n → Rising n (ids_of_fields fs) → list_all (λ (l : Link). nat_lt m l.id) (links_of (field_list fs) ks) ≡ true
rise-above m n no_fields ks le h = refl
rise-above m n (field i w o t d fs) [] le h = refl
rise-above m n (field i w o t d fs) (k ∷ ks) le h =
    let up : m < unsigned_abs i = omega (arith, le, h.0) in
    and_from _ _ (lt-test m (unsigned_abs i) up) (rise-above m (unsigned_abs i) fs ks (omega (arith, up)) h.2)

links-rise : (n : ℕ) (fs : Fields) (ks : List ℕ) → Rising n (ids_of_fields fs) → ids_rise (links_of (field_list fs) ks) ≡ true
links-rise n no_fields ks h = refl
links-rise n (field i w o t d fs) [] h = refl
links-rise n (field i w o t d fs) (k ∷ ks) h = and_from _ _ (rise-above (unsigned_abs i) (unsigned_abs i) fs ks (omega arith) h.2) (links-rise (unsigned_abs i) fs ks h.2)

type-links-rise : (t : TypeTree) (ks : List ℕ) → kind_of t ≡ kinds.Struct → IsAccepted Any t → ids_rise (links_of (fields_of t) ks) ≡ true
type-links-rise (named (struct_of w fs)) ks e h = links-rise 0 fs ks h.0
type-links-rise (named (enum_of w ms)) ks e h = refl
type-links-rise (scalar s) ks e h = refl
type-links-rise text ks e h = refl
type-links-rise bytes ks e h = refl
type-links-rise (list_of x) ks e h = refl
type-links-rise (set_of x) ks e h = refl
type-links-rise (map_of x y) ks e h = refl

-- such links are there, lead below, and rise
pub type-links-fit : (st : Store) (n : ℕ) (r : Run) (t : TypeTree) (ks : List ℕ) → r.first + r.count ≡ length st.links → linked st r ≡ links_of (fields_of t) ks → below n ks → kind_of t ≡ kinds.Struct → IsAccepted Any t
    → all_linked st n r && ids_rise (linked st r) ≡ true
type-links-fit st n r t ks e f h is ok =
    and_from _ _
    (and_from _ _ (le-leb (r.first + r.count) (length st.links) (omega (arith, e))) (ap (list_all (λ l. nat_lt l.node n)) f ∙ below-fields n (natural_ids (fields_of t)) ks h))
    (ap ids_rise f ∙ type-links-rise t ks is ok)

-- the struct of such links
struct-links : (vs : List Value) (fs : List DefField) (ks : List ℕ) → length fs ≡ length ks → Record (map (λ l. l.id) (links_of fs ks)) (pick vs (links_of fs ks)) ≡ struct_with fs (trees_in vs ks)
struct-links vs fs ks e = ap (λ is. Record is (pick vs (links_of fs ks))) (ids-are fs ks e) ∙ ap (Record (natural_ids fs)) (values-are fs ks e)
  where
    ids-are : (fs : List DefField) (ks : List ℕ) → length fs ≡ length ks → map (λ (l : Link). l.id) (links_of fs ks) ≡ natural_ids fs
    ids-are [] ks e = refl
    ids-are (f ∷ fs) [] e = absurd (omega (arith, e))
    ids-are (f ∷ fs) (k ∷ ks) e = ap (λ is. unsigned_abs f.id ∷ is) (ids-are fs ks (omega (arith, e)))

    values-are : (fs : List DefField) (ks : List ℕ) → length fs ≡ length ks → pick vs (links_of fs ks) ≡ row (trees_in vs ks)
    values-are [] [] e = refl
    values-are [] (k ∷ ks) e = absurd (omega (arith, e))
    values-are (f ∷ fs) [] e = absurd (omega (arith, e))
    values-are (f ∷ fs) (k ∷ ks) e = ap (And (get_or vs k Absent)) (values-are fs ks (omega (arith, e)))

pub struct-of-links : (vs : List Value) (fs : List DefField) (ks : List ℕ) (ls : List Link) → length fs ≡ length ks → ls ≡ links_of fs ks → Record (map (λ l. l.id) ls) (pick vs ls) ≡ struct_with fs (trees_in vs ks)
struct-of-links vs fs ks ls e f = ap (λ (ms : List Link). Record (map (λ l. l.id) ms) (pick vs ms)) f ∙ struct-links vs fs ks e

-- ---- as what the fields were made

links-ids : (fs : Fields) (ks : List ℕ) → length (field_list fs) ≡ length ks → map (λ (l : Link). l.id) (links_of (field_list fs) ks) ≡ ids_of (kinds_of_fields fs)
links-ids no_fields ks e = refl
links-ids (field i w n t d fs) [] e = absurd (omega (arith, e))
links-ids (field i w Optional t d fs) (k ∷ ks) e = ap (λ is. unsigned_abs i ∷ is) (links-ids fs ks (omega (arith, e)))
links-ids (field i w Plain t d fs) (k ∷ ks) e = ap (λ is. unsigned_abs i ∷ is) (links-ids fs ks (omega (arith, e)))
links-ids (field i w Required t d fs) (k ∷ ks) e = ap (λ is. unsigned_abs i ∷ is) (links-ids fs ks (omega (arith, e)))

links-nodes : (fs : Fields) (ks : List ℕ) → length (field_list fs) ≡ length ks → map (λ (l : Link). l.node) (links_of (field_list fs) ks) ≡ ks
links-nodes no_fields [] e = refl
links-nodes no_fields (k ∷ ks) e = absurd (omega (arith, e))
links-nodes (field i w n t d fs) [] e = absurd (omega (arith, e))
links-nodes (field i w n t d fs) (k ∷ ks) e = ap (λ js. k ∷ js) (links-nodes fs ks (omega (arith, e)))

fields-all : (st : Store) (xs : List Spot) (fs : Fields) (ks : List ℕ) → length (field_list fs) ≡ length ks → ((i : ℕ) (f : DefField) → i < length ks → slice_get (field_list fs) i ≡ Some f → MadeAt st xs (field_kinds f.need f.type) (get_or ks i 0)) → AllMade st xs (kinds_of_fields fs) ks
fields-all st xs no_fields [] e h = tt
fields-all st xs no_fields (k ∷ ks) e h = absurd (omega (arith, e))
fields-all st xs (field i w n t d fs) [] e h = absurd (omega (arith, e))
fields-all st xs (field i w Optional t d fs) (k ∷ ks) e h = (h 0 (record { id = i; name = w; need = Optional; type = t; default = d }) (omega arith) refl, fields-all st xs fs ks (omega (arith, e)) (λ j g lt at. h (suc j) g (omega (arith, lt)) at))
fields-all st xs (field i w Plain t d fs) (k ∷ ks) e h = (h 0 (record { id = i; name = w; need = Plain; type = t; default = d }) (omega arith) refl, fields-all st xs fs ks (omega (arith, e)) (λ j g lt at. h (suc j) g (omega (arith, lt)) at))
fields-all st xs (field i w Required t d fs) (k ∷ ks) e h = (h 0 (record { id = i; name = w; need = Required; type = t; default = d }) (omega arith) refl, fields-all st xs fs ks (omega (arith, e)) (λ j g lt at. h (suc j) g (omega (arith, lt)) at))

-- a struct of fields that were made as those of the type
pub struct-links-made : (st : Store) (xs : List Spot) (t : TypeTree) (r : Run) (ks : List ℕ) → kind_of t ≡ kinds.Struct → linked st r ≡ links_of (fields_of t) ks → length (fields_of t) ≡ length ks
    → ((i : ℕ) (f : DefField) → i < length ks → slice_get (fields_of t) i ≡ Some f → MadeAt st xs (field_kinds f.need f.type) (get_or ks i 0)) → MadeAs st xs (kinds_of t) (s.Struct r)
struct-links-made st xs (named (struct_of w fs)) r ks is e many h =
    (refl, ap (λ (ls : List Link). map (λ l. l.id) ls) e ∙ links-ids fs ks many, subst (AllMade st xs (kinds_of_fields fs)) (sym (ap (λ (ls : List Link). map (λ l. l.node) ls) e ∙ links-nodes fs ks many)) (fields-all st xs fs ks many h))
struct-links-made st xs (named (enum_of w ms)) r ks is e many h = absurd (cc)
struct-links-made st xs (scalar flag) r ks is e many h = absurd (cc)
struct-links-made st xs (scalar i8) r ks is e many h = absurd (cc)
struct-links-made st xs (scalar i16) r ks is e many h = absurd (cc)
struct-links-made st xs (scalar i32) r ks is e many h = absurd (cc)
struct-links-made st xs (scalar i64) r ks is e many h = absurd (cc)
struct-links-made st xs text r ks is e many h = absurd (cc)
struct-links-made st xs bytes r ks is e many h = absurd (cc)
struct-links-made st xs (list_of x) r ks is e many h = absurd (cc)
struct-links-made st xs (set_of x) r ks is e many h = absurd (cc)
struct-links-made st xs (map_of x y) r ks is e many h = absurd (cc)

-- a node without parts, made as one of the type's kind, which is no struct
pub plain-made : (st : Store) (xs : List Spot) (t : TypeTree) (x : Spot) → spot_kind x ≡ made_as (kind_of t) → parts_of st x ≡ [] → (kind_of t ≡ kinds.Struct → ⊥) → MadeAs st xs (kinds_of t) x
plain-made st xs (named (struct_of w fs)) x is none other = absurd (other refl)
plain-made st xs (named (enum_of w ms)) x is none other = is
plain-made st xs (scalar flag) x is none other = is
plain-made st xs (scalar i8) x is none other = is
plain-made st xs (scalar i16) x is none other = is
plain-made st xs (scalar i32) x is none other = is
plain-made st xs (scalar i64) x is none other = is
plain-made st xs text x is none other = is
plain-made st xs bytes x is none other = is
plain-made st xs (list_of y) x is none other = (is, subst (AllByRecursion (MadeAt st xs (kinds_of y))) (sym none) tt)
plain-made st xs (set_of y) x is none other = (is, subst (AllByRecursion (MadeAt st xs (kinds_of y))) (sym none) tt)
plain-made st xs (map_of y z) x is none other = (is, subst (ByTurns (PairMade st xs (Struct (Field 1 (kinds_of y) (Field 2 (kinds_of z) NoField))))) (sym none) tt)

-- the kinds of a list's, a set's and a map's type
pub list-kinds : (t : TypeTree) → kind_of t ≡ kinds.List → (l : KindTree) × (ItemRange AList tt tt l ≡ kinds_of t)
list-kinds (list_of x) e = (kinds_of x, refl)
list-kinds (named (struct_of w fs)) e = absurd (cc)
list-kinds (named (enum_of w ms)) e = absurd (cc)
list-kinds (scalar flag) e = absurd (cc)
list-kinds (scalar i8) e = absurd (cc)
list-kinds (scalar i16) e = absurd (cc)
list-kinds (scalar i32) e = absurd (cc)
list-kinds (scalar i64) e = absurd (cc)
list-kinds text e = absurd (cc)
list-kinds bytes e = absurd (cc)
list-kinds (set_of x) e = absurd (cc)
list-kinds (map_of x y) e = absurd (cc)

pub set-kinds : (t : TypeTree) → kind_of t ≡ kinds.Set → (l : KindTree) × (ItemRange ASet tt tt l ≡ kinds_of t)
set-kinds (set_of x) e = (kinds_of x, refl)
set-kinds (named (struct_of w fs)) e = absurd (cc)
set-kinds (named (enum_of w ms)) e = absurd (cc)
set-kinds (scalar flag) e = absurd (cc)
set-kinds (scalar i8) e = absurd (cc)
set-kinds (scalar i16) e = absurd (cc)
set-kinds (scalar i32) e = absurd (cc)
set-kinds (scalar i64) e = absurd (cc)
set-kinds text e = absurd (cc)
set-kinds bytes e = absurd (cc)
set-kinds (list_of x) e = absurd (cc)
set-kinds (map_of x y) e = absurd (cc)

pub map-kinds : (t : TypeTree) → kind_of t ≡ kinds.Map → (l : KindTree) × (ItemRange AMap tt tt l ≡ kinds_of t)
map-kinds (map_of x y) e = (Struct (Field 1 (kinds_of x) (Field 2 (kinds_of y) NoField)), refl)
map-kinds (named (struct_of w fs)) e = absurd (cc)
map-kinds (named (enum_of w ms)) e = absurd (cc)
map-kinds (scalar flag) e = absurd (cc)
map-kinds (scalar i8) e = absurd (cc)
map-kinds (scalar i16) e = absurd (cc)
map-kinds (scalar i32) e = absurd (cc)
map-kinds (scalar i64) e = absurd (cc)
map-kinds text e = absurd (cc)
map-kinds bytes e = absurd (cc)
map-kinds (list_of x) e = absurd (cc)
map-kinds (set_of x) e = absurd (cc)

pub bytes-kinds : (t : TypeTree) → made_as (kind_of t) ≡ made.Bytes → ByteRange Binary tt tt ≡ kinds_of t
bytes-kinds bytes e = refl
bytes-kinds (named (struct_of w fs)) e = absurd (cc)
bytes-kinds (named (enum_of w ms)) e = absurd (cc)
bytes-kinds (scalar flag) e = absurd (cc)
bytes-kinds (scalar i8) e = absurd (cc)
bytes-kinds (scalar i16) e = absurd (cc)
bytes-kinds (scalar i32) e = absurd (cc)
bytes-kinds (scalar i64) e = absurd (cc)
bytes-kinds text e = absurd (cc)
bytes-kinds (list_of x) e = absurd (cc)
bytes-kinds (set_of x) e = absurd (cc)
bytes-kinds (map_of x y) e = absurd (cc)
