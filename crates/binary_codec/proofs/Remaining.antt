-- What is written of the parts of a value from a place on, and one part more.
use Rattle.std.proofs.Common.{◌≡◌, ◌⊎◌, inl, inr, ℕ, suc, ◌+◌, ◌<◌, ◌^◌, List, [], ◌∷◌, ◌++◌, length, Some, refl, sym, ap, subst, ◌∙◌, arith, append_assoc, append-nil}
use Rattle.std.specs.List.{slice_get}
use Rattle.byteorder.specs.Endian.{big_bytes}
use Rattle.idl_profile.specs.declared.kinds.TypeKind.TheVariants as kinds
use Rattle.idl_profile.specs.Types as types
use Rattle.idl_profile.specs.Types.{TypeTree, scalar, text, bytes, list_of, set_of, map_of, named, enum_of, struct_of, DefField, field_list, kind_of, flag, i8, i16, i32, i64}
use Rattle.idl_parse.specs.Refs.{key_of, value_of}
use Rattle.frozen_model.specs.Values as is
use Rattle.frozen_model.specs.Values.{Value, Values, NoValue, And, count, nth, Of}
use Rattle.type_kinds.specs.KindsOf.{kinds_of}
use Rattle.typed_tree.specs.Spots as spots
use Rattle.typed_tree.specs.Parts.{items_of, fields_of as values_in}
use Rattle.typed_tree.proofs.Celled.{all_fields}
use Rattle.typed_tree.proofs.Rest.{from, from-next, from-end, fields_from, fields-next, fields-end}
use Rattle.binary_codec.specs.BinaryEncoding.{type_code, in_turn, pairs_in_turn, row_in_binary, map_in_binary, field_in_binary, binary, fields_in_binary}

-- ---- items

pub item-more : (f : Value → List ℕ) (vs : Values) (i : ℕ) (out new all : List ℕ) → i < count vs → new ≡ out ++ f (nth vs i) → out ++ in_turn f (from vs i) ≡ all → new ++ in_turn f (from vs (i + 1)) ≡ all
item-more f vs i out new all lt written so_far =
    let rest = in_turn f (from vs (suc i)) in
    let next : in_turn f (from vs i) ≡ f (nth vs i) ++ rest = ap (in_turn f) (from-next vs i lt) in
    let one : i + 1 ≡ suc i = omega arith in
    ap (λ j. new ++ in_turn f (from vs j)) one ∙ ap (λ r. r ++ rest) written ∙ append_assoc out (f (nth vs i)) rest ∙ ap (λ r. out ++ r) (sym next) ∙ so_far

pub row-done : (x : TypeTree) (f : Value → List ℕ) (vs : Values) (i : ℕ) (old mid start new : List ℕ) → i ≡ count vs → mid ≡ old ++ type_code x ∷ [] → start ≡ mid ++ big_bytes 4 (count vs)
    → new ++ in_turn f (from vs i) ≡ start ++ in_turn f vs → new ≡ old ++ row_in_binary x f vs
row-done x f vs i old mid start new all coded sized written =
    let items = in_turn f vs in
    let size = big_bytes 4 (count vs) in
    sym (append-nil new) ∙ ap (λ us. new ++ in_turn f us) (sym (from-end vs i all)) ∙ written ∙ ap (λ r. r ++ items) (sized ∙ ap (λ r. r ++ size) coded)
    ∙ append_assoc (old ++ type_code x ∷ []) size items ∙ append_assoc old (type_code x ∷ []) (size ++ items)

pub few-items : (t : TypeTree) (v : Value) → (kind_of t ≡ kinds.List) ⊎ (kind_of t ≡ kinds.Set) → Of (kinds_of t) v → count (items_of v) < 2 ^ 31
few-items (list_of x) _ e (is.items o r hs) = o
few-items (set_of x) _ e (is.items o r hs) = o
few-items (map_of x y) v (inl e) h = absurd (cc)
few-items (map_of x y) v (inr e) h = absurd (cc)
few-items text v (inl e) h = absurd (cc)
few-items text v (inr e) h = absurd (cc)
few-items bytes v (inl e) h = absurd (cc)
few-items bytes v (inr e) h = absurd (cc)
few-items (named (struct_of w fs)) v (inl e) h = absurd (cc)
few-items (named (struct_of w fs)) v (inr e) h = absurd (cc)
few-items (named (enum_of w ms)) v (inl e) h = absurd (cc)
few-items (named (enum_of w ms)) v (inr e) h = absurd (cc)
few-items (scalar flag) v (inl e) h = absurd (cc)
few-items (scalar flag) v (inr e) h = absurd (cc)
few-items (scalar i8) v (inl e) h = absurd (cc)
few-items (scalar i8) v (inr e) h = absurd (cc)
few-items (scalar i16) v (inl e) h = absurd (cc)
few-items (scalar i16) v (inr e) h = absurd (cc)
few-items (scalar i32) v (inl e) h = absurd (cc)
few-items (scalar i32) v (inr e) h = absurd (cc)
few-items (scalar i64) v (inl e) h = absurd (cc)
few-items (scalar i64) v (inr e) h = absurd (cc)

-- ---- pairs

pub pair-more : (f g : Value → List ℕ) (vs : Values) (i : ℕ) (k v : Value) (out mid new all : List ℕ) → i < count vs → nth vs i ≡ spots.pair k v → mid ≡ out ++ f k → new ≡ mid ++ g v
    → out ++ pairs_in_turn f g (from vs i) ≡ all → new ++ pairs_in_turn f g (from vs (i + 1)) ≡ all
pair-more f g vs i k v out mid new all lt at first second so_far =
    let rest = pairs_in_turn f g (from vs (suc i)) in
    let next : pairs_in_turn f g (from vs i) ≡ f k ++ (g v ++ rest) = ap (pairs_in_turn f g) (from-next vs i lt ∙ ap (λ p. And p (from vs (suc i))) at) in
    let one : i + 1 ≡ suc i = omega arith in
    ap (λ j. new ++ pairs_in_turn f g (from vs j)) one ∙ ap (λ r. r ++ rest) (second ∙ ap (λ r. r ++ g v) first) ∙ append_assoc (out ++ f k) (g v) rest
    ∙ append_assoc out (f k) (g v ++ rest) ∙ ap (λ r. out ++ r) (sym next) ∙ so_far

pub map-done : (x y : TypeTree) (f g : Value → List ℕ) (vs : Values) (i : ℕ) (old one two start new : List ℕ) → i ≡ count vs → one ≡ old ++ type_code x ∷ [] → two ≡ one ++ type_code y ∷ [] → start ≡ two ++ big_bytes 4 (count vs)
    → new ++ pairs_in_turn f g (from vs i) ≡ start ++ pairs_in_turn f g vs → new ≡ old ++ map_in_binary x y f g vs
map-done x y f g vs i old one two start new all first second sized written =
    let entries = pairs_in_turn f g vs in
    let size = big_bytes 4 (count vs) in
    let a = type_code x ∷ [] in
    let b = type_code y ∷ [] in
    sym (append-nil new) ∙ ap (λ us. new ++ pairs_in_turn f g us) (sym (from-end vs i all)) ∙ written
    ∙ ap (λ r. r ++ entries) (sized ∙ ap (λ r. r ++ size) (second ∙ ap (λ r. r ++ b) first))
    ∙ append_assoc ((old ++ a) ++ b) size entries ∙ append_assoc (old ++ a) b (size ++ entries) ∙ append_assoc old a (b ++ (size ++ entries))

pub few-pairs : (t : TypeTree) (v : Value) → kind_of t ≡ kinds.Map → Of (kinds_of t) v → count (items_of v) < 2 ^ 31
few-pairs (map_of x y) _ e (is.items o r hs) = o
few-pairs (named (struct_of w fs)) v e h = absurd (cc)
few-pairs (named (enum_of w ms)) v e h = absurd (cc)
few-pairs (scalar flag) v e h = absurd (cc)
few-pairs (scalar i8) v e h = absurd (cc)
few-pairs (scalar i16) v e h = absurd (cc)
few-pairs (scalar i32) v e h = absurd (cc)
few-pairs (scalar i64) v e h = absurd (cc)
few-pairs text v e h = absurd (cc)
few-pairs bytes v e h = absurd (cc)
few-pairs (list_of x) v e h = absurd (cc)
few-pairs (set_of x) v e h = absurd (cc)

pub map-as : (t : TypeTree) (v : Value) → kind_of t ≡ kinds.Map → binary t v ≡ map_in_binary (key_of t) (value_of t) (binary (key_of t)) (binary (value_of t)) (items_of v)
map-as (map_of x y) v e = refl
map-as (named (struct_of w fs)) v e = absurd (cc)
map-as (named (enum_of w ms)) v e = absurd (cc)
map-as (scalar flag) v e = absurd (cc)
map-as (scalar i8) v e = absurd (cc)
map-as (scalar i16) v e = absurd (cc)
map-as (scalar i32) v e = absurd (cc)
map-as (scalar i64) v e = absurd (cc)
map-as text v e = absurd (cc)
map-as bytes v e = absurd (cc)
map-as (list_of x) v e = absurd (cc)
map-as (set_of x) v e = absurd (cc)

-- ---- fields

pub field-more : (fs : types.Fields) (vs : Values) (i : ℕ) (f : DefField) (out new all : List ℕ) → slice_get (field_list fs) i ≡ Some f → i < count vs
    → new ≡ out ++ field_in_binary f.need f.type f.id (binary f.type) (nth vs i) → out ++ fields_in_binary (fields_from fs i) (from vs i) ≡ all → new ++ fields_in_binary (fields_from fs (i + 1)) (from vs (i + 1)) ≡ all
field-more fs vs i f out new all at lt written so_far =
    let here = field_in_binary f.need f.type f.id (binary f.type) (nth vs i) in
    let rest = fields_in_binary (fields_from fs (suc i)) (from vs (suc i)) in
    let next : fields_in_binary (fields_from fs i) (from vs i) ≡ here ++ rest =
    ap (λ gs. fields_in_binary gs (from vs i)) (fields-next fs i f at) ∙ ap (fields_in_binary (types.field f.id f.name f.need f.type f.default (fields_from fs (suc i)))) (from-next vs i lt) in
    let one : i + 1 ≡ suc i = omega arith in
    ap (λ j. new ++ fields_in_binary (fields_from fs j) (from vs j)) one ∙ ap (λ r. r ++ rest) written ∙ append_assoc out here rest ∙ ap (λ r. out ++ r) (sym next) ∙ so_far

pub struct-as : (t : TypeTree) (v : Value) → kind_of t ≡ kinds.Struct → binary t v ≡ fields_in_binary (all_fields t) (values_in v)
struct-as (named (struct_of w fs)) v e = refl
struct-as (named (enum_of w ms)) v e = absurd (cc)
struct-as (map_of x y) v e = absurd (cc)
struct-as (scalar flag) v e = absurd (cc)
struct-as (scalar i8) v e = absurd (cc)
struct-as (scalar i16) v e = absurd (cc)
struct-as (scalar i32) v e = absurd (cc)
struct-as (scalar i64) v e = absurd (cc)
struct-as text v e = absurd (cc)
struct-as bytes v e = absurd (cc)
struct-as (list_of x) v e = absurd (cc)
struct-as (set_of x) v e = absurd (cc)

pub fields-done : (t : TypeTree) (v : Value) (i : ℕ) (old out new : List ℕ) → kind_of t ≡ kinds.Struct → i ≡ length (field_list (all_fields t)) → new ≡ out ++ 0 ∷ []
    → out ++ fields_in_binary (fields_from (all_fields t) i) (from (values_in v) i) ≡ old ++ fields_in_binary (all_fields t) (values_in v) → new ≡ old ++ binary t v
fields-done t v i old out new is_struct all ended written =
    ended ∙ ap (λ gs. out ++ fields_in_binary gs (from (values_in v) i)) (sym (fields-end (all_fields t) i all)) ∙ written ∙ ap (λ r. old ++ r) (sym (struct-as t v is_struct))
