-- The keys of a set or a map are of one kind, and rise.
use Rattle.std.proofs.Common.{◌≡◌, ℕ, ◌≤◌, ◌<◌, None, refl, subst, arith}
use Rattle.std.proofs.Math.Logic.{∥∥₁_elim}
use Rattle.idl_profile.specs.declared.kinds.TypeKind.TheVariants as k
use Rattle.idl_profile.specs.Types.{TypeTree, scalar, text, bytes, list_of, set_of, map_of, named, enum_of}
use Rattle.idl_profile.specs.Types.{struct_of}
use Rattle.idl_profile.specs.Types.{flag, i8, i16, i32, i64, kind_of}
use Rattle.frozen_model.specs.Trees.{ASet, AMap, KindTree}
use Rattle.frozen_model.specs.Values as is
use Rattle.frozen_model.specs.Values.{Value, Truth, Number}
use Rattle.frozen_model.specs.Values.{Of, one, part, no_part, record_of, key_of, Rises, count, nth}
use Rattle.type_kinds.specs.KindsOf.{kinds_of}
use Rattle.type_kinds.specs.Accepted.{IsKeyType}
use Rattle.key_order.specs.Keys.{kind_rank}
use Rattle.typed_tree.specs.Parts.{IsSet, items_of}
use Rattle.typed_tree.specs.Ranges.{pair_kinds}
use Rattle.typed_tree.proofs.Celled.{each-at}
use Rattle.file_value.proofs.Rows.{rises_prop, SetKeys, keys_of_set, MapKeys, keys_of_map}
use Rattle.evolve.specs.declared.lens.Lens.{Lens}
use Rattle.evolve.specs.Lenses.{type_of_lens, value_of_lens, HasForm}
use Rattle.evolve.proofs.Known.{lens_value, lens_accepted, lens_form}
use Rattle.evolve.proofs.Rows.{IsMapType, map_type, key_part, key_known}
use Rattle.lens_values.proofs.LensParts.{by_value, lens_map}

-- ---- what kind a key is of, by its type

abbrev rank : TypeTree → ℕ
rank (scalar flag) = 1
rank (scalar s) = 0
rank text = 2
rank bytes = 2
rank (named (enum_of w ms)) = 0
rank t = 3

rank_low : (t : TypeTree) → IsKeyType t → rank t ≤ 2
rank_low (scalar flag) h = omega arith
rank_low (scalar i8) h = omega arith
rank_low (scalar i16) h = omega arith
rank_low (scalar i32) h = omega arith
rank_low (scalar i64) h = omega arith
rank_low text h = omega arith
rank_low bytes h = omega arith
rank_low (named (enum_of w ms)) h = omega arith
rank_low t h = absurd h

key_rank : (t : TypeTree) (v : Value) → IsKeyType t → Of (kinds_of t) v → kind_rank v ≡ rank t
key_rank (scalar flag) _ h (one {x = Truth b} o) = refl
key_rank (scalar flag) _ h (one {x = Number z} o) = absurd o
key_rank (scalar i8) _ h (one {x = Number z} o) = refl
key_rank (scalar i8) _ h (one {x = Truth b} o) = absurd o
key_rank (scalar i16) _ h (one {x = Number z} o) = refl
key_rank (scalar i16) _ h (one {x = Truth b} o) = absurd o
key_rank (scalar i32) _ h (one {x = Number z} o) = refl
key_rank (scalar i32) _ h (one {x = Truth b} o) = absurd o
key_rank (scalar i64) _ h (one {x = Number z} o) = refl
key_rank (scalar i64) _ h (one {x = Truth b} o) = absurd o
key_rank text _ h (is.bytes a b c) = refl
key_rank bytes _ h (is.bytes a b c) = refl
key_rank (named (enum_of w ms)) _ h (one {x = Number z} o) = refl
key_rank (named (enum_of w ms)) _ h (one {x = Truth b} o) = absurd o
key_rank t v h o = absurd h

-- ---- sets

abbrev IsSetType : TypeTree → Type 0
IsSetType (set_of x) = Unit {0}
IsSetType t = ⊥

set_type : (t : TypeTree) → kind_of t ≡ k.Set → IsSetType t
set_type (set_of x) e = tt
set_type (list_of x) e = absurd (cc)
set_type (map_of x y) e = absurd (cc)
set_type (named (struct_of w fs)) e = absurd (cc)
set_type (named (enum_of w ms)) e = absurd (cc)
set_type (scalar flag) e = absurd (cc)
set_type (scalar i8) e = absurd (cc)
set_type (scalar i16) e = absurd (cc)
set_type (scalar i32) e = absurd (cc)
set_type (scalar i64) e = absurd (cc)
set_type text e = absurd (cc)
set_type bytes e = absurd (cc)

set_rises : (t : TypeTree) (v : Value) → IsSetType t → Of (kinds_of t) v → Rises ASet None (items_of v)
set_rises (set_of x) _ s (is.items o ri hs) = ri
set_rises t v s o = absurd s

set_rank : (t : TypeTree) (v : Value) (i : ℕ) → IsSetType t → IsKeyType (key_part t) → Of (kinds_of t) v
    → i < count (items_of v) → kind_rank (nth (items_of v) i) ≡ rank (key_part t)
set_rank (set_of x) _ i s key (is.items o ri hs) lt = key_rank x _ key (each-at hs i lt)
set_rank t v i s key o lt = absurd s

pub set_keys : (l : Lens) → kind_of (type_of_lens l) ≡ k.Set → SetKeys (value_of_lens l)
set_keys l e =
    let t = type_of_lens l in
    let v = value_of_lens l in
    let s = set_type t e in
    let key = key_known t (lens_accepted l) in
    let formed : IsSet v = subst (λ x. HasForm x v) e (lens_form l) in
    let rises = ∥∥₁_elim (lens_value l) (rises_prop ASet None (items_of v)) (λ o. set_rises t v s o) in
    keys_of_set v (rank (key_part t)) (rank_low (key_part t) key) formed
    (λ i lt. by_value l (λ o. set_rank t v i s key o lt)) rises

-- ---- maps

map_rises : (t : TypeTree) (v : Value) → IsMapType t → Of (kinds_of t) v → Rises AMap None (items_of v)
map_rises (map_of x y) _ s (is.items o ri hs) = ri
map_rises t v s o = absurd s

pair_key : {a b : KindTree} {u : Value} → Of (pair_kinds a b) u → Of a (key_of u)
pair_key (record_of e (part p (part q no_part))) = p

map_rank : (t : TypeTree) (v : Value) (i : ℕ) → IsMapType t → IsKeyType (key_part t) → Of (kinds_of t) v
    → i < count (items_of v) → kind_rank (key_of (nth (items_of v) i)) ≡ rank (key_part t)
map_rank (map_of x y) _ i s key (is.items o ri hs) lt = key_rank x _ key (pair_key (each-at hs i lt))
map_rank t v i s key o lt = absurd s

pub map_keys : (l : Lens) → kind_of (type_of_lens l) ≡ k.Map → MapKeys (value_of_lens l)
map_keys l e =
    let t = type_of_lens l in
    let v = value_of_lens l in
    let formed = lens_map l e in
    let s = map_type t v (lens_form l) formed in
    let key = key_known t (lens_accepted l) in
    let rises = ∥∥₁_elim (lens_value l) (rises_prop AMap None (items_of v)) (λ o. map_rises t v s o) in
    keys_of_map v (rank (key_part t)) (rank_low (key_part t) key) formed
    (λ i lt. by_value l (λ o. map_rank t v i s key o lt)) rises
