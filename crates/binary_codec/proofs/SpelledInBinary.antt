-- The encoding of a value of a type spells the value's wire tree, with no more levels than the type is deep.
use Rattle.std.proofs.Common.{◌≡◌, ℕ, zero, suc, ◌+◌, ◌-◌, ◌*◌, ◌/◌, ◌%◌, ◌^◌, ◌<◌, ◌≤◌, List, [], ◌∷◌, ◌++◌, length, Some, refl, sym, ap, subst, ◌∙◌, arith, append-nil, append_assoc}
use Rattle.std.specs.List.{AllByRecursion}
use Rattle.std.specs.Prelude.{ℤ, pos, negsuc, Bool, true, false, nat_abs}
use Rattle.std.specs.Int.{Width, w16, w32, w64, cast_signed, cast_unsigned, byte_at, bytes_high_first}
use Rattle.std.proofs.lemmas.Bool.Decides.{nat_tests}
use Rattle.std.proofs.lemmas.Int.{to_z-of_z}
use Rattle.std.proofs.Math.Facts.{Fits-of_z}
use Rattle.std.proofs.Math.Nat.{mod-lt}
use mir.Val.{SFits}
use Rattle.byteorder.specs.Endian.{big_number, big_bytes}
use Rattle.byteorder.specs.Numbers.{big_number-reads_back, length-bytes_high_first}
use Rattle.idl_profile.specs.declared.kinds.Need.TheVariants.{Plain, Required, Optional}
use Rattle.idl_profile.specs.Types as types
use Rattle.idl_profile.specs.Types.{TypeTree, scalar, text, bytes, list_of, set_of, map_of, named, Named, enum_of, struct_of, kind_of}
use Rattle.idl_profile.specs.declared.kinds.TypeKind.TheVariants as kinds
use Rattle.idl_profile.specs.Measures.{depth, depths}
use Rattle.frozen_model.specs.Trees.{KindTree, Rising}
use Rattle.frozen_model.specs.Values as is
use Rattle.frozen_model.specs.Values.{Value, Values, Truth, Number, NoValue, And, count, Of, OfEach, none, more, OfAll, no_part, part, record_of, InBits}
use Rattle.type_kinds.specs.KindsOf.{kinds_of, kinds_of_fields}
use Rattle.type_kinds.specs.Accepted.{IsAccepted, AreAccepted}
use Rattle.type_kinds.specs.Defaults.{ids_of_fields}
use Rattle.type_kinds.specs.Laws.{Any}
use Rattle.typed_tree.specs.Ranges.{pair_kinds}
use Rattle.exact_reading.specs.Exact.{Then, Pure}
use Rattle.compact_wire.specs.declared.kind.Kind.{Kind}
use Rattle.compact_wire.specs.declared.kind.Kind.TheVariants as k
use Rattle.compact_wire.specs.Bytes.{IsByte, AreBytes}
use Rattle.compact_wire.specs.Node as node
use Rattle.compact_wire.specs.Node.{Node, Fields, field}
use Rattle.compact_wire.specs.Codes.{code_of}
use Rattle.compact_wire.specs.Canon.{byte_of}
use Rattle.compact_wire.specs.Reads.{signed_byte}
use Rattle.typed_reading.specs.Codes.{code}
use Rattle.compact_codec.specs.Wire.{wire, wire_of_fields, each, each_pair, map_with}
use Rattle.compact_codec.proofs.Spelled.{wire_kind}
use Rattle.binary_wire.specs.BinaryCodes.{binary_code, binary_kind}
use Rattle.binary_wire.specs.BinaryNumbers.{Made, Bytes, IsSigned, IsSize}
use Rattle.binary_wire.specs.BinaryGrammar.{flag_of, SpellsScalar, SpellsItems, SpellsRow, SpellsPairs, SpellsMap, SpellsFields, SpellsValue, BinarySpells, code_kept}
use Rattle.binary_wire.proofs.ReadStructs.{kind_code}
use Rattle.binary_codec.specs.BinaryEncoding.{type_code, flag_byte, signed_bytes, sized_bytes, in_turn, pairs_in_turn, row_in_binary, map_in_binary, given_in_binary, binary, fields_in_binary}

-- ---- numbers

byte_low : (i n : ℕ) → byte_at i n < 256
byte_low zero n = mod-lt n (omega arith)
byte_low (suc i) n = mod-lt (n / 256 ^ suc i) (omega arith)

are_bytes : (k n : ℕ) → AreBytes (bytes_high_first k n)
are_bytes zero n = tt
are_bytes (suc k) n = (byte_low k n, are_bytes k n)

read_back : (k n : ℕ) → n < 256 ^ k → big_number k (big_bytes k n) ≡ n
read_back k n lt = ap (big_number k) (sym (append-nil (big_bytes k n))) ∙ big_number-reads_back k n [] lt

signed_is : (w : Width) (k : ℕ) (z : ℤ) → SFits w z → cast_unsigned w z < 256 ^ k → IsSigned w k z (signed_bytes w k z)
signed_is w k z fit lt =
    let t = signed_bytes w k z in
    (t, t, [], (refl, length-bytes_high_first k (cast_unsigned w z), are_bytes k (cast_unsigned w z)), (sym (ap (cast_signed w) (read_back k (cast_unsigned w z) lt) ∙ to_z-of_z w z fit), refl), sym (append-nil t))

in_16 : (z : ℤ) → InBits 15 z → SFits w16 z
in_16 (pos n) h = record { sfits = h }
in_16 (negsuc n) h = record { sfits = h }

in_32 : (z : ℤ) → InBits 31 z → SFits w32 z
in_32 (pos n) h = record { sfits = h }
in_32 (negsuc n) h = record { sfits = h }

in_64 : (z : ℤ) → InBits 63 z → SFits w64 z
in_64 (pos n) h = record { sfits = h }
in_64 (negsuc n) h = record { sfits = h }

signed_16 : (z : ℤ) → InBits 15 z → IsSigned w16 2 z (signed_bytes w16 2 z)
signed_16 z h = let f = in_16 z h in signed_is w16 2 z f (Fits-of_z f).fits

signed_32 : (z : ℤ) → InBits 31 z → IsSigned w32 4 z (signed_bytes w32 4 z)
signed_32 z h = let f = in_32 z h in signed_is w32 4 z f (Fits-of_z f).fits

signed_64 : (z : ℤ) → InBits 63 z → IsSigned w64 8 z (signed_bytes w64 8 z)
signed_64 z h = let f = in_64 z h in signed_is w64 8 z f (Fits-of_z f).fits

id_bits : (id : ℤ) → nat_abs id ≤ 32767 → InBits 15 id
id_bits (pos n) h = omega arith
id_bits (negsuc n) h = omega arith

size_is : (n : ℕ) → n < 2 ^ 31 → IsSize n (big_bytes 4 n)
size_is n lt = record { four = length-bytes_high_first 4 n; bytes = are_bytes 4 n; number = sym (read_back 4 n (omega arith)); small = lt }

-- ---- scalars

made : {A B : Type 0} (make : A → B) (S : A → List ℕ → Type 0) (x : A) (t : List ℕ) → S x t → Made make S (make x) t
made make S x t p = (x, t, [], p, (refl, refl), sym (append-nil t))

flag_spelled : (b : Bool) → SpellsScalar k.Flag (node.flag b) (flag_byte b ∷ [])
unfolding flag_of
flag_spelled true = (true, 1 ∷ [], [], (1, omega arith, refl, refl), (refl, refl), refl)
flag_spelled false = (false, 0 ∷ [], [], (0, omega arith, refl, refl), (refl, refl), refl)

low_byte : (n : ℕ) → n < 128 → signed_byte n ≡ Some (pos n)
unfolding signed_byte
low_byte n lt = grind (arith, nat_tests)

high_byte : (n : ℕ) → n < 128 → signed_byte (255 - n) ≡ Some (negsuc n)
unfolding signed_byte
high_byte n lt = let back : 255 - (255 - n) ≡ n = omega arith in grind (arith, nat_tests)

byte_spelled : (z : ℤ) → InBits 7 z → SpellsScalar k.I8 (node.i8 z) (byte_of z ∷ [])
byte_spelled (pos n) h = (pos n, n ∷ [], [], (n, omega arith, low_byte n h, refl), (refl, refl), refl)
byte_spelled (negsuc n) h = (negsuc n, (255 - n) ∷ [], [], (255 - n, omega arith, high_byte n h, refl), (refl, refl), refl)

bytes_spelled : (b : List ℕ) → length b < 2 ^ 31 → AllByRecursion (λ x. x < 256) b → SpellsScalar k.Binary (node.binary b) (sized_bytes b)
bytes_spelled b lt all = (length b, big_bytes 4 (length b), b, size_is (length b) lt, made node.binary (Bytes (length b)) b b (refl, refl, all), refl)

at_level : (l : ℕ) (w : Node) (t : List ℕ) (kind : Kind) → SpellsScalar kind w t → SpellsValue l kind w t
unfolding SpellsValue
at_level zero w t kind p = p
at_level (suc l) w t k.Flag p = p
at_level (suc l) w t k.I8 p = p
at_level (suc l) w t k.I16 p = p
at_level (suc l) w t k.I32 p = p
at_level (suc l) w t k.I64 p = p
at_level (suc l) w t k.Double p = p
at_level (suc l) w t k.Binary p = p
at_level (suc l) w t k.List p = absurd p
at_level (suc l) w t k.Set p = absurd p
at_level (suc l) w t k.Map p = absurd p
at_level (suc l) w t k.Struct p = absurd p

-- ---- codes

code_is : (t : TypeTree) → (code_of (wire_kind t) ≡ code t) × (binary_code (wire_kind t) ≡ type_code t)
code_is (scalar types.flag) = (refl, refl)
code_is (scalar types.i8) = (refl, refl)
code_is (scalar types.i16) = (refl, refl)
code_is (scalar types.i32) = (refl, refl)
code_is (scalar types.i64) = (refl, refl)
code_is text = (refl, refl)
code_is bytes = (refl, refl)
code_is (list_of x) = (refl, refl)
code_is (set_of x) = (refl, refl)
code_is (map_of x y) = (refl, refl)
code_is (named (enum_of w ms)) = (refl, refl)
code_is (named (struct_of w fs)) = (refl, refl)

kind_is : (t : TypeTree) → (IsByte (type_code t)) × (binary_kind (type_code t) ≡ Some (wire_kind t))
kind_is t =
    let c = kind_code (wire_kind t) in
    let low = c.2 in
    let same = (code_is t).1 in
    (omega (arith, low, same), subst (λ n. binary_kind n ≡ Some (wire_kind t)) same c.0)

-- ---- items and pairs

each_spelled : (S : Node → List ℕ → Type 0) (f : Value → Node) (g : Value → List ℕ) (tree : KindTree) → ((v : Value) → Of tree v → S (f v) (g v)) → (vs : Values) → OfEach tree vs → SpellsItems S (count vs) (each f vs) (in_turn g vs)
each_spelled S f g tree one _ none = (refl, refl)
each_spelled S f g tree one _ (more {v = v} {vs = vs} h hs) =
    (f v, g v, in_turn g vs, one v h, made (node.node (f v)) (SpellsItems S (count vs)) (each f vs) (in_turn g vs) (each_spelled S f g tree one vs hs), refl)

pairs_spelled : (K V : Node → List ℕ → Type 0) (a b : Value → Node) (f g : Value → List ℕ) (t u : KindTree) → ((v : Value) → Of t v → K (a v) (f v)) → ((v : Value) → Of u v → V (b v) (g v)) → (vs : Values) → OfEach (pair_kinds t u) vs
    → SpellsPairs K V (count vs) (each_pair a b vs) (pairs_in_turn f g vs)
pairs_spelled K V a b f g t u key value _ none = (refl, refl)
pairs_spelled K V a b f g t u key value _ (more {vs = vs} (record_of e (part {v = x} p (part {v = y} q no_part))) hs) =
    let rest = pairs_in_turn f g vs in
    (a x, f x, g y ++ rest, key x p, (b y, g y, rest, value y q, made (node.pair (a x) (b y)) (SpellsPairs K V (count vs)) (each_pair a b vs) rest (pairs_spelled K V a b f g t u key value vs hs), refl), refl)

row_spelled : (make : ℕ → node.Nodes → Node) (S : Kind → Node → List ℕ → Type 0) (x : TypeTree) (vs : Values) → count vs < 2 ^ 31 → SpellsItems (S (wire_kind x)) (count vs) (each (wire x) vs) (in_turn (binary x) vs)
    → SpellsRow make S (make (code x) (each (wire x) vs)) (row_in_binary x (binary x) vs)
row_spelled make S x vs few its =
    let c = kind_is x in
    let items = in_turn (binary x) vs in
    let size = big_bytes 4 (count vs) in
    let made_is = made (make (code_of (wire_kind x))) (SpellsItems (S (wire_kind x)) (count vs)) (each (wire x) vs) items its in
    let whole : SpellsRow make S (make (code_of (wire_kind x)) (each (wire x) vs)) (row_in_binary x (binary x) vs) =
    (wire_kind x, type_code x ∷ [], size ++ items, (type_code x, c.0, c.1, refl), (count vs, size, items, size_is (count vs) few, made_is, refl), refl) in
    subst (λ n. SpellsRow make S (make n (each (wire x) vs)) (row_in_binary x (binary x) vs)) (code_is x).0 whole

map_is : (x y : TypeTree) (vs : Values) → map_with (code x) (code y) (each_pair (wire x) (wire y) vs) ≡ node.map (code_kept (count vs) (wire_kind x)) (code_kept (count vs) (wire_kind y)) (each_pair (wire x) (wire y) vs)
map_is x y NoValue = refl
map_is x y (And v vs) =
    let ps = each_pair (wire x) (wire y) (And v vs) in
    ap (λ n. node.map n (code y) ps) (sym (code_is x).0) ∙ ap (λ n. node.map (code_of (wire_kind x)) n ps) (sym (code_is y).0)

map_spelled : (S : Kind → Node → List ℕ → Type 0) (x y : TypeTree) (vs : Values) → count vs < 2 ^ 31 → SpellsPairs (S (wire_kind x)) (S (wire_kind y)) (count vs) (each_pair (wire x) (wire y) vs) (pairs_in_turn (binary x) (binary y) vs)
    → SpellsMap S (map_with (code x) (code y) (each_pair (wire x) (wire y) vs)) (map_in_binary x y (binary x) (binary y) vs)
map_spelled S x y vs few its =
    let c = kind_is x in
    let d = kind_is y in
    let n = count vs in
    let entries = pairs_in_turn (binary x) (binary y) vs in
    let size = big_bytes 4 n in
    let make = node.map (code_kept n (wire_kind x)) (code_kept n (wire_kind y)) in
    let made_is = made make (SpellsPairs (S (wire_kind x)) (S (wire_kind y)) n) (each_pair (wire x) (wire y) vs) entries its in
    let whole : SpellsMap S (make (each_pair (wire x) (wire y) vs)) (map_in_binary x y (binary x) (binary y) vs) =
    (wire_kind x, type_code x ∷ [], type_code y ∷ (size ++ entries), (type_code x, c.0, c.1, refl), (wire_kind y, type_code y ∷ [], size ++ entries, (type_code y, d.0, d.1, refl), (n, size, entries, size_is n few, made_is, refl), refl), refl) in
    subst (λ w. SpellsMap S w (map_in_binary x y (binary x) (binary y) vs)) (sym (map_is x y vs)) whole

-- ---- fields

given_spelled : (S : Kind → Node → List ℕ → Type 0) (t : TypeTree) (id : ℤ) (v : Value) (xs : Fields) (rest : List ℕ) → nat_abs id ≤ 32767 → S (wire_kind t) (wire t v) (binary t v) → SpellsFields S xs rest
    → SpellsFields S (field id (wire t v) xs) (given_in_binary t id (binary t) v ++ rest)
given_spelled S t id v xs rest le is others =
    let h = signed_bytes w16 2 id in
    let joined : given_in_binary t id (binary t) v ++ rest ≡ binary_code (wire_kind t) ∷ (h ++ (binary t v ++ rest)) =
    ap (λ r. type_code t ∷ r) (append_assoc h (binary t v) rest) ∙ ap (λ n. n ∷ (h ++ (binary t v ++ rest))) (sym (code_is t).1) in
    (wire_kind t, h, binary t v, rest, signed_16 id (id_bits id le), is, others, joined)

-- ---- values

mutual
  unfolding SpellsValue

  pub spelled : (l : ℕ) (t : TypeTree) (v : Value) → IsAccepted Any t → depth t ≤ l → Of (kinds_of t) v → SpellsValue l (wire_kind t) (wire t v) (binary t v)
  spelled l (scalar types.flag) _ a d (is.one {x = Truth b} h) = at_level l (node.flag b) (flag_byte b ∷ []) k.Flag (flag_spelled b)
  spelled l (scalar types.flag) _ a d (is.one {x = Number z} h) = absurd h
  spelled l (scalar types.i8) _ a d (is.one {x = Number z} h) = at_level l (node.i8 z) (byte_of z ∷ []) k.I8 (byte_spelled z h)
  spelled l (scalar types.i8) _ a d (is.one {x = Truth b} h) = absurd h
  spelled l (scalar types.i16) _ a d (is.one {x = Number z} h) = at_level l (node.i16 z) (signed_bytes w16 2 z) k.I16 (made node.i16 (IsSigned w16 2) z (signed_bytes w16 2 z) (signed_16 z h))
  spelled l (scalar types.i16) _ a d (is.one {x = Truth b} h) = absurd h
  spelled l (scalar types.i32) _ a d (is.one {x = Number z} h) = at_level l (node.i32 z) (signed_bytes w32 4 z) k.I32 (made node.i32 (IsSigned w32 4) z (signed_bytes w32 4 z) (signed_32 z h))
  spelled l (scalar types.i32) _ a d (is.one {x = Truth b} h) = absurd h
  spelled l (scalar types.i64) _ a d (is.one {x = Number z} h) = at_level l (node.i64 z) (signed_bytes w64 8 z) k.I64 (made node.i64 (IsSigned w64 8) z (signed_bytes w64 8 z) (signed_64 z h))
  spelled l (scalar types.i64) _ a d (is.one {x = Truth b} h) = absurd h
  spelled l text _ a d (is.bytes {bs = bs} n all u) = at_level l (node.binary bs) (sized_bytes bs) k.Binary (bytes_spelled bs n all)
  spelled l bytes _ a d (is.bytes {bs = bs} n all u) = at_level l (node.binary bs) (sized_bytes bs) k.Binary (bytes_spelled bs n all)
  spelled zero (list_of x) v a d h = absurd (omega (arith, d))
  spelled (suc l) (list_of x) _ a d (is.items {vs = vs} n r hs) =
      row_spelled node.list (SpellsValue l) x vs n (each_spelled (SpellsValue l (wire_kind x)) (wire x) (binary x) (kinds_of x) (λ u h. spelled l x u a (omega (arith, d)) h) vs hs)
  spelled zero (set_of x) v a d h = absurd (omega (arith, d))
  spelled (suc l) (set_of x) _ a d (is.items {vs = vs} n r hs) =
      row_spelled node.set (SpellsValue l) x vs n (each_spelled (SpellsValue l (wire_kind x)) (wire x) (binary x) (kinds_of x) (λ u h. spelled l x u a.1 (omega (arith, d)) h) vs hs)
  spelled zero (map_of x y) v a d h = absurd (omega (arith, d))
  spelled (suc l) (map_of x y) _ a d (is.items {vs = vs} n r hs) =
      map_spelled (SpellsValue l) x y vs n
      (pairs_spelled (SpellsValue l (wire_kind x)) (SpellsValue l (wire_kind y)) (wire x) (wire y) (binary x) (binary y) (kinds_of x) (kinds_of y) (λ u h. spelled l x u a.1 (omega (arith, d)) h) (λ u h. spelled l y u a.2 (omega (arith, d)) h) vs hs)
  spelled l (named n) v a d h = named_spelled l n v a d h

  named_spelled : (l : ℕ) (n : Named) (v : Value) → IsAccepted Any (named n) → depth (named n) ≤ l → Of (kinds_of (named n)) v → SpellsValue l (wire_kind (named n)) (wire (named n) v) (binary (named n) v)
  named_spelled l (enum_of w ms) _ a d (is.one {x = Number z} h) = at_level l (node.i32 z) (signed_bytes w32 4 z) k.I32 (made node.i32 (IsSigned w32 4) z (signed_bytes w32 4 z) (signed_32 z h))
  named_spelled l (enum_of w ms) _ a d (is.one {x = Truth b} h) = absurd h
  named_spelled zero (struct_of w fs) v a d h = absurd (omega (arith, d))
  named_spelled (suc l) (struct_of w fs) _ a d (record_of {vs = vs} e hs) =
      made node.structure (SpellsFields (SpellsValue l)) (wire_of_fields fs vs) (fields_in_binary fs vs) (fields_spelled l 0 fs vs a.2 a.0 (omega (arith, d)) hs)

  fields_spelled : (l : ℕ) (low : ℕ) (fs : types.Fields) (vs : Values) → AreAccepted Any fs → Rising low (ids_of_fields fs) → depths fs ≤ l → OfAll (kinds_of_fields fs) vs → SpellsFields (SpellsValue l) (wire_of_fields fs vs) (fields_in_binary fs vs)
  fields_spelled l low types.no_fields _ a r d no_part = refl
  fields_spelled l low (types.field id w Plain t e fs) _ a r d (part {v = v} {vs = vs} h hs) =
      given_spelled (SpellsValue l) t id v (wire_of_fields fs vs) (fields_in_binary fs vs) r.1 (spelled l t v a.0 (omega (arith, d)) h) (fields_spelled l (nat_abs id) fs vs a.2 r.2 (omega (arith, d)) hs)
  fields_spelled l low (types.field id w Required t e fs) _ a r d (part {v = v} {vs = vs} h hs) =
      given_spelled (SpellsValue l) t id v (wire_of_fields fs vs) (fields_in_binary fs vs) r.1 (spelled l t v a.0 (omega (arith, d)) h) (fields_spelled l (nat_abs id) fs vs a.2 r.2 (omega (arith, d)) hs)
  fields_spelled l low (types.field id w Optional t e fs) _ a r d (part {vs = vs} is.absent hs) = fields_spelled l (nat_abs id) fs vs a.2 r.2 (omega (arith, d)) hs
  fields_spelled l low (types.field id w Optional t e fs) _ a r d (part {vs = vs} (is.present {v = v} h) hs) =
      given_spelled (SpellsValue l) t id v (wire_of_fields fs vs) (fields_in_binary fs vs) r.1 (spelled l t v a.0 (omega (arith, d)) h) (fields_spelled l (nat_abs id) fs vs a.2 r.2 (omega (arith, d)) hs)

-- a struct's encoding spells a whole struct
pub struct_spelled : (t : TypeTree) (v : Value) → IsAccepted Any t → depth t ≤ 64 → kind_of t ≡ kinds.Struct → Of (kinds_of t) v → BinarySpells (wire t v) (binary t v)
struct_spelled (named (struct_of w fs)) v a d e h = spelled 64 (named (struct_of w fs)) v a d h
struct_spelled (named (enum_of w ms)) v a d e h = absurd (cc)
struct_spelled (scalar types.flag) v a d e h = absurd (cc)
struct_spelled (scalar types.i8) v a d e h = absurd (cc)
struct_spelled (scalar types.i16) v a d e h = absurd (cc)
struct_spelled (scalar types.i32) v a d e h = absurd (cc)
struct_spelled (scalar types.i64) v a d e h = absurd (cc)
struct_spelled text v a d e h = absurd (cc)
struct_spelled bytes v a d e h = absurd (cc)
struct_spelled (list_of x) v a d e h = absurd (cc)
struct_spelled (set_of x) v a d e h = absurd (cc)
struct_spelled (map_of x y) v a d e h = absurd (cc)
