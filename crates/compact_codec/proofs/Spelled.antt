-- The wire tree of a value of a type has a spelling, with no more levels than the type is deep.
use Rattle.std.proofs.Common.{◌≡◌, ℕ, zero, suc, ◌+◌, ◌-◌, ◌*◌, ◌/◌, ◌^◌, ◌<◌, ◌≤◌, inl, inr, List, [], ◌∷◌, ◌++◌, length, refl, subst, arith}
use Rattle.std.specs.List.{AllByRecursion}
use Rattle.std.specs.Prelude.{ℤ, pos, negsuc, Bool, true, false, nat_abs}
use Rattle.std.proofs.lemmas.Bool.{cases_lt}
use Rattle.idl_profile.specs.declared.kinds.Need.TheVariants.{Plain, Required, Optional}
use Rattle.idl_profile.specs.Types as types
use Rattle.idl_profile.specs.Types.{TypeTree, scalar, text, bytes, list_of, set_of, map_of, named, Named, enum_of, struct_of, kind_of}
use Rattle.idl_profile.specs.declared.kinds.TypeKind.TheVariants as kinds
use Rattle.idl_profile.specs.Measures.{depth, depths}
use Rattle.frozen_model.specs.Trees.{KindTree, Rising}
use Rattle.frozen_model.specs.Values as is
use Rattle.frozen_model.specs.Values.{Value, Values, Truth, Number, NoValue, And, count, Of, OfEach, none, more, OfAll, no_part, part, record_of, InBits}
use Rattle.type_kinds.specs.KindsOf.{kinds_of, kinds_of_fields}
use Rattle.type_kinds.specs.Accepted.{IsAccepted, AreAccepted}
use Rattle.type_kinds.specs.Defaults.{ids_of_fields}
use Rattle.type_kinds.specs.Laws.{Any}
use Rattle.typed_tree.specs.Ranges.{pair_kinds}
use Rattle.compact_wire.specs.declared.kind.Kind.{Kind}
use Rattle.compact_wire.specs.declared.kind.Kind.TheVariants as k
use Rattle.compact_wire.specs.Node as node
use Rattle.compact_wire.specs.Node.{Node, Fields, field}
use Rattle.compact_wire.specs.Number.{digits_128, IsVarint, IsNumber, zigzag}
use Rattle.compact_wire.specs.Codes.{code_of}
use Rattle.compact_wire.specs.Canon.{byte_of, FitsWire}
use Rattle.compact_wire.specs.Spells.{IsSignedByte, IsListHeader, long_list_header, true_code, false_code, other_code, IsFieldHeader, long_field_header, Spells, is_true, is_false, is_i8, is_i16, is_i32, is_i64, is_binary, is_list, is_set, is_no_map, is_map, is_struct, SpellsItems, no_items, item, SpellsPairs, no_pair, one_pair, SpellsFields, the_end, flag_field, other_field}
use Rattle.compact_wire.proofs.DigitLaws.{digits-last, digits-more, quotient_fits}
use Rattle.compact_wire.proofs.CanonLaws.{front_digit, kind_code}
use Rattle.typed_reading.specs.Codes.{code}
use Rattle.compact_codec.specs.Wire.{wire, wire_of_fields, each, each_pair, map_with}

-- ---- numbers

-- so many digits write a number that has no more
digits-are : (room n : ℕ) → n < 2 ^ (7 * room + 7) → IsVarint (digits_128 room n) n × (length (digits_128 room n) ≤ suc room)
digits-are zero n lt = rw (digits-last 0 n lt) ((lt, refl), omega arith)
digits-are (suc room) n lt =
    elim (cases_lt n 128) [
      | inl small ↦ rw (digits-last (suc room) n small) ((small, refl), omega arith)
      | inr ge ↦
          let r = digits-are room (n / 128) (quotient_fits room n lt) in
          rw (digits-more room n ge) (front_digit n (digits_128 room (n / 128)) ge r.0, omega (arith, r.1))
    ]

number-is : (room greatest n : ℕ) → n ≤ greatest → n < 2 ^ (7 * room + 7) → IsNumber (suc room) greatest n (digits_128 room n)
number-is room greatest n le lt = let d = digits-are room n lt in record { short_enough = d.1; small_enough = le; digits = d.0 }

length-is : (n : ℕ) → n < 2147483648 → IsNumber 5 (2 ^ 31 - 1) n (digits_128 4 n)
length-is n lt = number-is 4 (2 ^ 31 - 1) n (omega arith) (omega arith)

-- the zigzag number of a number of so many bits
zigzag-16 : (z : ℤ) → InBits 15 z → IsNumber 3 (2 ^ 16 - 1) (zigzag z) (digits_128 2 (zigzag z))
zigzag-16 (pos n) h = number-is 2 (2 ^ 16 - 1) (2 * n) (omega arith) (omega arith)
zigzag-16 (negsuc n) h = number-is 2 (2 ^ 16 - 1) (2 * n + 1) (omega arith) (omega arith)

zigzag-32 : (z : ℤ) → InBits 31 z → IsNumber 5 (2 ^ 32 - 1) (zigzag z) (digits_128 4 (zigzag z))
zigzag-32 (pos n) h = number-is 4 (2 ^ 32 - 1) (2 * n) (omega arith) (omega arith)
zigzag-32 (negsuc n) h = number-is 4 (2 ^ 32 - 1) (2 * n + 1) (omega arith) (omega arith)

zigzag-64 : (z : ℤ) → InBits 63 z → IsNumber 10 (2 ^ 64 - 1) (zigzag z) (digits_128 9 (zigzag z))
zigzag-64 (pos n) h = number-is 9 (2 ^ 64 - 1) (2 * n) (omega arith) (omega arith)
zigzag-64 (negsuc n) h = number-is 9 (2 ^ 64 - 1) (2 * n + 1) (omega arith) (omega arith)

id-is : (id : ℤ) → nat_abs id ≤ 32767 → IsNumber 3 (2 ^ 16 - 1) (zigzag id) (digits_128 2 (zigzag id))
id-is (pos n) h = number-is 2 (2 ^ 16 - 1) (2 * n) (omega arith) (omega arith)
id-is (negsuc n) h = number-is 2 (2 ^ 16 - 1) (2 * n + 1) (omega arith) (omega arith)

signed-byte : (z : ℤ) → InBits 7 z → IsSignedByte z (byte_of z)
signed-byte (pos n) h = (h, refl)
signed-byte (negsuc n) h = (h, omega arith)

-- ---- kinds

-- the kind of a type's values on the wire
abbrev pub wire_kind : TypeTree → Kind
wire_kind (scalar types.flag) = k.Flag
wire_kind (scalar types.i8) = k.I8
wire_kind (scalar types.i16) = k.I16
wire_kind (scalar types.i32) = k.I32
wire_kind (scalar types.i64) = k.I64
wire_kind text = k.Binary
wire_kind bytes = k.Binary
wire_kind (list_of x) = k.List
wire_kind (set_of x) = k.Set
wire_kind (map_of x y) = k.Map
wire_kind (named (enum_of w ms)) = k.I32
wire_kind (named (struct_of w fs)) = k.Struct

code-is : (t : TypeTree) → code_of (wire_kind t) ≡ code t
code-is (scalar types.flag) = refl
code-is (scalar types.i8) = refl
code-is (scalar types.i16) = refl
code-is (scalar types.i32) = refl
code-is (scalar types.i64) = refl
code-is text = refl
code-is bytes = refl
code-is (list_of x) = refl
code-is (set_of x) = refl
code-is (map_of x y) = refl
code-is (named (enum_of w ms)) = refl
code-is (named (struct_of w fs)) = refl

-- ---- items and pairs

header-is : (kind : Kind) (n : ℕ) → n < 2147483648 → IsListHeader kind n ((16 * 15 + code_of kind) ∷ digits_128 4 n)
header-is kind n lt = let c = kind_code kind in long_list_header kind n (code_of kind) ((16 * 15 + code_of kind) ∷ digits_128 4 n) (digits_128 4 n) c.1 c.0 (length-is n lt) refl

each-spelled : (l : ℕ) (kind : Kind) (f : Value → Node) (tree : KindTree) → ((v : Value) → Of tree v → (b : List ℕ) × Spells l kind (f v) b) → (vs : Values) → OfEach tree vs → (b : List ℕ) × SpellsItems l kind (count vs) (each f vs) b
each-spelled l kind f tree one _ none = ([], no_items l kind [] refl)
each-spelled l kind f tree one _ (more {v = v} {vs = vs} h hs) =
    let first = one v h in
    let rest = each-spelled l kind f tree one vs hs in
    (first.0 ++ rest.0, item l kind (count vs) (f v) (each f vs) (first.0 ++ rest.0) first.0 rest.0 first.1 rest.1 refl)

pairs-spelled : (l : ℕ) (a b : Kind) (f g : Value → Node) (t u : KindTree) → ((v : Value) → Of t v → (s : List ℕ) × Spells l a (f v) s) → ((v : Value) → Of u v → (s : List ℕ) × Spells l b (g v) s) → (vs : Values) → OfEach (pair_kinds t u) vs
    → (s : List ℕ) × SpellsPairs l a b (count vs) (each_pair f g vs) s
pairs-spelled l a b f g t u key value _ none = ([], no_pair l a b [] refl)
pairs-spelled l a b f g t u key value _ (more {vs = vs} (record_of e (part {v = x} p (part {v = y} q no_part))) hs) =
    let first = key x p in
    let second = value y q in
    let rest = pairs-spelled l a b f g t u key value vs hs in
    let all = first.0 ++ (second.0 ++ rest.0) in
    (all, one_pair l a b (count vs) (f x) (g y) (each_pair f g vs) all first.0 second.0 rest.0 first.1 second.1 rest.1 refl)

map-spelled : (l : ℕ) (a b : Kind) (f g : Value → Node) (vs : Values) (s : List ℕ) → count vs < 2147483648 → SpellsPairs l a b (count vs) (each_pair f g vs) s → (r : List ℕ) × Spells (suc l) k.Map (map_with (code_of a) (code_of b) (each_pair f g vs)) r
map-spelled l a b f g NoValue s lt is = (digits_128 4 0, is_no_map l (digits_128 4 0) (length-is 0 (omega arith)))
map-spelled l a b f g (And v vs) s lt is =
    let c = kind_code a in
    let d = kind_code b in
    let all = digits_128 4 (suc (count vs)) ++ (16 * code_of a + code_of b) ∷ s in
    (all, is_map l a b (count vs) (code_of a) (code_of b) (each_pair f g (And v vs)) all (digits_128 4 (suc (count vs))) s (length-is (suc (count vs)) lt) c.1 d.1 c.0 d.0 is refl)

-- ---- fields

field-header : (before id : ℤ) (c : ℕ) → nat_abs id ≤ 32767 → c < 16 → IsFieldHeader before id c (c ∷ digits_128 2 (zigzag id))
field-header before id c le lt = long_field_header before id c (c ∷ digits_128 2 (zigzag id)) (digits_128 2 (zigzag id)) lt (id-is id le) refl

abbrev IsSpelledBehind : ℕ → ℤ → Fields → Type 0
IsSpelledBehind l before xs = (s : List ℕ) × SpellsFields l before xs s

flag-behind : (l : ℕ) (before id : ℤ) (x : Bool) (xs : Fields) → nat_abs id ≤ 32767 → IsSpelledBehind l id xs → IsSpelledBehind l before (field id (node.flag x) xs)
flag-behind l before id true xs le rest =
    let h = 1 ∷ digits_128 2 (zigzag id) in
    (h ++ rest.0, flag_field l before id 1 true xs (h ++ rest.0) h rest.0 (field-header before id 1 le (omega arith)) true_code rest.1 refl)
flag-behind l before id false xs le rest =
    let h = 2 ∷ digits_128 2 (zigzag id) in
    (h ++ rest.0, flag_field l before id 2 false xs (h ++ rest.0) h rest.0 (field-header before id 2 le (omega arith)) false_code rest.1 refl)

other-behind : (l : ℕ) (before id : ℤ) (kind : Kind) (x : Node) (xs : Fields) → 2 < code_of kind → nat_abs id ≤ 32767 → (s : List ℕ) → Spells l kind x s → IsSpelledBehind l id xs → IsSpelledBehind l before (field id x xs)
other-behind l before id kind x xs above le s is rest =
    let c = kind_code kind in
    let h = code_of kind ∷ digits_128 2 (zigzag id) in
    let all = h ++ (s ++ rest.0) in
    (all, other_field l before id (code_of kind) kind x xs all h s rest.0 (field-header before id (code_of kind) le c.1) (other_code (code_of kind) kind above c.0) is rest.1 refl)

given-behind : (l : ℕ) (before id : ℤ) (t : TypeTree) (v : Value) (xs : Fields) → nat_abs id ≤ 32767 → (s : List ℕ) → Spells l (wire_kind t) (wire t v) s → IsSpelledBehind l id xs → IsSpelledBehind l before (field id (wire t v) xs)
given-behind l before id (scalar types.flag) v xs le s is rest = flag-behind l before id _ xs le rest
given-behind l before id (scalar types.i8) v xs le s is rest = other-behind l before id k.I8 _ xs (omega arith) le s is rest
given-behind l before id (scalar types.i16) v xs le s is rest = other-behind l before id k.I16 _ xs (omega arith) le s is rest
given-behind l before id (scalar types.i32) v xs le s is rest = other-behind l before id k.I32 _ xs (omega arith) le s is rest
given-behind l before id (scalar types.i64) v xs le s is rest = other-behind l before id k.I64 _ xs (omega arith) le s is rest
given-behind l before id text v xs le s is rest = other-behind l before id k.Binary _ xs (omega arith) le s is rest
given-behind l before id bytes v xs le s is rest = other-behind l before id k.Binary _ xs (omega arith) le s is rest
given-behind l before id (list_of x) v xs le s is rest = other-behind l before id k.List _ xs (omega arith) le s is rest
given-behind l before id (set_of x) v xs le s is rest = other-behind l before id k.Set _ xs (omega arith) le s is rest
given-behind l before id (map_of x y) v xs le s is rest = other-behind l before id k.Map _ xs (omega arith) le s is rest
given-behind l before id (named (enum_of w ms)) v xs le s is rest = other-behind l before id k.I32 _ xs (omega arith) le s is rest
given-behind l before id (named (struct_of w fs)) v xs le s is rest = other-behind l before id k.Struct _ xs (omega arith) le s is rest

-- ---- values

flag-spelled : (l : ℕ) (b : Bool) → (s : List ℕ) × Spells l k.Flag (node.flag b) s
flag-spelled l true = (1 ∷ [], is_true l (1 ∷ []) refl)
flag-spelled l false = (2 ∷ [], is_false l 2 (2 ∷ []) (inr refl) refl)

binary-spelled : (l : ℕ) (b : List ℕ) → length b < 2 ^ 31 → AllByRecursion (λ x. x < 256) b → (s : List ℕ) × Spells l k.Binary (node.binary b) s
binary-spelled l b lt all = let h = digits_128 4 (length b) in (h ++ b, is_binary l b (h ++ b) h (length-is (length b) (omega arith)) all refl)

mutual
  pub spelled : (l : ℕ) (t : TypeTree) (v : Value) → IsAccepted Any t → depth t ≤ l → Of (kinds_of t) v → (s : List ℕ) × Spells l (wire_kind t) (wire t v) s
  spelled l (scalar types.flag) _ a d (is.one {x = Truth b} h) = flag-spelled l b
  spelled l (scalar types.flag) _ a d (is.one {x = Number z} h) = absurd h
  spelled l (scalar types.i8) _ a d (is.one {x = Number z} h) = (byte_of z ∷ [], is_i8 l z (byte_of z) (byte_of z ∷ []) (signed-byte z h) refl)
  spelled l (scalar types.i8) _ a d (is.one {x = Truth b} h) = absurd h
  spelled l (scalar types.i16) _ a d (is.one {x = Number z} h) = (digits_128 2 (zigzag z), is_i16 l z (digits_128 2 (zigzag z)) (zigzag-16 z h))
  spelled l (scalar types.i16) _ a d (is.one {x = Truth b} h) = absurd h
  spelled l (scalar types.i32) _ a d (is.one {x = Number z} h) = (digits_128 4 (zigzag z), is_i32 l z (digits_128 4 (zigzag z)) (zigzag-32 z h))
  spelled l (scalar types.i32) _ a d (is.one {x = Truth b} h) = absurd h
  spelled l (scalar types.i64) _ a d (is.one {x = Number z} h) = (digits_128 9 (zigzag z), is_i64 l z (digits_128 9 (zigzag z)) (zigzag-64 z h))
  spelled l (scalar types.i64) _ a d (is.one {x = Truth b} h) = absurd h
  spelled l text _ a d (is.bytes {bs = bs} n all u) = binary-spelled l bs n all
  spelled l bytes _ a d (is.bytes {bs = bs} n all u) = binary-spelled l bs n all
  spelled zero (list_of x) v a d h = absurd (omega (arith, d))
  spelled (suc l) (list_of x) _ a d (is.items {vs = vs} n r hs) =
      let kind = wire_kind x in
      let inside = each-spelled l kind (wire x) (kinds_of x) (λ u h. spelled l x u a (omega (arith, d)) h) vs hs in
      let h = (16 * 15 + code_of kind) ∷ digits_128 4 (count vs) in
      let all = h ++ inside.0 in
      (all, subst (λ c. Spells (suc l) k.List (node.list c (each (wire x) vs)) all) (code-is x) (is_list l kind (count vs) (each (wire x) vs) all h inside.0 (header-is kind (count vs) (omega arith)) inside.1 refl))
  spelled zero (set_of x) v a d h = absurd (omega (arith, d))
  spelled (suc l) (set_of x) _ a d (is.items {vs = vs} n r hs) =
      let kind = wire_kind x in
      let inside = each-spelled l kind (wire x) (kinds_of x) (λ u h. spelled l x u a.1 (omega (arith, d)) h) vs hs in
      let h = (16 * 15 + code_of kind) ∷ digits_128 4 (count vs) in
      let all = h ++ inside.0 in
      (all, subst (λ c. Spells (suc l) k.Set (node.set c (each (wire x) vs)) all) (code-is x) (is_set l kind (count vs) (each (wire x) vs) all h inside.0 (header-is kind (count vs) (omega arith)) inside.1 refl))
  spelled zero (map_of x y) v a d h = absurd (omega (arith, d))
  spelled (suc l) (map_of x y) _ a d (is.items {vs = vs} n r hs) =
      let inside = pairs-spelled l (wire_kind x) (wire_kind y) (wire x) (wire y) (kinds_of x) (kinds_of y) (λ u h. spelled l x u a.1 (omega (arith, d)) h) (λ u h. spelled l y u a.2 (omega (arith, d)) h) vs hs in
      let all = map-spelled l (wire_kind x) (wire_kind y) (wire x) (wire y) vs inside.0 (omega arith) inside.1 in
      (all.0, subst (λ c. Spells (suc l) k.Map (map_with c (code y) (each_pair (wire x) (wire y) vs)) all.0) (code-is x) (subst (λ c. Spells (suc l) k.Map (map_with (code_of (wire_kind x)) c (each_pair (wire x) (wire y) vs)) all.0) (code-is y) all.1))
  spelled l (named n) v a d h = named-spelled l n v a d h

  named-spelled : (l : ℕ) (n : Named) (v : Value) → IsAccepted Any (named n) → depth (named n) ≤ l → Of (kinds_of (named n)) v → (s : List ℕ) × Spells l (wire_kind (named n)) (wire (named n) v) s
  named-spelled l (enum_of w ms) _ a d (is.one {x = Number z} h) = (digits_128 4 (zigzag z), is_i32 l z (digits_128 4 (zigzag z)) (zigzag-32 z h))
  named-spelled l (enum_of w ms) _ a d (is.one {x = Truth b} h) = absurd h
  named-spelled zero (struct_of w fs) v a d h = absurd (omega (arith, d))
  named-spelled (suc l) (struct_of w fs) _ a d (record_of {vs = vs} e hs) =
      let inside = fields-spelled l (pos 0) 0 fs vs a.2 a.0 (omega (arith, d)) hs in
      (inside.0, is_struct l (wire_of_fields fs vs) inside.0 inside.1)

  fields-spelled : (l : ℕ) (before : ℤ) (low : ℕ) (fs : types.Fields) (vs : Values) → AreAccepted Any fs → Rising low (ids_of_fields fs) → depths fs ≤ l → OfAll (kinds_of_fields fs) vs → IsSpelledBehind l before (wire_of_fields fs vs)
  fields-spelled l before low types.no_fields _ a r d no_part = (0 ∷ [], the_end l before (0 ∷ []) refl)
  fields-spelled l before low (types.field id w Plain t e fs) _ a r d (part {v = v} {vs = vs} h hs) =
      let s = spelled l t v a.0 (omega (arith, d)) h in
      given-behind l before id t v (wire_of_fields fs vs) r.1 s.0 s.1 (fields-spelled l id (nat_abs id) fs vs a.2 r.2 (omega (arith, d)) hs)
  fields-spelled l before low (types.field id w Required t e fs) _ a r d (part {v = v} {vs = vs} h hs) =
      let s = spelled l t v a.0 (omega (arith, d)) h in
      given-behind l before id t v (wire_of_fields fs vs) r.1 s.0 s.1 (fields-spelled l id (nat_abs id) fs vs a.2 r.2 (omega (arith, d)) hs)
  fields-spelled l before low (types.field id w Optional t e fs) _ a r d (part {vs = vs} is.absent hs) = fields-spelled l before (nat_abs id) fs vs a.2 r.2 (omega (arith, d)) hs
  fields-spelled l before low (types.field id w Optional t e fs) _ a r d (part {vs = vs} (is.present {v = v} h) hs) =
      let s = spelled l t v a.0 (omega (arith, d)) h in
      given-behind l before id t v (wire_of_fields fs vs) r.1 s.0 s.1 (fields-spelled l id (nat_abs id) fs vs a.2 r.2 (omega (arith, d)) hs)

-- a struct's wire tree is that of a whole struct
pub struct-spelled : (t : TypeTree) (v : Value) → IsAccepted Any t → depth t ≤ 64 → kind_of t ≡ kinds.Struct → Of (kinds_of t) v → FitsWire (wire t v)
struct-spelled (named (struct_of w fs)) v a d e h = spelled 64 (named (struct_of w fs)) v a d h
struct-spelled (named (enum_of w ms)) v a d e h = absurd (cc)
struct-spelled (scalar types.flag) v a d e h = absurd (cc)
struct-spelled (scalar types.i8) v a d e h = absurd (cc)
struct-spelled (scalar types.i16) v a d e h = absurd (cc)
struct-spelled (scalar types.i32) v a d e h = absurd (cc)
struct-spelled (scalar types.i64) v a d e h = absurd (cc)
struct-spelled text v a d e h = absurd (cc)
struct-spelled bytes v a d e h = absurd (cc)
struct-spelled (list_of x) v a d e h = absurd (cc)
struct-spelled (set_of x) v a d e h = absurd (cc)
struct-spelled (map_of x y) v a d e h = absurd (cc)
