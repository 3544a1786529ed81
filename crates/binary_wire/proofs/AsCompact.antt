-- What has a spelling in Binary Protocol has one in Compact Protocol.
use Rattle.std.proofs.Common.{◌≡◌, ◌≢◌, ℕ, zero, suc, ◌+◌, ◌-◌, ◌*◌, ◌/◌, ◌^◌, ◌<◌, ◌≤◌, inl, inr, Bool, true, false, List, [], ◌∷◌, ◌++◌, length, get_or, Some, Ok, refl, sym, ap, subst, ◌∙◌, arith}
use Rattle.std.specs.Prelude.{ℤ, pos, negsuc}
use Rattle.std.proofs.lemmas.Bool.{cases_lt}
use Rattle.std.proofs.Math.Facts.{to_z-neg}
use Rattle.std.proofs.lemmas.Int.{to_z_pos}
use Rattle.std.specs.Int.{w16, w32, w64, cast_signed}
use Rattle.byteorder.specs.Endian.{big_number}
use Rattle.byteorder.specs.Numbers.{big_from-lt}
use Rattle.exact_reading.specs.Reading.{one}
use Rattle.compact_wire.specs.declared.kind.Kind.{Kind}
use Rattle.compact_wire.specs.declared.kind.Kind.TheVariants as k
use Rattle.compact_wire.specs.Bytes.{IsByte, AreBytes}
use Rattle.compact_wire.specs.Node.{Node, flag, i8, i16, i32, i64, double, binary, list, set, map, structure}
use Rattle.compact_wire.specs.Node.{Nodes, Pairs, Fields, no_fields, field}
use Rattle.compact_wire.specs.Codes.{code_of}
use Rattle.compact_wire.specs.Canon.{FitsWire, canon, field_header}
use Rattle.compact_wire.specs.Writes.{canon_field}
use Rattle.compact_wire.specs.Number.{digits_128, IsVarint, IsNumber, zigzag}
use Rattle.compact_wire.specs.Reads.{signed_byte, scalar as compact_scalar}
use Rattle.compact_wire.specs.Spells as compact
use Rattle.compact_wire.specs.Spells.{Spells, is_true, is_false, is_i8, is_i16, is_i32, is_i64, is_double, is_binary, is_list, is_set, is_no_map, is_map, is_struct, no_items, item, no_pair, one_pair, the_end, flag_field, other_field, true_code, false_code, other_code, IsListHeader, long_list_header, IsFieldHeader, long_field_header}
use Rattle.compact_wire.proofs.DigitLaws.{digits-last, digits-more, quotient_fits}
use Rattle.compact_wire.proofs.CanonLaws.{front_digit, kind_code}
use Rattle.compact_wire.proofs.ScalarLaws.{scalar_exact}
use Rattle.binary_wire.specs.BinaryNumbers.{IsSigned}
use Rattle.binary_wire.specs.BinaryGrammar.{SpellsScalar, SpellsItems, SpellsPairs, SpellsFields, SpellsBy, SpellsValue, BinarySpells, code_kept}

-- ---- numbers

-- so many digits write a number that has no more
digits_are : (room n : ℕ) → n < 2 ^ (7 * room + 7) → IsVarint (digits_128 room n) n × (length (digits_128 room n) ≤ suc room)
digits_are zero n lt = rw (digits-last 0 n lt) ((lt, refl), omega arith)
digits_are (suc room) n lt =
    elim (cases_lt n 128) [
      | inl small ↦ rw (digits-last (suc room) n small) ((small, refl), omega arith)
      | inr ge ↦
          let r = digits_are room (n / 128) (quotient_fits room n lt) in
          rw (digits-more room n ge) (front_digit n (digits_128 room (n / 128)) ge r.0, omega (arith, r.1))
    ]

number_is : (room greatest n : ℕ) → n ≤ greatest → n < 2 ^ (7 * room + 7) → IsNumber (suc room) greatest n (digits_128 room n)
number_is room greatest n le lt = let d = digits_are room n lt in record { short_enough = d.1; small_enough = le; digits = d.0 }

count_is : (n : ℕ) → n < 2147483648 → IsNumber 5 (2 ^ 31 - 1) n (digits_128 4 n)
count_is n lt = number_is 4 (2 ^ 31 - 1) n (omega arith) (omega arith)

byte_at : (bs : List ℕ) → AreBytes bs → (i : ℕ) → get_or bs i 0 < 256
byte_at [] h i = omega arith
byte_at (b ∷ bs) h zero = h.0
byte_at (b ∷ bs) h (suc i) = byte_at bs h.1 i

-- the number in so many bytes
below : (n : ℕ) (x : List ℕ) → AreBytes x → big_number n x < 256 ^ n
below n x h = big_from-lt 0 n x (byte_at x h)

zigzag_16 : (n : ℕ) → n < 65536 → zigzag (cast_signed w16 n) < 65536
zigzag_16 n lt =
    elim (cases_lt n 32768) [
      | inl low ↦ subst (λ (z : ℤ). zigzag z < 65536) (sym (to_z_pos w16 n low)) (omega arith)
      | inr high ↦
          let m : ℕ = 65535 - n in
          let is : 65536 - suc m ≡ n = omega arith in
          let e : cast_signed w16 n ≡ negsuc m = ap (cast_signed w16) (sym is) ∙ to_z-neg w16 m (omega arith) in
          subst (λ (z : ℤ). zigzag z < 65536) (sym e) (omega arith)
    ]

zigzag_32 : (n : ℕ) → n < 4294967296 → zigzag (cast_signed w32 n) < 4294967296
zigzag_32 n lt =
    elim (cases_lt n 2147483648) [
      | inl low ↦ subst (λ (z : ℤ). zigzag z < 4294967296) (sym (to_z_pos w32 n low)) (omega arith)
      | inr high ↦
          let m : ℕ = 4294967295 - n in
          let is : 4294967296 - suc m ≡ n = omega arith in
          let e : cast_signed w32 n ≡ negsuc m = ap (cast_signed w32) (sym is) ∙ to_z-neg w32 m (omega arith) in
          subst (λ (z : ℤ). zigzag z < 4294967296) (sym e) (omega arith)
    ]

zigzag_64 : (n : ℕ) → n < 18446744073709551616 → zigzag (cast_signed w64 n) < 18446744073709551616
zigzag_64 n lt =
    elim (cases_lt n 9223372036854775808) [
      | inl low ↦ subst (λ (z : ℤ). zigzag z < 18446744073709551616) (sym (to_z_pos w64 n low)) (omega arith)
      | inr high ↦
          let m : ℕ = 18446744073709551615 - n in
          let is : 18446744073709551616 - suc m ≡ n = omega arith in
          let e : cast_signed w64 n ≡ negsuc m = ap (cast_signed w64) (sym is) ∙ to_z-neg w64 m (omega arith) in
          subst (λ (z : ℤ). zigzag z < 18446744073709551616) (sym e) (omega arith)
    ]

short_number : (z : ℤ) (t : List ℕ) → IsSigned w16 2 z t → IsNumber 3 (2 ^ 16 - 1) (zigzag z) (digits_128 2 (zigzag z))
short_number z t (x, a, b, is, (z_is, b_is), e) =
    let lt : zigzag z < 65536 = subst (λ (y : ℤ). zigzag y < 65536) (sym z_is) (zigzag_16 (big_number 2 x) (below 2 x (subst AreBytes (sym is.0) is.2))) in
    number_is 2 (2 ^ 16 - 1) (zigzag z) (omega arith) (omega arith)

middle_number : (z : ℤ) (t : List ℕ) → IsSigned w32 4 z t → IsNumber 5 (2 ^ 32 - 1) (zigzag z) (digits_128 4 (zigzag z))
middle_number z t (x, a, b, is, (z_is, b_is), e) =
    let lt : zigzag z < 4294967296 = subst (λ (y : ℤ). zigzag y < 4294967296) (sym z_is) (zigzag_32 (big_number 4 x) (below 4 x (subst AreBytes (sym is.0) is.2))) in
    number_is 4 (2 ^ 32 - 1) (zigzag z) (omega arith) (omega arith)

long_number : (z : ℤ) (t : List ℕ) → IsSigned w64 8 z t → IsNumber 10 (2 ^ 64 - 1) (zigzag z) (digits_128 9 (zigzag z))
long_number z t (x, a, b, is, (z_is, b_is), e) =
    let lt : zigzag z < 18446744073709551616 = subst (λ (y : ℤ). zigzag y < 18446744073709551616) (sym z_is) (zigzag_64 (big_number 8 x) (below 8 x (subst AreBytes (sym is.0) is.2))) in
    number_is 9 (2 ^ 64 - 1) (zigzag z) (omega arith) (omega arith)

-- ---- scalars

-- a value of this kind and tree has a spelling
abbrev HasSpelling : ℕ → Kind → Node → Type 0
HasSpelling l kind w = (s : List ℕ) × Spells l kind w s

made_is : (l : ℕ) (kind : Kind) (w v : Node) → w ≡ v → HasSpelling l kind v → HasSpelling l kind w
made_is l kind w v e h = subst (HasSpelling l kind) (sym e) h

flag_spelled : (l : ℕ) (x : Bool) → HasSpelling l k.Flag (flag x)
flag_spelled l true = (1 ∷ [], is_true l (1 ∷ []) refl)
flag_spelled l false = (0 ∷ [], is_false l 0 (0 ∷ []) (inl refl) refl)

byte_spelled : (l c : ℕ) (z : ℤ) → IsByte c → signed_byte c ≡ Some z → HasSpelling l k.I8 (i8 z)
unfolding compact_scalar
byte_spelled l c z byte means =
    let reads : compact_scalar k.I8 (c ∷ []) ≡ Ok (i8 z, []) = rw means refl in
    let s = (scalar_exact l k.I8 2 refl).sound (c ∷ []) (i8 z) [] (byte, tt) (omega arith) reads in
    (s.0, s.1)

scalar_spelled : (l : ℕ) (kind : Kind) (w : Node) (t : List ℕ) → SpellsScalar kind w t → HasSpelling l kind w
scalar_spelled l k.Flag w t (x, a, b, is, (w_is, b_is), e) = made_is l k.Flag w (flag x) w_is (flag_spelled l x)
scalar_spelled l k.I8 w t (z, a, b, (c, byte, means, a_is), (w_is, b_is), e) = made_is l k.I8 w (i8 z) w_is (byte_spelled l c z byte means)
scalar_spelled l k.I16 w t (z, a, b, is, (w_is, b_is), e) =
    made_is l k.I16 w (i16 z) w_is (digits_128 2 (zigzag z), is_i16 l z (digits_128 2 (zigzag z)) (short_number z a is))
scalar_spelled l k.I32 w t (z, a, b, is, (w_is, b_is), e) =
    made_is l k.I32 w (i32 z) w_is (digits_128 4 (zigzag z), is_i32 l z (digits_128 4 (zigzag z)) (middle_number z a is))
scalar_spelled l k.I64 w t (z, a, b, is, (w_is, b_is), e) =
    made_is l k.I64 w (i64 z) w_is (digits_128 9 (zigzag z), is_i64 l z (digits_128 9 (zigzag z)) (long_number z a is))
scalar_spelled l k.Double w t (x, a, b, is, (w_is, b_is), e) =
    made_is l k.Double w (double a) (w_is ∙ ap double is.0) (a, is_double l a is.1 is.2)
scalar_spelled l k.Binary w t (n, h, u, size, (x, a, b, is, (w_is, b_is), e2), e) =
    let len : n ≡ length a = sym is.1 in
    let lt : length a < 2147483648 = omega (arith, len, size.small) in
    let all = digits_128 4 (length a) ++ a in
    made_is l k.Binary w (binary a) (w_is ∙ ap binary is.0) (all, is_binary l a all (digits_128 4 (length a)) (count_is (length a) lt) is.2 refl)
scalar_spelled l k.List w t p = absurd p
scalar_spelled l k.Set w t p = absurd p
scalar_spelled l k.Map w t p = absurd p
scalar_spelled l k.Struct w t p = absurd p

-- ---- containers

items_spelled : (l : ℕ) (kind : Kind) (S : Node → List ℕ → Type 0) → ((x : Node) (t : List ℕ) → S x t → HasSpelling l kind x) → (n : ℕ) (xs : Nodes) (t : List ℕ) → SpellsItems S n xs t
    → (s : List ℕ) × compact.SpellsItems l kind n xs s
items_spelled l kind S one zero xs t (xs_is, t_is) = subst (λ (z : Nodes). (s : List ℕ) × compact.SpellsItems l kind 0 z s) (sym xs_is) ([], no_items l kind [] refl)
items_spelled l kind S one (suc n) xs t (x, a, b, is, (ys, c, d, more, (xs_is, d_is), e2), e) =
    let first = one x a is in
    let rest = items_spelled l kind S one n ys c more in
    subst (λ (z : Nodes). (s : List ℕ) × compact.SpellsItems l kind (suc n) z s) (sym xs_is)
    (first.0 ++ rest.0, item l kind n x ys (first.0 ++ rest.0) first.0 rest.0 first.1 rest.1 refl)

header_is : (kind : Kind) (n : ℕ) → n < 2147483648 → IsListHeader kind n ((16 * 15 + code_of kind) ∷ digits_128 4 n)
header_is kind n lt = let c = kind_code kind in long_list_header kind n (code_of kind) ((16 * 15 + code_of kind) ∷ digits_128 4 n) (digits_128 4 n) c.1 c.0 (count_is n lt) refl

pairs_spelled : (l : ℕ) (a b : Kind) (K V : Node → List ℕ → Type 0) → ((x : Node) (t : List ℕ) → K x t → HasSpelling l a x) → ((x : Node) (t : List ℕ) → V x t → HasSpelling l b x) → (n : ℕ) (xs : Pairs) (t : List ℕ)
    → SpellsPairs K V n xs t → (s : List ℕ) × compact.SpellsPairs l a b n xs s
pairs_spelled l a b K V key value zero xs t (xs_is, t_is) = subst (λ (z : Pairs). (s : List ℕ) × compact.SpellsPairs l a b 0 z s) (sym xs_is) ([], no_pair l a b [] refl)
pairs_spelled l a b K V key value (suc n) xs t (x, t1, r1, p, (y, t2, r2, q, (ys, t3, r3, more, (xs_is, r3_is), e3), e2), e) =
    let first = key x t1 p in
    let second = value y t2 q in
    let rest = pairs_spelled l a b K V key value n ys t3 more in
    let all = first.0 ++ (second.0 ++ rest.0) in
    subst (λ (z : Pairs). (s : List ℕ) × compact.SpellsPairs l a b (suc n) z s) (sym xs_is)
    (all, one_pair l a b n x y ys all first.0 second.0 rest.0 first.1 second.1 rest.1 refl)

map_spelled : (l : ℕ) (a b : Kind) (n : ℕ) (xs : Pairs) (s : List ℕ) → n < 2147483648 → compact.SpellsPairs l a b n xs s → HasSpelling (suc l) k.Map (map (code_kept n a) (code_kept n b) xs)
map_spelled l a b zero xs s lt (no_pair _ _ _ _ _) = (digits_128 4 0, is_no_map l (digits_128 4 0) (count_is 0 (omega arith)))
map_spelled l a b (suc n) xs s lt is =
    let c = kind_code a in
    let d = kind_code b in
    let all = digits_128 4 (suc n) ++ (16 * code_of a + code_of b) ∷ s in
    (all, is_map l a b n (code_of a) (code_of b) xs all (digits_128 4 (suc n)) s (count_is (suc n) lt) c.1 d.1 c.0 d.0 is refl)

field_header_is : (before id : ℤ) (c : ℕ) → c < 16 → IsNumber 3 (2 ^ 16 - 1) (zigzag id) (digits_128 2 (zigzag id)) → IsFieldHeader before id c (c ∷ digits_128 2 (zigzag id))
field_header_is before id c lt is = long_field_header before id c (c ∷ digits_128 2 (zigzag id)) (digits_128 2 (zigzag id)) lt is refl

-- a flag is one
flag_is : (l : ℕ) (kind : Kind) (x : Node) (t : List ℕ) → Spells l kind x t → kind ≡ k.Flag → (b : Bool) × (x ≡ flag b)
flag_is l kind x t (is_true _ _ _) e = (true, refl)
flag_is l kind x t (is_false _ _ _ _ _) e = (false, refl)
flag_is l kind x t (is_i8 _ _ _ _ _ _) e = absurd cc
flag_is l kind x t (is_i16 _ _ _ _) e = absurd cc
flag_is l kind x t (is_i32 _ _ _ _) e = absurd cc
flag_is l kind x t (is_i64 _ _ _ _) e = absurd cc
flag_is l kind x t (is_double _ _ _ _) e = absurd cc
flag_is l kind x t (is_binary _ _ _ _ _ _ _) e = absurd cc
flag_is l kind x t (is_list _ _ _ _ _ _ _ _ _ _) e = absurd cc
flag_is l kind x t (is_set _ _ _ _ _ _ _ _ _ _) e = absurd cc
flag_is l kind x t (is_no_map _ _ _) e = absurd cc
flag_is l kind x t (is_map _ _ _ _ _ _ _ _ _ _ _ _ _ _ _ _ _) e = absurd cc
flag_is l kind x t (is_struct _ _ _ _) e = absurd cc

-- a field that is no flag is its header and its value
pub other_field_is : (l : ℕ) (kind : Kind) (x : Node) (t : List ℕ) → Spells l kind x t → kind ≢ k.Flag → (before id : ℤ) → canon_field before id x ≡ field_header before id (code_of kind) ++ canon x
other_field_is l kind x t (is_true _ _ _) h before id = absurd (h refl)
other_field_is l kind x t (is_false _ _ _ _ _) h before id = absurd (h refl)
other_field_is l kind x t (is_i8 _ _ _ _ _ _) h before id = refl
other_field_is l kind x t (is_i16 _ _ _ _) h before id = refl
other_field_is l kind x t (is_i32 _ _ _ _) h before id = refl
other_field_is l kind x t (is_i64 _ _ _ _) h before id = refl
other_field_is l kind x t (is_double _ _ _ _) h before id = refl
other_field_is l kind x t (is_binary _ _ _ _ _ _ _) h before id = refl
other_field_is l kind x t (is_list _ _ _ _ _ _ _ _ _ _) h before id = refl
other_field_is l kind x t (is_set _ _ _ _ _ _ _ _ _ _) h before id = refl
other_field_is l kind x t (is_no_map _ _ _) h before id = refl
other_field_is l kind x t (is_map _ _ _ _ _ _ _ _ _ _ _ _ _ _ _ _ _) h before id = refl
other_field_is l kind x t (is_struct _ _ _ _) h before id = refl

module _ (l : ℕ) (before id : ℤ) (id_is : IsNumber 3 (2 ^ 16 - 1) (zigzag id) (digits_128 2 (zigzag id))) (xs : Fields) (rest : List ℕ) (others : compact.SpellsFields l id xs rest) where
  abbrev header : ℕ → List ℕ
  header c = c ∷ digits_128 2 (zigzag id)

  flag_behind : (x : Node) (b : Bool) → x ≡ flag b → (t : List ℕ) × compact.SpellsFields l before (field id x xs) t
  flag_behind x true e = subst (λ (y : Node). (t : List ℕ) × compact.SpellsFields l before (field id y xs) t) (sym e)
      (header 1 ++ rest, flag_field l before id 1 true xs (header 1 ++ rest) (header 1) rest (field_header_is before id 1 (omega arith) id_is) true_code others refl)
  flag_behind x false e = subst (λ (y : Node). (t : List ℕ) × compact.SpellsFields l before (field id y xs) t) (sym e)
      (header 2 ++ rest, flag_field l before id 2 false xs (header 2 ++ rest) (header 2) rest (field_header_is before id 2 (omega arith) id_is) false_code others refl)

  other_behind : (kind : Kind) (x : Node) (s : List ℕ) → 2 < code_of kind → Spells l kind x s → (t : List ℕ) × compact.SpellsFields l before (field id x xs) t
  other_behind kind x s lt is =
      let c = kind_code kind in
      let all = header (code_of kind) ++ (s ++ rest) in
      (all, other_field l before id (code_of kind) kind x xs all (header (code_of kind)) s rest (field_header_is before id (code_of kind) c.1 id_is) (other_code (code_of kind) kind lt c.0) is others refl)

  field_behind : (kind : Kind) (x : Node) → HasSpelling l kind x → (t : List ℕ) × compact.SpellsFields l before (field id x xs) t
  field_behind k.Flag x (s, is) = let f = flag_is l k.Flag x s is refl in flag_behind x f.0 f.1
  field_behind k.I8 x (s, is) = other_behind k.I8 x s (omega arith) is
  field_behind k.I16 x (s, is) = other_behind k.I16 x s (omega arith) is
  field_behind k.I32 x (s, is) = other_behind k.I32 x s (omega arith) is
  field_behind k.I64 x (s, is) = other_behind k.I64 x s (omega arith) is
  field_behind k.Double x (s, is) = other_behind k.Double x s (omega arith) is
  field_behind k.Binary x (s, is) = other_behind k.Binary x s (omega arith) is
  field_behind k.List x (s, is) = other_behind k.List x s (omega arith) is
  field_behind k.Set x (s, is) = other_behind k.Set x s (omega arith) is
  field_behind k.Map x (s, is) = other_behind k.Map x s (omega arith) is
  field_behind k.Struct x (s, is) = other_behind k.Struct x s (omega arith) is

module _ (l : ℕ) (S : Kind → Node → List ℕ → Type 0) (one : (kind : Kind) (x : Node) (t : List ℕ) → S kind x t → HasSpelling l kind x) where
  fields_spelled : (before : ℤ) (xs : Fields) (t : List ℕ) → SpellsFields S xs t → (s : List ℕ) × compact.SpellsFields l before xs s
  fields_spelled before no_fields t e = (0 ∷ [], the_end l before (0 ∷ []) refl)
  fields_spelled before (field id x xs) t (kind, h, u, v, number, is, more, e) =
      let rest = fields_spelled id xs v more in
      field_behind l before id (short_number id h number) xs rest.0 rest.1 kind x (one kind x u is)

  container_spelled : (kind : Kind) (w : Node) (t : List ℕ) → SpellsBy S kind w t → HasSpelling (suc l) kind w
  container_spelled k.Flag w t p = scalar_spelled (suc l) k.Flag w t p
  container_spelled k.I8 w t p = scalar_spelled (suc l) k.I8 w t p
  container_spelled k.I16 w t p = scalar_spelled (suc l) k.I16 w t p
  container_spelled k.I32 w t p = scalar_spelled (suc l) k.I32 w t p
  container_spelled k.I64 w t p = scalar_spelled (suc l) k.I64 w t p
  container_spelled k.Double w t p = scalar_spelled (suc l) k.Double w t p
  container_spelled k.Binary w t p = scalar_spelled (suc l) k.Binary w t p
  container_spelled k.List w t (kind, a, b, c, (n, h, u, size, (xs, d, f, its, (w_is, f_is), e3), e2), e) =
      let s = items_spelled l kind (S kind) (one kind) n xs d its in
      let header = (16 * 15 + code_of kind) ∷ digits_128 4 n in
      made_is (suc l) k.List w (list (code_of kind) xs) w_is (header ++ s.0, is_list l kind n xs (header ++ s.0) header s.0 (header_is kind n size.small) s.1 refl)
  container_spelled k.Set w t (kind, a, b, c, (n, h, u, size, (xs, d, f, its, (w_is, f_is), e3), e2), e) =
      let s = items_spelled l kind (S kind) (one kind) n xs d its in
      let header = (16 * 15 + code_of kind) ∷ digits_128 4 n in
      made_is (suc l) k.Set w (set (code_of kind) xs) w_is (header ++ s.0, is_set l kind n xs (header ++ s.0) header s.0 (header_is kind n size.small) s.1 refl)
  container_spelled k.Map w t (a, t1, r1, c1, (b, t2, r2, c2, (n, h, u, size, (xs, d, f, its, (w_is, f_is), e4), e3), e2), e) =
      let s = pairs_spelled l a b (S a) (S b) (one a) (one b) n xs d its in
      made_is (suc l) k.Map w (map (code_kept n a) (code_kept n b) xs) w_is (map_spelled l a b n xs s.0 size.small s.1)
  container_spelled k.Struct w t (xs, a, b, its, (w_is, b_is), e) =
      let s = fields_spelled (pos 0) xs a its in
      made_is (suc l) k.Struct w (structure xs) w_is (s.0, is_struct l xs s.0 s.1)

pub value_spelled : (l : ℕ) (kind : Kind) (w : Node) (t : List ℕ) → SpellsValue l kind w t → (s : List ℕ) × Spells l kind w s
unfolding SpellsValue
value_spelled zero kind w t p = scalar_spelled 0 kind w t p
value_spelled (suc l) kind w t p = container_spelled l (SpellsValue l) (λ kd x u q. value_spelled l kd x u q) kind w t p

pub fits_wire : (w : Node) (t : List ℕ) → BinarySpells w t → FitsWire w
fits_wire w t p = value_spelled 64 k.Struct w t p
