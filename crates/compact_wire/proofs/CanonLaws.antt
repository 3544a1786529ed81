-- What has a spelling has the canonical one.
use Rattle.std.proofs.Common.{◌≡◌, ◌≢◌, ℕ, zero, suc, ◌+◌, ◌-◌, ◌*◌, ◌/◌, ◌%◌, ◌^◌, ◌<◌, ◌≤◌, ◌⊎◌, inl, inr}
use Rattle.std.proofs.Common.{Bool, List, [], ◌∷◌, ◌++◌, length, Some, None, refl, sym, ap, subst, arith}
use Rattle.std.specs.Prelude.{ℤ, pos, negsuc, ◌+ℤ◌, ◌<ℤ◌}
use Rattle.std.proofs.lemmas.Int.{ints}
use Rattle.std.proofs.lemmas.Bool.Decides.{nat_tests}
use Rattle.std.proofs.lemmas.Bool.{cases_lt, lt-ltb, le-ltb}
use Rattle.compact_wire.specs.declared.kind.Kind.{Kind}
use Rattle.compact_wire.specs.declared.kind.Kind.TheVariants as k
use Rattle.compact_wire.specs.Node.{Node, flag, map, Nodes, Pairs, pair, Fields, field}
use Rattle.compact_wire.proofs.DigitLaws.{digits-last, digits-more}
use Rattle.compact_wire.specs.Number.{digits_128, shortest, IsVarint, IsNumber, zigzag}
use Rattle.compact_wire.specs.Codes.{kind_of, code_of}
use Rattle.compact_wire.specs.Spells.{IsSignedByte, IsListHeader, short_list_header, long_list_header}
use Rattle.compact_wire.specs.Spells.{IsFieldCode, true_code, false_code, other_code, IsFieldHeader}
use Rattle.compact_wire.specs.Spells.{step_field_header, long_field_header, Spells, is_true, is_false, is_i8}
use Rattle.compact_wire.specs.Spells.{is_i16, is_i32, is_i64, is_double, is_binary, is_list, is_set}
use Rattle.compact_wire.specs.Spells.{is_no_map, is_map, is_struct, SpellsItems, no_items, item, SpellsPairs}
use Rattle.compact_wire.specs.Spells.{no_pair, one_pair, SpellsFields, the_end, flag_field, other_field}
use Rattle.compact_wire.specs.Spells.{SpellsWire}
use Rattle.compact_wire.specs.Canon.{nodes_count, pairs_count, byte_of, sequence_header, id_step}
use Rattle.compact_wire.specs.Canon.{field_header, code_in_field, canon, canon_items, canon_pairs}
use Rattle.compact_wire.specs.Canon.{canon_fields, FitsWire}

-- ---- numbers

-- a number that has so many digits has them, at the shortest
pub front_digit : (n : ℕ) (rest : List ℕ) → 128 ≤ n → IsVarint rest (n / 128)
    → IsVarint ((n % 128 + 128) ∷ rest) n
front_digit n [] le is = absurd is
front_digit n (c ∷ rest) le is = (omega arith, omega arith, n / 128, omega arith, is)

-- the digits of a number are bounded by their count
bounded : (room n : ℕ) (b : List ℕ) → IsVarint b n → length b ≤ suc room → (n < 128) ⊎ (0 < room)
bounded room n [] is le = absurd is
bounded room n (b ∷ []) is le = inl (omega (arith, is.0, is.1))
bounded room n (b ∷ c ∷ bs) is le = inr (omega arith)

small : (room n : ℕ) (b : List ℕ) → room ≡ 0 → IsVarint b n → length b ≤ suc room → n < 128
small room n b none is le = elim (bounded room n b is le) [ inl lt ↦ lt | inr h ↦ absurd (omega arith) ]

-- the rest of a number that has digits has them too
IsNumber-rest : (room n : ℕ) (b : List ℕ) → IsVarint b n → length b ≤ suc (suc room)
    → (r : List ℕ) × IsVarint r (n / 128) × (length r ≤ suc room)
IsNumber-rest room n [] is le = absurd is
IsNumber-rest room n (b ∷ []) is le =
    let z : n / 128 ≡ 0 = omega (arith, is.0, is.1) in (0 ∷ [], (omega arith, z), omega arith)
IsNumber-rest room n (b ∷ c ∷ bs) is le =
    let z : n / 128 ≡ is.2 =
    omega (arith, is.0, is.1, is.3) in (c ∷ bs, subst (IsVarint (c ∷ bs)) (sym z) is.4, omega arith)

short_is : (more room n : ℕ) (b : List ℕ) → room ≤ more → IsVarint b n → length b ≤ suc room
    → IsVarint (digits_128 more n) n × (length (digits_128 more n) ≤ suc room)
short_is zero room n b within is le =
    rw (digits-last 0 n (small room n b (omega arith) is le))
    ((small room n b (omega arith) is le, refl), omega arith)
short_is (suc more) zero n b within is le =
    rw (digits-last (suc more) n (small 0 n b refl is le)) ((small 0 n b refl is le, refl), omega arith)
short_is (suc more) (suc room) n b within is le =
    elim (cases_lt n 128) [
      | inl lt ↦ rw (digits-last (suc more) n lt) ((lt, refl), omega arith)
      | inr ge ↦
          let r = IsNumber-rest room n b is le in
          let s = short_is more room (n / 128) r.0 (omega arith) r.1 r.2 in
          rw (digits-more more n ge) (front_digit n (digits_128 more (n / 128)) ge s.0, omega (arith, s.1))
    ]

short_number : (room greatest n : ℕ) (b : List ℕ) → room ≤ 9 → IsNumber (suc room) greatest n b
    → IsNumber (suc room) greatest n (shortest n)
unfolding shortest
short_number room greatest n b within is =
    let s = short_is 9 room n b within is.digits is.short_enough in
    record { short_enough = s.1; small_enough = is.small_enough; digits = s.0 }

-- ---- heads

pub kind_code : (kind : Kind) → (kind_of (code_of kind) ≡ Some kind) × (code_of kind < 16)
unfolding kind_of
kind_code k.Flag = (refl, omega arith)
kind_code k.I8 = (refl, omega arith)
kind_code k.I16 = (refl, omega arith)
kind_code k.I32 = (refl, omega arith)
kind_code k.I64 = (refl, omega arith)
kind_code k.Double = (refl, omega arith)
kind_code k.Binary = (refl, omega arith)
kind_code k.List = (refl, omega arith)
kind_code k.Set = (refl, omega arith)
kind_code k.Map = (refl, omega arith)
kind_code k.Struct = (refl, omega arith)

-- each count that has a header has the canonical one
number_of_header : (kind : Kind) (n : ℕ) (h : List ℕ) → IsListHeader kind n h
    → (u : List ℕ) × IsNumber 5 (2 ^ 31 - 1) n u
number_of_header kind n h (short_list_header _ _ c _ lt c_lt is e) =
    (n ∷ [], record { short_enough = omega arith; small_enough = omega arith; digits = (omega arith, refl) })
number_of_header kind n h (long_list_header _ _ c _ u c_lt is number_is e) = (u, number_is)

list_header_again : (kind : Kind) (n : ℕ) (h : List ℕ) → IsListHeader kind n h
    → IsListHeader kind n (sequence_header (code_of kind) n)
list_header_again kind n h is =
    let code = kind_code kind in
    elim (cases_lt n 15) [
      | inl lt ↦
          rw (lt-ltb n 15 lt)
          (short_list_header kind n (code_of kind) ((16 * n + code_of kind) ∷ []) lt code.1 code.0 refl)
      | inr ge ↦
          let m = number_of_header kind n h is in
          rw (le-ltb n 15 ge)
          (long_list_header kind n (code_of kind) ((16 * 15 + code_of kind) ∷ shortest n) (shortest n)
          code.1 code.0 (short_number 4 (2 ^ 31 - 1) n m.0 (omega arith) m.1) refl)
    ]

count_is : (l : ℕ) (kind : Kind) (n : ℕ) (xs : Nodes) (t : List ℕ) → SpellsItems l kind n xs t
    → nodes_count xs ≡ n
count_is l kind n xs t (no_items _ _ _ _) = refl
count_is l kind n xs t (item _ _ m x ys _ u v p q _) = ap suc (count_is l kind m ys v q)

pairs_is : (l : ℕ) (a b : Kind) (n : ℕ) (xs : Pairs) (t : List ℕ) → SpellsPairs l a b n xs t
    → pairs_count xs ≡ n
pairs_is l a b n xs t (no_pair _ _ _ _ _) = refl
pairs_is l a b n xs t (one_pair _ _ _ m x y ys _ u v w p q r _) = ap suc (pairs_is l a b m ys w r)

byte_again : (z : ℤ) (b : ℕ) → IsSignedByte z b → IsSignedByte z (byte_of z)
byte_again (pos n) b is = (is.0, refl)
byte_again (negsuc n) b is = (is.0, omega (arith, is.0))

-- ---- fields

id_step_is : (before : ℤ) (id : ℤ) → 0 < id_step before id → before +ℤ pos (id_step before id) ≡ id
id_step_is (pos a) (pos b) h = omega (arith, ints)
id_step_is (pos a) (negsuc b) h = absurd (omega arith)
id_step_is (negsuc a) (pos b) h = omega (arith, ints)
id_step_is (negsuc a) (negsuc b) h = omega (arith, ints)

id_step_of : (before id : ℤ) (d : ℕ) → before +ℤ pos d ≡ id → id_step before id ≡ d
id_step_of (pos a) (pos b) d e = omega (arith, ints)
id_step_of (pos a) (negsuc b) d e = absurd (omega (arith, ints))
id_step_of (negsuc a) (pos b) d e = omega (arith, ints)
id_step_of (negsuc a) (negsuc b) d e = omega (arith, ints)

low_id : (id : ℤ) → zigzag id ≤ 2 ^ 16 - 1 → id <ℤ pos 32768
low_id (pos n) h = omega (arith, ints)
low_id (negsuc n) h = omega (arith, ints)

step_again : (before id : ℤ) (c : ℕ) → c < 16 → 0 < id_step before id → id_step before id < 16
    → id <ℤ pos 32768 → IsFieldHeader before id c (field_header before id c)
step_again before id c lt some small low =
    let same : before +ℤ pos (id_step before id) ≡ id = id_step_is before id some in
    let below : (before +ℤ pos (id_step before id)) <ℤ pos 32768 =
    subst (λ (z : ℤ). z <ℤ pos 32768) (sym same) low in
    let header : IsFieldHeader before (before +ℤ pos (id_step before id)) c
    ((16 * id_step before id + c) ∷ []) =
    step_field_header before (id_step before id) c ((16 * id_step before id + c) ∷ []) some small lt below
    refl in
    rw (lt-ltb 0 (id_step before id) some, lt-ltb (id_step before id) 16 small)
    (subst (λ (z : ℤ). IsFieldHeader before z c ((16 * id_step before id + c) ∷ [])) same header)

pub long_header : (before id : ℤ) (c : ℕ) → (id_step before id ≡ 0) ⊎ (16 ≤ id_step before id)
    → field_header before id c ≡ c ∷ shortest (zigzag id)
long_header before id c h = grind (arith, nat_tests)

header_again : (before id : ℤ) (c d : ℕ) (h : List ℕ) → IsFieldHeader before id c h → d < 16
    → IsFieldHeader before id d (field_header before id d)
header_again before id c d h (step_field_header _ delta _ _ some small c_lt low e) lt =
    let g : id_step before (before +ℤ pos delta) ≡ delta =
    id_step_of before (before +ℤ pos delta) delta refl in
    step_again before (before +ℤ pos delta) d lt (omega (arith, g)) (omega (arith, g)) low
header_again before id c d h (long_field_header _ _ _ _ u c_lt number_is e) lt =
    let long_again : (id_step before id ≡ 0) ⊎ (16 ≤ id_step before id)
    → IsFieldHeader before id d (field_header before id d) =
    λ none. subst (IsFieldHeader before id d) (sym (long_header before id d none))
    (long_field_header before id d (d ∷ shortest (zigzag id)) (shortest (zigzag id)) lt
    (short_number 2 (2 ^ 16 - 1) (zigzag id) u (omega arith) number_is) refl) in
    elim (cases_lt 0 (id_step before id)) [
      | inl some ↦ elim (cases_lt (id_step before id) 16) [
        | inl small ↦ step_again before id d lt some small (low_id id number_is.small_enough)
        | inr ge ↦ long_again (inr ge)
      ]
      | inr none ↦ long_again (inl (omega arith))
    ]

-- a code above 2 is no flag's
code_is : (c : ℕ) (kind : Kind) → 2 < c → kind_of c ≡ Some kind → kind ≢ k.Flag
unfolding kind_of
code_is c kind lt is e = grind (arith, nat_tests)

above_two : (kind : Kind) → kind ≢ k.Flag → 2 < code_of kind
above_two k.Flag h = absurd (h refl)
above_two k.I8 h = omega arith
above_two k.I16 h = omega arith
above_two k.I32 h = omega arith
above_two k.I64 h = omega arith
above_two k.Double h = omega arith
above_two k.Binary h = omega arith
above_two k.List h = omega arith
above_two k.Set h = omega arith
above_two k.Map h = omega arith
above_two k.Struct h = omega arith

other_is : (c : ℕ) (kind : Kind) → IsFieldCode c None kind → kind ≢ k.Flag
other_is c kind (other_code _ _ lt is) = code_is c kind lt is

-- the fields from one on that is no flag
fields_are : (l : ℕ) (kind : Kind) (x : Node) (t : List ℕ) → Spells l kind x t → kind ≢ k.Flag
    → (before id : ℤ) (xs : Fields)
    → canon_fields before (field id x xs) ≡ field_header before id (code_of kind)
    ++ (canon x ++ canon_fields id xs)
fields_are l kind x t (is_true _ _ _) h before id xs = absurd (h refl)
fields_are l kind x t (is_false _ _ _ _ _) h before id xs = absurd (h refl)
fields_are l kind x t (is_i8 _ _ _ _ _ _) h before id xs = refl
fields_are l kind x t (is_i16 _ _ _ _) h before id xs = refl
fields_are l kind x t (is_i32 _ _ _ _) h before id xs = refl
fields_are l kind x t (is_i64 _ _ _ _) h before id xs = refl
fields_are l kind x t (is_double _ _ _ _) h before id xs = refl
fields_are l kind x t (is_binary _ _ _ _ _ _ _) h before id xs = refl
fields_are l kind x t (is_list _ _ _ _ _ _ _ _ _ _) h before id xs = refl
fields_are l kind x t (is_set _ _ _ _ _ _ _ _ _ _) h before id xs = refl
fields_are l kind x t (is_no_map _ _ _) h before id xs = refl
fields_are l kind x t (is_map _ _ _ _ _ _ _ _ _ _ _ _ _ _ _ _ _) h before id xs = refl
fields_are l kind x t (is_struct _ _ _ _) h before id xs = refl

flag_code : (c : ℕ) (x : Bool) → IsFieldCode c (Some x) k.Flag
    → IsFieldCode (code_in_field (flag x)) (Some x) k.Flag × (code_in_field (flag x) < 16)
flag_code c x true_code = (true_code, omega arith)
flag_code c x false_code = (false_code, omega arith)

-- ---- values

mutual
  canon_spells : (l : ℕ) (kind : Kind) (w : Node) (t : List ℕ) → Spells l kind w t → Spells l kind w (canon w)
  canon_spells l kind w t (is_true _ _ _) = is_true l (1 ∷ []) refl
  canon_spells l kind w t (is_false _ _ _ _ _) = is_false l 2 (2 ∷ []) (inr refl) refl
  canon_spells l kind w t (is_i8 _ z b _ is e) =
      is_i8 l z (byte_of z) (byte_of z ∷ []) (byte_again z b is) refl
  canon_spells l kind w t (is_i16 _ z _ is) =
      is_i16 l z (shortest (zigzag z)) (short_number 2 (2 ^ 16 - 1) (zigzag z) t (omega arith) is)
  canon_spells l kind w t (is_i32 _ z _ is) =
      is_i32 l z (shortest (zigzag z)) (short_number 4 (2 ^ 32 - 1) (zigzag z) t (omega arith) is)
  canon_spells l kind w t (is_i64 _ z _ is) =
      is_i64 l z (shortest (zigzag z)) (short_number 9 (2 ^ 64 - 1) (zigzag z) t (omega arith) is)
  canon_spells l kind w t (is_double _ _ len bytes) = is_double l t len bytes
  canon_spells l kind w t (is_binary _ x _ h number_is bytes e) =
      is_binary l x (shortest (length x) ++ x) (shortest (length x))
      (short_number 4 (2 ^ 31 - 1) (length x) h (omega arith) number_is) bytes refl
  canon_spells l kind w t (is_list m a n xs _ h u header its e) =
      let c : nodes_count xs ≡ n = count_is m a n xs u its in
      let header_is : IsListHeader a n (sequence_header (code_of a) (nodes_count xs)) =
      rw c (list_header_again a n h header) in
      is_list m a n xs (sequence_header (code_of a) (nodes_count xs) ++ canon_items xs)
      (sequence_header (code_of a) (nodes_count xs)) (canon_items xs) header_is
      (items_spell m a n xs u its) refl
  canon_spells l kind w t (is_set m a n xs _ h u header its e) =
      let c : nodes_count xs ≡ n = count_is m a n xs u its in
      let header_is : IsListHeader a n (sequence_header (code_of a) (nodes_count xs)) =
      rw c (list_header_again a n h header) in
      is_set m a n xs (sequence_header (code_of a) (nodes_count xs) ++ canon_items xs)
      (sequence_header (code_of a) (nodes_count xs)) (canon_items xs) header_is
      (items_spell m a n xs u its) refl
  canon_spells l kind w t (is_no_map m _ number_is) =
      is_no_map m (0 ∷ [])
      (record { short_enough = omega arith; small_enough = omega arith; digits = (omega arith, refl) })
  canon_spells l kind w t (is_map m a b n c d xs _ h u number_is c_lt d_lt c_is d_is its e) =
      map_spells m a b n xs h u number_is its (pairs_spell m a b (suc n) xs u its)
  canon_spells l kind w t (is_struct m xs _ its) =
      is_struct m xs (canon_fields (pos 0) xs) (fields_spell m (pos 0) xs t its)

  items_spell : (l : ℕ) (kind : Kind) (n : ℕ) (xs : Nodes) (t : List ℕ) → SpellsItems l kind n xs t
      → SpellsItems l kind n xs (canon_items xs)
  items_spell l kind n xs t (no_items _ _ _ _) = no_items l kind [] refl
  items_spell l kind n xs t (item _ _ m x ys _ u v p q e) =
      item l kind m x ys (canon x ++ canon_items ys) (canon x) (canon_items ys) (canon_spells l kind x u p)
      (items_spell l kind m ys v q) refl

  pairs_spell : (l : ℕ) (a b : Kind) (n : ℕ) (xs : Pairs) (t : List ℕ) → SpellsPairs l a b n xs t
      → SpellsPairs l a b n xs (canon_pairs xs)
  pairs_spell l a b n xs t (no_pair _ _ _ _ _) = no_pair l a b [] refl
  pairs_spell l a b n xs t (one_pair _ _ _ m x y ys _ u v w p q r e) =
      one_pair l a b m x y ys (canon x ++ (canon y ++ canon_pairs ys)) (canon x) (canon y) (canon_pairs ys)
      (canon_spells l a x u p) (canon_spells l b y v q) (pairs_spell l a b m ys w r) refl

  fields_spell : (l : ℕ) (before : ℤ) (xs : Fields) (t : List ℕ) → SpellsFields l before xs t
      → SpellsFields l before xs (canon_fields before xs)
  fields_spell l before xs t (the_end _ _ _ _) = the_end l before (0 ∷ []) refl
  fields_spell l before xs t (flag_field _ _ id c x ys _ h v header code its e) =
      let f = flag_code c x code in
      flag_field l before id (code_in_field (flag x)) x ys
      (field_header before id (code_in_field (flag x)) ++ canon_fields id ys)
      (field_header before id (code_in_field (flag x))) (canon_fields id ys)
      (header_again before id c (code_in_field (flag x)) h header f.1) f.0 (fields_spell l id ys v its) refl
  fields_spell l before xs t (other_field _ _ id c kind x ys _ h u v header code p its e) =
      let code_fits = kind_code kind in
      let no_flag : kind ≢ k.Flag = other_is c kind code in
      other_field l before id (code_of kind) kind x ys (canon_fields before (field id x ys))
      (field_header before id (code_of kind)) (canon x) (canon_fields id ys)
      (header_again before id c (code_of kind) h header code_fits.1)
      (other_code (code_of kind) kind (above_two kind no_flag) code_fits.0) (canon_spells l kind x u p)
      (fields_spell l id ys v its)
      (fields_are l kind x u p no_flag before id ys)

  map_spells : (l : ℕ) (a b : Kind) (n : ℕ) (xs : Pairs) (h u : List ℕ) → IsNumber 5 (2 ^ 31 - 1) (suc n) h
      → SpellsPairs l a b (suc n) xs u → SpellsPairs l a b (suc n) xs (canon_pairs xs)
      → Spells (suc l) k.Map (map (code_of a) (code_of b) xs) (canon (map (code_of a) (code_of b) xs))
  map_spells l a b n xs h u number_is (one_pair _ _ _ m x y ys _ u1 v1 w1 p q r e) again =
      let ka = kind_code a in
      let kb = kind_code b in
      let c : suc (pairs_count ys) ≡ suc n = ap suc (pairs_is l a b m ys w1 r) in
      let count : IsNumber 5 (2 ^ 31 - 1) (suc n) (shortest (suc (pairs_count ys))) =
      rw c (short_number 4 (2 ^ 31 - 1) (suc n) h (omega arith) number_is) in
      is_map l a b n (code_of a) (code_of b) (pair x y ys) (canon (map (code_of a) (code_of b) (pair x y ys)))
      (shortest (suc (pairs_count ys))) (canon_pairs (pair x y ys)) count ka.1 kb.1 ka.0 kb.0 again refl

pub canonical : (w : Node) → FitsWire w → SpellsWire w (canon w)
canonical w (b, is) = canon_spells 64 k.Struct w b is
