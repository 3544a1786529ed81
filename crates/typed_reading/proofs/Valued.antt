-- A spelled tree with no fault is read as a value of its type.
use Rattle.std.proofs.Common.{◌≡◌, ◌≢◌, ℕ, suc, ◌+◌, ◌≤◌, List, [], ◌∷◌, ◌++◌, length, map, Bool, true, false, cond, Option, Some, None, refl, sym, ap, subst, ◌∙◌, arith}
use Rattle.std.specs.Prelude.{ℤ, pos, negsuc, nat_abs, nat_eq}
use Rattle.std.specs.List.{AllByRecursion, AllPairs, sum_by}
use Rattle.std.specs.Ordering.{int_eq}
use Rattle.std.proofs.lemmas.Bool.{and_parts, or_parts}
use Rattle.std.proofs.lemmas.Bool.Decides.{Decides-int_eq, nat_tests}
use Rattle.std.proofs.lemmas.List.Elements.{All-from_recursion, recursion_from_All, All-contains}
use Rattle.std.proofs.lemmas.List.Sorted.{All-permutation, length_permutation, sum_by-IsPermutation}
use Rattle.std.proofs.lemmas.List.Sums.{sum_by-cons}
use Rattle.std.proofs.lemmas.Slice.Eq.{bytes_eq-Decides}
use Rattle.std.proofs.lemmas.List.Kept.{AllPairs-cons}
use Rattle.std.proofs.lemmas.Str.{IsUtf8-from_is_utf8}
use Rattle.std.specs.Str.{is_utf8, IsUtf8}
use Rattle.frozen_model.specs.Trees as tree
use Rattle.frozen_model.specs.Trees.{Flag, AList, ASet, AMap, Struct, Field, NoField, Rising, Tree, KindTree}
use Rattle.frozen_model.specs.Values.{Value, Values, Atom, Truth, Number, IsOf, One, Bytes, Items, Absent, Present, And, NoValue, InBits, count, key_of}
use Rattle.frozen_model.specs.Values.{Of, OfEach, OfAll, one, items, absent, present, record_of, none, more, no_part, part, cells, cells_each, cells_all, cell_limit}
use Rattle.frozen_model.specs.Values as value
use Rattle.compact_wire.specs.Node.{Node, flag, i8, i16, i32, i64, double, binary, list, set, map as map_node, structure}
use Rattle.compact_wire.specs.Node.{Nodes, no_nodes, node, Pairs, no_pairs, pair, Fields as WireFields}
use Rattle.compact_wire.specs.Number.{zigzag}
use Rattle.compact_wire.specs.Bytes.{AreBytes}
use Rattle.compact_wire.specs.Codes.{code_of}
use Rattle.compact_wire.specs.declared.kind.Kind.{Kind}
use Rattle.compact_wire.specs.declared.kind.Kind.TheVariants as k
use Rattle.compact_wire.specs.Spells.{IsSignedByte, IsListHeader, short_list_header, long_list_header}
use Rattle.compact_wire.specs.Spells.{Spells, is_true, is_false, is_i8, is_i16, is_i32, is_i64, is_double, is_binary, is_list, is_set, is_no_map, is_map, is_struct}
use Rattle.compact_wire.specs.Spells.{SpellsItems, no_items, item, SpellsPairs, no_pair, one_pair, SpellsFields, the_end, flag_field, other_field, SpellsWire}
use Rattle.wire_scan.specs.Sizes.{size}
use Rattle.idl_profile.specs.declared.kinds.Need.TheVariants.{Plain, Required, Optional}
use Rattle.idl_profile.specs.Types.{TypeTree, scalar, text, bytes, list_of, set_of, map_of, named, Named, enum_of, struct_of, Fields, no_fields, field, DefField, Default, Member, field_list, fields_of}
use Rattle.idl_profile.specs.Types as type
use Rattle.idl_parse.specs.Refs.{element_of, key_of as key_type, value_of as value_type}
use Rattle.key_order.specs.Keys.{AreOneKind, IsOneKind}
use Rattle.key_order.specs.InOrder.{row, in_order}
use Rattle.key_order.proofs.Insertion.{order_moves, order_rises}
use Rattle.type_kinds.specs.KindsOf.{kinds_of, kinds_of_fields}
use Rattle.type_kinds.specs.Defaults.{default_of, written, ids_of_fields}
use Rattle.type_kinds.specs.Accepted.{IsAccepted, AreAccepted, IsTextDefault, IsKeyType, HasShortTexts}
use Rattle.type_kinds.proofs.Forms.{accepted_short}
use Rattle.typed_tree.specs.Filled.{natural_ids}
use Rattle.typed_reading.specs.declared.fault.NodeFault.{NodeFault}
use Rattle.typed_reading.specs.declared.fault.NodeFault.TheVariants.{WrongType, BadText, RepeatedKey}
use Rattle.typed_reading.specs.declared.fault.Found.{Found}
use Rattle.typed_reading.specs.Codes.{code, code_of_node, meets, parts_fit}
use Rattle.typed_reading.specs.Keys.{same_key, key_value, keys_in, keys_in_pairs}
use Rattle.typed_reading.specs.Faults.{type_in, is_among, bad_text, inner, own, all_here, if_here, is_key_among, repeats, with_below, of_field, faults, faults_in, faults_in_pairs, faults_in_fields}
use Rattle.typed_reading.specs.Meaning.{given, under, field_value, reading, meaning, meanings, meanings_of_pairs, readings, Typed}
use Rattle.typed_reading.proofs.OwnValues.{short_text, ids_kept, field_valued}

-- ---- types by their code

pub data HasCode : ℕ → TypeTree → Type 0 where
  flag_is : HasCode 1 (scalar type.flag)
  i8_is : HasCode 3 (scalar type.i8)
  i16_is : HasCode 4 (scalar type.i16)
  i32_is : HasCode 5 (scalar type.i32)
  enum_is : (n : List ℕ) (ms : List Member) → HasCode 5 (named (enum_of n ms))
  i64_is : HasCode 6 (scalar type.i64)
  text_is : HasCode 8 text
  bytes_is : HasCode 8 bytes
  list_is : (x : TypeTree) → HasCode 9 (list_of x)
  set_is : (x : TypeTree) → HasCode 10 (set_of x)
  map_is : (x y : TypeTree) → HasCode 11 (map_of x y)
  struct_is : (n : List ℕ) (fs : Fields) → HasCode 12 (named (struct_of n fs))

pub has_code : (t : TypeTree) → HasCode (code t) t
has_code (scalar type.flag) = flag_is
has_code (scalar type.i8) = i8_is
has_code (scalar type.i16) = i16_is
has_code (scalar type.i32) = i32_is
has_code (scalar type.i64) = i64_is
has_code text = text_is
has_code bytes = bytes_is
has_code (list_of x) = list_is x
has_code (set_of x) = set_is x
has_code (map_of x y) = map_is x y
has_code (named (enum_of n ms)) = enum_is n ms
has_code (named (struct_of n fs)) = struct_is n fs

-- ---- no fault

pub none_of : {X : Type 0} (xs ys : List X) → xs ++ ys ≡ [] → (xs ≡ []) × (ys ≡ [])
none_of [] ys e = (refl, e)
none_of (x ∷ xs) ys e = absurd cc

own_none : (b : Bool) (ks : List NodeFault) (at : ℕ) → all_here at (cond b ks (WrongType ∷ [])) ≡ [] → (b ≡ true) × (ks ≡ [])
own_none true [] at e = (refl, refl)
own_none true (f ∷ ks) at e = absurd cc
own_none false ks at e = absurd cc

below_none : (b : Bool) (below : List Found) → b ≡ true → cond b below [] ≡ [] → below ≡ []
below_none true below e h = h
below_none false below e h = absurd cc

code_from : (t : TypeTree) (w : Node) → meets t w ≡ true → HasCode (code_of_node w) t
code_from t w m =
    let same : code_of_node w ≡ code t = let e = (and_parts (nat_eq (code_of_node w) (code t)) (parts_fit t w) m).0 in grind (arith, nat_tests) in
    subst (λ n. HasCode n t) (sym same) (has_code t)

-- the node meets its type, and what a node of its type may lack it has
pub record Clean (t : TypeTree) (w : Node) : Type 0 where
  pub coded : HasCode (code_of_node w) t
  pub met : meets t w ≡ true
  pub whole : inner t w ≡ []

pub clean_own : (t : TypeTree) (w : Node) (at : ℕ) → all_here at (own t w) ≡ [] → Clean t w
clean_own t w at h = let o = own_none (meets t w) (inner t w) at h in record { coded = code_from t w o.0; met = o.0; whole = o.1 }

-- and nothing below it has a fault
pub clean_below : (t : TypeTree) (w : Node) (at : ℕ) (below : List Found) → with_below t w at below ≡ [] → Clean t w × (below ≡ [])
clean_below t w at below h =
    let parts = none_of (cond (meets t w) below []) (all_here at (own t w)) h in
    let c = clean_own t w at parts.1 in
    (c, below_none (meets t w) below c.met parts.0)

-- ---- scalars

in_16 : (z : ℤ) → zigzag z ≤ 65535 → InBits 15 z
in_16 (pos n) h = omega (arith, h)
in_16 (negsuc n) h = omega (arith, h)

in_32 : (z : ℤ) → zigzag z ≤ 4294967295 → InBits 31 z
in_32 (pos n) h = omega (arith, h)
in_32 (negsuc n) h = omega (arith, h)

in_64 : (z : ℤ) → zigzag z ≤ 18446744073709551615 → InBits 63 z
in_64 (pos n) h = omega (arith, h)
in_64 (negsuc n) h = omega (arith, h)

flag_valued : (x : Bool) (t : TypeTree) → HasCode 1 t → Of (kinds_of t) (One (Truth x))
flag_valued x t flag_is = one tt

i8_valued : (z : ℤ) (t : TypeTree) → HasCode 3 t → InBits 7 z → Of (kinds_of t) (One (Number z))
i8_valued z t i8_is h = one h

i16_valued : (z : ℤ) (t : TypeTree) → HasCode 4 t → InBits 15 z → Of (kinds_of t) (One (Number z))
i16_valued z t i16_is h = one h

i32_valued : (z : ℤ) (t : TypeTree) → HasCode 5 t → InBits 31 z → Of (kinds_of t) (One (Number z))
i32_valued z t i32_is h = one h
i32_valued z t (enum_is n ms) h = one h

i64_valued : (z : ℤ) (t : TypeTree) → HasCode 6 t → InBits 63 z → Of (kinds_of t) (One (Number z))
i64_valued z t i64_is h = one h

bytes_valued : (bs : List ℕ) (t : TypeTree) → HasCode 8 t → bad_text t bs ≡ [] → length bs ≤ 2147483647 → AreBytes bs → Of (kinds_of t) (Bytes bs)
bytes_valued bs t text_is h short are = value.bytes (omega (arith, short)) are (IsUtf8-from_is_utf8 bs (spelled (is_utf8 bs) h))
  where
    spelled : (b : Bool) → cond b [] (BadText ∷ []) ≡ [] → b ≡ true
    spelled true e = refl
    spelled false e = absurd cc
bytes_valued bs t bytes_is h short are = value.bytes (omega (arith, short)) are tt

signed_byte : (z : ℤ) (b : ℕ) → IsSignedByte z b → InBits 7 z
signed_byte (pos n) b h = h.0
signed_byte (negsuc n) b h = h.0

pub no_double : (t : TypeTree) → HasCode 7 t → ⊥
no_double t h = elim h [ ]

whole_text : (t : TypeTree) (b : List ℕ) → inner t (binary b) ≡ [] → bad_text t b ≡ []
whole_text t b h = h

-- ---- rows

each_row : (l : KindTree) (vs : List Value) → AllByRecursion (Of l) vs → OfEach l (row vs)
each_row l [] h = none
each_row l (v ∷ vs) h = more h.0 (each_row l vs h.1)

count_row : (vs : List Value) → count (row vs) ≡ length vs
count_row [] = refl
count_row (v ∷ vs) = ap suc (count_row vs)

rises_row : (vs : List Value) → value.Rises AList None (row vs)
rises_row vs = from None vs
  where
    from : (o : Option Value) (us : List Value) → value.Rises AList o (row us)
    from o [] = tt
    from o (u ∷ us) = (refl, from (Some (key_of u)) us)

-- ---- keys

-- a key of a rank: 0 a number, 1 a flag, 2 bytes
pub data IsKeyIn : ℕ → Value → Type 0 where
  a_flag : (b : Bool) → IsKeyIn 1 (One (Truth b))
  a_number : (z : ℤ) → IsKeyIn 0 (One (Number z))
  some_bytes : (bs : List ℕ) → IsKeyIn 2 (Bytes bs)

abbrev pub rank_of_base : type.Scalar → ℕ
rank_of_base type.flag = 1
rank_of_base type.i8 = 0
rank_of_base type.i16 = 0
rank_of_base type.i32 = 0
rank_of_base type.i64 = 0

abbrev pub rank_of : TypeTree → ℕ
rank_of (scalar s) = rank_of_base s
rank_of text = 2
rank_of bytes = 2
rank_of (named (enum_of n ms)) = 0
rank_of _ = 3

flag_key : (x : Atom) → IsOf Flag x → IsKeyIn 1 (One x)
flag_key (Truth b) h = a_flag b
flag_key (Number z) h = absurd h

number_key : (w : tree.Whole) (x : Atom) → IsOf (tree.Integer w) x → IsKeyIn 0 (One x)
number_key w (Truth b) h = absurd h
number_key w (Number z) h = a_number z

key_in : (x : TypeTree) (v : Value) → IsKeyType x → Of (kinds_of x) v → IsKeyIn (rank_of x) v
key_in (scalar type.flag) v key (one {x = a} h) = flag_key a h
key_in (scalar type.i8) v key (one {x = a} h) = number_key tree.I8 a h
key_in (scalar type.i16) v key (one {x = a} h) = number_key tree.I16 a h
key_in (scalar type.i32) v key (one {x = a} h) = number_key tree.I32 a h
key_in (scalar type.i64) v key (one {x = a} h) = number_key tree.I64 a h
key_in (named (enum_of n ms)) v key (one {x = a} h) = number_key tree.I32 a h
key_in text v key (value.bytes {bs = b} s a u) = some_bytes b
key_in bytes v key (value.bytes {bs = b} s a u) = some_bytes b
key_in (list_of x) v key h = absurd key
key_in (set_of x) v key h = absurd key
key_in (map_of x y) v key h = absurd key
key_in (named (struct_of n fs)) v key h = absurd key

same_kind : (r : ℕ) (a b : Value) → IsKeyIn r a → IsKeyIn r b → IsOneKind a b
same_kind r a b (a_flag x) (a_flag y) = tt
same_kind r a b (a_number x) (a_number y) = tt
same_kind r a b (some_bytes x) (some_bytes y) = tt

pub itself : (r : ℕ) (a : Value) → IsKeyIn r a → key_of a ≡ a
itself r a (a_flag x) = refl
itself r a (a_number x) = refl
itself r a (some_bytes x) = refl

same_as_itself : (r : ℕ) (a : Value) → IsKeyIn r a → same_key a a ≡ true
same_as_itself r a (a_flag true) = refl
same_as_itself r a (a_flag false) = refl
same_as_itself r a (a_number x) = (Decides-int_eq x x).1 refl
same_as_itself r a (some_bytes x) = (bytes_eq-Decides x x).1 refl

-- a node that is read as a key is that key
pub node_key : (x : Node) (t : TypeTree) (r : ℕ) → IsKeyIn r (meaning x t) → key_value x ≡ meaning x t
node_key (flag b) t r h = refl
node_key (i8 z) t r h = refl
node_key (i16 z) t r h = refl
node_key (i32 z) t r h = refl
node_key (i64 z) t r h = refl
node_key (binary b) t r h = refl
node_key (double b) t r h = elim h [ ]
node_key (list c xs) t r h = elim h [ ]
node_key (set c xs) t r h = elim h [ ]
node_key (map_node a b xs) t r h = elim h [ ]
node_key (structure xs) t r h = elim h [ ]

abbrev pub keys_of_placed : List (ℕ × Value) → List Value
keys_of_placed ks = map (λ (p : ℕ × Value). p.1) ks

pub keys_are : (xs : Nodes) (t : TypeTree) (r at : ℕ) → AllByRecursion (IsKeyIn r) (meanings xs t) → map key_of (meanings xs t) ≡ keys_of_placed (keys_in xs at)
keys_are no_nodes t r at h = refl
keys_are (node x xs) t r at h =
    ap (λ v. v ∷ map key_of (meanings xs t)) (itself r (meaning x t) h.0 ∙ sym (node_key x t r h.0))
    ∙ ap (λ vs. key_value x ∷ vs) (keys_are xs t r (at + size x) h.1)

abbrev pub key_meanings : Pairs → TypeTree → List Value
key_meanings no_pairs t = []
key_meanings (pair x y xs) t = meaning x t ∷ key_meanings xs t

pub keys_of_pairs : (xs : Pairs) (t u : TypeTree) → map key_of (meanings_of_pairs xs t u) ≡ key_meanings xs t
keys_of_pairs no_pairs t u = refl
keys_of_pairs (pair x y xs) t u = ap (λ vs. meaning x t ∷ vs) (keys_of_pairs xs t u)

pub pair_keys_are : (xs : Pairs) (t : TypeTree) (r at : ℕ) → AllByRecursion (IsKeyIn r) (key_meanings xs t) → key_meanings xs t ≡ keys_of_placed (keys_in_pairs xs at)
pair_keys_are no_pairs t r at h = refl
pair_keys_are (pair x y xs) t r at h =
    ap (λ v. v ∷ key_meanings xs t) (sym (node_key x t r h.0))
    ∙ ap (λ vs. key_value x ∷ vs) (pair_keys_are xs t r (at + size x + size y) h.1)

-- ---- keys that do not repeat

abbrev IsNew : List Value → (ℕ × Value) → Type 0
IsNew before p = is_key_among p.1 before ≡ false

not_here : (b : Bool) (at : ℕ) → if_here b at RepeatedKey ≡ [] → b ≡ false
not_here false at e = refl
not_here true at e = absurd cc

fewer : (v : Value) (before : List Value) (ks : List (ℕ × Value)) → AllByRecursion (IsNew (v ∷ before)) ks → AllByRecursion (IsNew before) ks
fewer v before [] h = tt
fewer v before (p ∷ ks) h = ((or_parts (same_key p.1 v) (is_key_among p.1 before) h.0).1, fewer v before ks h.1)

all_new : (ks : List (ℕ × Value)) (before : List Value) → repeats ks before ≡ [] → AllByRecursion (IsNew before) ks
all_new [] before e = tt
all_new (p ∷ ks) before e =
    let parts = none_of (if_here (is_key_among p.1 before) p.0 RepeatedKey) (repeats ks (p.1 ∷ before)) e in
    (not_here (is_key_among p.1 before) p.0 parts.0, fewer p.1 before ks (all_new ks (p.1 ∷ before) parts.1))

others : (r : ℕ) (v : Value) (before : List Value) (ks : List (ℕ × Value)) → IsKeyIn r v → AllByRecursion (IsNew (v ∷ before)) ks → AllByRecursion (λ u. v ≢ u) (keys_of_placed ks)
others r v before [] key h = tt
others r v before (p ∷ ks) key h =
    let other = (or_parts (same_key p.1 v) (is_key_among p.1 before) h.0).0 in
    let same = same_as_itself r v key in
    (λ e. let again : same_key v v ≡ false = ap (λ u. same_key u v) e ∙ other in absurd cc, others r v before ks key h.1)

pub apart : (r : ℕ) (ks : List (ℕ × Value)) (before : List Value) → AllByRecursion (IsKeyIn r) (keys_of_placed ks) → repeats ks before ≡ [] → AllPairs (λ a b. a ≢ b) (keys_of_placed ks)
apart r [] before keys e = λ i j d lt h. absurd (omega (arith, h))
apart r (p ∷ ks) before keys e =
    let parts = none_of (if_here (is_key_among p.1 before) p.0 RepeatedKey) (repeats ks (p.1 ∷ before)) e in
    AllPairs-cons (λ a b. a ≢ b) p.1 (keys_of_placed ks)
    (All-from_recursion (λ u. p.1 ≢ u) (keys_of_placed ks) (others r p.1 before ks keys.0 (all_new ks (p.1 ∷ before) parts.1)))
    (apart r ks (p.1 ∷ before) keys.1 parts.1)

pub one_kind : (r : ℕ) (ks : List Value) → AllByRecursion (IsKeyIn r) ks → AreOneKind ks
one_kind r ks h = λ a b in_a in_b.
    let all = All-from_recursion (IsKeyIn r) ks h in
    same_kind r a b (All-contains (IsKeyIn r) ks a all in_a) (All-contains (IsKeyIn r) ks b all in_b)

-- ---- containers

moved : (l : KindTree) (vs : List Value) → AllByRecursion (Of l) vs → AllByRecursion (Of l) (in_order vs)
moved l vs h = recursion_from_All (Of l) (in_order vs) (All-permutation (Of l) vs (in_order vs) (order_moves vs) (All-from_recursion (Of l) vs h))

keys_in_all : (x : TypeTree) (vs : List Value) → IsKeyType x → AllByRecursion (Of (kinds_of x)) vs → AllByRecursion (IsKeyIn (rank_of x)) vs
keys_in_all x [] key h = tt
keys_in_all x (v ∷ vs) key h = (key_in x v key h.0, keys_in_all x vs key h.1)

length_meanings : (l : ℕ) (kind : Kind) (n : ℕ) (xs : Nodes) (b : List ℕ) (t : TypeTree) → SpellsItems l kind n xs b → length (meanings xs t) ≡ n
length_meanings l kind n xs b t (no_items _ _ _ e) = refl
length_meanings l kind n xs b t (item _ _ m x ys _ u v first rest e) = ap suc (length_meanings l kind m ys v t rest)

length_pairs : (l : ℕ) (p q : Kind) (n : ℕ) (xs : Pairs) (b : List ℕ) (t u : TypeTree) → SpellsPairs l p q n xs b → length (meanings_of_pairs xs t u) ≡ n
length_pairs l p q n xs b t u (no_pair _ _ _ _ e) = refl
length_pairs l p q n xs b t u (one_pair _ _ _ m x y ys _ c v w first second rest e) = ap suc (length_pairs l p q m ys w t u rest)

header_count : (kind : Kind) (n : ℕ) (h : List ℕ) → IsListHeader kind n h → n ≤ 2147483647
header_count kind n h (short_list_header _ _ c _ low code known is) = omega (arith, low)
header_count kind n h (long_list_header _ _ c _ u code known number is) = number.small_enough

-- ---- cells

abbrev item_cells : KindTree → Value → ℕ
item_cells k v = 1 + cells k v

pub cells_of_row : (k : KindTree) (vs : List Value) → cells_each k (row vs) ≡ sum_by (item_cells k) vs
cells_of_row k [] = refl
cells_of_row k (v ∷ vs) = ap (λ n. item_cells k v + n) (cells_of_row k vs) ∙ sym (sum_by-cons (item_cells k) v vs)

-- the sums of values in the order of their keys are theirs
pub moved_sum : (f : Value → ℕ) (vs : List Value) → sum_by f vs ≡ sum_by f (in_order vs)
moved_sum f vs = sym (sum_by-IsPermutation f vs (in_order vs) (order_moves vs))

pub moved_cells : (k : KindTree) (vs : List Value) → cells_each k (row vs) ≡ cells_each k (row (in_order vs))
moved_cells k vs = cells_of_row k vs ∙ moved_sum (item_cells k) vs ∙ sym (cells_of_row k (in_order vs))

abbrev pub pair_kinds : TypeTree → TypeTree → KindTree
pair_kinds x y = Struct (Field 1 (kinds_of x) (Field 2 (kinds_of y) NoField))

-- ---- fields

type_yes : (f : DefField) (fs : List DefField) (id : ℤ) → int_eq f.id id ≡ true → type_in (f ∷ fs) id ≡ Some f.type
type_yes f fs id e = rw e refl

type_no : (f : DefField) (fs : List DefField) (id : ℤ) → int_eq f.id id ≡ false → type_in (f ∷ fs) id ≡ type_in fs id
type_no f fs id e = rw e refl

some_same : {X : Type 0} (x y : X) → Some x ≡ Some y → x ≡ y
some_same x y e = cc

ids_same : (fs : Fields) → natural_ids (field_list fs) ≡ ids_of_fields fs
ids_same no_fields = refl
ids_same (field i w n t d fs) = ap (λ is. nat_abs i ∷ is) (ids_same fs)

pub ids_are : (fs : Fields) → natural_ids (field_list fs) ≡ tree.ids_of (kinds_of_fields fs)
ids_are fs = ids_same fs ∙ ids_kept fs

-- Where a number of cells is small so are its parts, and a written text of so few cells is one that a default may be.
module _ (P : List ℕ → Type 0) (Small : ℕ → Type 0) (parts : (a b : ℕ) → Small (a + b) → Small a × Small b) (text_ok : (x : List ℕ) → P x → Small (2 + length x) → IsTextDefault x) where
  abbrev IsRead : List DefField → (ℤ × Value) → Type 0
  IsRead fs r = (t : TypeTree) → type_in fs r.0 ≡ Some t → Small (cells (kinds_of t) r.1) → Of (kinds_of t) r.1

  abbrev AreRead : List DefField → List (ℤ × Value) → Type 0
  AreRead fs rs = AllByRecursion (IsRead fs) rs

  accepted_in : (fs : Fields) (id : ℤ) (t : TypeTree) → AreAccepted P fs → type_in (field_list fs) id ≡ Some t → IsAccepted P t
  accepted_in no_fields id t a e = absurd cc
  accepted_in (field i w n u d fs) id t a e = by (int_eq i id) refl (λ later. accepted_in fs id t a.2 later)
    where
      this : DefField
      this = record { id = i; name = w; need = n; type = u; default = d }

      by : (b : Bool) → int_eq i id ≡ b → (type_in (field_list fs) id ≡ Some t → IsAccepted P t) → IsAccepted P t
      by true q others = subst (IsAccepted P) (some_same u t (sym (type_yes this (field_list fs) id q) ∙ e)) a.0
      by false q others = others (sym (type_no this (field_list fs) id q) ∙ e)

  under_of : (all : List DefField) (rs : List (ℤ × Value)) → AreRead all rs → (id : ℤ) (v : Value) (t : TypeTree) → under id rs ≡ Some v → type_in all id ≡ Some t → Small (cells (kinds_of t) v) → Of (kinds_of t) v
  under_of all [] h id v t e f s = absurd cc
  under_of all (r ∷ rs) h id v t e f s = by (int_eq r.0 id) refl e (λ later. under_of all rs h.1 id v t later f s)
    where
      by : (b : Bool) → int_eq r.0 id ≡ b → cond b (Some r.1) (under id rs) ≡ Some v → (under id rs ≡ Some v → Of (kinds_of t) v) → Of (kinds_of t) v
      by true q g others =
          let same = some_same r.1 v g in
          subst (Of (kinds_of t)) same (h.0 t (ap (type_in all) ((Decides-int_eq r.0 id).0 q) ∙ f) (subst (λ u. Small (cells (kinds_of t) u)) (sym same) s))
      by false q g others = others g

  -- each field of the struct is found by its id
  abbrev Found_in : List DefField → Fields → Type 0
  Found_in all no_fields = Unit {0}
  Found_in all (field i w n t d fs) = (type_in all i ≡ Some t) × Found_in all fs

  found_more : (f : DefField) (all : List DefField) (before : ℕ) (fs : Fields) → nat_abs f.id ≤ before → Rising before (ids_of_fields fs) → Found_in all fs → Found_in (f ∷ all) fs
  found_more f all before no_fields low up h = tt
  found_more f all before (field i w n t d fs) low up h = (by (int_eq f.id i) refl, found_more f all (nat_abs i) fs (omega (arith, low, up.0)) up.2 h.1)
    where
      by : (b : Bool) → int_eq f.id i ≡ b → type_in (f ∷ all) i ≡ Some t
      by true q = absurd (let same = ap nat_abs ((Decides-int_eq f.id i).0 q) in omega (arith, low, up.0, same))
      by false q = type_no f all i q ∙ h.0

  found_all : (fs : Fields) (before : ℕ) → Rising before (ids_of_fields fs) → Found_in (field_list fs) fs
  found_all no_fields before up = tt
  found_all (field i w n t d fs) before up =
      let this : DefField = record { id = i; name = w; need = n; type = t; default = d } in
      let low : nat_abs i ≤ nat_abs i = omega arith in
      (type_yes this (field_list fs) i ((Decides-int_eq i i).1 refl), found_more this (field_list fs) (nat_abs i) fs low up.2 (found_all fs (nat_abs i) up.2))

  -- the cells of the fields' values
  abbrev cells_with : List (ℤ × Value) → Fields → ℕ
  cells_with rs fs = cells_all (kinds_of_fields fs) (row (map (field_value rs) (field_list fs)))

  fields_valued : (all : List DefField) (rs : List (ℤ × Value)) → AreRead all rs → (fs : Fields) → Found_in all fs → AreAccepted P fs → Small (cells_with rs fs)
      → OfAll (kinds_of_fields fs) (row (map (field_value rs) (field_list fs)))
  fields_valued all rs h no_fields found a s = no_part
  fields_valued all rs h (field i w Optional t d fs) found a s =
      let p = parts (cells (tree.Optional tt (kinds_of t)) (given Optional (under i rs) Absent)) (cells_with rs fs) s in
      part (by (under i rs) refl p.0) (fields_valued all rs h fs found.1 a.2 p.1)
    where
      by : (o : Option Value) → under i rs ≡ o → Small (cells (tree.Optional tt (kinds_of t)) (given Optional o Absent)) → Of (tree.Optional tt (kinds_of t)) (given Optional o Absent)
      by None e q = absent
      by (Some v) e q = present (under_of all rs h i v t e found.0 (parts 1 (cells (kinds_of t) v) q).1)
  fields_valued all rs h (field i w Plain t d fs) found a s =
      let p = parts (cells (kinds_of t) (given Plain (under i rs) (written d (default_of t)))) (cells_with rs fs) s in
      part (by (under i rs) refl p.0) (fields_valued all rs h fs found.1 a.2 p.1)
    where
      by : (o : Option Value) → under i rs ≡ o → Small (cells (kinds_of t) (given Plain o (written d (default_of t)))) → Of (kinds_of t) (given Plain o (written d (default_of t)))
      by None e q = field_valued P Small parts text_ok t d a.0 a.1 q
      by (Some v) e q = under_of all rs h i v t e found.0 q
  fields_valued all rs h (field i w Required t d fs) found a s =
      let p = parts (cells (kinds_of t) (given Required (under i rs) (written d (default_of t)))) (cells_with rs fs) s in
      part (by (under i rs) refl p.0) (fields_valued all rs h fs found.1 a.2 p.1)
    where
      by : (o : Option Value) → under i rs ≡ o → Small (cells (kinds_of t) (given Required o (written d (default_of t)))) → Of (kinds_of t) (given Required o (written d (default_of t)))
      by None e q = field_valued P Small parts text_ok t d a.0 a.1 q
      by (Some v) e q = under_of all rs h i v t e found.0 q

  -- one more field that is read, where the reading of its value is given
  one_read : (fs : Fields) (id : ℤ) (x : Node) (at : ℕ) (again : Bool) → ((t : TypeTree) → IsAccepted P t → faults x t at ≡ [] → Small (cells (kinds_of t) (meaning x t)) → Of (kinds_of t) (meaning x t)) → AreAccepted P fs
      → of_field (type_in (field_list fs) id) again x (λ t. faults x t at) at ≡ [] → (rs : List (ℤ × Value)) → AreRead (field_list fs) rs → AreRead (field_list fs) (reading id (type_in (field_list fs) id) (meaning x) rs)
  one_read fs id x at again valued a h rs rest = by (type_in (field_list fs) id) refl again h
    where
      by : (o : Option TypeTree) → type_in (field_list fs) id ≡ o → (b : Bool) → of_field o b x (λ t. faults x t at) at ≡ [] → AreRead (field_list fs) (reading id o (meaning x) rs)
      by None e b g = rest
      by (Some t) e true g = absurd cc
      by (Some t) e false g =
          (λ u f. subst (λ k. Small (cells (kinds_of k) (meaning x t)) → Of (kinds_of k) (meaning x t)) (some_same t u (sym e ∙ f)) (valued t (accepted_in fs id t a e) g), rest)

  -- ---- containers of parts that are read

  abbrev Rows : Nodes → Type 0
  Rows xs = (t : TypeTree) (at : ℕ) → IsAccepted P t → faults_in xs t at ≡ [] → Small (cells_each (kinds_of t) (row (meanings xs t))) → AllByRecursion (Of (kinds_of t)) (meanings xs t)

  list_valued : (c n : ℕ) (xs : Nodes) (t : TypeTree) (at : ℕ) → HasCode 9 t → IsAccepted P t → n ≤ 2147483647 → ((u : TypeTree) → length (meanings xs u) ≡ n) → Rows xs → faults_in xs (element_of t) (suc at) ≡ []
      → Small (cells (kinds_of t) (meaning (list c xs) t)) → Of (kinds_of t) (meaning (list c xs) t)
  list_valued c n xs t at (list_is x) a small len rows h s =
      let few = (parts 2 (cells_each (kinds_of x) (row (meanings xs x))) s).1 in
      items (omega (arith, small, count_row (meanings xs x), len x)) (rises_row (meanings xs x)) (each_row (kinds_of x) (meanings xs x) (rows x (suc at) a h few))

  set_valued : (c n : ℕ) (xs : Nodes) (t : TypeTree) (at : ℕ) → HasCode 10 t → IsAccepted P t → n ≤ 2147483647 → ((u : TypeTree) → length (meanings xs u) ≡ n) → Rows xs
      → faults_in xs (element_of t) (suc at) ++ repeats (keys_in xs (suc at)) [] ≡ [] → Small (cells (kinds_of t) (meaning (set c xs) t)) → Of (kinds_of t) (meaning (set c xs) t)
  set_valued c n xs t at (set_is x) a small len rows h s =
      let fine = none_of (faults_in xs x (suc at)) (repeats (keys_in xs (suc at)) []) h in
      let vs = meanings xs x in
      let few = subst Small (sym (moved_cells (kinds_of x) vs)) (parts 2 (cells_each (kinds_of x) (row (in_order vs))) s).1 in
      let each = rows x (suc at) a.1 fine.0 few in
      let keys = keys_in_all x vs a.0 each in
      let same = keys_are xs x (rank_of x) (suc at) keys in
      let placed : AllByRecursion (IsKeyIn (rank_of x)) (keys_of_placed (keys_in xs (suc at))) = subst (AllByRecursion (IsKeyIn (rank_of x))) (sym (itself_all vs keys) ∙ same) keys in
      let differ = apart (rank_of x) (keys_in xs (suc at)) [] placed fine.1 in
      let rises = order_rises ASet vs (subst AreOneKind (sym same) (one_kind (rank_of x) (keys_of_placed (keys_in xs (suc at))) placed)) (subst (AllPairs (λ p q. p ≢ q)) (sym same) differ) in
      items (omega (arith, small, count_row (in_order vs), length_permutation vs (in_order vs) (order_moves vs), len x)) rises (each_row (kinds_of x) (in_order vs) (moved (kinds_of x) vs each))
    where
      itself_all : (us : List Value) → AllByRecursion (IsKeyIn (rank_of x)) us → map key_of us ≡ us
      itself_all [] k = refl
      itself_all (u ∷ us) k = ap (λ v. v ∷ map key_of us) (itself (rank_of x) u k.0) ∙ ap (λ ws. u ∷ ws) (itself_all us k.1)

  abbrev PairRows : Pairs → Type 0
  PairRows xs = (t u : TypeTree) (at : ℕ) → IsAccepted P t → IsAccepted P u → faults_in_pairs xs t u at ≡ [] → Small (cells_each (pair_kinds t u) (row (meanings_of_pairs xs t u)))
      → AllByRecursion (Of (kinds_of t)) (key_meanings xs t) × AllByRecursion (Of (pair_kinds t u)) (meanings_of_pairs xs t u)

  map_valued : (c d n : ℕ) (xs : Pairs) (t : TypeTree) (at : ℕ) → HasCode 11 t → IsAccepted P t → n ≤ 2147483647 → ((p q : TypeTree) → length (meanings_of_pairs xs p q) ≡ n) → PairRows xs
      → faults_in_pairs xs (key_type t) (value_type t) (suc at) ++ repeats (keys_in_pairs xs (suc at)) [] ≡ [] → Small (cells (kinds_of t) (meaning (map_node c d xs) t)) → Of (kinds_of t) (meaning (map_node c d xs) t)
  map_valued c d n xs t at (map_is x y) a small len rows h s =
      let fine = none_of (faults_in_pairs xs x y (suc at)) (repeats (keys_in_pairs xs (suc at)) []) h in
      let vs = meanings_of_pairs xs x y in
      let few = subst Small (sym (moved_cells (pair_kinds x y) vs)) (parts 2 (cells_each (pair_kinds x y) (row (in_order vs))) s).1 in
      let each = rows x y (suc at) a.1 a.2 fine.0 few in
      let keys = keys_in_all x (key_meanings xs x) a.0 each.0 in
      let same = keys_of_pairs xs x y ∙ pair_keys_are xs x (rank_of x) (suc at) keys in
      let placed = subst (AllByRecursion (IsKeyIn (rank_of x))) (pair_keys_are xs x (rank_of x) (suc at) keys) keys in
      let differ = apart (rank_of x) (keys_in_pairs xs (suc at)) [] placed fine.1 in
      let rises = order_rises AMap vs (subst AreOneKind (sym same) (one_kind (rank_of x) (keys_of_placed (keys_in_pairs xs (suc at))) placed)) (subst (AllPairs (λ p q. p ≢ q)) (sym same) differ) in
      let l : KindTree = pair_kinds x y in
      items (omega (arith, small, count_row (in_order vs), length_permutation vs (in_order vs) (order_moves vs), len x y)) rises (each_row l (in_order vs) (moved l vs each.1))

  struct_valued : (xs : WireFields) (t : TypeTree) (at : ℕ) → HasCode 12 t → IsAccepted P t
      → ((fs : Fields) (ids : List ℤ) (n : ℕ) → AreAccepted P fs → faults_in_fields xs (field_list fs) ids n ≡ [] → AreRead (field_list fs) (readings xs (field_list fs)))
      → faults_in_fields xs (fields_of t) [] (suc at) ≡ [] → Small (cells (kinds_of t) (meaning (structure xs) t)) → Of (kinds_of t) (meaning (structure xs) t)
  struct_valued xs t at (struct_is w fs) a reads h s =
      let all = field_list fs in
      record_of (ids_are fs) (fields_valued all (readings xs all) (reads fs [] (suc at) a.2 h) fs (found_all fs 0 a.0) a.2 s)

  -- ---- every node

  mutual
    pub valued : (l : ℕ) (kind : Kind) (w : Node) (b : List ℕ) → Spells l kind w b → (t : TypeTree) (at : ℕ) → IsAccepted P t → faults w t at ≡ [] → Small (cells (kinds_of t) (meaning w t)) → Of (kinds_of t) (meaning w t)
    valued l kind w b (is_true _ _ e) t at a h s = flag_valued true t (clean_own t (flag true) at h).coded
    valued l kind w b (is_false _ c _ z e) t at a h s = flag_valued false t (clean_own t (flag false) at h).coded
    valued l kind w b (is_i8 _ z c _ q e) t at a h s = i8_valued z t (clean_own t (i8 z) at h).coded (signed_byte z c q)
    valued l kind w b (is_i16 _ z _ n) t at a h s = i16_valued z t (clean_own t (i16 z) at h).coded (in_16 z n.small_enough)
    valued l kind w b (is_i32 _ z _ n) t at a h s = i32_valued z t (clean_own t (i32 z) at h).coded (in_32 z n.small_enough)
    valued l kind w b (is_i64 _ z _ n) t at a h s = i64_valued z t (clean_own t (i64 z) at h).coded (in_64 z n.small_enough)
    valued l kind w b (is_double _ _ n are) t at a h s = absurd (no_double t (clean_own t (double b) at h).coded)
    valued l kind w b (is_binary _ x _ hd n are e) t at a h s =
        let c = clean_own t (binary x) at h in bytes_valued x t c.coded (whole_text t x c.whole) n.small_enough are
    valued l kind w b (is_list m i n xs _ hd u header its e) t at a h s =
        let c = clean_below t (list (code_of i) xs) at (faults_in xs (element_of t) (suc at)) h in
        list_valued (code_of i) n xs t at c.0.coded a (header_count i n hd header) (λ x. length_meanings m i n xs u x its) (λ x p ok f few. items_valued m i n xs u its x p ok f few) c.1 s
    valued l kind w b (is_set m i n xs _ hd u header its e) t at a h s =
        let c = clean_below t (set (code_of i) xs) at (faults_in xs (element_of t) (suc at) ++ repeats (keys_in xs (suc at)) []) h in
        set_valued (code_of i) n xs t at c.0.coded a (header_count i n hd header) (λ x. length_meanings m i n xs u x its) (λ x p ok f few. items_valued m i n xs u its x p ok f few) c.1 s
    valued l kind w b (is_no_map m _ n) t at a h s =
        let c = clean_below t (map_node 0 0 no_pairs) at [] h in
        map_valued 0 0 0 no_pairs t at c.0.coded a (omega arith) (λ p q. refl) (λ p q i ok fine f few. (tt, tt)) refl s
    valued l kind w b (is_map m p q n c d xs _ hd u count low lower first second its e) t at a h s =
        let o = clean_below t (map_node (code_of p) (code_of q) xs) at (faults_in_pairs xs (key_type t) (value_type t) (suc at) ++ repeats (keys_in_pairs xs (suc at)) []) h in
        map_valued (code_of p) (code_of q) (suc n) xs t at o.0.coded a count.small_enough (λ x y. length_pairs m p q (suc n) xs u x y its) (λ x y i ok fine f few. pairs_valued m p q (suc n) xs u its x y i ok fine f few) o.1 s
    valued l kind w b (is_struct m xs _ its) t at a h s =
        let c = clean_below t (structure xs) at (faults_in_fields xs (fields_of t) [] (suc at)) h in
        struct_valued xs t at c.0.coded a (λ fs ids n ok f. reads_valued m (pos 0) xs b its fs ids n ok f) c.1 s

    items_valued : (l : ℕ) (kind : Kind) (n : ℕ) (xs : Nodes) (b : List ℕ) → SpellsItems l kind n xs b → Rows xs
    items_valued l kind n xs b (no_items _ _ _ e) t at a h s = tt
    items_valued l kind n xs b (item _ _ m x ys _ u v first rest e) t at a h s =
        let fine = none_of (faults x t at) (faults_in ys t (at + size x)) h in
        let p = parts (1 + cells (kinds_of t) (meaning x t)) (cells_each (kinds_of t) (row (meanings ys t))) s in
        let own = parts 1 (cells (kinds_of t) (meaning x t)) p.0 in
        (valued l kind x u first t at a fine.0 own.1, items_valued l kind m ys v rest t (at + size x) a fine.1 p.1)

    pairs_valued : (l : ℕ) (p q : Kind) (n : ℕ) (xs : Pairs) (b : List ℕ) → SpellsPairs l p q n xs b → PairRows xs
    pairs_valued l p q n xs b (no_pair _ _ _ _ e) t u at a f h s = (tt, tt)
    pairs_valued l p q n xs b (one_pair _ _ _ m x y ys _ c v w first second rest e) t u at a f h s =
        let fine = none_of (faults x t at) (faults y u (at + size x) ++ faults_in_pairs ys t u (at + size x + size y)) h in
        let more_fine = none_of (faults y u (at + size x)) (faults_in_pairs ys t u (at + size x + size y)) fine.1 in
        let few = parts (1 + (cells (kinds_of t) (meaning x t) + (cells (kinds_of u) (meaning y u) + 0))) (cells_each (pair_kinds t u) (row (meanings_of_pairs ys t u))) s in
        let both = (parts 1 (cells (kinds_of t) (meaning x t) + (cells (kinds_of u) (meaning y u) + 0)) few.0).1 in
        let each = parts (cells (kinds_of t) (meaning x t)) (cells (kinds_of u) (meaning y u) + 0) both in
        let key = valued l p x c first t at a fine.0 each.0 in
        let value_of = valued l q y v second u (at + size x) f more_fine.0 (parts (cells (kinds_of u) (meaning y u)) 0 each.1).0 in
        let behind = pairs_valued l p q m ys w rest t u (at + size x + size y) a f more_fine.1 few.1 in
        ((key, behind.0), (record_of refl (part key (part value_of no_part)), behind.1))

    reads_valued : (l : ℕ) (before : ℤ) (xs : WireFields) (b : List ℕ) → SpellsFields l before xs b → (fs : Fields) (ids : List ℤ) (n : ℕ) → AreAccepted P fs → faults_in_fields xs (field_list fs) ids n ≡ []
        → AreRead (field_list fs) (readings xs (field_list fs))
    reads_valued l before xs b (the_end _ _ _ e) fs ids n a h = tt
    reads_valued l before xs b (flag_field _ _ id c x ys _ hd v header code rest e) fs ids n a h =
        let fine = none_of (of_field (type_in (field_list fs) id) (is_among id ids) (flag x) (λ t. faults (flag x) t n) n) (faults_in_fields ys (field_list fs) (id ∷ ids) (n + 1)) h in
        one_read fs id (flag x) n (is_among id ids) (λ t ok f s. flag_valued x t (clean_own t (flag x) n f).coded) a fine.0 (readings ys (field_list fs)) (reads_valued l id ys v rest fs (id ∷ ids) (n + 1) a fine.1)
    reads_valued l before xs b (other_field _ _ id c kind x ys _ hd u v header code its rest e) fs ids n a h =
        let fine = none_of (of_field (type_in (field_list fs) id) (is_among id ids) x (λ t. faults x t n) n) (faults_in_fields ys (field_list fs) (id ∷ ids) (n + size x)) h in
        one_read fs id x n (is_among id ids) (λ t ok f s. valued l kind x u its t n ok f s) a fine.0 (readings ys (field_list fs)) (reads_valued l id ys v rest fs (id ∷ ids) (n + size x) a fine.1)

pub typed_is_value : (t : TypeTree) (w : Node) (b : List ℕ) (v : Value) → IsAccepted IsUtf8 t → HasShortTexts t → SpellsWire w b → Typed t w v → Of (kinds_of t) v
typed_is_value t w b v a short spelled typed =
    subst (Of (kinds_of t)) typed.is
    (valued IsTextDefault (λ n. Unit {0}) (λ m n s. (tt, tt)) (λ x ok s. ok) 64 k.Struct w b spelled t 0 (accepted_short t a short) typed.clean tt)

-- and where the cells are within the limit, whatever texts the type has: a written text that is longer is not in the value
pub typed_within : (t : TypeTree) (w : Node) (b : List ℕ) (v : Value) → IsAccepted IsUtf8 t → SpellsWire w b → Typed t w v → cells (kinds_of t) v ≤ cell_limit → Of (kinds_of t) v
typed_within t w b v a spelled typed le =
    subst (Of (kinds_of t)) typed.is
    (valued IsUtf8 (λ n. n ≤ 33554432) (λ m n s. (omega (arith, s), omega (arith, s))) (λ x u s. short_text x u (omega (arith, s))) 64 k.Struct w b spelled t 0 a typed.clean
    (subst (λ u. cells (kinds_of t) u ≤ 33554432) (sym typed.is) le))
