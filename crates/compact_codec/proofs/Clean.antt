-- What is read without faults: leaves, items and pairs.
use Rattle.std.proofs.Common.{◌≡◌, ◌≢◌, ℕ, zero, suc, ◌+◌, ◌*◌, List, [], ◌∷◌, ◌++◌, length, map, Bool, true, false, cond, Result, Ok, Err, refl, sym, ap, subst, ◌∙◌, arith}
use Rattle.std.specs.Str.{is_utf8}
use Rattle.std.specs.List.{AllByRecursion, AllPairs}
use Rattle.std.proofs.lemmas.Str.{IsUtf8-from_is_utf8}
use Rattle.exact_reading.specs.declared.stop.Stop.{Stop}
use Rattle.exact_reading.specs.Reading.{and_then, pure, seen}
use Rattle.exact_reading.proofs.Items.{ok_is, bind_ok}
use Rattle.frozen_model.specs.Values.{Value, Truth, Number, One, Bytes, key_of}
use Rattle.compact_wire.specs.declared.kind.Kind.{Kind}
use Rattle.compact_wire.specs.declared.kind.Kind.TheVariants as k
use Rattle.compact_wire.specs.Bytes.{ByteReader}
use Rattle.compact_wire.specs.Codes.{code_of}
use Rattle.compact_wire.specs.Node.{Node, flag, i8, i16, i32, i64, double, binary, list, set, map as map_node, structure, Nodes, no_nodes, node, Pairs, no_pairs, pair}
use Rattle.compact_wire.specs.Reads.{scalar, items, pairs}
use Rattle.std.specs.Prelude.{ℤ, OnOk}
use Rattle.idl_profile.specs.Types.{TypeTree, text, kind_of, fields_of}
use Rattle.idl_parse.specs.Refs.{element_of, key_of as key_type, value_of as value_type}
use Rattle.idl_profile.specs.declared.kinds.TypeKind.TheVariants as kinds
use Rattle.type_kinds.specs.Accepted.{IsKeyType}
use Rattle.key_order.specs.Keys.{AreOneKind}
use Rattle.typed_tree.specs.Parts.{IsText, pairs as pairs_of}
use Rattle.typed_tree.specs.Spots.{pair as pair_of}
use Rattle.typed_reading.specs.declared.fault.NodeFault.TheVariants.{BadText}
use Rattle.typed_reading.specs.Codes.{code, code_of_node, parts_fit}
use Rattle.typed_reading.specs.Faults.{faults, faults_in, faults_in_pairs, faults_in_fields, repeats}
use Rattle.typed_reading.specs.Keys.{key_value, keys_in, keys_in_pairs}
use Rattle.typed_reading.specs.Marks.{IsKeyKind}
use Rattle.typed_reading.specs.Meaning.{meaning, meanings, meanings_of_pairs}
use Rattle.typed_reading.proofs.Leaves.{IsLeafOf, scalar_leaf, is_text}
use Rattle.typed_reading.proofs.Steps.{codes_same}
use Rattle.typed_reading.proofs.Valued.{HasCode, flag_is, i8_is, i16_is, i32_is, enum_is, i64_is, text_is, bytes_is, list_is, set_is, map_is, struct_is, none_of, Clean, clean_own, clean_below, no_double, IsKeyIn, a_flag, a_number, some_bytes, rank_of, itself, keys_are, key_meanings, keys_of_pairs, pair_keys_are, keys_of_placed, apart, one_kind}
use Rattle.wire_scan.proofs.Seen.{seen_ok}
use Rattle.wire_scan.specs.Sizes.{size}
use Rattle.compact_codec.specs.Building.{IsClean, AreClean, ArePairsClean, by_turns}

-- ---- what holds at each answer

pub on_all : {X E : Type 0} (r : Result X E) (P : Type 0) → P → OnOk r P
on_all (Ok x) P p = p
on_all (Err e) P p = tt

-- ---- something is read

pub clean_ok : (t : TypeTree) (r : Result (Node × List ℕ) Stop) → IsClean t r → (w : Node) × (rest : List ℕ) × (r ≡ Ok (w, rest)) × (at : ℕ) × (faults w t at ≡ [])
clean_ok t (Ok p) h = (p.0, p.1, refl, h.0, h.1)
clean_ok t (Err e) h = absurd h

pub clean_not : (t : TypeTree) (r : Result (Node × List ℕ) Stop) (e : Stop) → IsClean t r → r ≡ Err e → ⊥
clean_not t r e h q = subst (IsClean t) q h

pub clean_code : (t : TypeTree) (w : Node) → Clean t w → code_of_node w ≡ code t
clean_code t w c = codes_same (code_of_node w) (code t) (parts_fit t w) c.met

-- ---- leaves

pub clean_kind : (t : TypeTree) (kind : Kind) (b : List ℕ) → IsClean t (scalar kind b) → IsKeyKind kind
unfolding scalar
clean_kind t k.Flag b h = tt
clean_kind t k.I8 b h = tt
clean_kind t k.I16 b h = tt
clean_kind t k.I32 b h = tt
clean_kind t k.I64 b h = tt
clean_kind t k.Binary b h = tt
clean_kind t k.Double b h = let c = clean_ok t (scalar k.Double b) h in absurd (no_double_read c.0 (scalar_leaf k.Double b c.0 c.1 c.2) c.3 c.4)
  where
    no_double_read : (w : Node) → IsLeafOf k.Double w → (at : ℕ) → faults w t at ≡ [] → ⊥
    no_double_read (double x) l at f = no_double t (clean_own t (double x) at f).coded
    no_double_read (flag x) l at f = absurd (omega (arith, l.0))
    no_double_read (i8 x) l at f = absurd (omega (arith, l.0))
    no_double_read (i16 x) l at f = absurd (omega (arith, l.0))
    no_double_read (i32 x) l at f = absurd (omega (arith, l.0))
    no_double_read (i64 x) l at f = absurd (omega (arith, l.0))
    no_double_read (binary x) l at f = absurd (omega (arith, l.0))
    no_double_read (list c xs) l at f = absurd l.1
    no_double_read (set c xs) l at f = absurd l.1
    no_double_read (map_node c d xs) l at f = absurd l.1
    no_double_read (structure xs) l at f = absurd l.1
clean_kind t k.List b h = absurd h
clean_kind t k.Set b h = absurd h
clean_kind t k.Map b h = absurd h
clean_kind t k.Struct b h = absurd h

pub not_double : (kind : Kind) → IsKeyKind kind → code_of kind ≢ 7
not_double k.Flag h e = omega arith
not_double k.I8 h e = omega arith
not_double k.I16 h e = omega arith
not_double k.I32 h e = omega arith
not_double k.I64 h e = omega arith
not_double k.Binary h e = omega arith
not_double k.Double h e = h
not_double k.List h e = h
not_double k.Set h e = h
not_double k.Map h e = h
not_double k.Struct h e = h

-- what is read as a key is read as a value
pub key_is : (kind : Kind) (w : Node) (t : TypeTree) → IsKeyKind kind → IsLeafOf kind w → key_value w ≡ meaning w t
key_is kind (flag x) t h l = refl
key_is kind (i8 x) t h l = refl
key_is kind (i16 x) t h l = refl
key_is kind (i32 x) t h l = refl
key_is kind (i64 x) t h l = refl
key_is kind (binary x) t h l = refl
key_is kind (double x) t h l = absurd (not_double kind h (sym l.0))
key_is kind (list c xs) t h l = absurd l.1
key_is kind (set c xs) t h l = absurd l.1
key_is kind (map_node c d xs) t h l = absurd l.1
key_is kind (structure xs) t h l = absurd l.1

-- a key read, and put
pub leaf_built : (t : TypeTree) (kind : Kind) (b rest : List ℕ) (v : Value) (vs us : List Value) → IsKeyKind kind → seen key_value (scalar kind b) ≡ Ok (v, rest) → us ≡ vs ++ v ∷ []
    → seen (λ (w : Node). vs ++ meaning w t ∷ []) (scalar kind b) ≡ Ok (us, rest)
leaf_built t kind b rest v vs us h e p =
    let x = seen_ok key_value (scalar kind b) v rest e in
    let is : meaning x.0 t ≡ v = sym (key_is kind x.0 t h (scalar_leaf kind b x.0 rest x.1)) ∙ x.2 in
    ap (seen (λ (w : Node). vs ++ meaning w t ∷ [])) x.1 ∙ ap (λ (u : Value). Ok (vs ++ u ∷ [], rest)) is ∙ ap (λ (zs : List Value). Ok (zs, rest)) (sym p)

spelled : (b : Bool) → cond b [] (BadText ∷ []) ≡ [] → b ≡ true
spelled true e = refl
spelled false e = absurd cc

text_in : (kind : Kind) (w : Node) (at : ℕ) → IsLeafOf kind w → faults w text at ≡ [] → IsText (key_value w)
text_in kind (binary x) at l f = IsUtf8-from_is_utf8 x (spelled (is_utf8 x) (clean_own text (binary x) at f).whole)
text_in kind (flag x) at l f = absurd (let e = clean_code text (flag x) (clean_own text (flag x) at f) in omega (arith, e))
text_in kind (i8 x) at l f = absurd (let e = clean_code text (i8 x) (clean_own text (i8 x) at f) in omega (arith, e))
text_in kind (i16 x) at l f = absurd (let e = clean_code text (i16 x) (clean_own text (i16 x) at f) in omega (arith, e))
text_in kind (i32 x) at l f = absurd (let e = clean_code text (i32 x) (clean_own text (i32 x) at f) in omega (arith, e))
text_in kind (i64 x) at l f = absurd (let e = clean_code text (i64 x) (clean_own text (i64 x) at f) in omega (arith, e))
text_in kind (double x) at l f = absurd (let e = clean_code text (double x) (clean_own text (double x) at f) in omega (arith, e))
text_in kind (list c xs) at l f = absurd l.1
text_in kind (set c xs) at l f = absurd l.1
text_in kind (map_node c d xs) at l f = absurd l.1
text_in kind (structure xs) at l f = absurd l.1

-- bytes of a text's type are UTF-8
pub text_read : (t : TypeTree) (kind : Kind) (b rest : List ℕ) (v : Value) → IsClean t (scalar kind b) → seen key_value (scalar kind b) ≡ Ok (v, rest) → kind_of t ≡ kinds.Text → IsText v
text_read t kind b rest v clean e is =
    let x = seen_ok key_value (scalar kind b) v rest e in
    let c = subst (IsClean t) x.1 clean in
    subst IsText x.2 (text_in kind x.0 c.0 (scalar_leaf kind b x.0 rest x.1) (subst (λ (u : TypeTree). faults x.0 u c.0 ≡ []) (is_text t is) c.1))

-- ---- items

module _ (t : TypeTree) (v : ByteReader Node) where
  -- the first of them, and the others
  pub first_clean : (n : ℕ) (b : List ℕ) → AreClean t (items v (suc n) b) → IsClean t (v b)
  unfolding items
  first_clean n b h = by (v b) h
    where
      by : (r : Result (Node × List ℕ) Stop) → AreClean t (and_then (λ c. r) (λ x. and_then (items v n) (λ xs. pure (node x xs))) b) → IsClean t r
      by (Ok p) g = rest (items v n p.1) g
        where
          rest : (r : Result (Nodes × List ℕ) Stop) → AreClean t (and_then (λ c. r) (λ xs. pure (node p.0 xs)) b) → IsClean t (Ok p)
          rest (Ok q) g = (g.0, (none_of (faults p.0 t g.0) (faults_in q.0 t (g.0 + size p.0)) g.1).0)
          rest (Err e) g = absurd g
      by (Err e) g = absurd g

  pub others_clean : (n : ℕ) (b after : List ℕ) (x : Node) → AreClean t (items v (suc n) b) → v b ≡ Ok (x, after) → AreClean t (items v n after)
  unfolding items
  others_clean n b after x h e = rest (items v n after) (subst (λ (r : Result (Node × List ℕ) Stop). AreClean t (and_then (λ c. r) (λ y. and_then (items v n) (λ xs. pure (node y xs))) b)) e h)
    where
      rest : (r : Result (Nodes × List ℕ) Stop) → AreClean t (and_then (λ c. r) (λ xs. pure (node x xs)) after) → AreClean t r
      rest (Ok q) g = (g.0 + size x, (none_of (faults x t g.0) (faults_in q.0 t (g.0 + size x)) g.1).1)
      rest (Err e) g = absurd g

pub items_count : (t : TypeTree) (v : ByteReader Node) (n : ℕ) (b rest : List ℕ) (xs : Nodes) → items v n b ≡ Ok (xs, rest) → length (meanings xs t) ≡ n
unfolding items
items_count t v zero b rest xs e = ap (λ (ys : Nodes). length (meanings ys t)) (sym (ok_is no_nodes xs b rest e).0)
items_count t v (suc n) b rest xs e =
    let a = bind_ok (v b) (λ p. and_then (items v n) (λ ys. pure (node p.0 ys)) p.1) (xs, rest) e in
    let f = bind_ok (items v n a.0.1) (λ p. pure (node a.0.0 p.0) p.1) (xs, rest) a.2 in
    let is = (ok_is (node a.0.0 f.0.0) xs f.0.1 rest f.2).0 in
    ap (λ (ys : Nodes). length (meanings ys t)) (sym is) ∙ ap suc (items_count t v n a.0.1 f.0.1 f.0.0 f.1)

-- ---- keys

flag_in : (x : Bool) (t : TypeTree) → HasCode 1 t → IsKeyIn (rank_of t) (One (Truth x))
flag_in x t flag_is = a_flag x

i8_in : (z : ℤ) (t : TypeTree) → HasCode 3 t → IsKeyIn (rank_of t) (One (Number z))
i8_in z t i8_is = a_number z

i16_in : (z : ℤ) (t : TypeTree) → HasCode 4 t → IsKeyIn (rank_of t) (One (Number z))
i16_in z t i16_is = a_number z

i32_in : (z : ℤ) (t : TypeTree) → HasCode 5 t → IsKeyIn (rank_of t) (One (Number z))
i32_in z t i32_is = a_number z
i32_in z t (enum_is n ms) = a_number z

i64_in : (z : ℤ) (t : TypeTree) → HasCode 6 t → IsKeyIn (rank_of t) (One (Number z))
i64_in z t i64_is = a_number z

bytes_in : (x : List ℕ) (t : TypeTree) → HasCode 8 t → IsKeyIn (rank_of t) (Bytes x)
bytes_in x t text_is = some_bytes x
bytes_in x t bytes_is = some_bytes x

list_not : (t : TypeTree) → HasCode 9 t → IsKeyType t → ⊥
list_not t (list_is x) h = h

set_not : (t : TypeTree) → HasCode 10 t → IsKeyType t → ⊥
set_not t (set_is x) h = h

map_not : (t : TypeTree) → HasCode 11 t → IsKeyType t → ⊥
map_not t (map_is x y) h = h

struct_not : (t : TypeTree) → HasCode 12 t → IsKeyType t → ⊥
struct_not t (struct_is n fs) h = h

-- a node of a key's type without a fault is a key
key_clean : (w : Node) (t : TypeTree) (at : ℕ) → IsKeyType t → faults w t at ≡ [] → IsKeyIn (rank_of t) (meaning w t)
key_clean (flag x) t at h f = flag_in x t (clean_own t (flag x) at f).coded
key_clean (i8 z) t at h f = i8_in z t (clean_own t (i8 z) at f).coded
key_clean (i16 z) t at h f = i16_in z t (clean_own t (i16 z) at f).coded
key_clean (i32 z) t at h f = i32_in z t (clean_own t (i32 z) at f).coded
key_clean (i64 z) t at h f = i64_in z t (clean_own t (i64 z) at f).coded
key_clean (double x) t at h f = absurd (no_double t (clean_own t (double x) at f).coded)
key_clean (binary x) t at h f = bytes_in x t (clean_own t (binary x) at f).coded
key_clean (list c xs) t at h f = absurd (list_not t (clean_below t (list c xs) at (faults_in xs (element_of t) (suc at)) f).0.coded h)
key_clean (set c xs) t at h f = absurd (set_not t (clean_below t (set c xs) at (faults_in xs (element_of t) (suc at) ++ repeats (keys_in xs (suc at)) []) f).0.coded h)
key_clean (map_node c d xs) t at h f =
    absurd (map_not t (clean_below t (map_node c d xs) at (faults_in_pairs xs (key_type t) (value_type t) (suc at) ++ repeats (keys_in_pairs xs (suc at)) []) f).0.coded h)
key_clean (structure xs) t at h f = absurd (struct_not t (clean_below t (structure xs) at (faults_in_fields xs (fields_of t) [] (suc at)) f).0.coded h)

keys_clean : (xs : Nodes) (t : TypeTree) (at : ℕ) → IsKeyType t → faults_in xs t at ≡ [] → AllByRecursion (IsKeyIn (rank_of t)) (meanings xs t)
keys_clean no_nodes t at h f = tt
keys_clean (node x xs) t at h f =
    let parts = none_of (faults x t at) (faults_in xs t (at + size x)) f in
    (key_clean x t at h parts.0, keys_clean xs t (at + size x) h parts.1)

itself_all : (r : ℕ) (us : List Value) → AllByRecursion (IsKeyIn r) us → map key_of us ≡ us
itself_all r [] k = refl
itself_all r (u ∷ us) k = ap (λ v. v ∷ map key_of us) (itself r u k.0) ∙ ap (λ ws. u ∷ ws) (itself_all r us k.1)

-- the items of a set are keys of one kind that differ
pub set_keys : (xs : Nodes) (t : TypeTree) (at : ℕ) → IsKeyType t → faults_in xs t at ≡ [] → repeats (keys_in xs at) [] ≡ [] → AreOneKind (meanings xs t) × AllPairs (λ a b. a ≢ b) (meanings xs t)
set_keys xs t at h f none =
    let r = rank_of t in
    let keys = keys_clean xs t at h f in
    let same : meanings xs t ≡ keys_of_placed (keys_in xs at) = sym (itself_all r (meanings xs t) keys) ∙ keys_are xs t r at keys in
    (one_kind r (meanings xs t) keys, subst (AllPairs (λ a b. a ≢ b)) (sym same) (apart r (keys_in xs at) [] (subst (AllByRecursion (IsKeyIn r)) same keys) none))

pair_keys_clean : (xs : Pairs) (t u : TypeTree) (at : ℕ) → IsKeyType t → faults_in_pairs xs t u at ≡ [] → AllByRecursion (IsKeyIn (rank_of t)) (key_meanings xs t)
pair_keys_clean no_pairs t u at h f = tt
pair_keys_clean (pair x y xs) t u at h f =
    let parts = none_of (faults x t at) (faults y u (at + size x) ++ faults_in_pairs xs t u (at + size x + size y)) f in
    let more = none_of (faults y u (at + size x)) (faults_in_pairs xs t u (at + size x + size y)) parts.1 in
    (key_clean x t at h parts.0, pair_keys_clean xs t u (at + size x + size y) h more.1)

-- and so are the keys of a map
pub map_keys : (xs : Pairs) (t u : TypeTree) (at : ℕ) → IsKeyType t → faults_in_pairs xs t u at ≡ [] → repeats (keys_in_pairs xs at) [] ≡ []
    → AreOneKind (map key_of (meanings_of_pairs xs t u)) × AllPairs (λ a b. a ≢ b) (map key_of (meanings_of_pairs xs t u))
map_keys xs t u at h f none =
    let r = rank_of t in
    let keys = pair_keys_clean xs t u at h f in
    let same : map key_of (meanings_of_pairs xs t u) ≡ keys_of_placed (keys_in_pairs xs at) = keys_of_pairs xs t u ∙ pair_keys_are xs t r at keys in
    let placed = subst (AllByRecursion (IsKeyIn r)) (pair_keys_are xs t r at keys) keys in
    (subst AreOneKind (sym same) (one_kind r (keys_of_placed (keys_in_pairs xs at)) placed), subst (AllPairs (λ a b. a ≢ b)) (sym same) (apart r (keys_in_pairs xs at) [] placed none))

-- ---- pairs

module _ (t u : TypeTree) (a v : ByteReader Node) where
  pub key_first : (n : ℕ) (b : List ℕ) → ArePairsClean t u (pairs a v (suc n) b) → IsClean t (a b)
  unfolding pairs
  key_first n b h = by (a b) h
    where
      by : (r : Result (Node × List ℕ) Stop) → ArePairsClean t u (and_then (λ c. r) (λ x. and_then v (λ y. and_then (pairs a v n) (λ xs. pure (pair x y xs)))) b) → IsClean t r
      by (Ok p) g = value_of (v p.1) g
        where
          value_of : (r : Result (Node × List ℕ) Stop) → ArePairsClean t u (and_then (λ c. r) (λ y. and_then (pairs a v n) (λ xs. pure (pair p.0 y xs))) b) → IsClean t (Ok p)
          value_of (Ok o) g = rest (pairs a v n o.1) g
            where
              rest : (r : Result (Pairs × List ℕ) Stop) → ArePairsClean t u (and_then (λ c. r) (λ xs. pure (pair p.0 o.0 xs)) b) → IsClean t (Ok p)
              rest (Ok q) g = (g.0, (none_of (faults p.0 t g.0) (faults o.0 u (g.0 + size p.0) ++ faults_in_pairs q.0 t u (g.0 + size p.0 + size o.0)) g.1).0)
              rest (Err e) g = absurd g
          value_of (Err e) g = absurd g
      by (Err e) g = absurd g

  pub value_second : (n : ℕ) (b mid : List ℕ) (x : Node) → ArePairsClean t u (pairs a v (suc n) b) → a b ≡ Ok (x, mid) → IsClean u (v mid)
  unfolding pairs
  value_second n b mid x h e = by (v mid) (subst (λ (r : Result (Node × List ℕ) Stop). ArePairsClean t u (and_then (λ c. r) (λ x. and_then v (λ y. and_then (pairs a v n) (λ xs. pure (pair x y xs)))) b)) e h)
    where
      by : (r : Result (Node × List ℕ) Stop) → ArePairsClean t u (and_then (λ c. r) (λ y. and_then (pairs a v n) (λ xs. pure (pair x y xs))) mid) → IsClean u r
      by (Ok o) g = rest (pairs a v n o.1) g
        where
          rest : (r : Result (Pairs × List ℕ) Stop) → ArePairsClean t u (and_then (λ c. r) (λ xs. pure (pair x o.0 xs)) mid) → IsClean u (Ok o)
          rest (Ok q) g =
              let p = none_of (faults x t g.0) (faults o.0 u (g.0 + size x) ++ faults_in_pairs q.0 t u (g.0 + size x + size o.0)) g.1 in
              (g.0 + size x, (none_of (faults o.0 u (g.0 + size x)) (faults_in_pairs q.0 t u (g.0 + size x + size o.0)) p.1).0)
          rest (Err e) g = absurd g
      by (Err e) g = absurd g

  pub others_of_pairs : (n : ℕ) (b mid after : List ℕ) (x y : Node) → ArePairsClean t u (pairs a v (suc n) b) → a b ≡ Ok (x, mid) → v mid ≡ Ok (y, after) → ArePairsClean t u (pairs a v n after)
  unfolding pairs
  others_of_pairs n b mid after x y h e f =
      let g = subst (λ (r : Result (Node × List ℕ) Stop). ArePairsClean t u (and_then (λ c. r) (λ x. and_then v (λ y. and_then (pairs a v n) (λ xs. pure (pair x y xs)))) b)) e h in
      rest (pairs a v n after) (subst (λ (r : Result (Node × List ℕ) Stop). ArePairsClean t u (and_then (λ c. r) (λ y. and_then (pairs a v n) (λ xs. pure (pair x y xs))) mid)) f g)
    where
      rest : (r : Result (Pairs × List ℕ) Stop) → ArePairsClean t u (and_then (λ c. r) (λ xs. pure (pair x y xs)) after) → ArePairsClean t u r
      rest (Ok q) g =
          let p = none_of (faults x t g.0) (faults y u (g.0 + size x) ++ faults_in_pairs q.0 t u (g.0 + size x + size y)) g.1 in
          (g.0 + size x + size y, (none_of (faults y u (g.0 + size x)) (faults_in_pairs q.0 t u (g.0 + size x + size y)) p.1).1)
      rest (Err e) g = absurd g

pub pairs_count : (t u : TypeTree) (a v : ByteReader Node) (n : ℕ) (b rest : List ℕ) (xs : Pairs) → pairs a v n b ≡ Ok (xs, rest) → length (by_turns xs t u) ≡ 2 * n
unfolding pairs
pairs_count t u a v zero b rest xs e = ap (λ (ys : Pairs). length (by_turns ys t u)) (sym (ok_is no_pairs xs b rest e).0)
pairs_count t u a v (suc n) b rest xs e =
    let x = bind_ok (a b) (λ p. and_then v (λ y. and_then (pairs a v n) (λ ys. pure (pair p.0 y ys))) p.1) (xs, rest) e in
    let y = bind_ok (v x.0.1) (λ p. and_then (pairs a v n) (λ ys. pure (pair x.0.0 p.0 ys)) p.1) (xs, rest) x.2 in
    let z = bind_ok (pairs a v n y.0.1) (λ p. pure (pair x.0.0 y.0.0 p.0) p.1) (xs, rest) y.2 in
    let is = (ok_is (pair x.0.0 y.0.0 z.0.0) xs z.0.1 rest z.2).0 in
    let more = pairs_count t u a v n y.0.1 z.0.1 z.0.0 z.1 in
    omega (arith, ap (λ (ys : Pairs). length (by_turns ys t u)) (sym is), more)

-- keys and values by turns are the pairs
pub turns_are : (xs : Pairs) (t u : TypeTree) → pairs_of (by_turns xs t u) ≡ meanings_of_pairs xs t u
turns_are no_pairs t u = refl
turns_are (pair x y xs) t u = ap (λ (ps : List Value). pair_of (meaning x t) (meaning y u) ∷ ps) (turns_are xs t u)
