-- What is counted behind parts, one after the other.
use Rattle.std.proofs.Common.{◌≡◌, ◌≢◌, ℕ, ◌+◌, nat_eq, List, [], ◌∷◌, length, Bool, true, false, cond, Option, Some, None, Result, Ok, Err, refl, sym, ap, ◌∙◌, arith}
use Rattle.std.specs.Prelude.{ℤ, find}
use Rattle.std.proofs.lemmas.Bool.Decides.{nat_tests}
use Rattle.exact_reading.specs.declared.stop.Stop.{Stop}
use Rattle.exact_reading.specs.Reading.{◌>>=◌, pure, one, taken, seen, left}
use Rattle.compact_wire.specs.declared.kind.Kind.{Kind}
use Rattle.compact_wire.specs.declared.kind.Kind.TheVariants as k
use Rattle.compact_wire.specs.declared.header.ListHeader.{ListHeader}
use Rattle.compact_wire.specs.declared.header.PairKinds.{PairKinds}
use Rattle.compact_wire.specs.Node.{Node, flag, i8, i16, i32, i64, double, binary, list, set, map, structure, Nodes, no_nodes, node, Pairs, no_pairs, pair, Fields, no_fields, field}
use Rattle.compact_wire.specs.Codes.{code_of}
use Rattle.compact_wire.specs.Reads.{scalar, number, most_bytes, value, items, sequence, count, element, mapping, map_header, pairs, fits}
use Rattle.compact_wire.proofs.ReadSteps.{mapping-none, mapping-pairs}
use Rattle.wire_scan.specs.Sizes.{size}
use Rattle.wire_scan.proofs.Seen.{seen_ok, seen_same, seen_made}
use Rattle.idl_profile.specs.Types.{TypeTree, DefField, fields_of}
use Rattle.idl_parse.specs.Refs.{element_of, key_of, value_of}
use Rattle.typed_reading.specs.declared.counts.Checked.{Checked}
use Rattle.typed_reading.specs.Codes.{code, code_of_node}
use Rattle.frozen_model.specs.Values.{Value, Atom, One, Bytes}
use Rattle.compact_wire.specs.Bytes.{ByteReader}
use Rattle.compact_wire.proofs.ReadSteps.{value-scalar}
use Rattle.idl_profile.specs.Types.{text, kind_of}
use Rattle.idl_profile.specs.declared.kinds.TypeKind.TheVariants as kinds
use Rattle.typed_reading.specs.declared.fault.NodeFault.{NodeFault}
use Rattle.typed_reading.specs.declared.fault.Found.{Found}
use Rattle.typed_reading.specs.declared.progress.Progress.{Progress}
use Rattle.typed_reading.specs.Keys.{key_value}
use Rattle.typed_reading.specs.Faults.{has_id, ids_after, is_among, is_less, lesser, least, here, faults, of_field, type_in}
use Rattle.typed_reading.specs.Marks.{IsLeaf, IsLeafAs}
use Rattle.typed_reading.specs.Counts.{nothing, together, grown, a_scalar, some_bytes, a_holder, an_item, a_struct, by_need, defaults_beside, of_known, total, totals, totals_of_pairs, totals_of_fields}
use Rattle.typed_reading.specs.Counts.{counted, counted_items, counted_item, counted_pairs, Counting, counted_field, counted_fields, IsHolder}
use Rattle.typed_reading.specs.Progress.{start, with, after, key_and_after, after_field}
use Rattle.typed_reading.proofs.Sums.{grown_none, grown_more}
use Rattle.typed_reading.proofs.Leaves.{scalar_leaf, is_binary, is_text, read_binary, one_header}
use Rattle.typed_reading.proofs.Rows.{row_is}

-- ---- nodes by their codes

coded : (n : ℕ) (t : TypeTree) → n ≡ code t → nat_eq n (code t) ≡ true
coded n t e = grind (arith, nat_tests)

uncoded : (n : ℕ) (t : TypeTree) → n ≢ code t → nat_eq n (code t) ≡ false
uncoded n t ne = grind (arith, nat_tests)

other_total : (w : Node) (t : TypeTree) → code_of_node w ≢ code t → total w t ≡ nothing
other_total (flag b) t ne = let h = uncoded 1 t ne in rw h refl
other_total (i8 z) t ne = let h = uncoded 3 t ne in rw h refl
other_total (i16 z) t ne = let h = uncoded 4 t ne in rw h refl
other_total (i32 z) t ne = let h = uncoded 5 t ne in rw h refl
other_total (i64 z) t ne = let h = uncoded 6 t ne in rw h refl
other_total (double b) t ne = let h = uncoded 7 t ne in rw h refl
other_total (binary b) t ne = let h = uncoded 8 t ne in rw h refl
other_total (list c xs) t ne = let h = uncoded 9 t ne in rw h refl
other_total (set c xs) t ne = let h = uncoded 10 t ne in rw h refl
other_total (map a b xs) t ne = let h = uncoded 11 t ne in rw h refl
other_total (structure xs) t ne = let h = uncoded 12 t ne in rw h refl

scalar_total : (w : Node) (t : TypeTree) → IsLeaf w → code_of_node w ≢ 8 → code_of_node w ≡ code t → total w t ≡ a_scalar
scalar_total (flag b) t l ne e = let h = coded 1 t e in rw h refl
scalar_total (i8 z) t l ne e = let h = coded 3 t e in rw h refl
scalar_total (i16 z) t l ne e = let h = coded 4 t e in rw h refl
scalar_total (i32 z) t l ne e = let h = coded 5 t e in rw h refl
scalar_total (i64 z) t l ne e = let h = coded 6 t e in rw h refl
scalar_total (double b) t l ne e = let h = coded 7 t e in rw h refl
scalar_total (binary b) t l ne e = absurd (ne refl)
scalar_total (list c xs) t l ne e = absurd l
scalar_total (set c xs) t l ne e = absurd l
scalar_total (map a b xs) t l ne e = absurd l
scalar_total (structure xs) t l ne e = absurd l

bytes_total : (b : List ℕ) (t : TypeTree) → 8 ≡ code t → total (binary b) t ≡ some_bytes (length b)
bytes_total b t e = let h = coded 8 t e in rw h refl

pub list_holds : (t : TypeTree) → code t ≡ 9 → IsHolder t list
list_holds t e c xs = let h = coded 9 t (sym e) in rw h refl

pub set_holds : (t : TypeTree) → code t ≡ 10 → IsHolder t set
set_holds t e c xs = let h = coded 10 t (sym e) in rw h refl

map_total : (t : TypeTree) (a b : ℕ) (xs : Pairs) → code t ≡ 11 → total (map a b xs) t ≡ together a_holder (totals_of_pairs xs (key_of t) (value_of t))
map_total t a b xs e = let h = coded 11 t (sym e) in rw h refl

struct_total : (t : TypeTree) (xs : Fields) → code t ≡ 12 → total (structure xs) t ≡ together (together a_struct (totals_of_fields xs (fields_of t))) (defaults_beside (fields_of t) (ids_after xs []))
struct_total t xs e = let h = coded 12 t (sym e) in rw h refl

-- ---- parts, one after the other

pub none_counted : (t : TypeTree) (s : Checked) → counted_items t s no_nodes ≡ s
none_counted t s = grown_none s

pub one_counted : (t : TypeTree) (s : Checked) (x : Node) (xs : Nodes) → counted_items t s (node x xs) ≡ counted_items t (counted_item t s x) xs
one_counted t s x xs =
    grown_more s (together an_item (total x t)) (totals xs t) ∙ ap (λ (p : Checked). grown p (totals xs t)) (grown_more s an_item (total x t))

pub no_pair_counted : (k v : TypeTree) (s : Checked) → counted_pairs k v s no_pairs ≡ s
no_pair_counted k v s = grown_none s

pub pair_counted : (k v : TypeTree) (s : Checked) (x y : Node) (xs : Pairs) → counted_pairs k v s (pair x y xs) ≡ counted_pairs k v (counted v (counted_item k s x) y) xs
pair_counted k v s x y xs =
    grown_more s (together (together an_item (total x k)) (total y v)) (totals_of_pairs xs k v)
    ∙ ap (λ (p : Checked). grown p (totals_of_pairs xs k v)) (grown_more s (together an_item (total x k)) (total y v) ∙ ap (λ (p : Checked). grown p (total y v)) (grown_more s an_item (total x k)))

pub no_field_counted : (fs : List DefField) (s : Counting) → counted_fields fs s no_fields ≡ s
no_field_counted fs s = ap (λ (p : Checked). (p, s.1)) (grown_none s.0)

pub field_counted : (fs : List DefField) (s : Counting) (id : ℤ) (x : Node) (xs : Fields) → counted_fields fs s (field id x xs) ≡ counted_fields fs (counted_field fs s id x) xs
field_counted fs s id x xs =
    ap (λ (p : Checked). (p, ids_after xs (id ∷ s.1))) (grown_more s.0 (of_known (find (has_id id) fs) (total x)) (totals_of_fields xs fs))

-- ---- values that are no containers

no_number : (b : List ℕ) (d : Stop) → number 4 most_bytes b ≡ Err d → scalar k.Binary b ≡ Err d
unfolding scalar
no_number b d h = rw h refl

none_taken : (b : List ℕ) (n : ℕ) (rest : List ℕ) (d : Stop) → number 4 most_bytes b ≡ Ok (n, rest) → taken n rest ≡ Err d → scalar k.Binary b ≡ Err d
unfolding scalar
none_taken b n rest d h e = rw (h, e) refl

module _ (t : TypeTree) (s : Checked) where
  pub number_fails : (kind : Kind) (b : List ℕ) (d : Stop) → kind ≡ k.Binary → number 4 most_bytes b ≡ Err d → seen (counted t s) (scalar kind b) ≡ Err d
  number_fails kind b d is h = ap (λ (z : Kind). seen (counted t s) (scalar z b)) is ∙ ap (seen (counted t s)) (no_number b d h)

  pub taken_fails : (kind : Kind) (b : List ℕ) (n : ℕ) (rest : List ℕ) (d : Stop) → kind ≡ k.Binary → number 4 most_bytes b ≡ Ok (n, rest) → taken n rest ≡ Err d → seen (counted t s) (scalar kind b) ≡ Err d
  taken_fails kind b n rest d is h e = ap (λ (z : Kind). seen (counted t s) (scalar z b)) is ∙ ap (seen (counted t s)) (none_taken b n rest d h e)

  pub bytes_counted : (kind : Kind) (b : List ℕ) (n : ℕ) (rest x more : List ℕ) → kind ≡ k.Binary → code_of kind ≡ code t → number 4 most_bytes b ≡ Ok (n, rest) → taken n rest ≡ Ok (x, more)
      → seen (counted t s) (scalar kind b) ≡ Ok (grown s (some_bytes (length x)), more)
  bytes_counted kind b n rest x more is same h e =
      ap (λ (z : Kind). seen (counted t s) (scalar z b)) is ∙ ap (seen (counted t s)) (read_binary b n rest x more h e)
      ∙ ap (λ (c : Checked). Ok (grown s c, more)) (bytes_total x t (sym (ap code_of is) ∙ same))

  pub scalar_counted : (kind : Kind) (b rest : List ℕ) → kind ≢ k.Binary → code_of kind ≡ code t → left (scalar kind b) ≡ Ok rest → seen (counted t s) (scalar kind b) ≡ Ok (grown s a_scalar, rest)
  scalar_counted kind b rest ne same e = by (scalar kind b) refl e
    where
      by : (r : Result (Node × List ℕ) Stop) → scalar kind b ≡ r → left r ≡ Ok rest → seen (counted t s) r ≡ Ok (grown s a_scalar, rest)
      by (Ok (w, more)) is h =
          let l = scalar_leaf kind b w more is in
          let z : more ≡ rest = cc in
          ap (λ (c : Checked). Ok (grown s c, more)) (scalar_total w t l.1 (λ eight. ne (is_binary kind (sym l.0 ∙ eight))) (l.0 ∙ same)) ∙ ap (λ (y : List ℕ). Ok (grown s a_scalar, y)) z
      by (Err d) is h = absurd cc

  pub flag_counted : (x : Bool) (b : List ℕ) → code t ≡ 1 → seen {E = Stop} (counted t s) (pure (flag x) b) ≡ Ok (grown s a_scalar, b)
  flag_counted x b e = ap (λ (c : Checked). Ok (grown s c, b)) (scalar_total (flag x) t tt (λ h. omega (arith, h)) (sym e))

-- a text, read as a value of a text's type
pub text_counted : (t : TypeTree) (s : Checked) (kind : Kind) (b : List ℕ) → kind_of t ≡ kinds.Text → code_of kind ≡ code t → seen (counted text s) (scalar k.Binary b) ≡ seen (counted t s) (scalar kind b)
text_counted t s kind b e c =
    let is = is_text t e in
    let bin = is_binary kind (c ∙ ap code is) in
    sym (ap (λ (u : TypeTree). seen (counted u s) (scalar kind b)) is ∙ ap (λ (z : Kind). seen (counted text s) (scalar z b)) bin)

-- ---- keys

bytes_total_key : (t : TypeTree) (b x : List ℕ) → 8 ≡ code t → Bytes b ≡ Bytes x → total (binary b) t ≡ some_bytes (length x)
bytes_total_key t b x same e = let is : b ≡ x = cc in bytes_total b t same ∙ ap (λ (z : List ℕ). some_bytes (length z)) is

pub bytes_key : (t : TypeTree) (w : Node) (x : List ℕ) → IsLeafAs t w → key_value w ≡ Bytes x → total w t ≡ some_bytes (length x)
bytes_key t (binary b) x l e = bytes_total_key t b x l.same e
bytes_key t (flag b) x l e = absurd cc
bytes_key t (i8 z) x l e = absurd cc
bytes_key t (i16 z) x l e = absurd cc
bytes_key t (i32 z) x l e = absurd cc
bytes_key t (i64 z) x l e = absurd cc
bytes_key t (double b) x l e = absurd cc
bytes_key t (list c xs) x l e = absurd l.leaf
bytes_key t (set c xs) x l e = absurd l.leaf
bytes_key t (map a b xs) x l e = absurd l.leaf
bytes_key t (structure xs) x l e = absurd l.leaf

no_bytes_key : (w : Node) (a : Atom) → key_value w ≡ One a → code_of_node w ≢ 8
no_bytes_key (binary b) a e h = absurd cc
no_bytes_key (flag b) a e h = omega (arith, h)
no_bytes_key (i8 z) a e h = omega (arith, h)
no_bytes_key (i16 z) a e h = omega (arith, h)
no_bytes_key (i32 z) a e h = omega (arith, h)
no_bytes_key (i64 z) a e h = omega (arith, h)
no_bytes_key (double b) a e h = omega (arith, h)
no_bytes_key (list c xs) a e h = omega (arith, h)
no_bytes_key (set c xs) a e h = omega (arith, h)
no_bytes_key (map c d xs) a e h = omega (arith, h)
no_bytes_key (structure xs) a e h = omega (arith, h)

pub scalar_key : (t : TypeTree) (w : Node) (a : Atom) → IsLeafAs t w → key_value w ≡ One a → total w t ≡ a_scalar
scalar_key t w a l e = scalar_total w t l.leaf (no_bytes_key w a e) l.same

pub key_counted : (t : TypeTree) (s : Checked) (kind : Kind) (b : List ℕ) (v : Value) (q : Checked) (rest : List ℕ) → code_of kind ≡ code t → seen key_value (scalar kind b) ≡ Ok (v, rest)
    → ((w : Node) → IsLeafAs t w → key_value w ≡ v → q ≡ grown s (total w t)) → seen (counted t s) (scalar kind b) ≡ Ok (q, rest)
key_counted t s kind b v q rest same e h =
    let x = seen_ok key_value (scalar kind b) v rest e in
    let l = scalar_leaf kind b x.0 rest x.1 in
    ap (seen (counted t s)) x.1 ∙ ap (λ (c : Checked). Ok (c, rest)) (sym (h x.0 (record { leaf = l.1; same = l.0 ∙ same }) x.2))

-- a key behind the count of its item, read as a value
pub key_item : (t : TypeTree) (s item q : Checked) (levels : ℕ) (kind : Kind) (b rest : List ℕ) → fits 0 kind ≡ true → item ≡ grown s an_item → seen (counted t item) (scalar kind b) ≡ Ok (q, rest)
    → seen (counted_item t s) (value levels kind b) ≡ Ok (q, rest)
key_item t s item q levels kind b rest leaf is e =
    ap (λ (read : ByteReader Node). seen (counted_item t s) (read b)) (value-scalar levels kind leaf)
    ∙ ap (λ (c : Checked). seen (counted t c) (scalar kind b)) (sym is) ∙ e

-- ---- where no fault was found

some_found : (a : Option Found) (f : Found) → lesser a (Some f) ≡ None → ⊥
some_found None f e = cc
some_found (Some g) f e = by (is_less f g) e
  where
    by : (b : Bool) → cond b (Some f) (Some g) ≡ None → ⊥
    by true h = cc
    by false h = cc

pub none_left : (a b : Option Found) → lesser a b ≡ None → a ≡ None
none_left None b e = refl
none_left (Some f) None e = absurd cc
none_left (Some f) (Some g) e = absurd (some_found (Some f) g e)

-- behind a fault there is one
pub noted : (s : Progress) (fault : NodeFault) (n : ℕ) (p : Progress) → p ≡ with s fault n → p.found ≡ None → ⊥
noted s fault n p is clean = some_found s.found (here s.next fault) (sym (ap (λ (q : Progress). q.found) is) ∙ clean)

-- what was found is there before the last part too, if it is there behind it
clean_part : {A : Type 0} (f : A → Progress) (s p : Progress) (r : Result (A × List ℕ) Stop) (rest : List ℕ) (more : A → Option Found) → ((x : A) → (f x).found ≡ lesser s.found (more x)) → seen f r ≡ Ok (p, rest) → p.found ≡ None
    → s.found ≡ None
clean_part f s p r rest more is e clean =
    let x = seen_ok f r p rest e in none_left s.found (more x.0) (sym (is x.0) ∙ ap (λ (q : Progress). q.found) x.2 ∙ clean)

pub clean_value : (t : TypeTree) (s p : Progress) (r : Result (Node × List ℕ) Stop) (rest : List ℕ) → seen (after t s) r ≡ Ok (p, rest) → p.found ≡ None → s.found ≡ None
clean_value t s p r rest e clean = clean_part (after t s) s p r rest (λ (w : Node). least (faults w t s.next)) (λ w. refl) e clean

pub clean_key : (t : TypeTree) (s p : Progress) (v : ℕ × Value) (r : Result (Node × List ℕ) Stop) (rest : List ℕ) → seen (key_and_after t s) r ≡ Ok ((p, v), rest) → p.found ≡ None → s.found ≡ None
clean_key t s p v r rest e clean =
    let x = seen_ok (key_and_after t s) r (p, v) rest e in
    none_left s.found (least (faults x.0 t s.next)) (ap (λ (q : Progress × (ℕ × Value)). q.0.found) x.2 ∙ clean)

pub clean_field : (fs : List DefField) (s p : Progress) (ids : List ℤ) (id : ℤ) (r : Result (Node × List ℕ) Stop) (rest : List ℕ) → seen (λ (w : Node). (after_field fs (s, ids) id w).0) r ≡ Ok (p, rest) → p.found ≡ None → s.found ≡ None
clean_field fs s p ids id r rest e clean =
    clean_part (λ (w : Node). (after_field fs (s, ids) id w).0) s p r rest (λ (w : Node). least (of_field (type_in fs id) (is_among id ids) w (λ t. faults w t s.next) s.next)) (λ w. refl) e clean

-- ---- lists and sets

module _ (make : ℕ → Nodes → Node) (t : TypeTree) (s : Checked) (levels : ℕ) (b : List ℕ) where
  pub row_counted : (h : ListHeader) (rest behind : List ℕ) (n : ℕ) → one_header levels b ≡ Ok (h, rest) → count levels h rest ≡ Ok (n, behind) → IsHolder t make
      → seen (counted t s) (sequence make levels (value levels) b) ≡ seen (counted_items (element_of t) (grown s a_holder)) (items (value levels (element h)) n behind)
  row_counted h rest behind n e f holds =
      let r = items (value levels (element h)) n behind in
      let c = code_of (element h) in
      ap (seen (counted t s)) (row_is make t start levels b h rest behind n e f)
      ∙ seen_made (counted t s) (make c) r
      ∙ seen_same (λ (xs : Nodes). counted t s (make c xs)) (counted_items (element_of t) (grown s a_holder)) r (λ xs. ap (grown s) (holds c xs) ∙ grown_more s a_holder (totals xs (element_of t)))

-- ---- maps

module _ (t : TypeTree) (s : Checked) (levels : ℕ) (b : List ℕ) where
  pub empty_map_counted : (n : ℕ) (rest : List ℕ) → number 4 most_bytes b ≡ Ok (n, rest) → n ≡ 0 → code t ≡ 11 → seen (counted t s) (mapping levels (value levels) b) ≡ Ok (grown s a_holder, rest)
  empty_map_counted n rest h z eleven =
      ap (seen (counted t s)) (mapping-none levels (value levels) b rest n h z)
      ∙ ap (λ (c : Checked). Ok (grown s c, rest)) (map_total t 0 0 no_pairs eleven)

  pub map_counted : (n : ℕ) (rest behind : List ℕ) (kinds : PairKinds) → number 4 most_bytes b ≡ Ok (n, rest) → n ≢ 0 → one (map_header levels) rest ≡ Ok (kinds, behind) → code t ≡ 11
      → seen (counted t s) (mapping levels (value levels) b) ≡ seen (counted_pairs (key_of t) (value_of t) (grown s a_holder)) (pairs (value levels kinds.key) (value levels kinds.value) n behind)
  map_counted n rest behind kinds h some e eleven =
      let r = pairs (value levels kinds.key) (value levels kinds.value) n behind in
      let made = map (code_of kinds.key) (code_of kinds.value) in
      ap (seen (counted t s)) (mapping-pairs levels (value levels) b rest behind n kinds h some e)
      ∙ seen_made (counted t s) made r
      ∙ seen_same (λ (xs : Pairs). counted t s (made xs)) (counted_pairs (key_of t) (value_of t) (grown s a_holder)) r
      (λ xs. ap (grown s) (map_total t (code_of kinds.key) (code_of kinds.value) xs eleven) ∙ grown_more s a_holder (totals_of_pairs xs (key_of t) (value_of t)))

-- ---- fields

module _ (fs : List DefField) (s : Checked) (ids : List ℤ) (id : ℤ) (r : Result (Node × List ℕ) Stop) where
  pub unknown_counted : (at n : ℕ) (rest : List ℕ) → find (has_id id) fs ≡ None → seen (λ (w : Node). at + size w) r ≡ Ok (n, rest) → seen (λ (w : Node). (counted_field fs (s, ids) id w).0) r ≡ Ok (s, rest)
  unknown_counted at n rest none e =
      let x = seen_ok (λ (w : Node). at + size w) r n rest e in
      ap (seen (λ (w : Node). (counted_field fs (s, ids) id w).0)) x.1
      ∙ ap (λ (c : Checked). Ok (c, rest)) (ap (λ (o : Option DefField). grown s (of_known o (total x.0))) none ∙ grown_none s)

  pub known_counted : (f : DefField) → find (has_id id) fs ≡ Some f → seen (λ (w : Node). (counted_field fs (s, ids) id w).0) r ≡ seen (counted f.type (grown s (by_need f.need))) r
  known_counted f some =
      ap (λ (o : Option DefField). seen (λ (w : Node). grown s (of_known o (total w))) r) some
      ∙ seen_same (λ (w : Node). grown s (of_known (Some f) (total w))) (counted f.type (grown s (by_need f.need))) r (λ w. grown_more s (by_need f.need) (total w f.type))

  pub field_goes_on : (q : Checked) (rest : List ℕ) → seen (λ (w : Node). (counted_field fs (s, ids) id w).0) r ≡ Ok (q, rest) → seen (counted_field fs (s, ids) id) r ≡ Ok ((q, id ∷ ids), rest)
  field_goes_on q rest e =
      let x = seen_ok (λ (w : Node). (counted_field fs (s, ids) id w).0) r q rest e in
      ap (seen (counted_field fs (s, ids) id)) x.1 ∙ ap (λ (p : Checked). Ok ((p, id ∷ ids), rest)) x.2

-- ---- structs

module _ (t : TypeTree) (s : Checked) (levels : ℕ) (r : Result (Fields × List ℕ) Stop) where
  pub struct_counted : (known : Checked) (ids : List ℤ) (rest : List ℕ) → code t ≡ 12 → seen (counted_fields (fields_of t) (grown s a_struct, [])) r ≡ Ok ((known, ids), rest)
      → seen (counted t s) (r >>= λ p. Ok (structure p.0, p.1)) ≡ Ok (grown known (defaults_beside (fields_of t) ids), rest)
  struct_counted known ids rest twelve e =
      let x = seen_ok (counted_fields (fields_of t) (grown s a_struct, [])) r (known, ids) rest e in
      let xs = x.0 in
      let fs = fields_of t in
      ap (λ (q : Result (Fields × List ℕ) Stop). seen (counted t s) (q >>= λ p. Ok (structure p.0, p.1))) x.1
      ∙ ap (λ (c : Checked). Ok (c, rest)) (
      ap (grown s) (struct_total t xs twelve)
      ∙ grown_more s (together a_struct (totals_of_fields xs fs)) (defaults_beside fs (ids_after xs []))
      ∙ ap (λ (c : Checked). grown c (defaults_beside fs (ids_after xs []))) (grown_more s a_struct (totals_of_fields xs fs))
      ∙ ap (λ (q : Counting). grown q.0 (defaults_beside fs q.1)) x.2)
