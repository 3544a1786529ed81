-- The steps of transcoding.
use Rattle.std.proofs.Common.{◌≡◌, ◌≢◌, ◌⊎◌, inl, inr, ℕ, zero, suc, ◌-◌, ◌+◌, ◌*◌, ◌<◌, ◌≤◌, Bool, true, List, [], ◌∷◌, ◌++◌, length, Option, Some, None, Result, Ok, Err, refl, sym, ap, subst, ◌∙◌, append_assoc, arith, length-append}
use Rattle.std.specs.Prelude.{ℤ, pos, ◌&&◌}
use Rattle.std.proofs.lemmas.List.{append-nil}
use Rattle.std.specs.Int.{w16}
use Rattle.exact_reading.specs.declared.stop.Stop.{Stop}
use Rattle.exact_reading.specs.declared.stop.ReadError.{ReadError}
use Rattle.exact_reading.specs.declared.stop.ReadError.TheVariants as errors
use Rattle.exact_reading.specs.Reading.{◌>>=◌, and_then, pure, one, meaning, seen, Fails}
use Rattle.exact_reading.proofs.Combinators.{meaning_ok}
use Rattle.exact_reading.proofs.Items.{bind_ok, ok_is, admitted-back}
use Rattle.compact_wire.specs.declared.kind.Kind.{Kind}
use Rattle.compact_wire.specs.declared.kind.Kind.TheVariants as k
use Rattle.compact_wire.specs.Bytes.{IsByte, AreBytes, ByteReader}
use Rattle.compact_wire.specs.Codes.{code_of}
use Rattle.compact_wire.specs.Node.{Node, Nodes, no_nodes, node, Pairs, no_pairs, pair, Fields, no_fields, field, flag, i8, i16, i32, i64, double, binary, list, set, map, structure}
use Rattle.compact_wire.specs.Number.{shortest}
use Rattle.compact_wire.specs.Canon.{canon, canon_items, canon_pairs, canon_fields, nodes_count, pairs_count, sequence_header, field_header, code_in_field}
use Rattle.compact_wire.specs.Reads.{items, pairs, fits}
use Rattle.compact_wire.specs.Writes.{canon_field}
use Rattle.wire_scan.proofs.Seen.{seen_ok, seen_err, seen_made, items_end, key_end, item_end}
use Rattle.binary_wire.specs.BinaryCodes.{binary_kind}
use Rattle.binary_wire.specs.BinaryGrammar.{code_kept, SpellsValue, flag_of}
use Rattle.binary_wire.specs.BinaryReads.{size, signed, scalar, row, mapping, field_code, field_start, start_tail, field_tail, with_field, fields, all_fields, container, value}
use Rattle.binary_wire.specs.Appends.{with_value, with_items, with_pairs, with_fields, with_field as with_one, IsRow}
use Rattle.binary_wire.proofs.ReadParts.{signed_exact}
use Rattle.binary_wire.proofs.ReadStructs.{value_layer}
use Rattle.binary_wire.proofs.AsCompact.{value_spelled, other_field_is}

-- ---- items and pairs

pub no_item : (out : List ℕ) → with_items out no_nodes ≡ out
no_item out = append-nil out

pub one_item : (out : List ℕ) (x : Node) (xs : Nodes) → with_items out (node x xs) ≡ with_items (with_value out x) xs
one_item out x xs = sym (append_assoc out (canon x) (canon_items xs))

pub no_pair : (out : List ℕ) → with_pairs out no_pairs ≡ out
no_pair out = append-nil out

pub one_pair : (out : List ℕ) (x y : Node) (xs : Pairs) → with_pairs out (pair x y xs) ≡ with_pairs (with_value (with_value out x) y) xs
one_pair out x y xs =
    sym (append_assoc (out ++ canon x) (canon y) (canon_pairs xs) ∙ append_assoc out (canon x) (canon y ++ canon_pairs xs))

pub items_fail : (v : ByteReader Node) (e : ReadError Stop) (out : List ℕ) (n i : ℕ) (b : List ℕ) (total : Result (List ℕ × List ℕ) Stop) → i < n → Fails e (seen (with_value out) (v b))
    → seen (with_items out) (items v (n - i) b) ≡ total → Fails e total
items_fail v errors.NoMemory out n i b total lt f e = tt
items_fail v (errors.Stop d) out n i b total lt f e = items_end with_value with_items no_item one_item v out d n i b total lt f e

pub key_fails : (a b : ByteReader Node) (e : ReadError Stop) (out : List ℕ) (n i : ℕ) (bytes : List ℕ) (total : Result (List ℕ × List ℕ) Stop) → i < n → Fails e (seen (with_value out) (a bytes))
    → seen (with_pairs out) (pairs a b (n - i) bytes) ≡ total → Fails e total
key_fails a b errors.NoMemory out n i bytes total lt f e = tt
key_fails a b (errors.Stop d) out n i bytes total lt f e = key_end with_value with_value with_pairs no_pair one_pair a b out d n i bytes total lt f e

pub value_fails : (a b : ByteReader Node) (e : ReadError Stop) (out mid : List ℕ) (n i : ℕ) (bytes after : List ℕ) (total : Result (List ℕ × List ℕ) Stop) → i < n
    → seen (with_value out) (a bytes) ≡ Ok (mid, after) → Fails e (seen (with_value mid) (b after))
    → seen (with_pairs out) (pairs a b (n - i) bytes) ≡ total → Fails e total
value_fails a b errors.NoMemory out mid n i bytes after total lt h f e = tt
value_fails a b (errors.Stop d) out mid n i bytes after total lt h f e = item_end with_value with_value with_pairs no_pair one_pair a b out mid d n i bytes after total lt h f e

-- ---- bytes that are read

read_fits : (levels : ℕ) (kind : Kind) (b rest : List ℕ) (x : Node) → value levels kind b ≡ Ok (x, rest) → fits levels kind ≡ true
unfolding value scalar
read_fits (suc levels) kind b rest x e = refl
read_fits zero k.List b rest x e = absurd cc
read_fits zero k.Set b rest x e = absurd cc
read_fits zero k.Map b rest x e = absurd cc
read_fits zero k.Struct b rest x e = absurd cc
read_fits zero k.Flag b rest x e = refl
read_fits zero k.I8 b rest x e = refl
read_fits zero k.I16 b rest x e = refl
read_fits zero k.I32 b rest x e = refl
read_fits zero k.I64 b rest x e = refl
read_fits zero k.Double b rest x e = refl
read_fits zero k.Binary b rest x e = refl

pub value_sound : (levels : ℕ) (kind : Kind) (b : List ℕ) (x : Node) (rest : List ℕ) → AreBytes b → value levels kind b ≡ Ok (x, rest) → (t : List ℕ) × SpellsValue levels kind x t × (b ≡ t ++ rest)
value_sound levels kind b x rest h e = ((value_layer levels).exact kind (read_fits levels kind b rest x e) (suc (length b))).sound b x rest h (omega arith) e

value_takes : (levels : ℕ) (kind : Kind) (b : List ℕ) (x : Node) (rest : List ℕ) → AreBytes b → value levels kind b ≡ Ok (x, rest) → (length rest ≤ length b) × AreBytes rest
value_takes levels kind b x rest h e =
    let s = value_sound levels kind b x rest h e in
    (omega (arith, ap length s.2, length-append s.0 rest), admitted-back IsByte s.0 rest (subst AreBytes s.2 h))

id_takes : (b rest : List ℕ) (id : ℤ) → AreBytes b → signed w16 2 b ≡ Ok (id, rest) → (length rest ≤ length b) × AreBytes rest
id_takes b rest id h e =
    let s = (signed_exact w16 2 (suc (length b))).sound b id rest h (omega arith) e in
    (omega (arith, ap length s.2, length-append s.0 rest), admitted-back IsByte s.0 rest (subst AreBytes s.2 h))

abbrev with_kind : Kind → ℤ × List ℕ → Result (Option (Kind × ℤ) × List ℕ) Stop
with_kind kind p = Ok (Some (kind, p.0), p.1)

tail_takes : (o : Option Kind) (b mid : List ℕ) (p : Kind × ℤ) → AreBytes b → start_tail o b ≡ Ok (Some p, mid) → (length mid ≤ length b) × AreBytes mid
tail_takes None b mid p h e = absurd (let g = (ok_is None (Some p) b mid e).0 in cc)
tail_takes (Some kind) b mid p h e =
    let a = bind_ok (signed w16 2 b) (with_kind kind) (Some p, mid) e in
    let same = (ok_is (Some (kind, a.0.0)) (Some p) a.0.1 mid a.2).1 in
    let t = id_takes b a.0.1 a.0.0 h a.1 in
    (omega (arith, t.0, ap length same), subst AreBytes same t.1)

start_takes : (levels : ℕ) (rest mid : List ℕ) (p : Kind × ℤ) → AreBytes rest → field_start levels rest ≡ Ok (Some p, mid) → (length mid < length rest) × AreBytes mid
unfolding field_start
start_takes levels [] mid p h e = absurd cc
start_takes levels (c ∷ rest) mid p h e =
    let a = bind_ok (meaning (field_code levels c) rest) (λ q. start_tail q.0 q.1) (Some p, mid) e in
    let m = meaning_ok IsByte (field_code levels c) rest a.0.0 a.0.1 a.1 in
    let t = tail_takes a.0.0 rest mid p h.1 (ap (start_tail a.0.0) m.1 ∙ a.2) in
    (omega (arith, t.0), t.1)

field_takes : (levels : ℕ) (rest mid after : List ℕ) (kind : Kind) (id : ℤ) (x : Node) → AreBytes rest → field_start levels rest ≡ Ok (Some (kind, id), mid) → value levels kind mid ≡ Ok (x, after)
    → (length after < length rest) × AreBytes after
field_takes levels rest mid after kind id x h e f =
    let s = start_takes levels rest mid (kind, id) h e in
    let v = value_takes levels kind mid x after s.1 f in
    (omega (arith, s.0, v.0), v.1)

three : (out : List ℕ) (header value rest : List ℕ) → out ++ (header ++ (value ++ rest)) ≡ (out ++ (header ++ value)) ++ rest
three out header value rest = ap (λ (z : List ℕ). out ++ z) (sym (append_assoc header value rest)) ∙ sym (append_assoc out (header ++ value) rest)

-- ---- fields

-- what stands behind the header of a field
abbrev pub field_rest : ℕ → ℕ → Option (Kind × ℤ) → ByteReader Fields
field_rest levels turns None = pure no_fields
field_rest levels turns (Some p) = with_field (value levels) (fields levels (value levels) turns) p.0 p.1

module _ (levels turns : ℕ) where
  with_id : (kind : Kind) (r : Result (ℤ × List ℕ) Stop)
      → (r >>= λ p. with_field (value levels) (fields levels (value levels) turns) kind p.0 p.1) ≡ ((r >>= with_kind kind) >>= λ q. field_rest levels turns q.0 q.1)
  with_id kind (Ok p) = refl
  with_id kind (Err d) = refl

  behind_code : (r : Result (Option Kind × List ℕ) Stop)
      → (r >>= λ p. field_tail (value levels) (fields levels (value levels) turns) p.0 p.1) ≡ ((r >>= λ p. start_tail p.0 p.1) >>= λ q. field_rest levels turns q.0 q.1)
  behind_code (Ok (None, rest)) = refl
  behind_code (Ok (Some kind, rest)) = with_id kind (signed w16 2 rest)
  behind_code (Err d) = refl

  -- a field's header read, and then the rest, is all
  unroll : (b : List ℕ) → fields levels (value levels) (suc turns) b ≡ (field_start levels b >>= λ q. field_rest levels turns q.0 q.1)
  unfolding fields field_start
  unroll b = behind_code (one (field_code levels) b)

one_field : (out : List ℕ) (before id : ℤ) (x : Node) (xs : Fields) → with_fields out before (field id x xs) ≡ with_fields (with_one out before id x) id xs
one_field out before id (flag b) xs = sym (append_assoc out (field_header before id (code_in_field (flag b))) (canon_fields id xs))
one_field out before id (i8 z) xs = three out (field_header before id (code_in_field (i8 z))) (canon (i8 z)) (canon_fields id xs)
one_field out before id (i16 z) xs = three out (field_header before id (code_in_field (i16 z))) (canon (i16 z)) (canon_fields id xs)
one_field out before id (i32 z) xs = three out (field_header before id (code_in_field (i32 z))) (canon (i32 z)) (canon_fields id xs)
one_field out before id (i64 z) xs = three out (field_header before id (code_in_field (i64 z))) (canon (i64 z)) (canon_fields id xs)
one_field out before id (double b) xs = three out (field_header before id (code_in_field (double b))) (canon (double b)) (canon_fields id xs)
one_field out before id (binary b) xs = three out (field_header before id (code_in_field (binary b))) (canon (binary b)) (canon_fields id xs)
one_field out before id (list c ys) xs = three out (field_header before id (code_in_field (list c ys))) (canon (list c ys)) (canon_fields id xs)
one_field out before id (set c ys) xs = three out (field_header before id (code_in_field (set c ys))) (canon (set c ys)) (canon_fields id xs)
one_field out before id (map a b ys) xs = three out (field_header before id (code_in_field (map a b ys))) (canon (map a b ys)) (canon_fields id xs)
one_field out before id (structure ys) xs = three out (field_header before id (code_in_field (structure ys))) (canon (structure ys)) (canon_fields id xs)

module _ (levels : ℕ) where
  -- what is still read, from what was appended so far, is all
  pub record Pushing (out : List ℕ) (before : ℤ) (rest : List ℕ) (total : Result (List ℕ × List ℕ) Stop) : Type 0 where
    pub turns : ℕ
    pub enough : length rest < turns
    pub bytes_left : AreBytes rest
    pub so_far : seen (with_fields out before) (fields levels (value levels) turns rest) ≡ total

  pub fields_begin : (out : List ℕ) (before : ℤ) (bytes : List ℕ) → AreBytes bytes → Pushing out before bytes (seen (with_fields out before) (all_fields levels (value levels) bytes))
  fields_begin out before bytes h = record { bytes_left = h; turns = suc (length bytes); enough = omega arith; so_far = refl }

  step_is : (out : List ℕ) (before : ℤ) (rest : List ℕ) (total : Result (List ℕ × List ℕ) Stop) (r : Pushing out before rest total)
      → total ≡ seen (with_fields out before) (field_start levels rest >>= λ q. field_rest levels (r.turns - 1) q.0 q.1)
  step_is out before rest total r =
      let t : r.turns ≡ suc (r.turns - 1) = omega (arith, r.enough) in
      sym r.so_far ∙ ap (λ (n : ℕ). seen (with_fields out before) (fields levels (value levels) n rest)) t ∙ ap (seen (with_fields out before)) (unroll levels (r.turns - 1) rest)

  started : (out : List ℕ) (before : ℤ) (rest : List ℕ) (total : Result (List ℕ × List ℕ) Stop) (r : Pushing out before rest total) (o : Result (Option (Kind × ℤ) × List ℕ) Stop) → field_start levels rest ≡ o
      → total ≡ seen (with_fields out before) (o >>= λ q. field_rest levels (r.turns - 1) q.0 q.1)
  started out before rest total r o h =
      step_is out before rest total r ∙ ap (λ (o : Result (Option (Kind × ℤ) × List ℕ) Stop). seen (with_fields out before) (o >>= λ q. field_rest levels (r.turns - 1) q.0 q.1)) h

  pub start_end : (out : List ℕ) (before : ℤ) (d : Stop) (rest : List ℕ) (total : Result (List ℕ × List ℕ) Stop) → Pushing out before rest total → field_start levels rest ≡ Err d → total ≡ Err d
  start_end out before d rest total r h = started out before rest total r (Err d) h

  pub fields_end : (out : List ℕ) (before : ℤ) (rest after : List ℕ) (total : Result (List ℕ × List ℕ) Stop) → Pushing out before rest total → field_start levels rest ≡ Ok (None, after) → total ≡ Ok (out ++ 0 ∷ [], after)
  fields_end out before rest after total r h = started out before rest total r (Ok (None, after)) h

  pub field_fails : (e : ReadError Stop) (out : List ℕ) (before id : ℤ) (kind : Kind) (rest mid : List ℕ) (total : Result (List ℕ × List ℕ) Stop) → Pushing out before rest total → field_start levels rest ≡ Ok (Some (kind, id), mid)
      → Fails e (seen (with_one out before id) (value levels kind mid)) → Fails e total
  field_fails errors.NoMemory out before id kind rest mid total r h f = tt
  field_fails (errors.Stop d) out before id kind rest mid total r h f =
      started out before rest total r (Ok (Some (kind, id), mid)) h
      ∙ ap (λ (o : Result (Node × List ℕ) Stop). seen (with_fields out before) (o >>= λ p. fields levels (value levels) (r.turns - 1) p.1 >>= λ q. Ok (field id p.0 q.0, q.1))) (seen_err (with_one out before id) (value levels kind mid) d f)

  more_fields : (out mid : List ℕ) (before id : ℤ) (x : Node) (r : Result (Fields × List ℕ) Stop) → with_one out before id x ≡ mid → seen (with_fields out before) (r >>= λ q. Ok (field id x q.0, q.1)) ≡ seen (with_fields mid id) r
  more_fields out mid before id x (Ok q) e = ap (λ (z : List ℕ). Ok (z, q.1)) (one_field out before id x q.0 ∙ ap (λ (z : List ℕ). with_fields z id q.0) e)
  more_fields out mid before id x (Err d) e = refl

  pub fields_go_on : (out new : List ℕ) (before id : ℤ) (kind : Kind) (rest mid after : List ℕ) (total : Result (List ℕ × List ℕ) Stop) → Pushing out before rest total → field_start levels rest ≡ Ok (Some (kind, id), mid)
      → seen (with_one out before id) (value levels kind mid) ≡ Ok (new, after) → (length after < length rest) × Pushing new id after total
  fields_go_on out new before id kind rest mid after total r h g =
      let x = seen_ok (with_one out before id) (value levels kind mid) new after g in
      let takes = field_takes levels rest mid after kind id x.0 r.bytes_left h x.1 in (
        takes.0,
        record {
          bytes_left = takes.1;
          turns = r.turns - 1;
          enough = omega (arith, r.enough, takes.0);
          so_far = sym (started out before rest total r (Ok (Some (kind, id), mid)) h
              ∙ ap (λ (o : Result (Node × List ℕ) Stop). seen (with_fields out before) (o >>= λ p. fields levels (value levels) (r.turns - 1) p.1 >>= λ q. Ok (field id p.0 q.0, q.1))) x.1
              ∙ more_fields out new before id x.0 (fields levels (value levels) (r.turns - 1) after) x.2);
        },
      )

-- a struct is its fields
pub struct_seen : (out : List ℕ) (r : Result (Fields × List ℕ) Stop) → seen (with_value out) (r >>= λ p. Ok (structure p.0, p.1)) ≡ seen (with_fields out (pos 0)) r
struct_seen out r = seen_made (with_value out) structure r

pub struct_fails : (e : ReadError Stop) (out : List ℕ) (r : Result (Fields × List ℕ) Stop) → Fails e (seen (with_fields out (pos 0)) r) → Fails e (seen (with_value out) (r >>= λ p. Ok (structure p.0, p.1)))
struct_fails e out r f = subst (Fails e) (sym (struct_seen out r)) f

-- ---- a field

-- a field that is no flag is its header and its value
pub other_seen : (levels : ℕ) (kind : Kind) (out : List ℕ) (before id : ℤ) (b : List ℕ) → AreBytes b → kind ≢ k.Flag
    → seen (with_one out before id) (value levels kind b) ≡ seen (with_value (out ++ field_header before id (code_of kind))) (value levels kind b)
other_seen levels kind out before id b h no_flag = by (value levels kind b) refl
  where
    by : (r : Result (Node × List ℕ) Stop) → value levels kind b ≡ r → seen (with_one out before id) r ≡ seen (with_value (out ++ field_header before id (code_of kind))) r
    by (Ok (x, rest)) e =
        let s = value_sound levels kind b x rest h e in
        let c = value_spelled levels kind x s.0 s.1 in
        ap (λ (z : List ℕ). Ok (z, rest))
        (ap (λ (z : List ℕ). out ++ z) (other_field_is levels kind x c.0 c.1 no_flag before id) ∙ sym (append_assoc out (field_header before id (code_of kind)) (canon x)))
    by (Err d) e = refl

-- ---- levels

pub value-zero : (levels : ℕ) (kind : Kind) → levels ≡ 0 → value levels kind ≡ scalar kind
unfolding value
value-zero zero kind e = refl
value-zero (suc levels) kind e = absurd (omega arith)

pub value-step : (levels : ℕ) (kind : Kind) → 0 < levels → value levels kind ≡ container (levels - 1) (value (levels - 1)) kind
unfolding value
value-step zero kind lt = absurd (omega arith)
value-step (suc levels) kind lt = let e : suc levels - 1 ≡ levels = omega arith in rw e refl

pub flag_scalar : (levels : ℕ) (kind : Kind) → kind ≡ k.Flag → value levels kind ≡ scalar k.Flag
unfolding value
flag_scalar zero kind e = ap scalar e
flag_scalar (suc levels) kind e = ap (container levels (value levels)) e

pub row_step : (levels : ℕ) (kind : Kind) (b : List ℕ) → 0 < levels → (kind ≡ k.List) ⊎ (kind ≡ k.Set)
    → (make : ℕ → Nodes → Node) × IsRow make × (value levels kind b ≡ row make (levels - 1) (value (levels - 1)) b)
row_step levels kind b lt (inl e) = (list, (λ c xs. refl), ap (λ (r : ByteReader Node). r b) (value-step levels kind lt ∙ ap (container (levels - 1) (value (levels - 1))) e))
row_step levels kind b lt (inr e) = (set, (λ c xs. refl), ap (λ (r : ByteReader Node). r b) (value-step levels kind lt ∙ ap (container (levels - 1) (value (levels - 1))) e))

-- ---- lists and sets

pub items_counted : (v : ByteReader Node) (n : ℕ) (b rest : List ℕ) (xs : Nodes) → items v n b ≡ Ok (xs, rest) → nodes_count xs ≡ n
unfolding items
items_counted v zero b rest xs e = ap nodes_count (sym (ok_is no_nodes xs b rest e).0)
items_counted v (suc n) b rest xs e =
    let a = bind_ok (v b) (λ p. and_then (items v n) (λ ys. pure (node p.0 ys)) p.1) (xs, rest) e in
    let f = bind_ok (items v n a.0.1) (λ p. pure (node a.0.0 p.0) p.1) (xs, rest) a.2 in
    let is = (ok_is (node a.0.0 f.0.0) xs f.0.1 rest f.2).0 in
    ap nodes_count (sym is) ∙ ap suc (items_counted v n a.0.1 f.0.1 f.0.0 f.1)

module _ (make : ℕ → Nodes → Node) (is_row : IsRow make) (levels : ℕ) (out bytes : List ℕ) where
  pub row_code_err : (d : Stop) → one binary_kind bytes ≡ Err d → seen (with_value out) (row make levels (value levels) bytes) ≡ Err d
  unfolding row
  row_code_err d h = rw h refl

  pub row_size_err : (kind : Kind) (mid : List ℕ) (d : Stop) → one binary_kind bytes ≡ Ok (kind, mid) → size (fits levels kind) mid ≡ Err d → seen (with_value out) (row make levels (value levels) bytes) ≡ Err d
  unfolding row
  row_size_err kind mid d h g = rw (h, g) refl

  row_read : (kind : Kind) (mid after : List ℕ) (n : ℕ) → one binary_kind bytes ≡ Ok (kind, mid) → size (fits levels kind) mid ≡ Ok (n, after)
      → row make levels (value levels) bytes ≡ (items (value levels kind) n after >>= λ p. Ok (make (code_of kind) p.0, p.1))
  unfolding row
  row_read kind mid after n h g = rw (h, g) refl

  pub row_seen : (kind : Kind) (mid after new : List ℕ) (n : ℕ) → one binary_kind bytes ≡ Ok (kind, mid) → size (fits levels kind) mid ≡ Ok (n, after)
      → new ≡ out ++ sequence_header (code_of kind) n → seen (with_value out) (row make levels (value levels) bytes) ≡ seen (with_items new) (items (value levels kind) n after)
  row_seen kind mid after new n h g e =
      ap (seen (with_value out)) (row_read kind mid after n h g) ∙ seen_made (with_value out) (make (code_of kind)) (items (value levels kind) n after) ∙ by (items (value levels kind) n after) refl
    where
      by : (r : Result (Nodes × List ℕ) Stop) → items (value levels kind) n after ≡ r → seen (λ xs. with_value out (make (code_of kind) xs)) r ≡ seen (with_items new) r
      by (Ok (xs, rest)) read =
          let count = items_counted (value levels kind) n after rest xs read in
          ap (λ (z : List ℕ). Ok (z, rest))
          (ap (λ (z : List ℕ). out ++ z) (is_row (code_of kind) xs ∙ ap (λ (m : ℕ). sequence_header (code_of kind) m ++ canon_items xs) count)
          ∙ sym (append_assoc out (sequence_header (code_of kind) n) (canon_items xs)) ∙ ap (λ (z : List ℕ). z ++ canon_items xs) (sym e))
      by (Err d) read = refl

-- ---- maps

pairs_counted : (a b : ByteReader Node) (n : ℕ) (bytes rest : List ℕ) (xs : Pairs) → pairs a b n bytes ≡ Ok (xs, rest) → pairs_count xs ≡ n
unfolding pairs
pairs_counted a b zero bytes rest xs e = ap pairs_count (sym (ok_is no_pairs xs bytes rest e).0)
pairs_counted a b (suc n) bytes rest xs e =
    let f = bind_ok (a bytes) (λ p. and_then b (λ y. and_then (pairs a b n) (λ ys. pure (pair p.0 y ys))) p.1) (xs, rest) e in
    let g = bind_ok (b f.0.1) (λ p. and_then (pairs a b n) (λ ys. pure (pair f.0.0 p.0 ys)) p.1) (xs, rest) f.2 in
    let h = bind_ok (pairs a b n g.0.1) (λ p. pure (pair f.0.0 g.0.0 p.0) p.1) (xs, rest) g.2 in
    let is = (ok_is (pair f.0.0 g.0.0 h.0.0) xs h.0.1 rest h.2).0 in
    ap pairs_count (sym is) ∙ ap suc (pairs_counted a b n g.0.1 h.0.1 h.0.0 h.1)

canon_map : (a b : ℕ) (xs : Pairs) (n : ℕ) → pairs_count xs ≡ suc n → canon (map a b xs) ≡ shortest (suc n) ++ (16 * a + b) ∷ canon_pairs xs
canon_map a b no_pairs n e = absurd (omega arith)
canon_map a b (pair x y xs) n e = ap (λ (m : ℕ). shortest m ++ (16 * a + b) ∷ canon_pairs (pair x y xs)) e

module _ (levels : ℕ) (out bytes : List ℕ) where
  pub map_key_err : (d : Stop) → one binary_kind bytes ≡ Err d → seen (with_value out) (mapping levels (value levels) bytes) ≡ Err d
  unfolding mapping
  map_key_err d h = rw h refl

  module _ (a : Kind) (b1 : List ℕ) (key_is : one binary_kind bytes ≡ Ok (a, b1)) where
    pub map_value_err : (d : Stop) → one binary_kind b1 ≡ Err d → seen (with_value out) (mapping levels (value levels) bytes) ≡ Err d
    unfolding mapping
    map_value_err d h = rw (key_is, h) refl

    module _ (b : Kind) (b2 : List ℕ) (value_is : one binary_kind b1 ≡ Ok (b, b2)) where
      pub map_size_err : (d : Stop) → size (fits levels a && fits levels b) b2 ≡ Err d → seen (with_value out) (mapping levels (value levels) bytes) ≡ Err d
      unfolding mapping
      map_size_err d h = rw (key_is, value_is, h) refl

      map_read : (n : ℕ) (after : List ℕ) → size (fits levels a && fits levels b) b2 ≡ Ok (n, after)
          → mapping levels (value levels) bytes ≡ (pairs (value levels a) (value levels b) n after >>= λ p. Ok (map (code_kept n a) (code_kept n b) p.0, p.1))
      unfolding mapping
      map_read n after h = rw (key_is, value_is, h) refl

      pub map_none : (n : ℕ) (after : List ℕ) → size (fits levels a && fits levels b) b2 ≡ Ok (n, after) → n ≡ 0 → seen (with_value out) (mapping levels (value levels) bytes) ≡ Ok (out ++ 0 ∷ [], after)
      unfolding pairs
      map_none zero after h z = ap (seen (with_value out)) (map_read 0 after h)
      map_none (suc n) after h z = absurd (omega arith)

      pub map_pairs : (n : ℕ) (after mid new : List ℕ) → size (fits levels a && fits levels b) b2 ≡ Ok (n, after) → n ≢ 0 → mid ≡ out ++ shortest n → new ≡ mid ++ (16 * code_of a + code_of b) ∷ []
          → seen (with_value out) (mapping levels (value levels) bytes) ≡ seen (with_pairs new) (pairs (value levels a) (value levels b) n after)
      map_pairs zero after mid new h some e f = absurd (some refl)
      map_pairs (suc n) after mid new h some e f =
          ap (seen (with_value out)) (map_read (suc n) after h)
          ∙ seen_made (with_value out) (map (code_of a) (code_of b)) (pairs (value levels a) (value levels b) (suc n) after)
          ∙ by (pairs (value levels a) (value levels b) (suc n) after) refl
        where
          codes : List ℕ
          codes = (16 * code_of a + code_of b) ∷ []

          by : (r : Result (Pairs × List ℕ) Stop) → pairs (value levels a) (value levels b) (suc n) after ≡ r → seen (λ xs. with_value out (map (code_of a) (code_of b) xs)) r ≡ seen (with_pairs new) r
          by (Ok (xs, rest)) read =
              let count = pairs_counted (value levels a) (value levels b) (suc n) after rest xs read in
              ap (λ (z : List ℕ). Ok (z, rest))
              (ap (λ (z : List ℕ). out ++ z) (canon_map (code_of a) (code_of b) xs n count)
              ∙ sym (ap (λ (z : List ℕ). z ++ canon_pairs xs) f ∙ append_assoc mid codes (canon_pairs xs) ∙ ap (λ (z : List ℕ). z ++ (codes ++ canon_pairs xs)) e ∙ append_assoc out (shortest (suc n)) (codes ++ canon_pairs xs)))
          by (Err d) read = refl

-- ---- flags

module _ (levels : ℕ) (kind : Kind) (is_flag : kind ≡ k.Flag) (out : List ℕ) (before id : ℤ) (b : List ℕ) where
  pub flag_err : (d : Stop) → one flag_of b ≡ Err d → seen (with_one out before id) (value levels kind b) ≡ Err d
  unfolding scalar
  flag_err d h = ap (λ (r : ByteReader Node). seen (with_one out before id) (r b)) (flag_scalar levels kind is_flag) ∙ rw h refl

  pub flag_ok : (x : Bool) (rest new : List ℕ) → one flag_of b ≡ Ok (x, rest) → new ≡ out ++ canon_field before id (flag x) → seen (with_one out before id) (value levels kind b) ≡ Ok (new, rest)
  unfolding scalar
  flag_ok x rest new h e =
      ap (λ (r : ByteReader Node). seen (with_one out before id) (r b)) (flag_scalar levels kind is_flag) ∙ rw h (ap (λ (z : List ℕ). Ok (z, rest)) (sym e))

container_scalar : (levels : ℕ) (v : Kind → ByteReader Node) (kind : Kind) → fits 0 kind ≡ true → container levels v kind ≡ scalar kind
container_scalar levels v k.Flag h = refl
container_scalar levels v k.I8 h = refl
container_scalar levels v k.I16 h = refl
container_scalar levels v k.I32 h = refl
container_scalar levels v k.I64 h = refl
container_scalar levels v k.Double h = refl
container_scalar levels v k.Binary h = refl
container_scalar levels v k.List h = absurd cc
container_scalar levels v k.Set h = absurd cc
container_scalar levels v k.Map h = absurd cc
container_scalar levels v k.Struct h = absurd cc

pub value-scalar : (levels : ℕ) (kind : Kind) → fits 0 kind ≡ true → value levels kind ≡ scalar kind
unfolding value
value-scalar zero kind h = refl
value-scalar (suc levels) kind h = container_scalar levels (value levels) kind h
