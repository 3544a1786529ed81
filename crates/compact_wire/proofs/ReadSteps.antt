-- Reading one value after the other, as the loops do.
use Rattle.std.proofs.Common.{◌≡◌, ◌≢◌, ◌⊎◌, inl, inr, ℕ, zero, suc, ◌-◌, ◌+◌, ◌%◌, ◌^◌, ◌≤◌, ◌<◌, true, List}
use Rattle.std.proofs.Common.{[], ◌∷◌, ◌++◌, length, get_or, Option, Some, None, Result, Ok, Err, refl, sym}
use Rattle.std.proofs.Common.{ap, subst, ◌∙◌, arith, rules, length-append}
use Rattle.std.specs.Prelude.{ℤ, pos}
use Rattle.exact_reading.specs.declared.stop.Stop.{Stop}
use Rattle.exact_reading.specs.declared.stop.ReadError.{ReadError}
use Rattle.exact_reading.specs.declared.stop.ReadError.TheVariants as errors
use Rattle.compact_wire.specs.declared.kind.Kind.{Kind}
use Rattle.compact_wire.specs.declared.kind.Kind.TheVariants as k
use Rattle.compact_wire.specs.declared.header.PairKinds.{PairKinds}
use Rattle.compact_wire.specs.declared.header.FieldType.{FieldType}
use Rattle.compact_wire.specs.declared.header.FieldType.TheVariants.{Given as given, Of as of}
use Rattle.compact_wire.specs.declared.header.FieldHeader.{FieldHeader}
use Rattle.compact_wire.specs.declared.header.FieldHeader.TheVariants.{End as stop, Step as step}
use Rattle.compact_wire.specs.declared.header.FieldHeader.TheVariants.{Long as long}
use Rattle.compact_wire.specs.declared.wire.Wire.{Wire, Map, the_lemmas}
use Rattle.compact_wire.specs.Node.{Node, flag, map, Nodes, no_nodes, node, Pairs, no_pairs, pair, Fields}
use Rattle.compact_wire.specs.Node.{no_fields, field}
use Rattle.compact_wire.specs.Bytes.{IsByte, AreBytes, ByteReader}
use Rattle.exact_reading.specs.Reading.{◌>>=◌, and_then, pure, one, meaning, Fails}
use Rattle.compact_wire.specs.Reads.{number, signed, most_bytes, mapping, map_header, mapping_pairs, fits}
use Rattle.compact_wire.specs.Reads.{scalar, container, value, items, pairs, fields, all_fields, field_header}
use Rattle.compact_wire.specs.Reads.{field_start, start_tail, field_tail, with_field, typed}
use Rattle.compact_wire.specs.View.{view, nodes_view, fields_view, pairs_view}
use Rattle.exact_reading.proofs.Items.{admitted-back, bind_ok, ok_is}
use Rattle.exact_reading.proofs.Combinators.{meaning_ok}
use Rattle.compact_wire.proofs.Signed.{signed_exact}
use Rattle.compact_wire.proofs.StructLaws.{value_layer, TypeIs, HeaderIs, header_is}

pub AreBytes-from : (bs : List ℕ) → ((i : ℕ) → get_or bs i 0 < 256) → AreBytes bs
AreBytes-from [] h = tt
AreBytes-from (b ∷ bs) h = (h 0, AreBytes-from bs (λ i. h (suc i)))

-- ---- items

abbrev pub nodes_before : List Wire → Nodes → Nodes
nodes_before [] rest = rest
nodes_before (w ∷ ws) rest = node (view w) (nodes_before ws rest)

pub nodes_before-none : (ws : List Wire) → nodes_before ws no_nodes ≡ nodes_view ws
nodes_before-none [] = refl
nodes_before-none (w ∷ ws) = ap (node (view w)) (nodes_before-none ws)

nodes_push : (ws : List Wire) (w : Wire) (rest : Nodes)
    → nodes_before ws (node (view w) rest) ≡ nodes_before (ws ++ w ∷ []) rest
nodes_push [] w rest = refl
nodes_push (v ∷ ws) w rest = ap (node (view v)) (nodes_push ws w rest)

-- what was read before, and what is still read
abbrev pub with_nodes : List Wire → Result (Nodes × List ℕ) Stop → Result (Nodes × List ℕ) Stop
with_nodes front read = read >>= λ x. Ok (nodes_before front x.0, x.1)

regroup : (front : List Wire) (w : Wire) (read : Result (Nodes × List ℕ) Stop)
    → with_nodes front (read >>= λ x. Ok (node (view w) x.0, x.1)) ≡ with_nodes (front ++ w ∷ []) read
regroup front w (Ok x) = ap (λ (ns : Nodes). Ok (ns, x.1)) (nodes_push front w x.0)
regroup front w (Err f) = refl

module _ (value : ByteReader Node) where
  pub items_begin : (count : ℕ) (bytes : List ℕ)
      → with_nodes [] (items value count bytes) ≡ items value count bytes
  items_begin count bytes = same (items value count bytes)
    where
      same : (r : Result (Nodes × List ℕ) Stop) → with_nodes [] r ≡ r
      same (Ok x) = refl
      same (Err f) = refl

  pub items_go_on : (front : List Wire) (count i : ℕ) (bytes : List ℕ) (w : Wire) (after : List ℕ)
      (total : Result (Nodes × List ℕ) Stop) → i < count → value bytes ≡ Ok (view w, after)
      → with_nodes front (items value (count - i) bytes) ≡ total
      → with_nodes (front ++ w ∷ []) (items value (count - (i + 1)) after) ≡ total
  unfolding items
  items_go_on front count i bytes w after total lt h so_far =
      let k : count - i ≡ suc (count - (i + 1)) = omega arith in
      let one_more : with_nodes front (items value (count - i) bytes) ≡ with_nodes (front ++ w ∷ [])
      (items value (count - (i + 1)) after) =
      rw (k, h) (regroup front w (items value (count - (i + 1)) after)) in
      sym one_more ∙ so_far

  pub items_end : (e : ReadError Stop) (front : List Wire) (count i : ℕ) (bytes : List ℕ)
      (total : Result (Nodes × List ℕ) Stop) → i < count → Fails e (value bytes)
      → with_nodes front (items value (count - i) bytes) ≡ total → Fails e total
  unfolding items
  items_end errors.NoMemory front count i bytes total lt h so_far = tt
  items_end (errors.Stop f) front count i bytes total lt h so_far =
      let k : count - i ≡ suc (count - (i + 1)) = omega arith in
      let ends : with_nodes front (items value (count - i) bytes) ≡ Err f = rw (k, h) refl in
      sym so_far ∙ ends

  pub items_done : (front : List Wire) (count i : ℕ) (bytes : List ℕ) (total : Result (Nodes × List ℕ) Stop)
      → count ≤ i → with_nodes front (items value (count - i) bytes) ≡ total
      → total ≡ Ok (nodes_view front, bytes)
  unfolding items
  items_done front count i bytes total le so_far =
      let k : count - i ≡ 0 = omega arith in
      let is_done : with_nodes front (items value (count - i) bytes) ≡ Ok (nodes_view front, bytes) =
      rw k (ap (λ (ns : Nodes). Ok (ns, bytes)) (nodes_before-none front)) in
      sym so_far ∙ is_done

-- ---- pairs

abbrev pub pairs_before : List (Wire × Wire) → Pairs → Pairs
pairs_before [] rest = rest
pairs_before (p ∷ ps) rest = pair (view p.0) (view p.1) (pairs_before ps rest)

pub pairs_before-none : (ps : List (Wire × Wire)) → pairs_before ps no_pairs ≡ pairs_view ps
pairs_before-none [] = refl
pairs_before-none (p ∷ ps) = ap (pair (view p.0) (view p.1)) (pairs_before-none ps)

pairs_push : (ps : List (Wire × Wire)) (x y : Wire) (rest : Pairs)
    → pairs_before ps (pair (view x) (view y) rest) ≡ pairs_before (ps ++ (x, y) ∷ []) rest
pairs_push [] x y rest = refl
pairs_push (p ∷ ps) x y rest = ap (pair (view p.0) (view p.1)) (pairs_push ps x y rest)

abbrev pub with_pairs : List (Wire × Wire) → Result (Pairs × List ℕ) Stop → Result (Pairs × List ℕ) Stop
with_pairs front read = read >>= λ x. Ok (pairs_before front x.0, x.1)

pairs_regroup : (front : List (Wire × Wire)) (x y : Wire) (read : Result (Pairs × List ℕ) Stop)
    → with_pairs front (read >>= λ z. Ok (pair (view x) (view y) z.0, z.1)) ≡ with_pairs
    (front ++ (x, y) ∷ []) read
pairs_regroup front x y (Ok z) = ap (λ (ns : Pairs). Ok (ns, z.1)) (pairs_push front x y z.0)
pairs_regroup front x y (Err f) = refl

module _ (key value : ByteReader Node) where
  pub pairs_begin : (count : ℕ) (bytes : List ℕ)
      → with_pairs [] (pairs key value count bytes) ≡ pairs key value count bytes
  pairs_begin count bytes = same (pairs key value count bytes)
    where
      same : (r : Result (Pairs × List ℕ) Stop) → with_pairs [] r ≡ r
      same (Ok x) = refl
      same (Err f) = refl

  pub pairs_go_on : (front : List (Wire × Wire)) (count i : ℕ) (bytes : List ℕ) (x y : Wire)
      (mid after : List ℕ) (total : Result (Pairs × List ℕ) Stop) → i < count → key bytes ≡ Ok (view x, mid)
      → value mid ≡ Ok (view y, after)
      → with_pairs front (pairs key value (count - i) bytes) ≡ total
      → with_pairs (front ++ (x, y) ∷ []) (pairs key value (count - (i + 1)) after) ≡ total
  unfolding pairs
  pairs_go_on front count i bytes x y mid after total lt h j so_far =
      let k : count - i ≡ suc (count - (i + 1)) = omega arith in
      let one_more : with_pairs front (pairs key value (count - i) bytes) ≡ with_pairs (front ++ (x, y) ∷ [])
      (pairs key value (count - (i + 1)) after) =
      rw (k, h, j) (pairs_regroup front x y (pairs key value (count - (i + 1)) after)) in
      sym one_more ∙ so_far

  pub key_fails : (e : ReadError Stop) (front : List (Wire × Wire)) (count i : ℕ) (bytes : List ℕ)
      (total : Result (Pairs × List ℕ) Stop) → i < count → Fails e (key bytes)
      → with_pairs front (pairs key value (count - i) bytes) ≡ total → Fails e total
  unfolding pairs
  key_fails errors.NoMemory front count i bytes total lt h so_far = tt
  key_fails (errors.Stop f) front count i bytes total lt h so_far =
      let k : count - i ≡ suc (count - (i + 1)) = omega arith in
      let ends : with_pairs front (pairs key value (count - i) bytes) ≡ Err f = rw (k, h) refl in
      sym so_far ∙ ends

  pub item_fails : (e : ReadError Stop) (front : List (Wire × Wire)) (count i : ℕ) (bytes : List ℕ) (x : Wire)
      (mid : List ℕ) (total : Result (Pairs × List ℕ) Stop) → i < count → key bytes ≡ Ok (view x, mid)
      → Fails e (value mid)
      → with_pairs front (pairs key value (count - i) bytes) ≡ total → Fails e total
  unfolding pairs
  item_fails errors.NoMemory front count i bytes x mid total lt h j so_far = tt
  item_fails (errors.Stop f) front count i bytes x mid total lt h j so_far =
      let k : count - i ≡ suc (count - (i + 1)) = omega arith in
      let ends : with_pairs front (pairs key value (count - i) bytes) ≡ Err f = rw (k, h, j) refl in
      sym so_far ∙ ends

  pub pairs_done : (front : List (Wire × Wire)) (count i : ℕ) (bytes : List ℕ)
      (total : Result (Pairs × List ℕ) Stop) → count ≤ i
      → with_pairs front (pairs key value (count - i) bytes) ≡ total → total ≡ Ok (pairs_view front, bytes)
  unfolding pairs
  pairs_done front count i bytes total le so_far =
      let k : count - i ≡ 0 = omega arith in
      let is_done : with_pairs front (pairs key value (count - i) bytes) ≡ Ok (pairs_view front, bytes) =
      rw k (ap (λ (ns : Pairs). Ok (ns, bytes)) (pairs_before-none front)) in
      sym so_far ∙ is_done

-- ---- values

pub value-zero : (levels : ℕ) (kind : Kind) → levels ≡ 0 → value levels kind ≡ scalar kind
unfolding value
value-zero zero kind h = refl
value-zero (suc levels) kind h = absurd (omega arith)

pub value-step : (levels : ℕ) (kind : Kind) → 0 < levels
    → value levels kind ≡ container (levels - 1) (value (levels - 1)) kind
unfolding value
value-step zero kind h = absurd (omega arith)
value-step (suc levels) kind h = let r : suc levels - 1 ≡ levels = omega arith in rw r refl

-- the kinds that the code reads as scalars
pub is_scalar : (kind : Kind)
    → (kind ≡ k.Flag)
    ⊎ ((kind ≡ k.I8)
    ⊎ ((kind ≡ k.I16) ⊎ ((kind ≡ k.I32) ⊎ ((kind ≡ k.I64) ⊎ ((kind ≡ k.Double) ⊎ (kind ≡ k.Binary))))))
    → fits 0 kind ≡ true
is_scalar kind (inl e) = ap (fits 0) e
is_scalar kind (inr (inl e)) = ap (fits 0) e
is_scalar kind (inr (inr (inl e))) = ap (fits 0) e
is_scalar kind (inr (inr (inr (inl e)))) = ap (fits 0) e
is_scalar kind (inr (inr (inr (inr (inl e))))) = ap (fits 0) e
is_scalar kind (inr (inr (inr (inr (inr (inl e)))))) = ap (fits 0) e
is_scalar kind (inr (inr (inr (inr (inr (inr e)))))) = ap (fits 0) e

container-scalar : (levels : ℕ) (v : Kind → ByteReader Node) (kind : Kind) → fits 0 kind ≡ true
    → container levels v kind ≡ scalar kind
container-scalar levels v k.Flag h = refl
container-scalar levels v k.I8 h = refl
container-scalar levels v k.I16 h = refl
container-scalar levels v k.I32 h = refl
container-scalar levels v k.I64 h = refl
container-scalar levels v k.Double h = refl
container-scalar levels v k.Binary h = refl
container-scalar levels v k.List h = absurd cc
container-scalar levels v k.Set h = absurd cc
container-scalar levels v k.Map h = absurd cc
container-scalar levels v k.Struct h = absurd cc

pub value-scalar : (levels : ℕ) (kind : Kind) → fits 0 kind ≡ true → value levels kind ≡ scalar kind
unfolding value
value-scalar zero kind h = refl
value-scalar (suc levels) kind h = container-scalar levels (value levels) kind h

pub view-no_map : (ps : List (Wire × Wire)) → ps ≡ [] → view (Map 0 0 ps) ≡ map 0 0 no_pairs
view-no_map ps e = ap (λ (z : List (Wire × Wire)). view (Map 0 0 z)) e ∙ none
  where
    none : view (Map 0 0 []) ≡ map 0 0 no_pairs
    none = search (rules, the_lemmas)

-- ---- a field takes some bytes

-- what is left is the end of what there was
abbrev IsEnd : List ℕ → List ℕ → Type 0
IsEnd b rest = (t : List ℕ) × (b ≡ t ++ rest)

signed_ends : (b : List ℕ) (z : ℤ) (rest : List ℕ) → AreBytes b → signed 2 (2 ^ 16 - 1) b ≡ Ok (z, rest)
    → IsEnd b rest
signed_ends b z rest h e =
    let s = (signed_exact 2 (2 ^ 16 - 1) (suc (length b))).sound b z rest h (omega arith) e in (s.0, s.2)

value_ends : (levels : ℕ) (kind : Kind) (b : List ℕ) (x : Node) (rest : List ℕ) → fits levels kind ≡ true
    → AreBytes b → value levels kind b ≡ Ok (x, rest) → IsEnd b rest
value_ends levels kind b x rest fit h e =
    let s = ((value_layer levels).exact kind fit (suc (length b))).sound b x rest h (omega arith) e in
    (s.0, s.2)

typed_ends : (levels c : ℕ) (ty : FieldType) (b : List ℕ) (x : Node) (rest : List ℕ) → TypeIs levels c ty
    → AreBytes b → typed (value levels) ty b ≡ Ok (x, rest) → IsEnd b rest
unfolding TypeIs
typed_ends levels c (given y) b x rest is h e = ([], (ok_is (flag y) x b rest e).1)
typed_ends levels c (of kind) b x rest is h e = value_ends levels kind b x rest is.1 h e

abbrev starts : Option (ℤ × FieldType) → List ℕ → Result (Option (ℤ × FieldType) × List ℕ) Stop
starts o r = Ok (o, r)

pub start_is : (levels : ℕ) (before : ℤ) (c : ℕ) (h : FieldHeader) (b : List ℕ) (id : ℤ) (ty : FieldType)
    (mid : List ℕ) → AreBytes b → HeaderIs levels before c h → start_tail h b ≡ Ok (Some (id, ty), mid)
    → IsEnd b mid × TypeIs levels (c % 16) ty
unfolding HeaderIs
start_is levels before c stop b id ty mid h is e =
    absurd (let o = (ok_is None (Some (id, ty)) b mid e).0 in cc)
start_is levels before c (step i y) b id ty mid h is e =
    let o = ok_is (Some (i, y)) (Some (id, ty)) b mid e in
    let same : (i, y) ≡ (id, ty) = (let q = o.0 in cc) in
    (([], o.1), subst (TypeIs levels (c % 16)) (ap (λ (z : ℤ × FieldType). z.1) same) is.3)
start_is levels before c (long y) b id ty mid h is e =
    let a = bind_ok (signed 2 (2 ^ 16 - 1) b) (λ p. starts (Some (p.0, y)) p.1) (Some (id, ty), mid) e in
    let o = ok_is (Some (a.0.0, y)) (Some (id, ty)) a.0.1 mid a.2 in
    let same : (a.0.0, y) ≡ (id, ty) = (let q = o.0 in cc) in
    let ends = signed_ends b a.0.0 a.0.1 h a.1 in (
      (ends.0, ends.1 ∙ ap (λ (z : List ℕ). ends.0 ++ z) o.1),
      subst (TypeIs levels (c % 16)) (ap (λ (z : ℤ × FieldType). z.1) same) is.1,
    )

pub field_takes : (levels : ℕ) (before : ℤ) (b : List ℕ) (id : ℤ) (ty : FieldType) (mid : List ℕ) (x : Node)
    (after : List ℕ) → AreBytes b → field_start levels before b ≡ Ok (Some (id, ty), mid)
    → typed (value levels) ty mid ≡ Ok (x, after)
    → (length after < length b) × AreBytes after
unfolding field_start
field_takes levels before [] id ty mid x after h e k = absurd cc
field_takes levels before (c ∷ b) id ty mid x after h e k =
    let a = bind_ok (meaning (field_header levels before c) b) (λ p. start_tail p.0 p.1) (Some (id, ty), mid)
    e in
    let m = meaning_ok IsByte (field_header levels before c) b a.0.0 a.0.1 a.1 in
    let h2 : AreBytes a.0.1 = subst AreBytes m.1 h.1 in
    let s = start_is levels before c a.0.0 a.0.1 id ty mid h2 (header_is levels before c a.0.0 m.0) a.2 in
    let h3 : AreBytes mid = admitted-back IsByte s.0.0 mid (subst AreBytes s.0.1 h2) in
    let v = typed_ends levels (c % 16) ty mid x after s.1 h3 k in (
      omega (
        arith,
        ap length m.1,
        ap length s.0.1,
        length-append s.0.0 mid,
        ap length v.1,
        length-append v.0 after,
      ),
      admitted-back IsByte v.0 after (subst AreBytes v.1 h3),
    )

-- ---- fields

abbrev pub fields_before : List (ℤ × Wire) → Fields → Fields
fields_before [] rest = rest
fields_before (f ∷ fs) rest = field f.0 (view f.1) (fields_before fs rest)

pub fields_before-none : (fs : List (ℤ × Wire)) → fields_before fs no_fields ≡ fields_view fs
fields_before-none [] = refl
fields_before-none (f ∷ fs) = ap (field f.0 (view f.1)) (fields_before-none fs)

fields_push : (fs : List (ℤ × Wire)) (id : ℤ) (w : Wire) (rest : Fields)
    → fields_before fs (field id (view w) rest) ≡ fields_before (fs ++ (id, w) ∷ []) rest
fields_push [] id w rest = refl
fields_push (f ∷ fs) id w rest = ap (field f.0 (view f.1)) (fields_push fs id w rest)

abbrev pub with_fields : List (ℤ × Wire) → Result (Fields × List ℕ) Stop → Result (Fields × List ℕ) Stop
with_fields front read = read >>= λ x. Ok (fields_before front x.0, x.1)

fields_regroup : (front : List (ℤ × Wire)) (id : ℤ) (w : Wire) (read : Result (Fields × List ℕ) Stop)
    → with_fields front (read >>= λ x. Ok (field id (view w) x.0, x.1)) ≡ with_fields (front ++ (id, w) ∷ [])
    read
fields_regroup front id w (Ok x) = ap (λ (ns : Fields). Ok (ns, x.1)) (fields_push front id w x.0)
fields_regroup front id w (Err f) = refl

module _ (levels : ℕ) where
  abbrev pub rest_of : ℕ → Option (ℤ × FieldType) → ByteReader Fields
  rest_of n None = pure no_fields
  rest_of n (Some p) = with_field (fields levels (value levels) n) (typed (value levels) p.1) p.0

  abbrev with_type : FieldType → ℤ × List ℕ → Result (Option (ℤ × FieldType) × List ℕ) Stop
  with_type ty p = Ok (Some (p.0, ty), p.1)

  bind_long : (n : ℕ) (ty : FieldType) (r : Result (ℤ × List ℕ) Stop)
      → (r >>= λ p. with_field (fields levels (value levels) n) (typed (value levels) ty) p.0
      p.1) ≡ ((r >>= with_type ty) >>= λ q. rest_of n q.0 q.1)
  bind_long n ty (Ok p) = refl
  bind_long n ty (Err d) = refl

  by_header : (n : ℕ) (h : FieldHeader) (b : List ℕ)
      → field_tail (value levels) (fields levels (value levels) n) h
      b ≡ (start_tail h b >>= λ q. rest_of n q.0 q.1)
  by_header n stop b = refl
  by_header n (step id ty) b = refl
  by_header n (long ty) b = bind_long n ty (signed 2 (2 ^ 16 - 1) b)

  by_first : (n : ℕ) (r : Result (FieldHeader × List ℕ) Stop)
      → (r >>= λ p. field_tail (value levels) (fields levels (value levels) n) p.0
      p.1) ≡ ((r >>= λ p. start_tail p.0 p.1) >>= λ q. rest_of n q.0 q.1)
  by_first n (Ok p) = by_header n p.0 p.1
  by_first n (Err d) = refl

  pub unroll : (n : ℕ) (before : ℤ) (b : List ℕ)
      → fields levels (value levels) (suc n) before
      b ≡ (field_start levels before b >>= λ q. rest_of n q.0 q.1)
  unfolding fields field_start
  unroll n before b = by_first n (one (field_header levels before) b)

  -- the fields so far, and what is still read, are all the fields
  pub record Reading (front : List (ℤ × Wire)) (before : ℤ) (rest bytes : List ℕ) : Type 0 where
    pub turns : ℕ
    pub enough : length rest < turns
    pub bytes_left : AreBytes rest
    pub so_far : with_fields front (fields levels (value levels) turns before rest) ≡ all_fields levels
        (value levels) bytes

  pub fields_begin : (bytes : List ℕ) → AreBytes bytes → Reading [] (pos 0) bytes bytes
  fields_begin bytes h =
      record {
        bytes_left = h;
        turns = suc (length bytes);
        enough = omega arith;
        so_far = same (fields levels (value levels) (suc (length bytes)) (pos 0) bytes);
      }
    where
      same : (r : Result (Fields × List ℕ) Stop) → with_fields [] r ≡ r
      same (Ok x) = refl
      same (Err f) = refl

  step_is : (front : List (ℤ × Wire)) (before : ℤ) (rest bytes : List ℕ) (r : Reading front before rest bytes)
      → all_fields levels (value levels) bytes ≡ with_fields front
      (field_start levels before rest >>= λ q. rest_of (r.turns - 1) q.0 q.1)
  step_is front before rest bytes r =
      let t : r.turns ≡ suc (r.turns - 1) = omega (arith, r.enough) in
      sym r.so_far ∙ ap (λ (n : ℕ). with_fields front (fields levels (value levels) n before rest)) t
      ∙ ap (with_fields front) (unroll (r.turns - 1) before rest)

  pub start_fails : (e : ReadError Stop) (front : List (ℤ × Wire)) (before : ℤ) (rest bytes : List ℕ)
      → Reading front before rest bytes → Fails e (field_start levels before rest)
      → Fails e (all_fields levels (value levels) bytes)
  start_fails errors.NoMemory front before rest bytes r h = tt
  start_fails (errors.Stop f) front before rest bytes r h =
      step_is front before rest bytes r
      ∙ ap (λ (o : Result (Option (ℤ × FieldType) × List ℕ) Stop). with_fields front
      (o >>= λ q. rest_of (r.turns - 1) q.0 q.1)) h

  pub fields_done : (front : List (ℤ × Wire)) (before : ℤ) (rest bytes after : List ℕ)
      → Reading front before rest bytes → field_start levels before rest ≡ Ok (None, after)
      → all_fields levels (value levels) bytes ≡ Ok (fields_view front, after)
  fields_done front before rest bytes after r h =
      step_is front before rest bytes r
      ∙ ap (λ (o : Result (Option (ℤ × FieldType) × List ℕ) Stop). with_fields front
      (o >>= λ q. rest_of (r.turns - 1) q.0 q.1)) h
      ∙ ap (λ (ns : Fields). Ok (ns, after)) (fields_before-none front)

  started : (front : List (ℤ × Wire)) (before id : ℤ) (ty : FieldType) (rest bytes mid : List ℕ)
      (r : Reading front before rest bytes) → field_start levels before rest ≡ Ok (Some (id, ty), mid)
      → all_fields levels (value levels) bytes ≡ with_fields front
      (with_field (fields levels (value levels) (r.turns - 1)) (typed (value levels) ty) id mid)
  started front before id ty rest bytes mid r h =
      step_is front before rest bytes r
      ∙ ap (λ (o : Result (Option (ℤ × FieldType) × List ℕ) Stop). with_fields front
      (o >>= λ q. rest_of (r.turns - 1) q.0 q.1)) h

  pub value_fails : (e : ReadError Stop) (front : List (ℤ × Wire)) (before id : ℤ) (ty : FieldType)
      (rest bytes mid : List ℕ) → Reading front before rest bytes
      → field_start levels before rest ≡ Ok (Some (id, ty), mid)
      → Fails e (typed (value levels) ty mid) → Fails e (all_fields levels (value levels) bytes)
  value_fails errors.NoMemory front before id ty rest bytes mid r h k = tt
  value_fails (errors.Stop f) front before id ty rest bytes mid r h k =
      started front before id ty rest bytes mid r h
      ∙ ap (λ (o : Result (Node × List ℕ) Stop). with_fields front
      (o >>= λ p. fields levels (value levels) (r.turns - 1) id p.1 >>= λ q. Ok (field id p.0 q.0, q.1)))
      k

  pub fields_go_on : (front : List (ℤ × Wire)) (before id : ℤ) (ty : FieldType) (w : Wire)
      (rest bytes mid after : List ℕ) → Reading front before rest bytes
      → field_start levels before rest ≡ Ok (Some (id, ty), mid)
      → typed (value levels) ty mid ≡ Ok (view w, after) → Reading (front ++ (id, w) ∷ []) id after bytes
  fields_go_on front before id ty w rest bytes mid after r h k = record {
    bytes_left = (field_takes levels before rest id ty mid (view w) after r.bytes_left h k).1;
    turns = r.turns - 1;
    enough =
        omega (arith, r.enough, (field_takes levels before rest id ty mid (view w) after r.bytes_left h k).0);
    so_far = sym (started front before id ty rest bytes mid r h
        ∙ ap (λ (o : Result (Node × List ℕ) Stop). with_fields front
        (o >>= λ p. fields levels (value levels) (r.turns - 1) id p.1 >>= λ q. Ok
        (field id p.0 q.0, q.1))) k
        ∙ fields_regroup front id w (fields levels (value levels) (r.turns - 1) id after));
  }

-- ---- maps

pub mapping-first : (levels : ℕ) (v : Kind → ByteReader Node) (b : List ℕ) (e : ReadError Stop)
    → Fails e (number 4 most_bytes b) → Fails e (mapping levels v b)
unfolding mapping
mapping-first levels v b errors.NoMemory h = tt
mapping-first levels v b (errors.Stop f) h = rw h refl

pub mapping-none : (levels : ℕ) (v : Kind → ByteReader Node) (b rest : List ℕ) (n : ℕ)
    → number 4 most_bytes b ≡ Ok (n, rest) → n ≡ 0 → mapping levels v b ≡ Ok (map 0 0 no_pairs, rest)
unfolding mapping
mapping-none levels v b rest n h z =
    let e : number 4 most_bytes b ≡ Ok (0, rest) = h ∙ ap (λ (m : ℕ). Ok (m, rest)) z in rw e refl

pub mapping-some : (levels : ℕ) (v : Kind → ByteReader Node) (b rest : List ℕ) (n : ℕ)
    → number 4 most_bytes b ≡ Ok (n, rest) → n ≢ 0
    → mapping levels v b ≡ and_then (one (map_header levels)) (mapping_pairs v n) rest
unfolding mapping
mapping-some levels v b rest zero h z = absurd (z refl)
mapping-some levels v b rest (suc n) h z = rw h refl

pub mapping-header_fails : (levels : ℕ) (v : Kind → ByteReader Node) (b rest : List ℕ) (n : ℕ)
    (e : ReadError Stop) → number 4 most_bytes b ≡ Ok (n, rest) → n ≢ 0
    → Fails e (one (map_header levels) rest) → Fails e (mapping levels v b)
mapping-header_fails levels v b rest n errors.NoMemory h some fails = tt
mapping-header_fails levels v b rest n (errors.Stop d) h some fails =
    mapping-some levels v b rest n h some ∙ ends
  where
    ends : and_then (one (map_header levels)) (mapping_pairs v n) rest ≡ Err d
    ends = rw fails refl

pub mapping-pairs : (levels : ℕ) (v : Kind → ByteReader Node) (b rest after : List ℕ) (n : ℕ)
    (kinds : PairKinds) → number 4 most_bytes b ≡ Ok (n, rest) → n ≢ 0
    → one (map_header levels) rest ≡ Ok (kinds, after)
    → mapping levels v b ≡ mapping_pairs v n kinds after
mapping-pairs levels v b rest after n kinds h some header = mapping-some levels v b rest n h some ∙ goes_on
  where
    goes_on : and_then (one (map_header levels)) (mapping_pairs v n) rest ≡ mapping_pairs v n kinds after
    goes_on = rw header refl
