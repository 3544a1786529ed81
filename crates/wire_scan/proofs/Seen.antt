-- Readers whose value is seen by a function, step by step.
use Rattle.std.proofs.Common.{◌≡◌, ℕ, suc, ◌-◌, ◌+◌, ◌<◌, ◌≤◌, List, length, Option, Some, None, Result, Ok, Err, refl, sym, ap, ◌∙◌, arith}
use Rattle.std.specs.Prelude.{ℤ, pos}
use Rattle.exact_reading.specs.declared.stop.Stop.{Stop}
use Rattle.exact_reading.specs.Reading.{◌>>=◌}
use Rattle.compact_wire.specs.declared.header.FieldType.{FieldType}
use Rattle.compact_wire.specs.Node.{Node, Nodes, no_nodes, node, Pairs, no_pairs, pair, Fields, no_fields, field}
use Rattle.compact_wire.specs.Bytes.{AreBytes, ByteReader}
use Rattle.compact_wire.specs.Reads.{items, pairs, fields, all_fields, value, typed, field_start}
use Rattle.compact_wire.proofs.ReadSteps.{rest_of, unroll, field_takes}
use Rattle.exact_reading.proofs.Items.{ok_is}
use Rattle.exact_reading.specs.Reading.{seen}

pub seen_ok : {A B : Type 0} (g : A → B) (r : Result (A × List ℕ) Stop) (y : B) (rest : List ℕ) → seen g r ≡ Ok (y, rest) → (x : A) × (r ≡ Ok (x, rest)) × (g x ≡ y)
seen_ok g (Ok (x, r)) y rest e = let p = ok_is (g x) y r rest e in (x, ap (λ (z : List ℕ). Ok (x, z)) p.1, p.0)
seen_ok g (Err d) y rest e = absurd cc

pub seen_err : {A B : Type 0} (g : A → B) (r : Result (A × List ℕ) Stop) (d : Stop) → seen g r ≡ Err d → r ≡ Err d
seen_err g (Ok x) d e = absurd cc
seen_err g (Err c) d e = let p : c ≡ d = cc in ap Err p

pub seen_same : {A B : Type 0} (g h : A → B) (r : Result (A × List ℕ) Stop) → ((x : A) → g x ≡ h x) → seen g r ≡ seen h r
seen_same g h (Ok (x, r)) e = ap (λ (y : _). Ok (y, r)) (e x)
seen_same g h (Err d) e = refl

-- a value made of what was read
pub seen_made : {A B C : Type 0} (g : B → C) (make : A → B) (r : Result (A × List ℕ) Stop) → seen g (r >>= λ p. Ok (make p.0, p.1)) ≡ seen (λ x. g (make x)) r
seen_made g make (Ok p) = refl
seen_made g make (Err d) = refl

-- ---- items, where f goes on over one value and F over the others

module _ {S : Type 0} (f : S → Node → S) (F : S → Nodes → S) (none : (s : S) → F s no_nodes ≡ s) (more : (s : S) (x : Node) (xs : Nodes) → F s (node x xs) ≡ F (f s x) xs) (value : ByteReader Node) where
  one_item : (s t : S) (x : Node) (r : Result (Nodes × List ℕ) Stop) → f s x ≡ t → seen (F s) (r >>= λ q. Ok (node x q.0, q.1)) ≡ seen (F t) r
  one_item s t x (Ok q) e = ap (λ (z : S). Ok (z, q.1)) (more s x q.0 ∙ ap (λ (z : S). F z q.0) e)
  one_item s t x (Err d) e = refl

  pub items_go_on : (s t : S) (count i : ℕ) (bytes after : List ℕ) (total : Result (S × List ℕ) Stop) → i < count → seen (f s) (value bytes) ≡ Ok (t, after)
      → seen (F s) (items value (count - i) bytes) ≡ total → seen (F t) (items value (count - (i + 1)) after) ≡ total
  unfolding items
  items_go_on s t count i bytes after total lt h so_far =
      let k : count - i ≡ suc (count - (i + 1)) = omega arith in
      let x = seen_ok (f s) (value bytes) t after h in
      let step : seen (F s) (items value (count - i) bytes) ≡ seen (F t) (items value (count - (i + 1)) after) = rw (k, x.1) (one_item s t x.0 (items value (count - (i + 1)) after) x.2) in
      sym step ∙ so_far

  pub items_end : (s : S) (d : Stop) (count i : ℕ) (bytes : List ℕ) (total : Result (S × List ℕ) Stop) → i < count → seen (f s) (value bytes) ≡ Err d
      → seen (F s) (items value (count - i) bytes) ≡ total → total ≡ Err d
  unfolding items
  items_end s d count i bytes total lt h so_far =
      let k : count - i ≡ suc (count - (i + 1)) = omega arith in
      let x = seen_err (f s) (value bytes) d h in
      let ends : seen (F s) (items value (count - i) bytes) ≡ Err d = rw (k, x) refl in
      sym so_far ∙ ends

  pub items_done : (s : S) (count i : ℕ) (bytes : List ℕ) (total : Result (S × List ℕ) Stop) → count ≤ i → seen (F s) (items value (count - i) bytes) ≡ total → total ≡ Ok (s, bytes)
  unfolding items
  items_done s count i bytes total le so_far =
      let k : count - i ≡ 0 = omega arith in
      let done : seen (F s) (items value (count - i) bytes) ≡ Ok (s, bytes) = rw k (ap (λ (z : S). Ok (z, bytes)) (none s)) in
      sym so_far ∙ done

-- ---- pairs, where f goes on over a key and g over a value

module _ {S : Type 0} (f g : S → Node → S) (F : S → Pairs → S) (none : (s : S) → F s no_pairs ≡ s) (more : (s : S) (x y : Node) (xs : Pairs) → F s (pair x y xs) ≡ F (g (f s x) y) xs) (key value : ByteReader Node) where
  one_pair : (s t u : S) (x y : Node) (r : Result (Pairs × List ℕ) Stop) → f s x ≡ t → g t y ≡ u → seen (F s) (r >>= λ q. Ok (pair x y q.0, q.1)) ≡ seen (F u) r
  one_pair s t u x y (Ok q) e d = ap (λ (z : S). Ok (z, q.1)) (more s x y q.0 ∙ ap (λ (z : S). F (g z y) q.0) e ∙ ap (λ (z : S). F z q.0) d)
  one_pair s t u x y (Err d) e h = refl

  pub pairs_go_on : (s t u : S) (count i : ℕ) (bytes mid after : List ℕ) (total : Result (S × List ℕ) Stop) → i < count → seen (f s) (key bytes) ≡ Ok (t, mid) → seen (g t) (value mid) ≡ Ok (u, after)
      → seen (F s) (pairs key value (count - i) bytes) ≡ total → seen (F u) (pairs key value (count - (i + 1)) after) ≡ total
  unfolding pairs
  pairs_go_on s t u count i bytes mid after total lt h j so_far =
      let k : count - i ≡ suc (count - (i + 1)) = omega arith in
      let x = seen_ok (f s) (key bytes) t mid h in
      let y = seen_ok (g t) (value mid) u after j in
      let step : seen (F s) (pairs key value (count - i) bytes) ≡ seen (F u) (pairs key value (count - (i + 1)) after) = rw (k, x.1, y.1) (one_pair s t u x.0 y.0 (pairs key value (count - (i + 1)) after) x.2 y.2) in
      sym step ∙ so_far

  pub key_end : (s : S) (d : Stop) (count i : ℕ) (bytes : List ℕ) (total : Result (S × List ℕ) Stop) → i < count → seen (f s) (key bytes) ≡ Err d
      → seen (F s) (pairs key value (count - i) bytes) ≡ total → total ≡ Err d
  unfolding pairs
  key_end s d count i bytes total lt h so_far =
      let k : count - i ≡ suc (count - (i + 1)) = omega arith in
      let x = seen_err (f s) (key bytes) d h in
      let ends : seen (F s) (pairs key value (count - i) bytes) ≡ Err d = rw (k, x) refl in
      sym so_far ∙ ends

  pub item_end : (s t : S) (d : Stop) (count i : ℕ) (bytes mid : List ℕ) (total : Result (S × List ℕ) Stop) → i < count → seen (f s) (key bytes) ≡ Ok (t, mid) → seen (g t) (value mid) ≡ Err d
      → seen (F s) (pairs key value (count - i) bytes) ≡ total → total ≡ Err d
  unfolding pairs
  item_end s t d count i bytes mid total lt h j so_far =
      let k : count - i ≡ suc (count - (i + 1)) = omega arith in
      let x = seen_ok (f s) (key bytes) t mid h in
      let y = seen_err (g t) (value mid) d j in
      let ends : seen (F s) (pairs key value (count - i) bytes) ≡ Err d = rw (k, x.1, y) refl in
      sym so_far ∙ ends

  pub pairs_done : (s : S) (count i : ℕ) (bytes : List ℕ) (total : Result (S × List ℕ) Stop) → count ≤ i → seen (F s) (pairs key value (count - i) bytes) ≡ total → total ≡ Ok (s, bytes)
  unfolding pairs
  pairs_done s count i bytes total le so_far =
      let k : count - i ≡ 0 = omega arith in
      let done : seen (F s) (pairs key value (count - i) bytes) ≡ Ok (s, bytes) = rw k (ap (λ (z : S). Ok (z, bytes)) (none s)) in
      sym so_far ∙ done

-- ---- fields, where f goes on over a field

module _ {S : Type 0} (f : S → ℤ → Node → S) (F : S → Fields → S) (none : (s : S) → F s no_fields ≡ s) (more : (s : S) (id : ℤ) (x : Node) (xs : Fields) → F s (field id x xs) ≡ F (f s id x) xs) (levels : ℕ) where
  -- what is still read, from what stands for the fields so far, is all
  pub record Reading (s : S) (before : ℤ) (rest : List ℕ) (total : Result (S × List ℕ) Stop) : Type 0 where
    pub turns : ℕ
    pub enough : length rest < turns
    pub bytes_left : AreBytes rest
    pub so_far : seen (F s) (fields levels (value levels) turns before rest) ≡ total

  pub fields_begin : (s : S) (bytes : List ℕ) → AreBytes bytes → Reading s (pos 0) bytes (seen (F s) (all_fields levels (value levels) bytes))
  fields_begin s bytes h = record { bytes_left = h; turns = suc (length bytes); enough = omega arith; so_far = refl }

  step_is : (s : S) (before : ℤ) (rest : List ℕ) (total : Result (S × List ℕ) Stop) (r : Reading s before rest total) → total ≡ seen (F s) (field_start levels before rest >>= λ q. rest_of levels (r.turns - 1) q.0 q.1)
  step_is s before rest total r =
      let t : r.turns ≡ suc (r.turns - 1) = omega (arith, r.enough) in
      sym r.so_far ∙ ap (λ (n : ℕ). seen (F s) (fields levels (value levels) n before rest)) t ∙ ap (seen (F s)) (unroll levels (r.turns - 1) before rest)

  pub start_end : (s : S) (d : Stop) (before : ℤ) (rest : List ℕ) (total : Result (S × List ℕ) Stop) → Reading s before rest total → field_start levels before rest ≡ Err d → total ≡ Err d
  start_end s d before rest total r h = step_is s before rest total r ∙ ap (λ (o : Result (Option (ℤ × FieldType) × List ℕ) Stop). seen (F s) (o >>= λ q. rest_of levels (r.turns - 1) q.0 q.1)) h

  pub fields_done : (s : S) (before : ℤ) (rest after : List ℕ) (total : Result (S × List ℕ) Stop) → Reading s before rest total → field_start levels before rest ≡ Ok (None, after) → total ≡ Ok (s, after)
  fields_done s before rest after total r h =
      step_is s before rest total r ∙ ap (λ (o : Result (Option (ℤ × FieldType) × List ℕ) Stop). seen (F s) (o >>= λ q. rest_of levels (r.turns - 1) q.0 q.1)) h
      ∙ ap (λ (z : S). Ok (z, after)) (none s)

  started : (s : S) (before id : ℤ) (ty : FieldType) (rest mid : List ℕ) (total : Result (S × List ℕ) Stop) (r : Reading s before rest total) → field_start levels before rest ≡ Ok (Some (id, ty), mid)
      → total ≡ seen (F s) (typed (value levels) ty mid >>= λ p. fields levels (value levels) (r.turns - 1) id p.1 >>= λ q. Ok (field id p.0 q.0, q.1))
  started s before id ty rest mid total r h = step_is s before rest total r ∙ ap (λ (o : Result (Option (ℤ × FieldType) × List ℕ) Stop). seen (F s) (o >>= λ q. rest_of levels (r.turns - 1) q.0 q.1)) h

  pub value_end : (s : S) (d : Stop) (before id : ℤ) (ty : FieldType) (rest mid : List ℕ) (total : Result (S × List ℕ) Stop) → Reading s before rest total → field_start levels before rest ≡ Ok (Some (id, ty), mid)
      → seen (f s id) (typed (value levels) ty mid) ≡ Err d → total ≡ Err d
  value_end s d before id ty rest mid total r h k =
      started s before id ty rest mid total r h
      ∙ ap (λ (o : Result (Node × List ℕ) Stop). seen (F s) (o >>= λ p. fields levels (value levels) (r.turns - 1) id p.1 >>= λ q. Ok (field id p.0 q.0, q.1))) (seen_err (f s id) (typed (value levels) ty mid) d k)

  one_field : (s t : S) (id : ℤ) (x : Node) (r : Result (Fields × List ℕ) Stop) → f s id x ≡ t → seen (F s) (r >>= λ q. Ok (field id x q.0, q.1)) ≡ seen (F t) r
  one_field s t id x (Ok q) e = ap (λ (z : S). Ok (z, q.1)) (more s id x q.0 ∙ ap (λ (z : S). F z q.0) e)
  one_field s t id x (Err d) e = refl

  pub fields_go_on : (s t : S) (before id : ℤ) (ty : FieldType) (rest mid after : List ℕ) (total : Result (S × List ℕ) Stop) → Reading s before rest total → field_start levels before rest ≡ Ok (Some (id, ty), mid)
      → seen (f s id) (typed (value levels) ty mid) ≡ Ok (t, after) → (length after < length rest) × Reading t id after total
  fields_go_on s t before id ty rest mid after total r h k =
      let x = seen_ok (f s id) (typed (value levels) ty mid) t after k in
      let takes = field_takes levels before rest id ty mid x.0 after r.bytes_left h x.1 in (
        takes.0,
        record {
          bytes_left = takes.1;
          turns = r.turns - 1;
          enough = omega (arith, r.enough, takes.0);
          so_far = sym (started s before id ty rest mid total r h
              ∙ ap (λ (o : Result (Node × List ℕ) Stop). seen (F s) (o >>= λ p. fields levels (value levels) (r.turns - 1) id p.1 >>= λ q. Ok (field id p.0 q.0, q.1))) x.1
              ∙ one_field s t id x.0 (fields levels (value levels) (r.turns - 1) id after) x.2);
        },
      )
