-- The first event of a value, and what is left behind it.
use Rattle.std.proofs.Common.{◌≡◌, ◌≢◌, ℕ, zero, suc, ◌-◌, ◌<◌, ◌≤◌, List, [], ◌∷◌, length, Result, Ok, Err, refl, sym, ap, subst, ◌∙◌, ◌^◌, arith}
use Rattle.std.specs.Prelude.{pos}
use Rattle.exact_reading.specs.declared.stop.Stop.{Stop}
use Rattle.exact_reading.specs.Reading.{◌>>=◌, and_then, pure, one, taken}
use Rattle.exact_reading.proofs.Items.{ok_is, bind_ok}
use Rattle.compact_wire.specs.declared.kind.Kind.{Kind}
use Rattle.compact_wire.specs.declared.kind.Kind.TheVariants as k
use Rattle.compact_wire.specs.declared.header.ListHeader.{ListHeader}
use Rattle.compact_wire.specs.declared.header.PairKinds.{PairKinds}
use Rattle.compact_wire.specs.Node.{Node, flag, i8, i16, i32, i64, double, binary, list, set, map, structure, Nodes, no_nodes, node, Pairs, no_pairs, pair, Fields, no_fields, field}
use Rattle.compact_wire.specs.Bytes.{AreBytes, ByteReader}
use Rattle.compact_wire.proofs.ReadSteps.{value-zero}
use Rattle.compact_wire.proofs.StructLaws.{value_layer}
use Rattle.wire_events.proofs.Deeper.{struct_alone}
use Rattle.wire_events.specs.Steps.{BeginsStruct}
use Rattle.compact_wire.specs.Codes.{code_of}
use Rattle.compact_wire.specs.Spells.{IsListHeader}
use Rattle.compact_wire.specs.Canon.{nodes_count, pairs_count}
use Rattle.compact_wire.specs.Reads.{scalar, value, items, sequence, list_header, count, element, mapping, map_header, mapping_pairs, pairs, all_fields, number, most_bytes, signed, element_flag, signed_byte}
use Rattle.compact_wire.proofs.ReadSteps.{mapping-none, mapping-some, mapping-pairs}
use Rattle.exact_reading.specs.Reading.{seen}
use Rattle.wire_events.specs.Events.{Event, events, events_in, events_in_pairs, events_in_fields, first_event, list_event, set_event, map_event, struct_event}
use Rattle.wire_events.specs.declared.frame.Frame.{Frame}
use Rattle.wire_events.specs.declared.frame.Frame.TheVariants as f
use Rattle.wire_events.specs.Frames.{IsLeft, items_left, pairs_left, fields_left}
use Rattle.wire_events.specs.Texts.{SpellsEvent, struct_text, list_text, set_text, Takes}
use Rattle.wire_events.proofs.Taken.{RowAt, row_at, no_map_takes, map_takes, scalar_takes}

pub no_read : {A : Type 0} (r : Result A Stop) (x : A) (d : Stop) → r ≡ Ok x → r ≡ Err d → ⊥
no_read r x d e h = let q : Ok x ≡ Err d = sym e ∙ h in cc

abbrev made_of : {A B : Type 0} → (A → B) → A × List ℕ → Result (B × List ℕ) Stop
made_of make p = Ok (make p.0, p.1)

node_more : (x : Node) (n : ℕ) (r : Result (Nodes × List ℕ) Stop) (xs : Nodes) (rest : List ℕ) → ((ys : Nodes) → r ≡ Ok (ys, rest) → nodes_count ys ≡ n) → (r >>= made_of (node x)) ≡ Ok (xs, rest) → nodes_count xs ≡ suc n
node_more x n (Ok p) xs rest h e = let o = ok_is (node x p.0) xs p.1 rest e in sym (ap nodes_count o.0) ∙ ap suc (h p.0 (ap (λ (z : List ℕ). Ok (p.0, z)) o.1))
node_more x n (Err d) xs rest h e = absurd cc

pub items_count : (v : ByteReader Node) (n : ℕ) (b : List ℕ) (xs : Nodes) (rest : List ℕ) → items v n b ≡ Ok (xs, rest) → nodes_count xs ≡ n
unfolding items
items_count v zero b xs rest e = sym (ap nodes_count (ok_is no_nodes xs b rest e).0)
items_count v (suc n) b xs rest e =
    let a = bind_ok (v b) (λ p. and_then (items v n) (λ ys. pure (node p.0 ys)) p.1) (xs, rest) e in
    node_more a.0.0 n (items v n a.0.1) xs rest (λ ys. items_count v n a.0.1 ys rest) a.2

pair_more : (x y : Node) (n : ℕ) (r : Result (Pairs × List ℕ) Stop) (xs : Pairs) (rest : List ℕ) → ((ys : Pairs) → r ≡ Ok (ys, rest) → pairs_count ys ≡ n) → (r >>= made_of (pair x y)) ≡ Ok (xs, rest) → pairs_count xs ≡ suc n
pair_more x y n (Ok p) xs rest h e = let o = ok_is (pair x y p.0) xs p.1 rest e in sym (ap pairs_count o.0) ∙ ap suc (h p.0 (ap (λ (z : List ℕ). Ok (p.0, z)) o.1))
pair_more x y n (Err d) xs rest h e = absurd cc

pub pairs_read : (u v : ByteReader Node) (n : ℕ) (b : List ℕ) (xs : Pairs) (rest : List ℕ) → pairs u v n b ≡ Ok (xs, rest) → pairs_count xs ≡ n
unfolding pairs
pairs_read u v zero b xs rest e = sym (ap pairs_count (ok_is no_pairs xs b rest e).0)
pairs_read u v (suc n) b xs rest e =
    let a = bind_ok (u b) (λ p. and_then v (λ y. and_then (pairs u v n) (λ ys. pure (pair p.0 y ys))) p.1) (xs, rest) e in
    let d = bind_ok (v a.0.1) (λ p. and_then (pairs u v n) (λ ys. pure (pair a.0.0 p.0 ys)) p.1) (xs, rest) a.2 in
    pair_more a.0.0 d.0.0 n (pairs u v n d.0.1) xs rest (λ ys. pairs_read u v n d.0.1 ys rest) d.2

-- a list or a set
module _ (make : ℕ → Nodes → Node) (levels : ℕ) (b : List ℕ) where
  pub row_header_err : (d : Stop) → one (list_header levels) b ≡ Err d → sequence make levels (value levels) b ≡ Err d
  unfolding sequence
  row_header_err d h = rw h refl

  pub row_count_err : (h : ListHeader) (r : List ℕ) (d : Stop) → one (list_header levels) b ≡ Ok (h, r) → count levels h r ≡ Err d → sequence make levels (value levels) b ≡ Err d
  unfolding sequence
  row_count_err h r d e g = rw (e, g) refl

  row_is : (h : ListHeader) (r q : List ℕ) (n : ℕ) → one (list_header levels) b ≡ Ok (h, r) → count levels h r ≡ Ok (n, q)
      → sequence make levels (value levels) b ≡ (items (value levels (element h)) n q >>= λ p. Ok (make (code_of (element h)) p.0, p.1))
  unfolding sequence
  row_is h r q n e g = rw (e, g) refl

  -- its items are what is left
  abbrev pub IsRowOf : Kind → ℕ → List ℕ → Node → List ℕ → Type 0
  IsRowOf kind n q x rest = (xs : Nodes) × (x ≡ make (code_of kind) xs) × (nodes_count xs ≡ n) × (items (value levels kind) n q ≡ Ok (xs, rest)) × RowAt kind n b q

  pub row_open : (h : ListHeader) (kind : Kind) (r q : List ℕ) (n : ℕ) (x : Node) (rest : List ℕ) → AreBytes b → one (list_header levels) b ≡ Ok (h, r) → count levels h r ≡ Ok (n, q) → kind ≡ element h
      → sequence make levels (value levels) b ≡ Ok (x, rest) → IsRowOf kind n q x rest
  row_open h kind r q n x rest bytes e g same is = subst (λ (z : Kind). IsRowOf z n q x rest) (sym same) (by (items (value levels (element h)) n q) refl (sym (row_is h r q n e g) ∙ is))
    where
      by : (o : Result (Nodes × List ℕ) Stop) → items (value levels (element h)) n q ≡ o → (o >>= made_of (make (code_of (element h)))) ≡ Ok (x, rest) → IsRowOf (element h) n q x rest
      by (Ok p) i j =
          let o = ok_is (make (code_of (element h)) p.0) x p.1 rest j in
          let at = i ∙ ap (λ (z : List ℕ). Ok (p.0, z)) o.1 in
          (p.0, sym o.0, items_count (value levels (element h)) n q p.0 rest at, at, row_at levels b h r n q bytes e g)
      by (Err d) i j = absurd cc

abbrev Behind : ℕ → Event → Frame → List ℕ → List ℕ → Node → List ℕ → Type 0
Behind levels e g b q x rest = (es : List Event) × (events x ≡ e ∷ es) × ((0 < suc levels) × IsLeft (suc levels - 1) g es q rest) × Takes e b q

one_less : (levels : ℕ) (g : Frame) (es : List Event) (q rest : List ℕ) → IsLeft levels g es q rest → (0 < suc levels) × IsLeft (suc levels - 1) g es q rest
one_less levels g es q rest h = let e : levels ≡ suc levels - 1 = omega arith in (omega arith, subst (λ (l : ℕ). IsLeft l g es q rest) e h)

-- a header's bytes, where its code is told by another number
rows : (event : ℕ → ℕ → Event) (kind : Kind) (n : ℕ) (b q : List ℕ) → ((t : List ℕ) → IsListHeader kind n t → SpellsEvent (event (code_of kind) n) t) → RowAt kind n b q → (c : ℕ) → c ≡ code_of kind → Takes (event c n) b q
rows event kind n b q text a c e = (a.0, subst (λ (d : ℕ). SpellsEvent (event d n) a.0) (sym e) (text a.0 a.1), a.2)

pub list_opens : (levels : ℕ) (b : List ℕ) (kind : Kind) (c n : ℕ) (q : List ℕ) (x : Node) (rest : List ℕ) → IsRowOf list levels b kind n q x rest → c ≡ code_of kind
    → Behind levels (list_event c n) (f.Items kind n) b q x rest
list_opens levels b kind c n q x rest h e =
    let xs = h.0 in
    (events_in xs, ap events h.1 ∙ ap (λ (m : ℕ). list_event (code_of kind) m ∷ events_in xs) h.2 ∙ ap (λ (d : ℕ). list_event d n ∷ events_in xs) (sym e), one_less levels (f.Items kind n) (events_in xs) q rest (items_left levels kind n xs q rest h.3), rows list_event kind n b q (list_text kind n) h.4 c e)

pub set_opens : (levels : ℕ) (b : List ℕ) (kind : Kind) (c n : ℕ) (q : List ℕ) (x : Node) (rest : List ℕ) → IsRowOf set levels b kind n q x rest → c ≡ code_of kind
    → Behind levels (set_event c n) (f.Items kind n) b q x rest
set_opens levels b kind c n q x rest h e =
    let xs = h.0 in
    (events_in xs, ap events h.1 ∙ ap (λ (m : ℕ). set_event (code_of kind) m ∷ events_in xs) h.2 ∙ ap (λ (d : ℕ). set_event d n ∷ events_in xs) (sym e), one_less levels (f.Items kind n) (events_in xs) q rest (items_left levels kind n xs q rest h.3), rows set_event kind n b q (set_text kind n) h.4 c e)

-- a struct
pub struct_opens : (levels : ℕ) (b : List ℕ) (x : Node) (rest : List ℕ) → and_then (all_fields levels (value levels)) (λ xs. pure (structure xs)) b ≡ Ok (x, rest) → Behind levels struct_event (f.Fields (pos 0)) b b x rest
struct_opens levels b x rest e = by (all_fields levels (value levels) b) refl e
  where
    by : (o : Result (Fields × List ℕ) Stop) → all_fields levels (value levels) b ≡ o → (o >>= made_of structure) ≡ Ok (x, rest) → Behind levels struct_event (f.Fields (pos 0)) b b x rest
    by (Ok p) i j =
        let o = ok_is (structure p.0) x p.1 rest j in
        (events_in_fields p.0, sym (ap events o.0), one_less levels (f.Fields (pos 0)) (events_in_fields p.0) b rest (fields_left levels (pos 0) (suc (length b)) p.0 b rest (i ∙ ap (λ (z : List ℕ). Ok (p.0, z)) o.1)), ([], struct_text [] refl, refl))
    by (Err d) i j = absurd cc

-- a map
module _ (levels : ℕ) (b : List ℕ) (x : Node) (rest : List ℕ) (bytes : AreBytes b) (is : mapping levels (value levels) b ≡ Ok (x, rest)) where
  map_ends : (d : Stop) → number 4 most_bytes b ≡ Err d → mapping levels (value levels) b ≡ Err d
  unfolding mapping
  map_ends d h = rw h refl

  pub map_first_err : (d : Stop) → number 4 most_bytes b ≡ Err d → ⊥
  map_first_err d h = no_read (mapping levels (value levels) b) (x, rest) d is (map_ends d h)

  pub empty_map : (n : ℕ) (q : List ℕ) → number 4 most_bytes b ≡ Ok (n, q) → n ≡ 0 → (x ≡ map 0 0 no_pairs) × (q ≡ rest) × Takes (map_event 0 0 0) b q
  empty_map n q h z = let o = ok_is (map 0 0 no_pairs) x q rest (sym (mapping-none levels (value levels) b q n h z) ∙ is) in (sym o.0, o.1, no_map_takes b n q bytes h z)

  pub map_kinds_err : (n : ℕ) (q : List ℕ) (d : Stop) → number 4 most_bytes b ≡ Ok (n, q) → n ≢ 0 → one (map_header levels) q ≡ Err d → ⊥
  map_kinds_err n q d h some e = no_read (mapping levels (value levels) b) (x, rest) d is (mapping-some levels (value levels) b q n h some ∙ ends)
    where
      ends : and_then (one (map_header levels)) (mapping_pairs (value levels) n) q ≡ Err d
      ends = rw e refl

  pub map_opens : (n c d : ℕ) (q p : List ℕ) (kinds : PairKinds) → number 4 most_bytes b ≡ Ok (n, q) → n ≢ 0 → one (map_header levels) q ≡ Ok (kinds, p) → c ≡ code_of kinds.key → d ≡ code_of kinds.value
      → Behind levels (map_event c d n) (f.Keys kinds.key kinds.value n) b p x rest
  map_opens n c d q p kinds h some e ce de = by (pairs (value levels kinds.key) (value levels kinds.value) n p) refl (sym (mapping-pairs levels (value levels) b q p n kinds h some e) ∙ is)
    where
      by : (o : Result (Pairs × List ℕ) Stop) → pairs (value levels kinds.key) (value levels kinds.value) n p ≡ o → (o >>= made_of (map (code_of kinds.key) (code_of kinds.value))) ≡ Ok (x, rest)
          → Behind levels (map_event c d n) (f.Keys kinds.key kinds.value n) b p x rest
      by (Ok r) i j =
          let o = ok_is (map (code_of kinds.key) (code_of kinds.value) r.0) x r.1 rest j in
          let at = i ∙ ap (λ (z : List ℕ). Ok (r.0, z)) o.1 in
          let takes : Takes (map_event c d n) b p =
          subst (λ (k : ℕ). Takes (map_event c k n) b p) (sym de)
          (subst (λ (k : ℕ). Takes (map_event k (code_of kinds.value) n) b p) (sym ce)
          (map_takes levels b n q kinds p bytes h some e)) in
          let m = pairs_read (value levels kinds.key) (value levels kinds.value) n p r.0 rest at in (
            events_in_pairs r.0,
            sym (ap events o.0) ∙ ap (λ (k : ℕ). map_event (code_of kinds.key) (code_of kinds.value) k ∷ events_in_pairs r.0) m
                ∙ ap (λ (k : ℕ). map_event k (code_of kinds.value) n ∷ events_in_pairs r.0) (sym ce) ∙ ap (λ (k : ℕ). map_event c k n ∷ events_in_pairs r.0) (sym de),
            one_less levels (f.Keys kinds.key kinds.value n) (events_in_pairs r.0) p rest (pairs_left levels kinds.key kinds.value n r.0 p rest at),
            takes,
          )
      by (Err s) i j = absurd cc

-- ---- scalars

abbrev HasOne : Node → Type 0
HasOne x = events x ≡ first_event x ∷ []

abbrev made_by : {A : Type 0} → (A → Node) → A × List ℕ → Result (Node × List ℕ) Stop
made_by make p = Ok (make p.0, p.1)

abbrev taken_binary : ℕ × List ℕ → Result (Node × List ℕ) Stop
taken_binary p = taken p.0 p.1 >>= made_by binary

made : {A : Type 0} (make : A → Node) (r : Result (A × List ℕ) Stop) (w : Node) (rest : List ℕ) → ((x : A) → HasOne (make x)) → (r >>= made_by make) ≡ Ok (w, rest) → HasOne w
made make (Ok p) w rest one e = subst HasOne (ok_is (make p.0) w p.1 rest e).0 (one p.0)
made make (Err d) w rest one e = absurd cc

made_binary : (r : Result (ℕ × List ℕ) Stop) (w : Node) (rest : List ℕ) → (r >>= taken_binary) ≡ Ok (w, rest) → HasOne w
made_binary (Ok p) w rest e = made binary (taken p.0 p.1) w rest (λ x. refl) e
made_binary (Err d) w rest e = absurd cc

one_event : (kind : Kind) (b : List ℕ) (w : Node) (rest : List ℕ) → scalar kind b ≡ Ok (w, rest) → HasOne w
unfolding scalar
one_event k.Flag b w rest e = made flag (one element_flag b) w rest (λ x. refl) e
one_event k.I8 b w rest e = made i8 (one signed_byte b) w rest (λ x. refl) e
one_event k.I16 b w rest e = made i16 (signed 2 (2 ^ 16 - 1) b) w rest (λ x. refl) e
one_event k.I32 b w rest e = made i32 (signed 4 (2 ^ 32 - 1) b) w rest (λ x. refl) e
one_event k.I64 b w rest e = made i64 (signed 9 (2 ^ 64 - 1) b) w rest (λ x. refl) e
one_event k.Double b w rest e = made double (taken 8 b) w rest (λ x. refl) e
one_event k.Binary b w rest e = made_binary (number 4 most_bytes b) w rest e
one_event k.List b w rest e = absurd cc
one_event k.Set b w rest e = absurd cc
one_event k.Map b w rest e = absurd cc
one_event k.Struct b w rest e = absurd cc

pub scalar_opens : (kind : Kind) (b : List ℕ) (x : Node) (rest : List ℕ) (e : Event) (r : List ℕ) → AreBytes b → scalar kind b ≡ Ok (x, rest) → seen first_event (scalar kind b) ≡ Ok (e, r) → (es : List Event) × (events x ≡ e ∷ es) × ((es ≡ []) × (r ≡ rest)) × Takes e b r
scalar_opens kind b x rest e r bytes is h =
    let o = ok_is (first_event x) e rest r (sym (ap (seen first_event) is) ∙ h) in
    ([], one_event kind b x rest is ∙ ap (λ (z : Event). z ∷ []) o.0, (refl, sym o.1), subst (λ (z : Event). Takes z b r) o.0 (subst (Takes (first_event x) b) o.1 (scalar_takes kind b x rest bytes is)))

pub scalar_no : (kind : Kind) (b : List ℕ) (x : Node) (rest : List ℕ) (d : Stop) → scalar kind b ≡ Ok (x, rest) → seen first_event (scalar kind b) ≡ Err d → ⊥
scalar_no kind b x rest d is h = let q : Ok (first_event x, rest) ≡ Err d = sym (ap (seen first_event) is) ∙ h in cc

-- ---- a struct by itself

fields_more : (xs : Fields) → events_in_fields xs ≡ [] → ⊥
fields_more no_fields e = cc
fields_more (field id x xs) e = cc

-- no scalar is a struct
no_scalar : (kind : Kind) (b : List ℕ) (xs : Fields) (rest : List ℕ) → scalar kind b ≡ Ok (structure xs, rest) → ⊥
no_scalar kind b xs rest e = let one = one_event kind b (structure xs) rest e in fields_more xs cc

begins_by : (l : ℕ) (kind : Kind) (b : List ℕ) (xs : Fields) (rest : List ℕ) → l ≤ 64 → AreBytes b → value l kind b ≡ Ok (structure xs, rest) → BeginsStruct b (events_in_fields xs) rest
begins_by zero kind b xs rest le h e = absurd (no_scalar kind b xs rest (sym (ap (λ (r : ByteReader Node). r b) (value-zero 0 kind refl)) ∙ e))
begins_by (suc l) kind b xs rest le h e =
    let s = ((value_layer (suc l)).exact kind refl (suc (length b))).sound b (structure xs) rest h (omega arith) e in
    record { fields = xs; text = s.0; spelled = struct_alone (suc l) kind xs s.0 le s.1; parts = s.2; behind = refl }

pub struct_begins : (l : ℕ) (kind : Kind) (b : List ℕ) (x : Node) (rest : List ℕ) (es : List Event) → l ≤ 64 → AreBytes b → value l kind b ≡ Ok (x, rest) → events x ≡ struct_event ∷ es → BeginsStruct b es rest
struct_begins l kind b (structure xs) rest es le h e is = let same : events_in_fields xs ≡ es = cc in subst (λ (z : List Event). BeginsStruct b z rest) same (begins_by l kind b xs rest le h e)
struct_begins l kind b (flag z) rest es le h e is = absurd cc
struct_begins l kind b (i8 z) rest es le h e is = absurd cc
struct_begins l kind b (i16 z) rest es le h e is = absurd cc
struct_begins l kind b (i32 z) rest es le h e is = absurd cc
struct_begins l kind b (i64 z) rest es le h e is = absurd cc
struct_begins l kind b (double z) rest es le h e is = absurd cc
struct_begins l kind b (binary z) rest es le h e is = absurd cc
struct_begins l kind b (list c xs) rest es le h e is = absurd cc
struct_begins l kind b (set c xs) rest es le h e is = absurd cc
struct_begins l kind b (map a v xs) rest es le h e is = absurd cc
