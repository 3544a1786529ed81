-- Values that are no containers, and values of another code than the type.
use Rattle.std.proofs.Common.{◌≡◌, ◌≢◌, ℕ, zero, suc, ◌+◌, ◌-◌, ◌^◌, nat_eq, List, [], ◌∷◌, Bool, true, false, Some, Result, Ok, Err, refl, sym, ap, subst, ◌∙◌, arith}
use Rattle.std.specs.Str.{is_utf8}
use Rattle.std.proofs.lemmas.Bool.Decides.{nat_tests}
use Rattle.frozen_model.specs.Values.{Value, Atom, One, Bytes}
use Rattle.exact_reading.specs.declared.stop.Stop.{Stop}
use Rattle.exact_reading.specs.Reading.{◌>>=◌, and_then, pure, one, taken, seen, left}
use Rattle.exact_reading.proofs.Items.{ok_is, bind_ok}
use Rattle.compact_wire.specs.declared.kind.Kind.{Kind}
use Rattle.compact_wire.specs.declared.kind.Kind.TheVariants as k
use Rattle.compact_wire.specs.Node.{Node, flag, i8, i16, i32, i64, double, binary, list, set, map, structure, Nodes, no_pairs, Fields}
use Rattle.compact_wire.specs.Bytes.{ByteReader}
use Rattle.compact_wire.specs.Codes.{code_of}
use Rattle.compact_wire.specs.declared.header.ListHeader.{ListHeader}
use Rattle.compact_wire.specs.Reads.{scalar, number, signed, most_bytes, element_flag, signed_byte, value, container, items, sequence, list_header, count, element, mapping, map_tail, map_header, mapping_pairs, pairs, all_fields}
use Rattle.wire_scan.proofs.Seen.{seen_ok, seen_err}
use Rattle.wire_scan.specs.Sizes.{size}
use Rattle.idl_profile.specs.Types.{TypeTree, text, bytes, list_of, set_of, map_of, named, enum_of, struct_of, kind_of}
use Rattle.idl_profile.specs.Types.{scalar as scalar_type, flag as flag_type, i8 as i8_type, i16 as i16_type, i32 as i32_type, i64 as i64_type}
use Rattle.idl_profile.specs.declared.kinds.TypeKind.TheVariants as kinds
use Rattle.typed_reading.specs.declared.fault.NodeFault.TheVariants.{WrongType, BadText}
use Rattle.typed_reading.specs.declared.progress.Progress.{Progress}
use Rattle.typed_reading.specs.Codes.{code, code_of_node, meets}
use Rattle.typed_reading.specs.Keys.{key_value}
use Rattle.typed_reading.specs.Faults.{bad_text, here, faults, lesser}
use Rattle.typed_reading.specs.Marks.{IsLeaf, IsLeafAs}
use Rattle.typed_reading.specs.Progress.{after, key_and_after, inside, with}
use Rattle.typed_reading.proofs.Steps.{progress, on_none, on_one, unmet, other_code, same_code}

-- ---- scalars

abbrev made_by : {A : Type 0} → (A → Node) → A × List ℕ → Result (Node × List ℕ) Stop
made_by make p = Ok (make p.0, p.1)

abbrev taken_binary : ℕ × List ℕ → Result (Node × List ℕ) Stop
taken_binary p = taken p.0 p.1 >>= made_by binary

abbrev pub IsLeafOf : Kind → Node → Type 0
IsLeafOf kind w = (code_of_node w ≡ code_of kind) × IsLeaf w × (size w ≡ 1)

made : {A : Type 0} (kind : Kind) (make : A → Node) (r : Result (A × List ℕ) Stop) (w : Node) (rest : List ℕ) → ((x : A) → IsLeafOf kind (make x)) → (r >>= made_by make) ≡ Ok (w, rest) → IsLeafOf kind w
made kind make (Ok p) w rest one e = subst (IsLeafOf kind) (ok_is (make p.0) w p.1 rest e).0 (one p.0)
made kind make (Err d) w rest one e = absurd cc

made_binary : (r : Result (ℕ × List ℕ) Stop) (w : Node) (rest : List ℕ) → (r >>= taken_binary) ≡ Ok (w, rest) → IsLeafOf k.Binary w
made_binary (Ok p) w rest e = made k.Binary binary (taken p.0 p.1) w rest (λ x. (refl, tt, refl)) e
made_binary (Err d) w rest e = absurd cc

pub scalar_leaf : (kind : Kind) (b : List ℕ) (w : Node) (rest : List ℕ) → scalar kind b ≡ Ok (w, rest) → IsLeafOf kind w
unfolding scalar
scalar_leaf k.Flag b w rest e = made k.Flag flag (one element_flag b) w rest (λ x. (refl, tt, refl)) e
scalar_leaf k.I8 b w rest e = made k.I8 i8 (one signed_byte b) w rest (λ x. (refl, tt, refl)) e
scalar_leaf k.I16 b w rest e = made k.I16 i16 (signed 2 (2 ^ 16 - 1) b) w rest (λ x. (refl, tt, refl)) e
scalar_leaf k.I32 b w rest e = made k.I32 i32 (signed 4 (2 ^ 32 - 1) b) w rest (λ x. (refl, tt, refl)) e
scalar_leaf k.I64 b w rest e = made k.I64 i64 (signed 9 (2 ^ 64 - 1) b) w rest (λ x. (refl, tt, refl)) e
scalar_leaf k.Double b w rest e = made k.Double double (taken 8 b) w rest (λ x. (refl, tt, refl)) e
scalar_leaf k.Binary b w rest e = made_binary (number 4 most_bytes b) w rest e
scalar_leaf k.List b w rest e = absurd cc
scalar_leaf k.Set b w rest e = absurd cc
scalar_leaf k.Map b w rest e = absurd cc
scalar_leaf k.Struct b w rest e = absurd cc

fine_text : (t : TypeTree) (b : List ℕ) → kind_of t ≢ kinds.Text → bad_text t b ≡ []
fine_text text b ne = absurd (ne refl)
fine_text bytes b ne = refl
fine_text (scalar_type s) b ne = refl
fine_text (list_of t) b ne = refl
fine_text (set_of t) b ne = refl
fine_text (map_of x y) b ne = refl
fine_text (named (enum_of n ms)) b ne = refl
fine_text (named (struct_of n fs)) b ne = refl

pub plain : (w : Node) (t : TypeTree) (at : ℕ) → IsLeaf w → kind_of t ≢ kinds.Text → code_of_node w ≡ code t → faults w t at ≡ []
plain (flag b) t at leaf ne e = let h = same_code (flag b) t e in rw h refl
plain (i8 z) t at leaf ne e = let h = same_code (i8 z) t e in rw h refl
plain (i16 z) t at leaf ne e = let h = same_code (i16 z) t e in rw h refl
plain (i32 z) t at leaf ne e = let h = same_code (i32 z) t e in rw h refl
plain (i64 z) t at leaf ne e = let h = same_code (i64 z) t e in rw h refl
plain (double z) t at leaf ne e = let h = same_code (double z) t e in rw h refl
plain (binary b) t at leaf ne e = let h = same_code (binary b) t e in rw (h, fine_text t b ne) refl
plain (list c xs) t at leaf ne e = absurd leaf
plain (set c xs) t at leaf ne e = absurd leaf
plain (map a b xs) t at leaf ne e = absurd leaf
plain (structure xs) t at leaf ne e = absurd leaf

-- a value that no text type has, seen as the progress behind it
pub plain_seen : (t : TypeTree) (s : Progress) (kind : Kind) (b rest : List ℕ) → kind_of t ≢ kinds.Text → code_of kind ≡ code t → left (scalar kind b) ≡ Ok rest → seen (after t s) (scalar kind b) ≡ Ok (inside s, rest)
plain_seen t s kind b rest ne c e = by (scalar kind b) refl e
  where
    by : (r : Result (Node × List ℕ) Stop) → scalar kind b ≡ r → left r ≡ Ok rest → seen (after t s) r ≡ Ok (inside s, rest)
    by (Ok (w, more)) is h =
        let l = scalar_leaf kind b w more is in
        let same : more ≡ rest = cc in
        let none : faults w t s.next ≡ [] = plain w t s.next l.1 ne (l.0 ∙ c) in
        let p : after t s w ≡ inside s = on_none s (faults w t s.next) (size w) none ∙ ap (λ (n : ℕ). progress s.found (s.next + n)) l.2 in
        ap (λ (x : Progress). Ok (x, more)) p ∙ ap (λ (z : List ℕ). Ok (inside s, z)) same
    by (Err d) is h = absurd cc

pub left_err : {A : Type 0} (g : Node → A) (r : Result (Node × List ℕ) Stop) (d : Stop) → left r ≡ Err d → seen g r ≡ Err d
left_err g (Ok p) d h = absurd cc
left_err g (Err c) d h = let same : c ≡ d = cc in ap Err same

-- ---- texts

pub read_binary : (b : List ℕ) (n : ℕ) (rest x more : List ℕ) → number 4 most_bytes b ≡ Ok (n, rest) → taken n rest ≡ Ok (x, more) → scalar k.Binary b ≡ Ok (binary x, more)
unfolding scalar
read_binary b n rest x more h e = rw (h, e) refl

module _ (s : Progress) (b : List ℕ) where
  pub text_number_err : (d : Stop) → number 4 most_bytes b ≡ Err d → seen (after text s) (scalar k.Binary b) ≡ Err d
  unfolding scalar
  text_number_err d h = rw h refl

  pub text_taken_err : (n : ℕ) (rest : List ℕ) (d : Stop) → number 4 most_bytes b ≡ Ok (n, rest) → taken n rest ≡ Err d → seen (after text s) (scalar k.Binary b) ≡ Err d
  unfolding scalar
  text_taken_err n rest d h e = rw (h, e) refl

  pub text_fine : (n : ℕ) (rest x more : List ℕ) → number 4 most_bytes b ≡ Ok (n, rest) → taken n rest ≡ Ok (x, more) → is_utf8 x ≡ true → seen (after text s) (scalar k.Binary b) ≡ Ok (inside s, more)
  text_fine n rest x more h e u =
      let none : faults (binary x) text s.next ≡ [] = rw u refl in
      ap (seen (after text s)) (read_binary b n rest x more h e) ∙ ap (λ (p : Progress). Ok (p, more)) (on_none s (faults (binary x) text s.next) 1 none)

  pub text_bad : (n : ℕ) (rest x more : List ℕ) → number 4 most_bytes b ≡ Ok (n, rest) → taken n rest ≡ Ok (x, more) → is_utf8 x ≡ false → seen (after text s) (scalar k.Binary b) ≡ Ok (with s BadText (s.next + 1), more)
  text_bad n rest x more h e u =
      let one : faults (binary x) text s.next ≡ here s.next BadText ∷ [] = rw u refl in
      ap (seen (after text s)) (read_binary b n rest x more h e) ∙ ap (λ (p : Progress). Ok (p, more)) (on_one s (faults (binary x) text s.next) 1 (here s.next BadText) one)

pub is_text : (t : TypeTree) → kind_of t ≡ kinds.Text → t ≡ text
is_text text e = refl
is_text bytes e = absurd cc
is_text (scalar_type flag_type) e = absurd cc
is_text (scalar_type i8_type) e = absurd cc
is_text (scalar_type i16_type) e = absurd cc
is_text (scalar_type i32_type) e = absurd cc
is_text (scalar_type i64_type) e = absurd cc
is_text (list_of t) e = absurd cc
is_text (set_of t) e = absurd cc
is_text (map_of x y) e = absurd cc
is_text (named (enum_of n ms)) e = absurd cc
is_text (named (struct_of n fs)) e = absurd cc

pub is_binary : (kind : Kind) → code_of kind ≡ 8 → kind ≡ k.Binary
is_binary k.Binary e = refl
is_binary k.Flag e = absurd (omega arith)
is_binary k.I8 e = absurd (omega arith)
is_binary k.I16 e = absurd (omega arith)
is_binary k.I32 e = absurd (omega arith)
is_binary k.I64 e = absurd (omega arith)
is_binary k.Double e = absurd (omega arith)
is_binary k.List e = absurd (omega arith)
is_binary k.Set e = absurd (omega arith)
is_binary k.Map e = absurd (omega arith)
is_binary k.Struct e = absurd (omega arith)

pub text_seen : (t : TypeTree) (s : Progress) (kind : Kind) (b : List ℕ) → kind_of t ≡ kinds.Text → code_of kind ≡ code t → seen (after text s) (scalar k.Binary b) ≡ seen (after t s) (scalar kind b)
text_seen t s kind b e c =
    let is = is_text t e in
    let bin = is_binary kind (c ∙ ap code is) in
    sym (ap (λ (u : TypeTree). seen (after u s) (scalar kind b)) is ∙ ap (λ (z : Kind). seen (after text s) (scalar z b)) bin)

-- ---- keys

leaf_size : (w : Node) → IsLeaf w → size w ≡ 1
leaf_size (flag b) l = refl
leaf_size (i8 z) l = refl
leaf_size (i16 z) l = refl
leaf_size (i32 z) l = refl
leaf_size (i64 z) l = refl
leaf_size (double b) l = refl
leaf_size (binary b) l = refl
leaf_size (list c xs) l = absurd l
leaf_size (set c xs) l = absurd l
leaf_size (map a b xs) l = absurd l
leaf_size (structure xs) l = absurd l

pub other_key : (t : TypeTree) (s : Progress) (w : Node) → kind_of t ≢ kinds.Text → IsLeafAs t w → inside s ≡ after t s w
other_key t s w ne l =
    sym (on_none s (faults w t s.next) (size w) (plain w t s.next l.leaf ne l.same) ∙ ap (λ (n : ℕ). progress s.found (s.next + n)) (leaf_size w l.leaf))

-- a value of a text's code is bytes
text_leaf : (w : Node) → IsLeafAs text w → (b : List ℕ) × (w ≡ binary b)
text_leaf (binary b) l = (b, refl)
text_leaf (flag b) l = absurd (let e = l.same in omega (arith, e))
text_leaf (i8 z) l = absurd (let e = l.same in omega (arith, e))
text_leaf (i16 z) l = absurd (let e = l.same in omega (arith, e))
text_leaf (i32 z) l = absurd (let e = l.same in omega (arith, e))
text_leaf (i64 z) l = absurd (let e = l.same in omega (arith, e))
text_leaf (double b) l = absurd (let e = l.same in omega (arith, e))
text_leaf (list c xs) l = absurd l.leaf
text_leaf (set c xs) l = absurd l.leaf
text_leaf (map a b xs) l = absurd l.leaf
text_leaf (structure xs) l = absurd l.leaf

text_bytes : (w : Node) (x : List ℕ) → IsLeafAs text w → key_value w ≡ Bytes x → w ≡ binary x
text_bytes w x l e =
    let b = text_leaf w l in
    let same : Bytes b.0 ≡ Bytes x = sym (ap key_value b.1) ∙ e in
    let is : b.0 ≡ x = cc in
    b.1 ∙ ap binary is

pub no_text_key : (w : Node) (a : Atom) → IsLeafAs text w → key_value w ≡ One a → ⊥
no_text_key w a l e = let b = text_leaf w l in let same : Bytes b.0 ≡ One a = sym (ap key_value b.1) ∙ e in cc

pub text_key_fine : (s : Progress) (w : Node) (x : List ℕ) → IsLeafAs text w → key_value w ≡ Bytes x → is_utf8 x ≡ true → inside s ≡ after text s w
text_key_fine s w x l e u =
    let none : faults (binary x) text s.next ≡ [] = rw u refl in
    sym (ap (after text s) (text_bytes w x l e) ∙ on_none s (faults (binary x) text s.next) 1 none)

pub text_key_bad : (s : Progress) (w : Node) (x : List ℕ) → IsLeafAs text w → key_value w ≡ Bytes x → is_utf8 x ≡ false → with s BadText (s.next + 1) ≡ after text s w
text_key_bad s w x l e u =
    let one : faults (binary x) text s.next ≡ here s.next BadText ∷ [] = rw u refl in
    sym (ap (after text s) (text_bytes w x l e) ∙ on_one s (faults (binary x) text s.next) 1 (here s.next BadText) one)

module _ (t : TypeTree) (s : Progress) (kind : Kind) (b : List ℕ) (same : code_of kind ≡ code t) where
  pub key_seen : (v : Value) (last : Progress) (rest : List ℕ) → seen key_value (scalar kind b) ≡ Ok (v, rest) → ((w : Node) → IsLeafAs t w → key_value w ≡ v → last ≡ after t s w)
      → seen (key_and_after t s) (scalar kind b) ≡ Ok ((last, (s.next, v)), rest)
  key_seen v last rest e h =
      let x = seen_ok key_value (scalar kind b) v rest e in
      let l = scalar_leaf kind b x.0 rest x.1 in
      let is = h x.0 (record { leaf = l.1; same = l.0 ∙ same }) x.2 in
      ap (seen (key_and_after t s)) x.1 ∙ ap (λ (p : Progress). Ok ((p, (s.next, key_value x.0)), rest)) (sym is) ∙ ap (λ (u : Value). Ok ((last, (s.next, u)), rest)) x.2

  pub key_next : (v : Value) (last : Progress) (rest : List ℕ) → seen key_value (scalar kind b) ≡ Ok (v, rest) → ((w : Node) → IsLeafAs t w → key_value w ≡ v → last ≡ after t s w) → last.next ≡ s.next + 1
  key_next v last rest e h =
      let x = seen_ok key_value (scalar kind b) v rest e in
      let l = scalar_leaf kind b x.0 rest x.1 in
      let is = h x.0 (record { leaf = l.1; same = l.0 ∙ same }) x.2 in
      ap (λ (p : Progress). p.next) is ∙ ap (λ (n : ℕ). s.next + n) l.2

  pub key_seen_err : (d : Stop) → seen key_value (scalar kind b) ≡ Err d → seen (key_and_after t s) (scalar kind b) ≡ Err d
  key_seen_err d e = ap (seen (key_and_after t s)) (seen_err key_value (scalar kind b) d e)

-- ---- codes of nodes

abbrev pub one_header : ℕ → ByteReader ListHeader
one_header levels = one (list_header levels)

-- a value of a kind has that kind's code
abbrev pub HasCode : Kind → Node → Type 0
HasCode kind w = code_of_node w ≡ code_of kind

row_code : (kind : Kind) (make : ℕ → Nodes → Node) (levels : ℕ) (v : Kind → ByteReader Node) (b : List ℕ) (w : Node) (rest : List ℕ) → ((c : ℕ) (xs : Nodes) → HasCode kind (make c xs)) → sequence make levels v b ≡ Ok (w, rest) → HasCode kind w
unfolding sequence
row_code kind make levels v b w rest one e =
    let a = bind_ok (one_header levels b) (λ p. and_then (count levels p.0) (λ n. and_then (items (v (element p.0)) n) (λ xs. pure (make (code_of (element p.0)) xs))) p.1) (w, rest) e in
    let d = bind_ok (count levels a.0.0 a.0.1) (λ p. and_then (items (v (element a.0.0)) p.0) (λ xs. pure (make (code_of (element a.0.0)) xs)) p.1) (w, rest) a.2 in
    let f = bind_ok (items (v (element a.0.0)) d.0.0 d.0.1) (λ p. pure (make (code_of (element a.0.0)) p.0) p.1) (w, rest) d.2 in
    subst (HasCode kind) (ok_is (make (code_of (element a.0.0)) f.0.0) w f.0.1 rest f.2).0 (one (code_of (element a.0.0)) f.0.0)

map_code : (levels : ℕ) (v : Kind → ByteReader Node) (b : List ℕ) (w : Node) (rest : List ℕ) → mapping levels v b ≡ Ok (w, rest) → HasCode k.Map w
unfolding mapping
map_code levels v b w rest e = let a = bind_ok (number 4 most_bytes b) (λ p. map_tail levels v p.0 p.1) (w, rest) e in tail a.0.0 a.0.1 a.2
  where
    tail : (n : ℕ) (c : List ℕ) → map_tail levels v n c ≡ Ok (w, rest) → HasCode k.Map w
    tail zero c h = subst (HasCode k.Map) (ok_is (map 0 0 no_pairs) w c rest h).0 refl
    tail (suc n) c h =
        let a = bind_ok (one (map_header levels) c) (λ p. mapping_pairs v (suc n) p.0 p.1) (w, rest) h in
        let d = bind_ok (pairs (v a.0.0.key) (v a.0.0.value) (suc n) a.0.1) (λ p. pure (map (code_of a.0.0.key) (code_of a.0.0.value) p.0) p.1) (w, rest) a.2 in
        subst (HasCode k.Map) (ok_is (map (code_of a.0.0.key) (code_of a.0.0.value) d.0.0) w d.0.1 rest d.2).0 refl

struct_code : (r : Result (Fields × List ℕ) Stop) (w : Node) (rest : List ℕ) → (r >>= λ p. pure (structure p.0) p.1) ≡ Ok (w, rest) → HasCode k.Struct w
struct_code r w rest e = let a = bind_ok r (λ p. pure (structure p.0) p.1) (w, rest) e in subst (HasCode k.Struct) (ok_is (structure a.0.0) w a.0.1 rest a.2).0 refl

container_code : (levels : ℕ) (v : Kind → ByteReader Node) (kind : Kind) (b : List ℕ) (w : Node) (rest : List ℕ) → container levels v kind b ≡ Ok (w, rest) → HasCode kind w
container_code levels v k.List b w rest e = row_code k.List list levels v b w rest (λ c xs. refl) e
container_code levels v k.Set b w rest e = row_code k.Set set levels v b w rest (λ c xs. refl) e
container_code levels v k.Map b w rest e = map_code levels v b w rest e
container_code levels v k.Struct b w rest e = struct_code (all_fields levels v b) w rest e
container_code levels v k.Flag b w rest e = (scalar_leaf k.Flag b w rest e).0
container_code levels v k.I8 b w rest e = (scalar_leaf k.I8 b w rest e).0
container_code levels v k.I16 b w rest e = (scalar_leaf k.I16 b w rest e).0
container_code levels v k.I32 b w rest e = (scalar_leaf k.I32 b w rest e).0
container_code levels v k.I64 b w rest e = (scalar_leaf k.I64 b w rest e).0
container_code levels v k.Double b w rest e = (scalar_leaf k.Double b w rest e).0
container_code levels v k.Binary b w rest e = (scalar_leaf k.Binary b w rest e).0

pub value_code : (levels : ℕ) (kind : Kind) (b : List ℕ) (w : Node) (rest : List ℕ) → value levels kind b ≡ Ok (w, rest) → HasCode kind w
unfolding value
value_code zero kind b w rest e = (scalar_leaf kind b w rest e).0
value_code (suc levels) kind b w rest e = container_code levels (value levels) kind b w rest e

-- ---- values of another code

module _ (t : TypeTree) (s : Progress) where
  wrong : (w : Node) (n : ℕ) → meets t w ≡ false → s.next + size w ≡ n → after t s w ≡ with s WrongType n
  wrong w n m e = on_one s (faults w t s.next) (size w) (here s.next WrongType) (unmet w t s.next m) ∙ ap (progress (lesser s.found (Some (here s.next WrongType)))) e

  pub wrong_value : (levels : ℕ) (kind : Kind) (b rest : List ℕ) (n : ℕ) → (code_of kind ≡ code t → ⊥) → seen (λ (w : Node). s.next + size w) (value levels kind b) ≡ Ok (n, rest) → seen (after t s) (value levels kind b) ≡ Ok (with s WrongType n, rest)
  wrong_value levels kind b rest n ne e =
      let x = seen_ok (λ (w : Node). s.next + size w) (value levels kind b) n rest e in
      let m : meets t x.0 ≡ false = other_code x.0 t (λ h. ne (sym (value_code levels kind b x.0 rest x.1) ∙ h)) in
      ap (seen (after t s)) x.1 ∙ ap (λ (p : Progress). Ok (p, rest)) (wrong x.0 n m x.2)

  pub wrong_flag : (x : Bool) (b : List ℕ) → (code t ≡ 1 → ⊥) → seen {E = Stop} (after t s) (pure (flag x) b) ≡ Ok (with s WrongType (s.next + 1), b)
  wrong_flag x b ne = ap (λ (p : Progress). Ok (p, b)) (wrong (flag x) (s.next + 1) (other_code (flag x) t (λ h. ne (sym h))) refl)

  pub fine_flag : (x : Bool) (b : List ℕ) → code t ≡ 1 → seen {E = Stop} (after t s) (pure (flag x) b) ≡ Ok (inside s, b)
  fine_flag x b e =
      let h : nat_eq 1 (code t) ≡ true = grind (arith, nat_tests) in
      let none : faults (flag x) t s.next ≡ [] = rw h refl in
      ap (λ (p : Progress). Ok (p, b)) (on_none s (faults (flag x) t s.next) 1 none)
