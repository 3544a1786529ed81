-- The steps of passing over values.
use Rattle.std.proofs.Common.{◌≡◌, ◌≢◌, ℕ, suc, ◌-◌, ◌+◌, ◌<◌, List, Result, Ok, Err, refl, sym, ap, ◌∙◌, arith, ◌^◌, ◌⊎◌, inl, inr}
use Rattle.std.specs.Prelude.{ℤ}
use Rattle.exact_reading.specs.declared.stop.Stop.{Stop}
use Rattle.exact_reading.specs.Reading.{◌>>=◌, and_then}
use Rattle.compact_wire.specs.declared.kind.Kind.{Kind}
use Rattle.compact_wire.specs.Node.{Node, Nodes, no_nodes, node, Pairs, no_pairs, pair, Fields, no_fields, field, structure}
use Rattle.compact_wire.specs.Bytes.{ByteReader}
use Rattle.compact_wire.specs.declared.kind.Kind.TheVariants as k
use Rattle.compact_wire.specs.declared.header.PairKinds.{PairKinds}
use Rattle.compact_wire.specs.Node.{flag, i8, i16, i32, i64, double, binary, list, set, map}
use Rattle.compact_wire.specs.Codes.{code_of}
use Rattle.compact_wire.specs.Reads.{pairs, value, scalar, sequence, mapping, mapping_pairs, number, most_bytes, map_header, container, element_flag, signed_byte, signed}
use Rattle.exact_reading.specs.Reading.{one, taken}
use Rattle.exact_reading.proofs.Items.{ok_is}
use Rattle.compact_wire.proofs.ReadSteps.{value-step, mapping-none, mapping-some, mapping-pairs}
use Rattle.exact_reading.specs.Reading.{seen, left}
use Rattle.wire_scan.specs.Scans.{IsRow}
use Rattle.wire_scan.specs.Sizes.{size, sizes, sizes_of_pairs, sizes_of_fields}
use Rattle.wire_scan.proofs.Seen.{Reading, seen_made}

abbrev pub past : ℕ → Node → ℕ
past n x = n + size x

abbrev pub past_field : ℕ → ℤ → Node → ℕ
past_field n id x = n + size x

abbrev pub past_all : ℕ → Nodes → ℕ
past_all n xs = n + sizes xs

abbrev pub past_pairs : ℕ → Pairs → ℕ
past_pairs n xs = n + sizes_of_pairs xs

abbrev pub past_fields : ℕ → Fields → ℕ
past_fields n xs = n + sizes_of_fields xs

pub no_more : (n : ℕ) → past_all n no_nodes ≡ n
no_more n = omega arith

pub one_more : (n : ℕ) (x : Node) (xs : Nodes) → past_all n (node x xs) ≡ past_all (past n x) xs
one_more n x xs = omega arith

pub no_more_pairs : (n : ℕ) → past_pairs n no_pairs ≡ n
no_more_pairs n = omega arith

pub one_more_pair : (n : ℕ) (x y : Node) (xs : Pairs) → past_pairs n (pair x y xs) ≡ past_pairs (past (past n x) y) xs
one_more_pair n x y xs = omega arith

pub no_more_fields : (n : ℕ) → past_fields n no_fields ≡ n
no_more_fields n = omega arith

pub one_more_field : (n : ℕ) (id : ℤ) (x : Node) (xs : Fields) → past_fields n (field id x xs) ≡ past_fields (past_field n id x) xs
one_more_field n id x xs = omega arith

abbrev pub Skipping : ℕ → ℕ → ℤ → List ℕ → Result (ℕ × List ℕ) Stop → Type 0
Skipping levels n before rest total = Reading past_field past_fields no_more_fields one_more_field levels n before rest total

-- ---- scalars

abbrev made_by : {A : Type 0} → (A → Node) → A × List ℕ → Result (Node × List ℕ) Stop
made_by make p = Ok (make p.0, p.1)

abbrev taken_binary : ℕ × List ℕ → Result (Node × List ℕ) Stop
taken_binary p = taken p.0 p.1 >>= made_by binary

made : {A : Type 0} (make : A → Node) (r : Result (A × List ℕ) Stop) (w : Node) (rest : List ℕ) → ((x : A) → size (make x) ≡ 1) → (r >>= made_by make) ≡ Ok (w, rest) → size w ≡ 1
made make (Ok p) w rest one e = sym (ap size (ok_is (make p.0) w p.1 rest e).0) ∙ one p.0
made make (Err d) w rest one e = absurd cc

made_binary : (r : Result (ℕ × List ℕ) Stop) (w : Node) (rest : List ℕ) → (r >>= taken_binary) ≡ Ok (w, rest) → size w ≡ 1
made_binary (Ok p) w rest e = made binary (taken p.0 p.1) w rest (λ x. refl) e
made_binary (Err d) w rest e = absurd cc

pub scalar_size : (kind : Kind) (b : List ℕ) (w : Node) (rest : List ℕ) → scalar kind b ≡ Ok (w, rest) → size w ≡ 1
unfolding scalar
scalar_size k.Flag b w rest e = made flag (one element_flag b) w rest (λ x. refl) e
scalar_size k.I8 b w rest e = made i8 (one signed_byte b) w rest (λ x. refl) e
scalar_size k.I16 b w rest e = made i16 (signed 2 (2 ^ 16 - 1) b) w rest (λ x. refl) e
scalar_size k.I32 b w rest e = made i32 (signed 4 (2 ^ 32 - 1) b) w rest (λ x. refl) e
scalar_size k.I64 b w rest e = made i64 (signed 9 (2 ^ 64 - 1) b) w rest (λ x. refl) e
scalar_size k.Double b w rest e = made double (taken 8 b) w rest (λ x. refl) e
scalar_size k.Binary b w rest e = made_binary (number 4 most_bytes b) w rest e
scalar_size k.List b w rest e = absurd cc
scalar_size k.Set b w rest e = absurd cc
scalar_size k.Map b w rest e = absurd cc
scalar_size k.Struct b w rest e = absurd cc

pub leaf_ok : (kind : Kind) (b rest : List ℕ) (at : ℕ) → left (scalar kind b) ≡ Ok rest → seen (λ (w : Node). at + size w) (scalar kind b) ≡ Ok (at + 1, rest)
leaf_ok kind b rest at e = by (scalar kind b) refl e
  where
    by : (r : Result (Node × List ℕ) Stop) → scalar kind b ≡ r → left r ≡ Ok rest → seen (λ (w : Node). at + size w) r ≡ Ok (at + 1, rest)
    by (Ok (w, after)) is h = let one : size w ≡ 1 = scalar_size kind b w after is in let same : after ≡ rest = cc in ap (λ (n : ℕ). Ok (at + n, after)) one ∙ ap (λ (z : List ℕ). Ok (at + 1, z)) same
    by (Err d) is h = absurd cc

pub leaf_err : (kind : Kind) (b : List ℕ) (at : ℕ) (d : Stop) → left (scalar kind b) ≡ Err d → seen (λ (w : Node). at + size w) (scalar kind b) ≡ Err d
leaf_err kind b at d e = by (scalar kind b) e
  where
    by : (r : Result (Node × List ℕ) Stop) → left r ≡ Err d → seen (λ (w : Node). at + size w) r ≡ Err d
    by (Ok p) h = absurd cc
    by (Err c) h = let same : c ≡ d = cc in ap Err same

-- ---- containers

pub row_step : (levels : ℕ) (kind : Kind) (b : List ℕ) → 0 < levels → (kind ≡ k.List) ⊎ (kind ≡ k.Set) → (make : ℕ → Nodes → Node) × IsRow make × (value levels kind b ≡ sequence make (levels - 1) (value (levels - 1)) b)
row_step levels kind b lt (inl e) = (list, (λ c xs. refl), ap (λ (r : ByteReader Node). r b) (value-step levels kind lt ∙ ap (container (levels - 1) (value (levels - 1))) e))
row_step levels kind b lt (inr e) = (set, (λ c xs. refl), ap (λ (r : ByteReader Node). r b) (value-step levels kind lt ∙ ap (container (levels - 1) (value (levels - 1))) e))

module _ (levels at : ℕ) (b : List ℕ) where
  map_seen : (r : Result (Node × List ℕ) Stop) → Result (ℕ × List ℕ) Stop
  map_seen r = seen (λ (w : Node). at + size w) r

  pub map_first : (d : Stop) → number 4 most_bytes b ≡ Err d → seen (λ (w : Node). at + size w) (mapping levels (value levels) b) ≡ Err d
  unfolding mapping
  map_first d h = rw h refl

  pub map_none : (n : ℕ) (rest : List ℕ) → number 4 most_bytes b ≡ Ok (n, rest) → n ≡ 0 → seen (λ (w : Node). at + size w) (mapping levels (value levels) b) ≡ Ok (at + 1, rest)
  map_none n rest h z = ap (seen (λ (w : Node). at + size w)) (mapping-none levels (value levels) b rest n h z)

  pub map_header_err : (n : ℕ) (rest : List ℕ) (d : Stop) → number 4 most_bytes b ≡ Ok (n, rest) → n ≢ 0 → one (map_header levels) rest ≡ Err d → seen (λ (w : Node). at + size w) (mapping levels (value levels) b) ≡ Err d
  map_header_err n rest d h some e = ap (seen (λ (w : Node). at + size w)) (mapping-some levels (value levels) b rest n h some) ∙ ends
    where
      ends : seen (λ (w : Node). at + size w) (and_then (one (map_header levels)) (mapping_pairs (value levels) n) rest) ≡ Err d
      ends = rw e refl

  pub map_pairs : (n : ℕ) (rest after : List ℕ) (kinds : PairKinds) → number 4 most_bytes b ≡ Ok (n, rest) → n ≢ 0 → one (map_header levels) rest ≡ Ok (kinds, after)
      → seen (λ (w : Node). at + size w) (mapping levels (value levels) b) ≡ seen (λ (xs : Pairs). at + 1 + sizes_of_pairs xs) (pairs (value levels kinds.key) (value levels kinds.value) n after)
  map_pairs n rest after kinds h some e =
      ap (seen (λ (w : Node). at + size w)) (mapping-pairs levels (value levels) b rest after n kinds h some e)
      ∙ seen_made (λ (w : Node). at + size w) (λ (xs : Pairs). map (code_of kinds.key) (code_of kinds.value) xs) (pairs (value levels kinds.key) (value levels kinds.value) n after)
      ∙ same (pairs (value levels kinds.key) (value levels kinds.value) n after)
    where
      same : (r : Result (Pairs × List ℕ) Stop) → seen (λ (xs : Pairs). at + suc (sizes_of_pairs xs)) r ≡ seen (λ (xs : Pairs). at + 1 + sizes_of_pairs xs) r
      same (Ok p) = let e : at + suc (sizes_of_pairs p.0) ≡ at + 1 + sizes_of_pairs p.0 = omega arith in ap (λ (n : ℕ). Ok (n, p.1)) e
      same (Err d) = refl

  -- a struct has one node more than its fields
  pub struct_seen : (r : Result (Fields × List ℕ) Stop) (o : Result (ℕ × List ℕ) Stop) → seen (λ (xs : Fields). at + sizes_of_fields xs) r ≡ o → seen (λ (w : Node). at + size w) (r >>= λ p. Ok (structure p.0, p.1)) ≡ seen (λ (n : ℕ). n + 1) o
  struct_seen (Ok p) o h = let e : at + suc (sizes_of_fields p.0) ≡ at + sizes_of_fields p.0 + 1 = omega arith in ap (λ (n : ℕ). Ok (n, p.1)) e ∙ ap (seen (λ (n : ℕ). n + 1)) h
  struct_seen (Err d) o h = ap (seen (λ (n : ℕ). n + 1)) h
