-- The items of a set and the pairs of a map, with the keys that stood.
use Rattle.std.proofs.Common.{◌≡◌, ℕ, ◌≤◌, List, [], ◌∷◌, ◌++◌, true, Result, Ok, Err, ap, ◌∙◌, arith}
use Rattle.std.specs.Prelude.{OnOk}
use Rattle.frozen_model.specs.Values.{Value}
use Rattle.exact_reading.specs.declared.stop.Stop.{Stop}
use Rattle.exact_reading.specs.Reading.{seen}
use Rattle.compact_wire.specs.declared.kind.Kind.{Kind}
use Rattle.compact_wire.specs.Node.{Node, Nodes, Pairs}
use Rattle.compact_wire.specs.Bytes.{ByteReader}
use Rattle.compact_wire.specs.Reads.{scalar, value, fits}
use Rattle.compact_wire.proofs.ReadSteps.{value-scalar}
use Rattle.wire_scan.proofs.Seen.{seen_ok, seen_err}
use Rattle.wire_scan.specs.Sizes.{sizes, sizes_of_pairs}
use Rattle.idl_profile.specs.Types.{TypeTree}
use Rattle.typed_reading.specs.declared.progress.Progress.{Progress}
use Rattle.typed_reading.specs.Keys.{keys_in, keys_in_pairs}
use Rattle.typed_reading.specs.Faults.{faults_in, faults_in_pairs, repeats, lesser, least}
use Rattle.typed_reading.specs.Progress.{after, key_and_after, after_set, after_map, Keying, after_key, after_keys, after_value, after_pairs}
use Rattle.typed_reading.proofs.Steps.{with_repeats, progress}

-- what is so where the answer is `Ok`
pub on_ok : {X E : Type 0} (r : Result X E) (P Q : Type 0) → (P → Q) → OnOk r P → OnOk r Q
on_ok (Ok x) P Q f p = f p
on_ok (Err e) P Q f p = tt

-- ---- a key, in front of the others

module _ (t : TypeTree) (s : Progress) (ks : List (ℕ × Value)) (levels : ℕ) (kind : Kind) (b : List ℕ) (leaf : fits 0 kind ≡ true) where
  pub key_ok : (last : Progress) (p : ℕ) (v : Value) (rest : List ℕ) → seen (key_and_after t s) (scalar kind b) ≡ Ok ((last, (p, v)), rest) → seen (after_key t (s, ks)) (value levels kind b) ≡ Ok ((last, ks ++ (p, v) ∷ []), rest)
  key_ok last p v rest e =
      let x = seen_ok (key_and_after t s) (scalar kind b) (last, (p, v)) rest e in
      ap (λ (read : ByteReader Node). seen (after_key t (s, ks)) (read b)) (value-scalar levels kind leaf)
      ∙ ap (seen (after_key t (s, ks))) x.1 ∙ ap (λ (q : Progress × (ℕ × Value)). Ok ((q.0, ks ++ q.1 ∷ []), rest)) x.2

  pub key_err : (d : Stop) → seen (key_and_after t s) (scalar kind b) ≡ Err d → seen (after_key t (s, ks)) (value levels kind b) ≡ Err d
  key_err d e =
      ap (λ (read : ByteReader Node). seen (after_key t (s, ks)) (read b)) (value-scalar levels kind leaf)
      ∙ ap (seen (after_key t (s, ks))) (seen_err (key_and_after t s) (scalar kind b) d e)

-- ---- the value of a pair

module _ (t : TypeTree) (s : Progress) (ks : List (ℕ × Value)) (r : Result (Node × List ℕ) Stop) where
  pub value_ok : (last : Progress) (rest : List ℕ) → seen (after t s) r ≡ Ok (last, rest) → seen (after_value t (s, ks)) r ≡ Ok ((last, ks), rest)
  value_ok last rest e = let x = seen_ok (after t s) r last rest e in ap (seen (after_value t (s, ks))) x.1 ∙ ap (λ (p : Progress). Ok ((p, ks), rest)) x.2

  pub value_err : (d : Stop) → seen (after t s) r ≡ Err d → seen (after_value t (s, ks)) r ≡ Err d
  value_err d e = ap (seen (after_value t (s, ks))) (seen_err (after t s) r d e)

  pub goes_on : (last : Progress) (rest : List ℕ) → seen (after t s) r ≡ Ok (last, rest) → s.next ≤ last.next
  goes_on last rest e = let x = seen_ok (after t s) r last rest e in let n = ap (λ (p : Progress). p.next) x.2 in omega (arith, n)

-- ---- behind all of them

abbrev pub repeated : Progress → List (ℕ × Value) → Progress
repeated known ks = progress (lesser known.found (least (repeats ks []))) known.next

module _ (t : TypeTree) (s : Progress) (r : Result (Nodes × List ℕ) Stop) where
  pub set_done : (known : Progress) (ks : List (ℕ × Value)) (rest : List ℕ) → seen (after_keys t (s, [])) r ≡ Ok ((known, ks), rest) → seen (after_set t s) r ≡ Ok (repeated known ks, rest)
  set_done known ks rest e =
      let x = seen_ok (after_keys t (s, [])) r (known, ks) rest e in
      ap (seen (after_set t s)) x.1
      ∙ ap (λ (p : Progress). Ok (p, rest)) (with_repeats s (faults_in x.0 t s.next) (sizes x.0) (keys_in x.0 s.next))
      ∙ ap (λ (q : Keying). Ok (repeated q.0 q.1, rest)) x.2

  pub set_err : (d : Stop) → seen (after_keys t (s, [])) r ≡ Err d → seen (after_set t s) r ≡ Err d
  set_err d e = ap (seen (after_set t s)) (seen_err (after_keys t (s, [])) r d e)

module _ (k v : TypeTree) (s : Progress) (r : Result (Pairs × List ℕ) Stop) where
  pub map_done : (known : Progress) (ks : List (ℕ × Value)) (rest : List ℕ) → seen (after_pairs k v (s, [])) r ≡ Ok ((known, ks), rest) → seen (after_map k v s) r ≡ Ok (repeated known ks, rest)
  map_done known ks rest e =
      let x = seen_ok (after_pairs k v (s, [])) r (known, ks) rest e in
      ap (seen (after_map k v s)) x.1
      ∙ ap (λ (p : Progress). Ok (p, rest)) (with_repeats s (faults_in_pairs x.0 k v s.next) (sizes_of_pairs x.0) (keys_in_pairs x.0 s.next))
      ∙ ap (λ (q : Keying). Ok (repeated q.0 q.1, rest)) x.2

  pub map_err : (d : Stop) → seen (after_pairs k v (s, [])) r ≡ Err d → seen (after_map k v s) r ≡ Err d
  map_err d e = ap (seen (after_map k v s)) (seen_err (after_pairs k v (s, [])) r d e)
