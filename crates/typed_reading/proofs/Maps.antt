-- Maps.
use Rattle.std.proofs.Common.{◌≡◌, ◌≢◌, ℕ, zero, suc, ◌+◌, nat_eq, ◌&&◌, List, [], ◌++◌, Bool, true, false, Some, Result, Ok, Err, refl, sym, ap, ◌∙◌, arith, add-one}
use Rattle.std.proofs.lemmas.Bool.Decides.{nat_tests}
use Rattle.exact_reading.specs.declared.stop.Stop.{Stop}
use Rattle.exact_reading.specs.Reading.{and_then, pure, one, seen}
use Rattle.exact_reading.proofs.Items.{ok_is, bind_ok}
use Rattle.compact_wire.specs.Node.{Node, map, Pairs, no_pairs, pair}
use Rattle.compact_wire.specs.Bytes.{ByteReader}
use Rattle.compact_wire.specs.Codes.{code_of}
use Rattle.compact_wire.specs.declared.header.PairKinds.{PairKinds}
use Rattle.compact_wire.specs.Reads.{number, most_bytes, value, mapping, map_header, mapping_pairs, pairs}
use Rattle.compact_wire.proofs.ReadSteps.{mapping-none, mapping-some, mapping-pairs}
use Rattle.wire_scan.proofs.Seen.{seen_ok, seen_err, seen_made}
use Rattle.wire_scan.specs.Sizes.{sizes_of_pairs}
use Rattle.idl_profile.specs.Types.{TypeTree}
use Rattle.idl_parse.specs.Refs.{key_of, value_of}
use Rattle.typed_reading.specs.declared.fault.NodeFault.TheVariants.{WrongType}
use Rattle.typed_reading.specs.declared.progress.Progress.{Progress}
use Rattle.typed_reading.specs.Codes.{code, parts_fit, meets, pairs_fit}
use Rattle.typed_reading.specs.Keys.{keys_in_pairs}
use Rattle.typed_reading.specs.Faults.{here, faults, faults_in_pairs, repeats, lesser, least}
use Rattle.typed_reading.specs.Progress.{after, after_map, inside, with}
use Rattle.typed_reading.proofs.Steps.{progress, progress_is, on_none, on_one, unmet, fine_below, unfit}

-- ---- whether the pairs fit

module _ (t : TypeTree) (kinds : PairKinds) where
  abbrev pub fits_both : Bool
  fits_both = nat_eq (code_of kinds.key) (code (key_of t)) && nat_eq (code_of kinds.value) (code (value_of t))

  some_pairs : (a b : ByteReader Node) (n : ℕ) (d rest : List ℕ) (xs : Pairs) → n ≢ 0 → pairs a b n d ≡ Ok (xs, rest) → pairs_fit t (code_of kinds.key) (code_of kinds.value) xs ≡ fits_both
  unfolding pairs
  some_pairs a b zero d rest xs ne e = absurd (ne refl)
  some_pairs a b (suc n) d rest xs ne e =
      let x = bind_ok (a d) (λ p. and_then b (λ y. and_then (pairs a b n) (λ ys. pure (pair p.0 y ys))) p.1) (xs, rest) e in
      let y = bind_ok (b x.0.1) (λ p. and_then (pairs a b n) (λ ys. pure (pair x.0.0 p.0 ys)) p.1) (xs, rest) x.2 in
      let z = bind_ok (pairs a b n y.0.1) (λ p. pure (pair x.0.0 y.0.0 p.0) p.1) (xs, rest) y.2 in
      sym (ap (pairs_fit t (code_of kinds.key) (code_of kinds.value)) (ok_is (pair x.0.0 y.0.0 z.0.0) xs z.0.1 rest z.2).0)

-- ---- a map

module _ (t : TypeTree) (s : Progress) (levels : ℕ) (b : List ℕ) where
  pub map_first : (d : Stop) → number 4 most_bytes b ≡ Err d → seen (after t s) (mapping levels (value levels) b) ≡ Err d
  unfolding mapping
  map_first d h = rw h refl

  empty_map : code t ≡ 11 → after t s (map 0 0 no_pairs) ≡ inside s
  empty_map eleven =
      let h : nat_eq 11 (code t) ≡ true = grind (arith, nat_tests) in
      let none : faults (map 0 0 no_pairs) t s.next ≡ [] = rw h refl in
      on_none s (faults (map 0 0 no_pairs) t s.next) 1 none

  pub map_none : (n : ℕ) (rest : List ℕ) → number 4 most_bytes b ≡ Ok (n, rest) → n ≡ 0 → code t ≡ 11 → seen (after t s) (mapping levels (value levels) b) ≡ Ok (inside s, rest)
  map_none n rest h z eleven = ap (seen (after t s)) (mapping-none levels (value levels) b rest n h z) ∙ ap (λ (p : Progress). Ok (p, rest)) (empty_map eleven)

  pub map_header_err : (n : ℕ) (rest : List ℕ) (d : Stop) → number 4 most_bytes b ≡ Ok (n, rest) → n ≢ 0 → one (map_header levels) rest ≡ Err d → seen (after t s) (mapping levels (value levels) b) ≡ Err d
  map_header_err n rest d h some e = ap (seen (after t s)) (mapping-some levels (value levels) b rest n h some) ∙ ends
    where
      ends : seen (after t s) (and_then (one (map_header levels)) (mapping_pairs (value levels) n) rest) ≡ Err d
      ends = rw e refl

  -- what is made of the pairs
  abbrev made : PairKinds → Pairs → Node
  made kinds xs = map (code_of kinds.key) (code_of kinds.value) xs

  module _ (n : ℕ) (rest behind : List ℕ) (kinds : PairKinds) (h : number 4 most_bytes b ≡ Ok (n, rest)) (some : n ≢ 0) (e : one (map_header levels) rest ≡ Ok (kinds, behind)) where
    abbrev pub read_pairs : Result (Pairs × List ℕ) Stop
    read_pairs = pairs (value levels kinds.key) (value levels kinds.value) n behind

    map_is : seen (after t s) (mapping levels (value levels) b) ≡ seen (λ (xs : Pairs). after t s (made kinds xs)) read_pairs
    map_is = ap (seen (after t s)) (mapping-pairs levels (value levels) b rest behind n kinds h some e) ∙ seen_made (after t s) (made kinds) read_pairs

    wrong_map : (xs : Pairs) (next : ℕ) → pairs_fit t (code_of kinds.key) (code_of kinds.value) xs ≡ false → s.next + 1 + sizes_of_pairs xs ≡ next → after t s (made kinds xs) ≡ with s WrongType next
    wrong_map xs next f is =
        let m : meets t (made kinds xs) ≡ false = unfit (nat_eq 11 (code t)) (parts_fit t (made kinds xs)) f in
        on_one s (faults (made kinds xs) t s.next) (suc (sizes_of_pairs xs)) (here s.next WrongType) (unmet (made kinds xs) t s.next m)
        ∙ (let z : s.next + suc (sizes_of_pairs xs) ≡ next = omega (arith, is) in ap (progress (lesser s.found (Some (here s.next WrongType)))) z)

    pub map_wrong : (next : ℕ) (last : List ℕ) → fits_both t kinds ≡ false → seen (λ (xs : Pairs). s.next + 1 + sizes_of_pairs xs) read_pairs ≡ Ok (next, last)
        → seen (after t s) (mapping levels (value levels) b) ≡ Ok (with s WrongType next, last)
    map_wrong next last fit g =
        let x = seen_ok (λ (xs : Pairs). s.next + 1 + sizes_of_pairs xs) read_pairs next last g in
        map_is ∙ ap (seen (λ (xs : Pairs). after t s (made kinds xs))) x.1
        ∙ ap (λ (q : Progress). Ok (q, last)) (wrong_map x.0 next (some_pairs t kinds (value levels kinds.key) (value levels kinds.value) n behind last x.0 some x.1 ∙ fit) x.2)

    pub map_wrong_err : (d : Stop) → seen (λ (xs : Pairs). s.next + 1 + sizes_of_pairs xs) read_pairs ≡ Err d → seen (after t s) (mapping levels (value levels) b) ≡ Err d
    map_wrong_err d g = map_is ∙ ap (seen (λ (xs : Pairs). after t s (made kinds xs))) (seen_err (λ (xs : Pairs). s.next + 1 + sizes_of_pairs xs) read_pairs d g)

    fine_map : (xs : Pairs) → code t ≡ 11 → pairs_fit t (code_of kinds.key) (code_of kinds.value) xs ≡ true → after t s (made kinds xs) ≡ after_map (key_of t) (value_of t) (inside s) xs
    fine_map xs eleven f =
        let g : nat_eq 11 (code t) ≡ true = grind (arith, nat_tests) in
        let m : meets t (made kinds xs) ≡ true = rw (g, f) refl in
        progress_is _ _ _ _ (ap (lesser s.found) (fine_below t (made kinds xs) s.next (faults_in_pairs xs (key_of t) (value_of t) (suc s.next) ++ repeats (keys_in_pairs xs (suc s.next)) []) m refl
        ∙ ap (λ (n : ℕ). least (faults_in_pairs xs (key_of t) (value_of t) n ++ repeats (keys_in_pairs xs n) [])) (sym (add-one s.next)))) (omega arith)

    pub map_fine : code t ≡ 11 → fits_both t kinds ≡ true → seen (after t s) (mapping levels (value levels) b) ≡ seen (after_map (key_of t) (value_of t) (inside s)) read_pairs
    map_fine eleven fit = map_is ∙ by read_pairs refl
      where
        by : (r : Result (Pairs × List ℕ) Stop) → read_pairs ≡ r → seen (λ (xs : Pairs). after t s (made kinds xs)) r ≡ seen (after_map (key_of t) (value_of t) (inside s)) r
        by (Ok p) is = ap (λ (x : Progress). Ok (x, p.1)) (fine_map p.0 eleven (some_pairs t kinds (value levels kinds.key) (value levels kinds.value) n behind p.1 p.0 some is ∙ fit))
        by (Err d) is = refl
