-- Lists and sets.
use Rattle.std.proofs.Common.{◌||◌, ◌≡◌, ℕ, zero, suc, ◌+◌, nat_eq, List, [], ◌++◌, Bool, true, false, Some, Result, Ok, Err, refl, sym, ap, ◌∙◌, arith, add-one}
use Rattle.std.proofs.lemmas.Bool.Decides.{nat_tests}
use Rattle.exact_reading.specs.declared.stop.Stop.{Stop}
use Rattle.exact_reading.specs.Reading.{◌>>=◌, and_then, pure, seen}
use Rattle.exact_reading.proofs.Items.{ok_is, bind_ok}
use Rattle.compact_wire.specs.Node.{Node, list, set, Nodes, no_nodes, node}
use Rattle.compact_wire.specs.Bytes.{ByteReader}
use Rattle.compact_wire.specs.Codes.{code_of}
use Rattle.compact_wire.specs.declared.header.ListHeader.{ListHeader}
use Rattle.compact_wire.specs.Reads.{value, items, sequence, count, element}
use Rattle.wire_scan.proofs.Seen.{seen_ok, seen_err}
use Rattle.wire_scan.specs.Sizes.{size, sizes}
use Rattle.idl_profile.specs.Types.{TypeTree}
use Rattle.idl_parse.specs.Refs.{element_of}
use Rattle.typed_reading.specs.declared.fault.NodeFault.TheVariants.{WrongType}
use Rattle.typed_reading.specs.declared.progress.Progress.{Progress}
use Rattle.typed_reading.specs.Codes.{code, code_of_node, parts_fit, meets, row_fits}
use Rattle.typed_reading.specs.Keys.{keys_in}
use Rattle.typed_reading.specs.Faults.{here, faults, faults_in, repeats, lesser, least}
use Rattle.typed_reading.specs.Progress.{after, after_items, after_set, inside, with}
use Rattle.typed_reading.proofs.Steps.{progress, progress_is, on_one, unmet, fine_below, unfit}
use Rattle.typed_reading.proofs.Leaves.{one_header}

-- ---- headers

module _ (make : ℕ → Nodes → Node) (t : TypeTree) (s : Progress) (levels : ℕ) (b : List ℕ) where
  pub row_header_err : (d : Stop) → one_header levels b ≡ Err d → seen (after t s) (sequence make levels (value levels) b) ≡ Err d
  unfolding sequence
  row_header_err d h = rw h refl

  pub row_count_err : (h : ListHeader) (rest : List ℕ) (d : Stop) → one_header levels b ≡ Ok (h, rest) → count levels h rest ≡ Err d → seen (after t s) (sequence make levels (value levels) b) ≡ Err d
  unfolding sequence
  row_count_err h rest d e f = rw (e, f) refl

  pub row_is : (h : ListHeader) (rest after_count : List ℕ) (n : ℕ) → one_header levels b ≡ Ok (h, rest) → count levels h rest ≡ Ok (n, after_count)
      → sequence make levels (value levels) b ≡ (items (value levels (element h)) n after_count >>= λ p. Ok (make (code_of (element h)) p.0, p.1))
  unfolding sequence
  row_is h rest after_count n e f = rw (e, f) refl

-- ---- whether the elements fit

module _ (t : TypeTree) where
  pub fit_true : (v : ByteReader Node) (n c : ℕ) (d rest : List ℕ) (xs : Nodes) → items v n d ≡ Ok (xs, rest) → (nat_eq n 0 || nat_eq c (code (element_of t))) ≡ true → row_fits t c xs ≡ true
  unfolding items
  fit_true v zero c d rest xs e h = ap (row_fits t c) (sym (ok_is no_nodes xs d rest e).0)
  fit_true v (suc n) c d rest no_nodes e h = refl
  fit_true v (suc n) c d rest (node x xs) e h = let z : nat_eq (suc n) 0 ≡ false = grind (arith, nat_tests) in sym (ap (λ (b : Bool). b || nat_eq c (code (element_of t))) z) ∙ h

  pub fit_false : (v : ByteReader Node) (n c : ℕ) (d rest : List ℕ) (xs : Nodes) → items v n d ≡ Ok (xs, rest) → (nat_eq n 0 || nat_eq c (code (element_of t))) ≡ false → row_fits t c xs ≡ false
  unfolding items
  fit_false v zero c d rest xs e h = absurd cc
  fit_false v (suc n) c d rest xs e h =
      let a = bind_ok (v d) (λ p. and_then (items v n) (λ ys. pure (node p.0 ys)) p.1) (xs, rest) e in
      let f = bind_ok (items v n a.0.1) (λ p. pure (node a.0.0 p.0) p.1) (xs, rest) a.2 in
      let is = (ok_is (node a.0.0 f.0.0) xs f.0.1 rest f.2).0 in
      let z : nat_eq (suc n) 0 ≡ false = grind (arith, nat_tests) in
      sym (ap (row_fits t c) is) ∙ sym (ap (λ (b : Bool). b || nat_eq c (code (element_of t))) z) ∙ h

-- ---- a list or a set of elements of another code

-- what is made of items has this code, and one node more
pub record IsRow (row_code : ℕ) (make : ℕ → Nodes → Node) : Type 0 where
  pub code_is : (c : ℕ) (xs : Nodes) → code_of_node (make c xs) ≡ row_code
  pub fits : (t : TypeTree) (c : ℕ) (xs : Nodes) → parts_fit t (make c xs) ≡ row_fits t c xs
  pub size_is : (c : ℕ) (xs : Nodes) → size (make c xs) ≡ suc (sizes xs)

pub list_row : IsRow 9 list
list_row = record { code_is = λ c xs. refl; fits = λ t c xs. refl; size_is = λ c xs. refl }

pub set_row : IsRow 10 set
set_row = record { code_is = λ c xs. refl; fits = λ t c xs. refl; size_is = λ c xs. refl }

module _ (make : ℕ → Nodes → Node) (n : ℕ) (is_row : IsRow n make) (t : TypeTree) (s : Progress) (levels : ℕ) (b : List ℕ) where
  wrong_row : (c last : ℕ) (xs : Nodes) → row_fits t c xs ≡ false → s.next + 1 + sizes xs ≡ last → after t s (make c xs) ≡ with s WrongType last
  wrong_row c last xs f e =
      let m : meets t (make c xs) ≡ false = unfit (nat_eq (code_of_node (make c xs)) (code t)) (parts_fit t (make c xs)) (is_row.fits t c xs ∙ f) in
      on_one s (faults (make c xs) t s.next) (size (make c xs)) (here s.next WrongType) (unmet (make c xs) t s.next m)
      ∙ (let z : s.next + size (make c xs) ≡ last = omega (arith, is_row.size_is c xs, e) in ap (progress (lesser s.found (Some (here s.next WrongType)))) z)

  pub row_wrong : (h : ListHeader) (rest behind last : List ℕ) (m next : ℕ) → one_header levels b ≡ Ok (h, rest) → count levels h rest ≡ Ok (m, behind)
      → (nat_eq m 0 || nat_eq (code_of (element h)) (code (element_of t))) ≡ false
      → seen (λ (xs : Nodes). s.next + 1 + sizes xs) (items (value levels (element h)) m behind) ≡ Ok (next, last)
      → seen (after t s) (sequence make levels (value levels) b) ≡ Ok (with s WrongType next, last)
  row_wrong h rest behind last m next e f fit g =
      let x = seen_ok (λ (xs : Nodes). s.next + 1 + sizes xs) (items (value levels (element h)) m behind) next last g in
      ap (seen (after t s)) (row_is make t s levels b h rest behind m e f ∙ ap (λ (r : Result (Nodes × List ℕ) Stop). r >>= λ p. Ok (make (code_of (element h)) p.0, p.1)) x.1)
      ∙ ap (λ (q : Progress). Ok (q, last)) (wrong_row (code_of (element h)) next x.0 (fit_false t (value levels (element h)) m (code_of (element h)) behind last x.0 x.1 fit) x.2)

  pub row_wrong_err : (h : ListHeader) (rest behind : List ℕ) (m : ℕ) (d : Stop) → one_header levels b ≡ Ok (h, rest) → count levels h rest ≡ Ok (m, behind)
      → seen (λ (xs : Nodes). s.next + 1 + sizes xs) (items (value levels (element h)) m behind) ≡ Err d
      → seen (after t s) (sequence make levels (value levels) b) ≡ Err d
  row_wrong_err h rest behind m d e f g =
      let x = seen_err (λ (xs : Nodes). s.next + 1 + sizes xs) (items (value levels (element h)) m behind) d g in
      ap (seen (after t s)) (row_is make t s levels b h rest behind m e f ∙ ap (λ (r : Result (Nodes × List ℕ) Stop). r >>= λ p. Ok (make (code_of (element h)) p.0, p.1)) x)

-- ---- a list or a set whose elements fit

module _ (t : TypeTree) (s : Progress) (levels : ℕ) (b : List ℕ) where
  fine_list : (c : ℕ) (xs : Nodes) → code t ≡ 9 → row_fits t c xs ≡ true → after t s (list c xs) ≡ after_items (element_of t) (inside s) xs
  fine_list c xs nine f =
      let h : nat_eq 9 (code t) ≡ true = grind (arith, nat_tests) in
      let m : meets t (list c xs) ≡ true = rw (h, f) refl in
      progress_is _ _ _ _ (ap (lesser s.found) (fine_below t (list c xs) s.next (faults_in xs (element_of t) (suc s.next)) m refl ∙ ap (λ (n : ℕ). least (faults_in xs (element_of t) n)) (sym (add-one s.next)))) (omega arith)

  fine_set : (c : ℕ) (xs : Nodes) → code t ≡ 10 → row_fits t c xs ≡ true → after t s (set c xs) ≡ after_set (element_of t) (inside s) xs
  fine_set c xs ten f =
      let h : nat_eq 10 (code t) ≡ true = grind (arith, nat_tests) in
      let m : meets t (set c xs) ≡ true = rw (h, f) refl in
      progress_is _ _ _ _ (ap (lesser s.found) (fine_below t (set c xs) s.next (faults_in xs (element_of t) (suc s.next) ++ repeats (keys_in xs (suc s.next)) []) m refl
      ∙ ap (λ (n : ℕ). least (faults_in xs (element_of t) n ++ repeats (keys_in xs n) [])) (sym (add-one s.next)))) (omega arith)

  pub list_fine : (h : ListHeader) (rest behind : List ℕ) (n : ℕ) → one_header levels b ≡ Ok (h, rest) → count levels h rest ≡ Ok (n, behind) → code t ≡ 9
      → (nat_eq n 0 || nat_eq (code_of (element h)) (code (element_of t))) ≡ true
      → seen (after t s) (sequence list levels (value levels) b) ≡ seen (after_items (element_of t) (inside s)) (items (value levels (element h)) n behind)
  list_fine h rest behind n e f nine fit = ap (seen (after t s)) (row_is list t s levels b h rest behind n e f) ∙ by (items (value levels (element h)) n behind) refl
    where
      by : (r : Result (Nodes × List ℕ) Stop) → items (value levels (element h)) n behind ≡ r → seen (after t s) (r >>= λ p. Ok (list (code_of (element h)) p.0, p.1)) ≡ seen (after_items (element_of t) (inside s)) r
      by (Ok p) is = ap (λ (x : Progress). Ok (x, p.1)) (fine_list (code_of (element h)) p.0 nine (fit_true t (value levels (element h)) n (code_of (element h)) behind p.1 p.0 is fit))
      by (Err d) is = refl

  pub set_fine : (h : ListHeader) (rest behind : List ℕ) (n : ℕ) → one_header levels b ≡ Ok (h, rest) → count levels h rest ≡ Ok (n, behind) → code t ≡ 10
      → (nat_eq n 0 || nat_eq (code_of (element h)) (code (element_of t))) ≡ true
      → seen (after t s) (sequence set levels (value levels) b) ≡ seen (after_set (element_of t) (inside s)) (items (value levels (element h)) n behind)
  set_fine h rest behind n e f ten fit = ap (seen (after t s)) (row_is set t s levels b h rest behind n e f) ∙ by (items (value levels (element h)) n behind) refl
    where
      by : (r : Result (Nodes × List ℕ) Stop) → items (value levels (element h)) n behind ≡ r → seen (after t s) (r >>= λ p. Ok (set (code_of (element h)) p.0, p.1)) ≡ seen (after_set (element_of t) (inside s)) r
      by (Ok p) is = ap (λ (x : Progress). Ok (x, p.1)) (fine_set (code_of (element h)) p.0 ten (fit_true t (value levels (element h)) n (code_of (element h)) behind p.1 p.0 is fit))
      by (Err d) is = refl
