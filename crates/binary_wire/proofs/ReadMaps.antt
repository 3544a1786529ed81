-- Maps are read exactly.
use Rattle.std.proofs.Common.{◌≡◌, ℕ, zero, suc, ◌<◌, Bool, true, false, List, [], ◌∷◌, ◌++◌, refl, arith}
use Rattle.std.specs.Prelude.{◌&&◌}
use Rattle.exact_reading.specs.Reading.{and_then, pure, one}
use Rattle.exact_reading.specs.Exact.{Exact, Then, Follows}
use Rattle.exact_reading.proofs.Combinators.{pure_exact, mapped_exact, then_exact, same_exact}
use Rattle.compact_wire.specs.declared.kind.Kind.{Kind}
use Rattle.compact_wire.specs.declared.kind.Kind.TheVariants as k
use Rattle.compact_wire.specs.Bytes.{IsByte, ByteReader, OneByte}
use Rattle.compact_wire.specs.Node.{Node, Pairs, no_pairs, pair, map}
use Rattle.compact_wire.specs.Reads.{fits, pairs}
use Rattle.binary_wire.specs.BinaryCodes.{binary_kind}
use Rattle.binary_wire.specs.BinaryNumbers.{Made}
use Rattle.binary_wire.specs.BinaryGrammar.{SpellsPairs, SpellsMap, code_kept}
use Rattle.binary_wire.specs.BinaryReads.{size, mapping}
use Rattle.binary_wire.proofs.ReadParts.{Layer, made_some, code_exact, flag_code}
use Rattle.binary_wire.proofs.ReadSize.{SizeAt, size_exact, zero_at}

module _ (K V : Node → List ℕ → Type 0) (key value : ByteReader Node) where
  abbrev Second : ℕ → Node → Pairs → List ℕ → Type 0
  Second m x = Then V (λ y. Made (pair x y) (SpellsPairs K V m))

  pub pairs_some : (m : ℕ) → (0 < m → (x : Node) × (t : List ℕ) × K x t) → (0 < m → (x : Node) × (t : List ℕ) × V x t) → (xs : Pairs) × (t : List ℕ) × SpellsPairs K V m xs t
  pairs_some zero a b = (no_pairs, [], (refl, refl))
  pairs_some (suc m) a b =
      let x = a (omega arith) in
      let y = b (omega arith) in
      let r = made_some (pair x.0 y.0) (SpellsPairs K V m) (pairs_some m (λ h. x) (λ h. y)) in
      (r.0, x.1 ++ (y.1 ++ r.1), (x.0, x.1, y.1 ++ r.1, x.2, (y.0, y.1, r.1, y.2, r.2, refl), refl))

  pub pairs_exact : (m : ℕ) → (0 < m → (n : ℕ) → Exact IsByte n K key) → (0 < m → (n : ℕ) → Exact IsByte n V value)
      → (0 < m → (x : Node) × (t : List ℕ) × K x t) → (0 < m → (x : Node) × (t : List ℕ) × V x t) → (n : ℕ)
      → Exact IsByte n (SpellsPairs K V m) (pairs key value m)
  unfolding pairs
  pairs_exact zero ea eb sa sb n = pure_exact IsByte no_pairs n
  pairs_exact (suc m) ea eb sa sb n =
      let first : (j : ℕ) → Exact IsByte j K key = ea (omega arith) in
      let second : (j : ℕ) → Exact IsByte j V value = eb (omega arith) in
      let x0 = sa (omega arith) in
      let y0 = sb (omega arith) in
      let others : Exact IsByte n (SpellsPairs K V m) (pairs key value m) = pairs_exact m (λ h. first) (λ h. second) (λ h. x0) (λ h. y0) n in
      let rest = pairs_some m (λ h. x0) (λ h. y0) in
      let last : (x y : Node) → Follows IsByte n (Made (pair x y) (SpellsPairs K V m)) (and_then (pairs key value m) (λ xs. pure (pair x y xs))) =
      λ x y. record {
        exact = mapped_exact IsByte (SpellsPairs K V m) (pairs key value m) (λ xs. pair x y xs) n others;
        some = made_some (pair x y) (SpellsPairs K V m) rest;
      } in
      let follows : (x : Node) → Follows IsByte n (Second m x) (and_then value (λ y. and_then (pairs key value m) (λ xs. pure (pair x y xs)))) =
      λ x. let s = (last x y0.0).some in record {
        exact = then_exact IsByte V (λ y. Made (pair x y) (SpellsPairs K V m)) value (λ y. and_then (pairs key value m) (λ xs. pure (pair x y xs))) n n second
            (λ y t p. last x y) (λ y t p. omega arith);
        some = (s.0, y0.1 ++ s.1, (y0.0, y0.1, s.1, y0.2, s.2, refl));
      } in
      then_exact IsByte K (Second m) key (λ x. and_then value (λ y. and_then (pairs key value m) (λ xs. pure (pair x y xs)))) n n first
      (λ x t p. follows x) (λ x t p. omega arith)

both : (a b : Bool) → a ≡ true → b ≡ true → (a && b) ≡ true
both true true p q = refl
both true false p q = absurd cc
both false b p q = absurd cc

each : (a b : Bool) → (a && b) ≡ true → (a ≡ true) × (b ≡ true)
each true true p = (refl, refl)
each true false p = absurd cc
each false b p = absurd cc

-- where there are pairs, they fit
pairs_fit : (K V : Node → List ℕ → Type 0) (a b : Bool) → ((x : Node) (t : List ℕ) → K x t → a ≡ true) → ((x : Node) (t : List ℕ) → V x t → b ≡ true) → (n : ℕ) (xs : Pairs) (t : List ℕ)
    → SpellsPairs K V n xs t → 0 < n → (a && b) ≡ true
pairs_fit K V a b key value zero xs t p h = absurd (omega arith)
pairs_fit K V a b key value (suc n) xs t (x, u, v, p, (y, c, d, q, more, e2), e) h = both a b (key x u p) (value y c q)

module _ (l : ℕ) (S : Kind → Node → List ℕ → Type 0) (read : Kind → ByteReader Node) (layer : Layer l S read) where
  abbrev Fit : Kind → Kind → Bool
  Fit a b = fits l a && fits l b

  abbrev Counted : Kind → Kind → ℕ → Node → List ℕ → Type 0
  Counted a b n = Made (map (code_kept n a) (code_kept n b)) (SpellsPairs (S a) (S b) n)

  abbrev SizedAt : Kind → Kind → Node → List ℕ → Type 0
  SizedAt a b = Then (SizeAt (Fit a b)) (Counted a b)

  abbrev MapAt : Kind → Node → List ℕ → Type 0
  MapAt a = Then (OneByte binary_kind) (SizedAt a)

  map_to : (w : Node) (t : List ℕ) → Then (OneByte binary_kind) MapAt w t → SpellsMap S w t
  map_to w t (a, t1, r1, c1, (b, t2, r2, c2, (n, h, u, is, its, e3), e2), e) = (a, t1, r1, c1, (b, t2, r2, c2, (n, h, u, is.0, its, e3), e2), e)

  map_from : (w : Node) (t : List ℕ) → SpellsMap S w t → Then (OneByte binary_kind) MapAt w t
  map_from w t (a, t1, r1, c1, (b, t2, r2, c2, (n, h, u, is, its, e3), e2), e) =
      (a, t1, r1, c1, (b, t2, r2, c2, (n, h, u, (is, pairs_fit (S a) (S b) (fits l a) (fits l b) (layer.only a) (layer.only b) n its.0 its.1 its.3), its, e3), e2), e)

  abbrev counted : Kind → Kind → ℕ → ByteReader Node
  counted a b m = and_then (pairs (read a) (read b) m) (λ xs. pure (map (code_kept m a) (code_kept m b) xs))

  counted_follows : (a b : Kind) (m : ℕ) (t : List ℕ) → SizeAt (Fit a b) m t → (n : ℕ) → Follows IsByte n (Counted a b m) (counted a b m)
  counted_follows a b m t is n =
      let fit : 0 < m → (fits l a ≡ true) × (fits l b ≡ true) = λ h. each (fits l a) (fits l b) (is.1 h) in
      let ea : 0 < m → (j : ℕ) → Exact IsByte j (S a) (read a) = λ h. layer.exact a (fit h).0 in
      let eb : 0 < m → (j : ℕ) → Exact IsByte j (S b) (read b) = λ h. layer.exact b (fit h).1 in
      let sa : 0 < m → (x : Node) × (u : List ℕ) × S a x u = λ h. layer.some a (fit h).0 in
      let sb : 0 < m → (x : Node) × (u : List ℕ) × S b x u = λ h. layer.some b (fit h).1 in
      record {
        exact = mapped_exact IsByte (SpellsPairs (S a) (S b) m) (pairs (read a) (read b) m) (λ xs. map (code_kept m a) (code_kept m b) xs) n
            (pairs_exact (S a) (S b) (read a) (read b) m ea eb sa sb n);
        some = made_some (map (code_kept m a) (code_kept m b)) (SpellsPairs (S a) (S b) m) (pairs_some (S a) (S b) (read a) (read b) m sa sb);
      }

  sized_follows : (a b : Kind) (n : ℕ) → Follows IsByte n (SizedAt a b) (and_then (size (Fit a b)) (counted a b))
  sized_follows a b n =
      let s = (counted_follows a b 0 (0 ∷ 0 ∷ 0 ∷ 0 ∷ []) (zero_at (Fit a b)) n).some in
      record {
        exact = then_exact IsByte (SizeAt (Fit a b)) (Counted a b) (size (Fit a b)) (counted a b) n n (size_exact (Fit a b))
            (λ m t p. counted_follows a b m t p n) (λ m t p. omega arith);
        some = (s.0, (0 ∷ 0 ∷ 0 ∷ 0 ∷ []) ++ s.1, (0, 0 ∷ 0 ∷ 0 ∷ 0 ∷ [], s.1, zero_at (Fit a b), s.2, refl));
      }

  value_follows : (a : Kind) (n : ℕ) → Follows IsByte n (MapAt a) (and_then (one binary_kind) (λ b. and_then (size (Fit a b)) (counted a b)))
  value_follows a n =
      let s = (sized_follows a k.Flag n).some in
      record {
        exact = then_exact IsByte (OneByte binary_kind) (SizedAt a) (one binary_kind) (λ b. and_then (size (Fit a b)) (counted a b)) n n code_exact
            (λ b t p. sized_follows a b n) (λ b t p. omega arith);
        some = (s.0, 2 ∷ s.1, (k.Flag, 2 ∷ [], s.1, (2, omega arith, flag_code, refl), s.2, refl));
      }

  pub mapping_exact : (n : ℕ) → Exact IsByte n (SpellsMap S) (mapping l read)
  unfolding mapping
  mapping_exact n =
      same_exact IsByte (Then (OneByte binary_kind) MapAt) (SpellsMap S) (mapping l read)
      (record { to = map_to; from = map_from }) n
      (then_exact IsByte (OneByte binary_kind) MapAt (one binary_kind) (λ a. and_then (one binary_kind) (λ b. and_then (size (Fit a b)) (counted a b))) n n
      code_exact (λ a t p. value_follows a n) (λ a t p. omega arith))

  pub map_some : (w : Node) × (t : List ℕ) × SpellsMap S w t
  map_some =
      let s = (value_follows k.Flag 0).some in
      let r : Then (OneByte binary_kind) MapAt s.0 (2 ∷ s.1) = (k.Flag, 2 ∷ [], s.1, (2, omega arith, flag_code, refl), s.2, refl) in
      (s.0, 2 ∷ s.1, map_to s.0 (2 ∷ s.1) r)
