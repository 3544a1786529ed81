-- Lists and sets are read exactly.
use Rattle.std.proofs.Common.{◌≡◌, ℕ, zero, suc, ◌<◌, Bool, true, List, [], ◌∷◌, ◌++◌, refl, arith}
use Rattle.exact_reading.specs.Reading.{and_then, pure, one}
use Rattle.exact_reading.specs.Exact.{Exact, Then, Follows}
use Rattle.exact_reading.proofs.Combinators.{pure_exact, mapped_exact, then_exact, same_exact}
use Rattle.compact_wire.specs.declared.kind.Kind.{Kind}
use Rattle.compact_wire.specs.declared.kind.Kind.TheVariants as k
use Rattle.compact_wire.specs.Bytes.{IsByte, ByteReader, OneByte}
use Rattle.compact_wire.specs.Codes.{code_of}
use Rattle.compact_wire.specs.Node.{Node, Nodes, no_nodes, node}
use Rattle.compact_wire.specs.Reads.{fits, items}
use Rattle.binary_wire.specs.BinaryCodes.{binary_kind}
use Rattle.binary_wire.specs.BinaryNumbers.{Made}
use Rattle.binary_wire.specs.BinaryGrammar.{SpellsItems, SpellsRow}
use Rattle.binary_wire.specs.BinaryReads.{size, row}
use Rattle.binary_wire.proofs.ReadParts.{Layer, made_some, code_exact, flag_code}
use Rattle.binary_wire.proofs.ReadSize.{SizeAt, size_exact, zero_at}

module _ (S : Node → List ℕ → Type 0) (read : ByteReader Node) where
  pub items_some : (m : ℕ) → (0 < m → (x : Node) × (t : List ℕ) × S x t) → (xs : Nodes) × (t : List ℕ) × SpellsItems S m xs t
  items_some zero some = (no_nodes, [], (refl, refl))
  items_some (suc m) some =
      let a = some (omega arith) in
      let b = made_some (node a.0) (SpellsItems S m) (items_some m (λ h. a)) in
      (b.0, a.1 ++ b.1, (a.0, a.1, b.1, a.2, b.2, refl))

  pub items_exact : (m : ℕ) → (0 < m → (n : ℕ) → Exact IsByte n S read) → (0 < m → (x : Node) × (t : List ℕ) × S x t) → (n : ℕ)
      → Exact IsByte n (SpellsItems S m) (items read m)
  unfolding items
  items_exact zero exact some n = pure_exact IsByte no_nodes n
  items_exact (suc m) exact some n =
      let first : (j : ℕ) → Exact IsByte j S read = exact (omega arith) in
      let others : Exact IsByte n (SpellsItems S m) (items read m) = items_exact m (λ h. first) (λ h. some (omega arith)) n in
      let rest = items_some m (λ h. some (omega arith)) in
      then_exact IsByte S (λ x. Made (node x) (SpellsItems S m)) read (λ x. and_then (items read m) (λ xs. pure (node x xs))) n n first
      (λ x t p. record {
        exact = mapped_exact IsByte (SpellsItems S m) (items read m) (λ xs. node x xs) n others;
        some = made_some (node x) (SpellsItems S m) rest;
      }) (λ x t p. omega arith)

-- where there are items, they fit
items_fit : (S : Node → List ℕ → Type 0) (fit : Bool) → ((x : Node) (t : List ℕ) → S x t → fit ≡ true) → (n : ℕ) (xs : Nodes) (t : List ℕ) → SpellsItems S n xs t → 0 < n → fit ≡ true
items_fit S fit only zero xs t p h = absurd (omega arith)
items_fit S fit only (suc n) xs t (x, a, b, is, more, e) h = only x a is

module _ (l : ℕ) (S : Kind → Node → List ℕ → Type 0) (read : Kind → ByteReader Node) (layer : Layer l S read) (make : ℕ → Nodes → Node) where
  abbrev Counted : Kind → ℕ → Node → List ℕ → Type 0
  Counted kind n = Made (make (code_of kind)) (SpellsItems (S kind) n)

  abbrev RowAt : Kind → Node → List ℕ → Type 0
  RowAt kind = Then (SizeAt (fits l kind)) (Counted kind)

  row_to : (w : Node) (t : List ℕ) → Then (OneByte binary_kind) RowAt w t → SpellsRow make S w t
  row_to w t (kind, a, b, c, (n, h, u, is, its, e2), e) = (kind, a, b, c, (n, h, u, is.0, its, e2), e)

  row_from : (w : Node) (t : List ℕ) → SpellsRow make S w t → Then (OneByte binary_kind) RowAt w t
  row_from w t (kind, a, b, c, (n, h, u, is, its, e2), e) =
      (kind, a, b, c, (n, h, u, (is, items_fit (S kind) (fits l kind) (layer.only kind) n its.0 its.1 its.3), its, e2), e)

  counted_follows : (kind : Kind) (m : ℕ) (t : List ℕ) → SizeAt (fits l kind) m t → (n : ℕ)
      → Follows IsByte n (Counted kind m) (and_then (items (read kind) m) (λ xs. pure (make (code_of kind) xs)))
  counted_follows kind m t is n =
      let exact : 0 < m → (j : ℕ) → Exact IsByte j (S kind) (read kind) = λ h. layer.exact kind (is.1 h) in
      let some : 0 < m → (x : Node) × (u : List ℕ) × S kind x u = λ h. layer.some kind (is.1 h) in
      record {
        exact = mapped_exact IsByte (SpellsItems (S kind) m) (items (read kind) m) (λ xs. make (code_of kind) xs) n
            (items_exact (S kind) (read kind) m exact some n);
        some = made_some (make (code_of kind)) (SpellsItems (S kind) m) (items_some (S kind) (read kind) m some);
      }

  row_follows : (kind : Kind) (n : ℕ)
      → Follows IsByte n (RowAt kind) (and_then (size (fits l kind)) (λ m. and_then (items (read kind) m) (λ xs. pure (make (code_of kind) xs))))
  row_follows kind n =
      let s = (counted_follows kind 0 (0 ∷ 0 ∷ 0 ∷ 0 ∷ []) (zero_at (fits l kind)) n).some in
      record {
        exact = then_exact IsByte (SizeAt (fits l kind)) (Counted kind) (size (fits l kind))
            (λ m. and_then (items (read kind) m) (λ xs. pure (make (code_of kind) xs))) n n (size_exact (fits l kind))
            (λ m t p. counted_follows kind m t p n) (λ m t p. omega arith);
        some = (s.0, (0 ∷ 0 ∷ 0 ∷ 0 ∷ []) ++ s.1, (0, 0 ∷ 0 ∷ 0 ∷ 0 ∷ [], s.1, zero_at (fits l kind), s.2, refl));
      }

  pub row_exact : (n : ℕ) → Exact IsByte n (SpellsRow make S) (row make l read)
  unfolding row
  row_exact n =
      same_exact IsByte (Then (OneByte binary_kind) RowAt) (SpellsRow make S) (row make l read)
      (record { to = row_to; from = row_from }) n
      (then_exact IsByte (OneByte binary_kind) RowAt (one binary_kind)
      (λ kind. and_then (size (fits l kind)) (λ m. and_then (items (read kind) m) (λ xs. pure (make (code_of kind) xs)))) n n
      code_exact (λ kind t p. row_follows kind n) (λ kind t p. omega arith))

  pub row_some : (w : Node) × (t : List ℕ) × SpellsRow make S w t
  row_some =
      let s = (row_follows k.Flag 0).some in
      let r : Then (OneByte binary_kind) RowAt s.0 (2 ∷ s.1) = (k.Flag, 2 ∷ [], s.1, (2, omega arith, flag_code, refl), s.2, refl) in
      (s.0, 2 ∷ s.1, row_to s.0 (2 ∷ s.1) r)
