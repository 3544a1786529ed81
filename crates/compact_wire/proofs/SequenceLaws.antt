-- Lists and sets are read exactly.
use Rattle.std.proofs.Common.{◌≡◌, ℕ, zero, suc, ◌+◌, ◌-◌, ◌*◌, ◌/◌, ◌%◌, ◌^◌, ◌<◌, ◌≤◌, ◌⊎◌, ◌≢◌, inl, inr}
use Rattle.std.proofs.Common.{Bool, true, false, ◌||◌, cond, eqb, List, [], ◌∷◌, ◌++◌, Option, Some, None}
use Rattle.std.proofs.Common.{refl, sym, ap, subst, ◌∙◌, arith}
use Rattle.std.proofs.lemmas.Bool.Decides.{nat_tests}
use Rattle.std.proofs.lemmas.Bool.{eqb-true, eqb-false}
use Rattle.std.proofs.lemmas.List.{append-nil}
use Rattle.std.specs.Prelude.{option_and_then}
use Rattle.compact_wire.specs.declared.kind.Kind.{Kind}
use Rattle.compact_wire.specs.declared.kind.Kind.TheVariants as k
use Rattle.compact_wire.specs.Node.{Node, Nodes, no_nodes, node, list, set}
use Rattle.compact_wire.specs.Bytes.{IsByte, ByteReader, OneByte}
use Rattle.exact_reading.specs.Reading.{and_then, pure, one}
use Rattle.compact_wire.specs.Number.{IsNumber}
use Rattle.compact_wire.specs.Reads.{fits, most_bytes, list_header, list_header_of, element, count, items}
use Rattle.compact_wire.specs.Reads.{sequence}
use Rattle.compact_wire.specs.declared.header.ListHeader.{ListHeader}
use Rattle.compact_wire.specs.declared.header.ListHeader.TheVariants.{Sized as sized, Counted as counted}
use Rattle.compact_wire.specs.Codes.{code_of, kind_of}
use Rattle.compact_wire.specs.Spells.{Spells, SpellsItems, no_items, item, IsListHeader, short_list_header}
use Rattle.compact_wire.specs.Spells.{long_list_header, is_true, is_false, is_i8, is_i16, is_i32, is_i64}
use Rattle.compact_wire.specs.Spells.{is_double, is_binary, is_list, is_set, is_no_map, is_map, is_struct}
use Rattle.exact_reading.proofs.Items.{before_none}
use Rattle.exact_reading.specs.Exact.{Exact, Then, Pure, Follows}
use Rattle.exact_reading.proofs.Combinators.{pure_exact, one_exact, mapped_exact, then_exact, same_exact}
use Rattle.compact_wire.proofs.NumberLaws.{number_exact, zero_is}

-- The values of a level are read exactly, at each kind that fits there.
pub record Layer (l : ℕ) (read : Kind → ByteReader Node) : Type 0 where
  pub exact : (kind : Kind) → fits l kind ≡ true → (n : ℕ) → Exact IsByte n (Spells l kind) (read kind)
  pub some : (kind : Kind) → fits l kind ≡ true → (x : Node) × (t : List ℕ) × Spells l kind x t

-- ---- so many items

module _ (l : ℕ) (kind : Kind) (read : ByteReader Node) where
  abbrev ItemThen : ℕ → Nodes → List ℕ → Type 0
  ItemThen m = Then (Spells l kind) (λ x. Then (SpellsItems l kind m) (λ xs. Pure (node x xs)))

  item_to : (m : ℕ) (w : Nodes) (t : List ℕ) → ItemThen m w t → SpellsItems l kind (suc m) w t
  item_to m w t (x, a, b, p, (xs, c, d, q, (w_is, d_is), e2), e) =
      subst (λ (v : Nodes). SpellsItems l kind (suc m) v t) (sym w_is)
      (item l kind m x xs t a c p q (e ∙ ap (λ (z : List ℕ). a ++ z) (before_none b c d d_is e2)))

  item_from : (m : ℕ) (w : Nodes) (t : List ℕ) → SpellsItems l kind (suc m) w t → ItemThen m w t
  item_from m w t (item _ _ _ x xs _ a c p q e) =
      (x, a, c, p, (xs, c, [], q, (refl, refl), sym (append-nil c)), e)

  none_to : (w : Nodes) (t : List ℕ) → Pure no_nodes w t → SpellsItems l kind 0 w t
  none_to w t (w_is, t_is) =
      subst (λ (v : Nodes). SpellsItems l kind 0 v t) (sym w_is) (no_items l kind t t_is)

  none_from : (w : Nodes) (t : List ℕ) → SpellsItems l kind 0 w t → Pure no_nodes w t
  none_from w t (no_items _ _ _ e) = (refl, e)

  items_some : (m : ℕ) → (0 < m → (x : Node) × (t : List ℕ) × Spells l kind x t)
      → (xs : Nodes) × (t : List ℕ) × SpellsItems l kind m xs t
  items_some zero some = (no_nodes, [], no_items l kind [] refl)
  items_some (suc m) some =
      let a = some (omega arith) in
      let b = items_some m (λ h. a) in
      (node a.0 b.0, a.1 ++ b.1, item l kind m a.0 b.0 (a.1 ++ b.1) a.1 b.1 a.2 b.2 refl)

  items_exact : (m : ℕ) → (0 < m → (n : ℕ) → Exact IsByte n (Spells l kind) read)
      → (0 < m → (x : Node) × (t : List ℕ) × Spells l kind x t) → (n : ℕ)
      → Exact IsByte n (SpellsItems l kind m) (items read m)
  unfolding items
  items_exact zero exact some n =
      same_exact IsByte (Pure no_nodes) (SpellsItems l kind 0) (items read 0)
      (record { to = none_to; from = none_from }) n (pure_exact IsByte no_nodes n)
  items_exact (suc m) exact some n =
      let first : (j : ℕ) → Exact IsByte j (Spells l kind) read = exact (omega arith) in
      let others : (j : ℕ) → Exact IsByte j (SpellsItems l kind m) (items read m) =
      items_exact m (λ h. first) (λ h. some (omega arith)) in
      let rest = items_some m (λ h. some (omega arith)) in
      same_exact IsByte (ItemThen m) (SpellsItems l kind (suc m)) (items read (suc m))
      (record { to = item_to m; from = item_from m }) n
      (then_exact IsByte (Spells l kind) (λ x. Then (SpellsItems l kind m) (λ xs. Pure (node x xs))) read
      (λ x. and_then (items read m) (λ xs. pure (node x xs))) n n first
      (λ x t p. record {
        exact = mapped_exact IsByte (SpellsItems l kind m) (items read m) (λ xs. node x xs) n (others n);
        some = (node x rest.0, rest.1, (rest.0, rest.1, [], rest.2, (refl, refl), sym (append-nil rest.1)));
      }) (λ x t p. omega arith))

-- ---- the header

pub and_then_some : {A B : Type 0} (o : Option A) (f : A → Option B) (y : B) → option_and_then f o ≡ Some y
    → (x : A) × (o ≡ Some x) × (f x ≡ Some y)
and_then_some (Some x) f y e = (x, refl, e)
and_then_some None f y e = absurd cc

-- the choice that a header makes
chosen : (is_fifteen is_zero fit : Bool) (kind : Kind) (size : ℕ) (h : ListHeader)
    → cond is_fifteen (Some (counted kind)) (cond (is_zero || fit) (Some (sized kind size)) None) ≡ Some h
    → ((is_fifteen ≡ true) × (h ≡ counted kind))
    ⊎ ((is_fifteen ≡ false) × ((is_zero ≡ true) ⊎ (fit ≡ true)) × (h ≡ sized kind size))
chosen true is_zero fit kind size h e = inl (refl, cc)
chosen false true fit kind size h e = inr (refl, inl refl, cc)
chosen false false true kind size h e = inr (refl, inr refl, cc)
chosen false false false kind size h e = absurd cc

-- what is read of a header byte
HeaderIs : ℕ → ℕ → ListHeader → Type 0
HeaderIs l b h =
    (kind : Kind) × (kind_of (b % 16) ≡ Some kind)
    × (((b / 16 ≡ 15) × (h ≡ counted kind))
    ⊎ ((b / 16 ≢ 15) × ((b / 16 ≡ 0) ⊎ (fits l kind ≡ true)) × (h ≡ sized kind (b / 16))))

header_is : (l b : ℕ) (h : ListHeader) → list_header l b ≡ Some h → HeaderIs l b h
unfolding HeaderIs list_header
header_is l b h e =
    let a = and_then_some (kind_of (b % 16)) (list_header_of l (b / 16)) h e in (
      a.0,
      a.1,
      elim (chosen (eqb (b / 16) 15) (eqb (b / 16) 0) (fits l a.0) a.0 (b / 16) h a.2) [
        | inl c ↦ inl (eqb-true _ _ c.0, c.1)
        | inr c ↦ inr (eqb-false _ _ c.0, elim c.1 [ inl z ↦ inl (eqb-true _ _ z) | inr f ↦ inr f ], c.2)
      ],
    )

not_same : (a b : ℕ) → a < b → eqb a b ≡ false
not_same a b lt = grind (arith, nat_tests)

not_above : (a b : ℕ) → b < a → eqb a b ≡ false
not_above a b lt = grind (arith, nat_tests)

-- the header that is read of a byte that is written
header_sized : (l n : ℕ) (kind : Kind) → n < 15 → (0 < n → fits l kind ≡ true)
    → list_header_of l n kind ≡ Some (sized kind n)
header_sized l zero kind lt fit = refl
header_sized l (suc n) kind lt fit =
    let not_fifteen : eqb (suc n) 15 ≡ false = not_same (suc n) 15 (omega arith) in
    let fits_it : fits l kind ≡ true = fit (omega arith) in
    let not_zero : eqb (suc n) 0 ≡ false = not_above (suc n) 0 (omega arith) in
    rw (not_fifteen, not_zero, fits_it) refl

byte_header : (l n c : ℕ) (kind : Kind) → c < 16 → kind_of c ≡ Some kind
    → list_header l (16 * n + c) ≡ list_header_of l n kind
unfolding list_header
byte_header l n c kind lt is =
    let q : (16 * n + c) / 16 ≡ n = omega arith in
    let r : (16 * n + c) % 16 ≡ c = omega arith in
    rw (q, r, is) refl

header_counted : (l : ℕ) (kind : Kind) → list_header_of l 15 kind ≡ Some (counted kind)
header_counted l kind = refl

pub fits_scalar : (l : ℕ) (kind : Kind) → fits 0 kind ≡ true → fits l kind ≡ true
fits_scalar zero kind h = h
fits_scalar (suc l) kind h = refl

-- only what fits is spelled
pub spells_fits : (l : ℕ) (kind : Kind) (x : Node) (t : List ℕ) → Spells l kind x t → fits l kind ≡ true
spells_fits l kind x t (is_true _ _ _) = fits_scalar l k.Flag refl
spells_fits l kind x t (is_false _ _ _ _ _) = fits_scalar l k.Flag refl
spells_fits l kind x t (is_i8 _ _ _ _ _ _) = fits_scalar l k.I8 refl
spells_fits l kind x t (is_i16 _ _ _ _) = fits_scalar l k.I16 refl
spells_fits l kind x t (is_i32 _ _ _ _) = fits_scalar l k.I32 refl
spells_fits l kind x t (is_i64 _ _ _ _) = fits_scalar l k.I64 refl
spells_fits l kind x t (is_double _ _ _ _) = fits_scalar l k.Double refl
spells_fits l kind x t (is_binary _ _ _ _ _ _ _) = fits_scalar l k.Binary refl
spells_fits l kind x t (is_list _ _ _ _ _ _ _ _ _ _) = refl
spells_fits l kind x t (is_set _ _ _ _ _ _ _ _ _ _) = refl
spells_fits l kind x t (is_no_map _ _ _) = refl
spells_fits l kind x t (is_map _ _ _ _ _ _ _ _ _ _ _ _ _ _ _ _ _) = refl
spells_fits l kind x t (is_struct _ _ _ _) = refl

items_fit : (l : ℕ) (kind : Kind) (n : ℕ) (xs : Nodes) (t : List ℕ) → SpellsItems l kind n xs t → 0 < n
    → fits l kind ≡ true
items_fit l kind n xs t (no_items _ _ _ _) h = absurd (omega arith)
items_fit l kind n xs t (item _ _ _ x _ _ u _ p _ _) h = spells_fits l kind x u p

abbrev greatest : Bool → ℕ
greatest fit = cond fit most_bytes 0

within : (fit : Bool) (n : ℕ) → (0 < n → fit ≡ true) → n ≤ most_bytes → n ≤ greatest fit
within true n h le = le
within false zero h le = omega arith
within false (suc n) h le = absurd (let f : false ≡ true = h (omega arith) in cc)

within_most : (fit : Bool) (n : ℕ) → n ≤ greatest fit → (n ≤ most_bytes) × (0 < n → fit ≡ true)
within_most true n le = (le, λ h. refl)
within_most false n le = (omega arith, λ h. absurd (omega arith))

abbrev Count : ℕ → ListHeader → ℕ → List ℕ → Type 0
Count l (sized kind size) = Pure size
Count l (counted kind) = IsNumber 5 (greatest (fits l kind))

module _ (l : ℕ) (read : Kind → ByteReader Node) (layer : Layer l read) (kind_of_row : Kind)
    (make : ℕ → Nodes → Node)
    (is_row : (kind : Kind) (n : ℕ) (xs : Nodes) (t h u : List ℕ) → IsListHeader kind n h
    → SpellsItems l kind n xs u → t ≡ h ++ u → Spells (suc l) kind_of_row (make (code_of kind) xs) t)
    (row_is : (w : Node) (t : List ℕ) → Spells (suc l) kind_of_row w t
    → (kind : Kind) × (n : ℕ) × (xs : Nodes) × (h : List ℕ) × (u : List ℕ) × (w ≡ make (code_of kind) xs)
    × IsListHeader kind n h × SpellsItems l kind n xs u × (t ≡ h ++ u)) where
  abbrev Made : ListHeader → ℕ → Node → List ℕ → Type 0
  Made h n = Then (SpellsItems l (element h) n) (λ xs. Pure (make (code_of (element h)) xs))

  abbrev Counted : ListHeader → Node → List ℕ → Type 0
  Counted h = Then (Count l h) (Made h)

  abbrev RowThen : Node → List ℕ → Type 0
  RowThen = Then (OneByte (list_header l)) Counted

  row_to : (w : Node) (t : List ℕ) → RowThen w t → Spells (suc l) kind_of_row w t
  unfolding HeaderIs
  row_to w t (
    sized kind size,
    a,
    b,
    (c, byte, means, a_is),
    (n, u, v, (n_is, u_is), (xs, x1, x2, its, (w_is, x2_is), e3), e2),
    e,
  ) =
      let h = header_is l c (sized kind size) means in
      elim h.2 [
        | inl z ↦ absurd (let no_such : sized kind size ≡ counted h.0 = z.1 in cc)
        | inr z ↦
            let same : sized kind size ≡ sized h.0 (c / 16) = z.2 in
            let size_is : size ≡ c / 16 = cc in
            let kind_is : h.0 ≡ kind = cc in
            let tail : b ≡ x1 = e2 ∙ ap (λ (y : List ℕ). y ++ v) u_is ∙ before_none v x1 x2 x2_is e3 in
            let not_fifteen = z.0 in
            let header : IsListHeader kind n (c ∷ []) =
            short_list_header kind n (c % 16) (c ∷ []) (omega (arith, n_is, size_is, z.0)) (omega arith)
            (h.1 ∙ ap (λ (y : Kind). Some y) kind_is)
            (ap (λ (y : ℕ). y ∷ []) (omega (arith, n_is, size_is))) in
            subst (λ (y : Node). Spells (suc l) kind_of_row y t) (sym w_is)
            (is_row kind n xs t (c ∷ []) x1 header its
            (e ∙ ap (λ (y : List ℕ). y ++ b) a_is ∙ ap (λ (y : List ℕ). c ∷ y) tail))
      ]
  row_to w t (
    counted kind,
    a,
    b,
    (c, byte, means, a_is),
    (n, u, v, number_is, (xs, x1, x2, its, (w_is, x2_is), e3), e2),
    e,
  ) =
      let h = header_is l c (counted kind) means in
      elim h.2 [
        | inl z ↦
            let same : counted kind ≡ counted h.0 = z.1 in
            let kind_is : h.0 ≡ kind = cc in
            let tail : b ≡ u ++ x1 = e2 ∙ ap (λ (y : List ℕ). u ++ y) (before_none v x1 x2 x2_is e3) in
            let m = within_most (fits l kind) n number_is.small_enough in
            let number_most : IsNumber 5 (2 ^ 31 - 1) n u =
            record {
              short_enough = number_is.short_enough;
              small_enough = m.0;
              digits = number_is.digits;
            } in
            let header : IsListHeader kind n (c ∷ u) =
            long_list_header kind n (c % 16) (c ∷ u) u (omega arith)
            (h.1 ∙ ap (λ (y : Kind). Some y) kind_is) number_most
            (ap (λ (y : ℕ). y ∷ u) (omega (arith, z.0))) in
            subst (λ (y : Node). Spells (suc l) kind_of_row y t) (sym w_is)
            (is_row kind n xs t (c ∷ u) x1 header its
            (e ∙ ap (λ (y : List ℕ). y ++ b) a_is ∙ ap (λ (y : List ℕ). c ∷ y) tail))
        | inr z ↦ absurd (let no_such : counted kind ≡ sized h.0 (c / 16) = z.2 in cc)
      ]

  from_header : (kind : Kind) (n : ℕ) (xs : Nodes) (w : Node) (t h u : List ℕ) → w ≡ make (code_of kind) xs
      → IsListHeader kind n h → SpellsItems l kind n xs u → t ≡ h ++ u → RowThen w t
  from_header kind n xs w t h u w_is (short_list_header _ _ c _ lt c_lt kind_is h_is) its e =
      let means : list_header l (16 * n + c) ≡ Some (sized kind n) =
      byte_header l n c kind c_lt kind_is ∙ header_sized l n kind lt (items_fit l kind n xs u its) in (
        sized kind n,
        (16 * n + c) ∷ [],
        u,
        (16 * n + c, omega arith, means, refl),
        (n, [], u, (refl, refl), (xs, u, [], its, (w_is, refl), sym (append-nil u)), refl),
        e
            ∙ ap (λ (y : List ℕ). y ++ u) h_is,
      )
  from_header kind n xs w t h u w_is (long_list_header _ _ c _ v c_lt kind_is number_is h_is) its e =
      let means : list_header l (16 * 15 + c) ≡ Some (counted kind) = byte_header l 15 c kind c_lt kind_is in
      let bounded : IsNumber 5 (greatest (fits l kind)) n v =
      record {
        short_enough = number_is.short_enough;
        small_enough =
            within (fits l kind) n (items_fit l kind n xs u its) number_is.small_enough;
        digits =
            number_is.digits;
      } in (
        counted kind,
        (16 * 15 + c) ∷ [],
        v ++ u,
        (16 * 15 + c, omega arith, means, refl),
        (n, v, u, bounded, (xs, u, [], its, (w_is, refl), sym (append-nil u)), refl),
        e
            ∙ ap (λ (y : List ℕ). y ++ u) h_is,
      )

  row_from : (w : Node) (t : List ℕ) → Spells (suc l) kind_of_row w t → RowThen w t
  row_from w t is = let f = row_is w t is in from_header f.0 f.1 f.2 w t f.3 f.4 f.5 f.6 f.7 f.8

  -- where there are items, they fit
  count_fits : (h : ListHeader) (c : ℕ) (n : ℕ) (u : List ℕ) → list_header l c ≡ Some h → Count l h n u
      → 0 < n → fits l (element h) ≡ true
  unfolding HeaderIs
  count_fits (sized kind size) c n u means (n_is, u_is) pos_n =
      let h = header_is l c (sized kind size) means in
      elim h.2 [
        | inl z ↦ absurd (let no_such : sized kind size ≡ counted h.0 = z.1 in cc)
        | inr z ↦
            let same : sized kind size ≡ sized h.0 (c / 16) = z.2 in
            let size_is : size ≡ c / 16 = cc in
            let kind_is : h.0 ≡ kind = cc in
            elim z.1 [
              | inl none ↦ absurd (omega (arith, n_is, size_is, none))
              | inr fit ↦ subst (λ (y : Kind). fits l y ≡ true) kind_is fit
            ]
      ]
  count_fits (counted kind) c n u means number_is pos_n =
      (within_most (fits l kind) n number_is.small_enough).1 pos_n

  count_exact : (h : ListHeader) (n : ℕ) → Exact IsByte n (Count l h) (count l h)
  count_exact (sized kind size) n = pure_exact IsByte size n
  count_exact (counted kind) n = number_exact 4 (greatest (fits l kind)) n

  count_some : (h : ListHeader) → (n : ℕ) × (u : List ℕ) × Count l h n u
  count_some (sized kind size) = (size, [], (refl, refl))
  count_some (counted kind) = (0, 0 ∷ [], zero_is 4 (greatest (fits l kind)))

  made_exact : (h : ListHeader) (c m : ℕ) (u : List ℕ) → list_header l c ≡ Some h → Count l h m u → (n : ℕ)
      → Follows IsByte n (Made h m)
      (and_then (items (read (element h)) m) (λ xs. pure (make (code_of (element h)) xs)))
  made_exact h c m u means counted_is n =
      let kind : Kind = element h in
      let fit : 0 < m → fits l kind ≡ true = count_fits h c m u means counted_is in
      let some = items_some l kind (read kind) m (λ p. layer.some kind (fit p)) in
      record {
        exact = mapped_exact IsByte (SpellsItems l kind m) (items (read kind) m)
            (λ xs. make (code_of kind) xs) n
            (items_exact l kind (read kind) m (λ p. layer.exact kind (fit p)) (λ p. layer.some kind (fit p))
            n);
        some = (
          make (code_of kind) some.0,
          some.1,
          (some.0, some.1, [], some.2, (refl, refl), sym (append-nil some.1)),
        );
      }

  counted_exact : (h : ListHeader) (c : ℕ) → list_header l c ≡ Some h → (n : ℕ)
      → Follows IsByte n (Counted h)
      (and_then (count l h)
      (λ m. and_then (items (read (element h)) m) (λ xs. pure (make (code_of (element h)) xs))))
  counted_exact h c means n =
      let s = count_some h in
      let t = (made_exact h c s.0 s.1 means s.2 n).some in
      record {
        exact = then_exact IsByte (Count l h) (Made h) (count l h)
            (λ m. and_then (items (read (element h)) m) (λ xs. pure (make (code_of (element h)) xs))) n n
            (count_exact h)
            (λ m u p. made_exact h c m u means p n) (λ m u p. omega arith);
        some = (t.0, s.1 ++ t.1, (s.0, s.1, t.1, s.2, t.2, refl));
      }

  header_one : list_header l 1 ≡ Some (sized k.Flag 0)
  unfolding list_header kind_of
  header_one = refl

  pub row_exact : (n : ℕ) → Exact IsByte n (Spells (suc l) kind_of_row) (sequence make l read)
  unfolding sequence
  row_exact n =
      same_exact IsByte RowThen (Spells (suc l) kind_of_row) (sequence make l read)
      (record { to = row_to; from = row_from }) n
      (then_exact IsByte (OneByte (list_header l)) Counted (one (list_header l))
      (λ h. and_then (count l h)
      (λ m. and_then (items (read (element h)) m) (λ xs. pure (make (code_of (element h)) xs)))) n n
      (one_exact IsByte (list_header l) 1 (sized k.Flag 0) (omega arith) header_one)
      (λ h t p. counted_exact h p.0 p.2 n) (λ h t p. omega arith))

  pub row_some : (x : Node) × (t : List ℕ) × Spells (suc l) kind_of_row x t
  unfolding kind_of
  row_some = (
    make 1 no_nodes,
    1 ∷ [],
    is_row k.Flag 0 no_nodes (1 ∷ []) (1 ∷ []) []
        (short_list_header k.Flag 0 1 (1 ∷ []) (omega arith) (omega arith) refl refl)
        (no_items l k.Flag [] refl) refl,
  )

list_is : (l : ℕ) (w : Node) (t : List ℕ) → Spells (suc l) k.List w t
    → (kind : Kind) × (n : ℕ) × (xs : Nodes) × (h : List ℕ) × (u : List ℕ) × (w ≡ list (code_of kind) xs)
    × IsListHeader kind n h × SpellsItems l kind n xs u × (t ≡ h ++ u)
list_is l w t (is_list _ kind n xs _ h u header its e) = (kind, n, xs, h, u, refl, header, its, e)

set_is : (l : ℕ) (w : Node) (t : List ℕ) → Spells (suc l) k.Set w t
    → (kind : Kind) × (n : ℕ) × (xs : Nodes) × (h : List ℕ) × (u : List ℕ) × (w ≡ set (code_of kind) xs)
    × IsListHeader kind n h × SpellsItems l kind n xs u × (t ≡ h ++ u)
set_is l w t (is_set _ kind n xs _ h u header its e) = (kind, n, xs, h, u, refl, header, its, e)

pub list_exact : (l : ℕ) (read : Kind → ByteReader Node) → Layer l read → (n : ℕ)
    → Exact IsByte n (Spells (suc l) k.List) (sequence list l read)
list_exact l read layer n =
    row_exact l read layer k.List list (λ kind m xs t h u a b e. is_list l kind m xs t h u a b e) (list_is l)
    n

pub set_exact : (l : ℕ) (read : Kind → ByteReader Node) → Layer l read → (n : ℕ)
    → Exact IsByte n (Spells (suc l) k.Set) (sequence set l read)
set_exact l read layer n =
    row_exact l read layer k.Set set (λ kind m xs t h u a b e. is_set l kind m xs t h u a b e) (set_is l) n

pub list_some : (l : ℕ) (read : Kind → ByteReader Node) → Layer l read
    → (x : Node) × (t : List ℕ) × Spells (suc l) k.List x t
list_some l read layer =
    row_some l read layer k.List list (λ kind m xs t h u a b e. is_list l kind m xs t h u a b e) (list_is l)

pub set_some : (l : ℕ) (read : Kind → ByteReader Node) → Layer l read
    → (x : Node) × (t : List ℕ) × Spells (suc l) k.Set x t
set_some l read layer =
    row_some l read layer k.Set set (λ kind m xs t h u a b e. is_set l kind m xs t h u a b e) (set_is l)
