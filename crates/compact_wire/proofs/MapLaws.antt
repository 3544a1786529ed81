-- Maps are read exactly.
use Rattle.std.proofs.Common.{◌≡◌, ℕ, zero, suc, ◌+◌, ◌-◌, ◌*◌, ◌/◌, ◌%◌, ◌^◌, ◌<◌, Bool, true, false, cond}
use Rattle.std.proofs.Common.{List, [], ◌∷◌, ◌++◌, Option, Some, None, refl, sym, ap, subst, ◌∙◌, arith}
use Rattle.std.proofs.lemmas.List.{append-nil}
use Rattle.compact_wire.specs.declared.kind.Kind.{Kind}
use Rattle.compact_wire.specs.declared.kind.Kind.TheVariants as k
use Rattle.compact_wire.specs.Node.{Node, Pairs, no_pairs, pair, map}
use Rattle.compact_wire.specs.Bytes.{IsByte, ByteReader, OneByte}
use Rattle.exact_reading.specs.Reading.{and_then, pure, one}
use Rattle.compact_wire.specs.Number.{IsNumber}
use Rattle.compact_wire.specs.Reads.{number, kind_at, if_fits, fits, most_bytes, kinds_of, pair_kinds}
use Rattle.compact_wire.specs.Reads.{map_header, pairs, mapping_pairs, map_tail, mapping}
use Rattle.compact_wire.specs.declared.header.PairKinds.{PairKinds}
use Rattle.compact_wire.specs.Codes.{code_of, kind_of}
use Rattle.compact_wire.specs.Spells.{Spells, SpellsPairs, no_pair, one_pair, is_no_map, is_map}
use Rattle.exact_reading.proofs.Items.{before_none}
use Rattle.exact_reading.specs.Exact.{Exact, Then, Pure, Follows}
use Rattle.exact_reading.proofs.Combinators.{pure_exact, one_exact, mapped_exact, then_exact, same_exact}
use Rattle.compact_wire.proofs.NumberLaws.{number_exact}
use Rattle.compact_wire.proofs.SequenceLaws.{Layer, spells_fits, and_then_some, fits_scalar}

if_fits_is : (fit : Bool) (a b : Kind) → cond fit (Some a) None ≡ Some b → (fit ≡ true) × (a ≡ b)
if_fits_is true a b e = (refl, cc)
if_fits_is false a b e = absurd cc

pub kind_at_is : (l c : ℕ) (kind : Kind) → kind_at l c ≡ Some kind
    → (kind_of c ≡ Some kind) × (fits l kind ≡ true)
unfolding kind_at
kind_at_is l c kind e =
    let a = and_then_some (kind_of c) (if_fits l) kind e in
    let f = if_fits_is (fits l a.0) a.0 kind a.2 in
    (a.1 ∙ ap (λ (z : Kind). Some z) f.1, subst (λ (z : Kind). fits l z ≡ true) f.1 f.0)

pub kind_at_again : (l c : ℕ) (kind : Kind) → kind_of c ≡ Some kind → fits l kind ≡ true
    → kind_at l c ≡ Some kind
unfolding kind_at
kind_at_again l c kind is fit = rw (is, fit) refl

kinds_are : (o p : Option Kind) (h : PairKinds) → kinds_of o p ≡ Some h
    → (o ≡ Some h.key) × (p ≡ Some h.value)
kinds_are (Some c) (Some d) h e =
    let k : pair_kinds c d ≡ h =
    cc in (ap (λ (z : PairKinds). Some z.key) k, ap (λ (z : PairKinds). Some z.value) k)
kinds_are (Some c) None h e = absurd cc
kinds_are None p h e = absurd cc

module _ (l : ℕ) (a b : Kind) (ra rb : ByteReader Node)
    (exact_a : (n : ℕ) → Exact IsByte n (Spells l a) ra) (exact_b : (n : ℕ) → Exact IsByte n (Spells l b) rb)
    (some_a : (x : Node) × (t : List ℕ) × Spells l a x t)
    (some_b : (x : Node) × (t : List ℕ) × Spells l b x t) where
  abbrev LastThen : ℕ → Node → Node → Pairs → List ℕ → Type 0
  LastThen m x y = Then (SpellsPairs l a b m) (λ xs. Pure (pair x y xs))

  abbrev SecondThen : ℕ → Node → Pairs → List ℕ → Type 0
  SecondThen m x = Then (Spells l b) (λ y. LastThen m x y)

  abbrev EntryThen : ℕ → Pairs → List ℕ → Type 0
  EntryThen m = Then (Spells l a) (λ x. SecondThen m x)

  entry_to : (m : ℕ) (w : Pairs) (t : List ℕ) → EntryThen m w t → SpellsPairs l a b (suc m) w t
  entry_to m w t (x, u, t1, p, (y, v, t2, q, (xs, c, d, r, (w_is, d_is), e3), e2), e) =
      let tail : t1 ≡ v ++ c = e2 ∙ ap (λ (z : List ℕ). v ++ z) (before_none t2 c d d_is e3) in
      subst (λ (z : Pairs). SpellsPairs l a b (suc m) z t) (sym w_is)
      (one_pair l a b m x y xs t u v c p q r (e ∙ ap (λ (z : List ℕ). u ++ z) tail))

  entry_from : (m : ℕ) (w : Pairs) (t : List ℕ) → SpellsPairs l a b (suc m) w t → EntryThen m w t
  entry_from m w t (one_pair _ _ _ _ x y xs _ u v c p q r e) =
      (x, u, v ++ c, p, (y, v, c, q, (xs, c, [], r, (refl, refl), sym (append-nil c)), refl), e)

  none_to : (w : Pairs) (t : List ℕ) → Pure no_pairs w t → SpellsPairs l a b 0 w t
  none_to w t (w_is, t_is) = subst (λ (v : Pairs). SpellsPairs l a b 0 v t) (sym w_is) (no_pair l a b t t_is)

  none_from : (w : Pairs) (t : List ℕ) → SpellsPairs l a b 0 w t → Pure no_pairs w t
  none_from w t (no_pair _ _ _ _ e) = (refl, e)

  pairs_some : (m : ℕ) → (xs : Pairs) × (t : List ℕ) × SpellsPairs l a b m xs t
  pairs_some zero = (no_pairs, [], no_pair l a b [] refl)
  pairs_some (suc m) =
      let r = pairs_some m in (
        pair some_a.0 some_b.0 r.0,
        some_a.1 ++ (some_b.1 ++ r.1),
        one_pair l a b m some_a.0 some_b.0 r.0 (some_a.1 ++ (some_b.1 ++ r.1)) some_a.1 some_b.1 r.1
            some_a.2 some_b.2 r.2 refl,
      )

  pairs_exact : (m n : ℕ) → Exact IsByte n (SpellsPairs l a b m) (pairs ra rb m)
  unfolding pairs
  pairs_exact zero n =
      same_exact IsByte (Pure no_pairs) (SpellsPairs l a b 0) (pairs ra rb 0)
      (record { to = none_to; from = none_from }) n (pure_exact IsByte no_pairs n)
  pairs_exact (suc m) n =
      let others : (j : ℕ) → Exact IsByte j (SpellsPairs l a b m) (pairs ra rb m) = λ j. pairs_exact m j in
      let rest = pairs_some m in
      let last_read : Node → Node → ByteReader Pairs =
      λ x y. and_then (pairs ra rb m) (λ xs. pure (pair x y xs)) in
      let last_some : (x y : Node) → (w : Pairs) × (t : List ℕ) × LastThen m x y w t =
      λ x y. (
        pair x y rest.0,
        rest.1,
        (rest.0, rest.1, [], rest.2, (refl, refl), sym (append-nil rest.1)),
      ) in
      let last_exact : (x y : Node) (j : ℕ) → Exact IsByte j (LastThen m x y) (last_read x y) =
      λ x y j. mapped_exact IsByte (SpellsPairs l a b m) (pairs ra rb m) (λ xs. pair x y xs) j (others j)
      in
      let second_some : (x : Node) → (w : Pairs) × (t : List ℕ) × SecondThen m x w t =
      λ x. let s =
      last_some x some_b.0 in (s.0, some_b.1 ++ s.1, (some_b.0, some_b.1, s.1, some_b.2, s.2, refl)) in
      let second_exact : (x : Node) → Exact IsByte n (SecondThen m x) (and_then rb (last_read x)) = λ x.
      then_exact IsByte (Spells l b) (λ y. LastThen m x y) rb (last_read x) n n exact_b
      (λ y t p. record { exact = last_exact x y n; some = last_some x y }) (λ y t p. omega arith) in
      same_exact IsByte (EntryThen m) (SpellsPairs l a b (suc m)) (pairs ra rb (suc m))
      (record { to = entry_to m; from = entry_from m }) n
      (then_exact IsByte (Spells l a) (λ x. SecondThen m x) ra (λ x. and_then rb (last_read x)) n n exact_a
      (λ x t p. record { exact = second_exact x; some = second_some x }) (λ x t p. omega arith))

module _ (l : ℕ) (read : Kind → ByteReader Node) (layer : Layer l read) where
  abbrev Entries : ℕ → PairKinds → Node → List ℕ → Type 0
  Entries m h =
      Then (SpellsPairs l h.key h.value (suc m)) (λ xs. Pure (map (code_of h.key) (code_of h.value) xs))

  abbrev MapTail : ℕ → Node → List ℕ → Type 0
  MapTail zero = Pure (map 0 0 no_pairs)
  MapTail (suc m) = Then (OneByte (map_header l)) (Entries m)

  abbrev MapThen : Node → List ℕ → Type 0
  MapThen = Then (IsNumber 5 (2 ^ 31 - 1)) MapTail

  heads : (c : ℕ) (h : PairKinds) → map_header l c ≡ Some h
      → (kind_of (c / 16) ≡ Some h.key) × (fits l h.key ≡ true) × (kind_of (c % 16) ≡ Some h.value)
      × (fits l h.value ≡ true)
  unfolding map_header
  heads c h e =
      let t = kinds_are (kind_at l (c / 16)) (kind_at l (c % 16)) h e in
      let f = kind_at_is l (c / 16) h.key t.0 in
      let g = kind_at_is l (c % 16) h.value t.1 in
      (f.0, f.1, g.0, g.1)

  heads_again : (c d : ℕ) (a b : Kind) → c < 16 → d < 16 → kind_of c ≡ Some a → kind_of d ≡ Some b
      → fits l a ≡ true → fits l b ≡ true → map_header l (16 * c + d) ≡ Some (pair_kinds a b)
  unfolding map_header
  heads_again c d a b c_lt d_lt c_is d_is fit_a fit_b =
      let q : (16 * c + d) / 16 ≡ c = omega arith in
      let r : (16 * c + d) % 16 ≡ d = omega arith in
      rw (q, r, kind_at_again l c a c_is fit_a, kind_at_again l d b d_is fit_b) refl

  map_to : (w : Node) (t : List ℕ) → MapThen w t → Spells (suc l) k.Map w t
  map_to w t (zero, h, b, number_is, (w_is, b_is), e) =
      subst (λ (z : Node). Spells (suc l) k.Map z t) (sym w_is)
      (is_no_map l t
      (subst (λ (z : List ℕ). IsNumber 5 (2 ^ 31 - 1) 0 z) (sym (before_none t h b b_is e)) number_is))
  map_to w t (
    suc m,
    h,
    b,
    number_is,
    (kinds, c1, u1, (c, byte, means, c1_is), (xs, u, v, its, (w_is, v_is), e3), e2),
    e,
  ) =
      let f = heads c kinds means in
      let c_is : c ≡ 16 * (c / 16) + c % 16 = omega arith in
      let tail : b ≡ (16 * (c / 16) + c % 16) ∷ u =
      e2 ∙ ap (λ (z : List ℕ). z ++ u1) c1_is ∙ ap (λ (z : List ℕ). c ∷ z) (before_none u1 u v v_is e3)
      ∙ ap (λ (z : ℕ). z ∷ u) c_is in
      subst (λ (z : Node). Spells (suc l) k.Map z t) (sym w_is)
      (is_map l kinds.key kinds.value m (c / 16) (c % 16) xs t h u number_is (omega arith) (omega arith) f.0
      f.2 its (e ∙ ap (λ (z : List ℕ). h ++ z) tail))

  pairs_fit : (a b : Kind) (m : ℕ) (xs : Pairs) (t : List ℕ) → SpellsPairs l a b (suc m) xs t
      → (fits l a ≡ true) × (fits l b ≡ true)
  pairs_fit a b m xs t (one_pair _ _ _ _ x y _ _ u v w p q r _) =
      (spells_fits l a x u p, spells_fits l b y v q)

  map_from : (w : Node) (t : List ℕ) → Spells (suc l) k.Map w t → MapThen w t
  map_from w t (is_no_map _ _ number_is) = (0, t, [], number_is, (refl, refl), sym (append-nil t))
  map_from w t (is_map _ key value m c d xs _ h u number_is c_lt d_lt c_is d_is its e) =
      let fit = pairs_fit key value m xs u its in
      let means : map_header l (16 * c + d) ≡ Some (pair_kinds key value) =
      heads_again c d key value c_lt d_lt c_is d_is fit.0 fit.1 in (
        suc m,
        h,
        (16 * c + d) ∷ u,
        number_is,
        (
          pair_kinds key value,
          (16 * c + d) ∷ [],
          u,
          (16 * c + d, omega arith, means, refl),
          (xs, u, [], its, (refl, refl), sym (append-nil u)),
          refl,
        ),
        e,
      )

  entries_follow : (m n : ℕ) (h : PairKinds) (c : ℕ) → map_header l c ≡ Some h
      → Follows IsByte n (Entries m h) (mapping_pairs read (suc m) h)
  entries_follow m n h c means =
      let a : Kind = h.key in
      let b : Kind = h.value in
      let f = heads c h means in
      let s = pairs_some l a b (read a) (read b) (layer.exact a f.1) (layer.exact b f.3) (layer.some a f.1)
      (layer.some b f.3) (suc m) in
      record {
        exact = mapped_exact IsByte (SpellsPairs l a b (suc m)) (pairs (read a) (read b) (suc m))
            (λ xs. map (code_of a) (code_of b) xs) n
            (pairs_exact l a b (read a) (read b) (layer.exact a f.1) (layer.exact b f.3) (layer.some a f.1)
            (layer.some b f.3) (suc m) n);
        some = (
          map (code_of a) (code_of b) s.0,
          s.1,
          (s.0, s.1, [], s.2, (refl, refl), sym (append-nil s.1)),
        );
      }

  header_flags : map_header l 17 ≡ Some (pair_kinds k.Flag k.Flag)
  unfolding kind_of
  header_flags =
      heads_again 1 1 k.Flag k.Flag (omega arith) (omega arith) refl refl (fits_scalar l k.Flag refl)
      (fits_scalar l k.Flag refl)

  tail_follows : (n m : ℕ) → Follows IsByte n (MapTail m) (map_tail l read m)
  tail_follows n zero =
      record { exact = pure_exact IsByte (map 0 0 no_pairs) n; some = (map 0 0 no_pairs, [], (refl, refl)) }
  tail_follows n (suc m) =
      let s = (entries_follow m n (pair_kinds k.Flag k.Flag) 17 header_flags).some in
      record {
        exact = then_exact IsByte (OneByte (map_header l)) (Entries m) (one (map_header l))
            (mapping_pairs read (suc m)) n n
            (one_exact IsByte (map_header l) 17 (pair_kinds k.Flag k.Flag) (omega arith) header_flags)
            (λ h t p. entries_follow m n h p.0 p.2) (λ h t p. omega arith);
        some = (
          s.0,
          17 ∷ s.1,
          (pair_kinds k.Flag k.Flag, 17 ∷ [], s.1, (17, omega arith, header_flags, refl), s.2, refl),
        );
      }

  pub mapping_exact : (n : ℕ) → Exact IsByte n (Spells (suc l) k.Map) (mapping l read)
  unfolding mapping
  mapping_exact n =
      same_exact IsByte MapThen (Spells (suc l) k.Map) (mapping l read)
      (record { to = map_to; from = map_from }) n
      (then_exact IsByte (IsNumber 5 (2 ^ 31 - 1)) MapTail (number 4 most_bytes) (map_tail l read) n n
      (number_exact 4 most_bytes) (λ m t p. tail_follows n m) (λ m t p. omega arith))
