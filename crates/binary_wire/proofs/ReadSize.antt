-- Lengths and sizes are read exactly.
use Rattle.std.proofs.Common.{◌≡◌, ℕ, zero, suc, ◌+◌, ◌*◌, ◌^◌, ◌<◌, ◌≤◌, Bool, true, false, cond, leb, List, [], ◌∷◌, ◌++◌, length, Some, None, refl, sym, ap, subst, ◌∙◌, arith}
use Rattle.byteorder.specs.Endian.{big_number}
use Rattle.exact_reading.specs.Reading.{and_then, pure, one}
use Rattle.exact_reading.specs.Exact.{Exact, Then, Pure, Follows}
use Rattle.exact_reading.proofs.Items.{before_none}
use Rattle.exact_reading.proofs.Combinators.{one_exact, pure_exact, then_exact, same_exact}
use Rattle.compact_wire.specs.Bytes.{IsByte, AreBytes, ByteReader, OneByte}
use Rattle.binary_wire.specs.BinaryNumbers.{IsSize}
use Rattle.binary_wire.specs.BinaryReads.{up_to, size}

-- a size, and more than 0 only where what is counted fits
abbrev pub SizeAt : Bool → ℕ → List ℕ → Type 0
SizeAt fit n t = IsSize n t × (0 < n → fit ≡ true)

up_chosen : (low : Bool) (b a : ℕ) → cond low (Some b) None ≡ Some a → (low ≡ true) × (a ≡ b)
up_chosen true b a e = (refl, cc)
up_chosen false b a e = absurd cc

up_to_is : (most b a : ℕ) → up_to most b ≡ Some a → (a ≡ b) × (b ≤ most)
unfolding up_to
up_to_is most b a e = let c = up_chosen (leb b most) b a e in (c.1, let low = c.0 in grind (arith, low))

up_to_again : (most b : ℕ) → b ≤ most → up_to most b ≡ Some b
unfolding up_to
up_to_again most b le = let low : leb b most ≡ true = grind arith in rw low refl

module _ {B : Type 0} (most n : ℕ) (Next : ℕ → B → List ℕ → Type 0) (read : ℕ → ByteReader B) (next : (b : ℕ) → Follows IsByte n (Next b) (read b)) where
  -- a byte, and what follows it
  byte_follows : Follows IsByte n (Then (OneByte (up_to most)) Next) (and_then (one (up_to most)) read)
  byte_follows =
      let s = (next 0).some in
      let zero_is = up_to_again most 0 (omega arith) in
      record {
        exact = then_exact IsByte (OneByte (up_to most)) Next (one (up_to most)) read n n
            (one_exact IsByte (up_to most) 0 0 (omega arith) zero_is) (λ b t p. next b) (λ b t p. omega arith);
        some = (s.0, 0 ∷ s.1, (0, 0 ∷ [], s.1, (0, omega arith, zero_is, refl), s.2, refl));
      }

abbrev Fourth : ℕ → ℕ → ℕ → ℕ → ℕ → List ℕ → Type 0
Fourth a b c d = Pure (big_number 4 (a ∷ b ∷ c ∷ d ∷ []))

abbrev Third : ℕ → ℕ → ℕ → ℕ → ℕ → List ℕ → Type 0
Third most a b c = Then (OneByte (up_to most)) (Fourth a b c)

abbrev Second : ℕ → ℕ → ℕ → ℕ → List ℕ → Type 0
Second most a b = Then (OneByte (up_to most)) (Third most a b)

abbrev First : ℕ → ℕ → ℕ → List ℕ → Type 0
First most a = Then (OneByte (up_to most)) (Second most a)

abbrev SizeThen : Bool → ℕ → List ℕ → Type 0
SizeThen fit = Then (OneByte (up_to (cond fit 127 0))) (First (cond fit 255 0))

module _ (n m : ℕ) where
  fourth : (a b c d : ℕ) → Follows IsByte n (Fourth a b c d) (pure (big_number 4 (a ∷ b ∷ c ∷ d ∷ [])))
  fourth a b c d = record {
    exact = pure_exact IsByte (big_number 4 (a ∷ b ∷ c ∷ d ∷ [])) n;
    some = (big_number 4 (a ∷ b ∷ c ∷ d ∷ []), [], (refl, refl));
  }

  third : (a b c : ℕ) → Follows IsByte n (Third m a b c) (and_then (one (up_to m)) (λ d. pure (big_number 4 (a ∷ b ∷ c ∷ d ∷ []))))
  third a b c = byte_follows m n (Fourth a b c) (λ d. pure (big_number 4 (a ∷ b ∷ c ∷ d ∷ []))) (fourth a b c)

  second : (a b : ℕ) → Follows IsByte n (Second m a b) (and_then (one (up_to m)) (λ c. and_then (one (up_to m)) (λ d. pure (big_number 4 (a ∷ b ∷ c ∷ d ∷ [])))))
  second a b = byte_follows m n (Third m a b) (λ c. and_then (one (up_to m)) (λ d. pure (big_number 4 (a ∷ b ∷ c ∷ d ∷ [])))) (third a b)

  first : (a : ℕ) → Follows IsByte n (First m a) (and_then (one (up_to m)) (λ b. and_then (one (up_to m)) (λ c. and_then (one (up_to m)) (λ d. pure (big_number 4 (a ∷ b ∷ c ∷ d ∷ []))))))
  first a = byte_follows m n (Second m a) (λ b. and_then (one (up_to m)) (λ c. and_then (one (up_to m)) (λ d. pure (big_number 4 (a ∷ b ∷ c ∷ d ∷ []))))) (second a)

then_size : (fit : Bool) (n : ℕ) → Exact IsByte n (SizeThen fit) (size fit)
unfolding size
then_size fit n =
    (byte_follows (cond fit 127 0) n (First (cond fit 255 0))
    (λ a. and_then (one (up_to (cond fit 255 0))) (λ b. and_then (one (up_to (cond fit 255 0))) (λ c. and_then (one (up_to (cond fit 255 0))) (λ d. pure (big_number 4 (a ∷ b ∷ c ∷ d ∷ []))))))
    (first n (cond fit 255 0))).exact

big_four : (a b c d : ℕ) → big_number 4 (a ∷ b ∷ c ∷ d ∷ []) ≡ a * 16777216 + b * 65536 + c * 256 + d
big_four a b c d = omega arith

-- so far a size may go where what is counted fits, and where it does not
sized_bound : (fit : Bool) (a b c d : ℕ) → a ≤ cond fit 127 0 → b ≤ cond fit 255 0 → c ≤ cond fit 255 0 → d ≤ cond fit 255 0
    → (big_number 4 (a ∷ b ∷ c ∷ d ∷ []) < 2 ^ 31) × (0 < big_number 4 (a ∷ b ∷ c ∷ d ∷ []) → fit ≡ true)
sized_bound true a b c d ha hb hc hd = (omega arith, λ h. refl)
sized_bound false a b c d ha hb hc hd = (omega arith, λ h. absurd (omega arith))

sized_again : (fit : Bool) (a b c d n : ℕ) → n ≡ big_number 4 (a ∷ b ∷ c ∷ d ∷ []) → n < 2 ^ 31 → (0 < n → fit ≡ true) → a < 256 → b < 256 → c < 256 → d < 256
    → (a ≤ cond fit 127 0) × (b ≤ cond fit 255 0) × (c ≤ cond fit 255 0) × (d ≤ cond fit 255 0)
sized_again true a b c d n is lt h ha hb hc hd = (omega (arith, is, lt), omega arith, omega arith, omega arith)
sized_again false a b c d zero is lt h ha hb hc hd = (omega (arith, is), omega (arith, is), omega (arith, is), omega (arith, is))
sized_again false a b c d (suc n) is lt h ha hb hc hd = absurd (let f : false ≡ true = h (omega arith) in cc)

size_to : (fit : Bool) (n : ℕ) (t : List ℕ) → SizeThen fit n t → SizeAt fit n t
size_to fit n t (a, ta, ra, (x, x_byte, x_means, ta_is), (b, tb, rb, (y, y_byte, y_means, tb_is), (c, tc, rc, (z, z_byte, z_means, tc_is), (d, td, rd, (u, u_byte, u_means, td_is), (n_is, rd_is), e4), e3), e2), e1) =
    let pa = up_to_is (cond fit 127 0) x a x_means in
    let pb = up_to_is (cond fit 255 0) y b y_means in
    let pc = up_to_is (cond fit 255 0) z c z_means in
    let pd = up_to_is (cond fit 255 0) u d u_means in
    let last : rc ≡ u ∷ [] = before_none rc td rd rd_is e4 ∙ td_is in
    let after_b : rb ≡ z ∷ u ∷ [] = e3 ∙ ap (λ (s : List ℕ). s ++ rc) tc_is ∙ ap (λ (s : List ℕ). z ∷ s) last in
    let after_a : ra ≡ y ∷ z ∷ u ∷ [] = e2 ∙ ap (λ (s : List ℕ). s ++ rb) tb_is ∙ ap (λ (s : List ℕ). y ∷ s) after_b in
    let t_is : t ≡ x ∷ y ∷ z ∷ u ∷ [] = e1 ∙ ap (λ (s : List ℕ). s ++ ra) ta_is ∙ ap (λ (s : List ℕ). x ∷ s) after_a in
    let same : a ∷ b ∷ c ∷ d ∷ [] ≡ x ∷ y ∷ z ∷ u ∷ [] =
    ap (λ (s : ℕ). s ∷ b ∷ c ∷ d ∷ []) pa.0 ∙ ap (λ (s : ℕ). x ∷ s ∷ c ∷ d ∷ []) pb.0 ∙ ap (λ (s : ℕ). x ∷ y ∷ s ∷ d ∷ []) pc.0 ∙ ap (λ (s : ℕ). x ∷ y ∷ z ∷ s ∷ []) pd.0 in
    let number : n ≡ big_number 4 (x ∷ y ∷ z ∷ u ∷ []) = n_is ∙ ap (big_number 4) same in
    let bound = sized_bound fit x y z u pa.1 pb.1 pc.1 pd.1 in (
      record {
        four = ap length t_is;
        bytes = subst AreBytes (sym t_is) (x_byte, (y_byte, (z_byte, (u_byte, tt))));
        number = number ∙ ap (big_number 4) (sym t_is);
        small = subst (λ (k : ℕ). k < 2 ^ 31) (sym number) bound.0;
      },
      λ h. bound.1 (subst (λ (k : ℕ). 0 < k) number h),
    )

size_from : (fit : Bool) (n : ℕ) (t : List ℕ) → SizeAt fit n t → SizeThen fit n t
size_from fit n [] (is, h) = absurd (let e = is.four in omega arith)
size_from fit n (a ∷ []) (is, h) = absurd (let e = is.four in omega arith)
size_from fit n (a ∷ b ∷ []) (is, h) = absurd (let e = is.four in omega arith)
size_from fit n (a ∷ b ∷ c ∷ []) (is, h) = absurd (let e = is.four in omega arith)
size_from fit n (a ∷ b ∷ c ∷ d ∷ x ∷ t) (is, h) = absurd (let e = is.four in omega arith)
size_from fit n (a ∷ b ∷ c ∷ d ∷ []) (is, h) =
    let bytes = is.bytes in
    let m = cond fit 255 0 in
    let low = sized_again fit a b c d n is.number is.small h bytes.0 bytes.1.0 bytes.1.1.0 bytes.1.1.1.0 in (
      a,
      a ∷ [],
      b ∷ c ∷ d ∷ [],
      (a, bytes.0, up_to_again (cond fit 127 0) a low.0, refl),
      (
        b,
        b ∷ [],
        c ∷ d ∷ [],
        (b, bytes.1.0, up_to_again m b low.1, refl),
        (
          c,
          c ∷ [],
          d ∷ [],
          (c, bytes.1.1.0, up_to_again m c low.2, refl),
          (d, d ∷ [], [], (d, bytes.1.1.1.0, up_to_again m d low.3, refl), (is.number, refl), refl),
          refl,
        ),
        refl,
      ),
      refl,
    )

pub size_exact : (fit : Bool) (n : ℕ) → Exact IsByte n (SizeAt fit) (size fit)
size_exact fit n = same_exact IsByte (SizeThen fit) (SizeAt fit) (size fit) (record { to = size_to fit; from = size_from fit }) n (then_size fit n)

pub whole_size_exact : (n : ℕ) → Exact IsByte n IsSize (size true)
whole_size_exact n =
    same_exact IsByte (SizeAt true) IsSize (size true)
    (record { to = λ m t is. is.0; from = λ m t is. (is, λ h. refl) }) n (size_exact true n)

pub zero_size : IsSize 0 (0 ∷ 0 ∷ 0 ∷ 0 ∷ [])
zero_size = record { four = refl; bytes = (omega arith, (omega arith, (omega arith, (omega arith, tt)))); number = refl; small = omega arith }

pub zero_at : (fit : Bool) → SizeAt fit 0 (0 ∷ 0 ∷ 0 ∷ 0 ∷ [])
zero_at fit = (zero_size, λ h. absurd (omega arith))
