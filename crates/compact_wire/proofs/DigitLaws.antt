-- The digits of a number in base 128, and zigzag.
use Rattle.std.proofs.Common.{◌≡◌, ℕ, zero, suc, ◌+◌, ◌*◌, ◌/◌, ◌%◌, ◌^◌, ◌<◌, ◌≤◌, inl, inr, [], ◌∷◌, length}
use Rattle.std.proofs.Common.{refl, sym, ap, subst, ◌∙◌, arith}
use Rattle.std.specs.Prelude.{ℤ, pos, negsuc}
use Rattle.std.proofs.lemmas.Bool.{cases_lt, lt-ltb, le-ltb}
use Rattle.std.proofs.lemmas.Nat.{pow-add}
use Rattle.compact_wire.specs.Number.{zigzag, unzigzag, shortest, digits_128}

-- ---- zigzag

unzigzag-even : (n : ℕ) → unzigzag (2 * n) ≡ pos n
unfolding unzigzag
unzigzag-even n = let r : 2 * n % 2 ≡ 0 = omega arith in let q : 2 * n / 2 ≡ n = omega arith in rw (r, q) refl

unzigzag-odd : (n : ℕ) → unzigzag (2 * n + 1) ≡ negsuc n
unfolding unzigzag
unzigzag-odd n =
    let r : (2 * n + 1) % 2 ≡ 1 = omega arith in let q : (2 * n + 1) / 2 ≡ n = omega arith in rw (r, q) refl

pub unzigzag-zigzag : (x : ℤ) → unzigzag (zigzag x) ≡ x
unzigzag-zigzag (pos n) = unzigzag-even n
unzigzag-zigzag (negsuc n) = unzigzag-odd n

pub zigzag-unzigzag : (n : ℕ) → zigzag (unzigzag n) ≡ n
unfolding unzigzag
zigzag-unzigzag n =
    elim (cases_lt (n % 2) 1) [
      | inl lt ↦ let r : n % 2 ≡ 0 = omega arith in rw r (omega arith)
      | inr le ↦ let r : n % 2 ≡ 1 = omega arith in rw r (omega arith)
    ]

-- ---- digits

pub quotient_fits : (room n : ℕ) → n < 2 ^ (7 * suc room + 7) → n / 128 < 2 ^ (7 * room + 7)
quotient_fits room n lt =
    let k : ℕ = 7 * room + 7 in
    let e : 7 * suc room + 7 ≡ k + 7 = omega arith in
    let p : 2 ^ (k + 7) ≡ 2 ^ k * 2 ^ 7 = pow-add 2 k 7 in
    let h : n < 2 ^ k * 128 = subst (λ (z : ℕ). n < z) (ap (λ (z : ℕ). 2 ^ z) e ∙ p) lt in
    omega arith

pub digits-last : (room n : ℕ) → n < 128 → digits_128 room n ≡ n ∷ []
unfolding digits_128
digits-last zero n lt = refl
digits-last (suc room) n lt = rw (lt-ltb n 128 lt) refl

pub digits-more : (room n : ℕ) → 128 ≤ n
    → digits_128 (suc room) n ≡ (n % 128 + 128) ∷ digits_128 room (n / 128)
unfolding digits_128
digits-more room n le = rw (le-ltb n 128 le) refl

-- more room changes nothing where a number has enough
pub digits-room : (room n : ℕ) → n < 2 ^ (7 * room + 7) → digits_128 (suc room) n ≡ digits_128 room n
digits-room zero n lt = let small : n < 128 = lt in digits-last 1 n small ∙ sym (digits-last 0 n small)
digits-room (suc room) n lt =
    elim (cases_lt n 128) [
      | inl small ↦ digits-last (suc (suc room)) n small ∙ sym (digits-last (suc room) n small)
      | inr le ↦ digits-more (suc room) n le
          ∙ ap (λ ds. (n % 128 + 128) ∷ ds) (digits-room room (n / 128) (quotient_fits room n lt))
          ∙ sym (digits-more room n le)
    ]

-- ---- shortest spellings

pub shortest-last : (n : ℕ) → n < 128 → shortest n ≡ n ∷ []
unfolding shortest
shortest-last n lt = digits-last 9 n lt

pub shortest-more : (n : ℕ) → 128 ≤ n → n < 2 ^ 70 → shortest n ≡ (n % 128 + 128) ∷ shortest (n / 128)
unfolding shortest
shortest-more n le lt =
    digits-more 8 n le
    ∙ ap (λ ds. (n % 128 + 128) ∷ ds) (sym (digits-room 8 (n / 128) (quotient_fits 8 n lt)))

length-digits : (room n : ℕ) → (0 < length (digits_128 room n)) × (length (digits_128 room n) ≤ suc room)
unfolding digits_128
length-digits zero n = (omega arith, omega arith)
length-digits (suc room) n =
    elim (cases_lt n 128) [
      | inl small ↦ rw (digits-last (suc room) n small) (omega arith, omega arith)
      | inr le ↦ let h = length-digits room (n / 128) in rw (digits-more room n le) (omega arith, omega arith)
    ]

-- from 1 byte to 10
pub length-shortest : (n : ℕ) → (0 < length (shortest n)) × (length (shortest n) ≤ 10)
unfolding shortest
length-shortest n = length-digits 9 n

-- two spellings, computed
examples : (shortest 300 ≡ 172 ∷ 2 ∷ []) × (shortest (zigzag (negsuc 0)) ≡ 1 ∷ [])
unfolding shortest digits_128
examples = (refl, refl)
