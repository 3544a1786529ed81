-- Values of digits that stop at 2^64 - 1.
use Rattle.std.proofs.Common.{◌≡◌, ℕ, zero, suc, ◌+◌, ◌*◌, ◌-◌, ◌^◌, ◌<◌, ◌≤◌, ◌⊎◌, inl, inr, List, [], ◌∷◌, refl, sym, ap, ◌∙◌, arith, length, get_or, drop, drop-cons}
use Rattle.std.specs.Prelude.{min}
use Rattle.std.proofs.lemmas.Bool.{cases_lt}
use Rattle.std.proofs.lemmas.List.{drop_all}
use Rattle.idl_tokens.specs.Numbers.{digit_value, value_behind}

abbrev pub most : ℕ
most = 2 ^ 64 - 1

times_le : (n b : ℕ) → 1 ≤ b → n ≤ n * b
times_le n zero h = absurd (omega arith)
times_le n (suc b) h = omega arith

-- the same, or both at least the most
abbrev Same : ℕ → ℕ → Type 0
Same n m = (n ≡ m) ⊎ ((most ≤ n) × (most ≤ m))

same-value : (b n m : ℕ) (cs : List ℕ) → 1 ≤ b → Same n m → min (value_behind b n cs) most ≡ min (value_behind b m cs) most
same-value b n m cs h (inl e) = ap (λ (z : ℕ). min (value_behind b z cs) most) e
same-value b n m [] h (inr p) = omega (arith, p.0, p.1)
same-value b n m (c ∷ cs) h (inr p) =
    let x : most ≤ n * b + digit_value c = omega (arith, p.0, times_le n b h) in
    let y : most ≤ m * b + digit_value c = omega (arith, p.1, times_le m b h) in
    same-value b (n * b + digit_value c) (m * b + digit_value c) cs h (inr (x, y))

capped : (x d : ℕ) → (x + d < most) ⊎ (most ≤ x + d) → Same (min (min x most + d) most) (x + d)
capped x d (inl h) = inl (omega arith)
capped x d (inr h) = inr (omega arith, h)

pub capped-step : (b n d : ℕ) (cs : List ℕ) → 1 ≤ b → min (value_behind b (min (min (n * b) most + d) most) cs) most ≡ min (value_behind b (n * b + d) cs) most
capped-step b n d cs h = same-value b (min (min (n * b) most + d) most) (n * b + d) cs h (capped (n * b) d (cases_lt (n * b + d) most))

-- one more digit
pub digit-step : (b n i d goal : ℕ) (ds : List ℕ) → 1 ≤ b → i < length ds → min (value_behind b n (drop i ds)) most ≡ goal
    → min (value_behind b (min (min (n * b) most + digit_value (get_or ds i d)) most) (drop (i + 1) ds)) most ≡ goal
digit-step b n i d goal ds h lt e =
    let k : i + 1 ≡ suc i = omega arith in
    rw k (capped-step b n (digit_value (get_or ds i d)) (drop (suc i) ds) h ∙ ap (λ (z : List ℕ). min (value_behind b n z) most) (sym (drop-cons ds i d lt)) ∙ e)

pub all-read : (b n i goal : ℕ) (ds : List ℕ) → n ≤ most → length ds ≤ i → min (value_behind b n (drop i ds)) most ≡ goal → n ≡ goal
all-read b n i goal ds le lt e =
    let k : drop i ds ≡ [] = drop_all i ds lt in
    let j : n ≡ min n most = omega arith in
    j ∙ ap (λ (z : List ℕ). min (value_behind b n z) most) (sym k) ∙ e
