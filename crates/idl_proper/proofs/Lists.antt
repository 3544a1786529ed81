-- Fronts of lists, places in them, and tests that both fail.
use Rattle.std.proofs.Common.{◌≡◌, ◌⊎◌, inl, inr, ℕ, zero, suc, List, [], ◌∷◌, ◌++◌, length, take, drop, Some, refl, ap}
use Rattle.std.specs.Prelude.{slice_get}
pub use Rattle.idl_profile.proofs.Each.{neither}

pub front-taken : (w rest : List ℕ) → take (length w) (w ++ rest) ≡ w
front-taken [] rest = refl
front-taken (c ∷ w) rest = ap (λ (z : List ℕ). c ∷ z) (front-taken w rest)

pub front-dropped : (w rest : List ℕ) → drop (length w) (w ++ rest) ≡ rest
front-dropped [] rest = refl
front-dropped (c ∷ w) rest = front-dropped w rest

pub get-here : {A : Type 0} (xs : List A) (y : A) (ys : List A) → slice_get (xs ++ y ∷ ys) (length xs) ≡ Some y
get-here [] y ys = refl
get-here (x ∷ xs) y ys = get-here xs y ys

pub get-last : {A : Type 0} (xs : List A) (y x : A) (i : ℕ) → slice_get (xs ++ y ∷ []) i ≡ Some x → (slice_get xs i ≡ Some x) ⊎ ((i ≡ length xs) × (y ≡ x))
get-last [] y x zero h = inr (refl, cc)
get-last [] y x (suc i) h = absurd cc
get-last (z ∷ xs) y x zero h = inl h
get-last (z ∷ xs) y x (suc i) h = elim (get-last xs y x i h) [ inl g ↦ inl g | inr g ↦ inr (ap suc g.0, g.1) ]
