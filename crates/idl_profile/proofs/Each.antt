-- What holds of each item of a list, and of each two.
use Rattle.std.proofs.Common.{◌≡◌, Bool, true, false, ◌||◌, List, [], ◌∷◌, ◌++◌, refl}

abbrev pub Each : {A : Type 0} → (A → Type 0) → List A → Type 0
Each P [] = Unit {0}
Each P (x ∷ xs) = P x × Each P xs

pub each-append : {A : Type 0} (P : A → Type 0) (xs ys : List A) → Each P xs → Each P ys → Each P (xs ++ ys)
each-append P [] ys g h = h
each-append P (x ∷ xs) ys g h = (g.0, each-append P xs ys g.1 h)

pub each-map : {A : Type 0} (P Q : A → Type 0) (xs : List A) → ((x : A) → P x → Q x) → Each P xs → Each Q xs
each-map P Q [] f h = tt
each-map P Q (x ∷ xs) f h = (f x h.0, each-map P Q xs f h.1)

-- each stands in the relation to each later one
abbrev pub Distinct : {A : Type 0} → (A → A → Type 0) → List A → Type 0
Distinct R [] = Unit {0}
Distinct R (x ∷ xs) = Each (R x) xs × Distinct R xs

pub distinct-push : {A : Type 0} (R : A → A → Type 0) (xs : List A) (y : A) → Distinct R xs → Each (λ x. R x y) xs → Distinct R (xs ++ y ∷ [])
distinct-push R [] y h e = (tt, tt)
distinct-push R (x ∷ xs) y h e = (each-append (R x) xs (y ∷ []) h.0 (e.0, tt), distinct-push R xs y h.1 e.1)

pub neither : (p q : Bool) → (p || q) ≡ false → (p ≡ false) × (q ≡ false)
neither true q e = absurd cc
neither false q e = (refl, e)
