-- Lists of admitted items, and lists cut in two.
use Rattle.std.proofs.Common.{◌≡◌, ◌⊎◌, inl, inr, List, [], ◌∷◌, ◌++◌, Result, Ok, Err, refl, ap, ◌∙◌}
use Rattle.std.proofs.lemmas.List.{append-nil}
use Rattle.std.specs.List.{AllByRecursion}
use Rattle.exact_reading.specs.Reading.{◌>>=◌}

module _ {Item : Type 0} (Admitted : Item → Type 0) where
  pub admitted-back : (t r : List Item) → AllByRecursion Admitted (t ++ r) → AllByRecursion Admitted r
  admitted-back [] r h = h
  admitted-back (b ∷ t) r h = admitted-back t r h.1

  pub admitted-front : (t r : List Item) → AllByRecursion Admitted (t ++ r) → AllByRecursion Admitted t
  admitted-front [] r h = tt
  admitted-front (b ∷ t) r h = (h.0, admitted-front t r h.1)

  pub admitted-append : (t r : List Item) → AllByRecursion Admitted t → AllByRecursion Admitted r → AllByRecursion Admitted (t ++ r)
  admitted-append [] r h k = k
  admitted-append (b ∷ t) r h k = (h.0, admitted-append t r h.1 k)

module _ {Item : Type 0} where
  pub append-cancel : (t a b : List Item) → t ++ a ≡ t ++ b → a ≡ b
  append-cancel [] a b e = e
  append-cancel (x ∷ t) a b e = append-cancel t a b cc

  -- what stands before nothing
  pub before_none : (items t u : List Item) → u ≡ [] → items ≡ t ++ u → items ≡ t
  before_none items t u none e = e ∙ ap (λ (w : List Item). t ++ w) none ∙ append-nil t

  abbrev pub done : {A E : Type 0} → A → List Item → Result (A × List Item) E
  done x p = Ok (x, p)

  pub ok_is : {A E : Type 0} (x y : A) (p q : List Item) → done {E = E} x p ≡ done {E = E} y q → (x ≡ y) × (p ≡ q)
  ok_is {A = A} x y p q e = let w : (x, p) ≡ (y, q) = cc in (ap (λ (z : A × List Item). z.0) w, ap (λ (z : A × List Item). z.1) w)

  -- A front and an item, cut somewhere: the cut is in the front, or behind the item.
  pub cut_of : (t u front : List Item) (c : Item) (more : List Item) → t ++ u ≡ front ++ c ∷ more → ((w : List Item) × (front ≡ t ++ w)) ⊎ ((w : List Item) × (t ≡ front ++ c ∷ w))
  cut_of [] u front c more e = inl (front, refl)
  cut_of (a ∷ t) u [] c more e = let h : a ≡ c = cc in inr (t, ap (λ (z : Item). z ∷ t) h)
  cut_of (a ∷ t) u (b ∷ front) c more e =
      let h : a ≡ b = cc in
      let k : t ++ u ≡ front ++ c ∷ more = cc in
      elim (cut_of t u front c more k) [
        | inl w ↦ let z : front ≡ t ++ w.0 = w.1 in inl (w.0, cc)
        | inr w ↦ let z : t ≡ front ++ c ∷ w.0 = w.1 in inr (w.0, cc)
      ]

-- ---- steps of a reader

-- what stands behind the first step, or why there is no first step
pub bind_ok : {A B E : Type 0} (r : Result A E) (f : A → Result B E) (y : B) → (r >>= f) ≡ Ok y → (x : A) × (r ≡ Ok x) × (f x ≡ Ok y)
bind_ok (Ok x) f y e = (x, refl, e)
bind_ok (Err d) f y e = absurd cc

pub bind_err : {A B E : Type 0} (r : Result A E) (f : A → Result B E) (d : E) → (r >>= f) ≡ Err d → (r ≡ Err d) ⊎ ((x : A) × (r ≡ Ok x) × (f x ≡ Err d))
bind_err (Ok x) f d e = inr (x, refl, e)
bind_err (Err c) f d e = let h : c ≡ d = cc in inl (ap Err h)
