-- What is answered is the least of all faults.
use Rattle.std.proofs.Common.{◌≡◌, zero, suc, ◌<◌, ◌≤◌, List, [], ◌∷◌, Bool, true, false, cond, Option, Some, None, refl, sym, ap, subst, arith}
use Rattle.std.proofs.lemmas.Bool.Decides.{nat_tests}
use Rattle.std.specs.List.{Contains}
use Rattle.typed_reading.specs.declared.fault.Found.{Found}
use Rattle.typed_reading.specs.Faults.{rank, is_less, lesser, least, IsLeast}

first_in : (f : Found) (fs : List Found) → Contains (f ∷ fs) f
first_in f fs = (0, omega arith, refl)

later_in : (g f : Found) (fs : List Found) → Contains fs f → Contains (g ∷ fs) f
later_in g f fs (k, lt, e) = (suc k, omega (arith, lt), e)

least_cons : (f : Found) (fs : List Found) (o : Option Found) → least fs ≡ o → (o ≡ None → fs ≡ []) → ((g : Found) → o ≡ Some g → IsLeast fs g) → (h : Found) → lesser (Some f) o ≡ Some h → IsLeast (f ∷ fs) h
least_cons f fs None e empty more h w =
    let q : f ≡ h = cc in
    let n : fs ≡ [] = empty refl in
    subst (λ (z : Found). IsLeast (f ∷ fs) z) q (subst (λ (zs : List Found). IsLeast (f ∷ zs) f) (sym n) (record { among = first_in f []; lowest = one }))
  where
    one : (g : Found) → Contains (f ∷ []) g → rank f ≤ rank g
    one g (zero, lt, e) = omega (arith, ap rank e)
    one g (suc k, lt, e) = absurd (omega (arith, lt))
least_cons f fs (Some g) e empty more h w = by (is_less g f) refl w
  where
    by : (b : Bool) → is_less g f ≡ b → cond b (Some g) (Some f) ≡ Some h → IsLeast (f ∷ fs) h
    by true t u =
        let q : g ≡ h = cc in
        let m = more g refl in
        let lt : rank g < rank f = grind (arith, nat_tests) in
        subst (λ (z : Found). IsLeast (f ∷ fs) z) q (record { among = later_in f g fs m.among; lowest = all m lt })
      where
        all : IsLeast fs g → rank g < rank f → (x : Found) → Contains (f ∷ fs) x → rank g ≤ rank x
        all m lt x (zero, l, d) = omega (arith, lt, ap rank d)
        all m lt x (suc k, l, d) = m.lowest x (k, omega (arith, l), d)
    by false t u =
        let q : f ≡ h = cc in
        let m = more g refl in
        let le : rank f ≤ rank g = grind (arith, nat_tests) in
        subst (λ (z : Found). IsLeast (f ∷ fs) z) q (record { among = first_in f fs; lowest = all m le })
      where
        all : IsLeast fs g → rank f ≤ rank g → (x : Found) → Contains (f ∷ fs) x → rank f ≤ rank x
        all m le x (zero, l, d) = omega (arith, ap rank d)
        all m le x (suc k, l, d) = let w = m.lowest x (k, omega (arith, l), d) in omega (arith, le, w)

lesser_some : (f : Found) (o : Option Found) → lesser (Some f) o ≡ None → ⊥
lesser_some f None h = cc
lesser_some f (Some g) h = by (is_less g f) h
  where
    by : (b : Bool) → cond b (Some g) (Some f) ≡ None → ⊥
    by true e = cc
    by false e = cc

pub least_none : (fs : List Found) → least fs ≡ None → fs ≡ []
least_none [] h = refl
least_none (f ∷ fs) h = absurd (lesser_some f (least fs) h)

pub least_some : (fs : List Found) (h : Found) → least fs ≡ Some h → IsLeast fs h
least_some [] h e = absurd (cc)
least_some (f ∷ fs) h e = least_cons f fs (least fs) refl (least_none fs) (λ g d. least_some fs g d) h e
