-- Definitions that can be printed: what holds of each that some text means.
pub use Rattle.idl_profile.proofs.Each.{each-append, each-map, Distinct, distinct-push}
pub use Rattle.idl_profile.proofs.Ids.{ids-new, new-ids, id_fits}
use Rattle.std.proofs.Common.{◌≡◌, ◌≢◌, ℕ, Bool, true, false, ◌==◌, ◌&&◌, List, [], ◌∷◌, ◌++◌, refl, ap, ◌∙◌}
use Rattle.std.specs.Prelude.{not, map}
use Rattle.std.specs.List.{list_any}
use Rattle.std.specs.Str.{bytes_eq}
use Rattle.std.proofs.lemmas.Slice.Eq.{bytes_eq-Decides}
use Rattle.name_index.specs.Names.{is_among}
use Rattle.idl_profile.specs.Judged.{keywords, is_name}
use Rattle.idl_proper.proofs.Lists.{neither}
use Rattle.idl_proper.specs.Proper.{name}
use Rattle.idl_profile.proofs.Each.{Each}

-- ---- lists

pub distinct-here : {A : Type 0} (R : A → A → Type 0) (xs : List A) (y : A) (ys : List A) → Distinct R (xs ++ y ∷ ys) → Each (λ x. R x y) xs
distinct-here R [] y ys h = tt
distinct-here {A = A} R (x ∷ xs) y ys h = (at_last xs h.0, distinct-here R xs y ys h.1)
  where
    at_last : (zs : List A) → Each (R x) (zs ++ y ∷ ys) → R x y
    at_last [] g = g.0
    at_last (z ∷ zs) g = at_last zs g.1

-- ---- names

apart_false : (v w : List ℕ) → v ≢ w → bytes_eq v w ≡ false
apart_false v w ne = by_test (bytes_eq v w) refl
  where
    by_test : (b : Bool) → bytes_eq v w ≡ b → b ≡ false
    by_test true e = absurd (ne ((bytes_eq-Decides v w).0 e))
    by_test false e = refl

false_apart : (v w : List ℕ) → bytes_eq v w ≡ false → v ≢ w
false_apart v w e is = let t = (bytes_eq-Decides v w).1 is in cc

pub names-new : {A : Type 0} (name : A → List ℕ) (xs : List A) (w : List ℕ) → Each (λ x. name x ≢ w) xs → is_among (map name xs) w ≡ false
names-new name [] w h = refl
names-new name (x ∷ xs) w h = rw (apart_false (name x) w h.0) (names-new name xs w h.1)

pub new-names : {A : Type 0} (name : A → List ℕ) (xs : List A) (w : List ℕ) → is_among (map name xs) w ≡ false → Each (λ x. name x ≢ w) xs
new-names name [] w h = tt
new-names name (x ∷ xs) w h = let a = neither (bytes_eq (name x) w) (is_among (map name xs) w) h in (false_apart (name x) w a.0, new-names name xs w a.1)

wrong : (p q : Bool) → p ≡ true → (not p && q) ≡ true → ⊥
wrong true q e n = cc
wrong false q e n = cc

-- a name is none of the keywords
pub no_keyword : (w x : List ℕ) → is_name w ≡ true → is_among keywords x ≡ true → bytes_eq w x ≡ false
unfolding is_name
no_keyword w x n e = by_test (bytes_eq w x) refl
  where
    by_test : (b : Bool) → bytes_eq w x ≡ b → b ≡ false
    by_test true t =
        let is : w ≡ x = (bytes_eq-Decides w x).0 t in
        let is_one : is_among keywords w ≡ true = ap (is_among keywords) is ∙ e in
        absurd (wrong (is_among keywords w) (not (list_any (λ b. b == 46) w)) is_one n)
    by_test false t = refl
