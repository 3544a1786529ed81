-- What is found, in its parts.
use Rattle.std.proofs.Common.{◌≡◌, ℕ, true, ◌==◌, List, [], ◌∷◌, ◌++◌, Option, Some, None, refl, ap, ◌∙◌, arith}
use Rattle.std.specs.Prelude.{option_map}
use Rattle.std.proofs.lemmas.Bool.{cond_both, eqb-true}
use Rattle.path_text.specs.Reading.{Found, behind_word, closed, with_rest}

pub some-is : {A : Type 0} {x y : A} → Some x ≡ Some y → x ≡ y
some-is e = cc

pub record Pair {A : Type 0} (x y : A) (r s : List ℕ) : Type 0 where
  pub value : x ≡ y
  pub rest : r ≡ s

pub pair-is : {A : Type 0} (p : A × List ℕ) (y : A) (s : List ℕ) → Some p ≡ Some (y, s) → Pair p.0 y p.1 s
pair-is p y s e = let k = some-is e in record { value = ap (λ q. q.0) k; rest = ap (λ q. q.1) k }

-- a word in front of a text
pub word-found : (word rest : List ℕ) → behind_word word (word ++ rest) ≡ Some rest
word-found [] rest = refl
word-found (c ∷ word) rest = let e : (c == c) ≡ true = grind arith in rw e (word-found word rest)

pub word-is : (word text rest : List ℕ) → behind_word word text ≡ Some rest → text ≡ word ++ rest
word-is [] text rest e = some-is e
word-is (c ∷ word) [] rest e = absurd cc
word-is (c ∷ word) (d ∷ text) rest e =
    cond_both (d == c) (behind_word word text) None (λ o. o ≡ Some rest → d ∷ text ≡ c ∷ (word ++ rest))
    (λ t h. let k = eqb-true d c t in let m = word-is word text rest h in cc) (λ t h. absurd cc) e

-- what was found with a closing character behind it
pub record Closed {A B : Type 0} (make : A → B) (close : ℕ) (f : Found A) (x : B) (rest : List ℕ) : Type 0 where
  pub value : A
  pub inside : f ≡ Some (value, close ∷ rest)
  pub made : make value ≡ x

closed-by : {A B : Type 0} (make : A → B) (close : ℕ) (p : A × List ℕ) (x : B) (rest : List ℕ) (o : Option (List ℕ)) → behind_word (close ∷ []) p.1 ≡ o
    → option_map {U = B × List ℕ} (λ (r : List ℕ). (make p.0, r)) o ≡ Some (x, rest) → Closed make close (Some p) x rest
closed-by make close p x rest None w e = absurd cc
closed-by make close p x rest (Some r) w e =
    let k = pair-is (make p.0, r) x rest e in
    let m = word-is (close ∷ []) p.1 r w in
    record { value = p.0; inside = ap (λ (z : List ℕ). Some (p.0, z)) (m ∙ ap (λ (z : List ℕ). close ∷ z) k.rest); made = k.value }

pub closed-is : {A B : Type 0} (make : A → B) (close : ℕ) (f : Found A) (x : B) (rest : List ℕ) → closed make close f ≡ Some (x, rest) → Closed make close f x rest
closed-is make close None x rest e = absurd cc
closed-is make close (Some p) x rest e = closed-by make close p x rest (behind_word (close ∷ []) p.1) refl e

pub closed-found : {A B : Type 0} (make : A → B) (close : ℕ) (x : A) (rest : List ℕ) → closed make close (Some (x, close ∷ rest)) ≡ Some (make x, rest)
closed-found make close x rest = let e : (close == close) ≡ true = grind arith in rw e refl

pub with-rest-is : {A : Type 0} (rest : List ℕ) (o : Option A) (x : A) (behind : List ℕ) → with_rest rest o ≡ Some (x, behind) → (o ≡ Some x) × (rest ≡ behind)
with-rest-is rest None x behind e = absurd cc
with-rest-is rest (Some y) x behind e = let k = pair-is (y, rest) x behind e in (ap (λ z. Some z) k.value, k.rest)
