-- Of a grammar that is read exactly: no text begins another, each answer of the reader has its cause, and the causes exclude each other.
use Rattle.std.proofs.Common.{◌≡◌, ℕ, suc, ◌+◌, ◌-◌, inl, inr, List, [], ◌∷◌, ◌++◌, length, Result, Ok, Err, refl, sym, ap, subst, ◌∙◌, append_assoc, arith, length-append}
use Rattle.std.proofs.lemmas.List.{append-nil}
use Rattle.std.specs.List.{AllByRecursion}
use Rattle.exact_reading.specs.declared.stop.Stop.{Stop}
use Rattle.exact_reading.specs.declared.stop.Stop.TheVariants.{Ended, Refused}
use Rattle.exact_reading.specs.declared.stop.ReadError.{ReadError}
use Rattle.exact_reading.specs.declared.stop.ReadError.TheVariants as errors
use Rattle.exact_reading.specs.Reading.{Read, Fails}
use Rattle.exact_reading.specs.Exact.{Exact}
use Rattle.exact_reading.specs.Causes.{IsTruncated, IsMalformed, IsTrailing, IsCaused}
use Rattle.exact_reading.proofs.Items.{append-cancel, cut_of}
use Rattle.exact_reading.proofs.Combinators.{prefix_free}

module _ {Item A : Type 0} (Admitted : Item → Type 0) (S : A → List Item → Type 0) (read : Read Item A Stop) (exact : (n : ℕ) → Exact Admitted n S read) where
  -- ---- the law on texts

  pub no_prefix : (x y : A) (t u r s : List Item) → S x t → S y u → t ++ r ≡ u ++ s → (x ≡ y) × (t ≡ u) × (r ≡ s)
  no_prefix = prefix_free Admitted S (λ n. read) exact

  pub one_value : (x y : A) (t : List Item) → S x t → S y t → x ≡ y
  one_value x y t p q = (no_prefix x y t t [] [] p q refl).0

  pub text_admitted : (x : A) (t : List Item) → S x t → AllByRecursion Admitted t
  text_admitted x t is = (exact (suc (length t))).admitted x t is (omega arith)

  reads : (x : A) (t rest : List Item) → S x t → read (t ++ rest) ≡ Ok (x, rest)
  reads x t rest is = (exact (suc (length (t ++ rest)))).complete x t rest is (omega arith)

  reads_whole : (x : A) (t : List Item) → S x t → read t ≡ Ok (x, [])
  reads_whole x t is = ap read (sym (append-nil t)) ∙ reads x t [] is

  read_sound : (b : List Item) (x : A) (rest : List Item) → AllByRecursion Admitted b → read b ≡ Ok (x, rest) → (t : List Item) × S x t × (b ≡ t ++ rest)
  read_sound b x rest h e = (exact (suc (length b))).sound b x rest h (omega arith) e

  -- a text does not go on to another
  pub proper : (x y : A) (t : List Item) (c : Item) (more : List Item) → S x t → S y (t ++ c ∷ more) → ⊥
  proper x y t c more p q =
      let f = no_prefix x y t (t ++ c ∷ more) (c ∷ more) [] p q (sym (append-nil (t ++ c ∷ more))) in
      let e : c ∷ more ≡ [] = f.2 in cc

  -- what goes on, goes on by an item at least, where it is no text itself
  longer : (x : A) (b more : List Item) → S x (b ++ more) → ((y : A) → S y b → ⊥) → IsTruncated S b
  longer x b [] is not = absurd (not x (subst (S x) (append-nil b) is))
  longer x b (c ∷ more) is not = (x, c, more, is)

  -- ---- each answer has its cause

  stops : Stop → Result (A × List Item) Stop
  stops d = Err d

  pub ended_is : (b : List Item) → AllByRecursion Admitted b → read b ≡ Err Ended → IsTruncated S b
  unfolding stops
  ended_is b h e =
      let s = (exact (suc (length b))).ends b h (omega arith) e in
      longer s.0 b s.1 s.2 (λ x is. let a : stops Ended ≡ Ok (x, []) = sym e ∙ reads_whole x b is in cc)

  pub refused_is : (b : List Item) (left : ℕ) → AllByRecursion Admitted b → read b ≡ Err (Refused left) → IsMalformed S b (length b - left)
  refused_is b left h e =
      let d = (exact (suc (length b))).refuses b left h (omega arith) e in
      let len : length b ≡ length d.front + suc (length d.after) = ap length d.parts ∙ length-append d.front (d.item ∷ d.after) in
      record { front = d.front; item = d.item; after = d.after; parts = d.parts; place = omega (arith, d.left_is); goes_on = longer d.goes_on.0 d.front d.goes_on.1 d.goes_on.2 d.proper; refused = d.refused }

  pub whole_is : (b rest : List Item) (x : A) → AllByRecursion Admitted b → read b ≡ Ok (x, rest) → length rest ≡ 0 → S x b
  whole_is b [] x h e none = let s = read_sound b x [] h e in subst (S x) (sym (s.2 ∙ append-nil s.0)) s.1
  whole_is b (c ∷ rest) x h e none = absurd (omega arith)

  pub rest_is : (b rest : List Item) (x : A) → AllByRecursion Admitted b → read b ≡ Ok (x, rest) → (length rest ≡ 0 → ⊥) → IsTrailing S b (length b - length rest)
  rest_is b [] x h e some = absurd (some refl)
  rest_is b (c ∷ rest) x h e some =
      let s = read_sound b x (c ∷ rest) h e in
      let len : length b ≡ length s.0 + suc (length rest) = ap length s.2 ∙ length-append s.0 (c ∷ rest) in
      record { value = x; front = s.0; item = c; after = rest; parts = s.2; place = omega arith; spelled = s.1 }

  answer_is : (b : List Item) (r : Result (A × List Item) Stop) → AllByRecursion Admitted b → read b ≡ r → IsCaused S b r
  answer_is b (Ok (x, rest)) h e = read_sound b x rest h e
  answer_is b (Err Ended) h e = ended_is b h e
  answer_is b (Err (Refused left)) h e = refused_is b left h e

  pub answers : (b : List Item) → AllByRecursion Admitted b → IsCaused S b (read b)
  answers b h = answer_is b (read b) h refl

  pub nothing_follows : (x y : A) (t rest : List Item) → S x t → S y (t ++ rest) → rest ≡ []
  nothing_follows x y t rest p q = (no_prefix x y t (t ++ rest) rest [] p q (sym (append-nil (t ++ rest)))).2

  -- ---- the causes exclude each other

  pub text_not_truncated : (b : List Item) (x : A) → S x b → IsTruncated S b → ⊥
  text_not_truncated b x is t = proper x t.0 b t.1 t.2 is t.3

  -- no text stands at the front of what goes on from it
  not_front : (x y : A) (t w front : List Item) (c : Item) (more : List Item) → S x t → front ≡ t ++ w → S y (front ++ c ∷ more) → ⊥
  not_front x y t [] front c more p e q = proper x y t c more p (subst (λ (z : List Item). S y (z ++ c ∷ more)) (e ∙ append-nil t) q)
  not_front x y t (b ∷ w) front c more p e q = proper x y t b (w ++ c ∷ more) p (subst (S y) (ap (λ (z : List Item). z ++ c ∷ more) e ∙ append_assoc t (b ∷ w) (c ∷ more)) q)

  -- what is malformed begins with no text
  malformed_not_begun : (b t rest : List Item) (p : ℕ) (x : A) → IsMalformed S b p → S x t → b ≡ t ++ rest → ⊥
  malformed_not_begun b t rest p x d is e =
      elim (cut_of t rest d.front d.item d.after (sym e ∙ d.parts)) [
        | inl z ↦ not_front x d.goes_on.0 t z.0 d.front d.goes_on.1 d.goes_on.2 is z.1 d.goes_on.3
        | inr z ↦ d.refused x z.0 (subst (S x) z.1 is)
      ]

  -- and it is no front of a text
  malformed_not_front : (b : List Item) (p : ℕ) (x : A) (more : List Item) → IsMalformed S b p → S x (b ++ more) → ⊥
  malformed_not_front b p x more d is = d.refused x (d.after ++ more) (subst (S x) (ap (λ (z : List Item). z ++ more) d.parts ∙ append_assoc d.front (d.item ∷ d.after) more) is)

  pub text_not_malformed : (b : List Item) (x : A) (p : ℕ) → S x b → IsMalformed S b p → ⊥
  text_not_malformed b x p is d = malformed_not_begun b b [] p x d is (sym (append-nil b))

  pub text_not_trailing : (b : List Item) (x : A) (p : ℕ) → S x b → IsTrailing S b p → ⊥
  text_not_trailing b x p is d = proper d.value x d.front d.item d.after d.spelled (subst (S x) d.parts is)

  pub truncated_not_malformed : (b : List Item) (p : ℕ) → IsTruncated S b → IsMalformed S b p → ⊥
  truncated_not_malformed b p t d = malformed_not_front b p t.0 (t.1 ∷ t.2) d t.3

  pub truncated_not_trailing : (b : List Item) (p : ℕ) → IsTruncated S b → IsTrailing S b p → ⊥
  truncated_not_trailing b p t d =
      proper d.value t.0 d.front d.item (d.after ++ t.1 ∷ t.2) d.spelled
      (subst (S t.0) (ap (λ (z : List Item). z ++ (t.1 ∷ t.2)) d.parts ∙ append_assoc d.front (d.item ∷ d.after) (t.1 ∷ t.2)) t.3)

  pub malformed_not_trailing : (b : List Item) (p q : ℕ) → IsMalformed S b p → IsTrailing S b q → ⊥
  malformed_not_trailing b p q d f = malformed_not_begun b f.front (f.item ∷ f.after) p f.value d f.spelled f.parts

  -- ---- each cause holds at one place

  pub one_trail : (b : List Item) (p q : ℕ) → IsTrailing S b p → IsTrailing S b q → p ≡ q
  one_trail b p q d f =
      let same = no_prefix d.value f.value d.front f.front (d.item ∷ d.after) (f.item ∷ f.after) d.spelled f.spelled (sym d.parts ∙ f.parts) in
      sym d.place ∙ ap length same.1 ∙ f.place

  within : (b : List Item) (p q : ℕ) (d : IsMalformed S b p) (f : IsMalformed S b q) (w : List Item) → f.front ≡ d.front ++ w → d.front ++ d.item ∷ d.after ≡ f.front ++ f.item ∷ f.after → p ≡ q
  within b p q d f [] e same = sym d.place ∙ ap length (sym (e ∙ append-nil d.front)) ∙ f.place
  within b p q d f (c ∷ w) e same =
      let rest : d.front ++ d.item ∷ d.after ≡ d.front ++ c ∷ (w ++ f.item ∷ f.after) = same ∙ ap (λ (z : List Item). z ++ f.item ∷ f.after) e ∙ append_assoc d.front (c ∷ w) (f.item ∷ f.after) in
      let tails : d.item ∷ d.after ≡ c ∷ (w ++ f.item ∷ f.after) = append-cancel d.front (d.item ∷ d.after) (c ∷ (w ++ f.item ∷ f.after)) rest in
      let item_is : c ≡ d.item = cc in
      let front_is : f.front ≡ d.front ++ d.item ∷ w = e ∙ ap (λ (z : Item). d.front ++ z ∷ w) item_is in
      absurd (d.refused f.goes_on.0 (w ++ f.goes_on.1 ∷ f.goes_on.2)
      (subst (S f.goes_on.0) (ap (λ (y : List Item). y ++ (f.goes_on.1 ∷ f.goes_on.2)) front_is ∙ append_assoc d.front (d.item ∷ w) (f.goes_on.1 ∷ f.goes_on.2)) f.goes_on.3))

  pub one_place : (b : List Item) (p q : ℕ) → IsMalformed S b p → IsMalformed S b q → p ≡ q
  one_place b p q d f =
      elim (cut_of d.front (d.item ∷ d.after) f.front f.item f.after (sym d.parts ∙ f.parts)) [
        | inl z ↦ within b p q d f z.0 z.1 (sym d.parts ∙ f.parts)
        | inr z ↦ absurd (f.refused d.goes_on.0 (z.0 ++ (d.goes_on.1 ∷ d.goes_on.2))
            (subst (S d.goes_on.0) (ap (λ (y : List Item). y ++ (d.goes_on.1 ∷ d.goes_on.2)) z.1 ∙ append_assoc f.front (f.item ∷ z.0) (d.goes_on.1 ∷ d.goes_on.2)) d.goes_on.3))
      ]

-- ---- a function's error, and the reader's

pub stop_is : {Y : Type 0} (e : ReadError Stop) (f d : Stop) (read : Result Y Stop) → e ≡ errors.Stop f → f ≡ d → Fails e read → read ≡ Err d
stop_is errors.NoMemory f d read e g h = absurd cc
stop_is (errors.Stop c) f d read e g h = let same : c ≡ d = cc in h ∙ ap Err same
