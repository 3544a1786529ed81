-- Readers put together of exact ones are exact.
use Rattle.std.proofs.Common.{◌≡◌, ℕ, suc, ◌+◌, ◌<◌, ◌≤◌, inl, inr, List, [], ◌∷◌, ◌++◌, length, Option, Some, None, Result, Ok, Err, refl, sym, ap, subst, ◌∙◌, append_assoc, arith, length-append}
use Rattle.std.proofs.lemmas.List.{append_cancel_right, append-nil, nil_from_length}
use Rattle.std.specs.List.{AllByRecursion}
use Rattle.exact_reading.specs.declared.stop.Stop.{Stop}
use Rattle.exact_reading.specs.declared.stop.Stop.TheVariants.{Ended, Refused}
use Rattle.exact_reading.specs.Reading.{Read, ◌>>=◌, and_then, pure, meaning, one}
use Rattle.exact_reading.specs.Exact.{IsRefusedAt, Exact, OneItem, Pure, Then, Follows, Same}
use Rattle.exact_reading.proofs.Items.{admitted-back, admitted-append, bind_ok, bind_err, done, ok_is, cut_of}

module _ {Item : Type 0} (Admitted : Item → Type 0) where
  -- No text begins another.
  pub prefix_free : {A : Type 0} (S : A → List Item → Type 0) (read : ℕ → Read Item A Stop) → ((n : ℕ) → Exact Admitted n S (read n)) → (x y : A) (t u r s : List Item) → S x t → S y u → t ++ r ≡ u ++ s → (x ≡ y) × (t ≡ u) × (r ≡ s)
  prefix_free S read exact x y t u r s p q e =
      let n : ℕ = suc (length (t ++ r)) in
      let a : read n (t ++ r) ≡ Ok (x, r) = (exact n).complete x t r p (omega arith) in
      let b : read n (u ++ s) ≡ Ok (y, s) = (exact n).complete y u s q (omega (arith, ap length e)) in
      let c = ok_is x y r s (sym a ∙ ap (read n) e ∙ b) in
      let f : u ++ s ≡ u ++ r = ap (λ (w : List Item). u ++ w) (sym c.1) in
      (c.0, append_cancel_right t u r (e ∙ f), c.1)

  -- ---- one item

  pub meaning_ok : {A : Type 0} (o : Option A) (rest : List Item) (x : A) (r : List Item) → meaning o rest ≡ Ok (x, r) → (o ≡ Some x) × (rest ≡ r)
  meaning_ok (Some y) rest x r e = let h = ok_is y x rest r e in (ap Some h.0, h.1)
  meaning_ok None rest x r e = absurd cc

  meaning_err : {A : Type 0} (o : Option A) (rest : List Item) (d : Stop) → meaning o rest ≡ Err d → (o ≡ None) × (d ≡ Refused (suc (length rest)))
  meaning_err (Some y) rest d e = absurd cc
  meaning_err None rest d e = (refl, cc)

  refused_is : (m n : ℕ) → Refused m ≡ Refused n → m ≡ n
  refused_is m n e = cc

  nil_is_no_item : {A : Type 0} (f : Item → Option A) (x : A) → OneItem Admitted f x [] → ⊥
  nil_is_no_item f x is = let e = is.3 in cc

  module _ {A : Type 0} (f : Item → Option A) (c0 : Item) (x0 : A) (c0_admitted : Admitted c0) (c0_means : f c0 ≡ Some x0) where
    one_sound : (b : List Item) (x : A) (rest : List Item) → AllByRecursion Admitted b → one f b ≡ Ok (x, rest) → (t : List Item) × OneItem Admitted f x t × (b ≡ t ++ rest)
    one_sound [] x rest h e = absurd cc
    one_sound (c ∷ b) x rest h e = let m = meaning_ok (f c) b x rest e in (c ∷ [], (c, h.0, m.0, refl), ap (λ (w : List Item). c ∷ w) m.1)

    one_ends : (b : List Item) → one f b ≡ Err Ended → (x : A) × (more : List Item) × OneItem Admitted f x (b ++ more)
    one_ends [] e = (x0, c0 ∷ [], (c0, c0_admitted, c0_means, refl))
    one_ends (c ∷ b) e = let m = meaning_err (f c) b Ended e in absurd cc

    one_refuses : (c : Item) (more : List Item) (x : A) → f c ≡ None → OneItem Admitted f x (c ∷ more) → ⊥
    one_refuses c more x none is = let e = is.3 in let same : c ≡ is.0 = cc in let also : f c ≡ Some x = ap f same ∙ is.2 in cc

    one_refuses_at : (b : List Item) (left : ℕ) → one f b ≡ Err (Refused left) → IsRefusedAt (OneItem Admitted f) b left
    one_refuses_at [] left e = absurd cc
    one_refuses_at (c ∷ b) left e =
        let m = meaning_err (f c) b (Refused left) e in
        record { front = []; item = c; after = b; parts = refl; left_is = refused_is left (suc (length b)) m.1; goes_on = (x0, c0 ∷ [], (c0, c0_admitted, c0_means, refl)); proper = λ x is. nil_is_no_item f x is; refused = λ x more is. one_refuses c more x m.0 is }

    one_admitted : (x : A) (t : List Item) → OneItem Admitted f x t → AllByRecursion Admitted t
    one_admitted x t is = subst (AllByRecursion Admitted) (sym is.3) (is.1, tt)

    one_complete : (x : A) (t rest : List Item) → OneItem Admitted f x t → one f (t ++ rest) ≡ Ok (x, rest)
    one_complete x t rest is =
        let a : one f (t ++ rest) ≡ meaning (f is.0) rest = ap (λ (w : List Item). one f (w ++ rest)) is.3 in
        a ∙ ap (λ (o : Option A). meaning o rest) is.2

    pub one_exact : (n : ℕ) → Exact Admitted n (OneItem Admitted f) (one f)
    one_exact n = record {
      admitted = λ x t is lt. one_admitted x t is;
      sound = λ b x rest h lt e. one_sound b x rest h e;
      complete = λ x t rest is lt. one_complete x t rest is;
      ends = λ b h lt e. one_ends b e;
      refuses = λ b left h lt e. one_refuses_at b left e;
    }

  -- ---- no item

  module _ {A : Type 0} (x0 : A) where
    pure_complete : (x : A) (t rest : List Item) → Pure x0 x t → pure {E = Stop} x0 (t ++ rest) ≡ Ok (x, rest)
    pure_complete x t rest is = let a : t ++ rest ≡ rest = ap (λ (w : List Item). w ++ rest) is.1 in let b = is.0 in cc

    pub pure_exact : (n : ℕ) → Exact Admitted n (Pure x0) (pure x0)
    pure_exact n = record {
      admitted = λ x t is lt. subst (AllByRecursion Admitted) (sym is.1) tt;
      sound = λ b x rest h lt e. let m = ok_is x0 x b rest e in ([], (sym m.0, refl), m.1);
      complete = λ x t rest is lt. pure_complete x t rest is;
      ends = λ b h lt e. absurd cc;
      refuses = λ b left h lt e. absurd cc;
    }

  -- ---- one after the other

  module _ {A B : Type 0} (First : A → List Item → Type 0) (Second : A → B → List Item → Type 0) (r1 : Read Item A Stop) (r2 : A → Read Item B Stop) (n m : ℕ)
      (first : (k : ℕ) → Exact Admitted k First r1) (second : (x : A) (t : List Item) → First x t → Follows Admitted m (Second x) (r2 x))
      (gap : (x : A) (t : List Item) → First x t → n ≤ m + length t) where
    then_admitted : (y : B) (b : List Item) → Then First Second y b → length b < n → AllByRecursion Admitted b
    then_admitted y b (x, t, u, p, q, e) lt =
        let len : length b ≡ length t + length u = ap length e ∙ length-append t u in
        subst (AllByRecursion Admitted) (sym e) (admitted-append Admitted t u ((first (suc (length t))).admitted x t p (omega arith)) ((second x t p).exact.admitted y u q (omega (arith, gap x t p))))

    then_sound : (b : List Item) (y : B) (rest : List Item) → AllByRecursion Admitted b → length b < n → and_then r1 r2 b ≡ Ok (y, rest) → (v : List Item) × Then First Second y v × (b ≡ v ++ rest)
    then_sound b y rest h lt e =
        let s = bind_ok (r1 b) (λ p. r2 p.0 p.1) (y, rest) e in
        let x : A = s.0.0 in
        let mid : List Item = s.0.1 in
        let a = (first n).sound b x mid h lt s.1 in
        let t : List Item = a.0 in
        let p = a.1 in
        let parts = a.2 in
        let less : length mid < m = omega (arith, gap x t p, ap length parts, length-append t mid) in
        let h2 : AllByRecursion Admitted mid = admitted-back Admitted t mid (subst (AllByRecursion Admitted) parts h) in
        let c = (second x t p).exact.sound mid y rest h2 less s.2 in
        (t ++ c.0, (x, t, c.0, p, c.1, refl), parts ∙ ap (λ (w : List Item). t ++ w) c.2 ∙ sym (append_assoc t c.0 rest))

    then_complete : (y : B) (b rest : List Item) → Then First Second y b → length (b ++ rest) < n → and_then r1 r2 (b ++ rest) ≡ Ok (y, rest)
    then_complete y b rest (x, t, u, p, q, e) lt =
        let whole : b ++ rest ≡ t ++ (u ++ rest) = ap (λ (w : List Item). w ++ rest) e ∙ append_assoc t u rest in
        let one_step : r1 (t ++ (u ++ rest)) ≡ Ok (x, u ++ rest) = (first n).complete x t (u ++ rest) p (omega (arith, ap length whole)) in
        let two_step : r2 x (u ++ rest) ≡ Ok (y, rest) = (second x t p).exact.complete y u rest q (omega (arith, gap x t p, ap length whole, length-append t (u ++ rest))) in
        ap (and_then r1 r2) whole ∙ ap (λ (o : Result (A × List Item) Stop). o >>= λ z. r2 z.0 z.1) one_step ∙ two_step

    then_ends : (b : List Item) → AllByRecursion Admitted b → length b < n → and_then r1 r2 b ≡ Err Ended → (y : B) × (more : List Item) × Then First Second y (b ++ more)
    then_ends b h lt e =
        elim (bind_err (r1 b) (λ p. r2 p.0 p.1) Ended e) [
          | inl stops ↦
              let a = (first n).ends b h lt stops in
              let s = (second a.0 (b ++ a.1) a.2).some in
              (s.0, a.1 ++ s.1, (a.0, b ++ a.1, s.1, a.2, s.2, sym (append_assoc b a.1 s.1)))
          | inr s ↦
              let x : A = s.0.0 in
              let mid : List Item = s.0.1 in
              let a = (first n).sound b x mid h lt s.1 in
              let t : List Item = a.0 in
              let p = a.1 in
              let parts = a.2 in
              let less : length mid < m = omega (arith, gap x t p, ap length parts, length-append t mid) in
              let h2 : AllByRecursion Admitted mid = admitted-back Admitted t mid (subst (AllByRecursion Admitted) parts h) in
              let c = (second x t p).exact.ends mid h2 less s.2 in
              (c.0, c.1, (x, t, mid ++ c.1, p, c.2, ap (λ (w : List Item). w ++ c.1) parts ∙ append_assoc t mid c.1))
        ]

    -- no text of the first stands within the front, as the reader stops only behind it
    not_within : (b : List Item) (left : ℕ) (d : IsRefusedAt First b left) (x : A) (t w : List Item) → First x t → d.front ≡ t ++ w → ⊥
    not_within b left d x t w p e =
        let g = d.goes_on in
        let whole : t ++ (w ++ g.1) ≡ (d.front ++ g.1) ++ [] = sym (append_assoc t w g.1) ∙ ap (λ (z : List Item). z ++ g.1) (sym e) ∙ sym (append-nil (d.front ++ g.1)) in
        let same = prefix_free First (λ k. r1) first x g.0 t (d.front ++ g.1) (w ++ g.1) [] p g.2 whole in
        let none : w ≡ [] = nil_from_length w (omega (arith, ap length same.1, length-append d.front g.1, ap length e, length-append t w)) in
        let front : d.front ≡ t = e ∙ ap (λ (z : List Item). t ++ z) none ∙ append-nil t in
        d.proper x (subst (First x) (sym front) p)

    refuses_first : (b : List Item) (left : ℕ) → IsRefusedAt First b left → IsRefusedAt (Then First Second) b left
    refuses_first b left d =
        let g = d.goes_on in
        let s = (second g.0 (d.front ++ g.1) g.2).some in
        record {
          front = d.front;
          item = d.item;
          after = d.after;
          parts = d.parts;
          left_is = d.left_is;
          goes_on = (s.0, g.1 ++ s.1, (g.0, d.front ++ g.1, s.1, g.2, s.2, sym (append_assoc d.front g.1 s.1)));
          proper = λ y (x, t, u, p, q, e). not_within b left d x t u p e;
          refused = λ y more (x, t, u, p, q, e).
              elim (cut_of t u d.front d.item more (sym e)) [
                | inl w ↦ not_within b left d x t w.0 p w.1
                | inr w ↦ d.refused x w.0 (subst (First x) w.1 p)
              ];
        }

    refuses_second : (b : List Item) (left : ℕ) (x : A) (t mid : List Item) → First x t → b ≡ t ++ mid → IsRefusedAt (Second x) mid left → IsRefusedAt (Then First Second) b left
    refuses_second b left x t mid p parts d =
        let g = d.goes_on in
        let same : (y : B) (u : List Item) → Then First Second y (t ++ u) → Second x y u =
        λ y u (x2, t2, u2, p2, q2, e2).
        let f = prefix_free First (λ k. r1) first x2 x t2 t u2 u p2 p (sym e2) in
        subst (λ (z : A). Second z y u) f.0 (subst (Second x2 y) f.2 q2) in
        record {
          front = t ++ d.front;
          item = d.item;
          after = d.after;
          parts = parts ∙ ap (λ (w : List Item). t ++ w) d.parts ∙ sym (append_assoc t d.front (d.item ∷ d.after));
          left_is = d.left_is;
          goes_on = (g.0, g.1, (x, t, d.front ++ g.1, p, g.2, append_assoc t d.front g.1));
          proper = λ y is. d.proper y (same y d.front is);
          refused = λ y more is. d.refused y more (same y (d.front ++ d.item ∷ more) (subst (Then First Second y) (append_assoc t d.front (d.item ∷ more)) is));
        }

    then_refuses : (b : List Item) (left : ℕ) → AllByRecursion Admitted b → length b < n → and_then r1 r2 b ≡ Err (Refused left) → IsRefusedAt (Then First Second) b left
    then_refuses b left h lt e =
        elim (bind_err (r1 b) (λ p. r2 p.0 p.1) (Refused left) e) [
          | inl stops ↦ refuses_first b left ((first n).refuses b left h lt stops)
          | inr s ↦
              let x : A = s.0.0 in
              let mid : List Item = s.0.1 in
              let a = (first n).sound b x mid h lt s.1 in
              let t : List Item = a.0 in
              let p = a.1 in
              let parts = a.2 in
              let less : length mid < m = omega (arith, gap x t p, ap length parts, length-append t mid) in
              let h2 : AllByRecursion Admitted mid = admitted-back Admitted t mid (subst (AllByRecursion Admitted) parts h) in
              refuses_second b left x t mid p parts ((second x t p).exact.refuses mid left h2 less s.2)
        ]

    pub then_exact : Exact Admitted n (Then First Second) (and_then r1 r2)
    then_exact = record { admitted = then_admitted; sound = then_sound; complete = then_complete; ends = then_ends; refuses = then_refuses }

  -- ---- a value made of another

  module _ {A B : Type 0} (First : A → List Item → Type 0) (r : Read Item A Stop) (g : A → B) (n : ℕ) (first : Exact Admitted n First r) where
    mapped_only : (x : A) (t u : List Item) (b : List Item) → u ≡ [] → b ≡ t ++ u → t ≡ b
    mapped_only x t u b u_is e = sym (e ∙ ap (λ (w : List Item). t ++ w) u_is ∙ append-nil t)

    mapped_refuses : (b : List Item) (left : ℕ) → IsRefusedAt First b left → IsRefusedAt (Then First (λ x. Pure (g x))) b left
    mapped_refuses b left d =
        let m = d.goes_on in
        record {
          front = d.front;
          item = d.item;
          after = d.after;
          parts = d.parts;
          left_is = d.left_is;
          goes_on = (g m.0, m.1, (m.0, d.front ++ m.1, [], m.2, (refl, refl), sym (append-nil (d.front ++ m.1))));
          proper = λ y (x, t, u, p, q, e). d.proper x (subst (First x) (mapped_only x t u d.front q.1 e) p);
          refused = λ y more (x, t, u, p, q, e). d.refused x more (subst (First x) (mapped_only x t u (d.front ++ d.item ∷ more) q.1 e) p);
        }

    mapped_sound : (b : List Item) (y : B) (rest : List Item) → AllByRecursion Admitted b → length b < n → and_then r (λ x. pure (g x)) b ≡ Ok (y, rest) → (v : List Item) × Then First (λ x. Pure (g x)) y v × (b ≡ v ++ rest)
    mapped_sound b y rest h lt e =
        let s = bind_ok (r b) (λ p. done (g p.0) p.1) (y, rest) e in
        let a = first.sound b s.0.0 s.0.1 h lt s.1 in
        let k = ok_is (g s.0.0) y s.0.1 rest s.2 in
        (a.0, (s.0.0, a.0, [], a.1, (sym k.0, refl), sym (append-nil a.0)), a.2 ∙ ap (λ (w : List Item). a.0 ++ w) k.1)

    mapped_complete : (y : B) (b rest : List Item) → Then First (λ x. Pure (g x)) y b → length (b ++ rest) < n → and_then r (λ x. pure (g x)) (b ++ rest) ≡ Ok (y, rest)
    mapped_complete y b rest (x, t, u, p, q, e) lt =
        let b_is = mapped_only x t u b q.1 e in
        let one_step : r (b ++ rest) ≡ Ok (x, rest) = first.complete x b rest (subst (First x) b_is p) lt in
        ap (λ (o : Result (A × List Item) Stop). o >>= λ z. done (g z.0) z.1) one_step ∙ ap (λ (z : B). done z rest) (sym q.0)

    bind_pure_err : (o : Result (A × List Item) Stop) (d : Stop) → (o >>= λ z. done (g z.0) z.1) ≡ Err d → o ≡ Err d
    bind_pure_err (Ok z) d e = absurd cc
    bind_pure_err (Err c) d e = let h : c ≡ d = cc in ap Err h

    mapped_ends : (b : List Item) → AllByRecursion Admitted b → length b < n → and_then r (λ x. pure (g x)) b ≡ Err Ended → (y : B) × (more : List Item) × Then First (λ x. Pure (g x)) y (b ++ more)
    mapped_ends b h lt e =
        let a = first.ends b h lt (bind_pure_err (r b) Ended e) in
        (g a.0, a.1, (a.0, b ++ a.1, [], a.2, (refl, refl), sym (append-nil (b ++ a.1))))

    mapped_admitted : (y : B) (b : List Item) → Then First (λ x. Pure (g x)) y b → length b < n → AllByRecursion Admitted b
    mapped_admitted y b (x, t, u, p, q, e) lt = first.admitted x b (subst (First x) (mapped_only x t u b q.1 e) p) lt

    pub mapped_exact : Exact Admitted n (Then First (λ x. Pure (g x))) (and_then r (λ x. pure (g x)))
    mapped_exact = record {
      admitted = mapped_admitted;
      sound = mapped_sound;
      complete = mapped_complete;
      ends = mapped_ends;
      refuses = λ b left h lt e. mapped_refuses b left (first.refuses b left h lt (bind_pure_err (r b) (Refused left) e));
    }

  -- ---- the same grammar in other words

  module _ {A : Type 0} (S T : A → List Item → Type 0) (read : Read Item A Stop) (same : Same S T) (n : ℕ) (exact : Exact Admitted n S read) where
    same_refuses : (b : List Item) (left : ℕ) → IsRefusedAt S b left → IsRefusedAt T b left
    same_refuses b left d = record {
      front = d.front;
      item = d.item;
      after = d.after;
      parts = d.parts;
      left_is = d.left_is;
      goes_on = (d.goes_on.0, d.goes_on.1, same.to d.goes_on.0 (d.front ++ d.goes_on.1) d.goes_on.2);
      proper = λ x is. d.proper x (same.from x d.front is);
      refused = λ x more is. d.refused x more (same.from x (d.front ++ d.item ∷ more) is);
    }

    pub same_exact : Exact Admitted n T read
    same_exact = record {
      admitted = λ x t is lt. exact.admitted x t (same.from x t is) lt;
      sound = λ b x rest h lt e. let a = exact.sound b x rest h lt e in (a.0, same.to x a.0 a.1, a.2);
      complete = λ x t rest is lt. exact.complete x t rest (same.from x t is) lt;
      ends = λ b h lt e. let a = exact.ends b h lt e in (a.0, a.1, same.to a.0 (b ++ a.1) a.2);
      refuses = λ b left h lt e. same_refuses b left (exact.refuses b left h lt e);
    }

  -- the same answers by another reader
  pub reads_exact : {A : Type 0} (S : A → List Item → Type 0) (read other : Read Item A Stop) (n : ℕ) → ((b : List Item) → length b < n → other b ≡ read b) → Exact Admitted n S read → Exact Admitted n S other
  reads_exact S read other n is exact = record {
    admitted = exact.admitted;
    sound = λ b x rest h lt e. exact.sound b x rest h lt (sym (is b lt) ∙ e);
    complete = λ x t rest p lt. is (t ++ rest) lt ∙ exact.complete x t rest p lt;
    ends = λ b h lt e. exact.ends b h lt (sym (is b lt) ∙ e);
    refuses = λ b left h lt e. exact.refuses b left h lt (sym (is b lt) ∙ e);
  }
