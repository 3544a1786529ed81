-- Reading by a grammar gives exactly what the grammar says, and stops exactly at its first faulty token.
use Rattle.std.proofs.Common.{◌≡◌, ℕ, zero, suc, ◌<◌, ◌≤◌, ◌⊎◌, inl, inr, [], ◌∷◌, length, Result, Ok, Err, refl, ap, subst, arith}
use Rattle.idl_grammar.specs.declared.fault.Fault.{Fault}
use Rattle.idl_grammar.specs.declared.fault.Fault.TheVariants.{Syntax}
use Rattle.idl_grammar.specs.declared.fault.LineFault.{LineFault}
use Rattle.idl_tokens.specs.Tokens.{Tok, Spot, Toks}
use Rattle.idl_grammar.specs.Grammar.{Turn, leave, enter, wrong, Grammar, give, token, next, look, loop, line_fault, first, Turns, done, more, Spells, FaultyTurns, ended, at_turn, inside, later, Faulty}
use Rattle.exact_reading.specs.Reading.{◌>>=◌}
use Rattle.exact_reading.proofs.Items.{ok_is, bind_ok, bind_err}
use Rattle.idl_grammar.specs.Run.{TokenReader, judged, turned, turns, run}

-- ---- one token

judged_ok : {A : Type 0} (v : Result A Fault) (t : Spot) (ts : Toks) (x : A) (rest : Toks) → judged v t ts ≡ Ok (x, rest) → (v ≡ Ok x) × (ts ≡ rest)
judged_ok (Ok y) t ts x rest e = let h = ok_is y x ts rest e in (ap Ok h.0, h.1)
judged_ok (Err f) t ts x rest e = absurd cc

judged_err : {A : Type 0} (v : Result A Fault) (t : Spot) (ts : Toks) (e : LineFault) → judged v t ts ≡ Err e → (f : Fault) × (v ≡ Err f) × (e ≡ line_fault f t.line)
judged_err (Ok y) t ts e h = absurd cc
judged_err (Err f) t ts e h = (f, refl, cc)

-- ---- turns

module _ {S B : Type 0} (turn : S → Tok → Tok → Turn B) (body : S → B → TokenReader S) (shrinks : (s : S) (b : B) (ts : Toks) (m : S) (mid : Toks) → body s b ts ≡ Ok (m, mid) → length mid ≤ length ts) where
  abbrev going : ℕ → S → B → Toks → Result (S × Toks) LineFault
  going n s b us = body s b us >>= λ p. turns turn body n p.0 p.1

  turns_shrink : (n : ℕ) (s : S) (ts : Toks) (e : S) (rest : Toks) → turns turn body n s ts ≡ Ok (e, rest) → length rest ≤ length ts
  turns_shrink zero s ts e rest h = absurd cc
  turns_shrink (suc n) s [] e rest h = absurd cc
  turns_shrink (suc n) s (t ∷ ts) e rest h = by_turn (λ m mid k. turns_shrink n m mid e rest k) (turn s t.token (first ts)) h
    where
      by_turn : ((m : S) (mid : Toks) → turns turn body n m mid ≡ Ok (e, rest) → length rest ≤ length mid) → (v : Turn B) → turned v (going n s) s t ts ≡ Ok (e, rest) → length rest ≤ suc (length ts)
      by_turn ih leave k = let q = ok_is s e (t ∷ ts) rest k in omega (arith, ap length q.1)
      by_turn ih (enter b) k =
          let a = bind_ok (body s b ts) (λ p. turns turn body n p.0 p.1) (e, rest) k in
          omega (arith, shrinks s b ts a.0.0 a.0.1 a.1, ih a.0.0 a.0.1 a.2)
      by_turn ih (wrong f) k = absurd cc

  -- Fuel beyond the tokens plays no part.
  pub same_turns : (n m : ℕ) (s : S) (ts : Toks) → length ts < n → length ts < m → turns turn body n s ts ≡ turns turn body m s ts
  same_turns zero m s ts h k = absurd (omega arith)
  same_turns (suc n) zero s ts h k = absurd (omega arith)
  same_turns (suc n) (suc m) s [] h k = refl
  same_turns (suc n) (suc m) s (t ∷ ts) h k = by_turn (λ y mid le. same_turns n m y mid (omega arith) (omega arith)) (turn s t.token (first ts))
    where
      by_body : ((y : S) (mid : Toks) → length mid ≤ length ts → turns turn body n y mid ≡ turns turn body m y mid) → (b : B) (r : Result (S × Toks) LineFault) → body s b ts ≡ r → (r >>= λ p. turns turn body n p.0 p.1) ≡ (r >>= λ p. turns turn body m p.0 p.1)
      by_body ih b (Ok p) q = ih p.0 p.1 (shrinks s b ts p.0 p.1 q)
      by_body ih b (Err e) q = refl

      by_turn : ((y : S) (mid : Toks) → length mid ≤ length ts → turns turn body n y mid ≡ turns turn body m y mid) → (v : Turn B) → turned v (going n s) s t ts ≡ turned v (going m s) s t ts
      by_turn ih leave = refl
      by_turn ih (enter b) = by_body ih b (body s b ts) refl
      by_turn ih (wrong f) = refl

  module _ (Body : S → B → S → Toks → Toks → Type 0)
      (spelled : (s : S) (b : B) (ts : Toks) (m : S) (mid : Toks) → body s b ts ≡ Ok (m, mid) → Body s b m ts mid)
      (again : (s : S) (b : B) (ts : Toks) (m : S) (mid : Toks) → Body s b m ts mid → body s b ts ≡ Ok (m, mid)) where
    turns_spelled : (n : ℕ) (s : S) (ts : Toks) (e : S) (rest : Toks) → turns turn body n s ts ≡ Ok (e, rest) → Turns turn Body s e ts rest
    turns_spelled zero s ts e rest h = absurd cc
    turns_spelled (suc n) s [] e rest h = absurd cc
    turns_spelled (suc n) s (t ∷ ts) e rest h = by_turn (λ m mid k. turns_spelled n m mid e rest k) (turn s t.token (first ts)) refl h
      where
        by_turn : ((m : S) (mid : Toks) → turns turn body n m mid ≡ Ok (e, rest) → Turns turn Body m e mid rest) → (v : Turn B) → turn s t.token (first ts) ≡ v → turned v (going n s) s t ts ≡ Ok (e, rest) → Turns turn Body s e (t ∷ ts) rest
        by_turn ih leave q k =
            let o = ok_is s e (t ∷ ts) rest k in
            subst (λ (z : Toks). Turns turn Body s e (t ∷ ts) z) o.1 (subst (λ (z : S). Turns turn Body s z (t ∷ ts) (t ∷ ts)) o.0 (done s t ts q))
        by_turn ih (enter b) q k =
            let a = bind_ok (body s b ts) (λ p. turns turn body n p.0 p.1) (e, rest) k in
            more s a.0.0 e b t ts a.0.1 rest q (spelled s b ts a.0.0 a.0.1 a.1) (ih a.0.0 a.0.1 a.2)
        by_turn ih (wrong f) q k = absurd cc

    turns_again : (n : ℕ) (s : S) (ts : Toks) (e : S) (rest : Toks) → length ts < n → Turns turn Body s e ts rest → turns turn body n s ts ≡ Ok (e, rest)
    turns_again zero s ts e rest h is = absurd (omega arith)
    turns_again (suc n) _ _ _ _ h (done s t ts q) = rw q refl
    turns_again (suc n) _ _ _ _ h (more s m e b t ts mid rest q is then) =
        let a = again s b ts m mid is in
        let le = shrinks s b ts m mid a in
        rw (q, a) (turns_again n m mid e rest (omega arith) then)

    module _ (Wrong : S → B → Toks → LineFault → Type 0)
        (blamed : (s : S) (b : B) (ts : Toks) (e : LineFault) → body s b ts ≡ Err e → Wrong s b ts e)
        (stops : (s : S) (b : B) (ts : Toks) (e : LineFault) → Wrong s b ts e → body s b ts ≡ Err e) where
      turns_blamed : (n : ℕ) (s : S) (ts : Toks) (e : LineFault) → length ts < n → turns turn body n s ts ≡ Err e → FaultyTurns turn Body Wrong s ts e
      turns_blamed zero s ts e h k = absurd (omega arith)
      turns_blamed (suc n) s [] e h k = let q : line_fault Syntax 0 ≡ e = cc in subst (λ (z : LineFault). FaultyTurns turn Body Wrong s [] z) q (ended s)
      turns_blamed (suc n) s (t ∷ ts) e h k = by_turn (λ m mid le j. turns_blamed n m mid e (omega arith) j) (turn s t.token (first ts)) refl k
        where
          by_turn : ((m : S) (mid : Toks) → length mid ≤ length ts → turns turn body n m mid ≡ Err e → FaultyTurns turn Body Wrong m mid e) → (v : Turn B) → turn s t.token (first ts) ≡ v → turned v (going n s) s t ts ≡ Err e → FaultyTurns turn Body Wrong s (t ∷ ts) e
          by_turn ih leave q j = absurd cc
          by_turn ih (enter b) q j =
              elim (bind_err (body s b ts) (λ p. turns turn body n p.0 p.1) e j) [
                | inl w ↦ inside s b t ts e q (blamed s b ts e w)
                | inr a ↦ later s a.0.0 b t ts a.0.1 e q (spelled s b ts a.0.0 a.0.1 a.1) (ih a.0.0 a.0.1 (shrinks s b ts a.0.0 a.0.1 a.1) a.2)
              ]
          by_turn ih (wrong f) q j = let w : line_fault f t.line ≡ e = cc in subst (λ (z : LineFault). FaultyTurns turn Body Wrong s (t ∷ ts) z) w (at_turn s t ts f q)

      turns_stop : (n : ℕ) (s : S) (ts : Toks) (e : LineFault) → length ts < n → FaultyTurns turn Body Wrong s ts e → turns turn body n s ts ≡ Err e
      turns_stop zero s ts e h is = absurd (omega arith)
      turns_stop (suc n) _ _ _ h (ended s) = refl
      turns_stop (suc n) _ _ _ h (at_turn s t ts f q) = rw q refl
      turns_stop (suc n) _ _ _ h (inside s b t ts e q w) = rw (q, stops s b ts e w) refl
      turns_stop (suc n) _ _ _ h (later s m b t ts mid e q is w) =
          let a = again s b ts m mid is in
          let le = shrinks s b ts m mid a in
          rw (q, a) (turns_stop n m mid e (omega arith) w)

-- ---- all grammars

pub shrinks : {A : Type 0} (g : Grammar A) (ts : Toks) (x : A) (rest : Toks) → run g ts ≡ Ok (x, rest) → length rest ≤ length ts
shrinks (give y) ts x rest e = omega (arith, ap length (ok_is y x ts rest e).1)
shrinks (token v) [] x rest e = absurd cc
shrinks (token v) (t ∷ ts) x rest e = omega (arith, ap length (judged_ok (v t.token) t ts x rest e).1)
shrinks (next g f) ts x rest e =
    let a = bind_ok (run g ts) (λ p. run (f p.0) p.1) (x, rest) e in
    omega (arith, shrinks g ts a.0.0 a.0.1 a.1, shrinks (f a.0.0) a.0.1 x rest a.2)
shrinks (look f) [] x rest e = absurd cc
shrinks (look f) (t ∷ ts) x rest e = shrinks (f t.token) (t ∷ ts) x rest e
shrinks (loop turn g s) ts x rest e = turns_shrink turn (λ m b. run (g m b)) (λ m b us y mid. shrinks (g m b) us y mid) (suc (length ts)) s ts x rest e

mutual
  -- what is read is spelled
  pub spelled : {A : Type 0} (g : Grammar A) (ts : Toks) (x : A) (rest : Toks) → run g ts ≡ Ok (x, rest) → Spells g x ts rest
  spelled (give y) ts x rest e = ok_is y x ts rest e
  spelled (token v) [] x rest e = absurd cc
  spelled (token v) (t ∷ ts) x rest e = judged_ok (v t.token) t ts x rest e
  spelled (next g f) ts x rest e =
      let a = bind_ok (run g ts) (λ p. run (f p.0) p.1) (x, rest) e in
      (a.0.0, a.0.1, spelled g ts a.0.0 a.0.1 a.1, spelled (f a.0.0) a.0.1 x rest a.2)
  spelled (look f) [] x rest e = absurd cc
  spelled (look f) (t ∷ ts) x rest e = spelled (f t.token) (t ∷ ts) x rest e
  spelled (loop turn g s) ts x rest e =
      turns_spelled turn (λ m b. run (g m b)) (λ m b us y mid. shrinks (g m b) us y mid) (λ m b y us mid. Spells (g m b) y us mid) (λ m b us y mid. spelled (g m b) us y mid) (λ m b us y mid. again (g m b) us y mid) (suc (length ts)) s ts x rest e

  -- what is spelled is read
  pub again : {A : Type 0} (g : Grammar A) (ts : Toks) (x : A) (rest : Toks) → Spells g x ts rest → run g ts ≡ Ok (x, rest)
  again (give y) ts x rest is = cc (is.0, is.1)
  again (token v) [] x rest is = absurd is
  again (token v) (t ∷ ts) x rest is = rw (is.0, is.1) refl
  again (next g f) ts x rest is = rw (again g ts is.0 is.1 is.2) (again (f is.0) is.1 x rest is.3)
  again (look f) [] x rest is = absurd is
  again (look f) (t ∷ ts) x rest is = again (f t.token) (t ∷ ts) x rest is
  again (loop turn g s) ts x rest is =
      turns_again turn (λ m b. run (g m b)) (λ m b us y mid. shrinks (g m b) us y mid) (λ m b y us mid. Spells (g m b) y us mid) (λ m b us y mid. spelled (g m b) us y mid) (λ m b us y mid. again (g m b) us y mid) (suc (length ts)) s ts x rest (omega arith) is

mutual
  -- where reading stops, there is the first faulty token
  pub blamed : {A : Type 0} (g : Grammar A) (ts : Toks) (e : LineFault) → run g ts ≡ Err e → Faulty g ts e
  blamed (give y) ts e h = absurd cc
  blamed (token v) [] e h = cc
  blamed (token v) (t ∷ ts) e h = judged_err (v t.token) t ts e h
  blamed (next g f) ts e h =
      elim (bind_err (run g ts) (λ p. run (f p.0) p.1) e h) [
        | inl w ↦ inl (blamed g ts e w)
        | inr a ↦ inr (a.0.0, a.0.1, spelled g ts a.0.0 a.0.1 a.1, blamed (f a.0.0) a.0.1 e a.2)
      ]
  blamed (look f) [] e h = cc
  blamed (look f) (t ∷ ts) e h = blamed (f t.token) (t ∷ ts) e h
  blamed (loop turn g s) ts e h =
      turns_blamed turn (λ m b. run (g m b)) (λ m b us y mid. shrinks (g m b) us y mid) (λ m b y us mid. Spells (g m b) y us mid) (λ m b us y mid. spelled (g m b) us y mid) (λ m b us y mid. again (g m b) us y mid)
      (λ m b us d. Faulty (g m b) us d) (λ m b us d. blamed (g m b) us d) (λ m b us d. stops (g m b) us d) (suc (length ts)) s ts e (omega arith) h

  -- at the first faulty token reading stops
  pub stops : {A : Type 0} (g : Grammar A) (ts : Toks) (e : LineFault) → Faulty g ts e → run g ts ≡ Err e
  stops (give y) ts e is = absurd is
  stops (token v) [] e is = cc is
  stops (token v) (t ∷ ts) e is = rw (is.1, is.2) refl
  stops (next g f) ts e (inl is) = rw (stops g ts e is) refl
  stops (next g f) ts e (inr is) = rw (again g ts is.0 is.1 is.2) (stops (f is.0) is.1 e is.3)
  stops (look f) [] e is = cc is
  stops (look f) (t ∷ ts) e is = stops (f t.token) (t ∷ ts) e is
  stops (loop turn g s) ts e is =
      turns_stop turn (λ m b. run (g m b)) (λ m b us y mid. shrinks (g m b) us y mid) (λ m b y us mid. Spells (g m b) y us mid) (λ m b us y mid. spelled (g m b) us y mid) (λ m b us y mid. again (g m b) us y mid)
      (λ m b us d. Faulty (g m b) us d) (λ m b us d. blamed (g m b) us d) (λ m b us d. stops (g m b) us d) (suc (length ts)) s ts e (omega arith) is
