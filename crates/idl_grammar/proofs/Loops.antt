-- The steps of a loop: how many tokens there are plays no part.
use Rattle.std.proofs.Common.{◌≡◌, suc, ◌∷◌, length, Some, None, Result, Ok, Err, refl, sym, ap, ◌∙◌, arith}
use Rattle.idl_grammar.specs.declared.fault.Fault.{Fault}
use Rattle.idl_grammar.specs.declared.fault.LineFault.{LineFault}
use Rattle.idl_tokens.specs.Tokens.{Tok, Spot, Toks}
use Rattle.idl_grammar.specs.Grammar.{Turn, leave, enter, wrong, Grammar, loop, line_fault, first}
use Rattle.exact_reading.specs.Reading.{◌>>=◌, Fails}
use Rattle.idl_grammar.specs.Run.{turns, run, outcome}
use Rattle.idl_grammar.proofs.Exact.{shrinks, same_turns}
use Rattle.exact_reading.specs.declared.stop.ReadError.{ReadError}
use Rattle.exact_reading.specs.declared.stop.ReadError.TheVariants as errors

module _ {S B : Type 0} (turn : S → Tok → Tok → Turn B) (g : S → B → Grammar S) where
  pub loop-leave : (s : S) (t : Spot) (ts : Toks) → turn s t.token (first ts) ≡ leave → run (loop turn g s) (t ∷ ts) ≡ Ok (s, t ∷ ts)
  loop-leave s t ts e = rw e refl

  pub loop-wrong : (s : S) (t : Spot) (ts : Toks) (f : Fault) → turn s t.token (first ts) ≡ wrong f → run (loop turn g s) (t ∷ ts) ≡ Err (line_fault f t.line)
  loop-wrong s t ts f e = rw e refl

  after : (s : S) (b : B) (ts : Toks) (r : Result (S × Toks) LineFault) → run (g s b) ts ≡ r → (r >>= λ p. turns turn (λ m c. run (g m c)) (suc (length ts)) p.0 p.1) ≡ (r >>= λ p. run (loop turn g p.0) p.1)
  after s b ts (Ok p) e =
      let le = shrinks (g s b) ts p.0 p.1 e in
      same_turns turn (λ m c. run (g m c)) (λ m c us y mid. shrinks (g m c) us y mid) (suc (length ts)) (suc (length p.1)) p.0 p.1 (omega arith) (omega arith)
  after s b ts (Err d) e = refl

  pub loop-enter : (s : S) (b : B) (t : Spot) (ts : Toks) → turn s t.token (first ts) ≡ enter b → run (loop turn g s) (t ∷ ts) ≡ (run (g s b) ts >>= λ p. run (loop turn g p.0) p.1)
  loop-enter s b t ts e = rw e (after s b ts (run (g s b) ts) refl)

  -- ---- as the code takes its steps

  is_leave : (v : Turn B) (t : Spot) → outcome v t ≡ Ok None → v ≡ leave
  is_leave leave t e = refl
  is_leave (enter b) t e = absurd (let o : Some b ≡ None = cc in cc)
  is_leave (wrong f) t e = absurd cc

  is_enter : (v : Turn B) (t : Spot) (b : B) → outcome v t ≡ Ok (Some b) → v ≡ enter b
  is_enter leave t b e = absurd (let o : None ≡ Some b = cc in cc)
  is_enter (enter c) t b e = let o : Some c ≡ Some b = cc in let q : c ≡ b = cc in ap enter q
  is_enter (wrong f) t b e = absurd cc

  pub loop_done : (s : S) (t : Spot) (ts : Toks) → outcome (turn s t.token (first ts)) t ≡ Ok None → run (loop turn g s) (t ∷ ts) ≡ Ok (s, t ∷ ts)
  loop_done s t ts e = loop-leave s t ts (is_leave (turn s t.token (first ts)) t e)

  abbrev failed : S → LineFault → Result (S × Toks) LineFault
  failed s d = Err d

  pub loop_wrong : (d : ReadError LineFault) (s : S) (t : Spot) (ts : Toks) → Fails d (outcome (turn s t.token (first ts)) t) → Fails d (run (loop turn g s) (t ∷ ts))
  loop_wrong errors.NoMemory s t ts h = tt
  loop_wrong (errors.Stop d) s t ts h = by_turn (turn s t.token (first ts)) refl h
    where
      by_turn : (v : Turn B) → turn s t.token (first ts) ≡ v → outcome v t ≡ Err d → run (loop turn g s) (t ∷ ts) ≡ Err d
      by_turn leave q k = absurd cc
      by_turn (enter b) q k = absurd cc
      by_turn (wrong f) q k = let o : line_fault f t.line ≡ d = cc in loop-wrong s t ts f q ∙ ap (λ (z : LineFault). failed s z) o

  pub loop_breaks : (d : ReadError LineFault) (s : S) (b : B) (t : Spot) (ts : Toks) → outcome (turn s t.token (first ts)) t ≡ Ok (Some b) → Fails d (run (g s b) ts) → Fails d (run (loop turn g s) (t ∷ ts))
  loop_breaks errors.NoMemory s b t ts e h = tt
  loop_breaks (errors.Stop d) s b t ts e h = loop-enter s b t ts (is_enter (turn s t.token (first ts)) t b e) ∙ ap (λ (r : Result (S × Toks) LineFault). r >>= λ p. run (loop turn g p.0) p.1) h

  pub loop_more : (s m : S) (b : B) (t : Spot) (ts mid : Toks) → outcome (turn s t.token (first ts)) t ≡ Ok (Some b) → run (g s b) ts ≡ Ok (m, mid) → run (loop turn g m) mid ≡ run (loop turn g s) (t ∷ ts)
  loop_more s m b t ts mid e h = sym (loop-enter s b t ts (is_enter (turn s t.token (first ts)) t b e) ∙ ap (λ (r : Result (S × Toks) LineFault). r >>= λ p. run (loop turn g p.0) p.1) h)
