-- Loops as the code runs them over its own tokens: rest is what is left, and target is what the whole loop gives.
use Rattle.std.proofs.Common.{◌≡◌, ℕ, ◌<◌, List, ◌∷◌, length, Some, None, Result, Ok, sym, ap, subst, ◌∙◌, arith}
use Rattle.std.proofs.lemmas.List.{length-map}
use Rattle.idl_grammar.specs.declared.fault.LineFault.{LineFault}
use Rattle.exact_reading.specs.declared.stop.ReadError.{ReadError}
use Rattle.idl_tokens.specs.declared.token.Placed.{Placed}
use Rattle.idl_tokens.specs.Tokens.{Tok, Toks}
use Rattle.idl_tokens.specs.Spans.{tok_of, spot_of, toks}
use Rattle.idl_grammar.specs.Grammar.{Turn, Grammar, loop, first}
use Rattle.exact_reading.specs.Reading.{Fails}
use Rattle.idl_grammar.specs.Run.{run, outcome}
use Rattle.idl_grammar.proofs.Exact.{shrinks}
use Rattle.idl_grammar.proofs.Loops.{loop_done, loop_wrong, loop_breaks, loop_more}

module _ {S B : Type 0} (turn : S → Tok → Tok → Turn B) (g : S → B → Grammar S) (text : List ℕ) (rest : List Placed) (p : Placed) (after : List Placed) (is : rest ≡ p ∷ after)
    (s : S) (target : Result (S × Toks) LineFault) (inv : run (loop turn g s) (toks text rest) ≡ target) where
  here : target ≡ run (loop turn g s) (spot_of text p ∷ toks text after)
  here = sym inv ∙ ap (λ (z : List Placed). run (loop turn g s) (toks text z)) is

  pub at_done : outcome (turn s (tok_of text p.token) (first (toks text after))) (spot_of text p) ≡ Ok None → target ≡ Ok (s, toks text rest)
  at_done e = here ∙ loop_done turn g s (spot_of text p) (toks text after) e ∙ ap (λ (z : List Placed). pair z) (sym is)
    where
      pair : List Placed → Result (S × Toks) LineFault
      pair z = Ok (s, toks text z)

  pub at_wrong : (d : ReadError LineFault) → Fails d (outcome (turn s (tok_of text p.token) (first (toks text after))) (spot_of text p)) → Fails d target
  at_wrong d h = subst (Fails d) (sym here) (loop_wrong turn g d s (spot_of text p) (toks text after) h)

  module _ (b : B) (e : outcome (turn s (tok_of text p.token) (first (toks text after))) (spot_of text p) ≡ Ok (Some b)) where
    pub at_breaks : (d : ReadError LineFault) → Fails d (run (g s b) (toks text after)) → Fails d target
    at_breaks d h = subst (Fails d) (sym here) (loop_breaks turn g d s b (spot_of text p) (toks text after) e h)

    pub at_more : (m : S) (mid : List Placed) → run (g s b) (toks text after) ≡ Ok (m, toks text mid) → run (loop turn g m) (toks text mid) ≡ target
    at_more m mid h = loop_more turn g s m b (spot_of text p) (toks text after) (toks text mid) e h ∙ sym here

pub toks_fall : {A : Type 0} (g : Grammar A) (text : List ℕ) (rest : List Placed) (p : Placed) (after mid : List Placed) (x : A) → rest ≡ p ∷ after → run g (toks text after) ≡ Ok (x, toks text mid) → length mid < length rest
toks_fall g text rest p after mid x is e =
    omega (arith, ap length is, shrinks g (toks text after) x (toks text mid) e, length-map after (spot_of text), length-map mid (spot_of text))
