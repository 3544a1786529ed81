-- The characters at the front of a text that pass a test.
use Rattle.std.proofs.Common.{◌≡◌, ℕ, suc, ◌+◌, Bool, true, false, List, [], ◌∷◌, ◌++◌, length, take, drop, refl, ◌∙◌, arith}
use Rattle.std.specs.List.{prefix_len, list_all}
use Rattle.std.proofs.Math.Seq.{take-append_seam, drop-append_seam}
use Rattle.std.proofs.lemmas.Bool.{cond_both, cond-true, and_parts}

module _ (p : ℕ → Bool) where
  -- no character that passes stands in front
  abbrev pub Stops : List ℕ → Type 0
  Stops [] = Unit {0}
  Stops (c ∷ cs) = p c ≡ false

  pub run-len : (front rest : List ℕ) → list_all p front ≡ true → Stops rest → prefix_len p (front ++ rest) ≡ length front
  run-len [] [] h s = refl
  run-len [] (c ∷ rest) h s = rw s refl
  run-len (c ∷ front) rest h s =
      let e = and_parts (p c) (list_all p front) h in
      let k = run-len front rest e.1 s in
      cond-true (p c) (1 + prefix_len p (front ++ rest)) 0 e.0 ∙ (omega arith)

  pub run-front : (text : List ℕ) → list_all p (take (prefix_len p text) text) ≡ true
  run-front [] = refl
  run-front (c ∷ text) =
      cond_both (p c) (1 + prefix_len p text) 0 (λ (n : ℕ). list_all p (take n (c ∷ text)) ≡ true)
      (λ e. let k : 1 + prefix_len p text ≡ suc (prefix_len p text) = omega arith in rw (k, e) (run-front text)) (λ e. refl)

  pub run-stops : (text : List ℕ) → Stops (drop (prefix_len p text) text)
  run-stops [] = tt
  run-stops (c ∷ text) =
      cond_both (p c) (1 + prefix_len p text) 0 (λ (n : ℕ). Stops (drop n (c ∷ text)))
      (λ e. let k : 1 + prefix_len p text ≡ suc (prefix_len p text) = omega arith in rw k (run-stops text)) (λ e. e)

  pub run-take : (front rest : List ℕ) → list_all p front ≡ true → Stops rest → take (prefix_len p (front ++ rest)) (front ++ rest) ≡ front
  run-take front rest h s = rw (run-len front rest h s) (take-append_seam front rest)

  pub run-drop : (front rest : List ℕ) → list_all p front ≡ true → Stops rest → drop (prefix_len p (front ++ rest)) (front ++ rest) ≡ rest
  run-drop front rest h s = rw (run-len front rest h s) (drop-append_seam front rest)
