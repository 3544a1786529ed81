-- A default is judged by what its type is outermost.
use Rattle.std.proofs.Common.{◌≡◌, Bool, true, false, List, [], ◌∷◌, ◌≤◌, length, refl, ap, arith}
use Rattle.std.specs.Prelude.{Some, None}
use Rattle.idl_tokens.specs.Tokens.{Tok, Spot, Toks, word, number, literal, mark, finish, bad}
use Rattle.idl_grammar.specs.Grammar.{give, token, next}
use Rattle.idl_grammar.specs.Run.{run}
use Rattle.idl_profile.specs.Meaning as m
use Rattle.idl_profile.specs.Types as types
use Rattle.idl_profile.specs.Judged.{taken, is_mark, a_default}
use Rattle.idl_profile.specs.Text.{default, pick, start}
use Rattle.std.specs.List.{fold}
use Rattle.idl_fields.specs.declared.draft.Container.{Container}
use Rattle.idl_fields.specs.View.{outer, contained}

judged-outer : (named : List m.MeantNamed) (t : m.Ty) (k : Tok) → a_default named (outer t) k ≡ a_default named t k
judged-outer named (m.scalar b) k = refl
judged-outer named (m.enum n) k = refl
judged-outer named (m.struct n) k = refl
judged-outer named (m.list x) (number (Some z)) = refl
judged-outer named (m.list x) (number None) = refl
judged-outer named (m.list x) (word w) = refl
judged-outer named (m.list x) (literal w) = refl
judged-outer named (m.list x) (mark c) = refl
judged-outer named (m.list x) finish = refl
judged-outer named (m.list x) bad = refl
judged-outer named (m.set x) (number (Some z)) = refl
judged-outer named (m.set x) (number None) = refl
judged-outer named (m.set x) (word w) = refl
judged-outer named (m.set x) (literal w) = refl
judged-outer named (m.set x) (mark c) = refl
judged-outer named (m.set x) finish = refl
judged-outer named (m.set x) bad = refl
judged-outer named (m.map x y) (number (Some z)) = refl
judged-outer named (m.map x y) (number None) = refl
judged-outer named (m.map x y) (word w) = refl
judged-outer named (m.map x y) (literal w) = refl
judged-outer named (m.map x y) (mark c) = refl
judged-outer named (m.map x y) finish = refl
judged-outer named (m.map x y) bad = refl

module _ (named : List m.MeantNamed) (t : m.Ty) where
  started : (ts : Toks) → run (next (token (a_default named (outer t))) start) ts ≡ run (next (token (a_default named t)) start) ts
  started [] = refl
  started (x ∷ ts) = rw (judged-outer named t x.token) refl

  picked : (b : Bool) (x : Spot) (ts : Toks) → run (pick b (next (token taken) (λ _. next (token (a_default named (outer t))) start)) (give types.without)) (x ∷ ts)
      ≡ run (pick b (next (token taken) (λ _. next (token (a_default named t)) start)) (give types.without)) (x ∷ ts)
  picked true x ts = started ts
  picked false x ts = refl

  pub default-outer : (ts : Toks) → run (default named (outer t)) ts ≡ run (default named t) ts
  default-outer [] = refl
  default-outer (x ∷ ts) = picked (is_mark 61 x.token) x ts

-- a type with no container around it
pub outer-alone : (es : List m.Entry) (t : m.Ty) (xs ys : List Container) → xs ≡ ys → length xs ≤ 0 → outer t ≡ outer (fold (contained es) t ys)
outer-alone es t [] ys e h = ap (λ (zs : List Container). outer (fold (contained es) t zs)) e
outer-alone es t (x ∷ xs) ys e h = absurd (omega arith)
