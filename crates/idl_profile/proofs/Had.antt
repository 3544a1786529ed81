-- Tokens that are known to spell a definition, and not how: reading finds out how.
use Rattle.std.proofs.Common.{◌≡◌, List, subst}
use Rattle.std.proofs.Math.Logic.{∥∥₁_elim, ∥∥₁_map}
use mathlib.Core.HLevel.{⊥_prop}
use Rattle.idl_tokens.specs.Tokens.{Toks}
use Rattle.idl_grammar.specs.Run.{run}
use Rattle.idl_profile.specs.Meaning as m
use Rattle.idl_profile.specs.Text.{whole}
use Rattle.idl_profile.specs.DefText.{DefTokens, Answer, means, fault, no_root, Causes, answer}
use Rattle.idl_profile.proofs.DefLaws.{one_answer, read_answer}
use Rattle.idl_profile.proofs.Sets.{named-set}

by_answer : (ts : Toks) (d : List m.MeantNamed) (a : Answer) → Causes ts a → ∥ a ≡ means d ∥₁ → DefTokens ts d
by_answer ts d (means c) p e = subst (λ (x : List m.MeantNamed). DefTokens ts x) (∥∥₁_elim e (named-set c d) (λ s. cc)) p
by_answer ts d (fault f) p e = absurd (∥∥₁_elim e ⊥_prop (λ s. cc))
by_answer ts d no_root p e = absurd (∥∥₁_elim e ⊥_prop (λ s. cc))

pub tokens-had : (ts : Toks) (d : List m.MeantNamed) → ∥ DefTokens ts d ∥₁ → DefTokens ts d
tokens-had ts d h =
    let a = answer (run whole ts) in
    by_answer ts d a (read_answer ts) (∥∥₁_map h (one_answer ts a (means d) (read_answer ts)))
