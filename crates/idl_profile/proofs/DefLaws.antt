-- A text has one answer.
use Rattle.std.proofs.Common.{◌≡◌, Bool, true, false, Result, Ok, Err, refl, sym, ap, ◌∙◌}
use Rattle.idl_grammar.specs.declared.fault.LineFault.{LineFault}
use Rattle.idl_tokens.specs.Tokens.{Toks}
use Rattle.idl_grammar.specs.Grammar.{Spells, Faulty}
use Rattle.idl_grammar.specs.Run.{run}
use Rattle.idl_profile.specs.Meaning as m
use Rattle.idl_profile.specs.Text.{whole}
use Rattle.idl_profile.specs.DefText.{has_struct, Answer, means, fault, no_root, Causes, rooted, answer}
use Rattle.exact_reading.proofs.Items.{ok_is}
use Rattle.idl_grammar.proofs.Exact.{spelled, again, blamed, stops}

same_scope : (ts : Toks) (x y : m.Scope) (r s : Toks) → Spells whole x ts r → Spells whole y ts s → x ≡ y
same_scope ts x y r s p q = (ok_is x y r s (sym (again whole ts x r p) ∙ again whole ts y s q)).0

not_both : (ts : Toks) (x : m.Scope) (r : Toks) (e : LineFault) → Spells whole x ts r → Faulty whole ts e → ⊥
not_both ts x r e p q = let a = again whole ts x r p in let b = stops whole ts e q in cc

differ : (x y : m.Scope) → x ≡ y → has_struct x.named ≡ true → has_struct y.named ≡ false → ⊥
differ x y e p q = let h = ap (λ (z : m.Scope). has_struct z.named) e in cc

pub one_answer : (ts : Toks) (a b : Answer) → Causes ts a → Causes ts b → a ≡ b
one_answer ts (means d) (means c) p q = ap means (p.means ∙ ap (λ (z : m.Scope). z.named) (same_scope ts p.scope q.scope p.rest q.rest p.spells q.spells) ∙ sym q.means)
one_answer ts (means d) (fault e) p q = absurd (not_both ts p.scope p.rest e p.spells q)
one_answer ts (means d) no_root p q = absurd (differ p.scope q.scope (same_scope ts p.scope q.scope p.rest q.rest p.spells q.spells) (ap has_struct (sym p.means) ∙ p.root) q.root)
one_answer ts (fault e) (means d) p q = absurd (not_both ts q.scope q.rest e q.spells p)
one_answer ts (fault e) (fault f) p q = let a = stops whole ts e p in let b = stops whole ts f q in let h : e ≡ f = cc in ap fault h
one_answer ts (fault e) no_root p q = absurd (not_both ts q.scope q.rest e q.spells p)
one_answer ts no_root (means d) p q = absurd (differ q.scope p.scope (same_scope ts q.scope p.scope q.rest p.rest q.spells p.spells) (ap has_struct (sym q.means) ∙ q.root) p.root)
one_answer ts no_root (fault e) p q = absurd (not_both ts p.scope p.rest e p.spells q)
one_answer ts no_root no_root p q = refl

caused : (ts : Toks) (scope : m.Scope) (rest : Toks) (b : Bool) → Spells whole scope ts rest → has_struct scope.named ≡ b → Causes ts (rooted scope.named b)
caused ts scope rest true p e = record { scope = scope; rest = rest; spells = p; means = refl; root = e }
caused ts scope rest false p e = record { scope = scope; rest = rest; spells = p; root = e }

by_read : (ts : Toks) (r : Result (m.Scope × Toks) LineFault) → run whole ts ≡ r → Causes ts (answer r)
by_read ts (Ok p) e = caused ts p.0 p.1 (has_struct p.0.named) (spelled whole ts p.0 p.1 e) refl
by_read ts (Err d) e = blamed whole ts d e

-- Reading gives the answer that has a cause.
pub read_answer : (ts : Toks) → Causes ts (answer (run whole ts))
read_answer ts = by_read ts (run whole ts) refl
