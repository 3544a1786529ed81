-- A text has one meaning or one first fault.
use Rattle.std.proofs.Common.{◌≡◌, sym, ◌∙◌}
use Rattle.idl_grammar.specs.declared.fault.LineFault.{LineFault}
use Rattle.idl_tokens.specs.Tokens.{Toks}
use Rattle.idl_grammar.specs.Grammar.{Grammar, Spells, Faulty}
use Rattle.exact_reading.proofs.Items.{ok_is}
use Rattle.idl_grammar.proofs.Exact.{again, stops}

pub one-meaning : {A : Type 0} (g : Grammar A) (ts rest left : Toks) (x y : A) → Spells g x ts rest → Spells g y ts left → (x ≡ y) × (rest ≡ left)
one-meaning g ts rest left x y p q = ok_is x y rest left (sym (again g ts x rest p) ∙ again g ts y left q)

pub one-fault : {A : Type 0} (g : Grammar A) (ts : Toks) (d e : LineFault) → Faulty g ts d → Faulty g ts e → d ≡ e
one-fault g ts d e p q = let a = stops g ts d p in let b = stops g ts e q in cc

pub not-both : {A : Type 0} (g : Grammar A) (ts rest : Toks) (x : A) (e : LineFault) → Spells g x ts rest → Faulty g ts e → ⊥
not-both g ts rest x e p q = let a = again g ts x rest p in let b = stops g ts e q in cc
